-- Parts that are put one behind the other.
use Rattle.std.proofs.Common.{◌≡◌, ℕ, T, List, ◌++◌, Result, Ok, Err, ap, ◌∙◌, append_assoc}
use Rattle.std.proofs.Math.Bool.{and-false}
use Rattle.octets.proofs.Numbers.{join}
use Rattle.packets.specs.declared.fault.Unsent.{Unsent}
use Rattle.packets.specs.declared.fault.Unsent.TheVariants as unsent
use Rattle.packets.specs.Codecs.{Codec, ◌then◌, Unfit, Puts}

module _ {A B : Type 0} (c : Codec A) (d : Codec B) (x : A) (y : B) where
  unfit_then : (e : Unsent) → Unfit d y e → Unfit (c then d) (x, y) e
  unfit_then unsent.Memory h = tt
  unfit_then unsent.TooMuch h = rw h (and-false (c.fits x))

  pub puts_then : {U : Type 0} (old mid new : List ℕ) (r : Result U Unsent) → (mid ≡ old ++ c.bytes x) × T (c.fits x) → Puts d y mid new r → Puts (c then d) (x, y) old new r
  puts_then old mid new (Ok u) h k = (k.0 ∙ ap (λ (xs : List ℕ). xs ++ d.bytes y) h.0 ∙ append_assoc old (c.bytes x) (d.bytes y), join _ _ h.1 k.1)
  puts_then old mid new (Err e) h k = unfit_then e k
