-- What bytes decode to: a call of the kind that they begin with, where as many follow, or a refusal by 1 or 12.
use Rattle.std.proofs.Common.{◌≡◌, ℕ, Bool, true, false, cond, T, List, length, drop, Some, None, Option, eqb, sym, refl, subst, eqb→eq, suc, [], ◌∷◌, slice_index_or, ltb, lt→ltb, Fits, w8, arith}
use Rattle.agreement.proofs.Base.{by_test}
use Rattle.disks.specs.Device.{all_bytes}
use Rattle.octets.proofs.Numbers.{join}
use Rattle.wire.specs.declared.kind.Kind.{Kind}
use Rattle.wire.specs.Kinds.{kind_in, is_built}
use Rattle.wire.specs.Calls.{Decoded, is_call, is_refused, or_malformed, decoded_as, decoded, length_for, call_of}
use Rattle.served.specs.Served.{decoded_call}

-- of bytes it is what `wire` decodes
pub bytes_decoded : (o : List ℕ) → T (all_bytes o) → decoded_call o ≡ decoded is_built o
unfolding decoded_call
bytes_decoded o = go (all_bytes o)
  where
    go : (b : Bool) → T b → cond b (decoded is_built o) (is_refused 1) ≡ decoded is_built o
    go true t = refl
    go false t = absurd t

-- what the code has of its bytes
pub bytes_fit : (o : List ℕ) → ((i : ℕ) → Fits w8 (slice_index_or o i 0)) → T (all_bytes o)
unfolding all_bytes
bytes_fit [] h = tt
bytes_fit (b ∷ bs) h = join (ltb b 256) (all_bytes bs) (lt→ltb b 256 (omega (arith, h 0))) (bytes_fit bs (λ i. h (suc i)))

pub on_decoded : (P : Decoded → Type 0) (o : List ℕ) → P (is_refused 1) → P (is_refused 12) → ((k : Kind) → T (all_bytes o) → length (drop 1 o) ≡ length_for k → P (is_call (call_of k (drop 1 o)))) → P (decoded_call o)
unfolding decoded_call
on_decoded P o malformed lacks call = bytes (all_bytes o) refl
  where
    parse : (k : Kind) → T (all_bytes o) → (b : Bool) → (T b → length (drop 1 o) ≡ length_for k) → P (or_malformed (cond b (Some (call_of k (drop 1 o))) None))
    parse k t true l = call k t (l tt)
    parse k t false l = malformed

    go : T (all_bytes o) → (k : Option Kind) → P (decoded_as is_built k (drop 1 o))
    go t None = malformed
    go t (Some k) = by_test P (is_built k) (λ _. parse k t (eqb (length (drop 1 o)) (length_for k)) (eqb→eq (length (drop 1 o)) (length_for k))) (λ _. lacks)

    bytes : (b : Bool) → all_bytes o ≡ b → P (cond b (decoded is_built o) (is_refused 1))
    bytes true e = go (subst T (sym e) tt) (kind_in o)
    bytes false e = malformed
