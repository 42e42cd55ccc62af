-- What the last of some writes to a sector gave.
use Rattle.std.proofs.Common.{◌≡◌, ℕ, Bool, true, false, cond, List, [], ◌∷◌, ◌++◌, ◌==◌, Option, Some, None, Bor, sym, refl, ap, ◌∙◌}
use mathlib.Core.List.{reverse}
use Rattle.std.specs.List.{find}
use Rattle.std.specs.Option.{option_copied}
use Rattle.std.proofs.lemmas.Grind.{reverse_onto}
use Rattle.journal.specs.declared.state.Write.{Write}
use Rattle.cut_trial.specs.Models.{after_writes}

abbrev pub is_to : ℕ → Write → Bool
is_to at w = w.target.0 == at

abbrev pub held : List ℕ → Option Write → List ℕ
held b None = b
held b (Some w) = w.bytes

held_behind : (test : Write → Bool) (xs : List Write) (w : Write) (b : List ℕ) → held b (find test (xs ++ w ∷ [])) ≡ held (cond (test w) w.bytes b) (find test xs)
held_behind test [] w b = go (test w)
  where
    go : (c : Bool) → held b (cond c (Some w) None) ≡ cond c w.bytes b
    go true = refl
    go false = refl
held_behind test (x ∷ xs) w b = go (test x) (held_behind test xs w b)
  where
    go : (c : Bool) → held b (find test (xs ++ w ∷ [])) ≡ held (cond (test w) w.bytes b) (find test xs) →
        held b (cond c (Some x) (find test (xs ++ w ∷ []))) ≡ held (cond (test w) w.bytes b) (cond c (Some x) (find test xs))
    go true e = refl
    go false e = e

last_write : (ws : List Write) (at : ℕ) (b : List ℕ) → held b (find (is_to at) (reverse ws)) ≡ after_writes ws at b
last_write [] at b = refl
last_write (w ∷ ws) at b =
    ap (λ (xs : List Write). held b (find (is_to at) xs)) (reverse_onto ws w []) ∙ held_behind (is_to at) (reverse ws) w b ∙ last_write ws at (cond (is_to at w) w.bytes b)

pub latest_is : (ws : List Write) (at : ℕ) (b : List ℕ) (o p : Option (Bor Write)) → o ≡ p → option_copied o ≡ find (is_to at) (reverse ws) → held b (option_copied p) ≡ after_writes ws at b
latest_is ws at b o p e f = ap (λ (x : Option (Bor Write)). held b (option_copied x)) (sym e) ∙ ap (held b) f ∙ last_write ws at b
