-- The writes of a transaction: that no sector is written twice, as a test of each write against those behind it.
use Rattle.std.proofs.Common.{◌≡◌, ℕ, ◌+◌, Bool, not, ◌&&◌, List, [], ◌∷◌, drop, sym, refl, ap, ◌∙◌}
use Rattle.std.proofs.lemmas.List.{drop-drop}
use Rattle.std.specs.List.{list_all, enumerate_from}
use Rattle.journal.specs.declared.state.Write.{Write}
use Rattle.journal.specs.Programs.{named, apart}

-- the write at an index is to another sector than those behind it
abbrev pub is_last : List Write → ℕ × Write → Bool
is_last ws p = not (named p.1.target.0 (drop (p.0 + 1) ws))

pub all_last : (ws vs : List Write) (i : ℕ) → drop i ws ≡ vs → list_all (is_last ws) (enumerate_from i vs) ≡ apart vs
unfolding apart
all_last ws [] i e = refl
all_last ws (v ∷ vs) i e =
    let behind : drop (i + 1) ws ≡ vs = sym (drop-drop 1 i ws) ∙ ap (drop 1) e in
    rw behind (ap (λ b. not (named v.target.0 vs) && b) (all_last ws vs (i + 1) behind))
