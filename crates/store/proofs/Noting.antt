-- What is read is noted place by place.
use Rattle.std.proofs.Common.{◌≡◌, ◌⊎◌, inl, inr, ℕ, ◌+◌, ◌<◌, ◌≤◌, min, List, [], ◌∷◌, ◌++◌, length, drop, get_or, refl, sym, ap, ◌∙◌, append_assoc, append-nil, arith}
use Rattle.std.proofs.lemmas.List.{drop_more, drop_all}
use Rattle.pieces.specs.declared.filled.Written.{Written}
use Rattle.store.specs.Known.{written_at, noted}

none_left : (ps : List ℕ) → noted ps [] ≡ []
unfolding noted
none_left [] = refl
none_left (p ∷ ps) = refl

noted_none : (bss : List (List ℕ)) → noted [] bss ≡ []
unfolding noted
noted_none bss = refl

first : (p : ℕ) (ps : List ℕ) (bs : List ℕ) (bss : List (List ℕ)) → noted (p ∷ ps) (bs ∷ bss) ≡ written_at p bs ∷ noted ps bss
unfolding noted
first p ps bs bss = refl

step : (ps : List ℕ) (bss : List (List ℕ)) (i d : ℕ) (e : List ℕ) → i < length ps → i < length bss → noted (drop i ps) (drop i bss) ≡ written_at (get_or ps i d) (get_or bss i e) ∷ noted (drop (i + 1) ps) (drop (i + 1) bss)
step ps bss i d e l m =
    ap (λ (x : List ℕ). noted x (drop i bss)) (drop_more ps i d l) ∙ ap (λ (x : List (List ℕ)). noted (get_or ps i d ∷ drop (i + 1) ps) x) (drop_more bss i e m)
    ∙ first (get_or ps i d) (drop (i + 1) ps) (get_or bss i e) (drop (i + 1) bss)

pub noted_more : (ps : List ℕ) (bss : List (List ℕ)) (i d : ℕ) (e : List ℕ) (ws us all : List Written) → i < length ps → i < length bss → us ≡ ws ++ written_at (get_or ps i d) (get_or bss i e) ∷ [] → ws ++ noted (drop i ps) (drop i bss) ≡ all →
    us ++ noted (drop (i + 1) ps) (drop (i + 1) bss) ≡ all
noted_more ps bss i d e ws us all l m u was =
    ap (λ (x : List Written). x ++ noted (drop (i + 1) ps) (drop (i + 1) bss)) u
    ∙ append_assoc ws (written_at (get_or ps i d) (get_or bss i e) ∷ []) (noted (drop (i + 1) ps) (drop (i + 1) bss))
    ∙ ap (λ (x : List Written). ws ++ x) (sym (step ps bss i d e l m))
    ∙ was

pub noted_end : (ps : List ℕ) (bss : List (List ℕ)) (i : ℕ) (ws all : List Written) → min (length ps) (length bss) ≤ i → ws ++ noted (drop i ps) (drop i bss) ≡ all → ws ≡ all
noted_end ps bss i ws all past was = sym (append-nil ws) ∙ ap (λ (x : List Written). ws ++ x) (sym over) ∙ was
  where
    over : noted (drop i ps) (drop i bss) ≡ []
    over = elim (let z : (length ps ≤ i) ⊎ (length bss ≤ i) = grind (arith) in z) [
      | inl l ↦ ap (λ (x : List ℕ). noted x (drop i bss)) (drop_all i ps l) ∙ noted_none (drop i bss)
      | inr l ↦ ap (λ (x : List (List ℕ)). noted (drop i ps) x) (drop_all i bss l) ∙ none_left (drop i ps)
    ]
