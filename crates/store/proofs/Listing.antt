-- What is listed to be written, one after the other.
use Rattle.std.proofs.Common.{◌≡◌, ℕ, suc, ◌+◌, ◌<◌, ◌≤◌, List, [], ◌∷◌, ◌++◌, length, drop, get_or, refl, sym, ap, ◌∙◌, append_assoc, append-nil, arith}
use Rattle.std.proofs.lemmas.List.{drop_more, drop_all}
use Rattle.journal.specs.declared.state.Write.{Write}
use Rattle.pieces.specs.Kept.{Kept}
use Rattle.store.specs.Writes.{write_of, with_sector_of, with_sectors_of, table_from}

pub sectors_more : (g : ℕ) (k : Kept) (es : List ℕ) (i d : ℕ) (ws us all : List Write) → i < length es → us ≡ with_sector_of g k (get_or es i d) ws → with_sectors_of g k (drop i es) ws ≡ all → with_sectors_of g k (drop (i + 1) es) us ≡ all
unfolding with_sectors_of
sectors_more g k es i d ws us all l e was = ap (λ (x : List Write). with_sectors_of g k (drop (i + 1) es) x) e ∙ sym (ap (λ (x : List ℕ). with_sectors_of g k x ws) (drop_more es i d l)) ∙ was

pub sectors_end : (g : ℕ) (k : Kept) (es : List ℕ) (i : ℕ) (ws all : List Write) → length es ≤ i → with_sectors_of g k (drop i es) ws ≡ all → ws ≡ all
unfolding with_sectors_of
sectors_end g k es i ws all past was = sym (ap (λ (x : List ℕ). with_sectors_of g k x ws) (drop_all i es past)) ∙ was

pub table_more : (p : ℕ) (bss : List (List ℕ)) (i : ℕ) (d : List ℕ) (ws us all : List Write) → i < length bss → us ≡ ws ++ write_of (p + i) (get_or bss i d) ∷ [] → ws ++ table_from (p + i) (drop i bss) ≡ all → us ++ table_from (p + (i + 1)) (drop (i + 1) bss) ≡ all
unfolding table_from
table_more p bss i d ws us all l e was =
    let n : p + (i + 1) ≡ suc (p + i) = omega arith in
    ap (λ (x : List Write). x ++ table_from (p + (i + 1)) (drop (i + 1) bss)) e
    ∙ append_assoc ws (write_of (p + i) (get_or bss i d) ∷ []) (table_from (p + (i + 1)) (drop (i + 1) bss))
    ∙ ap (λ (x : ℕ). ws ++ write_of (p + i) (get_or bss i d) ∷ table_from x (drop (i + 1) bss)) n
    ∙ sym (ap (λ (x : List (List ℕ)). ws ++ table_from (p + i) x) (drop_more bss i d l))
    ∙ was

pub table_end : (p : ℕ) (bss : List (List ℕ)) (i : ℕ) (ws all : List Write) → length bss ≤ i → ws ++ table_from (p + i) (drop i bss) ≡ all → ws ≡ all
unfolding table_from
table_end p bss i ws all past was = sym (append-nil ws) ∙ sym (ap (λ (x : List (List ℕ)). ws ++ table_from (p + i) x) (drop_all i bss past)) ∙ was
