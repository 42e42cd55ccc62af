-- Sectors of the journal as they are read: the numbers in them, and the half that each carries.
use Rattle.std.proofs.Common.{◌≡◌, ℕ, Bool, true, false, cond, ◌≢◌, List, ◌++◌, length, drop, slice_index_or, refl, sym, ap, ◌∙◌, append-nil, arith, Some, None, Ok, Err}
use borrow.Rule.Slice.PartMut.{mid_of, put_mid, post_of}
use Rattle.std.proofs.lemmas.List.{drop-drop, drop_all}
use Rattle.std.proofs.lemmas.Bool.{eq-eqb, ne_eqb}
use Rattle.octets.specs.Numbers.{field, fields}
use Rattle.octets.proofs.Fields.{fields_take}
use Rattle.journal.specs.declared.part.Part.{Part}
use Rattle.journal.specs.Format.{mark, part_of, is_sound, foreign, found}
use Rattle.journal.proofs.Laid.{laid}

-- the four numbers behind the mark
pub four_read : (b ns : List ℕ) → ns ≡ fields 4 (mid_of 8 32 b) → ◌≡◌ {A = Part} (record { number = slice_index_or ns 0 0; index = slice_index_or ns 1 0; length = slice_index_or ns 2 0; target = record { 0 = slice_index_or ns 3 0 } }) (part_of b)
four_read b ns e = let read : ns ≡ fields 4 (drop 8 b) = e ∙ fields_take 4 0 (drop 8 b) in rw read refl

-- one half behind the other fills a sector
pub two_laid : (a b out xs ys : List ℕ) → length a ≡ 256 → length out ≡ 512 → xs ≡ a → ys ≡ b → put_mid 256 256 (xs ++ post_of 0 256 out) ys ≡ a ++ b
two_laid a b out xs ys la lout ex ey =
    laid 256 256 a (drop 256 out) _ ys b (ap (λ (x : List ℕ). x ++ drop 256 out) ex) la ey
    ∙ ap (λ (z : List ℕ). (a ++ b) ++ z) (drop-drop 256 256 out ∙ drop_all 512 out (omega arith)) ∙ append-nil (a ++ b)

-- what a sector is found to be
pub found_blank : (size i m : ℕ) (b : List ℕ) → m ≡ field 0 b → m ≡ 0 → Ok None ≡ found size i b
unfolding found
found_blank size i m b read e = rw (eq-eqb (field 0 b) 0 (sym read ∙ e))

pub found_unmarked : (size i m : ℕ) (b : List ℕ) → m ≡ field 0 b → m ≢ 0 → m ≢ mark → Err foreign ≡ found size i b
unfolding found
found_unmarked size i m b read some other = rw (ne_eqb (field 0 b) 0 (λ z. some (read ∙ z)), ne_eqb (field 0 b) mark (λ z. other (read ∙ z)))

-- behind the mark it goes by the numbers
marked : (size i m : ℕ) (b : List ℕ) (p : Part) → m ≡ field 0 b → m ≡ mark → p ≡ part_of b → found size i b ≡ cond (is_sound size i p) (Ok (Some p)) (Err foreign)
unfolding found
marked size i m b p read e q =
    let some : field 0 b ≢ 0 = λ z. omega arith in
    let ours : field 0 b ≡ mark = sym read ∙ e in
    rw (ne_eqb (field 0 b) 0 some, eq-eqb (field 0 b) mark ours) (ap (λ (x : Part). cond (is_sound size i x) (Ok (Some x)) (Err foreign)) (sym q))

pub found_part : (size i m : ℕ) (b : List ℕ) (p : Part) → m ≡ field 0 b → m ≡ mark → p ≡ part_of b → is_sound size i p ≡ true → Ok (Some p) ≡ found size i b
found_part size i m b p read e q sound = sym (marked size i m b p read e q ∙ ap (λ (s : Bool). cond s (Ok (Some p)) (Err foreign)) sound)

pub found_unsound : (size i m : ℕ) (b : List ℕ) (p : Part) → m ≡ field 0 b → m ≡ mark → p ≡ part_of b → is_sound size i p ≡ false → Err foreign ≡ found size i b
found_unsound size i m b p read e q sound = sym (marked size i m b p read e q ∙ ap (λ (s : Bool). cond s (Ok (Some p)) (Err foreign)) sound)

pub ruleset finding = (found_blank, found_unmarked, found_part, found_unsound)
