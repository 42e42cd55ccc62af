-- There is always room. As many places are taken as sectors hold anything, and an entry that can't be used has at least one such sector.
use Rattle.std.proofs.Common.{◌≡◌, ◌⊎◌, inl, inr, ℕ, zero, suc, ◌/◌, ◌%◌, ◌<◌, ◌≤◌, Bool, true, false, cond, not, ◌==◌, List, [], ◌∷◌, length, get_or, Some, None, Option, refl, ap, ◌∙◌, arith}
use Rattle.std.specs.List.{position, sum_by, list_all}
use Rattle.std.proofs.lemmas.List.Sums.{sum_by-cons}
use Rattle.std.proofs.lemmas.Bool.{ne_eqb, eqb-false, not-false, and_cases}
use Rattle.pieces.specs.declared.entry.Entry.{Entry}
use Rattle.pieces.specs.Entries.{is_free, is_empty, free_entry}
use Rattle.pieces.specs.Layouts.{places_of}
use Rattle.pieces.specs.Kept.{Kept, Claim, claimed, WasSet, was_set, index_of, or_else, place_of, found, free_place, place_for, claims_entry, claims_new, claims_of, claims, is_risen, puts_place, sets_blank, sets_bytes, sets}
use Rattle.pieces.specs.Meaning.{full, held_in, held, one, Sound}
use Rattle.pieces.proofs.Counting.{none_of, full_some}

all_taken : (ts : List Bool) → ((i : ℕ) → i < length ts → not (get_or ts i false) ≡ false) → sum_by one ts ≡ length ts
all_taken [] h = refl
all_taken (t ∷ ts) h = omega (arith, sum_by-cons one t ts, ap one (not-false t (h 0 (omega arith))), all_taken ts (λ i l. h (suc i) (omega arith)))

some_held : (qs : List ℕ) → list_all (λ q. q == 0) qs ≡ false → 1 ≤ sum_by full qs
some_held [] h = let z : ◌≡◌ {A = ℕ} 0 1 = cc in absurd (omega arith)
some_held (q ∷ qs) h = go (and_cases (q == 0) (list_all (λ r. r == 0) qs) h) (some_held qs)
  where
    go : ((q == 0) ≡ false) ⊎ (list_all (λ r. r == 0) qs ≡ false) → (list_all (λ r. r == 0) qs ≡ false → 1 ≤ sum_by full qs) → 1 ≤ sum_by full (q ∷ qs)
    go (inl e) ih = omega (arith, sum_by-cons full q qs, full_some q (eqb-false q 0 e))
    go (inr e) ih = omega (arith, sum_by-cons full q qs, ih e)

all_hold : (es : List Entry) → ((i : ℕ) → i < length es → is_empty (get_or es i free_entry) ≡ false) → length es ≤ held es
all_hold [] h = omega arith
all_hold (e ∷ es) h = omega (arith, sum_by-cons held_in e es, some_held e.places (h 0 (omega arith)), all_hold es (λ i l. h (suc i) (omega arith)))

a_place : (size v n : ℕ) (k : Kept) → Sound size k → held k.entries < places_of size → (p : ℕ) × (place_for v n k ≡ Some p)
a_place size v n k x few = go (place_of v n k) refl
  where
    free : (o : Option ℕ) → free_place k.taken ≡ o → (p : ℕ) × (o ≡ Some p)
    free None e = absurd (omega (arith, all_taken k.taken (λ i l. none_of not k.taken false e i l), x.total, x.taken))
    free (Some p) e = (p, refl)

    go : (q : ℕ) → place_of v n k ≡ q → (p : ℕ) × (or_else (found q) (free_place k.taken) ≡ Some p)
    go zero e = free (free_place k.taken) refl
    go (suc q) e = (suc q, ap (λ (t : Bool). or_else (cond t None (Some (suc q))) (free_place k.taken)) (ne_eqb (suc q) 0 (λ z. absurd (omega arith))))

an_entry : (size v b w : ℕ) (k : Kept) → Sound size k → held k.entries < places_of size → (c : Claim) × (claims v b w k ≡ Some c)
unfolding claims
an_entry size v b w k x few = go (index_of v b k.entries)
  where
    empty : (o : Option ℕ) → position is_empty k.entries ≡ o → (j : ℕ) × (o ≡ Some j)
    empty None e = absurd (omega (arith, all_hold k.entries (λ i l. none_of is_empty k.entries free_entry e i l), x.entries, few))
    empty (Some j) e = (j, refl)

    some : (o : Option ℕ) → (j : ℕ) × (or_else o (position is_empty k.entries) ≡ Some j)
    some None = empty (position is_empty k.entries) refl
    some (Some j) = (j, refl)

    go : (o : Option ℕ) → (c : Claim) × (claims_of v b w o k ≡ Some c)
    go None = let j = some (position is_free k.entries) in (claimed j.0 (claims_entry v b w j.0 k), ap (λ (o : Option ℕ). claims_new v b w o k) j.1)
    go (Some i) = (claimed i k, refl)

pub zeros_need_none : (v n w : ℕ) (k : Kept) → (r : WasSet) × (sets v n true w k ≡ Some r)
unfolding sets
zeros_need_none v n w k = go (claims v (n / 8) w k)
  where
    go : (o : Option Claim) → (r : WasSet) × (sets_blank (n % 8) w o k ≡ Some r)
    go None = (_, refl)
    go (Some c) = (_, refl)

pub always_room : (size v n w : ℕ) (blank : Bool) (k : Kept) → Sound size k → held k.entries < places_of size → (r : WasSet) × (sets v n blank w k ≡ Some r)
unfolding sets
always_room size v n w true k x few = zeros_need_none v n w k
always_room size v n w false k x few =
    let p = a_place size v n k x few in
    let c = an_entry size v (n / 8) w k x few in
    (was_set (record { place = Some p.0; entry = Some c.0.index; floor = is_risen k c.0.kept }) (puts_place c.0.index (n % 8) p.0 w c.0.kept), ap (λ (o : Option ℕ). sets_bytes (n % 8) w o (claims v (n / 8) w k) k) p.1 ∙ ap (λ (o : Option Claim). sets_bytes (n % 8) w (Some p.0) o k) c.1)
