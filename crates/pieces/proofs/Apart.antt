-- Places are apart, on the device, and fit their bytes: who has one counts as one of its uses, so it is taken.
use Rattle.std.proofs.Common.{◌≡◌, ◌⊎◌, inl, inr, ℕ, zero, suc, ◌/◌, ◌%◌, ◌<◌, ◌≤◌, true, nat_lt, List, [], ◌∷◌, length, get_or, Some, None, Option, refl, ap, arith}
use Rattle.std.specs.List.{list_all}
use Rattle.std.proofs.lemmas.Bool.{lt-ltb, and_from, cases_lt}
use Rattle.std.proofs.lemmas.List.{get_or_past}
use Rattle.std.proofs.lemmas.List.Sums.{get_or-le-sum_by}
use Rattle.pieces.specs.declared.entry.Entry.{Entry}
use Rattle.pieces.specs.Entries.{free_entry}
use Rattle.pieces.specs.Layouts.{places_of}
use Rattle.pieces.specs.Kept.{Kept, index_of, entry_at, place_in, place_of, place_at}
use Rattle.pieces.specs.Meaning.{use_of, uses_in, uses, Sound, PlacesApart}
use Rattle.pieces.proofs.Counting.{use_same}
use Rattle.pieces.proofs.Soundness.{used_taken, taken_in}
use Rattle.pieces.proofs.Looking.{zeros_at}
use Rattle.pieces.proofs.Putting.{one_sector}

at_within : (size i s : ℕ) (k : Kept) → Sound size k → place_at i s k ≤ places_of size
at_within size i s k x = go (place_at i s k) refl (cases_lt i (length k.entries)) (cases_lt s (length (entry_at i k).places))
  where
    go : (p : ℕ) → place_at i s k ≡ p → (i < length k.entries) ⊎ (length k.entries ≤ i) → (s < length (entry_at i k).places) ⊎ (length (entry_at i k).places ≤ s) → place_at i s k ≤ places_of size
    go zero e a b = omega (arith, e)
    go (suc p) e (inl l) (inl m) =
        let used : 1 ≤ uses (suc p) k.entries = omega (arith, get_or-le-sum_by (uses_in (suc p)) k.entries i free_entry l, get_or-le-sum_by (use_of (suc p)) (entry_at i k).places s 0 m, use_same (suc p) (place_at i s k) e) in
        omega (arith, e, x.taken, taken_in (suc p) k.taken (used_taken size k x (suc p) (λ (z : ◌≡◌ {A = ℕ} (suc p) 0). absurd (omega arith)) used))
    go (suc p) e (inr l) b =
        let none : get_or (entry_at i k).places s 0 ≡ get_or free_entry.places s 0 = ap (λ (z : Entry). get_or z.places s 0) (get_or_past k.entries i free_entry l) in
        omega (arith, none, zeros_at free_entry.places s refl)
    go (suc p) e a (inr m) = omega (arith, get_or_past (entry_at i k).places s 0 m)

of_within : (size v n : ℕ) (k : Kept) → Sound size k → place_of v n k ≤ places_of size
of_within size v n k x = go (index_of v (n / 8) k.entries)
  where
    go : (o : Option ℕ) → place_in o (n % 8) k ≤ places_of size
    go None = omega arith
    go (Some i) = at_within size i (n % 8) k x

all_small : (m : ℕ) (qs : List ℕ) → ((s : ℕ) → get_or qs s 0 < m) → list_all (λ p. nat_lt p m) qs ≡ true
all_small m [] h = refl
all_small m (q ∷ qs) h = and_from (nat_lt q m) (list_all (λ p. nat_lt p m) qs) (lt-ltb q m (h 0)) (all_small m qs (λ s. h (suc s)))

pub places_apart : PlacesApart
places_apart = record {
  one_sector = one_sector;
  within = of_within;
  small = λ size i k x fits. all_small 1099511627776 (entry_at i k).places (λ s. omega (arith, at_within size i s k x));
}
