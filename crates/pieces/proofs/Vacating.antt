-- What giving up the entries that a test holds of means: entry by entry, these are free afterwards and all others as they were.
use Rattle.std.proofs.Common.{◌≡◌, ◌≢◌, ◌⊎◌, inl, inr, ℕ, zero, suc, ◌/◌, ◌%◌, ◌<◌, ◌≤◌, Bool, true, false, cond, ◌==◌, List, [], ◌∷◌, length, get_or, set, Some, None, Option, refl, sym, ap, ◌∙◌, subst, arith}
use Rattle.std.specs.List.{count_by, list_all}
use Rattle.std.proofs.lemmas.List.{get_or-set_same, get_or-set_other, get_or_past}
use Rattle.std.proofs.lemmas.List.Sums.{sum_by-set}
use Rattle.std.proofs.lemmas.List.Quantifiers.{position-Some}
use Rattle.std.proofs.lemmas.Bool.{eq-eqb, cases_eq, cases_lt}
use Rattle.disks.specs.Device.{zeros}
use Rattle.pieces.specs.declared.entry.Entry.{Entry}
use Rattle.pieces.specs.Entries.{is_block, is_empty, free_entry}
use Rattle.pieces.specs.Kept.{Kept, index_of, entry_at, place_at, with_place, frees_place, cleared, vacated}
use Rattle.pieces.specs.Meaning.{look, look_in, held_in, one, Sound, content, shown}
use Rattle.pieces.specs.Replaces.{vacates_at, vacates_where, Vacates, VacateMeans}
use Rattle.pieces.proofs.Counting.{no_held, none_from_zero, none_counted, none_of, only_first, sum_fewer}
use Rattle.pieces.proofs.Soundness.{sound-frees, sound-replaced}
use Rattle.pieces.proofs.Steps.{long_cleared, long_where}
use Rattle.pieces.proofs.Looking.{zeros_at, look_in_none, place_looked, stamp_looked, no_block}
use Rattle.pieces.proofs.Putting.{its_own}

-- slots cleared from the first on
record Cleared (size i s : ℕ) (k m : Kept) : Type 0 where
  sound : Sound size m
  zero_at : (t : ℕ) → t < s → place_at i t m ≡ 0
  volume : (entry_at i m).volume.0 ≡ (entry_at i k).volume.0
  others : (j : ℕ) → j ≢ i → entry_at j m ≡ entry_at j k
  floor : m.floor ≡ k.floor

clear_more : (size i s : ℕ) (k m : Kept) → i < length m.entries → s < 8 → Cleared size i s k m → Cleared size i (suc s) k (frees_place i s 0 m)
unfolding frees_place
clear_more size i s k m inside few x =
    let now : get_or (set m.entries i (with_place s 0 0 (entry_at i m))) i free_entry ≡ with_place s 0 0 (entry_at i m) = get_or-set_same m.entries i (with_place s 0 0 (entry_at i m)) free_entry inside in
    record {
      sound = sound-frees size i s 0 m x.sound inside few;
      zero_at = λ t l. ap (λ (z : Entry). get_or z.places t 0) now ∙ slot t l (cases_eq t s);
      volume = ap (λ (z : Entry). z.volume.0) now ∙ x.volume;
      others = λ j o. get_or-set_other m.entries i j (with_place s 0 0 (entry_at i m)) free_entry o ∙ x.others j o;
      floor = x.floor;
    }
  where
    slot : (t : ℕ) → t < suc s → (t ≡ s) ⊎ (t ≡ s → ⊥) → get_or (set (entry_at i m).places s 0) t 0 ≡ 0
    slot t l (inl e) = subst (λ (n : ℕ). get_or (set (entry_at i m).places s 0) n 0 ≡ 0) (sym e) (get_or-set_same (entry_at i m).places s 0 0 (omega (arith, x.sound.eight i)))
    slot t l (inr o) = get_or-set_other (entry_at i m).places s t 0 0 o ∙ x.zero_at t (omega arith)

clear : (size i s : ℕ) (k : Kept) → Sound size k → i < length k.entries → s ≤ 8 → Cleared size i s k (cleared i s k)
unfolding cleared
clear size i zero k x inside few = record { sound = x; zero_at = λ t l. absurd (omega arith); volume = refl; others = λ j o. refl; floor = refl }
clear size i (suc s) k x inside few = clear_more size i s k (cleared i s k) (omega (arith, long_cleared i s k)) (omega arith) (clear size i s k x inside (omega arith))

all_zero_at : (qs : List ℕ) → ((s : ℕ) → s < length qs → get_or qs s 0 ≡ 0) → list_all (λ q. q == 0) qs ≡ true
all_zero_at [] h = refl
all_zero_at (q ∷ qs) h = rw (eq-eqb q 0 (h 0 (omega arith))) (all_zero_at qs (λ s l. h (suc s) (omega arith)))

-- an entry that was given up
pub record Vacated (size i : ℕ) (k m : Kept) : Type 0 where
  pub sound : Sound size m
  pub here : entry_at i m ≡ free_entry
  pub others : (j : ℕ) → j ≢ i → entry_at j m ≡ entry_at j k
  pub floor : m.floor ≡ k.floor

pub vacate : (size i : ℕ) (k : Kept) → Sound size k → i < length k.entries → Vacated size i k (vacated i k)
unfolding vacated
vacate size i k x inside =
    let c = clear size i 8 k x inside (omega arith) in
    let within : i < length (cleared i 8 k).entries = omega (arith, long_cleared i 8 k) in
    let empty : is_empty (entry_at i (cleared i 8 k)) ≡ true = all_zero_at (entry_at i (cleared i 8 k)).places (λ s l. c.zero_at s (omega (arith, c.sound.eight i))) in
    record {
      sound = sound-replaced size i (cleared i 8 k).floor free_entry (cleared i 8 k) c.sound within empty refl refl (λ u b. single u b c within);
      here = get_or-set_same (cleared i 8 k).entries i free_entry free_entry within;
      others = λ j o. get_or-set_other (cleared i 8 k).entries i j free_entry free_entry o ∙ c.others j o;
      floor = c.floor;
    }
  where
    single : (u b : ℕ) → Cleared size i 8 k (cleared i 8 k) → i < length (cleared i 8 k).entries → count_by (is_block (suc u) b) (set (cleared i 8 k).entries i free_entry) ≤ 1
    single u b c within =
        let no : cond (is_block (suc u) b free_entry) 1 0 ≡ 0 = ap one (no_block u b) in
        omega (arith, sum_by-set (λ (z : Entry). cond (is_block (suc u) b z) 1 0) (cleared i 8 k).entries i free_entry free_entry within, no, c.sound.single u b)

-- of what is given up from the first entry on
record Where (size : ℕ) (f : Entry → Bool) (n : ℕ) (k m : Kept) : Type 0 where
  sound : Sound size m
  gone : (j : ℕ) → j < n → f (entry_at j k) ≡ true → entry_at j m ≡ free_entry
  kept : (j : ℕ) → j < n → f (entry_at j k) ≡ false → entry_at j m ≡ entry_at j k
  later : (j : ℕ) → n ≤ j → entry_at j m ≡ entry_at j k
  floor : m.floor ≡ k.floor

unequal : {A : Type 0} → false ≡ true → A
unequal e = let z : ◌≡◌ {A = ℕ} 0 1 = cc in absurd (omega arith)

where_more : (size : ℕ) (f : Entry → Bool) (n : ℕ) (k m : Kept) → n < length m.entries → Where size f n k m → Where size f (suc n) k (vacates_at f n m)
unfolding vacates_at
where_more size f n k m inside x = go (f (entry_at n m)) (ap f (x.later n (omega arith)))
  where
    go : (b : Bool) → b ≡ f (entry_at n k) → Where size f (suc n) k (cond b (vacated n m) m)
    go true t =
        let c = vacate size n m x.sound inside in
        record {
          sound = c.sound;
          gone = λ j l e. by_gone j l e (cases_eq j n) c;
          kept = λ j l e. by_kept j l e (cases_eq j n) c;
          later = λ j l. c.others j (omega arith) ∙ x.later j (omega arith);
          floor = c.floor ∙ x.floor;
        }
      where
        by_gone : (j : ℕ) → j < suc n → f (entry_at j k) ≡ true → (j ≡ n) ⊎ (j ≡ n → ⊥) → Vacated size n m (vacated n m) → entry_at j (vacated n m) ≡ free_entry
        by_gone j l e (inl q) c = ap (λ (i : ℕ). entry_at i (vacated n m)) q ∙ c.here
        by_gone j l e (inr o) c = c.others j o ∙ x.gone j (omega arith) e

        by_kept : (j : ℕ) → j < suc n → f (entry_at j k) ≡ false → (j ≡ n) ⊎ (j ≡ n → ⊥) → Vacated size n m (vacated n m) → entry_at j (vacated n m) ≡ entry_at j k
        by_kept j l e (inl q) c = unequal (sym e ∙ ap (λ (i : ℕ). f (entry_at i k)) q ∙ sym t)
        by_kept j l e (inr o) c = c.others j o ∙ x.kept j (omega arith) e
    go false t = record {
      sound = x.sound;
      gone = λ j l e. by_gone j l e (cases_eq j n);
      kept = λ j l e. by_kept j l e (cases_eq j n);
      later = λ j l. x.later j (omega arith);
      floor = x.floor;
    }
      where
        by_gone : (j : ℕ) → j < suc n → f (entry_at j k) ≡ true → (j ≡ n) ⊎ (j ≡ n → ⊥) → entry_at j m ≡ free_entry
        by_gone j l e (inl q) = unequal (t ∙ ap (λ (i : ℕ). f (entry_at i k)) (sym q) ∙ e)
        by_gone j l e (inr o) = x.gone j (omega arith) e

        by_kept : (j : ℕ) → j < suc n → f (entry_at j k) ≡ false → (j ≡ n) ⊎ (j ≡ n → ⊥) → entry_at j m ≡ entry_at j k
        by_kept j l e (inl q) = x.later j (omega arith)
        by_kept j l e (inr o) = x.kept j (omega arith) e

where_all : (size : ℕ) (f : Entry → Bool) (n : ℕ) (k : Kept) → Sound size k → n ≤ length k.entries → Where size f n k (vacates_where f n k)
unfolding vacates_where
where_all size f zero k x l = record { sound = x; gone = λ j m e. absurd (omega arith); kept = λ j m e. absurd (omega arith); later = λ j m. refl; floor = refl }
where_all size f (suc n) k x l = where_more size f n k (vacates_where f n k) (omega (arith, long_where f n k)) (where_all size f n k x (omega arith))

module _ (size : ℕ) (f : Entry → Bool) (k : Kept) (x : Sound size k) where
  abbrev m : Kept
  m = vacates_where f (length k.entries) k

  w : Where size f (length k.entries) k (vacates_where f (length k.entries) k)
  w = where_all size f (length k.entries) k x (omega arith)

  long : length m.entries ≡ length k.entries
  long = long_where f (length k.entries) k

  free : (j : ℕ) → f (entry_at j k) ≡ true → entry_at j m ≡ free_entry
  free j e = go (cases_lt j (length k.entries))
    where
      go : (j < length k.entries) ⊎ (length k.entries ≤ j) → entry_at j m ≡ free_entry
      go (inl l) = w.gone j l e
      go (inr g) = get_or_past m.entries j free_entry (omega (arith, long))

  same : (j : ℕ) → f (entry_at j k) ≡ false → entry_at j m ≡ entry_at j k
  same j e = go (cases_lt j (length k.entries))
    where
      go : (j < length k.entries) ⊎ (length k.entries ≤ j) → entry_at j m ≡ entry_at j k
      go (inl l) = w.kept j l e
      go (inr g) = w.later j g

  -- an entry is what it was, or free
  passes : (v b j : ℕ) (t : Bool) → f (entry_at j k) ≡ t → is_block (suc v) b (entry_at j m) ≡ cond t false (is_block (suc v) b (entry_at j k))
  passes v b j true e = ap (is_block (suc v) b) (free j e) ∙ no_block v b
  passes v b j false e = ap (is_block (suc v) b) (same j e)

  -- where the block's entry is given up, it has none
  look_gone : (v b : ℕ) → f (look (suc v) b k.entries) ≡ true → look (suc v) b m.entries ≡ free_entry
  look_gone v b e = look_in_none (suc v) b m.entries (none_from_zero (is_block (suc v) b) m.entries free_entry (none_counted (is_block (suc v) b) m.entries free_entry (λ j l. fails j l (f (entry_at j k)) refl)))
    where
      fails : (j : ℕ) → j < length m.entries → (t : Bool) → f (entry_at j k) ≡ t → is_block (suc v) b (entry_at j m) ≡ false
      fails j l true t = passes v b j true t
      fails j l false t = passes v b j false t ∙ other (is_block (suc v) b (entry_at j k)) refl
        where
          other : (z : Bool) → is_block (suc v) b (entry_at j k) ≡ z → is_block (suc v) b (entry_at j k) ≡ false
          other false p = p
          other true p =
              let at : index_of (suc v) b k.entries ≡ Some j = only_first (is_block (suc v) b) k.entries j free_entry (omega (arith, long)) p (x.single v b) in
              unequal (sym t ∙ ap f (sym (ap (λ (o : Option ℕ). look_in o k.entries) at)) ∙ e)

  -- where it isn't, it is what it was
  look_kept : (v b : ℕ) → f (look (suc v) b k.entries) ≡ false → look (suc v) b m.entries ≡ look (suc v) b k.entries
  look_kept v b e = go (index_of (suc v) b k.entries) refl
    where
      go : (z : Option ℕ) → index_of (suc v) b k.entries ≡ z → look (suc v) b m.entries ≡ look (suc v) b k.entries
      go None q = look_in_none (suc v) b m.entries (none_from_zero (is_block (suc v) b) m.entries free_entry (none_counted (is_block (suc v) b) m.entries free_entry (λ j l. fails j l (f (entry_at j k)) refl))) ∙ sym (look_in_none (suc v) b k.entries q)
        where
          fails : (j : ℕ) → j < length m.entries → (t : Bool) → f (entry_at j k) ≡ t → is_block (suc v) b (entry_at j m) ≡ false
          fails j l true t = passes v b j true t
          fails j l false t = passes v b j false t ∙ none_of (is_block (suc v) b) k.entries free_entry q j (omega (arith, long))
      go (Some i) q =
          let p = position-Some (is_block (suc v) b) k.entries i free_entry q in
          let stays : entry_at i m ≡ entry_at i k = same i (sym (ap (λ (o : Option ℕ). f (look_in o k.entries)) q) ∙ e) in
          let alone : count_by (is_block (suc v) b) m.entries ≤ 1 = w.sound.single v b in
          let at : index_of (suc v) b m.entries ≡ Some i = only_first (is_block (suc v) b) m.entries i free_entry (omega (arith, long, p.0)) (ap (is_block (suc v) b) stays ∙ p.1) alone in
          ap (λ (o : Option ℕ). look_in o m.entries) at ∙ stays ∙ sym (ap (λ (o : Option ℕ). look_in o k.entries) q)

  pub vacates : Vacates size f k (vacates_where f (length k.entries) k)
  vacates = record {
    sound = w.sound;
    free = free;
    same = same;
    gone = λ d v n e. ap (content d) (place_looked (suc v) n m ∙ ap (λ (z : Entry). get_or z.places (n % 8) 0) (look_gone v (n / 8) e) ∙ zeros_at free_entry.places (n % 8) refl);
    others = λ d v n e. ap (content d) (place_looked (suc v) n m ∙ ap (λ (z : Entry). get_or z.places (n % 8) 0) (look_kept v (n / 8) e) ∙ sym (place_looked (suc v) n k));
    looked = look_kept;
    aged = λ v b e. omega (arith, stamp_looked (suc v) b m, stamp_looked (suc v) b k, ap (λ (z : Entry). z.stamp.0) (look_kept v b e), w.floor);
    fewer = sum_fewer held_in m.entries k.entries free_entry long (λ j. less j (f (entry_at j k)) refl);
    floor = w.floor;
  }
    where
      less : (j : ℕ) (t : Bool) → f (entry_at j k) ≡ t → held_in (entry_at j m) ≤ held_in (entry_at j k)
      less j true e = omega (arith, ap held_in (free j e), no_held free_entry.places refl)
      less j false e = omega (arith, ap held_in (same j e))

pub vacate_means : VacateMeans
vacate_means size f k x = vacates size f k x

-- where there is no entry there are zeros
pub shown_free : (d : ℕ → List ℕ) (k : Kept) (v n : ℕ) → look v (n / 8) k.entries ≡ free_entry → shown d k v n ≡ zeros 512
shown_free d k v n e = ap (content d) (place_looked v n k ∙ ap (λ (z : Entry). get_or z.places (n % 8) 0) e ∙ zeros_at free_entry.places (n % 8) refl)

-- the entry that is looked up is the block's, or none
pub look_own : (v b : ℕ) (es : List Entry) → (look v b es ≡ free_entry) ⊎ (is_block v b (look v b es) ≡ true)
look_own v b es = go (index_of v b es) refl
  where
    go : (o : Option ℕ) → index_of v b es ≡ o → (look v b es ≡ free_entry) ⊎ (is_block v b (look v b es) ≡ true)
    go None e = inl (look_in_none v b es e)
    go (Some i) e = inr (ap (λ (z : Option ℕ). is_block v b (look_in z es)) e ∙ its_own v b i es e)
