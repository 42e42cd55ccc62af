-- Loading a directory, entry by entry: of volumes that live it shows what was kept, and others are zeros.
use Rattle.std.proofs.Common.{◌≡◌, ◌≢◌, ◌⊎◌, inl, inr, ℕ, suc, ◌+◌, ◌/◌, ◌%◌, ◌<◌, ◌≤◌, Bool, true, false, cond, ◌==◌, List, [], ◌∷◌, length, get_or, drop, Some, None, Option, refl, sym, ap, ◌∙◌, subst, arith, add-zero, length-drop}
use Rattle.std.proofs.lemmas.List.{get_or_past, get_or-drop, drop-drop}
use Rattle.std.proofs.lemmas.Bool.{eqb-true, ne_eqb, cases_lt, and_left}
use Rattle.pieces.specs.declared.entry.Entry.{Entry}
use Rattle.pieces.specs.Entries.{is_block, free_entry}
use Rattle.pieces.specs.Layouts.{entries_of}
use Rattle.pieces.specs.Kept.{Kept, blank_kept, index_of, entry_at, raised}
use Rattle.pieces.specs.Loads.{then_load, load_entries}
use Rattle.pieces.specs.Meaning.{look, look_in, Sound, content}
use Rattle.pieces.specs.Loading.{living, OnDevice, BlocksInRange, Loaded, LoadMeans}
use Rattle.pieces.proofs.Bytes.{both_true}
use Rattle.pieces.proofs.Counting.{none_from_zero, none_counted, position_alike}
use Rattle.pieces.proofs.Looking.{zeros_at, place_looked, stamp_looked, look_in_none, no_block}
use Rattle.pieces.proofs.Putting.{its_own}
use Rattle.pieces.proofs.Blank.{blank_sound, defaults}
use Rattle.pieces.proofs.Restoring.{Partly, living_cases, load_one}

clash : {A : Type 0} → false ≡ true → A
clash e = let z : ◌≡◌ {A = ℕ} 0 1 = cc in absurd (omega arith)

-- ALL ENTRIES
-- the first of what is left
first_left : (x : Entry) (xs es : List Entry) (i : ℕ) → x ∷ xs ≡ drop i es → (x ≡ get_or es i free_entry) × (xs ≡ drop (suc i) es) × (i < length es)
first_left x xs es i q =
    let far : i + 1 ≡ suc i = omega arith in (
      ap (λ (ys : List Entry). get_or ys 0 free_entry) q ∙ get_or-drop i es 0 free_entry ∙ ap (λ (n : ℕ). get_or es n free_entry) (add-zero i),
      ap (drop 1) q ∙ drop-drop 1 i es ∙ ap (λ (n : ℕ). drop n es) far,
      omega (arith, ap length q, length-drop i es),
    )

none_left : (es : List Entry) (i : ℕ) → [] ≡ drop i es → length es ≤ i
none_left es i q = omega (arith, ap length q, length-drop i es)

module _ (size f : ℕ) (lives : ℕ → Bool) (k : Kept) (es : List Entry) (x : Sound size k) (few : BlocksInRange k) (nobody : lives 0 ≡ false) (o : OnDevice lives es k) where
  load_rest : (xs : List Entry) (i : ℕ) (m : Kept) → xs ≡ drop i es → i ≤ length es → Partly size lives f i k m → (n : Kept) × (load_entries lives i xs m ≡ Some n) × Partly size lives f (length es) k n
  unfolding load_entries
  load_rest [] i m q l p = (m, refl, subst (λ (j : ℕ). Partly size lives f j k m) (omega (arith, none_left es i q)) p)
  load_rest (z ∷ xs) i m q l p =
      let a = first_left z xs es i q in
      let one' = load_one size f i lives k m z x p (omega (arith, a.2, o.0)) nobody (few i) (ap (living lives) a.0 ∙ o.1 i) in
      let far : suc i ≡ i + 1 = omega arith in
      let rest = load_rest xs (i + 1) one'.0 (a.1 ∙ ap (λ (n : ℕ). drop n es) far) (omega (arith, a.2)) (subst (λ (j : ℕ). Partly size lives f j k one'.0) far one'.2) in
      (rest.0, ap (λ (t : Option Kept). then_load (load_entries lives (i + 1) xs) t) one'.1 ∙ rest.1, rest.2)

  start : Partly size lives f 0 k (raised f (blank_kept size))
  start = record {
    sound = let b = blank_sound size in record { entries = b.entries; taken = b.taken; none = b.none; eight = b.eight; apart = b.apart; total = b.total; single = b.single };
    done = λ j l. absurd (omega arith);
    later = λ j l. defaults (entries_of size) free_entry j;
    floor = omega arith;
  }

-- what is there when all are loaded
module _ (size f : ℕ) (lives : ℕ → Bool) (k m : Kept) (x : Sound size k) (nobody : lives 0 ≡ false) (p : Partly size lives f (length k.entries) k m) where
  pub long_all : length m.entries ≡ length k.entries
  long_all = p.sound.entries ∙ sym x.entries

  pub all_living : (j : ℕ) → entry_at j m ≡ living lives (entry_at j k)
  all_living j = go (cases_lt j (length k.entries))
    where
      no_matter : (b : Bool) → free_entry ≡ cond b free_entry free_entry
      no_matter true = refl
      no_matter false = refl

      go : (j < length k.entries) ⊎ (length k.entries ≤ j) → entry_at j m ≡ living lives (entry_at j k)
      go (inl l) = p.done j l
      go (inr l) = p.later j l ∙ no_matter (lives free_entry.volume.0) ∙ ap (living lives) (sym (get_or_past k.entries j free_entry l))

  -- blocks of a volume that lives
  look_living : (v b : ℕ) → lives (suc v) ≡ true → look (suc v) b m.entries ≡ look (suc v) b k.entries
  look_living v b t = ap (λ (z : Option ℕ). look_in z m.entries) same ∙ go (index_of (suc v) b k.entries) refl
    where
      alike : (j : ℕ) → ((lives (entry_at j k).volume.0 ≡ true) × (living lives (entry_at j k) ≡ entry_at j k)) ⊎ ((lives (entry_at j k).volume.0 ≡ false) × (living lives (entry_at j k) ≡ free_entry)) → is_block (suc v) b (entry_at j m) ≡ is_block (suc v) b (entry_at j k)
      alike j (inl c) = ap (is_block (suc v) b) (all_living j ∙ c.1)
      alike j (inr c) =
          let other : (entry_at j k).volume.0 ≢ suc v = λ q. clash (sym c.0 ∙ ap lives q ∙ t) in
          ap (is_block (suc v) b) (all_living j ∙ c.1) ∙ no_block v b ∙ sym (and_left ((entry_at j k).volume.0 == suc v) ((entry_at j k).block.0 == b) (ne_eqb (entry_at j k).volume.0 (suc v) other))

      same : index_of (suc v) b m.entries ≡ index_of (suc v) b k.entries
      same = rw (position_alike (is_block (suc v) b) m.entries k.entries free_entry long_all (λ j. alike j (living_cases lives (entry_at j k))), long_all) refl

      go : (z : Option ℕ) → index_of (suc v) b k.entries ≡ z → look_in z m.entries ≡ look_in z k.entries
      go None q = refl
      go (Some i) q =
          let e = both_true ((entry_at i k).volume.0 == suc v) ((entry_at i k).block.0 == b) (its_own (suc v) b i k.entries q) in
          let alive : lives (entry_at i k).volume.0 ≡ true = ap lives (eqb-true (entry_at i k).volume.0 (suc v) e.0) ∙ t in
          all_living i ∙ ap (λ (c : Bool). cond c (entry_at i k) free_entry) alive

  -- blocks of one that doesn't
  look_dead : (v b : ℕ) → lives (suc v) ≡ false → look (suc v) b m.entries ≡ free_entry
  look_dead v b t = look_in_none (suc v) b m.entries (none_from_zero (is_block (suc v) b) m.entries free_entry (none_counted (is_block (suc v) b) m.entries free_entry (λ j l. fails j (living_cases lives (entry_at j k)))))
    where
      fails : (j : ℕ) → ((lives (entry_at j k).volume.0 ≡ true) × (living lives (entry_at j k) ≡ entry_at j k)) ⊎ ((lives (entry_at j k).volume.0 ≡ false) × (living lives (entry_at j k) ≡ free_entry)) → is_block (suc v) b (entry_at j m) ≡ false
      fails j (inl c) =
          let other : (entry_at j k).volume.0 ≢ suc v = λ q. clash (sym t ∙ ap lives (sym q) ∙ c.0) in
          ap (is_block (suc v) b) (all_living j ∙ c.1) ∙ and_left ((entry_at j k).volume.0 == suc v) ((entry_at j k).block.0 == b) (ne_eqb (entry_at j k).volume.0 (suc v) other)
      fails j (inr c) = ap (is_block (suc v) b) (all_living j ∙ c.1) ∙ no_block v b

  loaded : Loaded size lives f k m
  loaded = record {
    sound = p.sound;
    shown_same = λ d v n t. ap (content d) (place_looked (suc v) n m ∙ ap (λ (z : Entry). get_or z.places (n % 8) 0) (look_living v (n / 8) t) ∙ sym (place_looked (suc v) n k));
    stamp_same = λ v b t. stamp_looked (suc v) b m ∙ ap (λ (z : Entry). z.stamp.0) (look_living v b t) ∙ sym (stamp_looked (suc v) b k);
    gone = λ d v n t. ap (content d) (place_looked (suc v) n m ∙ ap (λ (z : Entry). get_or z.places (n % 8) 0) (look_dead v (n / 8) t) ∙ zeros_at free_entry.places (n % 8) refl);
    floor_as = p.floor;
  }

module _ (size f : ℕ) (lives : ℕ → Bool) (k : Kept) (es : List Entry) (x : Sound size k) (few : BlocksInRange k) (nobody : lives 0 ≡ false) (o : OnDevice lives es k) where
  pub all_loaded : (m : Kept) × (load_entries lives 0 es (raised f (blank_kept size)) ≡ Some m) × Partly size lives f (length k.entries) k m
  all_loaded =
      let r = load_rest size f lives k es x few nobody o es 0 (raised f (blank_kept size)) refl (omega arith) (start size f lives k es x few nobody o) in
      (r.0, r.1, subst (λ (n : ℕ). Partly size lives f n k r.0) o.0 r.2)

pub load_means : LoadMeans
load_means size f lives k es x few nobody o =
    let r = all_loaded size f lives k es x few nobody o in
    (r.0, r.1, loaded size f lives k r.0 x nobody r.2)
