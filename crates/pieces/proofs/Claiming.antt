-- A block's entry is found or made. Making one changes no place, and what is lost of a marker's stamp is in the floor.
use Rattle.std.proofs.Common.{◌≡◌, ◌≢◌, ℕ, suc, ◌+◌, ◌/◌, ◌%◌, ◌<◌, ◌≤◌, max, Bool, true, false, cond, ◌&&◌, ◌==◌, length, get_or, set, Some, None, Option, refl, sym, ap, ◌∙◌, subst, arith, length-set}
use Rattle.std.specs.List.{count_by}
use Rattle.std.proofs.lemmas.List.{get_or-set_other}
use Rattle.std.proofs.lemmas.List.Sums.{sum_by-set}
use Rattle.std.proofs.lemmas.Bool.{eqb-true, ne_eqb}
use Rattle.pieces.specs.declared.entry.Entry.{Entry}
use Rattle.pieces.specs.Entries.{is_block, is_free, is_empty, free_entry, marker}
use Rattle.pieces.specs.Kept.{Kept, Claim, claimed, index_of, place_of, entry_at, vacant, floor_after, claims_entry, claims_new, claims_of, claims}
use Rattle.pieces.specs.Meaning.{look, age_of, one, Sound}
use Rattle.pieces.proofs.Bytes.{both_true}
use Rattle.pieces.proofs.Places.{index_in, vacant_in}
use Rattle.pieces.proofs.Counting.{none_of, none_counted}
use Rattle.pieces.proofs.Soundness.{sound-replaced}
use Rattle.pieces.proofs.Looking.{zeros_at, place_looked, stamp_looked, look_in_none, look_same, look_new, look_gone, vacant_empty, block_of_marker, same_block}

pub record Claims (size v b : ℕ) (k : Kept) (c : Claim) : Type 0 where
  pub sound : Sound size c.kept
  pub inside : c.index < length c.kept.entries
  pub at : index_of (suc v) b c.kept.entries ≡ Some c.index
  pub places : (u m : ℕ) → place_of (suc u) m c.kept ≡ place_of (suc u) m k
  pub aged : (u a : ℕ) → age_of (suc u) a k ≤ age_of (suc u) a c.kept
  pub taken : c.kept.taken ≡ k.taken
  pub elsewhere : (j : ℕ) → (c.index ≡ j → ⊥) → entry_at j c.kept ≡ entry_at j k

floor_grows : (f s : ℕ) (b : Bool) → f ≤ cond b f (max f s)
floor_grows f s true = omega arith
floor_grows f s false = omega arith

module _ (size v b w j : ℕ) (k : Kept) (x : Sound size k) (none : index_of (suc v) b k.entries ≡ None) (free : vacant k.entries ≡ Some j) where
  y : Entry
  y = marker (suc v) b w

  e : Entry
  e = get_or k.entries j free_entry

  inside : j < length k.entries
  inside = vacant_in k.entries j free

  was : is_empty (get_or k.entries j free_entry) ≡ true
  was = vacant_empty k.entries j free

  -- of any block the entry that it has, before and after
  data Change (u a : ℕ) : Type 0 where
    own : look (suc u) a k.entries ≡ free_entry → look (suc u) a (set k.entries j (marker (suc v) b w)) ≡ marker (suc v) b w → Change u a
    gone : is_block (suc u) a (get_or k.entries j free_entry) ≡ true → look (suc u) a k.entries ≡ get_or k.entries j free_entry → look (suc u) a (set k.entries j (marker (suc v) b w)) ≡ free_entry → Change u a
    same : look (suc u) a (set k.entries j (marker (suc v) b w)) ≡ look (suc u) a k.entries → Change u a

  none_as : (u a : ℕ) → is_block (suc u) a (marker (suc v) b w) ≡ true → index_of (suc u) a k.entries ≡ None
  none_as u a t =
      let f = same_block (suc u) a (suc v) b w t in
      ap (λ (n : ℕ). index_of n a k.entries) (sym f.0) ∙ ap (λ (n : ℕ). index_of (suc v) n k.entries) (sym f.1) ∙ none

  change : (u a : ℕ) → Change u a
  change u a = go (is_block (suc u) a (marker (suc v) b w)) refl (is_block (suc u) a (get_or k.entries j free_entry)) refl
    where
      go : (p : Bool) → is_block (suc u) a (marker (suc v) b w) ≡ p → (q : Bool) → is_block (suc u) a (get_or k.entries j free_entry) ≡ q → Change u a
      go true t q r = own (look_in_none (suc u) a k.entries (none_as u a t)) (look_new (suc u) a k.entries j (marker (suc v) b w) inside (none_as u a t) t).0
      go false t true r = let g = look_gone (suc u) a k.entries j (marker (suc v) b w) inside (x.single u a) r t in gone r g.0 g.1
      go false t false r = same (look_same (suc u) a k.entries j (marker (suc v) b w) r t)

  single : (u a : ℕ) → count_by (is_block (suc u) a) (set k.entries j (marker (suc v) b w)) ≤ 1
  single u a = go (is_block (suc u) a (marker (suc v) b w)) refl
    where
      counted : count_by (is_block (suc u) a) (set k.entries j (marker (suc v) b w)) + cond (is_block (suc u) a (get_or k.entries j free_entry)) 1 0 ≡ count_by (is_block (suc u) a) k.entries + cond (is_block (suc u) a (marker (suc v) b w)) 1 0
      counted = sum_by-set (λ (z : Entry). cond (is_block (suc u) a z) 1 0) k.entries j (marker (suc v) b w) free_entry inside

      go : (p : Bool) → is_block (suc u) a (marker (suc v) b w) ≡ p → count_by (is_block (suc u) a) (set k.entries j (marker (suc v) b w)) ≤ 1
      go true t =
          let no : count_by (is_block (suc u) a) k.entries ≡ 0 = none_counted (is_block (suc u) a) k.entries free_entry (λ i l. none_of (is_block (suc u) a) k.entries free_entry (none_as u a t) i l) in
          omega (arith, counted, ap one t)
      go false t = omega (arith, counted, ap one t, x.single u a)

  claims_one : Claims size v b k (claimed j (claims_entry (suc v) b w j k))
  unfolding claims_entry
  claims_one = record {
    sound = sound-replaced size j (floor_after k.floor (entry_at j k)) (marker (suc v) b w) k x inside was refl refl single;
    inside = omega (arith, length-set k.entries j (marker (suc v) b w), inside);
    at = (look_new (suc v) b k.entries j (marker (suc v) b w) inside none (block_of_marker (suc v) b w)).1;
    places = λ u m. place_looked (suc u) m (claims_entry (suc v) b w j k) ∙ places (m % 8) (change u (m / 8)) ∙ sym (place_looked (suc u) m k);
    aged = λ u a. aged (change u a);
    taken = refl;
    elsewhere = λ i o. get_or-set_other k.entries j i (marker (suc v) b w) free_entry (λ (e : i ≡ j). o (sym e));
  }
    where
      places : {u a : ℕ} (s : ℕ) → Change u a → get_or (look (suc u) a (set k.entries j (marker (suc v) b w))).places s 0 ≡ get_or (look (suc u) a k.entries).places s 0
      places s (own p q) = ap (λ (z : Entry). get_or z.places s 0) q ∙ zeros_at (marker (suc v) b w).places s refl ∙ sym (ap (λ (z : Entry). get_or z.places s 0) p ∙ zeros_at free_entry.places s refl)
      places s (gone r p q) =
          ap (λ (z : Entry). get_or z.places s 0) q ∙ zeros_at free_entry.places s refl ∙ sym (ap (λ (z : Entry). get_or z.places s 0) p ∙ zeros_at (get_or k.entries j free_entry).places s was)
      places s (same q) = ap (λ (z : Entry). get_or z.places s 0) q

      aged : {u a : ℕ} → Change u a → age_of (suc u) a k ≤ age_of (suc u) a (claims_entry (suc v) b w j k)
      aged {u} {a} (own p q) = omega (arith, stamp_looked (suc u) a k, ap (λ (z : Entry). z.stamp.0) p, floor_grows k.floor (entry_at j k).stamp.0 (is_free (entry_at j k)))
      aged {u} {a} (gone r p q) =
          let f = both_true ((get_or k.entries j free_entry).volume.0 == suc u) ((get_or k.entries j free_entry).block.0 == a) r in
          let used : (get_or k.entries j free_entry).volume.0 ≢ 0 = λ z. absurd (omega (arith, eqb-true (get_or k.entries j free_entry).volume.0 (suc u) f.0)) in
          let high : floor_after k.floor (entry_at j k) ≡ max k.floor (entry_at j k).stamp.0 =
          ap (λ (t : Bool). cond (t && is_empty (entry_at j k)) k.floor (max k.floor (entry_at j k).stamp.0)) (ne_eqb (get_or k.entries j free_entry).volume.0 0 used) in
          omega (arith, stamp_looked (suc u) a k, ap (λ (z : Entry). z.stamp.0) p, high)
      aged {u} {a} (same q) =
          omega (arith, stamp_looked (suc u) a k, stamp_looked (suc u) a (claims_entry (suc v) b w j k), ap (λ (z : Entry). z.stamp.0) q, floor_grows k.floor (entry_at j k).stamp.0 (is_free (entry_at j k)))

pub claims_means : (size v b w : ℕ) (k : Kept) (c : Claim) → Sound size k → claims (suc v) b w k ≡ Some c → Claims size v b k c
unfolding claims
claims_means size v b w k c x e = go (index_of (suc v) b k.entries) refl e
  where
    new : (o : Option ℕ) → vacant k.entries ≡ o → index_of (suc v) b k.entries ≡ None → claims_new (suc v) b w o k ≡ Some c → Claims size v b k c
    new None q n r = let z : ◌≡◌ {A = ℕ} 0 1 = cc in absurd (omega arith)
    new (Some j) q n r = let same : claimed j (claims_entry (suc v) b w j k) ≡ c = cc in subst (λ (z : Claim). Claims size v b k z) same (claims_one size v b w j k x n q)

    go : (o : Option ℕ) → index_of (suc v) b k.entries ≡ o → claims_of (suc v) b w o k ≡ Some c → Claims size v b k c
    go None q r = new (vacant k.entries) refl q r
    go (Some i) q r =
        let same : claimed i k ≡ c = cc in
        let here : Claims size v b k (claimed i k) = record { sound = x; inside = index_in (suc v) b k.entries i q; at = q; places = λ u m. refl; aged = λ u a. omega arith; taken = refl; elsewhere = λ j o. refl } in
        subst (λ (z : Claim). Claims size v b k z) same here
