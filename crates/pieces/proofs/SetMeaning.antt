-- What setting a sector means. The block's entry is found or made, which changes no sector; then one slot of it changes; and the place that
-- is written is no other sector's.
use Rattle.std.proofs.Common.{◌≡◌, ◌≢◌, ◌⊎◌, inl, inr, ℕ, zero, suc, ◌/◌, ◌%◌, ◌<◌, ◌≤◌, max, Bool, true, false, cond, not, ◌==◌, List, length, get_or, set, Some, None, Option, refl, sym, ap, ◌∙◌, subst, arith}
use Rattle.std.proofs.lemmas.List.{get_or-set_same, get_or-set_other}
use Rattle.std.proofs.lemmas.List.Quantifiers.{position-Some}
use Rattle.std.proofs.lemmas.Bool.{eqb-true, eq-eqb, ne_eqb, cases_eq, not-true, not-false}
use Rattle.pieces.specs.declared.entry.Entry.{Entry}
use Rattle.pieces.specs.Entries.{free_entry}
use Rattle.pieces.specs.Kept.{Kept, Claim, WasSet, was_set, index_of, place_in, place_of, entry_at, place_at, with_place, found, free_place, place_for, or_else, frees_place, puts_place, claims, claims_of, raised, is_risen, sets_blank, sets_bytes, sets}
use Rattle.pieces.specs.Meaning.{look, uses, is_taken, Sound, age_of, content, stored_at, SetsOne}
use Rattle.pieces.proofs.Soundness.{MayPut, sound-frees, sound-puts, used_taken, taken_in, used_here}
use Rattle.pieces.proofs.Looking.{place_looked, stamp_looked}
use Rattle.pieces.proofs.Claiming.{Claims, claims_means}
use Rattle.pieces.proofs.Putting.{put_here, put_other, one_sector}

clash : {A : Type 0} → false ≡ true → A
clash e = let z : ◌≡◌ {A = ℕ} 0 1 = cc in absurd (omega arith)

-- one slot of an entry changes
module _ (size v n p w : ℕ) (k : Kept) (c : Claim) (x : Claims size v (n / 8) k c) (ts : List Bool) where
  i : ℕ
  i = c.index

  abbrev m : Kept
  m = record { entries = set c.kept.entries c.index (with_place (n % 8) p w (entry_at c.index c.kept)); taken = ts; floor = c.kept.floor }

  few : n % 8 < 8
  few = omega arith

  here : (look (suc v) (n / 8) m.entries ≡ with_place (n % 8) p w (entry_at c.index c.kept)) × (index_of (suc v) (n / 8) m.entries ≡ Some c.index)
  here = put_here v (n / 8) c.index (n % 8) p w c.kept.entries x.inside x.at

  -- it has that place
  pub slot_here : place_of (suc v) n (record { entries = set c.kept.entries c.index (with_place (n % 8) p w (entry_at c.index c.kept)); taken = ts; floor = c.kept.floor }) ≡ p
  slot_here =
      place_looked (suc v) n m ∙ ap (λ (z : Entry). get_or z.places (n % 8) 0) here.0 ∙ get_or-set_same (entry_at c.index c.kept).places (n % 8) p 0 (omega (arith, x.sound.eight c.index))

  -- all others have the places that they had
  pub slot_others : (u a : ℕ) → ((u ≡ v) × (a ≡ n) → ⊥) → place_of (suc u) a (record { entries = set c.kept.entries c.index (with_place (n % 8) p w (entry_at c.index c.kept)); taken = ts; floor = c.kept.floor }) ≡ place_of (suc u) a k
  slot_others u a o = go (cases_eq u v) (cases_eq (a / 8) (n / 8)) ∙ x.places u a
    where
      elsewhere : ((u ≡ v) × (a / 8 ≡ n / 8) → ⊥) → place_of (suc u) a m ≡ place_of (suc u) a c.kept
      elsewhere h = place_looked (suc u) a m ∙ ap (λ (z : Entry). get_or z.places (a % 8) 0) (put_other v (n / 8) c.index (n % 8) p w c.kept.entries x.inside x.at u (a / 8) h) ∙ sym (place_looked (suc u) a c.kept)

      go : (u ≡ v) ⊎ (u ≡ v → ⊥) → (a / 8 ≡ n / 8) ⊎ (a / 8 ≡ n / 8 → ⊥) → place_of (suc u) a m ≡ place_of (suc u) a c.kept
      go (inl e) (inl f) =
          let apart : a % 8 ≢ n % 8 = λ g. o (e, omega arith) in
          let now : look (suc u) (a / 8) m.entries ≡ with_place (n % 8) p w (entry_at c.index c.kept) = rw (e, f) here.0 in
          let was : place_of (suc u) a c.kept ≡ place_at c.index (a % 8) c.kept = rw (e, f) (ap (λ (z : Option ℕ). place_in z (a % 8) c.kept) x.at) in
          place_looked (suc u) a m ∙ ap (λ (z : Entry). get_or z.places (a % 8) 0) now ∙ get_or-set_other (entry_at c.index c.kept).places (n % 8) (a % 8) p 0 apart ∙ sym was
      go (inr e) f = elsewhere (λ h. e h.0)
      go (inl e) (inr f) = elsewhere (λ h. f h.1)

  pub slot_stamped : w ≤ age_of (suc v) (n / 8) (record { entries = set c.kept.entries c.index (with_place (n % 8) p w (entry_at c.index c.kept)); taken = ts; floor = c.kept.floor })
  slot_stamped = omega (arith, stamp_looked (suc v) (n / 8) m, ap (λ (z : Entry). z.stamp.0) here.0)

  pub slot_aged : (u b : ℕ) → ((u ≡ v) × (b ≡ n / 8) → ⊥) → age_of (suc u) b k ≤ age_of (suc u) b (record { entries = set c.kept.entries c.index (with_place (n % 8) p w (entry_at c.index c.kept)); taken = ts; floor = c.kept.floor })
  slot_aged u b o =
      omega (arith, stamp_looked (suc u) b m, stamp_looked (suc u) b c.kept, ap (λ (z : Entry). z.stamp.0) (put_other v (n / 8) c.index (n % 8) p w c.kept.entries x.inside x.at u b o), x.aged u b)

-- ZEROS
blank_one : (size v n w : ℕ) (k : Kept) (c : Claim) (f : Bool) → Claims size v (n / 8) k c → (f ≡ false → c.kept.floor ≡ k.floor) → SetsOne size v n true w k (was_set (record { place = None; entry = Some c.index; floor = f }) (frees_place c.index (n % 8) w c.kept))
unfolding frees_place
blank_one size v n w k c f x g = record {
  sound = sound-frees size c.index (n % 8) w c.kept x.sound x.inside (omega arith);
  found = λ bs d. ap (content d) (slot_here size v n 0 w k c x _);
  others = λ bs d u m o. ap (content d) (slot_others size v n 0 w k c x _ u m o);
  stamped = slot_stamped size v n 0 w k c x _;
  aged = slot_aged size v n 0 w k c x _;
  elsewhere = λ j o. get_or-set_other c.kept.entries c.index j _ free_entry (λ (e : j ≡ c.index). o (ap (λ (z : ℕ). Some z) (sym e))) ∙ x.elsewhere j (λ e. o (ap (λ (z : ℕ). Some z) e));
  risen = g;
}

-- BYTES. The place is the sector's own, or was free.
record Given (v n p : ℕ) (k m : Kept) (i : ℕ) : Type 0 where
  within : suc p < length m.taken
  may : MayPut i (n % 8) (suc p) m

given_own : (size v n p : ℕ) (k : Kept) (c : Claim) → Claims size v (n / 8) k c → place_of (suc v) n k ≡ suc p → Given v n p k c.kept c.index
unfolding MayPut
given_own size v n p k c x e =
    let there : place_at c.index (n % 8) c.kept ≡ suc p = sym (ap (λ (o : Option ℕ). place_in o (n % 8) c.kept) x.at) ∙ x.places v n ∙ e in
    let used : 1 ≤ uses (suc p) c.kept.entries = subst (λ (q : ℕ). 1 ≤ uses q c.kept.entries) there (used_here c.kept c.index (n % 8) 0 0 x.inside (x.sound.eight c.index) (omega arith)) in
    record { within = taken_in (suc p) c.kept.taken (used_taken size c.kept x.sound (suc p) (λ z. absurd (omega arith)) used); may = inr there }

given_free : (size v n p : ℕ) (k : Kept) (c : Claim) → Claims size v (n / 8) k c → place_of (suc v) n k ≡ 0 → free_place k.taken ≡ Some (suc p) → Given v n p k c.kept c.index
unfolding MayPut
given_free size v n p k c x e f =
    let there : place_at c.index (n % 8) c.kept ≡ 0 = sym (ap (λ (o : Option ℕ). place_in o (n % 8) c.kept) x.at) ∙ x.places v n ∙ e in
    let g = position-Some not k.taken (suc p) false f in
    record {
      within = subst (λ (ts : List Bool). suc p < length ts) (sym x.taken) g.0;
      may = inl (there, ap (is_taken (suc p)) x.taken ∙ not-true (is_taken (suc p) k.taken) g.1);
    }

given : (size v n p : ℕ) (k : Kept) (c : Claim) → Claims size v (n / 8) k c → place_for (suc v) n k ≡ Some (suc p) → Given v n p k c.kept c.index
given size v n p k c x e = go (place_of (suc v) n k) refl e
  where
    go : (q : ℕ) → place_of (suc v) n k ≡ q → or_else (found q) (free_place k.taken) ≡ Some (suc p) → Given v n p k c.kept c.index
    go zero q r = given_free size v n p k c x q r
    go (suc q) g r =
        let some : found (suc q) ≡ Some (suc q) = ap (λ (t : Bool). cond t None (Some (suc q))) (ne_eqb (suc q) 0 (λ z. absurd (omega arith))) in
        let same : Some (suc q) ≡ Some (suc p) = sym (ap (λ (o : Option ℕ). or_else o (free_place k.taken)) some) ∙ r in
        let e2 : suc q ≡ suc p = cc in
        given_own size v n p k c x (g ∙ e2)

-- place 0 is never given
never_none : (size v n : ℕ) (k : Kept) → Sound size k → place_for v n k ≡ Some 0 → ⊥
never_none size v n k x e = go (place_of v n k) e
  where
    go : (q : ℕ) → or_else (found q) (free_place k.taken) ≡ Some 0 → ⊥
    go zero r = clash (sym (not-true (is_taken 0 k.taken) (position-Some not k.taken 0 false r).1) ∙ x.none)
    go (suc q) r =
        let some : found (suc q) ≡ Some (suc q) = ap (λ (t : Bool). cond t None (Some (suc q))) (ne_eqb (suc q) 0 (λ z. absurd (omega arith))) in
        let same : Some (suc q) ≡ Some 0 = sym (ap (λ (o : Option ℕ). or_else o (free_place k.taken)) some) ∙ r in
        let e2 : suc q ≡ 0 = cc in
        absurd (omega (arith, e2))

bytes_one : (size v n p w : ℕ) (k : Kept) (c : Claim) (f : Bool) → Claims size v (n / 8) k c → Given v n p k c.kept c.index → (f ≡ false → c.kept.floor ≡ k.floor) → SetsOne size v n false w k (was_set (record { place = Some (suc p); entry = Some c.index; floor = f }) (puts_place c.index (n % 8) (suc p) w c.kept))
unfolding puts_place
bytes_one size v n p w k c f x g h = record {
  sound = sound;
  found = λ bs d. ap (content (stored_at (Some (suc p)) bs d)) (slot_here size v n (suc p) w k c x _) ∙ ap (λ (t : Bool). cond t bs (d (suc p))) (eq-eqb (suc p) (suc p) refl);
  others = λ bs d u m o. ap (content (stored_at (Some (suc p)) bs d)) (slot_others size v n (suc p) w k c x _ u m o) ∙ untouched bs d u m o (place_of (suc u) m k) refl;
  stamped = slot_stamped size v n (suc p) w k c x _;
  aged = slot_aged size v n (suc p) w k c x _;
  elsewhere = λ j o. get_or-set_other c.kept.entries c.index j _ free_entry (λ (e : j ≡ c.index). o (ap (λ (z : ℕ). Some z) (sym e))) ∙ x.elsewhere j (λ e. o (ap (λ (z : ℕ). Some z) e));
  risen = h;
}
  where
    sound : Sound size (puts_place c.index (n % 8) (suc p) w c.kept)
    sound = sound-puts size c.index (n % 8) p w c.kept x.sound x.inside (omega arith) g.within g.may

    untouched : (bs : List ℕ) (d : ℕ → List ℕ) (u m : ℕ) → ((u ≡ v) × (m ≡ n) → ⊥) → (q : ℕ) → place_of (suc u) m k ≡ q → content (stored_at (Some (suc p)) bs d) q ≡ content d q
    untouched bs d u m o zero e = refl
    untouched bs d u m o (suc q) e =
        let other : suc q ≢ suc p = λ z. o (one_sector size (puts_place c.index (n % 8) (suc p) w c.kept) sound p u m v n (slot_others size v n (suc p) w k c x _ u m o ∙ e ∙ z) (slot_here size v n (suc p) w k c x _)) in
        ap (λ (t : Bool). cond t bs (d (suc q))) (ne_eqb (suc q) (suc p) other)

-- no entry for zeros: the floor rises
risen_one : (size v n w : ℕ) (k : Kept) (f : Bool) → Sound size k → index_of (suc v) (n / 8) k.entries ≡ None → (f ≡ false → max k.floor w ≡ k.floor) → SetsOne size v n true w k (was_set (record { place = None; entry = None; floor = f }) (raised w k))
risen_one size v n w k f x none g = record {
  sound = record { entries = x.entries; taken = x.taken; none = x.none; eight = x.eight; apart = x.apart; total = x.total; single = x.single };
  found = λ bs d. ap (λ (o : Option ℕ). content d (place_in o (n % 8) (raised w k))) none;
  others = λ bs d u m o. ap (content d) (place_looked (suc u) m (raised w k) ∙ sym (place_looked (suc u) m k));
  stamped = omega arith;
  aged = λ u b o. omega (arith, stamp_looked (suc u) b k, stamp_looked (suc u) b (raised w k));
  elsewhere = λ j o. refl;
  risen = g;
}

-- the floor that didn't rise
unrisen : (k m : Kept) → is_risen k m ≡ false → m.floor ≡ k.floor
unrisen k m e = eqb-true m.floor k.floor (not-false (m.floor == k.floor) e)

-- claims fail only where the block has no entry
no_entry : (v b w : ℕ) (k : Kept) → claims v b w k ≡ None → index_of v b k.entries ≡ None
unfolding claims
no_entry v b w k e = go (index_of v b k.entries) refl e
  where
    go : (o : Option ℕ) → index_of v b k.entries ≡ o → claims_of v b w o k ≡ None → index_of v b k.entries ≡ None
    go None q r = q
    go (Some i) q r = let z : ◌≡◌ {A = ℕ} 0 1 = cc in absurd (omega arith)

pub set_means : (size v n w : ℕ) (blank : Bool) (k : Kept) (r : WasSet) → Sound size k → sets (suc v) n blank w k ≡ Some r → SetsOne size v n blank w k r
unfolding sets
set_means size v n w true k r x e = go (claims (suc v) (n / 8) w k) refl e
  where
    go : (o : Option Claim) → claims (suc v) (n / 8) w k ≡ o → sets_blank (n % 8) w o k ≡ Some r → SetsOne size v n true w k r
    go None q f =
        let same : was_set (record { place = None; entry = None; floor = is_risen k (raised w k) }) (raised w k) ≡ r = cc in
        subst (λ (z : WasSet). SetsOne size v n true w k z) same (risen_one size v n w k _ x (no_entry (suc v) (n / 8) w k q) (unrisen k (raised w k)))
    go (Some c) q f =
        let same : was_set (record { place = None; entry = Some c.index; floor = is_risen k c.kept }) (frees_place c.index (n % 8) w c.kept) ≡ r = cc in
        subst (λ (z : WasSet). SetsOne size v n true w k z) same (blank_one size v n w k c _ (claims_means size v (n / 8) w k c x q) (unrisen k c.kept))
set_means size v n w false k r x e = go (place_for (suc v) n k) refl (claims (suc v) (n / 8) w k) refl e
  where
    go : (p : Option ℕ) → place_for (suc v) n k ≡ p → (o : Option Claim) → claims (suc v) (n / 8) w k ≡ o → sets_bytes (n % 8) w p o k ≡ Some r → SetsOne size v n false w k r
    go None g o q f = let z : ◌≡◌ {A = ℕ} 0 1 = cc in absurd (omega arith)
    go (Some p) g None q f = let z : ◌≡◌ {A = ℕ} 0 1 = cc in absurd (omega arith)
    go (Some zero) g (Some c) q f = absurd (never_none size (suc v) n k x g)
    go (Some (suc p)) g (Some c) q f =
        let same : was_set (record { place = Some (suc p); entry = Some c.index; floor = is_risen k c.kept }) (puts_place c.index (n % 8) (suc p) w c.kept) ≡ r = cc in
        let means : Claims size v (n / 8) k c = claims_means size v (n / 8) w k c x q in
        subst (λ (z : WasSet). SetsOne size v n false w k z) same (bytes_one size v n p w k c _ means (given size v n p k c means g) (unrisen k c.kept))
