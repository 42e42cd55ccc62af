-- What holds of a directory and stays true sector by sector holds after a range was taken over.
use Rattle.std.proofs.Common.{◌≡◌, ◌≢◌, inr, ℕ, zero, suc, ◌+◌, ◌*◌, ◌<◌, Bool, true, false, cond, nat_lt, List, [], ◌∷◌, length, get_or, Some, None, Option, refl, sym, ap, ◌∙◌, subst, arith}
use Rattle.std.specs.List.{count_by, All}
use Rattle.std.specs.Option.{option_map}
use Rattle.std.proofs.lemmas.List.Elements.{All-head, All-tail}
use Rattle.disks.specs.Disks.{all_zero}
use Rattle.pieces.specs.declared.changed.Key.{Key}
use Rattle.pieces.specs.Kept.{Kept, WasSet, raised, sets}
use Rattle.pieces.specs.Meaning.{Sound}
use Rattle.pieces.specs.Ranges.{is_within}
use Rattle.pieces.specs.Replaces.{Held, Filled, was_stored, set_of, sets_held, then_held, fills_slots, fills, fills_all, emptied, floor_raised, replaces}
use Rattle.pieces.specs.Counts.{Thinned}
use Rattle.pieces.specs.Fits.{IsClean, IsOfVolume, ReplacesStaysClean}
use Rattle.pieces.proofs.SetMeaning.{set_means}
use Rattle.pieces.proofs.SetClean.{set_stays_clean}
use Rattle.pieces.proofs.Thinning.{thinned_stays_clean}
use Rattle.pieces.proofs.Vacating.{vacate_means}
use Rattle.pieces.proofs.Filling.{vacated_thins}

-- what came to something came to it by both steps
then_some : (f : Held → Option Held) (o : Option Held) (m : Held) → then_held f o ≡ Some m → (h : Held) × (o ≡ Some h) × (f h ≡ Some m)
then_some f None m e = let z : ◌≡◌ {A = ℕ} 0 1 = cc in absurd (omega arith)
then_some f (Some h) m e = (h, refl, e)

map_some : (f : Held → Held) (o : Option Held) (m : Held) → option_map f o ≡ Some m → (h : Held) × (o ≡ Some h) × (f h ≡ m)
map_some f None m e = let z : ◌≡◌ {A = ℕ} 0 1 = cc in absurd (omega arith)
map_some f (Some h) m e = let same : f h ≡ m = cc in (h, refl, same)

module _ (P : Held → Type 0) where
  -- Each sector of a block leaves it true.
  abbrev pub SetKeeps : Filled → Type 0
  SetKeeps b = (i : ℕ) (h m : Held) → i < length b.sectors → P h → sets_held b.volume (8 * b.block + i) (get_or b.sectors i []) b.stamp h ≡ Some m → P m

  after_slots : (v b w slot : ℕ) (ss : List (List ℕ)) → ((i : ℕ) (h m : Held) → i < length ss → P h → sets_held v (8 * b + (slot + i)) (get_or ss i []) w h ≡ Some m → P m) → (h m : Held) → P h → fills_slots v b w slot ss h ≡ Some m → P m
  unfolding fills_slots
  after_slots v b w slot [] keeps h m p e = let same : h ≡ m = cc in subst P same p
  after_slots v b w slot (bs ∷ ss) keeps h m p e =
      let t = then_some (fills_slots v b w (suc slot) ss) (sets_held v (8 * b + slot) bs w h) m e in
      let first : slot ≡ slot + 0 = omega arith in
      let q = keeps 0 h t.0 (omega arith) p (ap (λ (n : ℕ). sets_held v (8 * b + n) bs w h) (sym first) ∙ t.1) in
      after_slots v b w (suc slot) ss (λ i x y l r f. let next : slot + suc i ≡ suc slot + i = omega arith in keeps (suc i) x y (omega arith) r (ap (λ (n : ℕ). sets_held v (8 * b + n) (get_or ss i []) w x) next ∙ f)) t.0 m q t.2

  pub after_block : (b : Filled) → SetKeeps b → (h m : Held) → P h → fills b h ≡ Some m → P m
  after_block b keeps h m p e = after_slots b.volume b.block b.stamp 0 b.sectors (λ i x y l r f. let same : i ≡ 0 + i = omega arith in keeps i x y l r (ap (λ (n : ℕ). sets_held b.volume (8 * b.block + n) (get_or b.sectors i []) b.stamp x) same ∙ f)) h m p e

  pub after_blocks : (bs : List Filled) → All SetKeeps bs → (h m : Held) → P h → fills_all bs h ≡ Some m → P m
  unfolding fills_all
  after_blocks [] keeps h m p e = let same : h ≡ m = cc in subst P same p
  after_blocks (b ∷ bs) keeps h m p e =
      let t = then_some (fills_all bs) (fills b h) m e in
      after_blocks bs (All-tail SetKeeps b bs keeps) t.0 m (after_block b (All-head SetKeeps b bs keeps) h t.0 p t.1) t.2

  -- So do a higher floor, and giving up the range.
  pub after_range : (from : Key) (next : Option Key) (whole : Bool) (most floor : ℕ) (bs : List Filled) → All SetKeeps bs → ((h : Held) → P h → P (floor_raised floor h)) → ((h : Held) → P h → P (emptied from next h)) → (h m : Held) → P h → replaces from next whole most floor bs h ≡ Some m → P m
  unfolding replaces
  after_range from next false most floor bs keeps raises empties h m p e =
      let t = map_some (floor_raised floor) (fills_all bs h) m e in
      subst P t.2 (raises t.0 (after_blocks bs keeps h t.0 p t.1))
  after_range from next true most floor bs keeps raises empties h m p e = go (nat_lt most (count_by (is_within from next) h.kept.entries)) e
    where
      go : (b : Bool) → cond b None (option_map (floor_raised floor) (fills_all bs (emptied from next h))) ≡ Some m → P m
      go true f = let z : ◌≡◌ {A = ℕ} 0 1 = cc in absurd (omega arith)
      go false f =
          let t = map_some (floor_raised floor) (fills_all bs (emptied from next h)) m f in
          subst P t.2 (raises t.0 (after_blocks bs keeps (emptied from next h) t.0 (empties h p) t.1))

-- NO BLANKS, and entries of no volume free
set_clean : (size v n w : ℕ) (bs : List ℕ) (h m : Held) → IsClean size h → v ≢ 0 → sets_held v n bs w h ≡ Some m → IsClean size m
unfolding sets_held
set_clean size zero n w bs h m c o e = absurd (o refl)
set_clean size (suc v) n w bs h m c o e = go (sets (suc v) n (all_zero bs) w h.kept) refl e
  where
    go : (r : Option WasSet) → sets (suc v) n (all_zero bs) w h.kept ≡ r → set_of bs h.data' r ≡ Some m → IsClean size m
    go None q f = let z : ◌≡◌ {A = ℕ} 0 1 = cc in absurd (omega arith)
    go (Some r) q f =
        let is : was_stored bs h.data' r ≡ m = cc in
        subst (IsClean size) is (record {
          sound = (set_means size v n w (all_zero bs) h.kept r c.sound q).sound;
          clean = set_stays_clean.clean size v n w (all_zero bs) h.kept r c.sound c.clean q;
          no_blanks = set_stays_clean.blanks size v n w bs h.data' h.kept r c.sound c.no_blanks q;
        })

thinned_clean : (size : ℕ) (h : Held) (m : Kept) → IsClean size h → Sound size m → Thinned h.kept m → IsClean size (record { kept = m; data' = h.data' })
thinned_clean size h m c y thin = record { sound = y; clean = thinned_stays_clean.clean h.kept m thin c.clean; no_blanks = thinned_stays_clean.blanks size h.data' h.kept m c.sound thin c.no_blanks }

raised_clean : (size w : ℕ) (h : Held) → IsClean size h → IsClean size (floor_raised w h)
raised_clean size w h c = thinned_clean size h (raised w h.kept) c (record { entries = x.entries; taken = x.taken; none = x.none; eight = x.eight; apart = x.apart; total = x.total; single = x.single }) (λ j. inr refl)
  where
    x : Sound size h.kept
    x = c.sound

emptied_clean : (size : ℕ) (from : Key) (next : Option Key) (h : Held) → IsClean size h → IsClean size (emptied from next h)
emptied_clean size from next h c =
    let sound = (vacate_means size (is_within from next) h.kept c.sound).sound in
    thinned_clean size h (emptied from next h).kept c sound (vacated_thins size (is_within from next) h.kept c.sound)

range_clean : (size most floor : ℕ) (from : Key) (next : Option Key) (whole : Bool) (bs : List Filled) (h m : Held) → IsClean size h → All IsOfVolume bs → replaces from next whole most floor bs h ≡ Some m → IsClean size m
range_clean size most floor from next whole bs h m c all e =
    after_range (IsClean size) from next whole most floor bs (λ j d l i x y inside p f. set_clean size _ _ _ _ x y p (all j d l) f) (λ x. raised_clean size floor x) (λ x. emptied_clean size from next x) h m c e

pub replaces_stays_clean : ReplacesStaysClean
replaces_stays_clean = record { sector = set_clean; thinned = thinned_clean; range = range_clean }
