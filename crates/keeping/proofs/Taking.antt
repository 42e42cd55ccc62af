-- A portion is taken over: what always holds still holds.
use Rattle.std.proofs.Common.{◌≡◌, ◌≢◌, ◌⊎◌, inl, inr, ℕ, zero, suc, ◌+◌, ◌*◌, ◌/◌, ◌<◌, ◌≤◌, Bool, true, false, cond, not, ◌&&◌, ◌==◌, List, [], ◌∷◌, length, Some, None, Option, option_map, refl, sym, ap, ◌∙◌, subst, arith, eqb-true, nat_lt}
use Rattle.std.specs.Prelude.{⊤}
use Rattle.std.specs.List.{list_all, AllByRecursion, count_by}
use Rattle.std.proofs.lemmas.Bool.{and_parts, and_right}
use Rattle.disks.specs.Disks.{all_zero}
use Rattle.volumes.specs.Service.{Service, is_living}
use Rattle.pieces.specs.declared.entry.Entry.{Entry}
use Rattle.pieces.specs.declared.changed.Key.{Key}
use Rattle.pieces.specs.Entries.{free_entry}
use Rattle.pieces.specs.Kept.{entry_at, place_of, raised}
use Rattle.pieces.specs.Meaning.{content}
use Rattle.pieces.specs.Changes.{entry_key, key_of}
use Rattle.pieces.specs.Ranges.{is_within}
use Rattle.pieces.specs.Replaces.{Held, Filled, sets_held, then_held, fills_slots, fills, fills_all, vacates_where, emptied, floor_raised, replaces, Vacates}
use Rattle.pieces.proofs.Looking.{place_looked}
use Rattle.pieces.proofs.Vacating.{vacate_means}
use Rattle.copies.specs.Service.{Stamped, in_range}
use Rattle.served.specs.Blocks.{Block, volume_of}
use Rattle.served.specs.Room.{is_gone}
use Rattle.keeping.specs.Keeping.{key_at, is_whole, in_order, filled_with, filled_of, most_emptied, take_held, Good}
use Rattle.keeping.proofs.Keys.{has_volume, block_small}
use Rattle.keeping.proofs.Sets.{SetsHeld, sets_means, thinned_good}
use Rattle.keeping.proofs.Moves.{Fine}

-- a block that may be set, of a volume of which this holds
abbrev pub MayFill : (ℕ → Type 0) → Filled → Type 0
MayFill L x = L x.volume × (x.volume ≢ 0) × (x.block < 137438953472) × (is_whole x.sectors ≡ true)

-- step by step
then_some : (f : Held → Option Held) (o : Option Held) (m : Held) → then_held f o ≡ Some m → (u : Held) × (o ≡ Some u) × (f u ≡ Some m)
then_some f None m e = let d : ◌≡◌ {A = ℕ} 0 1 = cc in absurd (omega arith)
then_some f (Some u) m e = (u, refl, e)

-- what holds of the volumes of all entries, and of no volume
module _ (size : ℕ) (L : ℕ → Type 0) (free : L 0) where
  pub record Fair (h : Held) : Type 0 where
    pub good : Good size h
    pub each : (i : ℕ) → L (entry_at i h.kept).volume.0

  set_fair : (v n w : ℕ) (bs : List ℕ) (h m : Held) → L v → v ≢ 0 → n / 8 < 137438953472 → length bs ≡ 512 → Fair h → sets_held v n bs w h ≡ Some m → Fair m
  set_fair zero n w bs h m k nz small long g e = absurd (nz refl)
  set_fair (suc v) n w bs h m k nz small long g e = record { good = x.good; each = λ i. of i (x.entries i) }
    where
      x : SetsHeld size v n bs w h m
      x = sets_means size v n w bs h g.good small long m e

      of : (i : ℕ) → (entry_key (entry_at i m.kept) ≡ key_of (suc v) (n / 8)) ⊎ (entry_at i m.kept ≡ entry_at i h.kept) → L (entry_at i m.kept).volume.0
      of i (inl q) = subst L (sym (ap (λ (z : Key). z.volume.0) q)) k
      of i (inr q) = subst (λ (z : Entry). L z.volume.0) (sym q) (g.each i)

  slots_fair : (v b w : ℕ) → L v → v ≢ 0 → b < 137438953472 → (more : Block) (s : ℕ) (h m : Held) → s + length more ≤ 8 → list_all (λ bs. length bs == 512) more ≡ true → Fair h → fills_slots v b w s more h ≡ Some m → Fair m
  unfolding fills_slots
  slots_fair v b w k nz small [] s h m few long g e = let same : h ≡ m = cc in subst Fair same g
  slots_fair v b w k nz small (bs ∷ more) s h m few long g e =
      let p = and_parts (length bs == 512) (list_all (λ bs. length bs == 512) more) long in
      let t = then_some (fills_slots v b w (suc s) more) (sets_held v (8 * b + s) bs w h) m e in
      slots_fair v b w k nz small more (suc s) t.0 m (omega (arith, few)) p.1 (set_fair v (8 * b + s) w bs h t.0 k nz (omega (arith, small, few)) (eqb-true (length bs) 512 p.0) g t.1) t.2

  fills_fair : (xs : List Filled) (h m : Held) → AllByRecursion (MayFill L) xs → Fair h → fills_all xs h ≡ Some m → Fair m
  unfolding fills_all
  fills_fair [] h m a g e = let same : h ≡ m = cc in subst Fair same g
  fills_fair (x ∷ xs) h m a g e =
      let p = and_parts (length x.sectors == 8) (list_all (λ bs. length bs == 512) x.sectors) a.0.3 in
      let t = then_some (fills_all xs) (fills x h) m e in
      fills_fair xs t.0 m a.1 (slots_fair x.volume x.block x.stamp a.0.0 a.0.1 a.0.2 x.sectors 0 h t.0 (omega (arith, eqb-true (length x.sectors) 8 p.0)) p.1 g t.1) t.2

  emptied_fair : (from : Key) (next : Option Key) (h : Held) → Fair h → Fair (emptied from next h)
  emptied_fair from next h g = record { good = thinned_good size h (vacates_where (is_within from next) (length h.kept.entries) h.kept) g.good v.sound (λ j. thin j (is_within from next (entry_at j h.kept)) refl); each = λ j. of j (thin j (is_within from next (entry_at j h.kept)) refl) }
    where
      v : Vacates size (is_within from next) h.kept (vacates_where (is_within from next) (length h.kept.entries) h.kept)
      v = vacate_means size (is_within from next) h.kept g.good.sound

      thin : (j : ℕ) (b : Bool) → is_within from next (entry_at j h.kept) ≡ b →
          (entry_at j (vacates_where (is_within from next) (length h.kept.entries) h.kept) ≡ free_entry) ⊎ (entry_at j (vacates_where (is_within from next) (length h.kept.entries) h.kept) ≡ entry_at j h.kept)
      thin j true e = inl (v.free j e)
      thin j false e = inr (v.same j e)

      of : (j : ℕ) → (entry_at j (vacates_where (is_within from next) (length h.kept.entries) h.kept) ≡ free_entry) ⊎ (entry_at j (vacates_where (is_within from next) (length h.kept.entries) h.kept) ≡ entry_at j h.kept) →
          L (entry_at j (vacates_where (is_within from next) (length h.kept.entries) h.kept)).volume.0
      of j (inl q) = subst (λ (z : Entry). L z.volume.0) (sym q) free
      of j (inr q) = subst (λ (z : Entry). L z.volume.0) (sym q) (g.each j)

  raised_fair : (w : ℕ) (h : Held) → Fair h → Fair (floor_raised w h)
  raised_fair w h f = record {
    good = record {
      sound = record { entries = f.good.sound.entries; taken = f.good.sound.taken; none = f.good.sound.none; eight = f.good.sound.eight; apart = f.good.sound.apart; total = f.good.sound.total; single = f.good.sound.single };
      clean = f.good.clean;
      blanks = λ v n held. ap (λ (p : ℕ). all_zero (content h.data' p)) (same v n) ∙ f.good.blanks v n (λ z. held (same v n ∙ z));
      small = f.good.small;
      whole = f.good.whole;
    };
    each = f.each;
  }
    where
      same : (v n : ℕ) → place_of (suc v) n (raised w h.kept) ≡ place_of (suc v) n h.kept
      same v n = place_looked (suc v) n (raised w h.kept) ∙ sym (place_looked (suc v) n h.kept)

  map_some : (w : ℕ) (o : Option Held) (m : Held) → option_map (floor_raised w) o ≡ Some m → (u : Held) × (o ≡ Some u) × (floor_raised w u ≡ m)
  map_some w None m e = let d : ◌≡◌ {A = ℕ} 0 1 = cc in absurd (omega arith)
  map_some w (Some u) m e = (u, refl, let same : floor_raised w u ≡ m = cc in same)

  replaces_fair : (from : Key) (next : Option Key) (whole : Bool) (most floor : ℕ) (xs : List Filled) (h m : Held) → AllByRecursion (MayFill L) xs → Fair h → replaces from next whole most floor xs h ≡ Some m → Fair m
  unfolding replaces
  replaces_fair from next false most floor xs h m a g e =
      let t = map_some floor (fills_all xs h) m e in
      subst Fair t.2 (raised_fair floor t.0 (fills_fair xs h t.0 a g t.1))
  replaces_fair from next true most floor xs h m a g e = go (nat_lt most (count_by (is_within from next) h.kept.entries)) e
    where
      go : (b : Bool) → cond b None (option_map (floor_raised floor) (fills_all xs (emptied from next h))) ≡ Some m → Fair m
      go true f = let d : ◌≡◌ {A = ℕ} 0 1 = cc in absurd (omega arith)
      go false f =
          let t = map_some floor (fills_all xs (emptied from next h)) m f in
          subst Fair t.2 (raised_fair floor t.0 (fills_fair xs (emptied from next h) t.0 a (emptied_fair from next h g) t.1))

-- what isn't gone of a portion in order may be set
filled_may : (L : ℕ → Type 0) (r : Service) → ((k : ℕ) → is_gone r k ≡ false → L (volume_of k)) → (next : Option ℕ) (bs : List (Stamped Block)) (key : ℕ) → in_order key next bs ≡ true → AllByRecursion (MayFill L) (filled_of r bs)
unfolding filled_of in_order
filled_may L r f next [] key e = tt
filled_may L r f next (b ∷ bs) key e =
    let p = and_parts (in_range key next b.key) (is_whole b.block && in_order (suc b.key) next bs) e in
    let q = and_parts (is_whole b.block) (in_order (suc b.key) next bs) p.1 in
    go (is_gone r b.key) refl q.0 (filled_may L r f next bs (suc b.key) q.1)
  where
    go : (t : Bool) → is_gone r b.key ≡ t → is_whole b.block ≡ true → AllByRecursion (MayFill L) (filled_of r bs) → AllByRecursion (MayFill L) (cond t (filled_of r bs) (filled_with b ∷ filled_of r bs))
    go true q w ih = ih
    go false q w ih = let v = has_volume r b.key q in ((f b.key q, λ z. absurd (omega (arith, v.1, z)), block_small b.key, w), ih)

-- what is taken over was in order
pub take_parts : (r : Service) (whole : Bool) (key : ℕ) (next : Option ℕ) (floor : ℕ) (bs : List (Stamped Block)) (h m : Held) → take_held r whole key next floor bs h ≡ Some m →
    (in_order key next bs ≡ true) × (replaces (key_at key) (option_map key_at next) whole most_emptied floor (filled_of r bs) h ≡ Some m)
unfolding take_held
take_parts r whole key next floor bs h m e = go (in_order key next bs) refl e
  where
    go : (t : Bool) → in_order key next bs ≡ t → cond t (replaces (key_at key) (option_map key_at next) whole most_emptied floor (filled_of r bs) h) None ≡ Some m →
        (in_order key next bs ≡ true) × (replaces (key_at key) (option_map key_at next) whole most_emptied floor (filled_of r bs) h ≡ Some m)
    go true q f = (q, f)
    go false q f = let d : ◌≡◌ {A = ℕ} 0 1 = cc in absurd (omega arith)

take_fair : (size : ℕ) (L : ℕ → Type 0) (free : L 0) (r : Service) → ((k : ℕ) → is_gone r k ≡ false → L (volume_of k)) → (whole : Bool) (key : ℕ) (next : Option ℕ) (floor : ℕ) (bs : List (Stamped Block)) (h m : Held) →
    Fair size L free h → take_held r whole key next floor bs h ≡ Some m → Fair size L free m
take_fair size L free r f whole key next floor bs h m g e =
    let t = take_parts r whole key next floor bs h m e in
    replaces_fair size L free (key_at key) (option_map key_at next) whole most_emptied floor (filled_of r bs) h m (filled_may L r f next bs key t.0) g t.1

pub take_good : (size : ℕ) (r : Service) (whole : Bool) (key : ℕ) (next : Option ℕ) (floor : ℕ) (bs : List (Stamped Block)) (h m : Held) → Good size h → take_held r whole key next floor bs h ≡ Some m → Good size m
take_good size r whole key next floor bs h m g e = (take_fair size (λ v. ⊤) tt r (λ k a. tt) whole key next floor bs h m (record { good = g; each = λ i. tt }) e).good

-- and no entry comes of a volume that is gone
pub take_fine : (size : ℕ) (r : Service) (whole : Bool) (key : ℕ) (next : Option ℕ) (floor : ℕ) (bs : List (Stamped Block)) (h m : Held) → Fine size r h → take_held r whole key next floor bs h ≡ Some m → Fine size r m
take_fine size r whole key next floor bs h m g e = record { good = x.good; lives = x.each }
  where
    x : Fair size (λ v. (not (v == 0) && not (is_living r.next r.heads v)) ≡ false) refl m
    x =
        take_fair size (λ v. (not (v == 0) && not (is_living r.next r.heads v)) ≡ false) refl r (λ k alive. and_right (not (volume_of k == 0)) (not (is_living r.next r.heads (volume_of k))) alive) whole key next floor bs h m
        (record { good = g.good; each = g.lives }) e
