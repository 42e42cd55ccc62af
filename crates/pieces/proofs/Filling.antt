-- Blocks of another directory are taken over one sector after the other: each finds room, and the other holds no less afterwards.
use Rattle.std.proofs.Common.{◌≡◌, ◌≢◌, ◌⊎◌, inl, inr, ℕ, zero, suc, ◌+◌, ◌*◌, ◌/◌, ◌<◌, ◌≤◌, Bool, true, false, cond, nat_lt, List, [], ◌∷◌, length, get_or, Some, None, Option, refl, ap, ◌∙◌, subst, arith}
use Rattle.std.specs.List.{count_by, All}
use Rattle.std.specs.Option.{option_map}
use Rattle.std.proofs.lemmas.Bool.{le-ltb}
use Rattle.std.proofs.lemmas.List.Elements.{All-head, All-tail}
use Rattle.disks.specs.Device.{zeros}
use Rattle.disks.specs.Disks.{all_zero}
use Rattle.pieces.specs.declared.changed.Key.{Key}
use Rattle.pieces.specs.declared.entry.Entry.{Entry}
use Rattle.pieces.specs.Entries.{free_entry}
use Rattle.pieces.specs.Kept.{Kept, WasSet, entry_at, raised, sets}
use Rattle.pieces.specs.Meaning.{Sound}
use Rattle.pieces.specs.Ranges.{is_within}
use Rattle.pieces.specs.Replaces.{Held, Filled, set_of, was_stored, sets_held, then_held, fills_slots, fills, fills_all, vacates_where, Vacates, emptied, floor_raised, replaces}
use Rattle.pieces.specs.Counts.{IsHeld, Thinned}
use Rattle.pieces.specs.Fits.{HasEntry, FitsIn, IsFrom, FitsStay}
use Rattle.pieces.proofs.Always.{zeros_need_none}
use Rattle.pieces.proofs.SetMeaning.{set_means}
use Rattle.pieces.proofs.Vacating.{vacate_means}
use Rattle.pieces.proofs.Fitting.{fits_within}
use Rattle.pieces.proofs.SetClean.{set_stays_clean}
use Rattle.pieces.proofs.Thinning.{thinned_stays_clean}
use Rattle.pieces.proofs.InUse.{entries_set, entries_thinned, fewer_in_range}

-- what a change comes to
abbrev Comes : (size : ℕ) → Kept → Option Held → Type 0
Comes size s o = (m : Held) × (o ≡ Some m) × FitsIn size s m

then_comes : (size : ℕ) (s : Kept) (o : Option Held) (f : Held → Option Held) → Comes size s o → ((m : Held) → FitsIn size s m → Comes size s (f m)) → Comes size s (then_held f o)
then_comes size s o f a next = let c = next a.0 a.2 in (c.0, ap (then_held f) a.1 ∙ c.1, c.2)

one_sector : (size v n w : ℕ) (bs : List ℕ) (s : Kept) (h : Held) → Sound size s → FitsIn size s h → HasEntry (suc v) (n / 8) s → (all_zero bs ≡ false → IsHeld (suc v) n s) → Comes size s (sets_held (suc v) n bs w h)
unfolding sets_held
one_sector size v n w bs s h x f mine held = go (all_zero bs) refl
  where
    comes : (r : WasSet) → sets (suc v) n (all_zero bs) w h.kept ≡ Some r → Comes size s (set_of bs h.data' (sets (suc v) n (all_zero bs) w h.kept))
    comes r e = (
      was_stored bs h.data' r,
      ap (set_of bs h.data') e,
      record {
        sound = (set_means size v n w (all_zero bs) h.kept r f.sound e).sound;
        clean = set_stays_clean.clean size v n w (all_zero bs) h.kept r f.sound f.clean e;
        no_blanks = set_stays_clean.blanks size v n w bs h.data' h.kept r f.sound f.no_blanks e;
        held = fits_within.stays size v n w (all_zero bs) s h.kept r f.sound f.held held e;
        entries = entries_set size v n w (all_zero bs) s h.kept r f.sound e mine f.entries;
      },
    )

    go : (b : Bool) → all_zero bs ≡ b → Comes size s (set_of bs h.data' (sets (suc v) n (all_zero bs) w h.kept))
    go true e = let r = zeros_need_none (suc v) n w h.kept in comes r.0 (ap (λ (b : Bool). sets (suc v) n b w h.kept) e ∙ r.1)
    go false e = let r = fits_within.bytes size v n w s h.kept x f.sound f.clean f.held (held e) in comes r.0 (ap (λ (b : Bool). sets (suc v) n b w h.kept) e ∙ r.1)

slots : (size v b w slot : ℕ) (ss : List (List ℕ)) (s : Kept) (h : Held) → Sound size s → FitsIn size s h → HasEntry (suc v) b s → slot + length ss ≤ 8 → ((i : ℕ) → i < length ss → all_zero (get_or ss i (zeros 512)) ≡ false → IsHeld (suc v) (8 * b + (slot + i)) s) → Comes size s (fills_slots (suc v) b w slot ss h)
unfolding fills_slots
slots size v b w slot [] s h x f mine few held = (h, refl, f)
slots size v b w slot (bs ∷ ss) s h x f mine few held =
    let block : b ≡ (8 * b + slot) / 8 = omega arith in
    let first_slot : slot + 0 ≡ slot = omega arith in
    then_comes size s (sets_held (suc v) (8 * b + slot) bs w h) (fills_slots (suc v) b w (suc slot) ss)
    (one_sector size v (8 * b + slot) w bs s h x f (subst (λ (c : ℕ). HasEntry (suc v) c s) block mine) (λ e. subst (λ (i : ℕ). IsHeld (suc v) (8 * b + i) s) first_slot (held 0 (omega arith) e)))
    (λ m fits. slots size v b w (suc slot) ss s m x fits mine (omega arith) (λ i l e. let next_slot : slot + suc i ≡ suc slot + i = omega arith in subst (λ (j : ℕ). IsHeld (suc v) (8 * b + j) s) next_slot (held (suc i) (omega arith) e)))

one_block : (size v b w : ℕ) (ss : List (List ℕ)) (s : Kept) (h : Held) → Sound size s → FitsIn size s h → v ≢ 0 → HasEntry v b s → length ss ≤ 8 → ((i : ℕ) → i < length ss → all_zero (get_or ss i (zeros 512)) ≡ false → IsHeld v (8 * b + i) s) → Comes size s (fills_slots v b w 0 ss h)
one_block size zero b w ss s h x f o mine few held = absurd (o refl)
one_block size (suc v) b w ss s h x f o mine few held = slots size v b w 0 ss s h x f mine (omega arith) (λ i l e. let same : i ≡ 0 + i = omega arith in subst (λ (j : ℕ). IsHeld (suc v) (8 * b + j) s) same (held i l e))

all_blocks : (size : ℕ) (bs : List Filled) (s : Kept) (h : Held) → Sound size s → FitsIn size s h → All (IsFrom s) bs → Comes size s (fills_all bs h)
unfolding fills_all
all_blocks size [] s h x f from = (h, refl, f)
all_blocks size (b ∷ bs) s h x f from =
    let y = All-head (IsFrom s) b bs from in
    then_comes size s (fills b h) (fills_all bs) (one_block size b.volume b.block b.stamp b.sectors s h x f y.volume y.entry (omega (arith, y.eight)) y.held) (λ m fits. all_blocks size bs s m x fits (All-tail (IsFrom s) b bs from))

thinned : (size : ℕ) (s m : Kept) (h : Held) → FitsIn size s h → Sound size m → Thinned h.kept m → FitsIn size s (record { kept = m; data' = h.data' })
thinned size s m h f y thin = record {
  sound = y;
  clean = thinned_stays_clean.clean h.kept m thin f.clean;
  no_blanks = thinned_stays_clean.blanks size h.data' h.kept m f.sound thin f.no_blanks;
  held = λ v n held. f.held v n (thinned_stays_clean.within size h.kept m f.sound thin v n held);
  entries = entries_thinned s h.kept m thin f.entries;
}

-- the floor is no entry's
floor_rises : (size w : ℕ) (s : Kept) (h : Held) → FitsIn size s h → FitsIn size s (floor_raised w h)
floor_rises size w s h f = thinned size s (raised w h.kept) h f (record { entries = x.entries; taken = x.taken; none = x.none; eight = x.eight; apart = x.apart; total = x.total; single = x.single }) (λ j. inr refl)
  where
    x : Sound size h.kept
    x = f.sound

pub vacated_thins : (size : ℕ) (g : Entry → Bool) (k : Kept) → Sound size k → Thinned k (vacates_where g (length k.entries) k)
vacated_thins size g k x j = go (g (entry_at j k)) refl
  where
    v : Vacates size g k (vacates_where g (length k.entries) k)
    v = vacate_means size g k x

    go : (b : Bool) → g (entry_at j k) ≡ b → (entry_at j (vacates_where g (length k.entries) k) ≡ free_entry) ⊎ (entry_at j (vacates_where g (length k.entries) k) ≡ entry_at j k)
    go true e = inl (v.free j e)
    go false e = inr (v.same j e)

range : (size most floor : ℕ) (from : Key) (next : Option Key) (whole : Bool) (bs : List Filled) (s : Kept) (h : Held) → Sound size s → FitsIn size s h → All (IsFrom s) bs → (whole ≡ true → count_by (is_within from next) s.entries ≤ most) → Comes size s (replaces from next whole most floor bs h)
unfolding replaces
range size most floor from next false bs s h x f all few =
    let a = all_blocks size bs s h x f all in
    (floor_raised floor a.0, ap (option_map (floor_raised floor)) a.1, floor_rises size floor s a.0 a.2)
range size most floor from next true bs s h x f all few =
    let room : nat_lt most (count_by (is_within from next) h.kept.entries) ≡ false = le-ltb most (count_by (is_within from next) h.kept.entries) (omega (arith, fewer_in_range size from next s h.kept f.sound f.entries, few refl)) in
    let sound = (vacate_means size (is_within from next) h.kept f.sound).sound in
    let e = thinned size s (emptied from next h).kept h f sound (vacated_thins size (is_within from next) h.kept f.sound) in
    let a = all_blocks size bs s (emptied from next h) x e all in
    (floor_raised floor a.0, ap (λ (b : Bool). cond b None (option_map (floor_raised floor) (fills_all bs (emptied from next h)))) room ∙ ap (option_map (floor_raised floor)) a.1, floor_rises size floor s a.0 a.2)

pub fits_stay : FitsStay
fits_stay = record { sector = one_sector; range = range; thinned = thinned }
