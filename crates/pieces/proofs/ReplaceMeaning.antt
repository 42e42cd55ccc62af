-- What taking a range over means. A sector that is set shows its bytes, and no other changes; so a block that is listed shows its sectors when
-- they are all set, and keeps them, since none comes twice. What was there went before, where the list is the whole of it.
use Rattle.std.proofs.Common.{◌≡◌, ◌⊎◌, inl, inr, ℕ, zero, suc, ◌+◌, ◌*◌, ◌/◌, ◌<◌, ◌≤◌, Bool, true, false, cond, not, ◌&&◌, ◌==◌, nat_lt, List, [], ◌∷◌, length, get_or, Some, None, Option, refl, sym, ap, ◌∙◌, subst, arith}
use Rattle.std.specs.List.{find, count_by}
use Rattle.std.specs.Option.{option_map}
use Rattle.std.proofs.lemmas.Bool.{eqb-true, and_from, eq-eqb, ne_eqb}
use Rattle.disks.specs.Device.{zeros}
use Rattle.disks.specs.Disks.{all_zero}
use Rattle.pieces.specs.declared.entry.Entry.{Entry}
use Rattle.pieces.specs.declared.changed.Key.{Key}
use Rattle.pieces.specs.Entries.{is_block, free_entry}
use Rattle.pieces.specs.Kept.{Kept, WasSet, raised, sets}
use Rattle.pieces.specs.Meaning.{look, Sound, SetsOne, shown, content, age_of}
use Rattle.pieces.specs.Changes.{key_of, entry_key, is_before, is_below}
use Rattle.pieces.specs.Ranges.{is_within}
use Rattle.pieces.specs.Replaces.{Held, Filled, was_stored, set_of, sets_held, then_held, fills_slots, fills, fills_all, emptied, floor_raised, replaces, is_filled, is_in, AreWhole, Stays, Replaced, ReplaceMeans, Vacates, vacates_where}
use Rattle.pieces.proofs.Bytes.{both_true}
use Rattle.pieces.proofs.SetMeaning.{set_means}
use Rattle.pieces.proofs.Looking.{place_looked, stamp_looked}
use Rattle.pieces.proofs.ListMeaning.{same_key}
use Rattle.pieces.proofs.Vacating.{vacate_means, shown_free, look_own}

clash : {A : Type 0} → true ≡ false → A
clash e = let z : ◌≡◌ {A = ℕ} 0 1 = cc in absurd (omega arith)

no_held : {A : Type 0} (m : Held) → ◌≡◌ {A = Option Held} None (Some m) → A
no_held m e = let z : ◌≡◌ {A = ℕ} 0 1 = cc in absurd (omega arith)

zeros_are : (bs : List ℕ) → all_zero bs ≡ true → zeros (length bs) ≡ bs
unfolding all_zero zeros
zeros_are [] e = refl
zeros_are (b ∷ bs) e =
    let f = both_true (b == 0) (all_zero bs) e in
    rw (zeros_are bs f.1, eqb-true b 0 f.0) refl

-- ONE SECTOR
record SetHeld (size v n w : ℕ) (bs : List ℕ) (h m : Held) : Type 0 where
  sound : Sound size m.kept
  found : shown m.data' m.kept (suc v) n ≡ bs
  others : (u a : ℕ) → ((u ≡ v) × (a ≡ n) → ⊥) → shown m.data' m.kept (suc u) a ≡ shown h.data' h.kept (suc u) a
  stamped : w ≤ age_of (suc v) (n / 8) m.kept
  aged : (u b : ℕ) → ((u ≡ v) × (b ≡ n / 8) → ⊥) → age_of (suc u) b h.kept ≤ age_of (suc u) b m.kept

set_held : (size v n w : ℕ) (bs : List ℕ) (h m : Held) → Sound size h.kept → length bs ≡ 512 → sets_held (suc v) n bs w h ≡ Some m → SetHeld size v n w bs h m
unfolding sets_held
set_held size v n w bs h m x long e = go (sets (suc v) n (all_zero bs) w h.kept) refl e
  where
    shows : (b : Bool) → all_zero bs ≡ b → cond b (zeros 512) bs ≡ bs
    shows true t = ap zeros (sym long) ∙ zeros_are bs t
    shows false t = refl

    go : (o : Option WasSet) → sets (suc v) n (all_zero bs) w h.kept ≡ o → set_of bs h.data' o ≡ Some m → SetHeld size v n w bs h m
    go None q f = no_held m f
    go (Some r) q f =
        let same : was_stored bs h.data' r ≡ m = cc in
        let s : SetsOne size v n (all_zero bs) w h.kept r = set_means size v n w (all_zero bs) h.kept r x q in
        subst (λ (z : Held). SetHeld size v n w bs h z) same (record {
          sound = s.sound;
          found = s.found bs h.data' ∙ shows (all_zero bs) refl;
          others = λ u a o. s.others bs h.data' u a o;
          stamped = s.stamped;
          aged = s.aged;
        })

-- what comes after
go_on : {P : Type 0} (f : Held → Option Held) (o : Option Held) (m : Held) → then_held f o ≡ Some m → ((t : Held) → o ≡ Some t → f t ≡ Some m → P) → P
go_on f None m e k = no_held m e
go_on f (Some t) m e k = k t refl e

-- A BLOCK'S SECTORS, from a slot on
record SlotsHeld (size v b w s : ℕ) (xs : List (List ℕ)) (h m : Held) : Type 0 where
  sound : Sound size m.kept
  found : (i n : ℕ) → i < length xs → n ≡ 8 * b + s + i → shown m.data' m.kept (suc v) n ≡ get_or xs i []
  others : (u a : ℕ) → ((u ≡ v) × (8 * b + s ≤ a) × (a < 8 * b + s + length xs) → ⊥) → shown m.data' m.kept (suc u) a ≡ shown h.data' h.kept (suc u) a
  stamped : (1 ≤ length xs) ⊎ (w ≤ age_of (suc v) b h.kept) → w ≤ age_of (suc v) b m.kept
  aged : (u c : ℕ) → ((u ≡ v) × (c ≡ b) → ⊥) → age_of (suc u) c h.kept ≤ age_of (suc u) c m.kept

slots_held : (size v b w s : ℕ) (xs : List (List ℕ)) (h m : Held) → Sound size h.kept → s + length xs ≤ 8 → ((i : ℕ) → i < length xs → length (get_or xs i []) ≡ 512) → fills_slots (suc v) b w s xs h ≡ Some m → SlotsHeld size v b w s xs h m
unfolding fills_slots
slots_held size v b w s [] h m x few long e =
    let same : h ≡ m = cc in
    subst (λ (z : Held). SlotsHeld size v b w s [] h z) same (record { sound = x; found = λ i n l q. absurd (omega arith); others = λ u a o. refl; stamped = λ k. stamp k; aged = λ u c o. omega arith })
  where
    stamp : (1 ≤ 0) ⊎ (w ≤ age_of (suc v) b h.kept) → w ≤ age_of (suc v) b h.kept
    stamp (inl l) = absurd (omega arith)
    stamp (inr l) = l
slots_held size v b w s (y ∷ ys) h m x few long e = go_on (fills_slots (suc v) b w (suc s) ys) (sets_held (suc v) (8 * b + s) y w h) m e (λ t q f. both t (set_held size v (8 * b + s) w y h t x (long 0 (omega arith)) q) f (λ z. slots_held size v b w (suc s) ys t m z (omega arith) (λ i l. long (suc i) (omega arith)) f))
  where
    both : (t : Held) → SetHeld size v (8 * b + s) w y h t → fills_slots (suc v) b w (suc s) ys t ≡ Some m → (Sound size t.kept → SlotsHeld size v b w (suc s) ys t m) → SlotsHeld size v b w s (y ∷ ys) h m
    both t one f next =
        let r = next one.sound in
        let here : (8 * b + s) / 8 ≡ b = omega arith in
        record {
          sound = r.sound;
          found = λ i n l q. find_at i n l q r;
          others = λ u a o. r.others u a (λ z. o (z.0, omega (arith, z.1), omega (arith, z.2))) ∙ one.others u a (λ z. o (z.0, omega (arith, z.1), omega (arith, z.1)));
          stamped = λ k. r.stamped (inr (subst (λ (c : ℕ). w ≤ age_of (suc v) c t.kept) here one.stamped));
          aged = λ u c o. omega (arith, one.aged u c (λ z. o (z.0, z.1 ∙ here)), r.aged u c o);
        }
      where
        find_at : (i n : ℕ) → i < length (y ∷ ys) → n ≡ 8 * b + s + i → SlotsHeld size v b w (suc s) ys t m → shown m.data' m.kept (suc v) n ≡ get_or (y ∷ ys) i []
        find_at zero n l q r =
            let same : n ≡ 8 * b + s = omega (arith, q) in
            r.others v n (λ z. absurd (omega (arith, z.1, q))) ∙ ap (λ (a : ℕ). shown t.data' t.kept (suc v) a) same ∙ one.found
        find_at (suc i) n l q r = r.found i n (omega arith) (omega (arith, q))

-- BLOCKS, one after the other
record BlocksHeld (size : ℕ) (bs : List Filled) (h m : Held) : Type 0 where
  sound : Sound size m.kept
  listed : (v b : ℕ) (x : Filled) → find (is_filled (suc v) b) bs ≡ Some x → (i : ℕ) → i < 8 → shown m.data' m.kept (suc v) (8 * b + i) ≡ get_or x.sectors i []
  stamped : (v b : ℕ) (x : Filled) → find (is_filled (suc v) b) bs ≡ Some x → x.stamp ≤ age_of (suc v) b m.kept
  unlisted : (v b : ℕ) → find (is_filled (suc v) b) bs ≡ None → Stays (suc v) b h m

before : (v : ℕ) → 1 ≤ v → (p : ℕ) × (v ≡ suc p)
before zero l = absurd (omega arith)
before (suc p) l = (p, refl)

stays_on : (v b : ℕ) (h t m : Held) → Stays v b h t → Stays v b t m → Stays v b h m
stays_on v b h t m x y = record { shown_same = λ i l. y.shown_same i l ∙ x.shown_same i l; aged = omega (arith, x.aged, y.aged) }

-- one block, and then the others
module _ (size : ℕ) (x : Filled) (xs : List Filled) (p : ℕ) (is : x.volume ≡ suc p) (eight : length x.sectors ≡ 8) (h t m : Held) (one : SlotsHeld size p x.block x.stamp 0 x.sectors h t) (rest : BlocksHeld size xs t m) (once : find (is_filled x.volume x.block) xs ≡ None) where
  own : (v b : ℕ) → is_filled (suc v) b x ≡ true → (v ≡ p) × (b ≡ x.block)
  own v b e =
      let f = both_true (x.volume == suc v) (x.block == b) e in
      (omega (arith, is, eqb-true x.volume (suc v) f.0), sym (eqb-true x.block b f.1))

  its_own : (v b : ℕ) → v ≡ p → b ≡ x.block → is_filled (suc v) b x ≡ true
  its_own v b e f = and_from (x.volume == suc v) (x.block == b) (eq-eqb x.volume (suc v) (omega (arith, is, e))) (eq-eqb x.block b (sym f))

  later : Stays (suc p) x.block t m
  later = rest.unlisted p x.block (ap (λ (n : ℕ). find (is_filled n x.block) xs) (sym is) ∙ once)

  here : (i : ℕ) → i < 8 → shown m.data' m.kept (suc p) (8 * x.block + i) ≡ get_or x.sectors i []
  here i l = later.shown_same i l ∙ one.found i (8 * x.block + i) (omega (arith, eight)) (omega arith)

  young : x.stamp ≤ age_of (suc p) x.block m.kept
  young = omega (arith, later.aged, one.stamped (inl (omega (arith, eight))))

  listed_more : (v b : ℕ) (y : Filled) (z : Bool) → is_filled (suc v) b x ≡ z → cond z (Some x) (find (is_filled (suc v) b) xs) ≡ Some y → (i : ℕ) → i < 8 → shown m.data' m.kept (suc v) (8 * b + i) ≡ get_or y.sectors i []
  listed_more v b y true e f i l =
      let same : x ≡ y = cc in
      let q = own v b e in
      ap (λ (n : ℕ). shown m.data' m.kept (suc n) (8 * b + i)) q.0 ∙ ap (λ (n : ℕ). shown m.data' m.kept (suc p) (8 * n + i)) q.1 ∙ here i l ∙ ap (λ (z : Filled). get_or z.sectors i []) same
  listed_more v b y false e f i l = rest.listed v b y f i l

  stamped_more : (v b : ℕ) (y : Filled) (z : Bool) → is_filled (suc v) b x ≡ z → cond z (Some x) (find (is_filled (suc v) b) xs) ≡ Some y → y.stamp ≤ age_of (suc v) b m.kept
  stamped_more v b y true e f =
      let same : x ≡ y = cc in
      let q = own v b e in
      subst (λ (n : ℕ). y.stamp ≤ age_of (suc n) b m.kept) (sym q.0) (subst (λ (n : ℕ). y.stamp ≤ age_of (suc p) n m.kept) (sym q.1) (subst (λ (z : Filled). z.stamp ≤ age_of (suc p) x.block m.kept) same young))
  stamped_more v b y false e f = rest.stamped v b y f

  unlisted_more : (v b : ℕ) (z : Bool) → is_filled (suc v) b x ≡ z → cond z (Some x) (find (is_filled (suc v) b) xs) ≡ None → Stays (suc v) b h m
  unlisted_more v b true e f = let z : ◌≡◌ {A = ℕ} 0 1 = cc in absurd (omega arith)
  unlisted_more v b false e f =
      let other : (v ≡ p) × (b ≡ x.block) → ⊥ = λ z. clash (sym (its_own v b z.0 z.1) ∙ e) in
      stays_on (suc v) b h t m (record { shown_same = λ i l. one.others v (8 * b + i) (λ z. other (z.0, omega (arith, z.1, z.2, eight))); aged = one.aged v b other }) (rest.unlisted v b f)

  block_more : BlocksHeld size (x ∷ xs) h m
  block_more = record {
    sound = rest.sound;
    listed = λ v b y f i l. listed_more v b y (is_filled (suc v) b x) refl f i l;
    stamped = λ v b y f. stamped_more v b y (is_filled (suc v) b x) refl f;
    unlisted = λ v b f. unlisted_more v b (is_filled (suc v) b x) refl f;
  }

blocks_held : (size : ℕ) (from : Key) (next : Option Key) (bs : List Filled) (h m : Held) → Sound size h.kept → AreWhole from next bs → fills_all bs h ≡ Some m → BlocksHeld size bs h m
unfolding fills_all
blocks_held size from next [] h m x w e =
    let same : h ≡ m = cc in
    subst (λ (z : Held). BlocksHeld size [] h z) same (record {
      sound = x;
      listed = λ v b y f i l. let z : ◌≡◌ {A = ℕ} 0 1 = cc in absurd (omega arith);
      stamped = λ v b y f. let z : ◌≡◌ {A = ℕ} 0 1 = cc in absurd (omega arith);
      unlisted = λ v b f. record { shown_same = λ i l. refl; aged = omega arith };
    })
blocks_held size from next (y ∷ ys) h m x w e = go_on (fills_all ys) (fills y h) m e (λ t q f. both t q (λ z. blocks_held size from next ys t m z w.2 f))
  where
    both : (t : Held) → fills y h ≡ Some t → (Sound size t.kept → BlocksHeld size ys t m) → BlocksHeld size (y ∷ ys) h m
    both t q more =
        let p = before y.volume w.0.volume in
        let set : fills_slots (suc p.0) y.block y.stamp 0 y.sectors h ≡ Some t = subst (λ (v : ℕ). fills_slots v y.block y.stamp 0 y.sectors h ≡ Some t) p.1 q in
        let one = slots_held size p.0 y.block y.stamp 0 y.sectors h t x (omega (arith, w.0.eight)) (λ i l. w.0.long i (omega (arith, w.0.eight))) set in
        block_more size y ys p.0 p.1 w.0.eight h t m one (more one.sound) w.1

-- what isn't in the range isn't listed
outside_unlisted : (from : Key) (next : Option Key) (bs : List Filled) (v b : ℕ) → AreWhole from next bs → is_in from next v b ≡ false → find (is_filled v b) bs ≡ None
outside_unlisted from next [] v b w e = refl
outside_unlisted from next (x ∷ xs) v b w e = go (is_filled v b x) refl (outside_unlisted from next xs v b w.2 e)
  where
    go : (z : Bool) → is_filled v b x ≡ z → find (is_filled v b) xs ≡ None → cond z (Some x) (find (is_filled v b) xs) ≡ None
    go true t r =
        let f = both_true (x.volume == v) (x.block == b) t in
        clash (sym w.0.within ∙ ap (λ (n : ℕ). is_in from next n x.block) (eqb-true x.volume v f.0) ∙ ap (λ (n : ℕ). is_in from next v n) (eqb-true x.block b f.1) ∙ e)
    go false t r = r

-- WHAT GOES FIRST
within_free : (from : Key) (next : Option Key) → is_within from next free_entry ≡ false
unfolding is_within
within_free from next = refl

within_own : (from : Key) (next : Option Key) (v b : ℕ) (e : Entry) → is_block (suc v) b e ≡ true → is_within from next e ≡ is_in from next (suc v) b
unfolding is_within
within_own from next v b e t =
    let key : entry_key e ≡ key_of (suc v) b = same_key (suc v) b e t in
    let used : (e.volume.0 == 0) ≡ false = ne_eqb e.volume.0 0 (λ z. absurd (omega (arith, ap (λ (q : Key). q.volume.0) key, z))) in
    ap (λ (z : Bool). not z && (not (is_before (entry_key e) from) && is_below (entry_key e) next)) used ∙ ap (λ (q : Key). not (is_before q from) && is_below q next) key

record Empties (size : ℕ) (from : Key) (next : Option Key) (h m : Held) : Type 0 where
  sound : Sound size m.kept
  inside : (v b : ℕ) → is_in from next (suc v) b ≡ true → (i : ℕ) → i < 8 → shown m.data' m.kept (suc v) (8 * b + i) ≡ zeros 512
  outside : (v b : ℕ) → is_in from next (suc v) b ≡ false → Stays (suc v) b h m

empties : (size : ℕ) (from : Key) (next : Option Key) (h : Held) → Sound size h.kept → Empties size from next h (emptied from next h)
empties size from next h x =
    record {
      sound = w.sound;
      inside = λ v b e i l. zero_in v b e i l (look_own (suc v) b h.kept.entries);
      outside = λ v b e. stays v b (out v b e (look_own (suc v) b h.kept.entries));
    }
  where
    w : Vacates size (is_within from next) h.kept (vacates_where (is_within from next) (length h.kept.entries) h.kept)
    w = vacate_means size (is_within from next) h.kept x

    eighth : (b i : ℕ) → i < 8 → (8 * b + i) / 8 ≡ b
    eighth b i l = omega arith

    at : (v b i : ℕ) (z : Bool) → i < 8 → is_within from next (look (suc v) b h.kept.entries) ≡ z → is_within from next (look (suc v) ((8 * b + i) / 8) h.kept.entries) ≡ z
    at v b i z l e = ap (λ (c : ℕ). is_within from next (look (suc v) c h.kept.entries)) (eighth b i l) ∙ e

    zero_in : (v b : ℕ) → is_in from next (suc v) b ≡ true → (i : ℕ) → i < 8 → (look (suc v) b h.kept.entries ≡ free_entry) ⊎ (is_block (suc v) b (look (suc v) b h.kept.entries) ≡ true) → shown h.data' (emptied from next h).kept (suc v) (8 * b + i) ≡ zeros 512
    zero_in v b e i l (inl q) =
        w.others h.data' v (8 * b + i) (at v b i false l (ap (is_within from next) q ∙ within_free from next)) ∙ shown_free h.data' h.kept (suc v) (8 * b + i) (ap (λ (c : ℕ). look (suc v) c h.kept.entries) (eighth b i l) ∙ q)
    zero_in v b e i l (inr q) = w.gone h.data' v (8 * b + i) (at v b i true l (within_own from next v b (look (suc v) b h.kept.entries) q ∙ e))

    out : (v b : ℕ) → is_in from next (suc v) b ≡ false → (look (suc v) b h.kept.entries ≡ free_entry) ⊎ (is_block (suc v) b (look (suc v) b h.kept.entries) ≡ true) → is_within from next (look (suc v) b h.kept.entries) ≡ false
    out v b e (inl q) = ap (is_within from next) q ∙ within_free from next
    out v b e (inr q) = within_own from next v b (look (suc v) b h.kept.entries) q ∙ e

    stays : (v b : ℕ) → is_within from next (look (suc v) b h.kept.entries) ≡ false → Stays (suc v) b h (emptied from next h)
    stays v b e = record { shown_same = λ i l. w.others h.data' v (8 * b + i) (at v b i false l e); aged = omega (arith, w.aged v b e) }

-- AND THE FLOOR LAST
raised_stays : (v b w : ℕ) (h : Held) → Stays v b h (floor_raised w h)
raised_stays v b w h = record {
  shown_same = λ i l. ap (content h.data') (place_looked v (8 * b + i) (raised w h.kept) ∙ sym (place_looked v (8 * b + i) h.kept));
  aged = omega (arith, stamp_looked v b h.kept, stamp_looked v b (raised w h.kept));
}

raised_sound : (size w : ℕ) (k : Kept) → Sound size k → Sound size (raised w k)
raised_sound size w k x = record { entries = x.entries; taken = x.taken; none = x.none; eight = x.eight; apart = x.apart; total = x.total; single = x.single }

module _ (size : ℕ) (from : Key) (next : Option Key) (whole : Bool) (floor : ℕ) (bs : List Filled) (h t o : Held) (w : AreWhole from next bs) (x : BlocksHeld size bs t o) where
  abbrev m : Held
  m = floor_raised floor o

  last : (v b : ℕ) → Stays (suc v) b o m
  last v b = raised_stays (suc v) b floor o

  put_together : ((v b : ℕ) → whole ≡ true → is_in from next (suc v) b ≡ true → (i : ℕ) → i < 8 → shown t.data' t.kept (suc v) (8 * b + i) ≡ zeros 512) → ((v b : ℕ) → whole ≡ false → Stays (suc v) b h t) → ((v b : ℕ) → is_in from next (suc v) b ≡ false → Stays (suc v) b h t) →
      Replaced size from next whole floor bs h (floor_raised floor o)
  put_together all part out = record {
    sound = raised_sound size floor o.kept x.sound;
    listed = λ v b y f i l. (last v b).shown_same i l ∙ x.listed v b y f i l;
    stamped = λ v b y f. omega (arith, (last v b).aged, x.stamped v b y f);
    unlisted_whole = λ v b e q f i l. (last v b).shown_same i l ∙ (x.unlisted v b f).shown_same i l ∙ all v b e q i l;
    unlisted = λ v b e f. stays_on (suc v) b h o m (stays_on (suc v) b h t o (part v b e) (x.unlisted v b f)) (last v b);
    outside = λ v b q. stays_on (suc v) b h o m (stays_on (suc v) b h t o (out v b q) (x.unlisted v b (outside_unlisted from next bs (suc v) b w q))) (last v b);
    floor_risen = omega arith;
  }

pub replace_means : ReplaceMeans
unfolding replaces
replace_means size from next false most floor bs h m x w e = go (fills_all bs h) refl e
  where
    go : (o : Option Held) → fills_all bs h ≡ o → option_map (floor_raised floor) o ≡ Some m → Replaced size from next false floor bs h m
    go None q f = no_held m f
    go (Some o) q f =
        let same : floor_raised floor o ≡ m = cc in
        subst (λ (z : Held). Replaced size from next false floor bs h z) same
        (put_together size from next false floor bs h h o w (blocks_held size from next bs h o x w q) (λ v b z. clash (sym z)) (λ v b z. record { shown_same = λ i l. refl; aged = omega arith }) (λ v b z. record { shown_same = λ i l. refl; aged = omega arith }))
replace_means size from next true most floor bs h m x w e = go (nat_lt most (count_by (is_within from next) h.kept.entries)) (fills_all bs (emptied from next h)) refl e
  where
    start : Empties size from next h (emptied from next h)
    start = empties size from next h x

    go : (b : Bool) (o : Option Held) → fills_all bs (emptied from next h) ≡ o → cond b None (option_map (floor_raised floor) o) ≡ Some m → Replaced size from next true floor bs h m
    go true o q f = no_held m f
    go false None q f = no_held m f
    go false (Some o) q f =
        let same : floor_raised floor o ≡ m = cc in
        subst (λ (z : Held). Replaced size from next true floor bs h z) same
        (put_together size from next true floor bs h (emptied from next h) o w (blocks_held size from next bs (emptied from next h) o start.sound w q) (λ v b z. start.inside v b) (λ v b z. clash z) start.outside)
