-- A record in a slot: each of its sectors is found as its part, and read back it is the writes that it was made of.
use Rattle.std.proofs.Common.{◌≡◌, ℕ, zero, suc, ◌+◌, ◌*◌, ◌/◌, ◌%◌, ◌<◌, ◌≤◌, Bool, true, false, cond, ◌&&◌, T, eqb, ltb, leb, ◌≢◌, ◌⊎◌, List, [], ◌∷◌, ◌++◌, length, get_or, take, drop, sym, refl, ap, ◌∙◌, inl, inr, add-one, arith, length-drop, take-append-drop, length-take, drop-cons, ltb-true, ne_eqb, eqb-true, leb-true, Ok, Some}
use borrow.Author.Tests.{eqb-false}
use Rattle.std.proofs.lemmas.List.{drop_all}
use Rattle.disks.specs.Device.{all_bytes}
use Rattle.journal.specs.Format.{most_writes, guarded, part_of, half_of, found}
use Rattle.journal.specs.Scans.{write_at, writes_from}
use Rattle.journal.specs.Programs.{no_write, half_at, record_sector, record_from, named, all_in_area}
use Rattle.recovery.specs.Machines.{whole_sectors, last}
use Rattle.journal.specs.declared.part.Part.{Part}
use Rattle.journal.specs.declared.state.Write.{Write}
use Rattle.octets.proofs.Fields.{bytes_take, bytes_drop}
use Rattle.recovery.proofs.Sound.{Sound, part_back, found_part, half_back, length_part, bytes-part}
use Rattle.recovery.proofs.Writing.{Among, this, further}
use Rattle.recovery.proofs.Lasts.{last_other}
use Rattle.octets.proofs.Numbers.{both}
use Rattle.recovery.proofs.Tests.{is_so}

pub area_at : (size : ℕ) (ws : List Write) (k : ℕ) → T (all_in_area size ws) → k < length ws → (guarded ≤ (get_or ws k no_write).target.0) × ((get_or ws k no_write).target.0 < size)
unfolding all_in_area
area_at size [] k t l = absurd (omega arith)
area_at size (w ∷ ws) zero t l =
    let a = both (leb guarded w.target.0 && ltb w.target.0 size) (all_in_area size ws) t in
    let b = both (leb guarded w.target.0) (ltb w.target.0 size) a.0 in
    (leb-true guarded w.target.0 (is_so (leb guarded w.target.0) b.0), ltb-true w.target.0 size (is_so (ltb w.target.0 size) b.1))
area_at size (w ∷ ws) (suc k) t l = area_at size ws k (both (leb guarded w.target.0 && ltb w.target.0 size) (all_in_area size ws) t).1 (omega arith)

pub whole_at : (ws : List Write) (k : ℕ) → T (whole_sectors ws) → k < length ws → (length (get_or ws k no_write).bytes ≡ 512) × T (all_bytes (get_or ws k no_write).bytes)
unfolding whole_sectors
whole_at [] k t l = absurd (omega arith)
whole_at (w ∷ ws) zero t l =
    let a = both (eqb (length w.bytes) 512 && all_bytes w.bytes) (whole_sectors ws) t in
    let b = both (eqb (length w.bytes) 512) (all_bytes w.bytes) a.0 in
    (eqb-true (length w.bytes) 512 (is_so (eqb (length w.bytes) 512) b.0), b.1)
whole_at (w ∷ ws) (suc k) t l = whole_at ws k (both (eqb (length w.bytes) 512 && all_bytes w.bytes) (whole_sectors ws) t).1 (omega arith)

-- what a slot holds only matters up to the record's length
pub writes_cong : (g h : ℕ → List ℕ) (i k : ℕ) → ((q : ℕ) → q < 2 * (i + k) → g q ≡ h q) → writes_from g i k ≡ writes_from h i k
unfolding writes_from
writes_cong g h i zero e = refl
writes_cong g h i (suc k) e =
    let a = e (2 * i) (omega arith) in
    let b = e (2 * i + 1) (omega arith) in
    ap (λ (x : List ℕ). record { target = (part_of x).target; bytes = half_of x ++ half_of (g (2 * i + 1)) } ∷ writes_from g (i + 1) k) a
    ∙ ap (λ (x : List ℕ). record { target = (part_of (h (2 * i))).target; bytes = half_of (h (2 * i)) ++ half_of x } ∷ writes_from g (i + 1) k) b
    ∙ ap (λ (xs : List Write). write_at h i ∷ xs) (writes_cong g h (i + 1) k (λ q l. e q (omega arith)))

-- the writes of a record for its slot
pub from_out : (at n : ℕ) (ws : List Write) (j k s : ℕ) → (s < at + j) ⊎ (at + (j + k) ≤ s) → named s (record_from at n ws j k) ≡ false
unfolding record_from named
from_out at n ws j zero s o = refl
from_out at n ws j (suc k) s o = let ne : s ≢ at + j = omega arith in rw (ne_eqb s (at + j) ne) (from_out at n ws (j + 1) k s (elim o [ inl l ↦ inl (omega arith) | inr l ↦ inr (omega arith) ]))

pub from_in : (at n : ℕ) (ws : List Write) (j k q : ℕ) (x : List ℕ) → j ≤ q → q < j + k → last (record_from at n ws j k) x (at + q) ≡ record_sector n ws q
unfolding record_from last
from_in at n ws j zero q x a b = absurd (omega arith)
from_in at n ws j (suc k) q x a b = go (eqb (at + q) (at + j)) refl (λ l y. from_in at n ws (j + 1) k q y l (omega arith))
  where
    go : (c : Bool) → eqb (at + q) (at + j) ≡ c → (j + 1 ≤ q → (y : List ℕ) → last (record_from at n ws (j + 1) k) y (at + q) ≡ record_sector n ws q) → last (record_from at n ws (j + 1) k) (cond c (record_sector n ws j) x) (at + q) ≡ record_sector n ws q
    go true e more =
        let same : q ≡ j = omega (arith, eqb-true (at + q) (at + j) e) in
        last_other (record_from at n ws (j + 1) k) (record_sector n ws j) (at + q) (from_out at n ws (j + 1) k (at + q) (inl (omega arith))) ∙ ap (record_sector n ws) (sym same)
    go false e more = more (omega (arith, eqb-false (at + q) (at + j) e)) x

pub from_among : (at n : ℕ) (ws : List Write) (j k s : ℕ) (x : List ℕ) → Among s x (record_from at n ws j k) → (q : ℕ) × (s ≡ at + q) × (q < j + k) × (x ≡ record_sector n ws q)
unfolding record_from
from_among at n ws j zero s x a = elim a [ ]
from_among at n ws j (suc k) s x (this e f) = (j, e, omega arith, f)
from_among at n ws j (suc k) s x (further a) = let (q, e, l, f) = from_among at n ws (j + 1) k s x a in (q, e, omega arith, f)

-- a record that may be written: its sectors, one by one, and all of them
module _ (size n : ℕ) (ws : List Write) (some : 1 ≤ n) (below : n < 4611686018427387904) (few : length ws ≤ most_writes) (area : T (all_in_area size ws)) (whole : T (whole_sectors ws)) (fits : size ≤ 1099511627776) where
  abbrev pub part : ℕ → Part
  part j = record { number = n; index = j; length = 2 * length ws; target = (get_or ws (j / 2) no_write).target }

  pub part_sound : (j : ℕ) → j < 2 * length ws → Sound size j (part j)
  part_sound j l =
      let a = area_at size ws (j / 2) area (omega arith) in
      record { some = some; below = below; index = refl; inside = l; short = omega arith; even = omega arith; guarded = a.0; within = a.1 }

  half-long : (j : ℕ) → j < 2 * length ws → length (half_at (j % 2) (get_or ws (j / 2) no_write).bytes) ≡ 256
  half-long j l = go (j % 2) (omega arith) (get_or ws (j / 2) no_write).bytes (whole_at ws (j / 2) whole (omega arith)).0
    where
      go : (h : ℕ) → h < 2 → (bs : List ℕ) → length bs ≡ 512 → length (half_at h bs) ≡ 256
      go zero k bs e = length-take 256 bs ∙ omega arith
      go (suc h) k bs e = length-drop 256 bs ∙ omega arith

  pub sector_found : (j : ℕ) → j < 2 * length ws → found size j (record_sector n ws j) ≡ Ok (Some (part j))
  unfolding record_sector
  sector_found j l = found_part size j (part j) (half_at (j % 2) (get_or ws (j / 2) no_write).bytes) (part_sound j l) fits

  pub sector-part : (j : ℕ) → j < 2 * length ws → part_of (record_sector n ws j) ≡ part j
  unfolding record_sector
  sector-part j l = part_back size j (part j) (half_at (j % 2) (get_or ws (j / 2) no_write).bytes) (part_sound j l) fits

  pub sector-half : (j : ℕ) → j < 2 * length ws → half_of (record_sector n ws j) ≡ half_at (j % 2) (get_or ws (j / 2) no_write).bytes
  unfolding record_sector
  sector-half j l = half_back size j (part j) (half_at (j % 2) (get_or ws (j / 2) no_write).bytes) (part_sound j l) fits (half-long j l)

  -- and it is a sector of bytes
  pub sector-bytes : (j : ℕ) → j < 2 * length ws → (length (record_sector n ws j) ≡ 512) × T (all_bytes (record_sector n ws j))
  unfolding record_sector
  sector-bytes j l = (length_part size j (part j) (half_at (j % 2) (get_or ws (j / 2) no_write).bytes) (part_sound j l) fits (half-long j l), bytes-part (part j) (half_at (j % 2) (get_or ws (j / 2) no_write).bytes) (go (j % 2) (get_or ws (j / 2) no_write).bytes (whole_at ws (j / 2) whole (omega arith)).1))
    where
      go : (h : ℕ) (bs : List ℕ) → T (all_bytes bs) → T (all_bytes (half_at h bs))
      go zero bs t = bytes_take 256 bs t
      go (suc h) bs t = bytes_drop 256 bs t

  -- one write is read back
  write_back : (g : ℕ → List ℕ) (i : ℕ) → i < length ws → g (2 * i) ≡ record_sector n ws (2 * i) → g (2 * i + 1) ≡ record_sector n ws (2 * i + 1) → write_at g i ≡ get_or ws i no_write
  write_back g i l a b =
      let w = get_or ws i no_write in
      let e : 2 * i / 2 ≡ i = omega arith in
      let o : (2 * i + 1) / 2 ≡ i = omega arith in
      let e' : 2 * i % 2 ≡ 0 = omega arith in
      let o' : (2 * i + 1) % 2 ≡ 1 = omega arith in
      let t : (part_of (g (2 * i))).target ≡ w.target = ap (λ (x : List ℕ). (part_of x).target) a ∙ ap (λ (p : Part). p.target) (sector-part (2 * i) (omega arith)) ∙ ap (λ (k : ℕ). (get_or ws k no_write).target) e in
      let x : half_of (g (2 * i)) ≡ take 256 w.bytes = ap half_of a ∙ sector-half (2 * i) (omega arith) ∙ rw (e, e') in
      let y : half_of (g (2 * i + 1)) ≡ drop 256 w.bytes = ap half_of b ∙ sector-half (2 * i + 1) (omega arith) ∙ rw (o, o') in
      rw (t, x, y, take-append-drop 256 w.bytes)

  pub writes_back : (g : ℕ → List ℕ) (i k : ℕ) → i + k ≡ length ws → ((q : ℕ) → q < 2 * length ws → g q ≡ record_sector n ws q) → writes_from g i k ≡ drop i ws
  unfolding writes_from
  writes_back g i zero e h = sym (drop_all i ws (omega arith))
  writes_back g i (suc k) e h =
      let l : i < length ws = omega arith in
      ap (λ (w : Write). w ∷ writes_from g (i + 1) k) (write_back g i l (h (2 * i) (omega arith)) (h (2 * i + 1) (omega arith)))
      ∙ ap (λ (xs : List Write). get_or ws i no_write ∷ xs) (writes_back g (i + 1) k (omega arith) h) ∙ rw (add-one) (sym (drop-cons ws i no_write l))
