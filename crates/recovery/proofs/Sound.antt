-- What a sector of the journal is found to be: blank sectors and parts of records as they were written.
use Rattle.std.proofs.Common.{◌≡◌, ℕ, zero, suc, ◌/◌, ◌%◌, ◌^◌, ◌<◌, ◌≤◌, Bool, true, false, cond, ◌&&◌, T, eqb, ltb, leb, List, [], ◌∷◌, ◌++◌, length, get_or, take, replicate, sym, refl, ap, ◌∙◌, subst, arith, length-append, ltb-true, lt-ltb, eq-eqb, eqb-true, le-leb, leb-true, Ok, Err, Some, None}
use Rattle.std.proofs.lemmas.Bool.{and_parts}
use Rattle.std.proofs.lemmas.List.{take_at, drop_at}
use Rattle.disks.specs.Device.{zeros, all_bytes}
use Rattle.octets.specs.Numbers.{field, numbers_bytes, small, bytes_of}
use Rattle.octets.proofs.Numbers.{join}
use Rattle.octets.proofs.Fields.{field_at, length-numbers}
use Rattle.journal.specs.Format.{mark, slot_sectors, guarded, numbers_end, part_bytes, part_of, half_of, is_sound, found, foreign}
use Rattle.journal.specs.declared.part.Part.{Part}

pub found_blank : (size i : ℕ) → found size i (zeros 512) ≡ Ok None
unfolding found zeros
found_blank size i = refl

-- a part that can stand at an index
pub record Sound (size i : ℕ) (p : Part) : Type 0 where
  pub some : 1 ≤ p.number
  pub below : p.number < 4611686018427387904
  pub index : p.index ≡ i
  pub inside : i < p.length
  pub short : p.length ≤ slot_sectors
  pub even : p.length % 2 ≡ 0
  pub guarded : guarded ≤ p.target.0
  pub within : p.target.0 < size

four : (a b c d : Bool) → a && b && c && d ≡ true → (a ≡ true) × (b ≡ true) × (c ≡ true) × (d ≡ true)
four a b c d h = let x = and_parts (a && b && c) d h in let y = and_parts (a && b) c x.0 in let z = and_parts a b y.0 in (z.0, z.1, y.1, x.1)

pub sound_is : (size i : ℕ) (p : Part) → is_sound size i p ≡ true → Sound size i p
unfolding is_sound
sound_is size i p h =
    let a = four (leb 1 p.number && ltb p.number numbers_end) (eqb p.index i) (ltb i p.length && leb p.length slot_sectors && eqb (p.length % 2) 0) (leb guarded p.target.0 && ltb p.target.0 size) h in
    let n = and_parts (leb 1 p.number) (ltb p.number numbers_end) a.0 in
    let l = and_parts (ltb i p.length && leb p.length slot_sectors) (eqb (p.length % 2) 0) a.2 in
    let m = and_parts (ltb i p.length) (leb p.length slot_sectors) l.0 in
    let t = and_parts (leb guarded p.target.0) (ltb p.target.0 size) a.3 in
    record {
      some = leb-true 1 p.number n.0;
      below = ltb-true p.number numbers_end n.1;
      index = eqb-true p.index i a.1;
      inside = ltb-true i p.length m.0;
      short = leb-true p.length slot_sectors m.1;
      even = eqb-true (p.length % 2) 0 l.1;
      guarded = leb-true guarded p.target.0 t.0;
      within = ltb-true p.target.0 size t.1;
    }

pub is_sound_lem : (size i : ℕ) (p : Part) → Sound size i p → is_sound size i p ≡ true
unfolding is_sound
is_sound_lem size i p s =
    rw (le-leb 1 p.number s.some, lt-ltb p.number numbers_end s.below, eq-eqb p.index i s.index, lt-ltb i p.length s.inside, le-leb p.length slot_sectors s.short, eq-eqb (p.length % 2) 0 s.even, le-leb guarded p.target.0 s.guarded, lt-ltb p.target.0 size s.within)

-- what is found as a part is sound, and what the bytes say
pub found_is : (size i : ℕ) (b : List ℕ) (p : Part) → found size i b ≡ Ok (Some p) → (p ≡ part_of b) × Sound size i p
unfolding found
found_is size i b p h = go (eqb (field 0 b) 0) (eqb (field 0 b) mark) (is_sound size i (part_of b)) refl h
  where
    go : (x y z : Bool) → is_sound size i (part_of b) ≡ z → cond x (Ok None) (cond (y && z) (Ok (Some (part_of b))) (Err foreign)) ≡ Ok (Some p) → (p ≡ part_of b) × Sound size i p
    go true y z e q = let c : ◌≡◌ {A = ℕ} 0 1 = cc in absurd (omega arith)
    go false true true e q = let same : p ≡ part_of b = cc in (same, subst (Sound size i) (sym same) (sound_is size i (part_of b) e))
    go false true false e q = let c : ◌≡◌ {A = ℕ} 0 1 = cc in absurd (omega arith)
    go false false z e q = let c : ◌≡◌ {A = ℕ} 0 1 = cc in absurd (omega arith)

-- bytes of a part: five numbers, a half, zeros
small_five : (a b c d e : ℕ) → a < 2 ^ 64 → b < 2 ^ 64 → c < 2 ^ 64 → d < 2 ^ 64 → e < 2 ^ 64 → T (small (a ∷ b ∷ c ∷ d ∷ e ∷ []))
unfolding small
small_five a b c d e ha hb hc hd he = rw (lt-ltb a (2 ^ 64) ha, lt-ltb b (2 ^ 64) hb, lt-ltb c (2 ^ 64) hc, lt-ltb d (2 ^ 64) hd, lt-ltb e (2 ^ 64) he) tt

module _ (size i : ℕ) (p : Part) (half : List ℕ) (s : Sound size i p) (fits : size ≤ 1099511627776) where
  abbrev numbers : List ℕ
  numbers = mark ∷ p.number ∷ p.index ∷ p.length ∷ p.target.0 ∷ []

  fives : T (small numbers)
  fives = small_five mark p.number p.index p.length p.target.0 (omega arith) (omega (arith, s.below)) (omega (arith, s.index, s.inside, s.short)) (omega (arith, s.short)) (omega (arith, s.within))

  at_field : (k : ℕ) → k < 5 → field k (part_bytes p half) ≡ get_or numbers k 0
  unfolding part_bytes
  at_field k l = field_at k numbers (half ++ replicate 216 0) fives l

  pub part_back : part_of (part_bytes p half) ≡ p
  part_back = let a = at_field 1 (omega arith) in let b = at_field 2 (omega arith) in let c = at_field 3 (omega arith) in let d = at_field 4 (omega arith) in
      rw (a, b, c, d)

  pub found_part : found size i (part_bytes p half) ≡ Ok (Some p)
  unfolding found
  found_part =
      let m : field 0 (part_bytes p half) ≡ mark = at_field 0 (omega arith) in
      rw (m, part_back, is_sound_lem size i p s)

  pub half_back : length half ≡ 256 → half_of (part_bytes p half) ≡ half
  unfolding part_bytes
  half_back l = ap (take 256) (drop_at (numbers_bytes numbers) (half ++ replicate 216 0) 40 (length-numbers numbers)) ∙ take_at half (replicate 216 0) 256 l

  pub length_part : length half ≡ 256 → length (part_bytes p half) ≡ 512
  unfolding part_bytes
  length_part l = length-append (numbers_bytes numbers) (half ++ replicate 216 0) ∙ omega (arith, length-append half (replicate 216 0), length-numbers numbers, l)

-- all of them bytes
pub bytes-append : (xs ys : List ℕ) → T (all_bytes xs) → T (all_bytes ys) → T (all_bytes (xs ++ ys))
unfolding all_bytes
bytes-append [] ys a b = b
bytes-append (x ∷ xs) ys a b = let p = split (ltb x 256) (all_bytes xs) a in join (ltb x 256) (all_bytes (xs ++ ys)) p.0 (bytes-append xs ys p.1 b)
  where
    split : (u v : Bool) → T (u && v) → T u × T v
    split true v h = (tt, h)
    split false v h = absurd h

pub bytes-number : (w n : ℕ) → T (all_bytes (bytes_of w n))
unfolding bytes_of all_bytes
bytes-number zero n = tt
bytes-number (suc w) n = bytes-append (bytes_of w (n / 256)) (n % 256 ∷ []) (bytes-number w (n / 256)) (rw (lt-ltb (n % 256) 256 (omega arith)) tt)

pub bytes-numbers : (ns : List ℕ) → T (all_bytes (numbers_bytes ns))
unfolding all_bytes
bytes-numbers [] = tt
bytes-numbers (n ∷ ns) = bytes-append (bytes_of 8 n) (numbers_bytes ns) (bytes-number 8 n) (bytes-numbers ns)

pub bytes-part : (p : Part) (half : List ℕ) → T (all_bytes half) → T (all_bytes (part_bytes p half))
unfolding part_bytes all_bytes
bytes-part p half h = bytes-append (numbers_bytes (mark ∷ p.number ∷ p.index ∷ p.length ∷ p.target.0 ∷ [])) (half ++ replicate 216 0) (bytes-numbers (mark ∷ p.number ∷ p.index ∷ p.length ∷ p.target.0 ∷ [])) (bytes-append half (replicate 216 0) h tt)
