-- Entries as bytes: a buffer is written from its front, place behind place, and read the same way.
use Rattle.std.proofs.Common.{◌≡◌, ℕ, zero, suc, ◌+◌, ◌*◌, ◌/◌, ◌%◌, ◌^◌, ◌<◌, ◌≤◌, Bool, true, false, ◌&&◌, T, IsTrue, nat_lt, List, [], ◌∷◌, ◌++◌, length, get_or, take, drop, sym, refl, ap, ◌∙◌, append_assoc, append-nil, add-one, arith, lt→ltb, length-append, length-drop, length-take, slice_set}
use native.Mathlib.Nat.{div-div-eq-div-mul}
use borrow.Author.Tests.{ltb-true}
use borrow.Rule.Slice.PartMut.{put_mid}
use Rattle.std.specs.List.{flat_map, list_all}
use Rattle.std.proofs.lemmas.List.{take_at, drop_at, drop-drop, take_more, take_more_set, flat_map_more}
use Rattle.std.proofs.lemmas.Slice.{take-put_mid}
use Rattle.octets.specs.Numbers.{big, bytes_of, fields, numbers_bytes, small}
use Rattle.octets.proofs.Numbers.{length-bytes_of, big-bytes_of, join}
use Rattle.octets.proofs.Fields.{field_at, length-numbers}
use Rattle.pieces.specs.declared.entry.Entry.{Entry}
use Rattle.pieces.specs.Entries.{five_bytes, places_in, entry_bytes, entry_of, FitsBytes}

-- as the library writes a place's last five bytes
pub last_five : (n : ℕ) → bytes_of 5 n ≡ (n / 4294967296 % 256) ∷ (n / 16777216 % 256) ∷ (n / 65536 % 256) ∷ (n / 256 % 256) ∷ (n % 256) ∷ []
unfolding bytes_of
last_five n = simp div-div-eq-div-mul

-- what was laid so far, one part more
pub laid_on : (a n k : ℕ) (front xs ys zs : List ℕ) → take a xs ≡ front → a ≤ length xs → ys ≡ zs → length zs ≡ k → n ≡ a + k → take n (put_mid a k xs ys) ≡ front ++ zs
laid_on a n k front xs ys zs held inside same long e =
    take-put_mid a k xs ys n (omega (arith, ap length same)) inside ∙ ap (λ (f : List ℕ). f ++ ys) held ∙ ap (λ (z : List ℕ). front ++ z) same

-- one place more is read
places_more : (j : ℕ) (bs : List ℕ) → places_in (suc j) bs ≡ places_in j bs ++ big (take 5 (drop (5 * j) bs)) ∷ []
places_more zero bs = refl
places_more (suc j) bs =
    let further : 5 * suc j ≡ 5 + 5 * j = omega arith in
    ap (λ (xs : List ℕ). big (take 5 bs) ∷ xs) (places_more j (drop 5 bs) ∙ ap (λ (xs : List ℕ). places_in j (drop 5 bs) ++ big (take 5 xs) ∷ []) (drop-drop (5 * j) 5 bs ∙ ap (λ (k : ℕ). drop k bs) (sym further)))

pub place_read : (i n : ℕ) (bs out : List ℕ) → i < length out → take i out ≡ places_in i bs → n ≡ big (take 5 (drop (5 * i) bs)) → take (i + 1) (slice_set out i n) ≡ places_in (i + 1) bs
place_read i n bs out inside held read =
    take_more_set out i n inside ∙ ap (λ (xs : List ℕ). xs ++ n ∷ []) held ∙ ap (λ (m : ℕ). places_in i bs ++ m ∷ []) read ∙ sym (rw add-one (places_more i bs))

pub long_mid : (a k : ℕ) (xs ys : List ℕ) → a + k ≤ length xs → length ys ≡ k → length (put_mid a k xs ys) ≡ length xs
long_mid a k xs ys inside long = simp (length-append, length-take, length-drop) (omega arith)

-- the three numbers in front
pub three_laid : (a b c : ℕ) (y1 y2 y3 out : List ℕ) → length out ≡ 64 → y1 ≡ bytes_of 8 a → y2 ≡ bytes_of 8 b → y3 ≡ bytes_of 8 c → take 24 (put_mid 16 8 (put_mid 8 8 (put_mid 0 8 out y1) y2) y3) ≡ numbers_bytes (a ∷ b ∷ c ∷ []) ++ []
three_laid a b c y1 y2 y3 out long q1 q2 q3 =
    let l = length-bytes_of 8 in
    let m1 : length (put_mid 0 8 out y1) ≡ 64 = long_mid 0 8 out y1 (omega arith) (omega (arith, ap length q1, l a)) ∙ long in
    let m2 : length (put_mid 8 8 (put_mid 0 8 out y1) y2) ≡ 64 = long_mid 8 8 (put_mid 0 8 out y1) y2 (omega (arith, m1)) (omega (arith, ap length q2, l b)) ∙ m1 in
    let e1 : take 8 (put_mid 0 8 out y1) ≡ bytes_of 8 a = laid_on 0 8 8 [] out y1 (bytes_of 8 a) refl (omega arith) q1 (l a) refl in
    let e2 : take 16 (put_mid 8 8 (put_mid 0 8 out y1) y2) ≡ bytes_of 8 a ++ bytes_of 8 b = laid_on 8 16 8 (bytes_of 8 a) (put_mid 0 8 out y1) y2 (bytes_of 8 b) e1 (omega (arith, m1)) q2 (l b) refl in
    laid_on 16 24 8 (bytes_of 8 a ++ bytes_of 8 b) (put_mid 8 8 (put_mid 0 8 out y1) y2) y3 (bytes_of 8 c) e2 (omega (arith, m2)) q3 (l c) refl ∙ simp (append_assoc, append-nil)

-- one place more is written
pub place_laid : (i k : ℕ) (front ps out y : List ℕ) → take (24 + 5 * i) out ≡ front ++ flat_map five_bytes (take i ps) → length out ≡ 64 → i < length ps → length ps ≡ 8 → k ≡ 5 → y ≡ five_bytes (get_or ps i 0) →
    take (24 + 5 * (i + 1)) (put_mid (24 + 5 * i) k out y) ≡ front ++ flat_map five_bytes (take (i + 1) ps)
place_laid i k front ps out y held long inside eight e same =
    laid_on (24 + 5 * i) (24 + 5 * (i + 1)) k (front ++ flat_map five_bytes (take i ps)) out y (five_bytes (get_or ps i 0)) held (omega arith) same (length-bytes_of 5 (get_or ps i 0) ∙ sym e) (omega arith)
    ∙ flat_map_more five_bytes front (take i ps) (get_or ps i 0) ∙ ap (λ (qs : List ℕ). front ++ flat_map five_bytes qs) (sym (take_more ps i 0 inside))

pub both_true : (x y : Bool) → (x && y) ≡ true → (x ≡ true) × (y ≡ true)
both_true true y h = (refl, h)
both_true false y h = let z : ◌≡◌ {A = ℕ} 0 1 = cc in absurd (omega arith)

-- places that were written are read back
places_back : (ps : List ℕ) → IsTrue (list_all (λ p. nat_lt p (2 ^ 40)) ps) → places_in (length ps) (flat_map five_bytes ps) ≡ ps
places_back [] h = refl
places_back (p ∷ ps) h =
    let f = both_true (nat_lt p (2 ^ 40)) (list_all (λ q. nat_lt q (2 ^ 40)) ps) h in
    let few : p < 2 ^ 40 = ltb-true p (2 ^ 40) f.0 in
    let first : take 5 (five_bytes p ++ flat_map five_bytes ps) ≡ five_bytes p = take_at (five_bytes p) (flat_map five_bytes ps) 5 (length-bytes_of 5 p) in
    let rest : drop 5 (five_bytes p ++ flat_map five_bytes ps) ≡ flat_map five_bytes ps = drop_at (five_bytes p) (flat_map five_bytes ps) 5 (length-bytes_of 5 p) in
    let back : big (five_bytes p) ≡ p = big-bytes_of 0 5 p few ∙ omega arith in
    rw (first, rest, back, places_back ps f.1) refl

same_entry : (e : Entry) (v b s : ℕ) (ps : List ℕ) → v ≡ e.volume.0 → b ≡ e.block.0 → s ≡ e.stamp.0 → ps ≡ e.places → ◌≡◌ {A = Entry} (record { volume = record { 0 = v }; block = record { 0 = b }; stamp = record { 0 = s }; places = ps }) e
same_entry e v b s ps p q r t =
    ap (λ (x : ℕ). let z : Entry = record { volume = record { 0 = x }; block = record { 0 = b }; stamp = record { 0 = s }; places = ps } in z) p
    ∙ ap (λ (x : ℕ). let z : Entry = record { volume = e.volume; block = record { 0 = x }; stamp = record { 0 = s }; places = ps } in z) q
    ∙ ap (λ (x : ℕ). let z : Entry = record { volume = e.volume; block = e.block; stamp = record { 0 = x }; places = ps } in z) r
    ∙ ap (λ (x : List ℕ). let z : Entry = record { volume = e.volume; block = e.block; stamp = e.stamp; places = x } in z) t

pub read_back : (e : Entry) → FitsBytes e → entry_of (entry_bytes e) ≡ e
unfolding entry_bytes entry_of small
read_back e f =
    let ns : List ℕ = e.volume.0 ∷ e.block.0 ∷ e.stamp.0 ∷ [] in
    let rest : List ℕ = flat_map five_bytes e.places in
    let fit : T (small ns) =
    join (nat_lt e.volume.0 (2 ^ 64)) _ (lt→ltb e.volume.0 (2 ^ 64) f.volume) (join (nat_lt e.block.0 (2 ^ 64)) _ (lt→ltb e.block.0 (2 ^ 64) f.block) (join (nat_lt e.stamp.0 (2 ^ 64)) true (lt→ltb e.stamp.0 (2 ^ 64) f.stamp) tt)) in
    same_entry e _ _ _ _ (field_at 0 ns rest fit (omega arith)) (field_at 1 ns rest fit (omega arith)) (field_at 2 ns rest fit (omega arith))
    (ap (places_in 8) (drop_at (numbers_bytes ns) rest 24 (length-numbers ns)) ∙ ap (λ (n : ℕ). places_in n rest) (sym f.eight) ∙ places_back e.places f.small)

-- what a part of a sector says
pub entry_read : (bs ns rest ps : List ℕ) → ns ≡ fields 3 bs → rest ≡ drop 24 bs → ps ≡ places_in 8 rest → ◌≡◌ {A = Entry} (record { volume = record { 0 = get_or ns 0 0 }; block = record { 0 = get_or ns 1 0 }; stamp = record { 0 = get_or ns 2 0 }; places = ps }) (entry_of bs)
unfolding entry_of
entry_read bs ns rest ps n r p = rw (n, p, r) refl
