-- Numbers of 8 bytes one behind the other: each is found at its place, and those that were read spell the bytes they were read from.
use Rattle.std.proofs.Common.{◌≡◌, ℕ, zero, suc, ◌+◌, ◌*◌, ◌^◌, ◌<◌, ◌≤◌, T, ltb, List, [], ◌∷◌, ◌++◌, length, get_or, take, drop, sym, refl, ap, ◌∙◌, subst, append_assoc, lt_of_lt_of_le, mul-le-mul_right, pow-suc, arith, ltb→lt, lt→ltb, length-append, length-drop, take-append-drop, length-take}
use Rattle.std.proofs.lemmas.List.{take_at, drop_at, drop-drop, drop_all, drop-take, take-take}
use Rattle.disks.specs.Device.{all_bytes}
use Rattle.octets.specs.Numbers.{big_from, big, bytes_of, field, fields, numbers_bytes, small}
use Rattle.octets.proofs.Numbers.{length-bytes_of, big-bytes_of, bytes_of-big, first_byte, both, join}

pub first_small : (n : ℕ) (ns : List ℕ) → T (small (n ∷ ns)) → (n < 2 ^ 64) × T (small ns)
unfolding small
first_small n ns h = let p = both (ltb n (2 ^ 64)) (small ns) h in (ltb→lt n (2 ^ 64) p.0, p.1)

pub length-numbers : (ns : List ℕ) → length (numbers_bytes ns) ≡ 8 * length ns
length-numbers [] = refl
length-numbers (n ∷ ns) = rw length-append (omega (arith, length-bytes_of 8 n, length-numbers ns))

pub big_eight : (n : ℕ) → n < 2 ^ 64 → big (bytes_of 8 n) ≡ n
big_eight n h = big-bytes_of 0 8 n h ∙ omega arith

-- the i-th of several numbers
pub field_at : (i : ℕ) (ns rest : List ℕ) → T (small ns) → i < length ns → field i (numbers_bytes ns ++ rest) ≡ get_or ns i 0
field_at i [] rest h l = absurd (omega arith)
field_at zero (n ∷ ns) rest h l =
    rw append_assoc (ap big (take_at (bytes_of 8 n) (numbers_bytes ns ++ rest) 8 (length-bytes_of 8 n)) ∙ big_eight n (first_small n ns h).0)
field_at (suc i) (n ∷ ns) rest h l =
    rw append_assoc (ap (field i) (drop_at (bytes_of 8 n) (numbers_bytes ns ++ rest) 8 (length-bytes_of 8 n)) ∙ field_at i ns rest (first_small n ns h).1 (omega arith))

-- each of them is the field at its place
pub field_in : (n i : ℕ) (bs : List ℕ) → i < n → get_or (fields n bs) i 0 ≡ field i bs
field_in zero i bs h = absurd (omega arith)
field_in (suc n) zero bs h = refl
field_in (suc n) (suc i) bs h = field_in n i (drop 8 bs) (omega arith)

-- one number more
pub fields_more : (j : ℕ) (bs : List ℕ) → fields (suc j) bs ≡ fields j bs ++ big (take 8 (drop (8 * j) bs)) ∷ []
fields_more zero bs = refl
fields_more (suc j) bs =
    let further : 8 * suc j ≡ 8 + 8 * j = omega arith in
    ap (λ (xs : List ℕ). big (take 8 bs) ∷ xs) (fields_more j (drop 8 bs) ∙ ap (λ (xs : List ℕ). fields j (drop 8 bs) ++ big (take 8 xs) ∷ []) (drop-drop (8 * j) 8 bs ∙ ap (λ (k : ℕ). drop k bs) (sym further)))

-- they lie in the first bytes
pub fields_take : (n m : ℕ) (bs : List ℕ) → fields n (take (8 * n + m) bs) ≡ fields n bs
fields_take zero m bs = refl
fields_take (suc n) m bs =
    let k : 8 * suc n + m ≡ 8 + (8 * n + m) = omega arith in
    let first : take 8 (take (8 + (8 * n + m)) bs) ≡ take 8 bs = take-take 8 (8 + (8 * n + m)) bs (omega arith) in
    let rest : drop 8 (take (8 + (8 * n + m)) bs) ≡ take (8 * n + m) (drop 8 bs) = drop-take 8 (8 * n + m) bs in
    rw (k, first, rest) (ap (λ (xs : List ℕ). big (take 8 bs) ∷ xs) (fields_take n m (drop 8 bs)))

pub bytes_drop : (k : ℕ) (bs : List ℕ) → T (all_bytes bs) → T (all_bytes (drop k bs))
bytes_drop zero bs h = h
bytes_drop (suc k) [] h = h
bytes_drop (suc k) (b ∷ bs) h = bytes_drop k bs (first_byte b bs h).1

pub bytes_take : (k : ℕ) (bs : List ℕ) → T (all_bytes bs) → T (all_bytes (take k bs))
unfolding all_bytes
bytes_take zero bs h = tt
bytes_take (suc k) [] h = tt
bytes_take (suc k) (b ∷ bs) h = let f = first_byte b bs h in join (ltb b 256) (all_bytes (take k bs)) (lt→ltb b 256 f.0) (bytes_take k bs f.1)

-- w bytes are a number below 256 to the w
pub big-below : (a : ℕ) (bs : List ℕ) → T (all_bytes bs) → big_from a bs < (a + 1) * 256 ^ length bs
big-below a [] h = omega arith
big-below a (b ∷ bs) h =
    let f = first_byte b bs h in
    let p = 256 ^ length bs in
    let least : a * 256 + b + 1 ≤ (a + 1) * 256 = omega arith in
    let step : (a * 256 + b + 1) * p ≤ (a + 1) * (p * 256) = omega (arith, mul-le-mul_right p least) in
    lt_of_lt_of_le (big-below (a * 256 + b) bs f.1) (rw pow-suc step)

-- the bytes of a number that was read are those that it was read from
pub bytes-front : (w : ℕ) (bs : List ℕ) → T (all_bytes bs) → w ≤ length bs → bytes_of w (big (take w bs)) ≡ take w bs
unfolding bytes_of
bytes-front w bs h l =
    let long : 0 + length (take w bs) ≡ w = simp length-take (omega arith) in
    subst (λ (k : ℕ). bytes_of k (big (take w bs)) ≡ take w bs) long (bytes_of-big 0 0 (take w bs) (bytes_take w bs h))

pub front_below : (w : ℕ) (bs : List ℕ) → T (all_bytes bs) → w ≤ length bs → big (take w bs) < 256 ^ w
front_below w bs h l =
    let long : length (take w bs) ≡ w = simp length-take (omega arith) in
    subst (λ (k : ℕ). big (take w bs) < 256 ^ k) long (lt_of_lt_of_le (big-below 0 (take w bs) (bytes_take w bs h)) (omega arith))

pub fields_spell : (j : ℕ) (bs : List ℕ) → T (all_bytes bs) → 8 * j ≤ length bs → numbers_bytes (fields j bs) ++ drop (8 * j) bs ≡ bs
fields_spell zero bs h l = refl
fields_spell (suc j) bs h l =
    let this = bytes_of 8 (big (take 8 bs)) in
    let others = numbers_bytes (fields j (drop 8 bs)) in
    let further : 8 * suc j ≡ 8 + 8 * j = omega arith in
    let left : 8 * j ≤ length (drop 8 bs) = rw length-drop (omega arith) in
    append_assoc this others (drop (8 * suc j) bs) ∙ ap (λ (xs : List ℕ). this ++ (others ++ xs)) (ap (λ (k : ℕ). drop k bs) further ∙ sym (drop-drop (8 * j) 8 bs)) ∙ ap (λ (xs : List ℕ). this ++ xs) (fields_spell j (drop 8 bs) (bytes_drop 8 bs h) left)
    ∙ ap (λ (xs : List ℕ). xs ++ drop 8 bs) (bytes-front 8 bs h (omega arith)) ∙ take-append-drop 8 bs

pub fields-small : (j : ℕ) (bs : List ℕ) → T (all_bytes bs) → 8 * j ≤ length bs → T (small (fields j bs))
unfolding small
fields-small zero bs h l = tt
fields-small (suc j) bs h l =
    join (ltb (big (take 8 bs)) (2 ^ 64)) (small (fields j (drop 8 bs))) (lt→ltb (big (take 8 bs)) (2 ^ 64) (front_below 8 bs h (omega arith))) (fields-small j (drop 8 bs) (bytes_drop 8 bs h) (rw length-drop (omega arith)))

-- so many numbers and nothing else
pub exact : (j : ℕ) (bs : List ℕ) → T (all_bytes bs) → length bs ≡ 8 * j → numbers_bytes (fields j bs) ++ [] ≡ bs
exact j bs h l =
    ap (λ (xs : List ℕ). numbers_bytes (fields j bs) ++ xs) (sym (drop_all (8 * j) bs (omega arith))) ∙ fields_spell j bs h (omega arith)
