-- Numbers as bytes and back. Both ways go by the last byte: what stands before it is the number's quotient by 256.
use Rattle.std.proofs.Common.{◌≡◌, ℕ, zero, suc, ◌+◌, ◌*◌, ◌/◌, ◌%◌, ◌^◌, ◌<◌, Bool, true, false, ◌&&◌, T, ltb, List, [], ◌∷◌, ◌++◌, length, get_or, take, sym, refl, ap, ◌∙◌, append_assoc, append-nil, add-zero, pow-suc, arith, ltb→lt, length-append}
use native.Mathlib.Nat.{div-div-eq-div-mul}
use Rattle.disks.specs.Device.{all_bytes}
use Rattle.octets.specs.Numbers.{big_from, bytes_of, numbers_bytes}
use Rattle.std.proofs.lemmas.List.{take_more, flat_map_more}

pub length-bytes_of : (w n : ℕ) → length (bytes_of w n) ≡ w
unfolding bytes_of
length-bytes_of zero n = refl
length-bytes_of (suc w) n = rw length-append (omega (arith, length-bytes_of w (n / 256)))

pub big_push : (a : ℕ) (xs : List ℕ) (b : ℕ) → big_from a (xs ++ b ∷ []) ≡ big_from a xs * 256 + b
big_push a [] b = refl
big_push a (x ∷ xs) b = big_push (a * 256 + x) xs b

pub big-bytes_of : (a w n : ℕ) → n < 256 ^ w → big_from a (bytes_of w n) ≡ a * 256 ^ w + n
unfolding bytes_of
big-bytes_of a zero n h = omega arith
big-bytes_of a (suc w) n h =
    let fits : n / 256 < 256 ^ w = omega (arith, pow-suc 256 w) in
    big_push a (bytes_of w (n / 256)) (n % 256) ∙ omega (arith, big-bytes_of a w (n / 256) fits, ap (λ (x : ℕ). a * x) (pow-suc 256 w))

-- one byte more
push_byte : (w a b : ℕ) → b < 256 → bytes_of (suc w) (a * 256 + b) ≡ bytes_of w a ++ b ∷ []
unfolding bytes_of
push_byte w a b h =
    let quotient : (a * 256 + b) / 256 ≡ a = omega arith in
    let rest : (a * 256 + b) % 256 ≡ b = omega arith in
    rw (quotient, rest)

pub both : (x y : Bool) → T (x && y) → T x × T y
both true y h = (tt, h)
both false y h = absurd h

pub join : (x y : Bool) → T x → T y → T (x && y)
join true y h k = k
join false y h k = h

pub first_byte : (b : ℕ) (bs : List ℕ) → T (all_bytes (b ∷ bs)) → (b < 256) × T (all_bytes bs)
unfolding all_bytes
first_byte b bs h = let p = both (ltb b 256) (all_bytes bs) h in (ltb→lt b 256 p.0, p.1)

-- bytes that were read are the bytes of what was read, behind the bytes of what was read before
pub bytes_of-big : (w a : ℕ) (bs : List ℕ) → T (all_bytes bs) → bytes_of (w + length bs) (big_from a bs) ≡ bytes_of w a ++ bs
bytes_of-big w a [] h = rw (add-zero, append-nil)
bytes_of-big w a (b ∷ bs) h =
    let f = first_byte b bs h in
    let more : w + suc (length bs) ≡ suc w + length bs = omega arith in
    ap (λ (k : ℕ). bytes_of k (big_from (a * 256 + b) bs)) more ∙ bytes_of-big (suc w) (a * 256 + b) bs f.1 ∙ ap (λ (xs : List ℕ). xs ++ bs) (push_byte w a b f.0) ∙ append_assoc (bytes_of w a) (b ∷ []) bs

-- as the library writes 8 and 4 bytes
pub eight_bytes : (n : ℕ) → bytes_of 8 n ≡ (n / 72057594037927936 % 256) ∷ (n / 281474976710656 % 256) ∷ (n / 1099511627776 % 256) ∷ (n / 4294967296 % 256) ∷ (n / 16777216 % 256) ∷ (n / 65536 % 256) ∷ (n / 256 % 256) ∷ (n % 256) ∷ []
unfolding bytes_of
eight_bytes n = simp div-div-eq-div-mul

pub four_bytes : (n : ℕ) → bytes_of 4 n ≡ (n / 16777216 % 256) ∷ (n / 65536 % 256) ∷ (n / 256 % 256) ∷ (n % 256) ∷ []
unfolding bytes_of
four_bytes n = simp div-div-eq-div-mul

-- one number more of a message
pub message_more : (first : ℕ) (ns : List ℕ) (i : ℕ) (xs ys : List ℕ) → i < length ns → xs ≡ first ∷ numbers_bytes (take i ns) → ys ≡ xs ++ bytes_of 8 (get_or ns i 0) → ys ≡ first ∷ numbers_bytes (take (i + 1) ns)
message_more first ns i xs ys h held put =
    put ∙ ap (λ (zs : List ℕ). zs ++ bytes_of 8 (get_or ns i 0)) held ∙ flat_map_more (bytes_of 8) (first ∷ []) (take i ns) (get_or ns i 0) ∙ ap (λ (ms : List ℕ). first ∷ numbers_bytes ms) (sym (take_more ns i 0 h))
