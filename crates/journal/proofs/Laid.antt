-- A buffer that is written from its front, part behind part.
use Rattle.std.proofs.Common.{◌≡◌, ℕ, List, [], ◌∷◌, ◌++◌, length, take, drop, replicate, sym, refl, ap, ◌∙◌, append_assoc, append-nil, arith, length-append}
use borrow.Rule.Slice.PartMut.{put_mid}
use Rattle.std.proofs.lemmas.List.{take_at, drop_at}
use Rattle.octets.specs.Numbers.{bytes_of, numbers_bytes}
use Rattle.octets.proofs.Numbers.{length-bytes_of}

-- what was laid so far, one part more, and what is behind it
pub laid : (a k : ℕ) (front rest xs ys zs : List ℕ) → xs ≡ front ++ rest → length front ≡ a → ys ≡ zs → put_mid a k xs ys ≡ (front ++ zs) ++ drop k rest
laid a k front rest xs ys zs e l q =
    let t : take a xs ≡ front = ap (take a) e ∙ take_at front rest a l in
    let d : drop a xs ≡ rest = ap (drop a) e ∙ drop_at front rest a l in
    ap (λ (f : List ℕ). f ++ (ys ++ drop k (drop a xs))) t ∙ ap (λ (y : List ℕ). front ++ (y ++ drop k (drop a xs))) q ∙ ap (λ (r : List ℕ). front ++ (zs ++ drop k r)) d ∙ sym (append_assoc front zs (drop k rest))

-- five numbers, then what else there is
pub five_laid : (a b c d e : ℕ) (y1 y2 y3 y4 y5 y6 half : List ℕ) → y1 ≡ bytes_of 8 a → y2 ≡ bytes_of 8 b → y3 ≡ bytes_of 8 c → y4 ≡ bytes_of 8 d → y5 ≡ bytes_of 8 e → y6 ≡ half →
    put_mid 40 256 (put_mid 32 8 (put_mid 24 8 (put_mid 16 8 (put_mid 8 8 (put_mid 0 8 (replicate 512 0) y1) y2) y3) y4) y5) y6 ≡ numbers_bytes (a ∷ b ∷ c ∷ d ∷ e ∷ []) ++ (half ++ replicate 216 0)
five_laid a b c d e y1 y2 y3 y4 y5 y6 half q1 q2 q3 q4 q5 q6 =
    let l = length-bytes_of 8 in
    let f1 = bytes_of 8 a in
    let f2 = f1 ++ bytes_of 8 b in
    let f3 = f2 ++ bytes_of 8 c in
    let f4 = f3 ++ bytes_of 8 d in
    let f5 = f4 ++ bytes_of 8 e in
    let e1 : put_mid 0 8 (replicate 512 0) y1 ≡ f1 ++ replicate 504 0 = laid 0 8 [] (replicate 512 0) _ y1 f1 refl refl q1 in
    let e2 : put_mid 8 8 (put_mid 0 8 (replicate 512 0) y1) y2 ≡ f2 ++ replicate 496 0 = laid 8 8 f1 (replicate 504 0) _ y2 (bytes_of 8 b) e1 (l a) q2 in
    let e3 : put_mid 16 8 (put_mid 8 8 (put_mid 0 8 (replicate 512 0) y1) y2) y3 ≡ f3 ++ replicate 488 0 = laid 16 8 f2 (replicate 496 0) _ y3 (bytes_of 8 c) e2 (length-append f1 (bytes_of 8 b) ∙ omega (arith, l a, l b)) q3 in
    let e4 : put_mid 24 8 (put_mid 16 8 (put_mid 8 8 (put_mid 0 8 (replicate 512 0) y1) y2) y3) y4 ≡ f4 ++ replicate 480 0 =
    laid 24 8 f3 (replicate 488 0) _ y4 (bytes_of 8 d) e3 (omega (arith, length-append f2 (bytes_of 8 c), length-append f1 (bytes_of 8 b), l a, l b, l c)) q4 in
    let e5 : put_mid 32 8 (put_mid 24 8 (put_mid 16 8 (put_mid 8 8 (put_mid 0 8 (replicate 512 0) y1) y2) y3) y4) y5 ≡ f5 ++ replicate 472 0 =
    laid 32 8 f4 (replicate 480 0) _ y5 (bytes_of 8 e) e4 (omega (arith, length-append f3 (bytes_of 8 d), length-append f2 (bytes_of 8 c), length-append f1 (bytes_of 8 b), l a, l b, l c, l d)) q5 in
    laid 40 256 f5 (replicate 472 0) _ y6 half e5 (omega (arith, length-append f4 (bytes_of 8 e), length-append f3 (bytes_of 8 d), length-append f2 (bytes_of 8 c), length-append f1 (bytes_of 8 b), l a, l b, l c, l d, l e)) q6
    ∙ simp (append_assoc, append-nil)
