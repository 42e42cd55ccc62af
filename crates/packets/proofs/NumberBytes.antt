-- Numbers of one, two and sixteen bytes; the last by halves.
use Rattle.std.proofs.Common.{◌≡◌, ℕ, zero, suc, ◌+◌, ◌*◌, ◌/◌, ◌%◌, ◌^◌, ◌<◌, ◌≤◌, Bool, true, false, T, ltb, List, [], ◌∷◌, ◌++◌, length, take, drop, Result, Ok, sym, refl, ap, ◌∙◌, subst, append_assoc, arith, length-drop, length-take, take-append-drop, pow-suc, inl, inr, ap₂, lt→ltb}
use Rattle.std.proofs.lemmas.List.{drop-drop, take-take, drop-take}
use Rattle.std.proofs.lemmas.Bool.{le-ltb, cases_lt}
use Rattle.disks.specs.Device.{all_bytes}
use Rattle.octets.specs.Numbers.{big, big_from, bytes_of}
use Rattle.octets.proofs.Numbers.{length-bytes_of, big-bytes_of, bytes_of-big, join, first_byte}
use Rattle.packets.specs.declared.fault.Fault.{Fault}
use Rattle.packets.specs.Codecs.{◌>>=◌, number_at}

is_true : {b : Bool} → T b → b ≡ true
is_true {b = true} h = refl
is_true {b = false} h = absurd h

pub one_byte : (n : ℕ) → n < 256 → bytes_of 1 n ≡ n ∷ []
unfolding bytes_of
one_byte n h = ap (λ (k : ℕ). k ∷ []) (omega arith)

pub two_bytes : (n : ℕ) → bytes_of 2 n ≡ (n / 256 % 256) ∷ (n % 256) ∷ []
unfolding bytes_of
two_bytes n = refl

more_bytes : (xs : List ℕ) (b : ℕ) → b < 256 → T (all_bytes xs) → T (all_bytes (xs ++ b ∷ []))
unfolding all_bytes
more_bytes [] b h k = join (ltb b 256) true (lt→ltb b 256 h) tt
more_bytes (x ∷ xs) b h k = let f = first_byte x xs k in join (ltb x 256) _ (lt→ltb x 256 f.0) (more_bytes xs b h f.1)

all_bytes_of : (w n : ℕ) → T (all_bytes (bytes_of w n))
unfolding bytes_of all_bytes
all_bytes_of zero n = tt
all_bytes_of (suc w) n = more_bytes (bytes_of w (n / 256)) (n % 256) (omega arith) (all_bytes_of w (n / 256))

pub halves : (high low : ℕ) → low < 2 ^ 64 → bytes_of 16 (high * 2 ^ 64 + low) ≡ bytes_of 8 high ++ bytes_of 8 low
halves high low h =
    let is : big_from high (bytes_of 8 low) ≡ high * 2 ^ 64 + low = big-bytes_of high 8 low h in
    let long : 8 + length (bytes_of 8 low) ≡ 16 = omega (arith, length-bytes_of 8 low) in
    subst (λ (w : ℕ). bytes_of w (high * 2 ^ 64 + low) ≡ bytes_of 8 high ++ bytes_of 8 low) long
    (subst (λ (n : ℕ). bytes_of (8 + length (bytes_of 8 low)) n ≡ bytes_of 8 high ++ bytes_of 8 low) is (bytes_of-big 8 high (bytes_of 8 low) (all_bytes_of 8 low)))

pub sixteen_put : (n : ℕ) (old mid new : List ℕ) → mid ≡ old ++ bytes_of 8 (n / 18446744073709551616) → new ≡ mid ++ bytes_of 8 (n % 18446744073709551616) → new ≡ old ++ bytes_of 16 n
sixteen_put n old mid new e f =
    let h = n / 18446744073709551616 in
    let l = n % 18446744073709551616 in
    let small : l < 2 ^ 64 = omega arith in
    let is : h * 2 ^ 64 + l ≡ n = omega arith in
    f ∙ ap (λ (xs : List ℕ). xs ++ bytes_of 8 l) e ∙ append_assoc old (bytes_of 8 h) (bytes_of 8 l) ∙ ap (λ (xs : List ℕ). old ++ xs) (sym (halves h l small) ∙ ap (bytes_of 16) is)

big_behind : (a : ℕ) (xs ys : List ℕ) → big_from a (xs ++ ys) ≡ big_from (big_from a xs) ys
big_behind a [] ys = refl
big_behind a (x ∷ xs) ys = big_behind (a * 256 + x) xs ys

big_on : (a : ℕ) (xs : List ℕ) → big_from a xs ≡ a * 256 ^ length xs + big_from 0 xs
big_on a [] = omega arith
big_on a (x ∷ xs) = omega (arith, big_on (a * 256 + x) xs, big_on (0 * 256 + x) xs, ap (λ (p : ℕ). a * p) (pow-suc 256 (length xs)))

abbrev read_as : ℕ → List ℕ → Result (ℕ × List ℕ) Fault
read_as n xs = Ok (n, xs)

pub sixteen_at : (bs : List ℕ) → number_at 16 bs ≡ (number_at 8 bs >>= λ h. number_at 8 h.1 >>= λ l. Ok (h.0 * 18446744073709551616 + l.0, l.1))
sixteen_at bs = elim (cases_lt (length bs) 8) [ inl lt ↦ too_short lt | inr le ↦ elim (cases_lt (length bs) 16) [ inl lt ↦ half le lt | inr all ↦ both_halves all ] ]
  where
    Is : Type 0
    Is = number_at 16 bs ≡ (number_at 8 bs >>= λ h. number_at 8 h.1 >>= λ l. Ok (h.0 * 18446744073709551616 + l.0, l.1))

    too_short : length bs < 8 → Is
    too_short lt =
        let e : ltb (length bs) 16 ≡ true = is_true (lt→ltb _ _ (omega arith)) in
        let f : ltb (length bs) 8 ≡ true = is_true (lt→ltb _ _ lt) in
        rw (e, f) refl

    half : 8 ≤ length bs → length bs < 16 → Is
    half le lt =
        let e : ltb (length bs) 16 ≡ true = is_true (lt→ltb _ _ lt) in
        let f : ltb (length bs) 8 ≡ false = le-ltb _ _ le in
        let g : ltb (length (drop 8 bs)) 8 ≡ true = is_true (lt→ltb _ _ (rw length-drop (omega arith))) in
        rw (e, f, g) refl

    both_halves : 16 ≤ length bs → Is
    both_halves le =
        let e : ltb (length bs) 16 ≡ false = le-ltb _ _ le in
        let f : ltb (length bs) 8 ≡ false = le-ltb _ _ (omega arith) in
        let g : ltb (length (drop 8 bs)) 8 ≡ false = le-ltb _ _ (rw length-drop (omega arith)) in
        let parts : take 16 bs ≡ take 8 bs ++ take 8 (drop 8 bs) = sym (take-append-drop 8 (take 16 bs)) ∙ ap₂ (λ (xs ys : List ℕ). xs ++ ys) (take-take 8 16 bs (omega arith)) (drop-take 8 8 bs) in
        let long : length (take 8 (drop 8 bs)) ≡ 8 = omega (arith, length-take 8 (drop 8 bs), length-drop 8 bs) in
        let value : big (take 16 bs) ≡ big (take 8 bs) * 18446744073709551616 + big (take 8 (drop 8 bs)) = ap big parts ∙ big_behind 0 (take 8 bs) (take 8 (drop 8 bs)) ∙ big_on (big (take 8 bs)) (take 8 (drop 8 bs)) ∙ ap (λ (k : ℕ). big (take 8 bs) * 256 ^ k + big (take 8 (drop 8 bs))) long in
        rw (e, f, g) (ap₂ (λ (n : ℕ) (xs : List ℕ). read_as n xs) value (sym (drop-drop 8 8 bs)))
