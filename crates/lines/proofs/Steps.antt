-- One turn of the loops over digits.
use Rattle.std.proofs.Common.{◌≡◌, ℕ, zero, suc, ◌+◌, ◌*◌, ◌/◌, ◌%◌, ◌<◌, ◌≤◌, ◌≢◌, List, [], ◌∷◌, ◌++◌, length, get_or, take, drop, set, Some, None, Option, sym, refl, ap, ◌∙◌, ap₂, append_assoc, append-nil, arith}
use Rattle.std.proofs.lemmas.List.{drop_more, drop_all, take_more, take_all, take_more_set, length-set}
use Rattle.std.specs.Option.{option_map}
use Rattle.std.proofs.lemmas.Str.Ascii.{IsAscii-nil, IsAscii-cons}
use Rattle.std.specs.Str.{IsAscii}
use Rattle.std.specs.Simd.{first_chunks}
use Rattle.lines.specs.Hexes.{digit_of, digit_for, byte_in, with_byte, bytes_in, hex_of, HexRoundTrip}
use Rattle.lines.specs.Lines.{with_front, cut_at}
use Rattle.std.proofs.lemmas.Bool.Decides.{nat_tests}
use Rattle.octets.proofs.Numbers.{first_byte}

-- bytes behind those that were read before
abbrev pub behind : List ℕ → Option (List ℕ) → Option (List ℕ)
behind xs o = option_map (λ (ys : List ℕ). xs ++ ys) o

-- the bytes that pairs of digits spell
abbrev pub bytes_of : List (List ℕ) → Option (List ℕ)
bytes_of [] = Some []
bytes_of (p ∷ ps) = with_byte (byte_in (digit_of (get_or p 0 0)) (digit_of (get_or p 1 0))) (bytes_of ps)

-- text of an even length, as pairs
paired : (n : ℕ) (ts : List ℕ) → length ts ≡ n * 2 → bytes_in ts ≡ bytes_of (first_chunks 2 n ts)
paired zero [] h = refl
paired zero (a ∷ ts) h = absurd (omega arith)
paired (suc n) [] h = absurd (omega arith)
paired (suc n) (a ∷ []) h = absurd (omega arith)
paired (suc n) (a ∷ b ∷ cs) h = ap (with_byte (byte_in (digit_of a) (digit_of b))) (paired n cs (omega arith))

pub read_pairs : (ts : List ℕ) (ps : List (List ℕ)) → length ts % 2 ≡ 0 → ps ≡ first_chunks 2 (length ts / 2) ts → bytes_in ts ≡ bytes_of ps
read_pairs ts ps h e = paired (length ts / 2) ts (omega arith) ∙ ap bytes_of (sym e)

-- a turn over a pair of digits, by the byte that it gave
pub pair_more : (ps : List (List ℕ)) (i : ℕ) (o : Option ℕ) → i < length ps → byte_in (digit_of (get_or (get_or ps i []) 0 0)) (digit_of (get_or (get_or ps i []) 1 0)) ≡ o → bytes_of (drop i ps) ≡ with_byte o (bytes_of (drop (i + 1) ps))
pair_more ps i o h e = ap bytes_of (drop_more ps i [] h) ∙ ap (λ (p : Option ℕ). with_byte p (bytes_of (drop (i + 1) ps))) e

-- nothing was read before
pub behind-none : (xs : List ℕ) (o : Option (List ℕ)) → xs ≡ [] → o ≡ behind xs o
behind-none xs None e = refl
behind-none xs (Some ys) e = rw e

pub behind_more : (xs ys : List ℕ) (b : ℕ) (o : Option (List ℕ)) → ys ≡ xs ++ b ∷ [] → behind xs (with_byte (Some b) o) ≡ behind ys o
behind_more xs ys b None e = refl
behind_more xs ys b (Some zs) e = ap Some (sym (append_assoc xs (b ∷ []) zs) ∙ ap (λ (s : List ℕ). s ++ zs) (sym e))

-- all was read
pub behind_all : (ps : List (List ℕ)) (xs : List ℕ) (k : ℕ) → length ps ≤ k → behind xs (bytes_of (drop k ps)) ≡ Some xs
behind_all ps xs k h = rw (drop_all k ps h, append-nil)

-- an odd one out
pub odd_none : (ts : List ℕ) → length ts % 2 ≢ 0 → bytes_in ts ≡ None
odd_none [] h = absurd (h refl)
odd_none (a ∷ []) h = refl
odd_none (a ∷ b ∷ cs) h = rw (odd_none cs (omega arith)) (go (byte_in (digit_of a) (digit_of b)))
  where
    go : (o : Option ℕ) → with_byte o None ≡ None
    go None = refl
    go (Some x) = refl

hex-++ : (xs ys : List ℕ) → hex_of (xs ++ ys) ≡ hex_of xs ++ hex_of ys
hex-++ [] ys = refl
hex-++ (x ∷ xs) ys = ap (λ (s : List ℕ). digit_for (x / 16) ∷ digit_for (x % 16) ∷ s) (hex-++ xs ys)

-- a turn that writes two digits
hex_more : (bs : List ℕ) (i high low : ℕ) (xs ys zs : List ℕ) → i < length bs → high ≡ digit_for (get_or bs i 0 / 16) → low ≡ digit_for (get_or bs i 0 % 16) → xs ≡ hex_of (take i bs) → ys ≡ xs ++ high ∷ [] → zs ≡ ys ++ low ∷ [] → zs ≡ hex_of (take (i + 1) bs)
hex_more bs i high low xs ys zs h a b e f g =
    g ∙ ap (λ (s : List ℕ). s ++ low ∷ []) (f ∙ ap (λ (s : List ℕ). s ++ high ∷ []) e) ∙ append_assoc (hex_of (take i bs)) (high ∷ []) (low ∷ []) ∙ ap₂ (λ (m n : ℕ). hex_of (take i bs) ++ m ∷ n ∷ []) a b ∙ sym (hex-++ (take i bs) (get_or bs i 0 ∷ []))
    ∙ ap hex_of (sym (take_more bs i 0 h))

digit_back : (n : ℕ) → n < 16 → digit_of (digit_for n) ≡ Some n
digit_back n h = grind (arith, nat_tests)

pub hex_round_trip : HexRoundTrip
hex_round_trip [] h = refl
hex_round_trip (b ∷ bs) h =
    let f = first_byte b bs h in
    let whole : b / 16 * 16 + b % 16 ≡ b = omega arith in
    rw (digit_back (b / 16) (omega (arith, f.0)), digit_back (b % 16) (omega arith), hex_round_trip bs f.1, whole)

cut_not : (b : ℕ) (bs : List ℕ) → b ≢ 32 → cut_at (b ∷ bs) ≡ with_front b (cut_at bs)
cut_not b bs h = grind (arith, nat_tests)

-- the cut at the first space, by its place
pub cut_found : (ts : List ℕ) (i : ℕ) → i < length ts → get_or ts i 0 ≡ 32 → ((k : ℕ) → k < i → get_or ts k 0 ≢ 32) → cut_at ts ≡ Some (record { front = take i ts; back = drop (i + 1) ts })
cut_found [] i h e before = absurd (omega arith)
cut_found (t ∷ ts) zero h e before = grind (arith, nat_tests)
cut_found (t ∷ ts) (suc i) h e before =
    let next : suc i + 1 ≡ suc (i + 1) = omega arith in
    rw next (cut_not t ts (before 0 (omega arith)) ∙ ap (with_front t) (cut_found ts i (omega arith) e (λ k below. before (suc k) (omega arith))))

pub cut_none : (ts : List ℕ) → ((k : ℕ) → k < length ts → get_or ts k 0 ≢ 32) → cut_at ts ≡ None
cut_none [] h = refl
cut_none (t ∷ ts) h = cut_not t ts (h 0 (omega arith)) ∙ ap (with_front t) (cut_none ts (λ k below. h (suc k) (omega arith)))

digit_ascii : (n : ℕ) → n < 16 → digit_for n < 128
digit_ascii n h = grind (arith, nat_tests)

-- a turn that spells a byte at its place
pub spelled_more : (bs ds : List ℕ) (i x y : ℕ) → i < length bs → 2 * i + 1 < length ds → x ≡ digit_for (get_or bs i 0 / 16) → y ≡ digit_for (get_or bs i 0 % 16) → take (2 * i) ds ≡ hex_of (take i bs) → take (2 * (i + 1)) (set (set ds (2 * i) x) (2 * i + 1) y) ≡ hex_of (take (i + 1) bs)
spelled_more bs ds i x y h fits a b e =
    let kept : length (set ds (2 * i) x) ≡ length ds = length-set ds (2 * i) x in
    let high = take_more_set ds (2 * i) x (omega arith) in
    let low = take_more_set (set ds (2 * i) x) (2 * i + 1) y (omega (arith, kept)) in
    let two : 2 * (i + 1) ≡ 2 * i + 1 + 1 = omega arith in
    rw two (hex_more bs i x y _ _ _ h a b e high low)

-- all was spelled
pub spelled_all : (bs ds : List ℕ) (i : ℕ) → length bs ≤ i → i ≤ length bs → take (2 * i) ds ≡ hex_of (take i bs) → take (2 * length bs) ds ≡ hex_of bs
spelled_all bs ds i least most e =
    let whole : i ≡ length bs = omega arith in
    ap (λ (k : ℕ). take (2 * k) ds) (sym whole) ∙ e ∙ ap hex_of (take_all i bs least)

-- digits are text
pub hex_ascii : (bs : List ℕ) → ((k : ℕ) → get_or bs k 0 < 256) → IsAscii (hex_of bs)
hex_ascii [] h = IsAscii-nil
hex_ascii (b ∷ bs) h =
    let byte : b < 256 = h 0 in
    let rest = hex_ascii bs (λ k. h (suc k)) in
    IsAscii-cons (digit_for (b / 16)) (digit_for (b % 16) ∷ hex_of bs) (digit_ascii (b / 16) (omega arith)) (IsAscii-cons (digit_for (b % 16)) (hex_of bs) (digit_ascii (b % 16) (omega arith)) rest)

-- a run is displayed before the rest
pub hex_parts : (done all run rest text : List ℕ) → all ≡ run ++ rest → text ≡ hex_of run → (done ++ text) ++ hex_of rest ≡ done ++ hex_of all
hex_parts done all run rest text parts e =
    append_assoc done text (hex_of rest) ∙ ap (λ (s : List ℕ). done ++ s) (ap (λ (s : List ℕ). s ++ hex_of rest) e ∙ sym (hex-++ run rest) ∙ ap hex_of (sym parts))
