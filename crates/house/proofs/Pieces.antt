-- The first line of a text, the front of it that is read, and where the input stands behind it.
use Rattle.std.proofs.Common.{◌≡◌, ◌≢◌, ◌⊎◌, inl, inr, ℕ, suc, ◌+◌, ◌-◌, ◌<◌, ◌≤◌, Bool, true, false, not, cond, ◌==◌, nat_lt, List, [], ◌∷◌, length, get_or, take, drop, ◌++◌, Option, Some, None, IfSome, OnSome, Result, Ok, Err, IfOk, OnErr, All, sym, refl, ap, ◌∙◌, subst, arith, length-append, length-take, length-drop, take_at, take_all, take-take, get_or-drop}
use Rattle.std.specs.Io.{StartsWith, StopsAt, IsEmptyOrEndsWith}
use Rattle.std.specs.Io.BufRead.{take_through, drop_through, ends_with_byte, strip_last, first_piece, DropsThrough}
use Rattle.std.specs.Io.KnownBytes.{Consumes, Keeps, IsAtEnd}
use Rattle.std.proofs.KnownBytes.{starts_with_rest, Consumes-trans, Consumes-kept}
use Rattle.std.proofs.BufReadLemmas.{drop_through-append, take_through-nil, Consumes_through}
use Rattle.std.proofs.Transfers.{starts_with_length, StopsAt-append}
use Rattle.std.proofs.lemmas.Bool.Decides.{nat_tests}
use Rattle.std.proofs.lemmas.List.{get_or-take, length-take-le}
use Rattle.std.proofs.lemmas.List.Elements.{All-from_get_or, All-get_or, All-more, All-append, All-head, All-tail}
use Rattle.house.specs.Inputs.{Ends, IsFront, WithinLine}

cond_more : (b : Bool) (x : ℕ) (ys zs : List ℕ) → cond b (x ∷ ys) (x ∷ zs) ≡ x ∷ cond b ys zs
cond_more true x ys zs = refl
cond_more false x ys zs = refl

-- an end that is no first byte
strip_more : (x : ℕ) (ys : List ℕ) → x ≢ 10 → strip_last 10 (x ∷ ys) ≡ x ∷ strip_last 10 ys
strip_more x [] h = grind (arith, nat_tests)
strip_more x (y ∷ ys) h =
    let a : suc (suc (length ys)) - 1 ≡ suc (length ys) = omega arith in
    let b : suc (length ys) - 1 ≡ length ys = omega arith in
    let e : nat_lt 0 (suc (suc (length ys))) ≡ true = grind (arith, nat_tests) in
    let f : nat_lt 0 (suc (length ys)) ≡ true = grind (arith, nat_tests) in
    rw (a, b, e, f) (cond_more (get_or (y ∷ ys) (length ys) 0 == 10) x (take (length ys) (y ∷ ys)) (y ∷ ys))

piece_more : (x : ℕ) (xs : List ℕ) → x ≢ 10 → first_piece 10 (x ∷ xs) ≡ x ∷ first_piece 10 xs
piece_more x xs h =
    let e : (x == 10) ≡ false = grind (arith, nat_tests) in
    rw e (strip_more x (take_through 10 xs) h)

-- bytes with no end among them are all of the line, and with them what follows
strip_none : (bs : List ℕ) → All (λ b. b ≢ 10) bs → strip_last 10 bs ≡ bs
strip_none [] all = refl
strip_none (b ∷ bs) all = strip_more b bs (All-head (λ b. b ≢ 10) b bs all) ∙ ap (λ l. b ∷ l) (strip_none bs (All-tail (λ b. b ≢ 10) b bs all))

piece_none : (bs ys : List ℕ) → All (λ b. b ≢ 10) bs → first_piece 10 (bs ++ ys) ≡ bs ++ first_piece 10 ys
piece_none [] ys all = refl
piece_none (b ∷ bs) ys all = piece_more b (bs ++ ys) (All-head (λ b. b ≢ 10) b bs all) ∙ ap (λ l. b ∷ l) (piece_none bs ys (All-tail (λ b. b ≢ 10) b bs all))

-- bytes that an end may only end, without it
pub stripped : (xs : List ℕ) → StopsAt xs 10 → All (λ b. b ≢ 10) (strip_last 10 xs)
stripped xs h = go (ends_with_byte 10 xs) refl
  where
    go : (t : Bool) → ends_with_byte 10 xs ≡ t → All (λ b. b ≢ 10) (cond t (take (length xs - 1) xs) xs)
    go true e = h
    go false e = All-from_get_or (λ b. b ≢ 10) xs 0 (λ k below. at k below (nat_lt k (length xs - 1)) refl)
      where
        at : (k : ℕ) → k < length xs → (t : Bool) → nat_lt k (length xs - 1) ≡ t → get_or xs k 0 ≢ 10
        at k below true f =
            let inside : k < length xs - 1 = grind (arith, nat_tests) in
            subst (λ (b : ℕ). b ≢ 10) (get_or-take (length xs - 1) xs k 0 inside) (All-get_or (λ b. b ≢ 10) (take (length xs - 1) xs) k 0 (omega (arith, length-take-le (length xs - 1) xs (omega arith))) h)
        at k below false f =
            let last : k ≡ length xs - 1 = grind (arith, nat_tests) in
            subst (λ (i : ℕ). get_or xs i 0 ≢ 10) (sym last) (λ is. grind (arith, nat_tests))

-- what was added to a line is as long a front of the bytes at hand as was counted
pub taken_front : {E : Type 0} (r : Result ℕ E) (old new : List ℕ) (a b limit : ℕ) (part inner rest : List ℕ) → a ≡ length old → b ≡ length new → inner ≡ part → take limit inner ≡ drop (length old) new ++ rest → StartsWith new old → IfOk r (λ n. b ≡ a + n) → IfOk r (λ n. drop (length old) new ≡ take n part)
taken_front (Err _) old new a b limit part inner rest f g is e front long = tt
taken_front (Ok n) old new a b limit part inner rest f g is e front long =
    let bs = drop (length old) new in
    let count : length bs ≡ n = omega (arith, length-drop (length old) new) in
    let within : n ≤ limit = omega (arith, count, ap length e, length-append bs rest, length-take limit inner) in
    sym (take_at bs rest n count) ∙ ap (take n) (sym e) ∙ take-take n limit inner within ∙ ap (take n) is

pub taken_within : {E : Type 0} (r : Result ℕ E) (old new : List ℕ) (a b limit : ℕ) (part inner rest : List ℕ) → a ≡ length old → b ≡ length new → inner ≡ part → take limit inner ≡ drop (length old) new ++ rest → IfOk r (λ n. b ≡ a + n) → IfOk r (λ n. n ≤ length part)
taken_within (Err _) old new a b limit part inner rest f g is e long = tt
taken_within (Ok n) old new a b limit part inner rest f g is e long =
    omega (arith, length-drop (length old) new, ap length e, length-append (drop (length old) new) rest, length-take limit inner, ap length is)

-- a line that ends has no more bytes than it may, and its end; one with no end among its bytes may have one more
closed_or_open : (a c : Option (List ℕ)) (new : List ℕ) → IfSome a (λ xs. new ≡ take_through 10 xs) → DropsThrough a c 10 → length new ≤ 1048577
    → (length new ≡ 1048577 → ends_with_byte 10 new ≡ false → IsFront a c new) → IsFront a c new
closed_or_open a c new line drops room unended = go (ends_with_byte 10 new) refl
  where
    short : (t : Bool) → ends_with_byte 10 new ≡ t → length (cond t (take (length new - 1) new) new) ≤ 1048576 → IsFront a c new
    short t f h = inl (line, drops, subst (λ (t : Bool). length (cond t (take (length new - 1) new) new) ≤ 1048576) (sym f) h)

    go : (t : Bool) → ends_with_byte 10 new ≡ t → IsFront a c new
    go true f = short true f (omega (arith, length-take (length new - 1) new))
    go false f = sized (nat_lt (length new) 1048577) refl
      where
        sized : (t : Bool) → nat_lt (length new) 1048577 ≡ t → IsFront a c new
        sized true s = short false f (grind (arith, nat_tests))
        sized false s = unended (grind (arith, nat_tests)) f

-- nothing was added where there is no end
last_none : (done new : List ℕ) → StartsWith new done → IsEmptyOrEndsWith (drop (length done) new) 10 → ends_with_byte 10 new ≡ false → length new ≡ length done
last_none done new starts ends unended = go (nat_lt 0 (length (drop (length done) new))) refl
  where
    long : length done ≤ length new
    long = starts_with_length new done starts

    go : (t : Bool) → nat_lt 0 (length (drop (length done) new)) ≡ t → length new ≡ length done
    go false f = let none : length (drop (length done) new) ≡ 0 = grind (arith, nat_tests) in omega (arith, long, length-drop (length done) new)
    go true f =
        let some : 0 < length (drop (length done) new) = grind (arith, nat_tests) in
        let last : length done + (length (drop (length done) new) - 1) ≡ length new - 1 = omega (arith, long, length-drop (length done) new) in
        let is : get_or new (length new - 1) 0 ≡ 10 = ap (λ k. get_or new k 0) (sym last) ∙ sym (get_or-drop (length done) new (length (drop (length done) new) - 1) 0) ∙ ends some in
        let more : 0 < length new = omega (arith, long, length-drop (length done) new) in
        absurd (grind (arith, nat_tests))

-- a line that was read on, up to its end or as long as there was room
pub front_done : (a b c : Option (List ℕ)) (done new : List ℕ) (len : ℕ) → len ≡ length done → All (λ x. x ≢ 10) done → Consumes a b done → StartsWith new done
    → Consumes b c (drop (length done) new) → StopsAt (drop (length done) new) 10 → length done ≤ 1048577 → length new ≤ 1048577
    → (1048577 ≤ len) ⊎ Ends b c (drop (length done) new) → IsFront a c new
front_done a b c done new len is all gone starts more stops short room ends = pick ends
  where
    part : List ℕ
    part = drop (length done) new

    whole : new ≡ done ++ drop (length done) new
    whole = starts_with_rest new done starts

    taken : Consumes a c new
    taken = subst (Consumes a c) (sym whole) (Consumes-trans a b c done _ gone more)

    alone : length new ≡ length done → new ≡ done
    alone same = sym (take_all (length done) new (omega arith)) ∙ starts

    long : length new ≡ 1048577 → length new ≡ length done → IsFront a c new
    long full same = inr (full, subst (All (λ x. x ≢ 10)) (sym (alone same)) all, taken)

    pick : (1048577 ≤ len) ⊎ Ends b c (drop (length done) new) → IsFront a c new
    pick (inl full) = let more' = starts_with_length new done starts in long (omega arith) (omega arith)
    pick (inr e) = closed_or_open a c new line through.1 room (λ full unended. long full (bare full unended))
      where
        through : IfSome a (λ xs. done ++ drop (length done) new ≡ take_through 10 xs) × DropsThrough a c 10
        through = Consumes_through 10 a b c done part gone all more stops e.0 e.1

        line : IfSome a (λ xs. new ≡ take_through 10 xs)
        line = subst (λ (l : List ℕ). IfSome a (λ xs. l ≡ take_through 10 xs)) (sym whole) through.0

        bare : length new ≡ 1048577 → ends_with_byte 10 new ≡ false → length new ≡ length done
        bare full unended = last_none done new starts e.0 unended

-- what the code's test of a part's last byte says
ok_same : {E : Type 0} (g t : Bool) → ◌≡◌ {A = Result Bool E} (Ok g) (Ok t) → g ≡ t
ok_same g t e = cc

pub goes_on : {E : Type 0} (g : Bool) (x : ℕ) → g ≡ not (x == 10) → ◌≡◌ {A = Result Bool E} (Ok g) (Ok true) → x ≢ 10
goes_on g x is e = let yes' : g ≡ true = ok_same g true e in grind (arith, nat_tests)

pub goes_no_further : {E : Type 0} (g : Bool) (x : ℕ) → g ≡ not (x == 10) → ◌≡◌ {A = Result Bool E} (Ok g) (Ok false) → x ≡ 10
goes_no_further g x is e = let no' : g ≡ false = ok_same g false e in grind (arith, nat_tests)

pub stopped : {E : Type 0} (g : Bool) (n : ℕ) → g ≡ nat_lt 0 n → n ≤ 0 → ◌≡◌ {A = Result Bool E} (Ok g) (Ok true) → ⊥
stopped g n is none e = let yes' : g ≡ true = ok_same g true e in grind (arith, nat_tests)

-- what a part that ends or does not end a line says of it
pub part_more : (part bs : List ℕ) (n : ℕ) → bs ≡ take n part → n ≤ length part → 0 < n → get_or part (n - 1) 0 ≢ 10 → StopsAt bs 10 → All (λ b. b ≢ 10) bs
part_more part bs n e within some not stops =
    let long : length bs ≡ n = omega (arith, ap length e, length-take-le n part within) in
    let next : n - 1 + 1 ≡ n = omega arith in
    let front : take (length bs - 1) bs ≡ take (n - 1) part = ap (λ l. take (length bs - 1) l) e ∙ ap (λ k. take (k - 1) (take n part)) long ∙ take-take (n - 1) n part (omega arith) in
    subst (All (λ b. b ≢ 10)) (ap (λ k. take k part) next ∙ sym e) (All-more (λ b. b ≢ 10) part (n - 1) 0 (omega arith) (subst (All (λ b. b ≢ 10)) front stops) not)

pub part_ends : (a c : Option (List ℕ)) (part bs : List ℕ) (n : ℕ) → bs ≡ take n part → n ≤ length part → 0 < n → get_or part (n - 1) 0 ≡ 10 → Ends a c bs
part_ends a c part bs n e within some end =
    let long : length bs ≡ n = omega (arith, ap length e, length-take-le n part within) in
    (λ _. ap (λ l. get_or l (length bs - 1) 0) e ∙ ap (λ k. get_or (take n part) (k - 1) 0) long ∙ get_or-take n part (n - 1) 0 (omega arith) ∙ end, λ none. absurd (omega arith))

pub part_none : (a c : Option (List ℕ)) (part bs : List ℕ) (n full len : ℕ) → bs ≡ take n part → n ≡ 0 → (n ≡ 0 → (part ≡ []) ⊎ (full ≤ len)) → (length part ≡ 0 → OnSome a (IsAtEnd c)) → (full ≤ len) ⊎ Ends a c bs
part_none a c part bs n full len e nothing left end = go (left nothing)
  where
    none : length bs ≡ 0
    none = ap length (e ∙ ap (λ k. take k part) nothing)

    go : (part ≡ []) ⊎ (full ≤ len) → (full ≤ len) ⊎ Ends a c bs
    go (inl gone) = inr (λ some. absurd (omega (arith, none)), λ _. end (ap length gone))
    go (inr over) = inl over

-- bytes of a line, and then all through its end
pub passed_over : (a b c : Option (List ℕ)) (bs : List ℕ) → All (λ x. x ≢ 10) bs → Consumes a b bs → DropsThrough b c 10 → DropsThrough a c 10
passed_over None b c bs all taken skipped = tt
passed_over (Some xs) None c bs all taken skipped = absurd taken
passed_over (Some xs) (Some ys) c bs all taken skipped = skipped ∙ ap Some (sym (ap (drop_through 10) taken ∙ drop_through-append 10 bs ys all))

-- the end of the input, a line that is handed out, and one that is refused
pub front_none : (a b : Option (List ℕ)) (bs : List ℕ) → IsFront a b bs → length bs ≡ 0 → IfSome a (λ xs. xs ≡ []) × DropsThrough a b 10
front_none None b bs (inl h) none = (tt, tt)
front_none (Some xs) b bs (inl h) none = (take_through-nil 10 xs (omega (arith, ap length h.0)), h.1)
front_none a b bs (inr h) none = absurd (omega arith)

pub front_short : (a b : Option (List ℕ)) (bs line : List ℕ) → IsFront a b bs → line ≡ strip_last 10 bs → length line ≤ 1048576 → IfSome a (λ xs. line ≡ first_piece 10 xs) × DropsThrough a b 10
front_short None b bs line (inl h) e short = (tt, tt)
front_short (Some xs) b bs line (inl h) e short = (e ∙ ap (strip_last 10) h.0, h.1)
front_short a b bs line (inr h) e short = absurd (omega (arith, h.0, ap length (e ∙ strip_none bs h.1)))

pub front_long : (a b c : Option (List ℕ)) (bs line : List ℕ) → IsFront a b bs → line ≡ strip_last 10 bs → 1048576 < length line → DropsThrough b c 10 → IfSome a (λ xs. 1048576 < length (first_piece 10 xs)) × DropsThrough a c 10
front_long a b c bs line (inl h) e long skipped = absurd (omega (arith, ap length e, h.2))
front_long None b c bs line (inr h) e long skipped = (tt, tt)
front_long (Some xs) None c bs line (inr h) e long skipped = absurd h.2
front_long (Some xs) (Some ys) c bs line (inr h) e long skipped =
    (omega (arith, h.0, ap length (ap (first_piece 10) h.2 ∙ piece_none bs ys h.1), length-append bs (first_piece 10 ys)), passed_over (Some xs) (Some ys) c bs h.1 h.2 skipped)

pub failed_with : {A E : Type 0} (r : Result A E) (P : Type 0) → P → OnErr r P
failed_with (Ok x) P h = tt
failed_with (Err e) P h = h

pub kept_within : (a b c : Option (List ℕ)) (bs : List ℕ) → All (λ x. x ≢ 10) bs → Consumes a b bs → Keeps b c → WithinLine a c
kept_within a b c bs all taken kept = (bs, all, Consumes-kept a b c bs taken kept)

-- a line that is read on
pub front_stops : (done new : List ℕ) → All (λ x. x ≢ 10) done → StartsWith new done → StopsAt (drop (length done) new) 10 → StopsAt new 10
front_stops done new all starts stops = subst (λ l. StopsAt l 10) (sym (starts_with_rest new done starts)) (StopsAt-append done (drop (length done) new) 10 all stops)

pub all_more : (done new : List ℕ) → All (λ x. x ≢ 10) done → StartsWith new done → All (λ x. x ≢ 10) (drop (length done) new) → All (λ x. x ≢ 10) new
all_more done new all starts more = subst (All (λ x. x ≢ 10)) (sym (starts_with_rest new done starts)) (All-append (λ x. x ≢ 10) done (drop (length done) new) all more)

pub taken_more : (a b c : Option (List ℕ)) (done new : List ℕ) → Consumes a b done → StartsWith new done → Consumes b c (drop (length done) new) → Consumes a c new
taken_more a b c done new gone starts more = subst (Consumes a c) (sym (starts_with_rest new done starts)) (Consumes-trans a b c done (drop (length done) new) gone more)
