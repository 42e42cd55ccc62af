-- Frames and back: a frame's length tells where it ends, whatever follows.
use Rattle.std.proofs.Common.{◌≡◌, ℕ, ◌+◌, ◌^◌, ◌<◌, ◌≤◌, Bool, true, false, cond, T, ltb, List, [], ◌++◌, length, take, drop, sym, refl, ap, ◌∙◌, append_assoc, arith, length-append, length-drop, take-append-drop, length-take}
use Rattle.std.proofs.lemmas.Bool.{le-ltb, ltb-false}
use Rattle.disks.specs.Device.{all_bytes}
use Rattle.wire.specs.Promises.{FrameRoundTrip, FrameOneSpelling, FrameBytesSound}
use Rattle.std.proofs.lemmas.List.{take_at, drop_at}
use Rattle.octets.specs.Numbers.{big, bytes_of}
use Rattle.wire.specs.Frames.{frame_bytes, framed, framed_as, framed_in, Frames, whole, short, broken}
use Rattle.octets.proofs.Numbers.{length-bytes_of, big-bytes_of}
use Rattle.octets.proofs.Fields.{big_eight, bytes_take, bytes_drop, bytes-front}

-- a customer's number and what follows it
framed_in_lem : (n : ℕ) (body after : List ℕ) → n < 2 ^ 64 → framed_in (bytes_of 8 n ++ body) after ≡ whole n body after
framed_in_lem n body after h =
    let long : 8 ≤ length (bytes_of 8 n ++ body) = rw length-append (omega (arith, length-bytes_of 8 n)) in
    rw (le-ltb (length (bytes_of 8 n ++ body)) 8 long, take_at (bytes_of 8 n) body 8 (length-bytes_of 8 n), drop_at (bytes_of 8 n) body 8 (length-bytes_of 8 n), big_eight n h)

framed_as_lem : (n : ℕ) (body after : List ℕ) → n < 2 ^ 64 → framed_as (8 + length body) ((bytes_of 8 n ++ body) ++ after) ≡ whole n body after
framed_as_lem n body after h =
    let inner : length (bytes_of 8 n ++ body) ≡ 8 + length body = rw length-append (omega (arith, length-bytes_of 8 n)) in
    let long : 8 + length body ≤ length ((bytes_of 8 n ++ body) ++ after) = rw length-append (omega arith) in
    rw (le-ltb (length ((bytes_of 8 n ++ body) ++ after)) (8 + length body) long, take_at (bytes_of 8 n ++ body) after (8 + length body) inner, drop_at (bytes_of 8 n ++ body) after (8 + length body) inner) (framed_in_lem n body after h)

framed_of : (z : ℕ) (rest : List ℕ) → z < 2 ^ 32 → framed (bytes_of 4 z ++ rest) ≡ framed_as z rest
framed_of z rest h =
    let long : 4 ≤ length (bytes_of 4 z ++ rest) = rw length-append (omega (arith, length-bytes_of 4 z)) in
    let read : big (bytes_of 4 z) ≡ z = big-bytes_of 0 4 z h ∙ omega arith in
    rw (le-ltb (length (bytes_of 4 z ++ rest)) 4 long, take_at (bytes_of 4 z) rest 4 (length-bytes_of 4 z), drop_at (bytes_of 4 z) rest 4 (length-bytes_of 4 z), read)

pub frame_round_trip : FrameRoundTrip
frame_round_trip n body after h l =
    ap framed (append_assoc (bytes_of 4 (8 + length body)) (bytes_of 8 n ++ body) after) ∙ framed_of (8 + length body) ((bytes_of 8 n ++ body) ++ after) l ∙ framed_as_lem n body after h

-- what bytes begin with, with the tests that say so
data Way (bs : List ℕ) : Frames → Type 0 where
  is_short : Way bs short
  is_broken : Way bs broken
  is_whole : 4 ≤ length bs → big (take 4 bs) ≤ length (drop 4 bs) → 8 ≤ length (take (big (take 4 bs)) (drop 4 bs)) →
      Way bs (whole (big (take 8 (take (big (take 4 bs)) (drop 4 bs)))) (drop 8 (take (big (take 4 bs)) (drop 4 bs))) (drop (big (take 4 bs)) (drop 4 bs)))

ways : (bs : List ℕ) → Way bs (framed bs)
ways bs = outer (ltb (length bs) 4) refl (ltb (length rest) z) refl (ltb (length frame) 8) refl
  where
    z : ℕ
    z = big (take 4 bs)

    rest : List ℕ
    rest = drop 4 bs

    frame : List ℕ
    frame = take z rest

    outer : (a : Bool) → ltb (length bs) 4 ≡ a → (b : Bool) → ltb (length rest) z ≡ b → (c : Bool) → ltb (length frame) 8 ≡ c → Way bs (cond a short (cond b short (cond c broken (whole (big (take 8 frame)) (drop 8 frame) (drop z rest)))))
    outer true e b f c g = is_short
    outer false e true f c g = is_short
    outer false e false f true g = is_broken
    outer false e false f false g = is_whole (ltb-false (length bs) 4 e) (ltb-false (length rest) z f) (ltb-false (length frame) 8 g)

-- the parts of a whole frame, put together again
together : (bs : List ℕ) → T (all_bytes bs) → 4 ≤ length bs → (z : ℕ) → big (take 4 bs) ≡ z → z ≤ length (drop 4 bs) → 8 ≤ length (take z (drop 4 bs)) →
    frame_bytes (big (take 8 (take z (drop 4 bs)))) (drop 8 (take z (drop 4 bs))) ++ drop z (drop 4 bs) ≡ bs
together bs h l z e m k =
    let rest = drop 4 bs in
    let frame = take z rest in
    let long : 8 + length (drop 8 frame) ≡ z = rw length-drop (omega (arith, length-take z rest)) in
    let first : bytes_of 4 (8 + length (drop 8 frame)) ≡ take 4 bs = ap (bytes_of 4) (long ∙ sym e) ∙ bytes-front 4 bs h l in
    let inner : bytes_of 8 (big (take 8 frame)) ++ drop 8 frame ≡ frame = ap (λ (xs : List ℕ). xs ++ drop 8 frame) (bytes-front 8 frame (bytes_take z rest (bytes_drop 4 bs h)) k) ∙ take-append-drop 8 frame in
    ap (λ (xs : List ℕ). (xs ++ (bytes_of 8 (big (take 8 frame)) ++ drop 8 frame)) ++ drop z rest) first ∙ ap (λ (xs : List ℕ). (take 4 bs ++ xs) ++ drop z rest) inner ∙ append_assoc (take 4 bs) frame (drop z rest)
    ∙ ap (λ (xs : List ℕ). take 4 bs ++ xs) (take-append-drop z rest) ∙ take-append-drop 4 bs

abbrev rebuilt : Frames → List ℕ
rebuilt (whole n body after) = frame_bytes n body ++ after
rebuilt short = []
rebuilt broken = []

pub frame_one_spelling : FrameOneSpelling
frame_one_spelling bs n body after h e = by_way (framed bs) (ways bs) e
  where
    by_way : (f : Frames) → Way bs f → f ≡ whole n body after → frame_bytes n body ++ after ≡ bs
    by_way f is_short g = let z : ◌≡◌ {A = ℕ} 0 1 = cc in absurd (omega arith)
    by_way f is_broken g = let z : ◌≡◌ {A = ℕ} 0 1 = cc in absurd (omega arith)
    by_way f (is_whole a b c) g = ap rebuilt (sym g) ∙ together bs h a (big (take 4 bs)) refl b c

pub frames_sound : FrameBytesSound
frames_sound = record { back = frame_round_trip; spelling = frame_one_spelling }
