-- A frame on a line: how many bytes follow in 4 bytes, the customer's number in 8, then a call or an answer.
-- Assumes nothing.
use Rattle.std.specs.Prelude.{ℕ, ◌+◌, cond, List, ◌++◌, length, take, drop, nat_lt, Result, Ok, Err}
use Rattle.std.specs.Borrow.{Bor}
use Rattle.wire.specs.declared.frame.Frame.{Frame}
use Rattle.wire.specs.declared.frame.NoFrame.{NoFrame}
use Rattle.wire.specs.declared.frame.NoFrame.TheVariants as none
use Rattle.octets.specs.Numbers.{big, bytes_of}

abbrev pub frame_bytes : (customer : ℕ) → List ℕ → List ℕ
frame_bytes n body = bytes_of 4 (8 + length body) ++ (bytes_of 8 n ++ body)

-- what bytes begin with
pub data Frames : Type 0 where
  -- a frame, and what follows it
  whole : (customer : ℕ) (body after : List ℕ) → Frames
  -- less than a frame: more must come
  short : Frames
  -- what is too short for a customer's number
  broken : Frames

abbrev pub framed_in : List ℕ → List ℕ → Frames
framed_in frame after = cond (nat_lt (length frame) 8) broken (whole (big (take 8 frame)) (drop 8 frame) after)

abbrev pub framed_as : ℕ → List ℕ → Frames
framed_as n bs = cond (nat_lt (length bs) n) short (framed_in (take n bs) (drop n bs))

abbrev pub framed : List ℕ → Frames
framed bs = cond (nat_lt (length bs) 4) short (framed_as (big (take 4 bs)) (drop 4 bs))

-- what the code's value stands for
abbrev pub the_frames : Result (Frame × Bor (List ℕ)) NoFrame → Frames
the_frames (Ok p) = whole p.0.customer.0 p.0.body.now p.1.now
the_frames (Err none.Short) = short
the_frames (Err none.Broken) = broken
