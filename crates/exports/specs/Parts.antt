-- What the exported functions show of calls, answers and frames.
-- Assumes nothing.
use Rattle.std.specs.Prelude.{◌≡◌, ℕ, cond, List, length, Some, None, Option, ◌==◌, slice_index}
use Rattle.std.specs.Option.{option_map}
use Rattle.disks.specs.Disks.{Call, Make, Attach, Read, Write, Sync, Picture', Copy, Drop, DropPicture, Reply, No, Yes, Num, Token, Sector, Full}
use Rattle.wire.specs.declared.kind.Kind.{Kind}
use Rattle.wire.specs.declared.kind.Kind.TheVariants as kinds
use Rattle.wire.specs.declared.refusal.Refusal.{Refusal}
use Rattle.wire.specs.Answers.{answer_bytes}
use Rattle.wire.specs.Refusals.{refusal_number, refusal_of}
use Rattle.wire.specs.Frames.{Frames, whole, short, broken}
use Rattle.wire.specs.Calls.{Decoded, is_call, is_refused, kind_for, numbers_in, call_bytes}
use Rattle.wire.specs.Kinds.{number_of, kind_of}
use Rattle.exports.specs.declared.CallParts.{CallParts}
use Rattle.exports.specs.declared.AnswerParts.{AnswerParts}
use Rattle.exports.specs.declared.FrameParts.{FrameParts}

abbrev pub call_parts : Decoded → CallParts
call_parts (is_call c) = record { refusal = 0; kind = number_of (kind_for c); first = slice_index (numbers_in c) 0; second = slice_index (numbers_in c) 1; third = slice_index (numbers_in c) 2 }
call_parts (is_refused n) = record { refusal = n; kind = 0; first = 0; second = 0; third = 0 }

abbrev pub answer_parts : Option Reply → AnswerParts
answer_parts (Some (No k)) = record { case = 0; first = k; second = 0 }
answer_parts (Some Yes) = record { case = 1; first = 0; second = 0 }
answer_parts (Some (Num n)) = record { case = 2; first = n; second = 0 }
answer_parts (Some (Token t z)) = record { case = 3; first = t; second = z }
answer_parts (Some (Sector b)) = record { case = 4; first = 0; second = 0 }
answer_parts (Some Full) = record { case = 5; first = 0; second = 0 }
answer_parts None = record { case = 6; first = 0; second = 0 }

abbrev pub frame_parts : Frames → FrameParts
frame_parts (whole n body after) = record { state = 0; customer = n; body = length body; after = length after }
frame_parts short = record { state = 1; customer = 0; body = 0; after = 0 }
frame_parts broken = record { state = 2; customer = 0; body = 0; after = 0 }

abbrev pub call_from : Kind → (numbers content : List ℕ) → Call
call_from kinds.Make ns bs = Make (slice_index ns 0)
call_from kinds.Attach ns bs = Attach (slice_index ns 0)
call_from kinds.Read ns bs = Read (slice_index ns 0) (slice_index ns 1) (slice_index ns 2)
call_from kinds.Write ns bs = Write (slice_index ns 0) (slice_index ns 1) (slice_index ns 2) bs
call_from kinds.Sync ns bs = Sync (slice_index ns 0) (slice_index ns 1)
call_from kinds.Picture ns bs = Picture' (slice_index ns 0) (slice_index ns 1)
call_from kinds.Copy ns bs = Copy (slice_index ns 0)
call_from kinds.Drop ns bs = Drop (slice_index ns 0) (slice_index ns 1)
call_from kinds.DropPicture ns bs = DropPicture (slice_index ns 0)

-- what was put is the bytes of the call of that kind's number
pub record PutCall (number : ℕ) (numbers content put : List ℕ) : Type 0 where
  pub kind : Kind
  pub named : kind_of number ≡ Some kind
  pub bytes : put ≡ call_bytes (call_from kind numbers content)

abbrev pub answer_from : ℕ → (numbers content : List ℕ) → Option Reply
answer_from n ns bs =
    cond (n == 0) (option_map (λ (e : Refusal). No (refusal_number e)) (refusal_of (slice_index ns 0)))
    (cond (n == 1) (Some Yes) (cond (n == 2) (Some (Num (slice_index ns 0))) (cond (n == 3) (Some (Token (slice_index ns 0) (slice_index ns 1))) (cond (n == 4) (cond (length bs == 512) (Some (Sector bs)) None) (cond (n == 5) (Some Full) None)))))

-- what was put is the bytes of the answer of that case
pub record PutAnswer (case : ℕ) (numbers content put : List ℕ) : Type 0 where
  pub reply : Reply
  pub said : answer_from case numbers content ≡ Some reply
  pub bytes : put ≡ answer_bytes reply

-- what was put is the bytes of the call that was decoded
pub record Again (was : Decoded) (put : List ℕ) : Type 0 where
  pub call : Call
  pub decodes : was ≡ is_call call
  pub bytes : put ≡ call_bytes call
