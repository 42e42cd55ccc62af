-- What is promised of bytes: whatever is sent is read as what was sent, there is one spelling, and it is known what is refused.
-- Assumes nothing.
use Rattle.std.specs.Prelude.{◌≡◌, ℕ, ◌+◌, ◌*◌, ◌^◌, ◌<◌, Bool, true, false, cond, T, ◌⊎◌, List, [], ◌∷◌, ◌++◌, length, is_some, Some, ◌≢◌}
use Rattle.disks.specs.Device.{all_bytes}
use Rattle.disks.specs.Disks.{Call, Reply, No, Yes, Num, Token, Sector, Full, core}
use Rattle.octets.specs.Numbers.{small}
use Rattle.wire.specs.declared.kind.Kind.{Kind}
use Rattle.wire.specs.Kinds.{kind_in, is_built}
use Rattle.wire.specs.Refusals.{refusal_of}
use Rattle.wire.specs.Calls.{kind_for, numbers_in, content_of, call_bytes, length_for, decoded, is_call, is_refused}
use Rattle.wire.specs.Answers.{answer_bytes, answered_by}
use Rattle.wire.specs.Frames.{frame_bytes, framed, whole}

-- a call that bytes can spell: its numbers fit, and it is as long as its kind says, which is that a write has 512 bytes
pub record Spelled (c : Call) : Type 0 where
  pub fits : T (small (numbers_in c))
  pub long : 8 * length (numbers_in c) + length (content_of c) ≡ length_for (kind_for c)

-- Decoding what was encoded gives the call back, or 12 where its kind isn't built.
abbrev pub RoundTrip : Type 0
RoundTrip = (can : Kind → Bool) (c : Call) → Spelled c → decoded can (call_bytes c) ≡ cond (can (kind_for c)) (is_call c) (is_refused 12)

-- There is one spelling: what decodes to a call is what that call encodes to.
abbrev pub OneSpelling : Type 0
OneSpelling = (can : Kind → Bool) (bs : List ℕ) (c : Call) → T (all_bytes bs) → decoded can bs ≡ is_call c → (call_bytes c ≡ bs) × Spelled c

-- A refusal is by 12, of bytes that begin with a kind that isn't built, or by 1, of bytes that no call has.
abbrev pub Refuses : Type 0
Refuses =
    (can : Kind → Bool) (bs : List ℕ) (n : ℕ) → decoded can bs ≡ is_refused n →
    ((n ≡ 12) × ((k : Kind) × (kind_in bs ≡ Some k) × (can k ≡ false))) ⊎ ((n ≡ 1) × ((c : Call) → Spelled c → call_bytes c ≢ bs))

-- What is built is what the first landings' meaning has.
abbrev pub BuiltIsCore : Type 0
BuiltIsCore = (c : Call) → is_built (kind_for c) ≡ core c

pub record CallBytesSound : Type 0 where
  pub back : RoundTrip
  pub spelling : OneSpelling
  pub refusals : Refuses
  pub built : BuiltIsCore

-- an answer that bytes can spell
abbrev pub Said : Reply → Type 0
Said (No k) = is_some (refusal_of k) ≡ true
Said Yes = Unit {0}
Said (Num n) = T (small (n ∷ []))
Said (Token t z) = T (small (t ∷ z ∷ []))
Said (Sector b) = length b ≡ 512
Said Full = Unit {0}

abbrev pub AnswerRoundTrip : Type 0
AnswerRoundTrip = (r : Reply) → Said r → answered_by (answer_bytes r) ≡ Some r

abbrev pub AnswerOneSpelling : Type 0
AnswerOneSpelling = (bs : List ℕ) (r : Reply) → T (all_bytes bs) → answered_by bs ≡ Some r → (answer_bytes r ≡ bs) × Said r

pub record AnswerBytesSound : Type 0 where
  pub back : AnswerRoundTrip
  pub spelling : AnswerOneSpelling

-- A frame is found again, whatever follows it.
abbrev pub FrameRoundTrip : Type 0
FrameRoundTrip = (n : ℕ) (body after : List ℕ) → n < 2 ^ 64 → 8 + length body < 2 ^ 32 → framed (frame_bytes n body ++ after) ≡ whole n body after

abbrev pub FrameOneSpelling : Type 0
FrameOneSpelling = (bs : List ℕ) (n : ℕ) (body after : List ℕ) → T (all_bytes bs) → framed bs ≡ whole n body after → frame_bytes n body ++ after ≡ bs

pub record FrameBytesSound : Type 0 where
  pub back : FrameRoundTrip
  pub spelling : FrameOneSpelling
