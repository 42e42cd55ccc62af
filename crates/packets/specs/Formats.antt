-- The bytes of each part of a message, and of what a copy stores.
-- Assumes nothing.
use Rattle.std.specs.Prelude.{◌⊎◌, ℕ, zero, suc, ◌+◌, ◌*◌, ◌/◌, ◌%◌, Bool, true, false, cond, not, ◌&&◌, List, [], ◌∷◌, ◌++◌, length, Result, Ok, Err, nat_lt, nat_le, ◌==◌}
use Rattle.std.proofs.Common.{inl, inr}
use Rattle.std.specs.List.{list_all}
use Rattle.disks.specs.Device.{zeros}
use Rattle.disks.specs.Disks.{all_zero, one}
use Rattle.octets.specs.Numbers.{bytes_of}
use Rattle.wire.specs.Frames.{frame_bytes}
use Rattle.volumes.specs.declared.head.Head.{Head}
use Rattle.volumes.specs.Service.{Service}
use Rattle.agreement.specs.Copies.{Proposal, nothing, voted}
use Rattle.copies.specs.Service.{Stamped}
use Rattle.copies.specs.Messages.{Item, Bundle, Reply, Session, Recovery, level, recovers, Agreeing, Status, Want}
use Rattle.packets.specs.declared.fault.Fault.{Fault}
use Rattle.packets.specs.declared.fault.Fault.TheVariants.{Range}
use Rattle.packets.specs.Codecs.{◌>>=◌, Codec, number, number_at, text_at, ◌then◌, constant, shaped, listed, exactly, frame_at, empty, on_either, only, or_kind, of_kinds}

abbrev pub Bytes : Type 0
Bytes = List ℕ

-- CALLS AND ANSWERS
abbrev pub CallItem : Type 0
CallItem = Item Bytes

abbrev pub CallBundle : Type 0
CallBundle = Bundle Bytes

abbrev pub AnswerReply : Type 0
AnswerReply = Reply Bytes

abbrev pub AnswerSession : Type 0
AnswerSession = Session Bytes

-- under a customer's number, as a frame on a line, and a limit on what it carries
abbrev pub framed : ℕ → Codec (ℕ × Bytes)
framed most = record { bytes = λ p. frame_bytes p.0 p.1; read = frame_at most; fits = λ p. nat_lt p.0 18446744073709551616 && nat_le (length p.1) most }

unfoldable pub item : Codec CallItem
item = shaped (λ p. record { id = p.0; call = p.1 }) (λ i. (i.id, i.call)) (framed 537)

unfoldable pub reply : Codec AnswerReply
reply = shaped (λ p. record { id = p.0; reply = p.1 }) (λ r. (r.id, r.reply)) (framed 513)

-- house, incarnation, counter, calls
unfoldable pub bundle : Codec CallBundle
bundle =
    shaped (λ p. record { house = p.0; incarnation = p.1.0; counter = p.1.1.0; calls = p.1.1.1 }) (λ b. (b.house, (b.incarnation, (b.counter, b.calls))))
    (number 8 then number 8 then number 8 then listed 1 8 item)

-- incarnation, counter, replies
unfoldable pub session : Codec AnswerSession
session = shaped (λ p. record { incarnation = p.0; counter = p.1.0; replies = p.1.1 }) (λ s. (s.incarnation, (s.counter, s.replies))) (number 8 then number 8 then listed 1 8 reply)

-- WHAT A COPY SAYS OF ITSELF
abbrev pub CallProposal : Type 0
CallProposal = Proposal (List CallBundle)

abbrev pub CallStatus : Type 0
CallStatus = Status Bytes

abbrev pub CallAgreeing : Type 0
CallAgreeing = Agreeing Bytes

abbrev pub flag_of : Bool → Unit {0} ⊎ Unit {0}
flag_of false = inl tt
flag_of true = inr tt

-- 0 or 1
unfoldable pub flag : Codec Bool
flag = shaped (on_either (λ u. false) (λ u. true)) flag_of (of_kinds (or_kind 0 empty (only 1 empty)))

abbrev pub proposed : CallProposal → Unit {0} ⊎ (ℕ × List CallBundle)
proposed nothing = inl tt
proposed (voted b k) = inr (b, k)

-- 0; or 1, the ballot, and the bundles
unfoldable pub proposal : Codec CallProposal
proposal = shaped (on_either (λ u. nothing) (λ p. voted p.0 p.1)) proposed (of_kinds (or_kind 0 empty (only 1 (number 8 then listed 1 49 bundle))))

-- promised, version, last, recovering, proposal
unfoldable pub status : Codec CallStatus
status =
    shaped (λ p. record { promised = p.0; version = p.1.0; last = p.1.1.0; recovering = p.1.1.1.0; proposal = p.1.1.1.1 }) (λ s. (s.promised, (s.version, (s.last, (s.recovering, s.proposal)))))
    (number 8 then number 8 then number 8 then flag then proposal)

abbrev pub span_of : Recovery → Unit {0} ⊎ (ℕ × ℕ)
span_of level = inl tt
span_of (recovers base top) = inr (base, top)

-- 0; or 1, base, top
unfoldable pub recovery : Codec Recovery
recovery = shaped (on_either (λ u. level) (λ p. recovers p.0 p.1)) span_of (of_kinds (or_kind 0 empty (only 1 (number 8 then number 8))))

-- promised, version, last, recovery, proposal
unfoldable pub agreeing : Codec CallAgreeing
agreeing =
    shaped (λ p. record { promised = p.0; version = p.1.0; last = p.1.1.0; recovery = p.1.1.1.0; proposal = p.1.1.1.1 }) (λ a. (a.promised, (a.version, (a.last, (a.recovery, a.proposal)))))
    (number 8 then number 8 then number 8 then recovery then proposal)

-- BLOCKS
abbrev pub Sectors : Type 0
Sectors = List Bytes

-- base, top, key
unfoldable pub want : Codec Want
want = shaped (λ p. record { base = p.0; top = p.1.0; key = p.1.1 }) (λ w. (w.base, (w.top, w.key))) (number 8 then number 8 then number 16)

-- which sectors hold anything: the i-th the i-th bit, from the lowest
abbrev pub mask_of : Sectors → ℕ
mask_of [] = 0
mask_of (s ∷ ss) = one (not (all_zero s)) + 2 * mask_of ss

-- and those that do
abbrev pub held_of : Sectors → Bytes
held_of [] = []
held_of (s ∷ ss) = cond (all_zero s) [] s ++ held_of ss

-- a sector that holds something, or zeros that aren't there
abbrev pub sector_at : Bool → Bytes → Result (Bytes × Bytes) Fault
sector_at held bs = cond held (text_at 512 bs >>= λ s. cond (all_zero s.0) (Err Range) (Ok (s.0, s.1))) (Ok (zeros 512, bs))

-- so many sectors, of which a mask says which hold anything
unfoldable pub sectors_at : ℕ → (mask : ℕ) → Bytes → Result (Sectors × Bytes) Fault
sectors_at zero mask bs = Ok ([], bs)
sectors_at (suc n) mask bs = sector_at (mask % 2 == 1) bs >>= λ s. sectors_at n (mask / 2) s.1 >>= λ ss. Ok (s.0 ∷ ss.0, ss.1)

-- a block's eight sectors: the mask, and the sectors that hold anything
unfoldable pub block : Codec Sectors
block =
    record {
      bytes = λ ss. bytes_of 1 (mask_of ss) ++ held_of ss;
      read = λ bs. number_at 1 bs >>= λ m. sectors_at 8 m.0 m.1;
      fits = λ ss. length ss == 8 && list_all (λ s. length s == 512) ss;
    }

abbrev pub StampedBlock : Type 0
StampedBlock = Stamped Sectors

-- key, stamp, block
unfoldable pub stamped : Codec StampedBlock
stamped = shaped (λ p. record { key = p.0; stamp = p.1.0; block = p.1.1 }) (λ b. (b.key, (b.stamp, b.block))) (number 16 then number 8 then block)

-- number, size, token, used
unfoldable pub head : Codec Head
head =
    shaped (λ p. record { number = record { 0 = p.0 }; size = record { 0 = p.1.0 }; token = record { 0 = p.1.1.0 }; used = p.1.1.1 }) (λ h. (h.number.0, (h.size.0, (h.token.0, h.used))))
    (number 8 then number 8 then number 8 then number 8)

-- next, weight, heads
unfoldable pub rest : Codec Service
rest = shaped (λ p. record { next = p.0; weight = p.1.0; heads = p.1.1 }) (λ r. (r.next, (r.weight, r.heads))) (number 8 then number 8 then listed 2 4096 head)

-- how a part ends: with each house's session, in the houses' order
pub data PartEnd : Type 0 where
  more_from : (key : ℕ) → PartEnd
  with_rest : Service → List AnswerSession → PartEnd

abbrev pub end_of : PartEnd → ℕ ⊎ (Service × List AnswerSession)
end_of (more_from k) = inl k
end_of (with_rest r ss) = inr (r, ss)

-- 0 and a key; or 1, the rest, and 49 sessions
unfoldable pub part_end : Codec PartEnd
part_end = shaped (on_either more_from (λ p. with_rest p.0 p.1)) end_of (of_kinds (or_kind 0 (number 16) (only 1 (rest then exactly 49 session))))

pub record PartSaid : Type 0 where
  pub asked : Want
  pub promised : ℕ
  pub version : ℕ
  pub last : ℕ
  pub whole : Bool
  pub floor : ℕ
  pub blocks : List StampedBlock
  pub tail : PartEnd

-- the want, promised, version, last, whole, floor, blocks, and the end
unfoldable pub part : Codec PartSaid
part =
    shaped (λ p. record { asked = p.0; promised = p.1.0; version = p.1.1.0; last = p.1.1.1.0; whole = p.1.1.1.1.0; floor = p.1.1.1.1.1.0; blocks = p.1.1.1.1.1.1.0; tail = p.1.1.1.1.1.1.1 })
    (λ x. (x.asked, (x.promised, (x.version, (x.last, (x.whole, (x.floor, (x.blocks, x.tail)))))))) (want then number 8 then number 8 then number 8 then flag then number 8 then listed 2 4096 stamped then part_end)

-- MESSAGES
pub data Said : Type 0 where
  bundled : CallBundle → Said
  replied : AnswerSession → Said
  told : CallStatus → Said
  asked : Want → Said
  given : PartSaid → Said

abbrev pub SaidOf : Type 0
SaidOf = CallBundle ⊎ (AnswerSession ⊎ (CallStatus ⊎ (Want ⊎ PartSaid)))

abbrev pub said_of : Said → SaidOf
said_of (bundled b) = inl b
said_of (replied s) = inr (inl s)
said_of (told x) = inr (inr (inl x))
said_of (asked w) = inr (inr (inr (inl w)))
said_of (given x) = inr (inr (inr (inr x)))

abbrev pub said : SaidOf → Said
said = on_either bundled (on_either replied (on_either told (on_either asked given)))

-- 1 a bundle, 2 replies, 3 a status, 4 a want, 5 a part
unfoldable pub message : Codec Said
message = shaped said said_of (of_kinds (or_kind 1 bundle (or_kind 2 session (or_kind 3 status (or_kind 4 want (only 5 part))))))

-- WHO A HOUSE IS
-- how often it has come up is its incarnation
pub record Identity : Type 0 where
  pub house : ℕ
  pub houses : ℕ
  pub size : ℕ
  pub incarnation : ℕ

-- the mark of a house's tables: `kindself`
abbrev pub mark : ℕ
mark = 7739838812324719718

-- the mark, house, how many houses, size of its device, incarnation
unfoldable pub identity : Codec Identity
identity =
    shaped (λ p. record { house = p.1.0; houses = p.1.1.0; size = p.1.1.1.0; incarnation = p.1.1.1.1 }) (λ i. (tt, (i.house, (i.houses, (i.size, i.incarnation))))) (constant 8 mark then number 8 then number 8 then number 8 then number 8)

-- WHAT IS KNOWN OF A DIRECTORY besides its sectors
pub record Directory : Type 0 where
  pub generation : ℕ
  pub floor : ℕ

-- generation, floor
unfoldable pub directory : Codec Directory
directory = shaped (λ p. record { generation = p.0; floor = p.1 }) (λ d. (d.generation, d.floor)) (number 8 then number 8)
