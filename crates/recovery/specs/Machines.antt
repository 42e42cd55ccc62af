-- The journal as a machine, and the judge that it keeps to: an array of sectors.
-- Assumes nothing.
use Rattle.std.specs.Prelude.{◌≡◌, ℕ, suc, ◌<◌, ◌≤◌, Bool, true, false, cond, ◌&&◌, T, List, [], ◌∷◌, length, Ok, Err, ◌==◌}
use Rattle.disks.specs.Device.{Io, answer, then', zeros, all_bytes, Machine, Judge, Keeps, Within}
use Rattle.journal.specs.Format.{guarded}
use Rattle.journal.specs.Programs.{Opened, Outcome, Got, refusal, foreign_refusal, in_area, allowed, get_io, put_io, open_io}
use Rattle.journal.specs.declared.Place.{Place}
use Rattle.journal.specs.declared.state.Write.{Write}

pub data Call : Type 0 where
  Get : Place → Call
  Put : List Write → Call

pub data Reply : Type 0 where
  Got' : List ℕ → Reply
  Done' : Reply
  No : ℕ → Reply

abbrev pub got_reply : Got → Reply
got_reply (Ok b) = Got' b
got_reply (Err r) = No (refusal r)

abbrev pub put_reply : Outcome → Reply
put_reply (Ok u) = Done'
put_reply (Err r) = No (refusal r)

-- sectors of 512 bytes; the code's type has no others
unfoldable pub whole_sectors : List Write → Bool
whole_sectors [] = true
whole_sectors (w ∷ ws) = (length w.bytes == 512 && all_bytes w.bytes) && whole_sectors ws

unfoldable pub call_io : Call → Opened → Io (record { reply : Reply; mem : Opened })
call_io (Get p) (Ok j) = then' (get_io j p) (λ g. answer (record { reply = got_reply g; mem = Ok j }))
call_io (Put ws) (Ok j) = cond (whole_sectors ws) (then' (put_io j ws) (λ x. answer (record { reply = put_reply x.outcome; mem = Ok x.journal }))) (answer (record { reply = No 1; mem = Ok j }))
-- a device that isn't ours
call_io c (Err e) = answer (record { reply = No (foreign_refusal e); mem = Err e })

abbrev pub journal : Machine Call Reply
journal = record { Mem = Opened; opens = open_io; does = call_io }

-- THE JUDGE: an array of sectors. steps counts calls and cuts; for want of numbers a call is refused only after 2^56 of them.
-- A device without room for the journal is refused.
pub record Array : Type 0 where
  pub sector : ℕ → List ℕ
  pub steps : ℕ

-- what stands at a sector after writes
unfoldable pub last : List Write → List ℕ → ℕ → List ℕ
last [] x s = x
last (w ∷ ws) x s = last ws (cond (s == w.target.0) w.bytes x) s

abbrev pub later : Array → Array
later a = record { sector = a.sector; steps = suc a.steps }

abbrev pub put_into : List Write → Array → Array
put_into ws a = record { sector = λ s. last ws (a.sector s) s; steps = suc a.steps }

pub data Answers (size : ℕ) : Call → Array → Reply → Array → Type 0 where
  got : (p : Place) (a : Array) → T (in_area size p.0) → Answers size (Get p) a (Got' (a.sector p.0)) (later a)
  not_got : (p : Place) (a : Array) → in_area size p.0 ≡ false → Answers size (Get p) a (No 1) (later a)
  put : (ws : List Write) (a : Array) → T (whole_sectors ws && allowed size ws) → Answers size (Put ws) a Done' (put_into ws a)
  not_put : (ws : List Write) (a : Array) → whole_sectors ws && allowed size ws ≡ false → Answers size (Put ws) a (No 1) (later a)
  used-up : (ws : List Write) (a : Array) → T (whole_sectors ws && allowed size ws) → 72057594037927936 ≤ a.steps → Answers size (Put ws) a (No 8) (later a)
  too_small : (c : Call) (a : Array) → size < guarded → Answers size c a (No 16) (later a)

-- power failing changes nothing
pub data Falls : Array → Array → Type 0 where
  falls : (a : Array) → Falls a (later a)

abbrev pub array : ℕ → Judge Call Reply
array size = record { State = Array; start = record { sector = λ s. zeros 512; steps = 0 }; Answers = Answers size; Down = Falls }

-- THE JOURNAL KEEPS TO IT, with cuts at any place in opening and putting, and stays within its device.
abbrev pub JournalKeeps : Type 0
JournalKeeps = Keeps array journal

abbrev pub JournalWithin : Type 0
JournalWithin = Within journal
