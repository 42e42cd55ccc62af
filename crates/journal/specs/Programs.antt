-- What the journal asks of its device, request by request.
-- Assumes nothing.
use Rattle.std.specs.Prelude.{ℕ, zero, suc, ◌+◌, ◌*◌, ◌/◌, ◌%◌, Bool, true, cond, not, ◌&&◌, List, [], ◌∷◌, ◌++◌, length, take, drop, Ok, Err, Result, ◌==◌, nat_le, nat_lt, slice_index_or}
use Rattle.std.specs.List.{list_any, list_all}
use Rattle.disks.specs.Device.{Io, answer, read, write, sync, then'}
use Rattle.journal.specs.Format.{most_writes, slot_sectors, guarded, numbers_end, part_bytes, part_of, half_of, foreign}
use Rattle.journal.specs.Scans.{Scanned, scan_start, scan_on, number_or_none, redo_count, higher}
use Rattle.journal.specs.declared.Place.{Place}
use Rattle.journal.specs.declared.scan.Scan.{Scan}
use Rattle.journal.specs.declared.state.Write.{Write}
use Rattle.journal.specs.declared.state.Slot.{Slot}
use Rattle.journal.specs.declared.state.Slot.TheVariants.{First, Second}
use Rattle.journal.specs.declared.state.Journal.{Journal}
use Rattle.journal.specs.declared.part.Foreign.{Foreign}
use Rattle.journal.specs.declared.state.InOrder.{InOrder}
use Rattle.journal.specs.declared.state.Refused.{Refused}
use Rattle.journal.specs.declared.state.Refused.TheVariants.{OutOfRange, NumbersUsedUp}

-- what opening finds: a journal, or that it isn't ours
abbrev pub Opened : Type 0
Opened = Result Journal Foreign

-- what putting and getting come to
abbrev pub Outcome : Type 0
Outcome = Result (Unit {0}) Refused

abbrev pub Got : Type 0
Got = Result (List ℕ) Refused

abbrev pub base : Slot → ℕ
base First = 0
base Second = slot_sectors

abbrev pub other : Slot → Slot
other First = Second
other Second = First

-- the number of a refusal
abbrev pub refusal : Refused → ℕ
refusal OutOfRange = 1
refusal NumbersUsedUp = 8

abbrev pub foreign_refusal : Foreign → ℕ
foreign_refusal e = 16

-- sectors written one after the other
unfoldable pub write_all_io : List Write → Io (Unit {0})
write_all_io [] = answer tt
write_all_io (w ∷ ws) = write w.target.0 w.bytes (write_all_io ws)

-- a record of these writes: which half of which write its j-th sector has
abbrev pub no_write : Write
no_write = record { target = record { 0 = 0 }; bytes = [] }

abbrev pub half_at : ℕ → List ℕ → List ℕ
half_at zero bs = take 256 bs
half_at (suc h) bs = drop 256 bs

unfoldable pub record_sector : ℕ → List Write → ℕ → List ℕ
record_sector number ws j =
    part_bytes (record { number = number; index = j; length = 2 * length ws; target = (slice_index_or ws (j / 2) no_write).target }) (half_at (j % 2) (slice_index_or ws (j / 2) no_write).bytes)

-- k sectors of it from the j-th on, for the slot that begins at a sector
unfoldable pub record_from : (at number : ℕ) → List Write → (j k : ℕ) → List Write
record_from at number ws j zero = []
record_from at number ws j (suc k) = record { target = record { 0 = at + j }; bytes = record_sector number ws j } ∷ record_from at number ws (j + 1) k

abbrev pub record_of : (at number : ℕ) → List Write → List Write
record_of at number ws = record_from at number ws 0 (2 * length ws)

-- what a transaction may be
unfoldable pub named : ℕ → List Write → Bool
named s ws = list_any (λ w. s == w.target.0) ws

unfoldable pub apart : List Write → Bool
apart [] = true
apart (w ∷ ws) = not (named w.target.0 ws) && apart ws

abbrev pub in_area : ℕ → ℕ → Bool
in_area size s = nat_le guarded s && nat_lt s size

unfoldable pub all_in_area : ℕ → List Write → Bool
all_in_area size ws = list_all (λ w. in_area size w.target.0) ws

abbrev pub allowed : ℕ → List Write → Bool
allowed size ws = (nat_le 1 (length ws) && nat_le (length ws) most_writes) && all_in_area size ws && apart ws

-- PUT: the record into its slot, a sync, the sectors in place
abbrev pub after_put : Journal → Journal
after_put j = record { size = j.size; next = j.next + 1; slot = other j.slot }

abbrev pub Put' : Type 0
Put' = record { outcome : Outcome; journal : Journal }

unfoldable pub transact_io : Journal → List Write → Io (Unit {0})
transact_io j ws = then' (write_all_io (record_of (base j.slot) j.next ws)) (λ _. sync (write_all_io ws))

unfoldable pub put_io : Journal → List Write → Io Put'
put_io j ws =
    cond (allowed j.size ws) (
    cond (nat_lt j.next numbers_end) (then' (transact_io j ws) (λ _. answer (record { outcome = Ok tt; journal = after_put j }))) (answer (record { outcome = Err NumbersUsedUp; journal = j })))
    (answer (record { outcome = Err OutOfRange; journal = j }))

-- GET: one read
unfoldable pub get_io : Journal → Place → Io Got
get_io j p = cond (in_area j.size p.0) (read p.0 (λ b. answer (Ok b))) (answer (Err OutOfRange))

-- OPEN: both slots are read; the complete records are done again, the older first; a sync. A device too small for the journal isn't ours.
unfoldable pub scan_from : (size at i k : ℕ) → Scanned → Io Scanned
scan_from size at i zero s = answer s
scan_from size at i (suc k) s = read (at + i) (λ b. scan_from size at (i + 1) k (scan_on size i b s))

abbrev pub scan_io : ℕ → Slot → Io Scanned
scan_io size slot = scan_from size (base slot) 0 slot_sectors (Ok scan_start)

unfoldable pub replay_from : (at i k : ℕ) → Io (Unit {0})
replay_from at i zero = answer tt
replay_from at i (suc k) = read (at + 2 * i) (λ a. read (at + (2 * i + 1)) (λ b. write (part_of a).target.0 (half_of a ++ half_of b) (replay_from at (i + 1) k)))

-- a number above all that were seen
abbrev pub above : ℕ → ℕ
above n = cond (nat_lt n numbers_end) (n + 1) numbers_end

abbrev pub ready : ℕ → Slot → Scan → Scan → Journal
ready size slot a b = record { size = size; next = above (higher a.highest b.highest); slot = slot }

unfoldable pub redo_io : Slot → Scan → Scan → Io (Unit {0})
redo_io older a b = then' (replay_from (base older) 0 (redo_count a)) (λ _. then' (replay_from (base (other older)) 0 (redo_count b)) (λ _. sync (answer tt)))

-- the slot with the older record, what it holds, and what the other holds
abbrev pub in_order : Scan → Scan → InOrder
in_order a b = cond (nat_lt (number_or_none b) (number_or_none a)) (record { older = Second; a = b; b = a }) (record { older = First; a = a; b = b })

unfoldable pub recover_io : ℕ → Scanned → Scanned → Io Opened
recover_io size (Err e) b = answer (Err foreign)
recover_io size (Ok a) (Err e) = answer (Err foreign)
recover_io size (Ok a) (Ok b) =
    cond (nat_lt (number_or_none b) (number_or_none a)) (then' (redo_io Second b a) (λ _. answer (Ok (ready size Second b a)))) (then' (redo_io First a b) (λ _. answer (Ok (ready size First a b))))

abbrev pub slots_io : ℕ → Io Opened
slots_io size = then' (scan_io size First) (λ a. then' (scan_io size Second) (λ b. recover_io size a b))

unfoldable pub open_io : ℕ → Io Opened
open_io size = cond (nat_le guarded size) (slots_io size) (answer (Err foreign))
