-- What else is promised of the journal: what it costs, that opening may be repeated, and what it makes of a device that isn't ours.
-- Assumes nothing.
use Rattle.std.specs.Prelude.{◌≡◌, ℕ, ◌+◌, ◌*◌, ◌<◌, ◌≤◌, T, ◌≢◌, List, length, Ok, Err}
use Rattle.disks.specs.Device.{Device, Io, answer, read, write, sync, run, Upto, shown, written, synced, AfterCut, Event, off, Trace}
use Rattle.journal.specs.Format.{slot_sectors, guarded, foreign, found}
use Rattle.journal.specs.Programs.{base, in_area, allowed, put_io, open_io}
use Rattle.recovery.specs.Machines.{Call, Reply, journal}
use Rattle.journal.specs.declared.state.Write.{Write}
use Rattle.journal.specs.declared.state.Slot.{Slot}
use Rattle.journal.specs.declared.state.Journal.{Journal}

-- the requests of a program, each read counted as r, each write as w, each sync as s
unfoldable pub count : {A : Type 0} → (r w s : ℕ) → Io A → Device → ℕ
count r w s (answer a) d = 0
count r w s (read n k) d = r + count r w s (k (shown d n)) d
count r w s (write n b p) d = w + count r w s p (written n b d)
count r w s (sync p) d = s + count r w s p (synced d)

-- a transaction of k sectors: one sync, three writes for each sector, no read
abbrev pub PutCosts : Type 0
PutCosts =
    (j : Journal) (ws : List Write) (d : Device) → T (allowed j.size ws) → j.next < 4611686018427387904 →
    (count 0 0 1 (put_io j ws) d ≡ 1) × (count 0 1 0 (put_io j ws) d ≡ 3 * length ws) × (count 1 0 0 (put_io j ws) d ≡ 0)

-- opening: at most 6,400 reads, then 3 requests for each write of two records, and one sync, whatever the device holds
abbrev pub OpenCosts : Type 0
OpenCosts = (size : ℕ) (d : Device) → count 1 1 1 (open_io size) d ≤ 16001

-- opening may be cut and repeated: what the guarded sectors show then is the same
abbrev pub OpensAgain : Type 0
OpensAgain =
    (size : ℕ) → 4096 ≤ size → size ≤ 1099511627776 → (es : List (Event Call Reply)) (d : Device) → Trace journal size es (off d) →
    (e f : Device) → Upto (open_io size) d e → AfterCut e f → (s : ℕ) → T (in_area size s) → shown (run (open_io size) f).device s ≡ shown (run (open_io size) d).device s

-- a device with a sector in its journal that is neither blank nor a part is not ours, and left alone; any other with room for the journal is opened
abbrev pub ForeignRefused : Type 0
ForeignRefused = (size : ℕ) (d : Device) (slot : Slot) (i : ℕ) → i < slot_sectors → found size i (shown d (base slot + i)) ≡ Err foreign → run (open_io size) d ≡ record { value = Err foreign; device = d }

abbrev pub OursOpened : Type 0
OursOpened = (size : ℕ) (d : Device) → guarded ≤ size → ((slot : Slot) (i : ℕ) → i < slot_sectors → found size i (shown d (base slot + i)) ≢ Err foreign) → (j : Journal) × ((run (open_io size) d).value ≡ Ok j)
