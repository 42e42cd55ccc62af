-- What is found in a slot of the journal.
-- Assumes nothing.
use Rattle.std.specs.Prelude.{ℕ, zero, suc, ◌+◌, ◌*◌, ◌/◌, Bool, cond, ◌&&◌, ◌||◌, List, [], ◌∷◌, ◌++◌, ◌==◌, nat_le, nat_lt, Some, None, Option, Ok, Err, Result, unwrap_or}
use Rattle.journal.specs.Format.{slot_sectors, part_of, half_of, Found, found}
use Rattle.journal.specs.declared.part.Part.{Part}
use Rattle.journal.specs.declared.part.Foreign.{Foreign}
use Rattle.journal.specs.declared.scan.Record.{Record}
use Rattle.journal.specs.declared.scan.Scan.{Scan}
use Rattle.journal.specs.declared.state.Write.{Write}

abbrev pub scan_start : Scan
scan_start = record { whole = None; highest = 0 }

abbrev pub higher : ℕ → ℕ → ℕ
higher a b = cond (nat_lt a b) b a

-- the record, if it passes a test
abbrev pub still : (Record → Bool) → Option Record → Option Record
still f None = None
still f (Some r) = cond (f r) (Some r) None

-- the first sector says which record it is; the others, up to its length, must say the same
unfoldable pub scan_part : ℕ → Part → Scan → Scan
scan_part i p s =
    cond (i == 0) (record { whole = Some (record { number = p.number; length = p.length }); highest = p.number })
    (record { whole = still (λ r. nat_le r.length i || (p.number == r.number && p.length == r.length)) s.whole; highest = higher s.highest p.number })

abbrev pub Scanned : Type 0
Scanned = Result Scan Foreign

unfoldable pub scan_blank : ℕ → Scan → Scan
scan_blank i s = record { whole = still (λ r. nat_le r.length i) s.whole; highest = s.highest }

unfoldable pub scan_found : ℕ → Found → Scan → Scanned
scan_found i (Ok None) s = Ok (scan_blank i s)
scan_found i (Ok (Some p)) s = Ok (scan_part i p s)
scan_found i (Err e) s = Err e

abbrev pub scan_next : (size index : ℕ) → List ℕ → Scan → Scanned
scan_next size i b s = scan_found i (found size i b) s

-- behind a foreign sector nothing is found
abbrev pub scan_on : (size index : ℕ) → List ℕ → Scanned → Scanned
scan_on size i b (Ok s) = scan_next size i b s
scan_on size i b (Err e) = Err e

-- the first k sectors of a slot that holds these
unfoldable pub scanned : ℕ → (ℕ → List ℕ) → ℕ → Scanned
scanned size g zero = Ok scan_start
scanned size g (suc k) = scan_on size k (g k) (scanned size g k)

-- the number of the record that is to be done again
abbrev pub number_of : Option Record → Option ℕ
number_of None = None
number_of (Some r) = Some r.number

abbrev pub redo_number : Scan → Option ℕ
redo_number s = number_of s.whole

-- the same for comparing: 0 if there is none
abbrev pub number_or_none : Scan → ℕ
number_or_none s = unwrap_or (redo_number s) 0

-- and how many writes it has
abbrev pub count_of : Option Record → ℕ
count_of None = 0
count_of (Some r) = cond (nat_le r.length slot_sectors) (r.length / 2) 0

abbrev pub redo_count : Scan → ℕ
redo_count s = count_of s.whole

-- the i-th write of a record, and k writes from there on
abbrev pub write_at : (ℕ → List ℕ) → ℕ → Write
write_at g i = record { target = (part_of (g (2 * i))).target; bytes = half_of (g (2 * i)) ++ half_of (g (2 * i + 1)) }

unfoldable pub writes_from : (ℕ → List ℕ) → (i k : ℕ) → List Write
writes_from g i zero = []
writes_from g i (suc k) = write_at g i ∷ writes_from g (i + 1) k
