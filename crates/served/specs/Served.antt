-- The volumes as a service that is replicated: calls and answers are bytes, the heads are the rest, what volumes hold the blocks.
-- Assumes nothing.
use Rattle.std.specs.Prelude.{◌≡◌, ◌≢◌, ℕ, ◌≤◌, cond, List, [], ◌∷◌, length, bytes_eq}
use Rattle.disks.specs.Device.{all_bytes}
use Rattle.disks.specs.Disks.{No}
use Rattle.wire.specs.Kinds.{is_built}
use Rattle.wire.specs.Calls.{Decoded, is_call, is_refused, decoded}
use Rattle.wire.specs.Answers.{answer_bytes}
use Rattle.wire.specs.Promises.{Said}
use Rattle.volumes.specs.Service.{Service, blank_service, Changed, keeps, puts, forgets, Served, says, serves}
use Rattle.volumes.specs.Simulation.{read_at, needed}
use Rattle.copies.specs.Service.{Change, Service as Replicated, Lawful}
use Rattle.served.specs.Blocks.{Block, empty_block, key_at, sector_in, with_sector}
use Rattle.served.specs.Room.{is_gone, HasRoom}

-- the blocks that may be asked for; what is gone reads as empty
unfoldable pub seen : Service → (ℕ → Block) → ℕ → Block
seen r f k = cond (is_gone r k) empty_block (f k)

-- what bytes come to, as in `wire`; numbers above 255 are no bytes, and so no call
unfoldable pub decoded_call : List ℕ → Decoded
decoded_call o = cond (all_bytes o) (decoded is_built o) (is_refused 1)

-- what is served, where blocks are seen so
unfoldable pub serves_decoded : (room : ℕ) → Decoded → Service → (ℕ → Block) → Served
serves_decoded room (is_call c) r f = serves room c (read_at (needed c) (sector_in f)) r
serves_decoded room (is_refused n) r f = says (No n) r

unfoldable pub serves_bytes : (room : ℕ) → (call : List ℕ) → Service → (ℕ → Block) → Served
serves_bytes room o r f = serves_decoded room (decoded_call o) r (seen r f)

-- Which blocks change: of a write one, and none where the sector holds that already. The blocks of a volume that is dropped are gone.
unfoldable pub changes_of : Changed → (ℕ → Block) → List (Change Block)
changes_of keeps f = []
changes_of (puts v n bs) f = cond (bytes_eq (sector_in f v n) bs) [] (record { key = key_at v n; block = with_sector n bs (f (key_at v n)) } ∷ [])
changes_of (forgets v) f = []

abbrev pub reply_to : (room : ℕ) → (call : List ℕ) → Service → (ℕ → Block) → List ℕ
reply_to room o r f = answer_bytes (serves_bytes room o r f).reply

abbrev pub next_after : (room : ℕ) → (call : List ℕ) → Service → (ℕ → Block) → Service
next_after room o r f = (serves_bytes room o r f).service

abbrev pub changes_by : (room : ℕ) → (call : List ℕ) → Service → (ℕ → Block) → List (Change Block)
changes_by room o r f = changes_of (serves_bytes room o r f).change (seen r f)

-- BUSY is no reply of the service. Were it one, customers would be told that the call is none.
abbrev pub busy_bytes : List ℕ
busy_bytes = answer_bytes (No 11)

unfoldable pub told : List ℕ → List ℕ
told bs = cond (bytes_eq bs busy_bytes) (answer_bytes (No 1)) bs

abbrev pub volume_service : (room : ℕ) → Replicated (List ℕ) (List ℕ)
volume_service room =
    record {
      Rest = Service;
      Block = Block;
      A = List ℕ;
      first = blank_service;
      empty = empty_block;
      reply = reply_to room;
      next = next_after room;
      changes = changes_by room;
      gone = is_gone;
      HasRoom = HasRoom room;
      says = told;
      busy = busy_bytes;
    }

abbrev pub IsLawful : Type 0
IsLawful = (room : ℕ) → Lawful (volume_service room)

-- Each reply has a spelling, of at most 513 bytes.
abbrev pub RepliesFit : Type 0
RepliesFit = (room : ℕ) (o : List ℕ) (r : Service) (f : ℕ → Block) → HasRoom room r f → Said (serves_bytes room o r f).reply × (length (reply_to room o r f) ≤ 513)

-- Customers are told each reply as it is.
abbrev pub NeverBusy : Type 0
NeverBusy = (room : ℕ) (o : List ℕ) (r : Service) (f : ℕ → Block) → (reply_to room o r f ≢ busy_bytes) × (told (reply_to room o r f) ≡ reply_to room o r f)
