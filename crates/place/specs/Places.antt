-- A place is the service, and what its sectors hold.
-- Assumes nothing.
use Rattle.std.specs.Prelude.{◌≡◌, ℕ, List, Some, None, box_value, Option, Box}
use Rattle.std.specs.declared.alloc.Global.{Global}
use Rattle.std.specs.BTreeMap.{BTreeMap, get}
use Rattle.std.specs.Ordering.{nat_cmp}
use Rattle.disks.specs.Device.{zeros}
use Rattle.disks.specs.Disks.{Call, No}
use Rattle.wire.specs.Calls.{Decoded, is_call, is_refused}
use Rattle.wire.specs.Answers.{answer_bytes}
use Rattle.volumes.specs.Service.{Changed, the_service, serves}
use Rattle.volumes.specs.Simulation.{Sectors, Store, changed_by, read_at, needed}
use Rattle.place.specs.declared.one_place.OnePlace.{OnePlace}

-- the sectors of one volume that were written, by their numbers, and those of all volumes
abbrev pub Row : Type 0
Row = BTreeMap ℕ (Box (List ℕ) Global)

abbrev pub Table : Type 0
Table = BTreeMap ℕ Row

-- a sector that was never written is blank
abbrev pub content_of : Option (Box (List ℕ) Global) → List ℕ
content_of None = zeros 512
content_of (Some b) = box_value b

abbrev pub held_by : Row → ℕ → List ℕ
held_by r n = content_of (get nat_cmp r n)

abbrev pub held_of : Option Row → ℕ → List ℕ
held_of None n = zeros 512
held_of (Some r) n = held_by r n

abbrev pub the_sectors : Table → Sectors
the_sectors m v n = held_of (get nat_cmp m v) n

abbrev pub the_store : OnePlace → Store
the_store p = record { service = the_service p.volumes; sector = the_sectors p.sectors.written }

-- from p to q sectors changed, and nothing else
pub record Keeps (p : OnePlace) (c : Changed) (q : OnePlace) : Type 0 where
  pub sectors : the_sectors q.sectors.written ≡ changed_by c (the_sectors p.sectors.written)
  pub volumes : q.volumes ≡ p.volumes

-- a call that was played: the service's answer in bytes, and the place as the service leaves it
pub record Played (p : OnePlace) (c : Call) (read answer : List ℕ) (q : OnePlace) : Type 0 where
  pub said : answer ≡ answer_bytes (serves p.volumes.room c read (the_service p.volumes)).reply
  pub service : the_service q.volumes ≡ (serves p.volumes.room c read (the_service p.volumes)).service
  pub sectors : the_sectors q.sectors.written ≡ changed_by (serves p.volumes.room c read (the_service p.volumes)).change (the_sectors p.sectors.written)
  pub room : q.volumes.room ≡ p.volumes.room

-- bytes that were answered: a call as the service with its sectors has it, a refusal by its number with nothing changed
abbrev pub Answered : OnePlace → Decoded → List ℕ → OnePlace → Type 0
Answered p (is_call c) answer q = Played p c (read_at (needed c) (the_sectors p.sectors.written)) answer q
Answered p (is_refused n) answer q = (answer ≡ answer_bytes (No n)) × (q ≡ p)
