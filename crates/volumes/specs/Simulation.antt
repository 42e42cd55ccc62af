-- The service with its sectors, and that it is the meaning: each call answers and leaves what the meaning allows.
-- Assumes nothing.
use Rattle.std.specs.Prelude.{◌≡◌, ℕ, suc, ◌-◌, ◌/◌, ◌≤◌, cond, ◌&&◌, T, List, [], ◌∷◌, length, Some, None, Option, ◌==◌}
use Rattle.disks.specs.Device.{zeros, shown, all_bytes}
use Rattle.disks.specs.Disks.{Volume, State, blank, used, Call, Make, Attach, Read, Write, Sync, Picture', Copy, Drop, DropPicture, Answers, core}
use Rattle.disks.specs.Promise.{core_room}
use Rattle.wire.specs.declared.number.Address.{Address}
use Rattle.volumes.specs.declared.head.Head.{Head}
use Rattle.volumes.specs.Weights.{weighs}
use Rattle.volumes.specs.Service.{Service, blank_service, Changed, keeps, puts, forgets, Served, serves}

-- where a sector lies
pub record Place : Type 0 where
  pub volume : ℕ
  pub sector : ℕ

-- the sector that must be read for a call
abbrev pub needed : Call → Option Place
needed (Make z) = None
needed (Attach v) = None
needed (Read v t n) = Some (record { volume = v; sector = n })
needed (Write v t n b) = Some (record { volume = v; sector = n })
needed (Sync v t) = None
needed (Picture' v t) = None
needed (Copy p) = None
needed (Drop v t) = None
needed (DropPicture p) = None

-- what each sector of each volume holds
abbrev pub Sectors : Type 0
Sectors = ℕ → ℕ → List ℕ

pub record Store : Type 0 where
  pub service : Service
  pub sector : Sectors

abbrev pub blank_store : Store
blank_store = record { service = blank_service; sector = λ v n. zeros 512 }

abbrev pub read_at : Option Place → Sectors → List ℕ
read_at None f = zeros 512
read_at (Some p) f = f p.volume p.sector

abbrev pub changed_by : Changed → Sectors → Sectors
changed_by keeps f = f
changed_by (puts v n b) f = λ w m. cond (w == v && m == n) b (f w m)
changed_by (forgets v) f = λ w m. cond (w == v) (zeros 512) (f w m)

abbrev pub served_at : (room : ℕ) → Call → Store → Served
served_at room c t = serves room c (read_at (needed c) t.sector) t.service

abbrev pub store_after : (room : ℕ) → Call → Store → Store
store_after room c t = record { service = (served_at room c t).service; sector = changed_by (served_at room c t).change t.sector }

-- a head and the sectors of its number are a volume
pub record SameVolume (f : Sectors) (v : Volume) (h : Head) : Type 0 where
  pub number : v.num ≡ h.number.0
  pub size : v.size ≡ h.size.0
  pub token : v.token ≡ h.token.0
  pub count : used v.size (shown v.disk) ≡ h.used
  pub sector : (n : ℕ) → shown v.disk n ≡ f v.num n

pub data SameVolumes (f : Sectors) : List Volume → List Head → Type 0 where
  none : SameVolumes f [] []
  both : {vs : List Volume} {hs : List Head} (v : Volume) (h : Head) → SameVolume f v h → SameVolumes f vs hs → SameVolumes f (v ∷ vs) (h ∷ hs)

-- numbers rise from one to below another
abbrev pub Rising : (low high : ℕ) → List Volume → Type 0
Rising low high [] = low ≤ high
Rising low high (v ∷ vs) = (low ≤ v.num) × Rising (suc v.num) high vs

-- The meaning's state and the service's: the same heads in the same order, and a sector's bytes are what the volume shows.
pub record Same (s : State) (t : Store) : Type 0 where
  pub next : s.next ≡ t.service.next
  pub pictures : s.pictures ≡ []
  pub volumes : SameVolumes t.sector s.volumes t.service.heads
  pub counted : t.service.weight ≡ weighs t.service.heads
  pub rising : Rising 0 s.next s.volumes
  -- what has no number yet is blank
  pub fresh : (v n : ℕ) → s.next ≤ v → t.sector v n ≡ zeros 512

-- a write has a whole sector of bytes; decoding gives no other
abbrev pub WholeSector : Call → Type 0
WholeSector (Make z) = Unit {0}
WholeSector (Attach v) = Unit {0}
WholeSector (Read v t n) = Unit {0}
WholeSector (Write v t n b) = (length b ≡ 512) × T (all_bytes b)
WholeSector (Sync v t) = Unit {0}
WholeSector (Picture' v t) = Unit {0}
WholeSector (Copy p) = Unit {0}
WholeSector (Drop v t) = Unit {0}
WholeSector (DropPicture p) = Unit {0}

-- Each call's answer is one that the meaning allows, and leaves the two the same.
abbrev pub StepsAlike : Type 0
StepsAlike =
    (room : ℕ) (s : State) (t : Store) → Same s t → (c : Call) → WholeSector c → (u : State) × Answers core room c s (served_at room c t).reply u × Same u (store_after room c t)

pub record ServesTheMeaning : Type 0 where
  pub begins : Same blank blank_store
  pub steps : StepsAlike

-- what the code's value stands for
abbrev pub the_place : Address → Place
the_place a = record { volume = a.volume.0; sector = a.sector.0 }

-- The room for volumes where each house's device has so many sectors: a share of what its tables leave.
abbrev pub room_left : ℕ → ℕ
room_left sectors = (sectors - 2048) / 4

-- the room is what the promise has for the core
abbrev pub RoomIsCore : Type 0
RoomIsCore = (all size : ℕ) → core_room all size ≡ room_left size
