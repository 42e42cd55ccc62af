-- The disk in memory as a device.
-- Assumes nothing.
use Rattle.std.specs.Prelude.{◌≡◌, ℕ, ◌-◌, ◌<◌, ◌≤◌, Bool, true, false, cond, ◌&&◌, ◌⊎◌, List, Some, None, vec_items, vec_len, vec_capacity, Option, nat_lt}
use Rattle.disks.specs.Device.{Device, shown, written, synced, AfterCut}
use Rattle.journal.specs.declared.state.Write.{Write}
use Rattle.device.specs.Does.{Act, idle, gave, took, settled, broke}
use Rattle.memory_disk.specs.Contents.{kept_at, present, since_in, SameKept}
use Rattle.memory_disk.specs.declared.MemoryDisk.{MemoryDisk}

-- what its sectors held at the last sync, and what was written to them since
abbrev pub device_of : MemoryDisk → Device
device_of s = record { kept = kept_at s.sectors.written; since = since_in (vec_items s.log) }

-- two devices with the same sectors
abbrev pub Same : Device → Device → Type 0
Same d e = (n : ℕ) → (d.kept n ≡ e.kept n) × (d.since n ≡ e.since n)

-- one more request, of as many as are left
abbrev pub answers : Option ℕ → Bool
answers None = true
answers (Some n) = nat_lt 0 n

abbrev pub one_less : Option ℕ → Option ℕ
one_less None = None
one_less (Some n) = Some (n - 1)

-- from s to t neither sectors nor log changed
pub record Unmoved (s t : MemoryDisk) : Type 0 where
  pub size : t.size ≡ s.size
  pub sectors : t.sectors ≡ s.sectors
  pub log : t.log ≡ s.log

-- from s to t a request was counted, and is answered or not: one that lies within the disk is, if any are left
pub record Counted (s : MemoryDisk) (within r : Bool) (t : MemoryDisk) : Type 0 where
  pub value : r ≡ (within && answers s.left)
  pub left : t.left ≡ cond r (one_less s.left) s.left
  pub rest : Unmoved s t

-- from s to t these became the log, and what is kept stayed
pub record Noted (s : MemoryDisk) (ws : List Write) (t : MemoryDisk) : Type 0 where
  pub log : vec_items t.log ≡ ws
  pub kept : SameKept s.sectors.written t.sectors.written
  pub size : t.size ≡ s.size
  pub left : t.left ≡ s.left

-- a write to the sector may want memory
abbrev pub MayGrow : MemoryDisk → ℕ → Type 0
MayGrow s n = (present s.sectors.written n ≡ false) ⊎ (vec_capacity s.log ≤ vec_len s.log)

-- from s to t a request was answered, and the disk is this device
pub record Answered (s : MemoryDisk) (d : Device) (t : MemoryDisk) : Type 0 where
  pub was : answers s.left ≡ true
  pub left : t.left ≡ one_less s.left
  pub size : t.size ≡ s.size
  pub device : Same (device_of t) d

-- from s to t it broke: it answers no more
pub record Broke (s t : MemoryDisk) : Type 0 where
  pub left : t.left ≡ Some 0
  pub size : t.size ≡ s.size
  pub device : Same (device_of t) (device_of s)

abbrev pub MemoryDid : MemoryDisk → Act → MemoryDisk → Type 0
MemoryDid s idle t = (t.size ≡ s.size) × Same (device_of t) (device_of s)
MemoryDid s (gave n b) t = (n < s.size) × (b ≡ shown (device_of s) n) × Answered s (device_of s) t
MemoryDid s (took n b) t = (n < s.size) × Answered s (written n b (device_of s)) t
MemoryDid s settled t = Answered s (synced (device_of s)) t
MemoryDid s broke t = Broke s t

-- the device has the disk's sectors; of those beyond its size nothing is said
abbrev pub MemoryHolds : MemoryDisk → Device → Type 0
MemoryHolds s d = (n : ℕ) → n < s.size → (d.kept n ≡ (device_of s).kept n) × (d.since n ≡ (device_of s).since n)

-- a cut leaves a device that the mathematics allows
abbrev pub Cuts : MemoryDisk → MemoryDisk → Type 0
Cuts s t = (d : Device) → MemoryHolds s d → (f : Device) × AfterCut d f × MemoryHolds t f
