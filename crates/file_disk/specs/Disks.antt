-- A disk on a file: what it does, in what its file does.
-- Assumes nothing.
use Rattle.std.specs.Prelude.{◌≡◌, ℕ, ◌*◌, ◌^◌, ◌≤◌, true, false, ◌⊎◌, MatchResult, is_err, Ok, Result}
use Rattle.disks.specs.Device.{Device}
use Rattle.device.specs.Does.{Act, idle, gave, took, settled, broke}
use Rattle.file_disk.specs.Files.{FileAct, read_at, wrote_at, flushed, failed}
use Rattle.file_disk.specs.declared.disk.FileDisk.{FileDisk}

module _ {F : Type 0} (made : F → FileAct → F → Type 0) where
  -- from s to t the disk answered, and its file did this
  pub record Answered (s : FileDisk F) (a : FileAct) (t : FileDisk F) : Type 0 where
    pub was : s.broken ≡ false
    pub is : t.broken ≡ false
    pub file : made s.file a t.file

  -- from s to t the disk broke, and nothing happened to its file but that it failed
  pub record Broke (s t : FileDisk F) : Type 0 where
    pub is : t.broken ≡ true
    pub file : (t.file ≡ s.file) ⊎ made s.file failed t.file

  -- sector n is the bytes from 512 n on
  abbrev pub disk_did : FileDisk F → Act → FileDisk F → Type 0
  disk_did s idle t = (t.file ≡ s.file) × (t.broken ≡ s.broken)
  disk_did s (gave n b) t = Answered s (read_at (n * 512) b) t
  disk_did s (took n b) t = Answered s (wrote_at (n * 512) b) t
  disk_did s settled t = Answered s flushed t
  disk_did s broke t = Broke s t

  -- why a request is refused: the disk was broken, or its file failed
  abbrev pub Failed : FileDisk F → FileDisk F → Type 0
  Failed s t = (s.broken ≡ true) ⊎ made s.file failed t.file

-- from s to t a request to the file that came to `done` ended: the disk answers r
pub record Ended {F D E : Type 0} (done : Result (Unit {0}) D) (s : FileDisk F) (r : Result (Unit {0}) E) (t : FileDisk F) : Type 0 where
  pub cases : MatchResult done (λ _. (r ≡ Ok tt) × (t ≡ s)) (λ _. (is_err r ≡ true) × (t.broken ≡ true) × (t.file ≡ s.file))

-- or the sector lies past every place of a file
abbrev pub Outside : ℕ → Type 0
Outside n = 2 ^ 64 ≤ n * 512

abbrev pub DiskHolds : {F : Type 0} → (F → Device → Type 0) → FileDisk F → Device → Type 0
DiskHolds holds s d = holds s.file d
