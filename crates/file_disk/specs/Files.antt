-- A file as a device.
-- Assumes nothing.
use Rattle.std.specs.Prelude.{◌≡◌, ℕ, ◌*◌, List, MatchResult, Result}
use Rattle.disks.specs.Device.{Device, shown, written, synced}

-- one thing that a file was seen to do: places count bytes
pub data FileAct : Type 0 where
  read_at : ℕ → List ℕ → FileAct
  wrote_at : ℕ → List ℕ → FileAct
  flushed : FileAct
  failed : FileAct

-- from f to g this was asked of a file: it was done, or the file failed
abbrev pub Tried : {F D E : Type 0} → (F → FileAct → F → Type 0) → F → FileAct → Result D E → F → Type 0
Tried made f a r g = MatchResult r (λ _. made f a g) (λ _. made f failed g)

-- A reading of a file's states as devices under which the file does what a device does.
pub record FileModels {F : Type 0} (made : F → FileAct → F → Type 0) (holds : F → Device → Type 0) : Type 0 where
  pub fails : (f g : F) (d : Device) → made f failed g → holds f d → holds g d
  pub gives : (f g : F) (n : ℕ) (b : List ℕ) (d : Device) → made f (read_at (n * 512) b) g → holds f d → (b ≡ shown d n) × holds g d
  pub takes : (f g : F) (n : ℕ) (b : List ℕ) (d : Device) → made f (wrote_at (n * 512) b) g → holds f d → holds g (written n b d)
  pub settles : (f g : F) (d : Device) → made f flushed g → holds f d → holds g (synced d)

-- no device is known
abbrev pub Unknown : {F : Type 0} → F → Device → Type 0
Unknown f d = ⊥

pub unknown_models : {F : Type 0} (made : F → FileAct → F → Type 0) → FileModels made Unknown
unknown_models made = record {
  fails = λ f g d i h. elim h [ ];
  gives = λ f g n b d i h. elim h [ ];
  takes = λ f g n b d i h. elim h [ ];
  settles = λ f g d i h. elim h [ ];
}
