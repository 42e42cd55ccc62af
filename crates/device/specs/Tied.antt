-- What a disk's steps come to on a device.
use Rattle.std.specs.Prelude.{◌≡◌, ℕ, List, Ok, Err, Result}
use Rattle.disks.specs.Device.{Device, Io, run, Upto, shown, written, synced}
use Rattle.device.specs.Does.{Act, idle, gave, took, settled, broke, Does}

-- A reading of a disk's states as devices under which the disk does what a device does. `holds s d`: the disk at s may be the device d.
pub record Models {S : Type 0} (did : S → Act → S → Type 0) (holds : S → Device → Type 0) : Type 0 where
  pub idles : (s t : S) (d : Device) → did s idle t → holds s d → holds t d
  pub breaks : (s t : S) (d : Device) → did s broke t → holds s d → holds t d
  pub gives : (s t : S) (n : ℕ) (b : List ℕ) (d : Device) → did s (gave n b) t → holds s d → (b ≡ shown d n) × holds t d
  pub takes : (s t : S) (n : ℕ) (b : List ℕ) (d : Device) → did s (took n b) t → holds s d → holds t (written n b d)
  pub settles : (s t : S) (d : Device) → did s settled t → holds s d → holds t (synced d)

-- at Ok the device is what the program leaves, and the value the program's; at Err it is one at which the program may be cut
abbrev pub Outcome : {S A E : Type 0} → (S → Device → Type 0) → Io A → Device → Result A E → S → Type 0
Outcome holds p d (Ok v) t = ((run p d).value ≡ v) × holds t (run p d).device
Outcome holds p d (Err e) t = (f : Device) × Upto p d f × holds t f

-- code that does what a program does leaves a device as the program does
abbrev pub DoesRuns : Type 1
DoesRuns =
    (S A E : Type 0) (did : S → Act → S → Type 0) (holds : S → Device → Type 0) → Models did holds →
    (p : Io A) (s t : S) (r : Result A E) (d : Device) → Does did p s r t → holds s d → Outcome holds p d r t
