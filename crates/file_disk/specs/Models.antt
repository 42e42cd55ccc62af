-- A disk does what a device does, if its file does.
use Rattle.std.specs.Prelude.{◌≡◌, ◌⊎◌}
use Rattle.std.proofs.Common.{sym, subst, inl, inr}
use Rattle.disks.specs.Device.{Device}
use Rattle.device.specs.Tied.{Models}
use Rattle.file_disk.specs.Files.{FileAct, failed, FileModels}
use Rattle.file_disk.specs.Disks.{disk_did, DiskHolds}

module _ {F : Type 0} (made : F → FileAct → F → Type 0) (holds : F → Device → Type 0) (m : FileModels made holds) where
  same : (f g : F) (d : Device) → g ≡ f → holds f d → holds g d
  same f g d e h = subst (λ (x : F). holds x d) (sym e) h

  broken : (f g : F) (d : Device) → (g ≡ f) ⊎ made f failed g → holds f d → holds g d
  broken f g d (inl e) h = same f g d e h
  broken f g d (inr i) h = m.fails f g d i h

  pub disk_models : Models (disk_did made) (DiskHolds holds)
  disk_models = record {
    idles = λ s t d i h. same s.file t.file d i.0 h;
    breaks = λ s t d i h. broken s.file t.file d i.file h;
    gives = λ s t n b d i h. m.gives s.file t.file n b d i.file h;
    takes = λ s t n b d i h. m.takes s.file t.file n b d i.file h;
    settles = λ s t d i h. m.settles s.file t.file d i.file h;
  }
