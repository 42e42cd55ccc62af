-- The disk in memory does what a device does.
use Rattle.std.specs.Prelude.{◌≡◌, ℕ, ◌<◌, Bool, true, false, cond, List, ◌∷◌, ◌==◌, refl}
use Rattle.std.proofs.Common.{sym, ap, subst, ◌∙◌}
use Rattle.disks.specs.Device.{Device, shown, latest, written, synced}
use Rattle.device.specs.Tied.{Models}
use Rattle.memory_disk.specs.Disks.{device_of, Same, MemoryDid, MemoryHolds}
use Rattle.memory_disk.specs.declared.MemoryDisk.{MemoryDisk}

-- two devices agree on the first sectors
abbrev Agree : ℕ → Device → Device → Type 0
Agree size d e = (n : ℕ) → n < size → (d.kept n ≡ e.kept n) × (d.since n ≡ e.since n)

-- a device that agrees with what the disk was made agrees with the disk
agree_with : (s t : MemoryDisk) (d e : Device) → t.size ≡ s.size → Same (device_of t) e → Agree s.size d e → MemoryHolds t d
agree_with s t d e z h a n l =
    let b = a n (subst (λ (x : ℕ). n < x) z l) in
    (b.0 ∙ sym (h n).0, b.1 ∙ sym (h n).1)

agree_shown : (size : ℕ) (d e : Device) → Agree size d e → (n : ℕ) → n < size → shown d n ≡ shown e n
agree_shown size d e a n l = ap (λ (x : List ℕ). latest x (d.since n)) (a n l).0 ∙ ap (latest (e.kept n)) (a n l).1

agree_written : (size : ℕ) (d e : Device) (k : ℕ) (b : List ℕ) → k < size → Agree size d e → Agree size (written k b d) (written k b e)
agree_written size d e k b l a n m = ((a n m).0, go (n == k))
  where
    go : (c : Bool) → cond c (b ∷ d.since k) (d.since n) ≡ cond c (b ∷ e.since k) (e.since n)
    go true = ap (λ (xs : List (List ℕ)). b ∷ xs) (a k l).1
    go false = (a n m).1

agree_synced : (size : ℕ) (d e : Device) → Agree size d e → Agree size (synced d) (synced e)
agree_synced size d e a n l = (agree_shown size d e a n l, refl)

pub memory_models : Models MemoryDid MemoryHolds
memory_models = record {
  idles = λ s t d i h. agree_with s t d (device_of s) i.0 i.1 h;
  breaks = λ s t d i h. agree_with s t d (device_of s) i.size i.device h;
  gives = λ s t n b d i h.
      (i.1 ∙ sym (agree_shown s.size d (device_of s) h n i.0), agree_with s t d (device_of s) i.2.size i.2.device h);
  takes = λ s t n b d i h.
      agree_with s t (written n b d) (written n b (device_of s)) i.1.size i.1.device (agree_written s.size d (device_of s) n b i.0 h);
  settles = λ s t d i h. agree_with s t (synced d) (synced (device_of s)) i.size i.device (agree_synced s.size d (device_of s) h);
}
