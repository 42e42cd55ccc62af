-- How a request ends, by what came of it at the file.
use Rattle.std.proofs.Common.{◌≡◌, ℕ, List, true, false, inr, MatchResult, is_err, Ok, Err, Result, sym, ◌∙◌, subst}
use mathlib.Core.Bool.{false≢true}
use Rattle.device.specs.Does.{Act, took, broke, Does, stops, writes, write_io, sync_io}
use Rattle.device.proofs.Steps.{it_settled, it_broke, failed}
use Rattle.file_disk.specs.Files.{FileAct, flushed}
use Rattle.file_disk.specs.Files.{failed as file_failed}
use Rattle.file_disk.specs.Disks.{disk_did, Ended}
use Rattle.file_disk.specs.declared.disk.FileDisk.{FileDisk}

-- both outcomes, of two facts about them
pub by_done : {U D : Type 0} {P X : U → Type 0} {Q Y : D → Type 0} {G : Type 0} (done : Result U D) → MatchResult done P Q → MatchResult done X Y → ((u : U) → P u → X u → G) → ((e : D) → Q e → Y e → G) → G
by_done (Ok u) p x f g = f u p x
by_done (Err e) q y f g = g e q y

-- a write that was done though the file said that it failed
pub took_then_broke : {S E : Type 0} {did : S → Act → S → Type 0} {n : ℕ} {b : List ℕ} {r : Result (Unit {0}) E} {s : S} (m : S) {t : S} → is_err r ≡ true → did s (took n b) m → did m broke t → Does did (write_io n b) s r t
took_then_broke {r = Err e} m h i j = writes i (stops j)
took_then_broke {r = Ok u} m h i j = elim (false≢true h) [ ]

-- a flush, from what it came to at the file to what the disk answers
pub flushes : {F D E : Type 0} {made : F → FileAct → F → Type 0} {s t : FileDisk F} {r : Result (Unit {0}) E} (m : FileDisk F) (done : Result (Unit {0}) D) → Ended done m r t →
    s.broken ≡ false → m.broken ≡ s.broken → MatchResult done (λ _. made s.file flushed m.file) (λ _. made s.file file_failed m.file) → Does (disk_did made) sync_io s r t
flushes {made} {s} {t} m (Ok u) x h k p = rw x.cases.0 (rw x.cases.1 (it_settled {did = disk_did made} (record { was = h; is = k ∙ h; file = p })))
flushes {made} {s} {t} m (Err e) x h k p =
    failed x.cases.0 (it_broke {did = disk_did made} {t = t} (record { is = x.cases.1; file = inr (subst (λ (y : _). made s.file file_failed y) (sym x.cases.2) p) }))
