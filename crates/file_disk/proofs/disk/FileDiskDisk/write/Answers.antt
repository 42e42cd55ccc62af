use Rattle.std.proofs.Common.{rules, inl, inr}
use Rattle.device.proofs.Steps.{disks, failed}
use Rattle.file_disk.specs.declared.disk.FileDisk.{FileDisk}
use Rattle.file_disk.proofs.Broken.{by_done, took_then_broke}
use Rattle.file_disk.proofs.disk.FileDiskDisk.write.Goals as goal

pub returns-clause-does : goal.returns-clause-does
returns-clause-does g c =
    let m : FileDisk g.row.F.Denot = record { file = c.write_at-done.new.self; broken = c.start.new.self.broken } in
    by_done c.write_at-done.result c.write_at-done.ensures c.answer.ensures.cases (λ _ p x. search (rules, disks, p, x))
    (λ _ p x. elim p [ inl h ↦ search (rules, disks, failed, h, x) | inr h ↦ took_then_broke m (search (rules, x)) (search (rules, h)) (search (rules, x)) ])
