use Rattle.std.proofs.Common.{ap, rules}
use Rattle.memory_disk.specs.declared.sectors.Sectors.{Sectors}
use Rattle.memory_disk.proofs.Logs.{lose_none, lose_kept, lose_left, lose_all}
use Rattle.memory_disk.proofs.sectors.Sectors.cut_all.Goals as goal
use Rattle.memory_disk.proofs.sectors.Sectors.cut_all.Goals.{then-stays, else-stays}

pub loop-w-init : goal.loop-w-init
loop-w-init c = search (rules, lose_none)

pub loop-w-preserved : goal.loop-w-preserved
loop-w-preserved c =
    elim c.if-stays.branch [
      | then-stays w ↦ search (rules, lose_kept, ap (λ (t : Sectors). t.written) w.self-is)
      | else-stays w ↦ search (rules, lose_left, ap (λ (t : Sectors). t.written) w.self-is)
    ]

pub returns : goal.returns
returns c = search (rules, lose_all)
