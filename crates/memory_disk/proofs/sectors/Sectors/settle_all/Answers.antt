use Rattle.std.proofs.Common.{rules}
use Rattle.memory_disk.proofs.Logs.{settle_none, settle_more, settle_all}
use Rattle.memory_disk.proofs.sectors.Sectors.settle_all.Goals as goal

pub loop-w-init : goal.loop-w-init
loop-w-init c = search (rules, settle_none)

pub loop-w-preserved : goal.loop-w-preserved
loop-w-preserved c = search (rules, settle_more)

pub returns : goal.returns
returns c = search (rules, settle_all)
