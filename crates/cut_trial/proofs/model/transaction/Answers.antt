use Rattle.std.proofs.Common.{rules}
use Rattle.cut_trial.specs.Models.{none, passed, taken}
use Rattle.cut_trial.proofs.model.transaction.Goals as goal

pub loop-i-init : goal.loop-i-init
loop-i-init c = search (rules, none)

pub loop-i-preserved : goal.loop-i-preserved
loop-i-preserved c = search (rules, passed, taken)
