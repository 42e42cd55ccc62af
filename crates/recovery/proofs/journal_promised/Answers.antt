use Rattle.recovery.proofs.Keeping.{journal-keeps}
use Rattle.recovery.proofs.Staying.{journal-within}
use Rattle.recovery.proofs.Costing.{put_costs, open_costs, opens-again, foreign_refused, ours-opened}
use Rattle.recovery.proofs.journal_promised.Goals as goal

pub returns : goal.returns
returns c = record { keeps = journal-keeps; within = journal-within; put = put_costs; opening = open_costs; again = opens-again; foreign = foreign_refused; ours = ours-opened }
