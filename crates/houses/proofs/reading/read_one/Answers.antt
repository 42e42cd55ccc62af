use Rattle.houses.proofs.Gathering.{read_cut}
use Rattle.houses.proofs.reading.read_one.Goals as goal

pub returns-in-Err : goal.returns-in-Err
returns-in-Err g c = read_cut c.args.at.0 c.args.all.now.items _ _ c.in_ok-read.was c.read.ensures c.give_up.ensures
