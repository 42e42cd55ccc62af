use Rattle.std.proofs.Common.{vec_items}
use Rattle.store.proofs.Putting.{known_put}
use Rattle.store.proofs.known.Known.put.Goals as goal

pub returns-clause-data : goal.returns-clause-data
returns-clause-data c = known_put (vec_items c.args.self.now.read) (vec_items c.args.self.now.written) (vec_items c.put_at.new.all) c.args.place c.args.bytes c.in_ok-put_at.ensures
