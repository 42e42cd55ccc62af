use Rattle.pieces.specs.Kept.{the_kept}
use Rattle.store.specs.Known.{the_data}
use Rattle.store.proofs.Setting.{set_some}
use Rattle.store.proofs.store.Store.put.Goals as goal

pub returns-clause-held : goal.returns-clause-held
returns-clause-held c =
    set_some c.args.at.volume.0 c.args.at.sector.0 c.args.self.now.version.0 c.args.bytes.now (the_kept c.args.self.now.pieces) (the_kept c.set.new.self) (the_data c.args.self.now.known) (the_data c.put_some.new.self) c.in_ok-writes.writes
    c.in_ok-writes.ensures.kept c.in_ok-put_some.ensures.data
