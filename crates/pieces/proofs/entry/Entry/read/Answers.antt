use Rattle.std.proofs.Common.{rules}
use Rattle.pieces.proofs.Bytes.{entry_read, read_back}
use Rattle.pieces.proofs.entry.Entry.read.Goals as goal

pub returns-clause-value : goal.returns-clause-value
returns-clause-value c = entry_read c.args.bytes.now c.unwrap.result.0 c.unwrap.result.1.now c.read_places.result (search rules) (search rules) c.read_places.ensures

pub returns-clause-back : goal.returns-clause-back
returns-clause-back c = read_back
