use Rattle.std.proofs.Common.{◌≡◌, ◌-◌, map}
use Rattle.packets.specs.Codecs.{many_at}
use Rattle.packets.proofs.Loops.{with_front}
use Rattle.packets.proofs.list.take_all.Given as goal

abbrev pub invariant-loop : goal.invariant-loop
invariant-loop g l = with_front (map g.T.Bytes.view l.all.items) (many_at g.T.Bytes.codec (l.count - l.counter) l.rest) ≡ many_at g.T.Bytes.codec l.count l.bytes
