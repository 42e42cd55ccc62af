use Rattle.std.proofs.Common.{◌≡◌, ◌-◌}
use Rattle.copies.specs.Views.{the_sessions}
use Rattle.packets.specs.Codecs.{many_at}
use Rattle.packets.specs.Formats.{session}
use Rattle.packets.specs.Seen.{table}
use Rattle.packets.proofs.Loops.{with_front}
use Rattle.packets.proofs.sessions.take_each.Given as goal

abbrev pub invariant-loop-house : goal.invariant-loop-house
invariant-loop-house l = with_front (table l.house (the_sessions l.sessions)) (many_at session (49 - l.house) l.rest) ≡ many_at session 49 l.bytes
