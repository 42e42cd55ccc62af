use Rattle.std.proofs.Common.{◌≡◌, ◌++◌, T}
use Rattle.std.specs.List.{flat_map, list_all}
use Rattle.octets.specs.Numbers.{bytes_of}
use Rattle.copies.specs.Views.{the_sessions}
use Rattle.packets.specs.Formats.{session}
use Rattle.packets.specs.Seen.{table}
use Rattle.packets.proofs.sessions.SessionsTextBytes.put.Given as goal

abbrev pub invariant-loop-house : goal.invariant-loop-house
invariant-loop-house l = record {
  spelled : l.out.items ≡ l.fn.out.items ++ (bytes_of 1 49 ++ flat_map session.bytes (table l.house (the_sessions l.self)));
  fits : T (list_all session.fits (table l.house (the_sessions l.self)));
}
