use Rattle.std.proofs.Common.{◌≢◌, ◌≤◌, All, vec_len}
use Rattle.std.specs.Io.KnownBytes.{Consumes}
use Rattle.house.proofs.input.read_front.Given as goal

abbrev pub invariant-loop : goal.invariant-loop
invariant-loop g l = record {
  short : vec_len l.line ≤ 1048577;
  open_still : All (λ b. b ≢ 10) l.line.items;
  taken : Consumes (g.R.Read.remaining l.initial.input) (g.R.Read.remaining l.input) l.line.items;
}
