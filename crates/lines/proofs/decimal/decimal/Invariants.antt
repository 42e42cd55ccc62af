use Rattle.std.proofs.Common.{◌≡◌, drop}
use Rattle.lines.specs.Decimals.{decimal_from, decimal_of}
use Rattle.lines.proofs.decimal.decimal.Given as goal

abbrev pub invariant-loop-digit : goal.invariant-loop-digit
invariant-loop-digit l = decimal_of l.digits ≡ decimal_from l.n (drop l.digit-index l.digits)
