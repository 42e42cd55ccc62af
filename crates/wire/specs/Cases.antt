-- The cases of answers with their numbers.
-- Assumes nothing.
use Rattle.std.specs.Prelude.{ℕ, cond, Some, None, Option, ◌==◌}
use Rattle.wire.specs.declared.case.Case.{Case}
use Rattle.wire.specs.declared.case.Case.TheVariants.{Refused, Yes, Number, Token, Sector, Full}

abbrev pub case_number : Case → ℕ
case_number Refused = 0
case_number Yes = 1
case_number Number = 2
case_number Token = 3
case_number Sector = 4
case_number Full = 5

abbrev pub case_of : ℕ → Option Case
case_of n =
    cond (n == 0) (Some Refused) (cond (n == 1) (Some Yes) (cond (n == 2) (Some Number) (cond (n == 3) (Some Token) (cond (n == 4) (Some Sector) (cond (n == 5) (Some Full) None)))))
