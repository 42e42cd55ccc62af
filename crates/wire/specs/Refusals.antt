-- The refusals with their numbers.
-- Assumes nothing.
use Rattle.std.specs.Prelude.{ℕ, cond, Some, None, Option, ◌==◌}
use Rattle.wire.specs.declared.refusal.Refusal.{Refusal}
use Rattle.wire.specs.declared.refusal.Refusal.TheVariants.{Malformed, Missing, OldToken, UsedUp, Busy, NotBuilt}

abbrev pub refusal_number : Refusal → ℕ
refusal_number Malformed = 1
refusal_number Missing = 2
refusal_number OldToken = 4
refusal_number UsedUp = 8
refusal_number Busy = 11
refusal_number NotBuilt = 12

abbrev pub refusal_of : ℕ → Option Refusal
refusal_of n =
    cond (n == 1) (Some Malformed) (cond (n == 2) (Some Missing) (cond (n == 4) (Some OldToken) (cond (n == 8) (Some UsedUp) (cond (n == 11) (Some Busy) (cond (n == 12) (Some NotBuilt) None)))))
