-- What a script's step may be.
-- Assumes nothing.
use Rattle.std.specs.Prelude.{◌≤◌, ℕ, List, codes}
use Rattle.rehearse.specs.declared.script.Step.{Step}
use Rattle.rehearse.specs.declared.script.Step.TheVariants.{Houses, At, Network}
use Rattle.rehearse.specs.declared.script.ScriptError.{ScriptError}
use Rattle.rehearse.specs.declared.script.ScriptError.TheVariants.{Unknown, Memory}

-- 3 to 16 houses, with devices of 65,536 to 2^40 sectors
abbrev pub InRange : Step → Type 0
InRange (Houses n z) = ((3 ≤ n) × (n ≤ 16)) × ((65536 ≤ z) × (z ≤ 1099511627776))
InRange (At i b) = Unit {0}
InRange Network = Unit {0}

-- what is printed of a line that tells no step
abbrev pub error_text : ScriptError → List ℕ
error_text Unknown = codes "not understood"
error_text Memory = codes "no memory"
