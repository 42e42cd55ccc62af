-- What is read off an input whose bytes are known, and where it stands then.
-- Assumes nothing.
use Rattle.std.specs.Prelude.{◌≡◌, ◌≢◌, ◌<◌, ◌≤◌, ◌⊎◌, ℕ, List, [], length, Some, None, Ok, Err, Option, IfSome, OnSome, Result, Vec, All, ⊤}
use Rattle.std.specs.Global.{Global}
use Rattle.std.specs.Io.{IsEmptyOrEndsWith}
use Rattle.std.specs.Io.BufRead.{take_through, strip_last, first_piece, DropsThrough}
use Rattle.std.specs.Io.KnownBytes.{Consumes, IsAtEnd}
use Rattle.lines.specs.declared.line.LineError.{LineError}
use Rattle.lines.specs.declared.line.LineError.TheVariants.{Malformed, Memory}

-- nothing where no byte is left, else the first line without its end, or a refusal of one that is too long or finds no memory
abbrev pub Reads : List ℕ → Option (Result (Vec ℕ Global) LineError) → Type 0
Reads xs None = xs ≡ []
Reads xs (Some (Ok v)) = v.items ≡ first_piece 10 xs
Reads xs (Some (Err Malformed)) = 1048576 < length (first_piece 10 xs)
Reads xs (Some (Err Memory)) = ⊤

-- these bytes went, up to the end of the line or of the input
abbrev pub Ends : Option (List ℕ) → Option (List ℕ) → List ℕ → Type 0
Ends old new bs = IsEmptyOrEndsWith bs 10 × (length bs ≡ 0 → OnSome old (IsAtEnd new))

-- these bytes are all of the line with its end, which is gone, or one byte more than a line may have, with no end among them
abbrev pub IsFront : Option (List ℕ) → Option (List ℕ) → List ℕ → Type 0
IsFront old new bs =
    (IfSome old (λ xs. bs ≡ take_through 10 xs) × DropsThrough old new 10 × (length (strip_last 10 bs) ≤ 1048576))
    ⊎ ((length bs ≡ 1048577) × All (λ b. b ≢ 10) bs × Consumes old new bs)

-- some bytes of the line may be gone, its end is not
abbrev pub WithinLine : Option (List ℕ) → Option (List ℕ) → Type 0
WithinLine old new = (bs : List ℕ) × All (λ b. b ≢ 10) bs × Consumes old new bs
