-- Decimal digits as a number of 64 bits.
-- Assumes nothing.
use Rattle.std.specs.Prelude.{ℕ, ◌+◌, ◌-◌, ◌*◌, ◌^◌, cond, ◌&&◌, List, [], ◌∷◌, is_some, Some, None, Option, nat_le, nat_lt}
use Rattle.std.specs.Option.{unwrap_or}

-- a number with one digit more; none for what is no digit, or above 64 bits
abbrev pub with_digit : ℕ → ℕ → Option ℕ
with_digit n b = cond ((nat_le 48 b && nat_le b 57) && nat_lt (n * 10 + (b - 48)) (2 ^ 64)) (Some (n * 10 + (b - 48))) None

-- the number behind those digits that were read before
abbrev pub decimal_from : ℕ → List ℕ → Option ℕ
decimal_from n [] = Some n
decimal_from n (b ∷ bs) = cond (is_some (with_digit n b)) (decimal_from (unwrap_or (with_digit n b) 0) bs) None

-- digits, at least one
abbrev pub decimal_of : List ℕ → Option ℕ
decimal_of [] = None
decimal_of (b ∷ bs) = decimal_from 0 (b ∷ bs)
