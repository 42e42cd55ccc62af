-- Bytes as hexadecimal digits, two for each byte, the high one first.
-- Assumes nothing.
use Rattle.std.specs.Prelude.{◌≡◌, ℕ, ◌+◌, ◌-◌, ◌*◌, ◌/◌, ◌%◌, cond, ◌&&◌, T, List, [], ◌∷◌, Some, None, Option, nat_le, nat_lt}
use Rattle.disks.specs.Device.{all_bytes}

-- what a digit stands for, in either case
abbrev pub digit_of : ℕ → Option ℕ
digit_of b = cond (nat_le 48 b && nat_le b 57) (Some (b - 48)) (cond (nat_le 97 b && nat_le b 102) (Some (b - 97 + 10)) (cond (nat_le 65 b && nat_le b 70) (Some (b - 65 + 10)) None))

-- the digit for a number below 16
abbrev pub digit_for : ℕ → ℕ
digit_for n = cond (nat_lt n 10) (48 + n) (87 + n)

-- the byte that two digits spell
abbrev pub byte_in : Option ℕ → Option ℕ → Option ℕ
byte_in (Some h) (Some l) = Some (h * 16 + l)
byte_in (Some h) None = None
byte_in None l = None

-- the bytes that digits spell: none for an odd one out or for what is no digit
abbrev pub with_byte : Option ℕ → Option (List ℕ) → Option (List ℕ)
with_byte (Some b) (Some bs) = Some (b ∷ bs)
with_byte (Some b) None = None
with_byte None r = None

abbrev pub bytes_in : List ℕ → Option (List ℕ)
bytes_in [] = Some []
bytes_in (a ∷ []) = None
bytes_in (a ∷ b ∷ cs) = with_byte (byte_in (digit_of a) (digit_of b)) (bytes_in cs)

-- the digits that spell bytes
abbrev pub hex_of : List ℕ → List ℕ
hex_of [] = []
hex_of (b ∷ bs) = digit_for (b / 16) ∷ digit_for (b % 16) ∷ hex_of bs

-- What is written is read back.
abbrev pub HexRoundTrip : Type 0
HexRoundTrip = (bs : List ℕ) → T (all_bytes bs) → bytes_in (hex_of bs) ≡ Some bs
