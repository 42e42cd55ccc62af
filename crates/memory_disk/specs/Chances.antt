-- The generator splitmix64, on numbers of 64 bits.
-- Assumes nothing.
use Rattle.std.specs.Prelude.{◌≡◌, ℕ, ◌+◌, ◌*◌, ◌/◌, ◌%◌, ◌^◌, bit_xor}
use Rattle.memory_disk.specs.declared.random.Random.{Random}

abbrev pub stepped : ℕ → ℕ
stepped s = (s + 0x9e3779b97f4a7c15) % 2 ^ 64

-- a number with its upper bits laid over the lower ones
abbrev pub overlaid : ℕ → ℕ → ℕ
overlaid k s = bit_xor s (s / 2 ^ k)

abbrev pub mixed : ℕ → ℕ
mixed s = overlaid 31 ((overlaid 27 ((overlaid 30 s * 0xbf58476d1ce4e5b9) % 2 ^ 64) * 0x94d049bb133111eb) % 2 ^ 64)

-- the number that a generator gives next
abbrev pub drawn : Random → ℕ
drawn r = mixed (stepped r.state)

-- from r to s it gave one number
abbrev pub Drew : Random → Random → Type 0
Drew r s = s.state ≡ stepped r.state
