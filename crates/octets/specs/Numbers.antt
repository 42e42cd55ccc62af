-- Numbers as bytes, high byte first.
-- Assumes nothing.
use Rattle.std.specs.Prelude.{◌≡◌, ℕ, zero, suc, ◌+◌, ◌*◌, ◌/◌, ◌%◌, ◌^◌, Bool, true, ◌&&◌, List, [], ◌∷◌, ◌++◌, length, take, drop, nat_lt}
use Rattle.std.specs.List.{flat_map}

-- the number that bytes stand for, behind those that were read before
abbrev pub big_from : ℕ → List ℕ → ℕ
big_from n [] = n
big_from n (b ∷ bs) = big_from (n * 256 + b) bs

abbrev pub big : List ℕ → ℕ
big bs = big_from 0 bs

-- a number in so many bytes
unfoldable pub bytes_of : ℕ → ℕ → List ℕ
bytes_of zero n = []
bytes_of (suc w) n = bytes_of w (n / 256) ++ (n % 256 ∷ [])

-- the i-th number of 8 bytes
abbrev pub field : ℕ → List ℕ → ℕ
field zero bs = big (take 8 bs)
field (suc i) bs = field i (drop 8 bs)

-- so many numbers off the front, each of 8 bytes
abbrev pub fields : ℕ → List ℕ → List ℕ
fields zero bs = []
fields (suc j) bs = big (take 8 bs) ∷ fields j (drop 8 bs)

-- numbers, each in 8 bytes
abbrev pub numbers_bytes : List ℕ → List ℕ
numbers_bytes ns = flat_map (bytes_of 8) ns

-- numbers of 64 bits
unfoldable pub small : List ℕ → Bool
small [] = true
small (n ∷ ns) = nat_lt n (2 ^ 64) && small ns

-- what follows so many bytes
abbrev pub Behind : ℕ → List ℕ → List ℕ → Type 0
Behind k bs rest = (rest ≡ drop k bs) × (length rest + k ≡ length bs)
