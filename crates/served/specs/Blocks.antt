-- What volumes hold, in blocks of eight sectors under keys.
-- Assumes nothing.
use Rattle.std.specs.Prelude.{ℕ, ◌+◌, ◌*◌, ◌/◌, ◌%◌, List, replicate, slice_index_or, slice_set}
use Rattle.disks.specs.Device.{zeros}

-- the contents of eight sectors
abbrev pub Block : Type 0
Block = List (List ℕ)

abbrev pub empty_block : Block
empty_block = replicate 8 (zeros 512)

-- A volume has at most 2^40 sectors, so at most 2^37 blocks.
abbrev pub key_of : (volume block : ℕ) → ℕ
key_of v b = v * 137438953472 + b

abbrev pub volume_of : (key : ℕ) → ℕ
volume_of k = k / 137438953472

abbrev pub block_of : (key : ℕ) → ℕ
block_of k = k % 137438953472

-- the key of the block in which a sector lies
abbrev pub key_at : (volume sector : ℕ) → ℕ
key_at v n = key_of v (n / 8)

-- what a sector holds
abbrev pub sector_in : (ℕ → Block) → (volume sector : ℕ) → List ℕ
sector_in f v n = slice_index_or (f (key_at v n)) (n % 8) (zeros 512)

-- a block with one of its sectors changed
abbrev pub with_sector : (sector : ℕ) → List ℕ → Block → Block
with_sector n bs b = slice_set b (n % 8) bs
