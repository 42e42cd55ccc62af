-- A key is a volume and a block of it.
use Rattle.std.proofs.Common.{◌≡◌, ℕ, ◌<◌, arith}
use Rattle.served.specs.Blocks.{key_of, volume_of, block_of}

pub volume_of-key_of : (v b : ℕ) → b < 137438953472 → volume_of (key_of v b) ≡ v
volume_of-key_of v b l = omega arith

pub block_of-key_of : (v b : ℕ) → b < 137438953472 → block_of (key_of v b) ≡ b
block_of-key_of v b l = omega arith

pub key_of-parts : (k : ℕ) → key_of (volume_of k) (block_of k) ≡ k
key_of-parts k = omega arith
