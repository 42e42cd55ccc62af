-- What may be brought back as volumes.
-- Assumes nothing.
use Rattle.std.specs.Prelude.{◌≡◌, ℕ, ◌≤◌, Bool, ◌&&◌, List, length, ◌==◌, nat_le}
use Rattle.volumes.specs.declared.head.Head.{Head}
use Rattle.volumes.specs.Weights.{weighs}

-- they weigh what is said, have room, and are no more than there may be
abbrev pub is_right : (room weight : ℕ) → List Head → Bool
is_right room w hs = nat_le (length hs) 4096 && (nat_le w room && weighs hs == w)
