-- The plain array that the journal is compared with.
-- Assumes nothing.
use Rattle.std.specs.Prelude.{◌≡◌, ℕ, ◌+◌, ◌*◌, ◌%◌, cond, List, [], ◌∷◌, ◌++◌, ◌==◌}
use Rattle.journal.specs.Format.{guarded}
use Rattle.journal.specs.declared.state.Write.{Write}

-- the sector of the device that the i-th of the array stands at
abbrev pub placed : ℕ → ℕ
placed i = guarded + 37 * (i % 48)

-- what a sector holds after these writes, in order
abbrev pub after_writes : List Write → ℕ → List ℕ → List ℕ
after_writes [] at b = b
after_writes (w ∷ ws) at b = after_writes ws at (cond (w.target.0 == at) w.bytes b)

-- writes to some of the first n sectors of the array, each once and in order
pub data Chosen : ℕ → List Write → Type 0 where
  none : Chosen 0 []
  passed : {n : ℕ} {ws : List Write} → Chosen n ws → Chosen (n + 1) ws
  taken : {n : ℕ} {ws : List Write} (w : Write) → w.target.0 ≡ placed n → Chosen n ws → Chosen (n + 1) (ws ++ w ∷ [])
