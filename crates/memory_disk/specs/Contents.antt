-- What the sectors of a disk in memory hold.
-- Assumes nothing.
use Rattle.std.specs.Prelude.{◌≡◌, ℕ, Bool, cond, ◌⊎◌, List, [], ◌∷◌, is_some, Some, None, box_value, Option, Box, ◌==◌}
use mathlib.Core.List.{Memᴰ}
use Rattle.std.specs.declared.alloc.Global.{Global}
use Rattle.std.specs.BTreeMap.{BTreeMap}
use Rattle.std.specs.BTreeMap.{get}
use Rattle.disks.specs.Device.{zeros}
use Rattle.journal.specs.declared.state.Write.{Write}
use Rattle.memory_disk.specs.declared.sectors.Sector.{Sector}
use Rattle.std.specs.Ordering.{nat_cmp}

-- sectors by their numbers
abbrev pub Table : Type 0
Table = BTreeMap ℕ (Box Sector Global)

-- a sector that was never written is blank
abbrev pub kept_of : Option (Box Sector Global) → List ℕ
kept_of None = zeros 512
kept_of (Some b) = (box_value b).kept

abbrev pub shown_of : Option (Box Sector Global) → List ℕ
shown_of None = zeros 512
shown_of (Some b) = (box_value b).shown

abbrev pub kept_at : Table → ℕ → List ℕ
kept_at m n = kept_of (get nat_cmp m n)

abbrev pub shown_at : Table → ℕ → List ℕ
shown_at m n = shown_of (get nat_cmp m n)

-- what these writes, in order, gave to a sector, the latest first, before what was given to it already
abbrev pub since_after : List (List ℕ) → List Write → ℕ → List (List ℕ)
since_after bs [] n = bs
since_after bs (w ∷ ws) n = since_after (cond (n == w.target.0) (w.bytes ∷ bs) bs) ws n

abbrev pub since_in : List Write → ℕ → List (List ℕ)
since_in ws n = since_after [] ws n

-- one thing where a list has anything, another where it is empty
abbrev pub if_any : {A B : Type 0} → List A → B → B → B
if_any [] x y = y
if_any (a ∷ rest) x y = x

-- whether the table has the sector
abbrev pub present : Table → ℕ → Bool
present m n = is_some (get nat_cmp m n)

-- from one table to another what every sector keeps stayed
abbrev pub SameKept : Table → Table → Type 0
SameKept m m' = (n : ℕ) → kept_at m' n ≡ kept_at m n

-- and what every sector shows
abbrev pub SameShown : Table → Table → Type 0
SameShown m m' = (n : ℕ) → shown_at m' n ≡ shown_at m n

-- from one table to another the sector k came to show these bytes
pub record Wrote (k : ℕ) (b : List ℕ) (m m' : Table) : Type 0 where
  pub kept : SameKept m m'
  pub shown : (n : ℕ) → shown_at m' n ≡ cond (n == k) b (shown_at m n)

-- no sector changed
pub record Alike (m m' : Table) : Type 0 where
  pub kept : SameKept m m'
  pub shown : SameShown m m'

-- from one table to another all that these writes gave stays
pub record Settled (ws : List Write) (m m' : Table) : Type 0 where
  pub kept : (n : ℕ) → kept_at m' n ≡ if_any (since_in ws n) (shown_at m n) (kept_at m n)
  pub shown : SameShown m m'

-- of each sector stays what was kept, or anything that these writes gave it, and it shows that
pub record Lost (ws : List Write) (m m' : Table) : Type 0 where
  pub kept : (n : ℕ) → (kept_at m' n ≡ kept_at m n) ⊎ Memᴰ (kept_at m' n) (since_in ws n)
  pub shown : (n : ℕ) → shown_at m' n ≡ if_any (since_in ws n) (kept_at m' n) (shown_at m n)
