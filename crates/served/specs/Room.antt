-- Which blocks are gone; and that what volumes hold is within the room.
-- Assumes nothing.
use Rattle.std.specs.Prelude.{◌≡◌, ℕ, suc, ◌<◌, ◌≤◌, Bool, false, not, eqb, List, [], ◌∷◌, length}
use Rattle.std.specs.List.{sum_by, All, IsDistinct}
use Rattle.disks.specs.Device.{zeros}
use Rattle.disks.specs.Disks.{one, all_zero, used}
use Rattle.volumes.specs.declared.head.Head.{Head}
use Rattle.volumes.specs.Weights.{weighs}
use Rattle.volumes.specs.Service.{Service, is_living}
use Rattle.served.specs.Blocks.{Block, empty_block, volume_of, sector_in}

-- no call asks for this block again
abbrev pub is_gone : Service → (key : ℕ) → Bool
is_gone r k = not (is_living r.next r.heads (volume_of k))

-- numbers rise from one to below another
abbrev pub Rising : (low high : ℕ) → List Head → Type 0
Rising low high [] = low ≤ high
Rising low high (h ∷ hs) = (low ≤ h.number.0) × Rising (suc h.number.0) high hs

-- A head of at most 2^40 sectors, with a token below 2^62, counts the sectors that hold anything; beyond its size there is none.
pub record Counts (f : ℕ → Block) (h : Head) : Type 0 where
  pub size : h.size.0 ≤ 1099511627776
  pub token : h.token.0 < 4611686018427387904
  pub count : used h.size.0 (sector_in f h.number.0) ≡ h.used
  pub beyond : (n : ℕ) → h.size.0 ≤ n → n < 1099511627776 → sector_in f h.number.0 n ≡ zeros 512

abbrev pub AllCount : (ℕ → Block) → List Head → Type 0
AllCount f [] = Unit {0}
AllCount f (h ∷ hs) = Counts f h × AllCount f hs

-- eight whole sectors
pub record IsBlock (b : Block) : Type 0 where
  pub eight : length b ≡ 8
  pub whole : All (λ (s : List ℕ). length s ≡ 512) b

pub record HasRoom (room : ℕ) (r : Service) (f : ℕ → Block) : Type 0 where
  pub few : length r.heads ≤ 4096
  pub limited : r.next ≤ 4611686018427387904
  pub rising : Rising 1 r.next r.heads
  pub counts : AllCount f r.heads
  pub weight : r.weight ≡ weighs r.heads
  pub within : r.weight ≤ room
  pub blocks : (k : ℕ) → is_gone r k ≡ false → IsBlock (f k)
  -- what has no number yet is empty
  pub fresh : (k : ℕ) → r.next ≤ volume_of k → f k ≡ empty_block

-- how many sectors of a block hold anything
abbrev pub filled : Block → ℕ
filled b = sum_by (λ (s : List ℕ). one (not (all_zero s))) b

-- no more sectors hold anything than there is room for
abbrev pub RoomBounds : Type 0
RoomBounds = (room : ℕ) (r : Service) (f : ℕ → Block) → HasRoom room r f → (ks : List ℕ) → IsDistinct eqb ks → All (λ (k : ℕ). is_gone r k ≡ false) ks → sum_by (λ (k : ℕ). filled (f k)) ks ≤ room
