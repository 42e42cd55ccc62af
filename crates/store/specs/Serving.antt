-- A call is served as the service that is replicated says, and a range taken over as the keeper says.
-- Assumes nothing.
use Rattle.std.specs.Prelude.{◌≡◌, ◌≢◌, ℕ, suc, ◌<◌, Bool, true, List, length, Some, Option}
use Rattle.std.specs.List.{list_all}
use Rattle.volumes.specs.Service.{Service, Changed, keeps, puts, forgets}
use Rattle.volumes.specs.Simulation.{changed_by}
use Rattle.copies.specs.Service.{Stamped}
use Rattle.pieces.specs.Replaces.{Held}
use Rattle.served.specs.Blocks.{Block}
use Rattle.served.specs.Room.{HasRoom}
use Rattle.served.specs.Served.{reply_to, next_after}
use Rattle.keeping.specs.Keeping.{look_held, is_whole, take_held, Good}
use Rattle.store.specs.Stores.{Stored, sector_of, changes_held, reply, next}
use Rattle.store.specs.Parts.{takes_held}

-- Where there is room for what is held, the reply and the heads afterwards are the service's, for the blocks that the directory shows.
pub record AsTheService : Type 0 where
  pub replies : (o : List ℕ) (s : Stored) → HasRoom s.room s.rest (look_held s.held) → reply o s ≡ reply_to s.room o s.rest (look_held s.held)
  pub rests : (o : List ℕ) (s : Stored) → HasRoom s.room s.rest (look_held s.held) → (next o s).rest ≡ next_after s.room o s.rest (look_held s.held)

-- What a change leaves shows what the change says: of a volume's sector that is written, of a volume that is forgotten, and of all others.
abbrev pub IsOfVolume : Changed → Type 0
IsOfVolume keeps = Unit
IsOfVolume (puts v n bs) = (v ≢ 0) × (n < 1099511627776) × (length bs ≡ 512)
IsOfVolume (forgets v) = v ≢ 0

pub record ChangesShow : Type 0 where
  pub shows : (size w : ℕ) (c : Changed) (h m : Held) → Good size h → IsOfVolume c → changes_held c w h ≡ Some m → (u a : ℕ) → sector_of m (suc u) a ≡ changed_by c (sector_of h) (suc u) a

-- Where all blocks are whole, taking over is the keeper's.
pub record TakesAsKeeper : Type 0 where
  pub takes : (r : Service) (whole : Bool) (key : ℕ) (next : Option ℕ) (floor : ℕ) (bs : List (Stamped Block)) (h : Held) → list_all (λ b. is_whole b.block) bs ≡ true → takes_held r whole key next floor bs h ≡ take_held r whole key next floor bs h
