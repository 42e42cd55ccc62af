-- A small service with a keeper of its blocks, to show that there are such: numbers under sixty-four keys, in groups of four.
-- Assumes nothing.
use Rattle.std.specs.Prelude.{⊤, ◌≡◌, ℕ, zero, suc, ◌-◌, ◌/◌, max, Bool, true, false, cond, ◌&&◌, ◌||◌, not, List, [], ◌∷◌, ◌++◌, length, Option, Some, None, nat_lt, ◌==◌}
use Rattle.disks.specs.Cluster.{Seen, called, answered}
use Rattle.compose.specs.Pure.{World, Trace}
use Rattle.copies.specs.Service.{Change, Service, Stamped, Portion, Keeper, in_range, lookup}
use Rattle.copies.specs.Messages.{level, recovers}
use Rattle.copies.specs.Copy.{Memory}
use Rattle.copies.specs.House.{Disks, Messages, Guard, replicated}
use Rattle.copies.specs.Promise.{Passed, stored_at}

-- THE SERVICE. A number is written or read, or a group is dropped for good.
pub data CellCall : Type 0 where
  write : (key block : ℕ) → CellCall
  read : (key : ℕ) → CellCall
  drop : (group : ℕ) → CellCall

pub data CellReply : Type 0 where
  was : ℕ → CellReply
  gone : CellReply
  busy : CellReply

-- which groups are gone, and how many calls there were
pub record CellRest : Type 0 where
  pub dropped : List ℕ
  pub count : ℕ

unfoldable pub holds : ℕ → List ℕ → Bool
holds g [] = false
holds g (d ∷ ds) = (g == d) || holds g ds

abbrev pub limit : ℕ
limit = 64

unfoldable pub is_gone : CellRest → ℕ → Bool
is_gone r k = not (nat_lt k limit) || holds (k / 4) r.dropped

-- what the block was, or none, if it is gone; of a drop, how many calls there were
unfoldable pub cell_reply : CellCall → CellRest → (ℕ → ℕ) → Option ℕ
cell_reply (write k b) r f = cond (is_gone r k) None (Some (f k))
cell_reply (read k) r f = cond (is_gone r k) None (Some (f k))
cell_reply (drop g) r f = Some r.count

unfoldable pub cell_next : CellCall → CellRest → (ℕ → ℕ) → CellRest
cell_next (write k b) r f = record r { count = suc r.count }
cell_next (read k) r f = record r { count = suc r.count }
cell_next (drop g) r f = record { dropped = g ∷ r.dropped; count = suc r.count }

unfoldable pub cell_changes : CellCall → CellRest → (ℕ → ℕ) → List (Change ℕ)
cell_changes (write k b) r f = cond (is_gone r k) [] (record { key = k; block = b } ∷ [])
cell_changes (read k) r f = []
cell_changes (drop g) r f = []

unfoldable pub cell_says : Option ℕ → CellReply
cell_says (Some n) = was n
cell_says None = gone

abbrev pub cells : Service CellCall CellReply
cells =
    record {
      Rest = CellRest;
      Block = ℕ;
      A = Option ℕ;
      first = record { dropped = []; count = 0 };
      empty = 0;
      reply = cell_reply;
      next = cell_next;
      changes = cell_changes;
      gone = is_gone;
      HasRoom = λ r f. ⊤;
      says = cell_says;
      busy = busy;
    }

-- THE KEEPER. Blocks with their stamps, the latest written first. An empty one is kept as a marker; of more than four markers, the one
-- that was written first is forgotten.
pub record Cells : Type 0 where
  pub floor : ℕ
  pub blocks : List (Stamped ℕ)

unfoldable pub block_of : Option (Stamped ℕ) → ℕ
block_of None = 0
block_of (Some b) = b.block

unfoldable pub stamp_of : Option (Stamped ℕ) → ℕ
stamp_of None = 0
stamp_of (Some b) = b.stamp

abbrev pub look_at : Cells → ℕ → ℕ
look_at s k = block_of (lookup k s.blocks)

abbrev pub stamp_at : Cells → ℕ → ℕ
stamp_at s k = stamp_of (lookup k s.blocks)

-- those whose key passes a test
unfoldable pub among : (ℕ → Bool) → List (Stamped ℕ) → List (Stamped ℕ)
among f [] = []
among f (b ∷ bs) = cond (f b.key) (b ∷ among f bs) (among f bs)

abbrev pub but : ℕ → List (Stamped ℕ) → List (Stamped ℕ)
but j bs = among (λ k. not (k == j)) bs

unfoldable pub markers : List (Stamped ℕ) → ℕ
markers [] = 0
markers (b ∷ bs) = cond (b.block == 0) (suc (markers bs)) (markers bs)

unfoldable pub first_marker : List (Stamped ℕ) → Option ℕ
first_marker [] = None
first_marker (b ∷ bs) = earlier (first_marker bs)
  where
    earlier : Option ℕ → Option ℕ
    earlier (Some k) = Some k
    earlier None = cond (b.block == 0) (Some b.key) None

unfoldable pub forgotten : Option ℕ → Cells → Cells
forgotten None s = s
forgotten (Some k) s = cond (look_at s k == 0) (record { floor = max s.floor (stamp_at s k); blocks = but k s.blocks }) s

unfoldable pub tidied : Cells → Cells
tidied s = cond (nat_lt 4 (markers s.blocks)) (forgotten (first_marker s.blocks) s) s

abbrev pub set : (version : ℕ) → Change ℕ → Cells → Cells
set v c s = record s { blocks = record { key = c.key; stamp = v; block = c.block } ∷ but c.key s.blocks }

unfoldable pub changed : (version : ℕ) → List (Change ℕ) → Cells → Cells
changed v [] s = s
changed v (c ∷ cs) s = changed v cs (tidied (set v c s))

-- what is gone is forgotten
abbrev pub swept : CellRest → Cells → Cells
swept r s = record s { blocks = among (λ k. not (is_gone r k)) s.blocks }

-- A PORTION: two blocks at the most
unfoldable pub wanted : CellRest → (whole : Bool) → (base key : ℕ) → Option (Stamped ℕ) → Option (Stamped ℕ)
wanted r whole base k None = None
wanted r whole base k (Some b) = cond (not (is_gone r k) && (whole || nat_lt base b.stamp)) (Some b) None

unfoldable pub placed : (key room : ℕ) → (ℕ → Portion ℕ) → Option (Stamped ℕ) → Portion ℕ
placed key room rest None = rest room
placed key zero rest (Some b) = record { next = Some key; blocks = [] }
placed key (suc n) rest (Some b) = record { next = (rest n).next; blocks = b ∷ (rest n).blocks }

-- over so many keys
unfoldable pub scan : CellRest → (whole : Bool) → (base : ℕ) → Cells → (many room key : ℕ) → Portion ℕ
scan r whole base s zero room key = record { next = None; blocks = [] }
scan r whole base s (suc n) room key = placed key room (λ m. scan r whole base s n m (suc key)) (wanted r whole base key (lookup key s.blocks))

-- A PORTION TAKEN OVER. There is no place for more than eight blocks while one in the range is other than it was.
unfoldable pub differs : (whole : Bool) → Option (Stamped ℕ) → Option (Stamped ℕ) → Bool
differs whole None x = false
differs whole (Some c) None = whole
differs whole (Some c) (Some b) = not (c.stamp == b.stamp && c.block == b.block)

unfoldable pub clashes : (whole : Bool) → (from : ℕ) → (next : Option ℕ) → List (Stamped ℕ) → Cells → (many key : ℕ) → Bool
clashes whole from next bs s zero k = false
clashes whole from next bs s (suc n) k = (in_range from next k && differs whole (lookup k s.blocks) (lookup k bs)) || clashes whole from next bs s n (suc k)

abbrev pub comes : CellRest → (key : ℕ) → (next : Option ℕ) → ℕ → Bool
comes r key next k = in_range key next k && not (is_gone r k)

unfoldable pub is_none : Option (Stamped ℕ) → Bool
is_none None = true
is_none (Some b) = false

-- of what was there before, this stays
abbrev pub remains : CellRest → (whole : Bool) → (key : ℕ) → (next : Option ℕ) → List (Stamped ℕ) → ℕ → Bool
remains r whole key next bs k = not (whole && in_range key next k) && is_none (lookup k (among (comes r key next) bs))

abbrev pub joined : CellRest → (whole : Bool) → (key : ℕ) → (next : Option ℕ) → (floor : ℕ) → List (Stamped ℕ) → Cells → Cells
joined r whole key next floor bs s = record { floor = max s.floor floor; blocks = among (comes r key next) bs ++ among (remains r whole key next bs) s.blocks }

abbrev pub is_full : (whole : Bool) → (key : ℕ) → (next : Option ℕ) → List (Stamped ℕ) → (before now : Cells) → Bool
is_full whole key next bs s t = nat_lt 8 (length t.blocks) && clashes whole key next bs s (limit - key) key

unfoldable pub take_cells : CellRest → (whole : Bool) → (key : ℕ) → (next : Option ℕ) → (floor : ℕ) → List (Stamped ℕ) → Cells → Option Cells
take_cells r whole key next floor bs s = cond (is_full whole key next bs s (joined r whole key next floor bs s)) None (Some (joined r whole key next floor bs s))

abbrev pub cell_keeper : Keeper cells
cell_keeper =
    record {
      Kept = Cells;
      none = record { floor = 0; blocks = [] };
      look = λ s k. look_at s k;
      stamp = λ s k. stamp_at s k;
      floor = λ s. s.floor;
      write = λ r v cs s. changed v cs (swept r s);
      portion = λ r whole base key s. scan r whole base s (limit - key) 2 key;
      take = take_cells;
    }

abbrev pub always : Guard cells cell_keeper
always x m d = true

-- HOUSES WITH THESE
abbrev pub CellWorld : Type 0
CellWorld = World (Memory CellCall) (Disks cells cell_keeper) (Messages cells cell_keeper)

-- a call can be answered
abbrev pub Alive : Type 0
Alive = (w : CellWorld) × Trace (replicated cells cell_keeper always) 3 (answered 0 7 (was 0) ∷ called 0 7 (write 5 6) ∷ []) w

-- House 2 is off while blocks are written at versions 1 and 2. Later it recovers in parts, and has them all.
abbrev pub CatchesUp : Type 0
CatchesUp =
    (es : List (Seen CellCall CellReply)) × (w : CellWorld) × (t : Trace (replicated cells cell_keeper always) 3 es w) ×
    ((u : CellWorld) × Passed t u × ((stored_at (u.house 2)).agreeing.recovery ≡ recovers 0 2) × ((stored_at (u.house 2)).agreeing.version ≡ 0)) ×
    ((stored_at (w.house 2)).agreeing.recovery ≡ level) × ((stored_at (w.house 2)).agreeing.version ≡ 2) ×
    (look_at (stored_at (w.house 2)).kept 5 ≡ 6) × (look_at (stored_at (w.house 2)).kept 9 ≡ 7) × (look_at (stored_at (w.house 2)).kept 12 ≡ 8)
