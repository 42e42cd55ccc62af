-- The directory on the device, and how it is loaded.
-- Assumes nothing.
use Rattle.std.specs.Prelude.{ℕ, zero, suc, ◌+◌, ◌*◌, Bool, true, false, cond, not, ◌&&◌, List, [], ◌∷◌, ◌++◌, length, take, drop, replicate, ◌==◌, nat_lt, Some, None, Option, slice_set, slice_index_or}
use Rattle.std.specs.List.{flat_map}
use Rattle.disks.specs.Device.{zeros}
use Rattle.octets.specs.Numbers.{bytes_of, field}
use Rattle.pieces.specs.declared.entry.Entry.{Entry}
use Rattle.pieces.specs.Entries.{entry_bytes, entry_of, free_entry, is_block_number}
use Rattle.pieces.specs.Kept.{Kept, index_of}

-- a sector of it: its generation, zeros, and seven entries
abbrev pub sector_bytes : (generation number : ℕ) → Kept → List ℕ
sector_bytes g j k = bytes_of 8 g ++ zeros 56 ++ flat_map entry_bytes (take 7 (drop (7 * j) k.entries))

-- so many entries off the front of a sector
unfoldable pub entries_in : ℕ → List ℕ → List Entry
entries_in zero bs = []
entries_in (suc c) bs = entry_of (take 64 bs) ∷ entries_in c (drop 64 bs)

-- what a sector says under the present generation: one of another has free entries only
abbrev pub sector_entries : (generation : ℕ) → List ℕ → List Entry
sector_entries g bs = cond (field 0 bs == g) (entries_in 7 (drop 64 bs)) (replicate 7 free_entry)

-- and all sectors
abbrev pub directory_entries : (generation : ℕ) → List (List ℕ) → List Entry
directory_entries g bss = flat_map (sector_entries g) bss

-- a place is taken, if it is there and free
abbrev pub is_left : ℕ → List Bool → Bool
is_left p ts = nat_lt p (length ts) && not (slice_index_or ts p false)

abbrev pub take_new : ℕ → List Bool → Option (List Bool)
take_new p ts = cond (p == 0) (Some ts) (cond (is_left p ts) (Some (slice_set ts p true)) None)

abbrev pub taking : (List Bool → Option (List Bool)) → Option (List Bool) → Option (List Bool)
taking f None = None
taking f (Some ts) = f ts

unfoldable pub take_all : List ℕ → List Bool → Option (List Bool)
take_all [] ts = Some ts
take_all (p ∷ ps) ts = taking (take_all ps) (take_new p ts)

-- an entry comes back: none, if no volume has such a block, if its block has one already, or if a place is taken
abbrev pub restored : (index : ℕ) → Entry → Kept → Option (List Bool) → Option Kept
restored i e k None = None
restored i e k (Some ts) = Some (record { entries = slice_set k.entries i e; taken = ts; floor = k.floor })

abbrev pub restores_of : Option ℕ → (index : ℕ) → Entry → Kept → Option Kept
restores_of (Some j) i e k = None
restores_of None i e k = restored i e k (take_all e.places k.taken)

unfoldable pub restores : (index : ℕ) → Entry → Kept → Option Kept
restores i e k = cond (is_block_number e.block.0) (restores_of (index_of e.volume.0 e.block.0 k.entries) i e k) None

-- an entry of a volume that doesn't live is free
abbrev pub load_entry : (ℕ → Bool) → (index : ℕ) → Entry → Kept → Option Kept
load_entry lives i e k = cond (lives e.volume.0) (restores i e k) (Some k)

abbrev pub then_load : (Kept → Option Kept) → Option Kept → Option Kept
then_load f None = None
then_load f (Some k) = f k

-- entries from an index on
unfoldable pub load_entries : (ℕ → Bool) → (index : ℕ) → List Entry → Kept → Option Kept
load_entries lives i [] k = Some k
load_entries lives i (e ∷ es) k = then_load (load_entries lives (i + 1) es) (load_entry lives i e k)
