-- What is kept in memory of the directory, and what becomes of it.
-- Assumes nothing.
use Rattle.std.specs.Prelude.{◌≡◌, ℕ, zero, suc, ◌/◌, ◌%◌, max, Bool, true, false, cond, not, List, ◌∷◌, replicate, ◌==◌, Some, None, Option, Ok, Err, Result, ◌<◌, length, vec_items, slice_index_or, slice_set}
use Rattle.std.specs.List.{position}
use Rattle.pieces.specs.declared.entry.Entry.{Entry}
use Rattle.pieces.specs.declared.state.Pieces.{Pieces}
use Rattle.pieces.specs.declared.set.Writes.{Writes}
use Rattle.pieces.specs.declared.set.Unset.{Unset}
use Rattle.pieces.specs.declared.set.Unset.TheVariants.{NoRoom, NoMemory}
use Rattle.std.specs.declared.alloc.AllocError.{AllocError}
use Rattle.pieces.specs.Entries.{marker, free_entry, is_block, is_empty, is_free}
use Rattle.pieces.specs.Layouts.{places_of, entries_of}

-- entries by their index, which places are taken (place 0 is none, and counts as taken), and the floor
pub record Kept : Type 0 where
  pub entries : List Entry
  pub taken : List Bool
  pub floor : ℕ

-- what the code's value stands for
abbrev pub the_kept : Pieces → Kept
the_kept p = record { entries = vec_items p.entries; taken = vec_items p.taken; floor = p.floor.0 }

abbrev pub blank_kept : ℕ → Kept
blank_kept size = record { entries = replicate (entries_of size) free_entry; taken = true ∷ replicate (places_of size) false; floor = 0 }

-- WHERE THINGS ARE. Which entry a block has.
abbrev pub index_of : (volume block : ℕ) → List Entry → Option ℕ
index_of v b es = position (is_block v b) es

abbrev pub entry_at : ℕ → Kept → Entry
entry_at i k = slice_index_or k.entries i free_entry

abbrev pub place_at : (index slot : ℕ) → Kept → ℕ
place_at i s k = slice_index_or (entry_at i k).places s 0

abbrev pub place_in : Option ℕ → (slot : ℕ) → Kept → ℕ
place_in None s k = 0
place_in (Some i) s k = place_at i s k

-- where a sector lies; 0, if it is zeros
abbrev pub place_of : (volume sector : ℕ) → Kept → ℕ
place_of v n k = place_in (index_of v (n / 8) k.entries) (n % 8) k

abbrev pub found : ℕ → Option ℕ
found p = cond (p == 0) None (Some p)

-- the version at which a block last changed
abbrev pub stamp_in : Option ℕ → Kept → ℕ
stamp_in None k = 0
stamp_in (Some i) k = (entry_at i k).stamp.0

abbrev pub stamp_of : (volume block : ℕ) → Kept → ℕ
stamp_of v b k = stamp_in (index_of v b k.entries) k

-- an entry that may be used: one that is free, else a marker
abbrev pub or_else : Option ℕ → Option ℕ → Option ℕ
or_else None y = y
or_else (Some i) y = Some i

abbrev pub vacant : List Entry → Option ℕ
vacant es = or_else (position is_free es) (position is_empty es)

-- a place that isn't taken
abbrev pub free_place : List Bool → Option ℕ
free_place ts = position not ts

-- CHANGES
abbrev pub with_place : (slot place stamp : ℕ) → Entry → Entry
with_place s p v e = record { volume = e.volume; block = e.block; stamp = record { 0 = v }; places = slice_set e.places s p }

abbrev pub freed : ℕ → List Bool → List Bool
freed p ts = cond (p == 0) ts (slice_set ts p false)

-- a sector of an entry's block lies at a place from now on
unfoldable pub puts_place : (index slot place stamp : ℕ) → Kept → Kept
puts_place i s p v k = record { entries = slice_set k.entries i (with_place s p v (entry_at i k)); taken = slice_set k.taken p true; floor = k.floor }

-- or is zeros
unfoldable pub frees_place : (index slot stamp : ℕ) → Kept → Kept
frees_place i s v k = record { entries = slice_set k.entries i (with_place s 0 v (entry_at i k)); taken = freed (place_at i s k) k.taken; floor = k.floor }

-- an entry is a block's from now on
pub record Claim : Type 0 where
  pub index : ℕ
  pub kept : Kept

abbrev pub claimed : ℕ → Kept → Claim
claimed i k = record { index = i; kept = k }

abbrev pub floor_after : (floor : ℕ) → Entry → ℕ
floor_after f e = cond (is_free e) f (max f e.stamp.0)

unfoldable pub claims_entry : (volume block stamp index : ℕ) → Kept → Kept
claims_entry v b w j k = record { entries = slice_set k.entries j (marker v b w); taken = k.taken; floor = floor_after k.floor (entry_at j k) }

abbrev pub claims_new : (volume block stamp : ℕ) → Option ℕ → Kept → Option Claim
claims_new v b w None k = None
claims_new v b w (Some j) k = Some (claimed j (claims_entry v b w j k))

abbrev pub claims_of : (volume block stamp : ℕ) → Option ℕ → Kept → Option Claim
claims_of v b w None k = claims_new v b w (vacant k.entries) k
claims_of v b w (Some i) k = Some (claimed i k)

unfoldable pub claims : (volume block stamp : ℕ) → Kept → Option Claim
claims v b w k = claims_of v b w (index_of v b k.entries) k

-- what claiming came to
abbrev pub WasClaimed : (volume block stamp : ℕ) → Kept → Result (Option ℕ) AllocError → Kept → Type 0
WasClaimed v b w k (Err e) m = m ≡ k
WasClaimed v b w k (Ok None) m = (claims v b w k ≡ None) × (m ≡ k)
WasClaimed v b w k (Ok (Some i)) m = (claims v b w k ≡ Some (claimed i m)) × (i < length m.entries)

-- A SECTOR IS WRITTEN
pub record WasSet : Type 0 where
  pub writes : Writes
  pub kept : Kept

abbrev pub was_set : Writes → Kept → WasSet
was_set w k = record { writes = w; kept = k }

abbrev pub raised : ℕ → Kept → Kept
raised w k = record { entries = k.entries; taken = k.taken; floor = max k.floor w }

abbrev pub is_risen : Kept → Kept → Bool
is_risen k m = not (m.floor == k.floor)

-- Zeros: the block keeps an entry; if there is none for it, the floor rises.
abbrev pub sets_blank : (slot stamp : ℕ) → Option Claim → Kept → Option WasSet
sets_blank s w None k = Some (was_set (record { place = None; entry = None; floor = is_risen k (raised w k) }) (raised w k))
sets_blank s w (Some c) k = Some (was_set (record { place = None; entry = Some c.index; floor = is_risen k c.kept }) (frees_place c.index s w c.kept))

-- Bytes: at the place that the sector has, or at a free one. None, if there is no place or no entry.
abbrev pub sets_bytes : (slot stamp : ℕ) → Option ℕ → Option Claim → Kept → Option WasSet
sets_bytes s w None c k = None
sets_bytes s w (Some p) None k = None
sets_bytes s w (Some p) (Some c) k = Some (was_set (record { place = Some p; entry = Some c.index; floor = is_risen k c.kept }) (puts_place c.index s p w c.kept))

-- the place that a sector has, or one that is free
abbrev pub place_for : (volume sector : ℕ) → Kept → Option ℕ
place_for v n k = or_else (found (place_of v n k)) (free_place k.taken)

unfoldable pub sets : (volume sector : ℕ) → (blank : Bool) → (stamp : ℕ) → Kept → Option WasSet
sets v n true w k = sets_blank (n % 8) w (claims v (n / 8) w k) k
sets v n false w k = sets_bytes (n % 8) w (place_for v n k) (claims v (n / 8) w k) k

-- what setting came to; where there is no room, or no memory, nothing changes
abbrev pub DoesSet : (volume sector : ℕ) → (blank : Bool) → (stamp : ℕ) → Kept → Result Writes Unset → Kept → Type 0
DoesSet v n blank w k (Ok r) m = sets v n blank w k ≡ Some (was_set r m)
DoesSet v n blank w k (Err NoRoom) m = (sets v n blank w k ≡ None) × (m ≡ k)
DoesSet v n blank w k (Err NoMemory) m = m ≡ k

-- A VOLUME IS GONE: its entries are free, and their places.
unfoldable pub cleared : (index slots : ℕ) → Kept → Kept
cleared i zero k = k
cleared i (suc s) k = frees_place i s 0 (cleared i s k)

unfoldable pub vacated : ℕ → Kept → Kept
vacated i k = record { entries = slice_set (cleared i 8 k).entries i free_entry; taken = (cleared i 8 k).taken; floor = (cleared i 8 k).floor }

unfoldable pub forgets_at : (volume index : ℕ) → Kept → Kept
forgets_at v i k = cond ((entry_at i k).volume.0 == v) (vacated i k) k

unfoldable pub forgotten : (volume entries : ℕ) → Kept → Kept
forgotten v zero k = k
forgotten v (suc i) k = forgets_at v i (forgotten v i k)
