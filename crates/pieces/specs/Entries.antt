-- Entries of the directory, and their bytes.
-- Assumes nothing.
use Rattle.std.specs.Prelude.{◌≡◌, ℕ, zero, suc, ◌^◌, ◌<◌, ◌==◌, Bool, ◌&&◌, List, [], ◌∷◌, ◌++◌, length, take, drop, nat_lt, IsTrue}
use Rattle.std.specs.List.{flat_map, list_all}
use Rattle.octets.specs.Numbers.{big, bytes_of, field, numbers_bytes}
use Rattle.pieces.specs.declared.entry.Entry.{Entry}

abbrev pub five_bytes : ℕ → List ℕ
five_bytes p = bytes_of 5 p

-- volume, block, stamp (8 each), eight places (5 each)
unfoldable pub entry_bytes : Entry → List ℕ
entry_bytes e = numbers_bytes (e.volume.0 ∷ e.block.0 ∷ e.stamp.0 ∷ []) ++ flat_map five_bytes e.places

-- so many places off the front
abbrev pub places_in : ℕ → List ℕ → List ℕ
places_in zero bs = []
places_in (suc k) bs = big (take 5 bs) ∷ places_in k (drop 5 bs)

unfoldable pub entry_of : List ℕ → Entry
entry_of bs = record { volume = record { 0 = field 0 bs }; block = record { 0 = field 1 bs }; stamp = record { 0 = field 2 bs }; places = places_in 8 (drop 24 bs) }

-- an entry of a block all of whose sectors are zeros
abbrev pub marker : (volume block stamp : ℕ) → Entry
marker v b s = record { volume = record { 0 = v }; block = record { 0 = b }; stamp = record { 0 = s }; places = 0 ∷ 0 ∷ 0 ∷ 0 ∷ 0 ∷ 0 ∷ 0 ∷ 0 ∷ [] }

-- one that isn't used
abbrev pub free_entry : Entry
free_entry = marker 0 0 0

abbrev pub is_block : (volume block : ℕ) → Entry → Bool
is_block v b e = e.volume.0 == v && e.block.0 == b

-- a volume has at most 2^40 sectors, so its blocks have numbers below 2^37
abbrev pub is_block_number : ℕ → Bool
is_block_number b = nat_lt b 137438953472

abbrev pub is_empty : Entry → Bool
is_empty e = list_all (λ p. p == 0) e.places

abbrev pub is_free : Entry → Bool
is_free e = e.volume.0 == 0 && is_empty e

-- an entry whose numbers fit their bytes
pub record FitsBytes (e : Entry) : Type 0 where
  pub volume : e.volume.0 < 2 ^ 64
  pub block : e.block.0 < 2 ^ 64
  pub stamp : e.stamp.0 < 2 ^ 64
  pub eight : length e.places ≡ 8
  pub small : IsTrue (list_all (λ p. nat_lt p (2 ^ 40)) e.places)

-- what was written is read back
abbrev pub EntryReadBack : Type 0
EntryReadBack = (e : Entry) → FitsBytes e → entry_of (entry_bytes e) ≡ e
