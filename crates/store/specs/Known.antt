-- What places of data hold, as far as it was read or is to be written.
-- Assumes nothing.
use Rattle.std.specs.Prelude.{◌≡◌, ℕ, Bool, cond, List, [], ◌∷◌, ◌++◌, ◌==◌, Some, None, Option, vec_items, slice_index_or, slice_set}
use Rattle.std.specs.List.{position}
use Rattle.disks.specs.Device.{zeros}
use Rattle.pieces.specs.declared.filled.Written.{Written}
use Rattle.store.specs.declared.known.Known.{Known}

abbrev pub is_at : (place : ℕ) → Written → Bool
is_at p w = w.place == p

abbrev pub written_at : (place : ℕ) → List ℕ → Written
written_at p bs = record { place = p; bytes = bs }

-- the first that is said of a place, or else something other
abbrev pub bytes_in : Option ℕ → List Written → List ℕ → List ℕ
bytes_in None ws other = other
bytes_in (Some i) ws other = (slice_index_or ws i (written_at 0 (zeros 512))).bytes

abbrev pub bytes_at : List Written → (place : ℕ) → List ℕ → List ℕ
bytes_at ws p other = bytes_in (position (is_at p) ws) ws other

-- what is to be written counts before what was read; zeros where nothing is known
abbrev pub known : (read written : List Written) → ℕ → List ℕ
known rs ws p = bytes_at ws p (bytes_at rs p (zeros 512))

-- A place is to be written: in the stead of what was to be, if there was any.
abbrev pub put_in : Option ℕ → (place : ℕ) → List ℕ → List Written → List Written
put_in None p bs ws = ws ++ written_at p bs ∷ []
put_in (Some i) p bs ws = slice_set ws i (written_at (slice_index_or ws i (written_at 0 (zeros 512))).place bs)

abbrev pub put_at : (place : ℕ) → List ℕ → List Written → List Written
put_at p bs ws = put_in (position (is_at p) ws) p bs ws

-- places with what was read of them
unfoldable pub noted : List ℕ → List (List ℕ) → List Written
noted [] bss = []
noted (p ∷ ps) [] = []
noted (p ∷ ps) (bs ∷ bss) = written_at p bs ∷ noted ps bss

-- what the code's value stands for
abbrev pub the_data : Known → ℕ → List ℕ
the_data k = known (vec_items k.read) (vec_items k.written)
