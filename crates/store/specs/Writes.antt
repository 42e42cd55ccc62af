-- What an event leaves to be written.
-- Assumes nothing.
use Rattle.std.specs.Prelude.{◌≡◌, ℕ, suc, ◌+◌, ◌/◌, ◌<◌, ◌^◌, Bool, cond, List, [], ◌∷◌, ◌++◌, map, ◌==◌, vec_items}
use Rattle.std.specs.List.{list_any}
use Rattle.journal.specs.declared.state.Write.{Write}
use Rattle.packets.specs.declared.area.Area.{Area}
use Rattle.packets.specs.Areas.{to_sectors, rest_area, kept_area}
use Rattle.packets.specs.Formats.{rest, directory}
use Rattle.volumes.specs.Service.{the_service}
use Rattle.pieces.specs.declared.filled.Written.{Written}
use Rattle.pieces.specs.Layouts.{data_place, directory_place}
use Rattle.pieces.specs.Loads.{sector_bytes}
use Rattle.pieces.specs.Kept.{Kept, the_kept}
use Rattle.store.specs.declared.store.Store.{Store}

abbrev pub write_of : (target : ℕ) → List ℕ → Write
write_of p bs = record { target = record { 0 = p }; bytes = bs }

-- data, where its place is on the device
abbrev pub data_write : (size : ℕ) → Written → Write
data_write size w = write_of (data_place size w.place) w.bytes

abbrev pub has_target : ℕ → List Write → Bool
has_target p ws = list_any (λ w. w.target.0 == p) ws

-- the sector of the directory that has an entry, unless it is there already
abbrev pub with_sector_of : (generation : ℕ) → Kept → (entry : ℕ) → List Write → List Write
with_sector_of g k e ws = cond (has_target (directory_place e) ws) ws (ws ++ write_of (directory_place e) (sector_bytes g (e / 7) k) ∷ [])

unfoldable pub with_sectors_of : (generation : ℕ) → Kept → (entries : List ℕ) → List Write → List Write
with_sectors_of g k [] ws = ws
with_sectors_of g k (e ∷ es) ws = with_sectors_of g k es (with_sector_of g k e ws)

-- a table's sectors, from one on
unfoldable pub table_from : (first : ℕ) → List (List ℕ) → List Write
table_from p [] = []
table_from p (bs ∷ bss) = write_of p bs ∷ table_from (suc p) bss

abbrev pub with_table : Area → (bytes : List ℕ) → List Write → List Write
with_table a bs ws = ws ++ table_from a.first (to_sectors bs)

-- ALL THAT IS TO BE WRITTEN: data, then the directory's sectors, then the heads, then generation and floor, as far as they changed
abbrev pub blocks_written : Store → List Write → List Write
blocks_written s ws = with_sectors_of s.generation.0 (the_kept s.pieces) (vec_items s.entries) (ws ++ map (data_write s.pieces.layout.size) (vec_items s.known.written))

abbrev pub heads_written : Store → List Write → List Write
heads_written s ws = cond s.rest (with_table rest_area (rest.bytes (the_service s.volumes)) ws) ws

abbrev pub floor_written : Store → List Write → List Write
floor_written s ws = cond s.directory (with_table kept_area (directory.bytes (record { generation = s.generation.0; floor = s.pieces.floor.0 })) ws) ws

abbrev pub all_written : Store → List Write → List Write
all_written s ws = floor_written s (heads_written s (blocks_written s ws))
