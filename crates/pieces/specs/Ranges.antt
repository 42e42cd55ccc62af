-- Which blocks are in a range, from a key on up to another or to the end.
-- Assumes nothing.
use Rattle.std.specs.Prelude.{Bool, not, ◌&&◌, ◌==◌, Option}
use Rattle.pieces.specs.declared.entry.Entry.{Entry}
use Rattle.pieces.specs.declared.changed.Key.{Key}
use Rattle.pieces.specs.Changes.{entry_key, is_before, is_below}

-- in use, and in the range
unfoldable pub is_within : Key → Option Key → Entry → Bool
is_within from next e = not (e.volume.0 == 0) && (not (is_before (entry_key e) from) && is_below (entry_key e) next)
