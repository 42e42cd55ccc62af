-- What a part of another directory changes where it is taken over.
-- Assumes nothing.
use Rattle.std.specs.Prelude.{Option, vec_items}
use Rattle.pieces.specs.Replaces.{Held, replaces}
use Rattle.pieces.specs.Replacing.{the_blocks}
use Rattle.pieces_trial.specs.declared.part.Part.{Part}

-- at most 256 entries are given up
abbrev pub takes : Part → Held → Option Held
takes p h = replaces p.range.from p.range.next p.whole 256 p.floor.0 (the_blocks (vec_items p.blocks)) h
