-- The table of pieces says of each block what the directory has.
-- Assumes nothing.
use Rattle.std.specs.Prelude.{◌≡◌, ℕ, suc, ◌≤◌, List, Option, Some, None}
use Rattle.std.specs.List.{position, count_by}
use Rattle.pieces.specs.declared.entry.Entry.{Entry}
use Rattle.pieces.specs.declared.piece.Piece.{Piece}
use Rattle.pieces.specs.Entries.{is_block}
use Rattle.pieces.specs.Tables.{slot_in}

-- an index as a word: one more, or 0
abbrev pub as_word : Option ℕ → ℕ
as_word None = 0
as_word (Some i) = suc i

abbrev pub Agrees : List Piece → List Entry → Type 0
Agrees ps es = (v b : ℕ) → slot_in ps (suc v) b ≡ as_word (position (is_block (suc v) b) es)

-- a block has one entry
abbrev pub IsSingle : List Entry → Type 0
IsSingle es = (v b : ℕ) → count_by (is_block (suc v) b) es ≤ 1
