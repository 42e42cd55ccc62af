use Rattle.std.proofs.Common.{◌∙◌, ap}
use Rattle.std.proofs.Common.{List}
use Rattle.pieces.specs.declared.piece.Piece.{Piece}
use Rattle.pieces.specs.Tables.{slot_in}
use Rattle.pieces.proofs.Slots.{no_slots}
use Rattle.pieces.proofs.table.Table.new.Goals as goal

pub returns : goal.returns
returns c = λ v b. ap (λ (ps : List Piece). slot_in ps v b) c.new.ensures.items ∙ no_slots v b
