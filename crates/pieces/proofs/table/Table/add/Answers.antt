use Rattle.std.proofs.Common.{◌/◌, rules, sym, ◌∙◌, ap, List}
use Rattle.std.specs.List.{position}
use Rattle.wire.specs.declared.number.Volume.{Volume}
use Rattle.pieces.specs.declared.piece.Piece.{Piece}
use Rattle.pieces.specs.Tables.{slot_in, is_piece}
use Rattle.pieces.proofs.Slots.{slots_added, now_there}
use Rattle.pieces.proofs.table.Table.add.Goals as goal

pub returns-clause-slots : goal.returns-clause-slots
returns-clause-slots c = λ u b.
    ap (λ (ps : List Piece). slot_in ps u b) (c.in_ok-insert.ensures {u = tt}).items
    ∙ slots_added _ c.place_for-at.result c.args.volume.0 c.args.block.0 c.in_ok-piece.piece c.requires (ap (λ (z : Volume). z.0) c.in_ok-piece.ensures.volume) (c.in_ok-piece.ensures.number ∙ c.number_of-number.ensures) c.in_ok-piece.ensures.words u b

pub returns-clause-there : goal.returns-clause-there
returns-clause-there c = λ e.
    now_there _ c.place_for-at.result c.args.volume.0 c.args.block.0 c.in_ok-piece.piece (search rules) (ap (λ (z : Volume). z.0) c.in_ok-piece.ensures.volume) (c.in_ok-piece.ensures.number ∙ c.number_of-number.ensures)
    (sym (ap (λ (ps : List Piece). position (is_piece c.args.volume.0 (c.args.block.0 / 1024)) ps) (c.in_ok-insert.ensures {u = tt}).items) ∙ e)
