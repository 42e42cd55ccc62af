use Rattle.std.proofs.Common.{List, length, vec_items, sym, ap, ◌∙◌}
use Rattle.std.specs.List.{position}
use Rattle.pieces.specs.declared.entry.Entry.{Entry}
use Rattle.pieces.specs.Entries.{is_free}
use Rattle.pieces.proofs.Hints.{none_free_found, none_free_all}
use Rattle.pieces.proofs.state.Pieces.unused.Goals as goal
use Rattle.pieces.proofs.state.Pieces.unused.Goals.{in-Some, in-None}

pub invariant_of-self : goal.invariant_of-self
invariant_of-self c =
    let s = c.args.self.now in
    let is = ap (position is_free) (sym c.as_slice.ensures.value) ∙ sym c.unused_behind-found.ensures in
    let long = sym c.as_slice.ensures.len ∙ ap (λ (es : List Entry). length es) c.as_slice.ensures.value in
    record {
      agrees = s.agrees;
      single = s.single;
      sized = s.sized;
      none_free = elim c.match-found.branch [
        | in-Some w ↦ none_free_found w.in-Some.index _ (vec_items s.entries) (is ∙ w.in-Some.is) w.self-is
        | in-None w ↦ none_free_all _ (vec_items s.entries) (is ∙ w.in-None.is) (w.self-is ∙ w.len-self.ensures ∙ long)
      ];
      all_taken = s.all_taken;
    }
