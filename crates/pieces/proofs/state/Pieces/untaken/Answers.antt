use Rattle.std.proofs.Common.{Bool, not, List, length, vec_items, sym, ap, ◌∙◌}
use Rattle.std.specs.List.{position}
use Rattle.pieces.proofs.Hints.{all_taken_found, all_taken_all}
use Rattle.pieces.proofs.state.Pieces.untaken.Goals as goal
use Rattle.pieces.proofs.state.Pieces.untaken.Goals.{in-Some, in-None}

pub invariant_of-self : goal.invariant_of-self
invariant_of-self c =
    let s = c.args.self.now in
    let is = ap (position not) (sym c.as_slice.ensures.value) ∙ sym c.untaken_behind-found.ensures in
    let long = sym c.as_slice.ensures.len ∙ ap (λ (ts : List Bool). length ts) c.as_slice.ensures.value in
    record {
      agrees = s.agrees;
      single = s.single;
      sized = s.sized;
      all_taken = elim c.match-found.branch [
        | in-Some w ↦ all_taken_found w.in-Some.place _ (vec_items s.taken) (is ∙ w.in-Some.is) w.self-is
        | in-None w ↦ all_taken_all _ (vec_items s.taken) (is ∙ w.in-None.is) (w.self-is ∙ w.len-self.ensures ∙ long)
      ];
      none_free = s.none_free;
    }
