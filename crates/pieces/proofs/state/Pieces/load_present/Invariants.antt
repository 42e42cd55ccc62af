use Rattle.std.proofs.Common.{◌≡◌, ◌+◌, ◌*◌, drop, length, vec_items}
use Rattle.volumes.specs.Service.{is_living}
use Rattle.pieces.specs.Kept.{the_kept}
use Rattle.pieces.specs.Loads.{load_entries, entries_in}
use Rattle.pieces.proofs.state.Pieces.load_present.Given as goal

abbrev pub invariant-loop-i : goal.invariant-loop-i
invariant-loop-i l = record {
  kept : load_entries (is_living l.living.next l.living.heads.now) (7 * l.number + l.i) (drop l.i (entries_in 7 (drop 64 l.sector))) (the_kept l.self) ≡ load_entries (is_living l.living.next l.living.heads.now) (7 * l.number) (entries_in 7 (drop 64 l.sector)) (the_kept l.initial.self);
  long : length (vec_items l.self.entries) ≡ length (vec_items l.initial.self.entries);
  layout : l.self.layout ≡ l.initial.self.layout;
}
