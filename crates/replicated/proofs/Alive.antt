-- A run in which a call is answered, and one in which a copy that missed commands catches up.
use Rattle.std.proofs.Common.{refl, inl, inr, arith}
use mathlib.Core.List.{Memᴰ}
use Rattle.disks.specs.Cluster.{packets, tells, is_used, settled, without}
use Rattle.compose.specs.Pure.{begin, rises, does, asked, ticks}
use Rattle.copies.specs.Service.{lookup}
use Rattle.copies.specs.Copy.{not_of, undone, houses_of, on_bundle, pack, settle, settle_here, forward, ahead, takes_over, may_lead, even, hears, asks_on, status_of, on_status, on_part, passed, tail_taken, on_want, elect, stirs, on_tick}
use Rattle.copies.specs.House.{runs, bundle_done, command_done, put_rest, stowed, does_work, to_others, status_posts, bundle_posts, reply_posts, want_posts, part_of, part_posts, posts, posted, outs, acts, behaves}
use Rattle.copies.specs.Promise.{Passed}
use Rattle.copies.specs.Cells.{holds, is_gone, cell_reply, cell_next, cell_changes, cell_says, block_of, stamp_of, among, markers, first_marker, forgotten, tidied, changed, wanted, placed, scan, differs, clashes, is_none, take_cells, write, Alive, CatchesUp}

-- two houses come up; a call is made at the first, which asks to lead; the second promises; the first proposes; the second follows, and
-- says what came of it
pub alive : Alive
unfolding behaves acts outs posted posts to_others status_posts bundle_posts reply_posts want_posts part_posts part_of does_work stowed put_rest command_done bundle_done runs tells packets settled without is_used pack forward undone not_of houses_of on_bundle elect stirs on_tick settle_here settle on_status status_of asks_on hears even ahead may_lead takes_over holds is_gone cell_reply cell_next cell_changes cell_says block_of stamp_of among markers first_marker forgotten tidied changed lookup
alive = (
  _,
  does 0 _ _ _ (omega arith)
      (does 1 _ _ _ (omega arith)
      (does 0 _ _ _ (omega arith)
      (does 1 _ _ _ (omega arith) (ticks 0 _ _ (omega arith) (ticks 0 _ _ (omega arith) (asked 0 7 (write 5 6) _ _ (omega arith) (rises 1 _ (omega arith) (rises 0 _ (omega arith) begin refl) refl) refl tt) refl) refl) refl (Memᴰ.head refl) refl) refl (Memᴰ.head refl) refl) refl (Memᴰ.head refl) refl)
      refl (Memᴰ.head refl) refl,
)

pub catches_up : CatchesUp
unfolding behaves acts outs posted posts to_others status_posts bundle_posts reply_posts want_posts part_posts part_of does_work stowed put_rest command_done bundle_done runs tells packets settled without is_used pack forward undone not_of houses_of on_bundle elect stirs on_tick settle_here settle on_status status_of asks_on hears even ahead may_lead takes_over holds is_gone cell_reply cell_next cell_changes cell_says block_of stamp_of among markers first_marker forgotten tidied changed lookup on_want on_part tail_taken passed wanted placed scan differs clashes is_none take_cells Passed
catches_up = (_, _, does 2 _ _ _ (omega arith) (does 0 _ _ _ (omega arith) (does 2 _ _ _ (omega arith) (does 0 _ _ _ (omega arith) (does 2 _ _ _ (omega arith) (ticks 0 _ _ (omega arith) (rises 2 _ (omega arith) (does 0 _ _ _ (omega arith) (does 1 _ _ _ (omega arith) (does 0 _ _ _ (omega arith) (does 1 _ _ _ (omega arith) (does 0 _ _ _ (omega arith) (does 1 _ _ _ (omega arith) (ticks 0 _ _ (omega arith) (ticks 0 _ _ (omega arith) (asked 0 9 (write 12 8) _ _ (omega arith) (asked 0 8 (write 9 7) _ _ (omega arith) (asked 0 7 (write 5 6) _ _ (omega arith) (rises 1 _ (omega arith) (rises 0 _ (omega arith) begin refl) refl) refl tt) refl tt) refl tt) refl) refl) refl (Memᴰ.head refl) refl) refl (Memᴰ.head refl) refl) refl (Memᴰ.head refl) refl) refl (Memᴰ.head refl) refl) refl (Memᴰ.head refl) refl) refl (Memᴰ.head refl) refl) refl) refl) refl (Memᴰ.tail (Memᴰ.head refl)) refl) refl (Memᴰ.head refl) refl) refl (Memᴰ.head refl) refl) refl (Memᴰ.head refl) refl) refl (Memᴰ.head refl) refl, (_, inr (inr (inl refl)), refl, refl), refl, refl, refl, refl, refl)
