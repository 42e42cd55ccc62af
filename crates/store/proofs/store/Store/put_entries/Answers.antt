use Rattle.std.proofs.Common.{ap, ◌∙◌}
use Rattle.pieces.specs.Kept.{the_kept}
use Rattle.store.specs.Writes.{with_sectors_of}
use Rattle.store.proofs.Listing.{sectors_more, sectors_end}
use Rattle.store.proofs.store.Store.put_entries.Goals as goal

pub loop-entry-preserved : goal.loop-entry-preserved
loop-entry-preserved c =
    sectors_more c.args.self.now.generation.0 (the_kept c.args.self.now.pieces) c.deref-entry-items.result.now c.loop-entry.entry-index _ c.loop-entry.out.items c.put_entry.new.out.items _ c.loop-entry-test.true c.in_ok-put_entry.ensures c.loop-entry.invariant

pub returns : goal.returns
returns c =
    let g = c.args.self.now.generation.0 in
    let k = the_kept c.args.self.now.pieces in
    sectors_end g k c.deref-entry-items.result.now c.loop-entry.entry-index c.loop-entry.out.items _ c.loop-entry-test.false c.loop-entry.invariant ∙ ap (λ x. with_sectors_of g k x c.args.out.now.items) c.deref-entry-items.ensures.value
