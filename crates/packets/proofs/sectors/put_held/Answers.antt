use Rattle.std.proofs.Common.{ℕ, ap, sym, ◌∙◌}
use Rattle.std.specs.Global.{Vec}
use Rattle.packets.proofs.Blocks.{held_put, held_skipped, all_full}
use Rattle.packets.proofs.sectors.put_held.Goals as goal
use Rattle.packets.proofs.sectors.put_held.Goals.{then-not-is_blank+in_ok-extend_from_slice, else-not-is_blank}

pub loop-sector-preserved : goal.loop-sector-preserved
loop-sector-preserved c =
    elim c.if-not-is_blank.branch [
      | then-not-is_blank+in_ok-extend_from_slice w ↦
          let e = w.in_ok-extend_from_slice.ensures in
          ap (λ (v : Vec ℕ). v.items) w.out-is ∙ held_put c.args.sectors.now c.loop-sector.sector-index _ _ _ c.loop-sector-test.true (sym c.is_blank.ensures ∙ w.if-not-is_blank.true) c.loop-sector.invariant e.items
      | else-not-is_blank w ↦ ap (λ (v : Vec ℕ). v.items) w.out-is ∙ held_skipped c.args.sectors.now c.loop-sector.sector-index _ _ c.loop-sector-test.true (sym c.is_blank.ensures ∙ w.if-not-is_blank.false) c.loop-sector.invariant
    ]

pub returns-clause-full : goal.returns-clause-full
returns-clause-full c = all_full c.args.sectors.now c.told-sectors

pub returns-in_err-extend_from_slice-clause-full : goal.returns-in_err-extend_from_slice-clause-full
returns-in_err-extend_from_slice-clause-full c = all_full c.args.sectors.now c.told-sectors
