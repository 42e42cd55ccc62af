use Rattle.std.proofs.Common.{rules}
use Rattle.pieces.proofs.Taking.{take_more, take_end, take_broken, on_err}
use Rattle.pieces.proofs.load.take_places.Goals as goal

pub loop-place-preserved : goal.loop-place-preserved
loop-place-preserved c = take_more c.args.places.now c.loop-place.place-index _ c.loop-place.taken c.take_one.new.taken _ c.loop-place-test.true (search rules) (c.in_ok-take_one.ensures {u = tt}).ok c.loop-place.invariant

pub returns : goal.returns
returns c = record { ok = take_end c.args.places.now c.loop-place.place-index c.loop-place.taken _ c.loop-place-test.false c.loop-place.invariant; err = tt }

pub returns-in_err-take_one-clause-err : goal.returns-in_err-take_one-clause-err
returns-in_err-take_one-clause-err c =
    on_err c.from_residual.result (take_broken c.args.places.now c.loop-place.place-index _ c.loop-place.taken _ c.loop-place-test.true (search rules) (c.in_err-take_one.ensures {u = tt}).err c.loop-place.invariant)
