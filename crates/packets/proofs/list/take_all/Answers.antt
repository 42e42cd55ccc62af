use Rattle.std.proofs.Common.{◌≡◌, ◌++◌, ◌∷◌, [], map}
use Rattle.std.proofs.lemmas.Result.{err_from_is_err_and}
use Rattle.std.proofs.lemmas.List.{map_push}
use Rattle.packets.specs.Codecs.{many_at}
use Rattle.packets.proofs.Loops.{goes_on, ends, is_done}
use Rattle.packets.proofs.list.take_all.Goals as goal

pub returns-in_err-one : goal.returns-in_err-one
returns-in_err-one g c =
    let p = err_from_is_err_and c.from_residual.result c.from_residual.ensures.1 in
    rw (p.1, p.2) (ends g.T.Bytes.codec c.in_err-one.field-0.0 (map g.T.Bytes.view c.loop.all.items) c.args.count c.loop.counter c.loop.rest.now (many_at g.T.Bytes.codec c.args.count c.args.bytes.now) c.loop-test.true c.in_err-one.ensures c.loop.invariant)

pub loop-preserved : goal.loop-preserved
loop-preserved g c =
    let n = c.in_ok-one.one in
    let e : map g.T.Bytes.view c.push.new.self.items ≡ map g.T.Bytes.view c.loop.all.items ++ g.T.Bytes.view n ∷ [] = rw c.in_ok-push.ensures.items (map_push _ c.loop.all.items n) in
    rw e (goes_on g.T.Bytes.codec (map g.T.Bytes.view c.loop.all.items) c.args.count c.loop.counter c.loop.rest.now (g.T.Bytes.view n) c.in_ok-one.after.now (many_at g.T.Bytes.codec c.args.count c.args.bytes.now) c.loop-test.true c.in_ok-one.ensures c.loop.invariant)

pub returns : goal.returns
returns g c = is_done g.T.Bytes.codec (map g.T.Bytes.view c.loop.all.items) c.args.count c.loop.counter c.loop.rest.now (many_at g.T.Bytes.codec c.args.count c.args.bytes.now) c.loop-test.false c.loop.invariant
