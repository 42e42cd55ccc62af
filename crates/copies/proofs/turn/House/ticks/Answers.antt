use Rattle.std.proofs.Common.{◌<◌, ◌^◌, ap, sym, ◌∙◌, arith}
use Rattle.copies.specs.Copy.{Turn}
use Rattle.copies.specs.Views.{the_agreeing, the_memory, the_turn}
use Rattle.copies.specs.declared.turn.House.{House}
use Rattle.copies.proofs.Ready.{ready_counter, tick_counter}
use Rattle.copies.proofs.turn.House.ticks.Goals as goal

pub going_on-requires : goal.going_on-requires
going_on-requires g c =
    let after = ap (λ (t : Turn g.row.X.Denot g.row.B.Denot g.row.C.Denot g.row.A.Denot). t.memory.counter) (c.noting-turn.ensures.value ∙ c.on_tick.ensures) ∙ tick_counter (the_turn c.begins.result) in
    let before = ap (λ (h : House g.row.C.Denot g.row.A.Denot). h.memory.number.counter) c.begins.ensures.same in
    let room : c.args.self.memory.number.counter < 2 ^ 62 = ready_counter (the_agreeing c.args.self.agreeing) (the_memory c.args.self.memory) (sym c.if-not-is_ready.ensures) in
    omega (arith, after, before, room)
