use Rattle.std.proofs.Common.{sym, ap, ◌∙◌, map, subst}
use Rattle.volumes.specs.Service.{the_service}
use Rattle.pieces.specs.Replacing.{the_blocks}
use Rattle.store.specs.Stores.{the_held}
use Rattle.store.specs.Parts.{AreKeys, key_number, ordered, the_stamped}
use Rattle.store.proofs.Ranges.{takes_none, took_all}
use Rattle.store.proofs.store.Store.takes.Goals as goal

pub returns-then-not-is_in_order-clause-held : goal.returns-then-not-is_in_order-clause-held
returns-then-not-is_in_order-clause-held c k =
    takes_none (the_service c.args.self.now.volumes) c.args.whole c.args.from.0 (key_number c.args.next) c.args.floor.0 (map the_stamped c.args.blocks.items) (the_held c.args.self.now)
    (sym c.if-not-is_in_order.true ∙ c.is_in_order.ensures (subst AreKeys (sym c.deref.ensures.value) k.keys) ∙ ap (λ x. ordered c.args.from.0 (key_number c.args.next) (map the_stamped x)) c.deref.ensures.value)

pub returns-clause-held : goal.returns-clause-held
returns-clause-held c k =
    let r = c.range_of-range.ensures k.from_key k.next_key in
    took_all (the_service c.args.self.now.volumes) c.args.whole c.args.from.0 (key_number c.args.next) c.args.floor.0 (map the_stamped c.args.blocks.items) (the_held c.args.self.now) _ (the_blocks c.deref-2.result.now) c.range_of-range.result.from c.range_of-range.result.next c.fills.result
    (sym c.if-not-is_in_order.false ∙ c.is_in_order.ensures (subst AreKeys (sym c.deref.ensures.value) k.keys) ∙ ap (λ x. ordered c.args.from.0 (key_number c.args.next) (map the_stamped x)) c.deref.ensures.value)
    (ap (λ x. x.from) r) (ap (λ x. x.next) r) (ap the_blocks c.deref-2.ensures.value ∙ c.in_ok-filled.ensures k.keys) c.fills.ensures.held
