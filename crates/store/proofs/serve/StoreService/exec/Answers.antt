use Rattle.std.proofs.Common.{sym, ◌∙◌, ap}
use Rattle.wire.specs.Calls.{the_call, is_call}
use Rattle.wire.specs.Refusals.{refusal_number}
use Rattle.served.specs.Served.{decoded_call}
use Rattle.store.specs.Stores.{the_stored}
use Rattle.store.proofs.Serving.{as_said, refused_said}
use Rattle.store.proofs.serve.StoreService.exec.Goals as goal

pub returns-in-Ok : goal.returns-in-Ok
returns-in-Ok c =
    as_said c.args.call.now (is_call (the_call c.in-Ok.call)) (the_stored c.args.self.now) (the_stored c.plays.new.self) c.plays.result
    (c.in-Ok.ensures ∙ ap decoded_call (c.deref.ensures.value ∙ c.in_ok-own.ensures.items ∙ c.as_bytes.ensures)) c.plays.ensures

pub returns : goal.returns
returns c =
    refused_said c.args.call.now (refusal_number c.in-Err.refusal) (the_stored c.args.self.now) c.new.result c.in_ok-reply-in-Err.reply.items
    (c.in-Err.ensures ∙ ap decoded_call (c.deref.ensures.value ∙ c.in_ok-own.ensures.items ∙ c.as_bytes.ensures)) c.new.ensures c.in_ok-reply-in-Err.ensures.bytes
