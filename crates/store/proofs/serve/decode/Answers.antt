use Rattle.std.proofs.Common.{sym, ◌∙◌}
use Rattle.served.proofs.Decoding.{bytes_decoded, bytes_fit}
use Rattle.store.proofs.serve.decode.Goals as goal

pub returns : goal.returns
returns c = c.decode.ensures.value ∙ sym (bytes_decoded c.args.bytes.now (bytes_fit c.args.bytes.now c.type_inv.bytes))
