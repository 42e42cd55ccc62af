use Rattle.std.proofs.Common.{◌*◌, ◌+◌, ◌-◌, ◌≡◌, ℕ, take, drop, arith, sym, ap, ◌∙◌}
use Rattle.std.proofs.lemmas.List.{take_all, length-set}
use Rattle.octets.specs.Numbers.{big}
use Rattle.pieces.specs.Entries.{places_in}
use Rattle.pieces.proofs.Bytes.{place_read}
use Rattle.pieces.proofs.entry.read_places.Goals as goal

pub loop-i-preserved : goal.loop-i-preserved
loop-i-preserved c =
    let i = c.loop-i.i in
    let five : 5 * i + 5 - 5 * i ≡ 5 = omega arith in
    record {
      long = length-set c.loop-i.places i c.read_five.result ∙ c.loop-i.invariant.long;
      read = place_read i c.read_five.result c.args.bytes.now c.loop-i.places (omega arith) c.loop-i.invariant.read (c.read_five.ensures ∙ ap (λ (k : ℕ). big (take k (drop (5 * i) c.args.bytes.now))) five);
    }

pub returns : goal.returns
returns c =
    let e : c.loop-i.i ≡ 8 = omega arith in
    sym (take_all c.loop-i.i c.loop-i.places (omega arith)) ∙ c.loop-i.invariant.read ∙ ap (λ (k : ℕ). places_in k c.args.bytes.now) e
