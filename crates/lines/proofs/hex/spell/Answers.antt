use Rattle.std.proofs.Common.{◌*◌, length, take, arith, rules, sym, subst}
use Rattle.std.specs.Str.{IsUtf8}
use Rattle.std.proofs.lemmas.Str.{IsUtf8-from_ascii}
use Rattle.lines.specs.Hexes.{hex_of}
use Rattle.lines.proofs.Steps.{spelled_more, spelled_all, hex_ascii}
use Rattle.lines.proofs.hex.spell.Goals as goal

pub loop-i-preserved : goal.loop-i-preserved
loop-i-preserved c =
    spelled_more c.args.bytes.now c.loop-i.room c.loop-i.i c.digit.result c.digit-in-loop-i.result c.loop-i-test.true (omega (arith, c.requires, c.loop-i.auto.room)) c.digit.ensures c.digit-in-loop-i.ensures c.loop-i.invariant

pub unwrap-requires : goal.unwrap-requires
unwrap-requires c =
    let text = spelled_all c.args.bytes.now c.loop-i.room c.loop-i.i c.loop-i-test.false c.loop-i.auto.i-end c.loop-i.invariant in
    let digits = IsUtf8-from_ascii (hex_of c.args.bytes.now) (hex_ascii c.args.bytes.now (search rules)) in
    let valid : IsUtf8 (take (2 * length c.args.bytes.now) c.loop-i.room) = subst IsUtf8 (sym text) digits in
    search (rules, valid)

pub returns : goal.returns
returns c =
    let text = spelled_all c.args.bytes.now c.loop-i.room c.loop-i.i c.loop-i-test.false c.loop-i.auto.i-end c.loop-i.invariant in
    search (rules, text)
