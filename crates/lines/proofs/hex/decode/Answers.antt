use Rattle.std.proofs.Common.{rules, Some, None, vec_items, sym, ap, ◌∙◌, arith}
use Rattle.lines.proofs.Steps.{behind, bytes_of, read_pairs, pair_more, behind-none, behind_more, behind_all, odd_none}
use Rattle.lines.proofs.hex.decode.Goals as goal

pub returns-then-not-is_empty : goal.returns-then-not-is_empty
returns-then-not-is_empty c = sym (odd_none c.args.text.now (search rules))

pub loop-high-init : goal.loop-high-init
loop-high-init c = behind-none _ (bytes_of c.as_chunks.result.0.now) c.new-out.ensures.items

pub returns-in_default : goal.returns-in_default
returns-in_default c =
    let read = pair_more c.as_chunks.result.0.now c.loop-high.high-index None (omega arith) (sym c.in_default.ensures) in
    sym (read_pairs c.args.text.now _ (search rules) c.as_chunks.ensures.front ∙ c.loop-high.invariant ∙ ap (behind (vec_items c.loop-high.out)) read)

pub loop-high-preserved : goal.loop-high-preserved
loop-high-preserved c =
    let read = pair_more c.as_chunks.result.0.now c.loop-high.high-index (Some c.in-Some.b) (omega arith) (sym c.in-Some.ensures) in
    c.loop-high.invariant ∙ ap (behind (vec_items c.loop-high.out)) read ∙ behind_more (vec_items c.loop-high.out) (vec_items c.push.new.self) c.in-Some.b _ c.in_ok-push.ensures.items

pub returns : goal.returns
returns c =
    sym (read_pairs c.args.text.now _ (search rules) c.as_chunks.ensures.front ∙ c.loop-high.invariant ∙ behind_all c.as_chunks.result.0.now (vec_items c.loop-high.out) c.loop-high.high-index (omega arith))
