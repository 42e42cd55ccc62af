use Rattle.std.proofs.Common.{◌≡◌, ℕ, ◌%◌, List, length, set, rules, refl, ap, ◌∙◌, length-set}
use Rattle.std.proofs.lemmas.List.{with_items_is}
use Rattle.pieces.proofs.Slots.{put_as, absent_as}
use Rattle.pieces.proofs.table.Table.put_there.Goals as goal

pub returns-in-Some-clause-some : goal.returns-in-Some-clause-some
returns-in-Some-clause-some c = λ h.
    let old = c.index_mut.result.now in
    let same : length c.put_word.new.words ≡ length c.as_mut_slice.result.now = ap length c.put_word.ensures ∙ length-set c.as_mut_slice.result.now _ _ in
    put_as _ c.args.volume.0 c.args.block.0 c.number_of.result c.args.word c.in-Some.at _ c.index_mut.result.now c.number_of.ensures (search rules) c.index_mut.ensures.value refl refl
    (with_items_is c.index_mut.result.now.words c.put_word.new.words (same ∙ c.as_mut_slice.ensures.len) ∙ c.put_word.ensures ∙ ap (λ (ws : List ℕ). set ws (c.args.block.0 % 1024) c.args.word) c.as_mut_slice.ensures.value) (search rules)

pub returns-in_default-clause-none : goal.returns-in_default-clause-none
returns-in_default-clause-none c = absent_as _ c.args.volume.0 c.args.block.0
