use Rattle.std.proofs.Common.{◌∙◌, ◌+◌, ◌*◌, ◌≡◌, ◌∷◌, [], ◌++◌, length, ap, sym, arith, rules, List, ℕ}
use Rattle.std.specs.List.{flat_map}
use Rattle.std.proofs.lemmas.List.{take_all}
use Rattle.octets.specs.Numbers.{numbers_bytes}
use Rattle.octets.proofs.Numbers.{eight_bytes}
use Rattle.pieces.specs.Entries.{entry_bytes, five_bytes}
use Rattle.pieces.proofs.Bytes.{three_laid, place_laid}
use Rattle.pieces.proofs.entry.Entry.fill.Goals as goal

pub loop-i-init : goal.loop-i-init
loop-i-init c =
    let e = c.args.self.now in
    three_laid e.volume.0 e.block.0 e.stamp.0 _ _ _ c.args.out.now c.requires (cc (c.copy_from_slice.ensures.after, c.to_be_bytes.ensures, eight_bytes e.volume.0)) (cc (c.copy_from_slice-2.ensures.after, c.to_be_bytes-2.ensures, eight_bytes e.block.0))
    (cc (c.copy_from_slice-3.ensures.after, c.to_be_bytes-3.ensures, eight_bytes e.stamp.0))

pub loop-i-preserved : goal.loop-i-preserved
loop-i-preserved c =
    let e = c.args.self.now in
    let z = c.type_inv.self in
    place_laid c.loop-i.i _ (numbers_bytes (e.volume.0 ∷ e.block.0 ∷ e.stamp.0 ∷ [])) e.places c.loop-i.out c.put_five.new.out c.loop-i.invariant (omega arith) (search rules) (search rules) (omega arith) c.put_five.ensures

pub returns : goal.returns
unfolding entry_bytes
returns c =
    let e = c.args.self.now in
    let all : length e.places ≡ 8 = search rules in
    let end : 24 + 5 * c.loop-i.i ≡ 64 = omega arith in
    sym (take_all (24 + 5 * c.loop-i.i) c.loop-i.out (omega arith)) ∙ c.loop-i.invariant ∙ ap (λ (ps : List ℕ). numbers_bytes (e.volume.0 ∷ e.block.0 ∷ e.stamp.0 ∷ []) ++ flat_map five_bytes ps) (take_all c.loop-i.i e.places (omega arith))
