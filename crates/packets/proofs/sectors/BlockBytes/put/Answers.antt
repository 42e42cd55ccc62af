use Rattle.std.proofs.Common.{◌≡◌, ◌++◌, List, ℕ, length, ap, ◌∙◌, arith}
use Rattle.packets.specs.Formats.{block, mask_of, held_of}
use Rattle.packets.proofs.Blocks.{block_put}
use Rattle.packets.proofs.sectors.BlockBytes.put.Goals as goal

pub returns : goal.returns
unfolding block
returns c =
    let e = c.in_ok-put.ensures in
    let f = c.in_ok-put_held.ensures in
    let long : length c.args.self.now.sectors.items ≡ 8 = omega (arith, c.args.self.now.sectors.ok, c.args.self.now.eight) in
    let full = rw c.deref-2.ensures.value at f.full in
    block_put c.args.self.now.sectors.items c.mask.result c.args.out.now.items c.put.new.out.items c.put_held.new.out.items (c.mask.ensures.is ∙ ap mask_of c.deref.ensures.value) e.0
    (f.done ∙ ap (λ (ss : List (List ℕ)). c.put.new.out.items ++ held_of ss) c.deref-2.ensures.value) long full
