use Rattle.std.proofs.Common.{◌≡◌, arith}
use Rattle.packets.proofs.Blocks.{eight_read}
use Rattle.packets.proofs.sectors.BlockBytes.take.Goals as goal

pub invariant_of-result : goal.invariant_of-result
invariant_of-result c =
    let read = eight_read 8 c.in_ok-mask.mask c.in_ok-mask.rest.now c.in_ok-sectors.sectors.items c.in_ok-sectors.rest.now c.in_ok-sectors.ensures in
    let long : c.in_ok-sectors.sectors.len ≡ 8 = omega (arith, read, c.in_ok-sectors.sectors.ok) in
    record { eight = long }
