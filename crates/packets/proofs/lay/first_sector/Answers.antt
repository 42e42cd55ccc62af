use Rattle.std.proofs.Common.{◌≡◌, ℕ, List, ◌++◌, take, drop, ap, ◌∙◌, arith}
use Rattle.disks.specs.Device.{zeros}
use Rattle.packets.proofs.OnSectors.{padded_is}
use Rattle.packets.proofs.lay.first_sector.Goals as goal

pub returns : goal.returns
unfolding zeros
returns c =
    let copied : c.copy_from_slice.new.self ≡ take c.min-length.result c.args.bytes.now = grind arith in
    ap (λ (xs : List ℕ). xs ++ drop c.min-length.result (zeros 512)) copied ∙ padded_is c.args.bytes.now c.min-length.result c.min-length.ensures
