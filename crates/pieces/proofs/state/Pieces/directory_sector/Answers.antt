use Rattle.std.proofs.Common.{◌≡◌, ◌+◌, ◌*◌, ◌-◌, ◌++◌, ◌<◌, ℕ, length, take, drop, replicate, ap, sym, ◌∙◌, arith, rules, vec_items}
use Rattle.std.specs.List.{flat_map}
use Rattle.std.proofs.lemmas.List.{take_all}
use Rattle.disks.specs.Device.{zeros}
use Rattle.octets.specs.Numbers.{bytes_of}
use Rattle.octets.proofs.Numbers.{eight_bytes, length-bytes_of}
use Rattle.pieces.specs.Entries.{entry_bytes}
use Rattle.pieces.proofs.Agreeing.{read_as}
use Rattle.pieces.proofs.Bytes.{long_mid}
use Rattle.pieces.proofs.Sectors.{front_laid, entry_laid}
use Rattle.pieces.proofs.state.Pieces.directory_sector.Goals as goal

pub loop-i-init : goal.loop-i-init
loop-i-init c =
    let g = c.args.generation.0 in
    let eight : c.copy_from_slice.new.self ≡ bytes_of 8 g = cc (c.copy_from_slice.ensures.after, c.to_be_bytes.ensures, eight_bytes g) in
    record { long = long_mid 0 8 (replicate 512 0) c.copy_from_slice.new.self (omega arith) (omega (arith, ap length eight, length-bytes_of 8 g)); laid = front_laid g c.copy_from_slice.new.self eight }

pub loop-i-preserved : goal.loop-i-preserved
loop-i-preserved c =
    let i = c.loop-i.i in
    let v = c.loop-i.invariant in
    let w : 64 + 64 * i + 64 - (64 + 64 * i) ≡ 64 = omega arith in
    let inside : 7 * c.args.number + i < length (vec_items c.args.self.now.entries) = search rules in
    let e = c.index.result.now in
    let whole : length c.fill.new.out ≡ 64 = omega arith in
    record {
      long = long_mid (64 + 64 * i) _ c.loop-i.sector c.fill.new.out (omega (arith, v.long)) (whole ∙ sym w) ∙ v.long;
      laid = entry_laid i (7 * c.args.number) _ (bytes_of 8 c.args.generation.0 ++ zeros 56) e (vec_items c.args.self.now.entries) c.loop-i.sector c.fill.new.out v.laid v.long (omega arith) inside (read_as (vec_items c.args.self.now.entries) (7 * c.args.number + i) e inside c.index.ensures) (whole ∙ sym w) w c.fill.ensures;
    }

pub returns : goal.returns
returns c =
    let e : c.loop-i.i ≡ 7 = omega arith in
    let v = c.loop-i.invariant in
    sym (take_all (64 + 64 * c.loop-i.i) c.loop-i.sector (omega (arith, v.long))) ∙ v.laid
    ∙ ap (λ (n : ℕ). (bytes_of 8 c.args.generation.0 ++ zeros 56) ++ flat_map entry_bytes (take n (drop (7 * c.args.number) (vec_items c.args.self.now.entries)))) e
