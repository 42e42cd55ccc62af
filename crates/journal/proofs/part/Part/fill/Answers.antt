use Rattle.octets.proofs.Numbers.{eight_bytes}
use Rattle.journal.specs.Format.{mark, part_bytes}
use Rattle.journal.proofs.Laid.{five_laid}
use Rattle.journal.proofs.part.Part.fill.Goals as goal

pub returns : goal.returns
unfolding part_bytes
returns c =
    let p = c.args.self.now in
    five_laid mark p.number p.index p.length p.target.0 _ _ _ _ _ _ c.args.half.now (cc (c.copy_from_slice.ensures.after, c.to_be_bytes.ensures, eight_bytes mark))
    (cc (c.copy_from_slice-2.ensures.after, c.to_be_bytes-2.ensures, eight_bytes p.number))
    (cc (c.copy_from_slice-3.ensures.after, c.to_be_bytes-3.ensures, eight_bytes p.index))
    (cc (c.copy_from_slice-4.ensures.after, c.to_be_bytes-4.ensures, eight_bytes p.length))
    (cc (c.copy_from_slice-5.ensures.after, c.to_be_bytes-5.ensures, eight_bytes p.target.0))
    c.copy_from_slice-6.ensures.after
