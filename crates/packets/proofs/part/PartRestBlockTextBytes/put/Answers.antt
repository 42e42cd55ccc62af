use Rattle.std.proofs.Common.{◌≡◌, ℕ, Bool, T, List, ◌++◌, map, subst}
use Rattle.copies.specs.declared.message.Stamped.{Stamped as StampedHad}
use Rattle.copies.specs.Views.{the_want}
use Rattle.packets.specs.declared.block.Block.{Block}
use Rattle.packets.specs.Codecs.{◌then◌, number, listed}
use Rattle.packets.specs.Formats.{StampedBlock, PartEnd, want, flag, stamped, part_end, part}
use Rattle.packets.specs.Seen.{see_stamped, see_end}
use Rattle.packets.proofs.Puts.{puts_then}
use Rattle.packets.proofs.part.PartRestBlockTextBytes.put.Goals as goal

pub returns : goal.returns
unfolding part
returns c =
    let p = c.args.self.now in
    let t6 = listed 2 4096 stamped then part_end in
    let t5 = number 8 then t6 in
    let t4 = flag then t5 in
    let t3 = number 8 then t4 in
    let t2 = number 8 then t3 in
    let t1 = number 8 then t2 in
    let v6 : List StampedBlock × PartEnd = (map see_stamped p.blocks.items, see_end p.tail) in
    let v5 : ℕ × (List StampedBlock × PartEnd) = (p.floor.0, v6) in
    let v4 : Bool × (ℕ × (List StampedBlock × PartEnd)) = (p.whole, v5) in
    let v3 : ℕ × (Bool × (ℕ × (List StampedBlock × PartEnd))) = (p.last.0, v4) in
    let v2 : ℕ × (ℕ × (Bool × (ℕ × (List StampedBlock × PartEnd)))) = (p.version.0, v3) in
    let v1 : ℕ × (ℕ × (ℕ × (Bool × (ℕ × (List StampedBlock × PartEnd))))) = (p.promised.0, v2) in
    let Put : List (StampedHad Block) → Type 0 = λ bs. (c.put_many.new.out.items ≡ c.put-6.new.out.items ++ (listed 2 4096 stamped).bytes (map see_stamped bs)) × T ((listed 2 4096 stamped).fits (map see_stamped bs)) in
    let many = subst Put c.deref.ensures.value c.in_ok-put_many.ensures in
    puts_then want t1 (the_want p.asked) v1 _ _ _ _ c.in_ok-put.ensures
    (puts_then (number 8) t2 p.promised.0 v2 _ _ _ _ c.in_ok-put-2.ensures
    (puts_then (number 8) t3 p.version.0 v3 _ _ _ _ c.in_ok-put-3.ensures
    (puts_then (number 8) t4 p.last.0 v4 _ _ _ _ c.in_ok-put-4.ensures
    (puts_then flag t5 p.whole v5 _ _ _ _ c.in_ok-put-5.ensures
    (puts_then (number 8) t6 p.floor.0 v6 _ _ _ _ c.in_ok-put-6.ensures (puts_then (listed 2 4096 stamped) part_end (map see_stamped p.blocks.items) (see_end p.tail) _ _ _ _ many c.put-7.ensures))))))
