use Rattle.std.proofs.Common.{◌≡◌, ◌∷◌, [], ◌++◌, ◌+◌, ◌*◌, ◌<◌, length, take, drop, List, ℕ, ap, sym, ◌∙◌, arith, add-one, slice_set}
use Rattle.std.proofs.lemmas.List.{take_more_set, drop-drop}
use Rattle.octets.specs.Numbers.{fields, big}
use Rattle.octets.proofs.Fields.{fields_more}
use Rattle.octets.proofs.reader.fill.Goals as goal

-- one number more was read
one_more : (i n : ℕ) (bs out rest : List ℕ) → i < length out → take i out ≡ fields i bs → rest ≡ drop (8 * i) bs → n ≡ big (take 8 rest) → take (i + 1) (slice_set out i n) ≡ fields (i + 1) bs
one_more i n bs out rest inside held at read =
    take_more_set out i n inside ∙ ap (λ (xs : List ℕ). xs ++ n ∷ []) held ∙ ap (λ (m : ℕ). fields i bs ++ m ∷ []) (read ∙ ap (λ (xs : List ℕ). big (take 8 xs)) at) ∙ sym (rw add-one (fields_more i bs))

pub loop-slot-preserved : goal.loop-slot-preserved
loop-slot-preserved c =
    let i = c.loop-slot.slot-index in
    let held = c.loop-slot.invariant in
    let e = c.in_ok-n.ensures in
    let further : 8 * i + 8 ≡ 8 * (i + 1) = omega arith in
    record {
      read = one_more i _ c.args.bytes.now c.loop-slot.out c.loop-slot.rest.now (omega (arith, c.loop-slot.auto.out, c.loop-slot-test.true)) held.read held.behind.0 e.0;
      behind = (e.1.0 ∙ ap (drop 8) held.behind.0 ∙ drop-drop 8 (8 * i) _ ∙ ap (λ (k : ℕ). drop k c.args.bytes.now) further, omega (arith, e.1.1, held.behind.1));
    }
