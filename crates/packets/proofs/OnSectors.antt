-- Bytes that were laid on sectors are found again: the sectors put together are the bytes and zeros behind them.
use Rattle.std.proofs.Common.{◌≡◌, ℕ, zero, suc, ◌-◌, ◌+◌, ◌*◌, ◌^◌, ◌≤◌, ◌<◌, true, T, eqb, [], ◌∷◌, ◌++◌, length, take, drop, min, Ok, refl, sym, ap, ap₂, inl, inr, ◌∙◌, append_assoc, append-nil, arith, length-append, length-drop, length-take, take-append-drop, lt→ltb}
use Rattle.std.specs.List.{flat_map, list_all}
use Rattle.std.proofs.lemmas.Grind.{flat_map-append}
use Rattle.std.proofs.lemmas.List.{take_all, drop_all}
use Rattle.std.proofs.lemmas.Bool.{cases_lt}
use Rattle.disks.specs.Device.{zeros}
use Rattle.octets.specs.Numbers.{bytes_of}
use Rattle.octets.proofs.Numbers.{length-bytes_of}
use Rattle.packets.specs.Formats.{Bytes, Sectors}
use Rattle.packets.specs.Areas.{sectors_for, padded, cut, with_length, to_sectors, from_sectors, SectorsSound}
use Rattle.packets.proofs.Blocks.{length-zeros}
use Rattle.packets.proofs.Sounds.{number_sound, text_back}

drop-zeros : (n k : ℕ) → drop k (zeros n) ≡ zeros (n - k)
unfolding zeros
drop-zeros n zero = ap zeros (omega arith)
drop-zeros zero (suc k) = let none : 0 ≡ 0 - suc k = omega arith in ap zeros none
drop-zeros (suc n) (suc k) = drop-zeros n k ∙ ap zeros (omega arith)

long : (bs : Bytes) → length (padded (take 512 bs)) ≡ 512
long bs = rw length-append (omega (arith, length-take 512 bs, length-zeros (512 - length (take 512 bs))))

cut_whole : (n : ℕ) (bs : Bytes) → T (list_all (λ (s : Bytes). eqb (length s) 512) (cut n bs))
unfolding cut
cut_whole zero bs = tt
cut_whole (suc n) bs = let e : eqb (length (padded (take 512 bs))) 512 ≡ true = rw (long bs) refl in rw e (cut_whole n (drop 512 bs))

cut_count : (n : ℕ) (bs : Bytes) → length (cut n bs) ≡ n
unfolding cut
cut_count zero bs = refl
cut_count (suc n) bs = ap suc (cut_count n (drop 512 bs))

zeros-append : (m k : ℕ) → zeros m ++ zeros k ≡ zeros (m + k)
unfolding zeros
zeros-append zero k = ap zeros (omega arith)
zeros-append (suc m) k = let more : suc (m + k) ≡ suc m + k = omega arith in ap (λ (xs : Bytes). 0 ∷ xs) (zeros-append m k) ∙ ap zeros more

joined_full : (bs others : Bytes) (k : ℕ) → 512 ≤ length bs → others ≡ drop 512 bs ++ zeros k → padded (take 512 bs) ++ others ≡ bs ++ zeros k
unfolding zeros
joined_full bs others k le e =
    let none : 512 - length (take 512 bs) ≡ 0 = omega (arith, length-take 512 bs) in
    ap (λ (m : ℕ). (take 512 bs ++ zeros m) ++ others) none ∙ ap (λ (xs : Bytes). xs ++ others) (append-nil (take 512 bs)) ∙ ap (λ (ys : Bytes). take 512 bs ++ ys) e ∙ sym (append_assoc (take 512 bs) (drop 512 bs) (zeros k))
    ∙ ap (λ (xs : Bytes). xs ++ zeros k) (take-append-drop 512 bs)

joined_short : (bs others : Bytes) (k : ℕ) → length bs < 512 → others ≡ drop 512 bs ++ zeros k → padded (take 512 bs) ++ others ≡ bs ++ zeros ((512 - length bs) + k)
joined_short bs others k lt e =
    let all : take 512 bs ≡ bs = take_all 512 bs (omega arith) in
    let none : drop 512 bs ≡ [] = drop_all 512 bs (omega arith) in
    ap (λ (xs : Bytes). padded xs ++ others) all ∙ ap (λ (ys : Bytes). padded bs ++ ys) (e ∙ ap (λ (xs : Bytes). xs ++ zeros k) none) ∙ append_assoc bs (zeros (512 - length bs)) (zeros k) ∙ ap (λ (ys : Bytes). bs ++ ys) (zeros-append (512 - length bs) k)

joined_more : (bs others : Bytes) (k : ℕ) → others ≡ drop 512 bs ++ zeros k → (m : ℕ) × (padded (take 512 bs) ++ others ≡ bs ++ zeros m)
joined_more bs others k e = elim (cases_lt (length bs) 512) [ inl lt ↦ ((512 - length bs) + k, joined_short bs others k lt e) | inr le ↦ (k, joined_full bs others k le e) ]

-- put together again, with zeros behind
cut_joined : (n : ℕ) (bs : Bytes) → length bs ≤ 512 * n → (k : ℕ) × (flat_map (λ (s : Bytes). s) (cut n bs) ≡ bs ++ zeros k)
unfolding cut zeros
cut_joined zero [] h = (0, refl)
cut_joined zero (b ∷ bs) h = absurd (omega arith)
cut_joined (suc n) bs h =
    let others = cut_joined n (drop 512 bs) (omega (arith, length-drop 512 bs)) in
    joined_more bs (flat_map (λ (s : Bytes). s) (cut n (drop 512 bs))) others.0 others.1

sector_back : (bs : Bytes) (more : Sectors) → length bs < 2 ^ 64 → from_sectors (to_sectors bs ++ more) ≡ Ok bs
sector_back bs more small =
    let whole = with_length bs in
    let size = length-append (bytes_of 8 (length bs)) bs in
    let fits : length whole ≤ 512 * sectors_for (length whole) = omega arith in
    let c = cut_joined (sectors_for (length whole)) whole fits in
    let all : flat_map (λ (s : Bytes). s) (to_sectors bs ++ more) ≡ bytes_of 8 (length bs) ++ (bs ++ (zeros c.0 ++ flat_map (λ (s : Bytes). s) more)) =
    flat_map-append (λ (s : Bytes). s) (to_sectors bs) more ∙ ap (λ (xs : Bytes). xs ++ flat_map (λ (s : Bytes). s) more) c.1 ∙ append_assoc whole (zeros c.0) (flat_map (λ (s : Bytes). s) more)
    ∙ append_assoc (bytes_of 8 (length bs)) bs (zeros c.0 ++ flat_map (λ (s : Bytes). s) more) in
    rw (all, (number_sound 8).back (length bs) (bs ++ (zeros c.0 ++ flat_map (λ (s : Bytes). s) more)) (lt→ltb _ _ small), text_back bs (zeros c.0 ++ flat_map (λ (s : Bytes). s) more) (length bs) refl) refl

pub sectors_sound : SectorsSound
sectors_sound = record {
  back = sector_back;
  whole = λ bs. cut_whole (sectors_for (length (with_length bs))) (with_length bs);
  count = λ bs. cut_count (sectors_for (length (with_length bs))) (with_length bs) ∙ ap sectors_for (length-append (bytes_of 8 (length bs)) bs ∙ omega (arith, length-bytes_of 8 (length bs)));
}

-- the first sector, as it is written over a blank one, and what is left
take_least : (bs : Bytes) (n : ℕ) → n ≡ min (length bs) 512 → take n bs ≡ take 512 bs
take_least bs n e =
    elim (cases_lt (length bs) 512) [
      | inl lt ↦ take_all n bs (omega arith) ∙ sym (take_all 512 bs (omega arith))
      | inr le ↦ let is : n ≡ 512 = omega arith in ap (λ (m : ℕ). take m bs) is
    ]

pub padded_is : (bs : Bytes) (n : ℕ) → n ≡ min (length bs) 512 → take n bs ++ drop n (zeros 512) ≡ padded (take 512 bs)
padded_is bs n e =
    let left : 512 - n ≡ 512 - length (take 512 bs) = omega (arith, length-take 512 bs) in
    ap₂ (λ (xs ys : Bytes). xs ++ ys) (take_least bs n e) (drop-zeros 512 n ∙ ap zeros left)

pub others_are : (bs : Bytes) (n : ℕ) → n ≡ min (length bs) 512 → take (length bs - n) (drop n bs) ≡ drop 512 bs
others_are bs n e =
    take_all (length bs - n) (drop n bs) (omega (arith, length-drop n bs)) ∙
    elim (cases_lt (length bs) 512) as (λ u. drop n bs ≡ drop 512 bs) [
      | inl lt ↦ drop_all n bs (omega arith) ∙ sym (drop_all 512 bs (omega arith))
      | inr le ↦ let is : n ≡ 512 = omega arith in ap (λ (m : ℕ). drop m bs) is
    ]

-- ---- cutting, one sector after the other

pub cut_on : (front : Sectors) (count i : ℕ) (bs : Bytes) (total : Sectors) → i < count → front ++ cut (count - i) bs ≡ total → (front ++ padded (take 512 bs) ∷ []) ++ cut (count - (i + 1)) (drop 512 bs) ≡ total
unfolding cut
cut_on front count i bs total lt e =
    let k : count - i ≡ suc (count - (i + 1)) = omega arith in
    append_assoc front (padded (take 512 bs) ∷ []) (cut (count - (i + 1)) (drop 512 bs)) ∙ (rw k at e)

pub cut_done : (front : Sectors) (count i : ℕ) (bs : Bytes) (total : Sectors) → count ≤ i → front ++ cut (count - i) bs ≡ total → front ≡ total
unfolding cut
cut_done front count i bs total le e = let k : count - i ≡ 0 = omega arith in sym (append-nil front) ∙ (rw k at e)
