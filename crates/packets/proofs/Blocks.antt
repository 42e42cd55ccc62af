-- A block's mask and its sectors, one after the other as loops go, and that they are read as they were put.
use Rattle.std.proofs.Common.{◌≡◌, ℕ, zero, suc, ◌-◌, ◌+◌, ◌*◌, ◌/◌, ◌%◌, ◌^◌, ◌≤◌, ◌<◌, Bool, true, false, cond, not, ◌&&◌, T, eqb, [], ◌∷◌, ◌++◌, length, take, get_or, Result, Ok, Err, refl, sym, ap, ap₂, ◌∙◌, subst, append_assoc, append-nil, arith, pow-suc, eqb→eq, ltb→lt, lt→ltb}
use Rattle.std.proofs.Math.Nat.{pow-le-pow_right}
use Rattle.std.proofs.lemmas.List.{take_more}
use Rattle.std.proofs.lemmas.Bool.Decides.{nat_tests}
use Rattle.std.specs.List.{list_all}
use Rattle.disks.specs.Device.{zeros}
use Rattle.disks.specs.Disks.{all_zero, one}
use Rattle.octets.specs.Numbers.{bytes_of}
use Rattle.octets.proofs.Numbers.{both}
use Rattle.packets.specs.declared.fault.Fault.{Fault}
use Rattle.packets.specs.declared.fault.Fault.TheVariants.{Range}
use Rattle.packets.specs.declared.fault.Unread.{Unread}
use Rattle.packets.specs.declared.fault.Unread.TheVariants as unread
use Rattle.packets.specs.Codecs.{◌>>=◌, Fails, Sound, number_at, text_at}
use Rattle.packets.specs.Formats.{Bytes, Sectors, mask_of, held_of, sector_at, sectors_at, block}
use Rattle.packets.proofs.Loops.{with_front, regroup}
use Rattle.packets.proofs.Sounds.{bind_ok, guard_ok, ok_is, done, number_sound, text_back, text_takes}

pub pow_eight : (n : ℕ) → n ≤ 8 → 2 ^ n ≤ 256
pow_eight n h = pow-le-pow_right {n = 2} (omega arith) {i = n} {j = 8} h

pub pow_more : (n : ℕ) → 2 ^ suc n ≡ 2 * 2 ^ n
pow_more n = omega (arith, pow-suc 2 n)

pub held_more : (ss : Sectors) (s : Bytes) → held_of (ss ++ s ∷ []) ≡ held_of ss ++ cond (all_zero s) [] s
held_more [] s = append-nil (cond (all_zero s) [] s)
held_more (r ∷ ss) s = ap (λ (xs : Bytes). cond (all_zero r) [] r ++ xs) (held_more ss s) ∙ sym (append_assoc (cond (all_zero r) [] r) (held_of ss) (cond (all_zero s) [] s))

pub sectors_on : (front : Sectors) (count i mask : ℕ) (bytes : Bytes) (s : Bytes) (after : Bytes) (total : Result (Sectors × Bytes) Fault) → i < count → sector_at (eqb (mask % 2) 1) bytes ≡ Ok (s, after)
    → with_front front (sectors_at (count - i) mask bytes) ≡ total → with_front (front ++ s ∷ []) (sectors_at (count - (i + 1)) (mask / 2) after) ≡ total
unfolding sectors_at
sectors_on front count i mask bytes s after total lt h so_far =
    let k : count - i ≡ suc (count - (i + 1)) = omega arith in
    let one_more : with_front front (sectors_at (count - i) mask bytes) ≡ with_front (front ++ s ∷ []) (sectors_at (count - (i + 1)) (mask / 2) after) = rw (k, h) (regroup front s (sectors_at (count - (i + 1)) (mask / 2) after)) in
    sym one_more ∙ so_far

pub sectors_end : (e : Unread) (front : Sectors) (count i mask : ℕ) (bytes : Bytes) (total : Result (Sectors × Bytes) Fault) → i < count → Fails e (sector_at (eqb (mask % 2) 1) bytes)
    → with_front front (sectors_at (count - i) mask bytes) ≡ total → Fails e total
unfolding sectors_at
sectors_end unread.Memory front count i mask bytes total lt h so_far = tt
sectors_end (unread.Fault f) front count i mask bytes total lt h so_far =
    let k : count - i ≡ suc (count - (i + 1)) = omega arith in
    let ended : with_front front (sectors_at (count - i) mask bytes) ≡ Err f = rw (k, h) refl in
    sym so_far ∙ ended

pub sectors_done : (front : Sectors) (count i mask : ℕ) (bytes : Bytes) (total : Result (Sectors × Bytes) Fault) → count ≤ i → with_front front (sectors_at (count - i) mask bytes) ≡ total → total ≡ Ok (front, bytes)
unfolding sectors_at
sectors_done front count i mask bytes total le so_far =
    let k : count - i ≡ 0 = omega arith in
    let ended : with_front front (sectors_at (count - i) mask bytes) ≡ Ok (front, bytes) = rw k (ap (λ (ss : Sectors). Ok (ss, bytes)) (append-nil front)) in
    sym so_far ∙ ended

pub eight_read : (n mask : ℕ) (bs : Bytes) (ss : Sectors) (rest : Bytes) → sectors_at n mask bs ≡ Ok (ss, rest) → length ss ≡ n
unfolding sectors_at
eight_read zero mask bs ss rest e = ap (λ (x : Sectors × Bytes). length x.0) (sym (ok_is ([], bs) (ss, rest) e))
eight_read (suc n) mask bs ss rest e =
    let a = bind_ok (sector_at (eqb (mask % 2) 1) bs) (λ s. sectors_at n (mask / 2) s.1 >>= λ rs. Ok (s.0 ∷ rs.0, rs.1)) (ss, rest) e in
    let b = bind_ok (sectors_at n (mask / 2) a.0.1) (λ rs. Ok (a.0.0 ∷ rs.0, rs.1)) (ss, rest) a.2 in
    sym (ap (λ (x : Sectors × Bytes). length x.0) (ok_is (a.0.0 ∷ b.0.0, b.0.1) (ss, rest) b.2)) ∙ ap suc (eight_read n (mask / 2) a.0.1 b.0.0 b.0.1 b.1)

pub held_put : (ss : Sectors) (i : ℕ) (old out new : Bytes) → i < length ss → all_zero (get_or ss i []) ≡ false → out ≡ old ++ held_of (take i ss) → new ≡ out ++ get_or ss i [] → new ≡ old ++ held_of (take (i + 1) ss)
held_put ss i old out new lt held e f =
    let s = get_or ss i [] in
    let more : held_of (take (i + 1) ss) ≡ held_of (take i ss) ++ s = ap held_of (take_more ss i [] lt) ∙ held_more (take i ss) (get_or ss i []) ∙ rw held refl in
    f ∙ ap (λ (xs : Bytes). xs ++ s) e ∙ append_assoc old (held_of (take i ss)) s ∙ ap (λ (xs : Bytes). old ++ xs) (sym more)

pub held_skipped : (ss : Sectors) (i : ℕ) (old out : Bytes) → i < length ss → all_zero (get_or ss i []) ≡ true → out ≡ old ++ held_of (take i ss) → out ≡ old ++ held_of (take (i + 1) ss)
held_skipped ss i old out lt held e =
    let more : held_of (take (i + 1) ss) ≡ held_of (take i ss) = ap held_of (take_more ss i [] lt) ∙ held_more (take i ss) (get_or ss i []) ∙ rw held (append-nil (held_of (take i ss))) in
    e ∙ ap (λ (xs : Bytes). old ++ xs) (sym more)

pub block_put : (ss : Sectors) (m : ℕ) (old mid new : Bytes) → m ≡ mask_of ss → mid ≡ old ++ bytes_of 1 m → new ≡ mid ++ held_of ss → length ss ≡ 8 → T (list_all (λ (s : Bytes). eqb (length s) 512) ss)
    → (new ≡ old ++ (bytes_of 1 (mask_of ss) ++ held_of ss)) × T (eqb (length ss) 8 && list_all (λ (s : Bytes). eqb (length s) 512) ss)
block_put ss m old mid new is e f long full =
    let eight : eqb (length ss) 8 ≡ true = rw long refl in
    (f ∙ ap (λ (xs : Bytes). xs ++ held_of ss) (e ∙ ap (λ (k : ℕ). old ++ bytes_of 1 k) is) ∙ append_assoc old (bytes_of 1 (mask_of ss)) (held_of ss), rw eight full)

-- sectors have 512 bytes each
pub all_full : (ss : Sectors) → ((i : ℕ) → i < length ss → length (get_or ss i []) ≡ 512) → T (list_all (λ (s : Bytes). eqb (length s) 512) ss)
all_full [] h = tt
all_full (s ∷ ss) h =
    let first : eqb (length s) 512 ≡ true = rw (h 0 (omega arith)) refl in
    rw first (all_full ss (λ i lt. h (suc i) (omega arith)))

-- ---- a block is read as it was put

pub are_zeros : (n : ℕ) → all_zero (zeros n) ≡ true
unfolding all_zero zeros
are_zeros zero = refl
are_zeros (suc n) = are_zeros n

pub length-zeros : (n : ℕ) → length (zeros n) ≡ n
unfolding zeros
length-zeros zero = refl
length-zeros (suc n) = ap suc (length-zeros n)

all_zeros : (s : Bytes) → all_zero s ≡ true → s ≡ zeros (length s)
unfolding all_zero zeros
all_zeros [] h = refl
all_zeros (b ∷ bs) h =
    let p = and_both (eqb b 0) (all_zero bs) h in
    ap₂ (λ (x : ℕ) (xs : Bytes). x ∷ xs) (eqb→eq b 0 (rw p.0 tt)) (all_zeros bs p.1)
  where
    and_both : (x y : Bool) → (x && y) ≡ true → (x ≡ true) × (y ≡ true)
    and_both true y e = (refl, e)
    and_both false y e = absurd cc

step_small : (b : Bool) (m n : ℕ) → m < 2 ^ n → one b + 2 * m < 2 ^ suc n
unfolding one
step_small true m n h = omega (arith, pow_more n)
step_small false m n h = omega (arith, pow_more n)

mask_small : (ss : Sectors) → mask_of ss < 2 ^ length ss
mask_small [] = omega arith
mask_small (s ∷ ss) = step_small (not (all_zero s)) (mask_of ss) (length ss) (mask_small ss)

-- the lowest bit, and the others
bit_is : (b : Bool) (m : ℕ) → eqb ((one b + 2 * m) % 2) 1 ≡ b
unfolding one
bit_is true m = let e : (1 + 2 * m) % 2 ≡ 1 = omega arith in rw e refl
bit_is false m = let e : (0 + 2 * m) % 2 ≡ 0 = omega arith in rw e refl

bits_are : (b : Bool) (m : ℕ) → (one b + 2 * m) / 2 ≡ m
unfolding one
bits_are true m = omega arith
bits_are false m = omega arith

mask_is : (b : Bool) (mask m : ℕ) → eqb (mask % 2) 1 ≡ b → mask / 2 ≡ m → one b + 2 * m ≡ mask
unfolding one
mask_is true mask m e f = let g : mask % 2 ≡ 1 = eqb→eq (mask % 2) 1 (rw e tt) in omega arith
mask_is false mask m e f = grind (arith, nat_tests)

sector_back : (s more : Bytes) → length s ≡ 512 → sector_at (not (all_zero s)) (cond (all_zero s) [] s ++ more) ≡ Ok (s, more)
sector_back s more long = go (all_zero s) refl
  where
    go : (b : Bool) → all_zero s ≡ b → sector_at (not b) (cond b [] s ++ more) ≡ Ok (s, more)
    go true e = ap (λ (xs : Bytes). Ok (xs, more)) (ap zeros (sym long) ∙ sym (all_zeros s e))
    go false e = rw (text_back s more 512 long, e) refl

sectors_back : (ss : Sectors) (more : Bytes) → T (list_all (λ (s : Bytes). eqb (length s) 512) ss) → sectors_at (length ss) (mask_of ss) (held_of ss ++ more) ≡ Ok (ss, more)
unfolding sectors_at
sectors_back [] more h = refl
sectors_back (s ∷ ss) more h =
    let k = both (eqb (length s) 512) (list_all (λ (r : Bytes). eqb (length r) 512) ss) h in
    rw (append_assoc (cond (all_zero s) [] s) (held_of ss) more, bit_is (not (all_zero s)) (mask_of ss), bits_are (not (all_zero s)) (mask_of ss), sector_back s (held_of ss ++ more) (eqb→eq (length s) 512 k.0), sectors_back ss more k.1) refl

sector_takes : (b : Bool) (bs s more : Bytes) → sector_at b bs ≡ Ok (s, more) → (cond (all_zero s) [] s ++ more ≡ bs) × (not (all_zero s) ≡ b) × (length s ≡ 512)
sector_takes true bs s more e =
    let a = bind_ok (text_at 512 bs) (λ r. cond (all_zero r.0) (Err Range) (Ok (r.0, r.1))) (s, more) e in
    let g = guard_ok (all_zero a.0.0) Range (done (a.0.0, a.0.1)) (s, more) a.2 in
    let t = text_takes 512 bs a.0.0 a.0.1 a.1 in
    subst (λ (z : Bytes × Bytes). (cond (all_zero z.0) [] z.0 ++ z.1 ≡ bs) × (not (all_zero z.0) ≡ true) × (length z.0 ≡ 512)) (ok_is (a.0.0, a.0.1) (s, more) g.1) (rw g.0 t.0, rw g.0 refl, t.1)
sector_takes false bs s more e =
    subst (λ (z : Bytes × Bytes). (cond (all_zero z.0) [] z.0 ++ z.1 ≡ bs) × (not (all_zero z.0) ≡ false) × (length z.0 ≡ 512)) (ok_is (zeros 512, bs) (s, more) e) (rw (zeros_are 512) refl, rw (zeros_are 512) refl, long 512)
  where
    zeros_are : (n : ℕ) → all_zero (zeros n) ≡ true
    zeros_are n = are_zeros n

    long : (n : ℕ) → length (zeros n) ≡ n
    long n = length-zeros n

sectors_take : (n mask : ℕ) (bs : Bytes) (ss : Sectors) (more : Bytes) → mask < 2 ^ n → sectors_at n mask bs ≡ Ok (ss, more) → (held_of ss ++ more ≡ bs) × (mask_of ss ≡ mask) × (length ss ≡ n) × T (list_all (λ (s : Bytes). eqb (length s) 512) ss)
unfolding sectors_at
sectors_take zero mask bs ss more small e =
    subst (λ (z : Sectors × Bytes). (held_of z.0 ++ z.1 ≡ bs) × (mask_of z.0 ≡ mask) × (length z.0 ≡ 0) × T (list_all (λ (s : Bytes). eqb (length s) 512) z.0)) (ok_is ([], bs) (ss, more) e) (refl, omega arith, refl, tt)
sectors_take (suc n) mask bs ss more small e =
    let a = bind_ok (sector_at (eqb (mask % 2) 1) bs) (λ s. sectors_at n (mask / 2) s.1 >>= λ rs. Ok (s.0 ∷ rs.0, rs.1)) (ss, more) e in
    let b = bind_ok (sectors_at n (mask / 2) a.0.1) (λ rs. Ok (a.0.0 ∷ rs.0, rs.1)) (ss, more) a.2 in
    let first = sector_takes (eqb (mask % 2) 1) bs a.0.0 a.0.1 a.1 in
    let others = sectors_take n (mask / 2) a.0.1 b.0.0 b.0.1 (omega (arith, pow_more n)) b.1 in
    let full : eqb (length a.0.0) 512 ≡ true = rw first.2 refl in
    subst (λ (z : Sectors × Bytes). (held_of z.0 ++ z.1 ≡ bs) × (mask_of z.0 ≡ mask) × (length z.0 ≡ suc n) × T (list_all (λ (s : Bytes). eqb (length s) 512) z.0)) (ok_is (a.0.0 ∷ b.0.0, b.0.1) (ss, more) b.2)
    (append_assoc (cond (all_zero a.0.0) [] a.0.0) (held_of b.0.0) b.0.1 ∙ ap (λ (xs : Bytes). cond (all_zero a.0.0) [] a.0.0 ++ xs) others.0 ∙ first.0, mask_is (not (all_zero a.0.0)) mask (mask_of b.0.0) (sym first.1) (sym others.1), ap suc others.2, rw full others.3)

pub block_sound : Sound block
unfolding block
block_sound = record {
  back = λ ss more h.
      let k = both (eqb (length ss) 8) (list_all (λ (s : Bytes). eqb (length s) 512) ss) h in
      let eight : length ss ≡ 8 = eqb→eq (length ss) 8 k.0 in
      let small : mask_of ss < 256 = subst (λ (n : ℕ). mask_of ss < 2 ^ n) eight (mask_small ss) in
      rw (append_assoc (bytes_of 1 (mask_of ss)) (held_of ss) more, (number_sound 1).back (mask_of ss) (held_of ss ++ more) (lt→ltb _ _ small)) (subst (λ (n : ℕ). sectors_at n (mask_of ss) (held_of ss ++ more) ≡ Ok (ss, more)) eight (sectors_back ss more k.1));
  spelling = λ bs ss more h e.
      let a = bind_ok (number_at 1 bs) (λ m. sectors_at 8 m.0 m.1) (ss, more) e in
      let first = (number_sound 1).spelling bs a.0.0 a.0.1 h a.1 in
      let others = sectors_take 8 a.0.0 a.0.1 ss more (ltb→lt a.0.0 256 first.1) a.2 in
      let eight : eqb (length ss) 8 ≡ true = rw others.2 refl in
      (append_assoc (bytes_of 1 (mask_of ss)) (held_of ss) more ∙ ap (λ (xs : Bytes). bytes_of 1 (mask_of ss) ++ xs) others.0 ∙ ap (λ (k : ℕ). bytes_of 1 k ++ a.0.1) others.1 ∙ first.0, rw eight others.3);
}
