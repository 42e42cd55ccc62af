-- No more sectors hold anything than there is room for. What a volume's sectors hold is what its blocks hold; keys that differ are blocks of
-- heads, or empty; and the heads count what theirs hold.
use Rattle.std.proofs.Common.{◌≡◌, ℕ, zero, suc, ◌+◌, ◌-◌, ◌*◌, ◌<◌, ◌≤◌, Bool, true, false, not, ◌&&◌, ◌||◌, ◌⊎◌, List, [], ◌∷◌, length, get_or, slice_index_or, eqb, leb, sym, refl, ap, ap₂, ◌∙◌, subst, inl, inr, eq-eqb, leb-true, arith}
use Rattle.std.specs.List.{sum_by, list_any, All, IsDistinct}
use Rattle.std.proofs.lemmas.List.Sums.{sum_by-cons, sum_by-le}
use Rattle.std.proofs.lemmas.List.Elements.{All-replicate, recursion_from_All}
use Rattle.disks.specs.Device.{zeros}
use Rattle.disks.specs.Disks.{one, all_zero, used}
use Rattle.volumes.specs.declared.head.Head.{Head}
use Rattle.volumes.specs.Weights.{weighs}
use Rattle.volumes.specs.Service.{Service, is_head}
use Rattle.volumes.proofs.Counts.{all_zeros, used_same}
use Rattle.served.specs.Blocks.{Block, empty_block, key_of, volume_of, sector_in}
use Rattle.served.specs.Room.{is_gone, Rising, Counts, AllCount, HasRoom, filled, RoomBounds}
use Rattle.served.proofs.Living.{never}
use Rattle.served.proofs.Rooms.{block_lives}
use Rattle.served.proofs.Totals.{total, total_same, heads_total, Placed, sum-within}

-- SECTORS IN BLOCKS
used_plus : (a b m : ℕ) (F : ℕ → List ℕ) → m ≡ a + b → used m F ≡ used a (λ i. F (b + i)) + used b F
unfolding used
used_plus zero b m F e = omega (arith, ap (λ (k : ℕ). used k F) {x = m} {y = b} (omega arith))
used_plus (suc a) b zero F e = absurd (omega arith)
used_plus (suc a) b (suc m) F e =
    let last : m ≡ b + a = omega arith in
    omega (arith, used_plus a b m F (omega arith), ap (λ (k : ℕ). one (not (all_zero (F k)))) last)

-- blank sectors count nothing
used_beyond : (d z m : ℕ) (F : ℕ → List ℕ) → m ≡ d + z → ((n : ℕ) → z ≤ n → n < m → F n ≡ zeros 512) → used m F ≡ used z F
unfolding used one
used_beyond zero z m F q e = ap (λ (k : ℕ). used k F) (omega arith)
used_beyond (suc d) z zero F q e = absurd (omega arith)
used_beyond (suc d) z (suc m) F q e =
    let blank : all_zero (F m) ≡ true = ap all_zero (e m (omega arith) (omega arith)) ∙ all_zeros 512 in
    omega (arith, ap (λ (b : Bool). one (not b)) blank, used_beyond d z m F (omega arith) (λ n l k. e n l (omega arith)))

used_blocks : (n m : ℕ) (F : ℕ → List ℕ) → m ≡ 8 * n → used m F ≡ total n (λ b. used 8 (λ i. F (8 * b + i)))
unfolding used
used_blocks zero m F e = ap (λ (k : ℕ). used k F) {x = m} {y = 0} (omega arith)
used_blocks (suc n) m F e = omega (arith, used_plus 8 (8 * n) m F (omega arith), used_blocks n (8 * n) F refl)

-- the first of them apart
used_front : (n : ℕ) (F : ℕ → List ℕ) → used (suc n) F ≡ one (not (all_zero (F 0))) + used n (λ i. F (suc i))
unfolding used
used_front zero F = refl
used_front (suc n) F = omega (arith, used_front n F)

used_list : (b : Block) (d : List ℕ) → used (length b) (λ i. get_or b i d) ≡ filled b
unfolding used
used_list [] d = refl
used_list (x ∷ b) d = omega (arith, used_front (length b) (λ i. get_or (x ∷ b) i d), used_list b d, sum_by-cons (λ (s : List ℕ). one (not (all_zero s))) x b)

filled-empty : filled empty_block ≡ 0
unfolding one
filled-empty = omega (arith, sum_by-le (λ (s : List ℕ). one (not (all_zero s))) 0 empty_block (All-replicate (λ (s : List ℕ). one (not (all_zero s)) ≤ 0) 8 (zeros 512) blank))
  where
    blank : one (not (all_zero (zeros 512))) ≤ 0
    blank = subst (λ (b : Bool). one (not b) ≤ 0) (sym (all_zeros 512)) (omega arith)

module _ (blocks : ℕ) (many : 8 * blocks ≡ 1099511627776) (room : ℕ) (r : Service) (f : ℕ → Block) (p : HasRoom room r f) where
  slot : (v : ℕ) {b c i j : ℕ} → b ≡ c → i ≡ j → get_or (f (key_of v b)) i (zeros 512) ≡ get_or (f (key_of v c)) j (zeros 512)
  slot v d e = ap₂ (λ (k l : ℕ). get_or (f (key_of v k)) l (zeros 512)) d e

  -- what a volume's sectors hold is what its blocks hold
  count_blocks : (h : Head) → 1 ≤ h.number.0 → list_any (is_head h.number.0) r.heads ≡ true → Counts f h → h.used ≡ total blocks (λ b. filled (f (key_of h.number.0 b)))
  count_blocks h l a c =
      sym c.count ∙ sym (used_beyond (8 * blocks - h.size.0) h.size.0 (8 * blocks) F (omega (arith, c.size)) (λ n i j. c.beyond n i (omega arith))) ∙ used_blocks blocks (8 * blocks) F refl ∙ total_same blocks _ _ each
    where
      F : ℕ → List ℕ
      F = sector_in f h.number.0

      each : (b : ℕ) → b < blocks → used 8 (λ i. F (8 * b + i)) ≡ filled (f (key_of h.number.0 b))
      each b m =
          let block : ℕ = key_of h.number.0 b in
          used_same 8 (λ i. F (8 * b + i)) (λ i. get_or (f block) i (zeros 512)) (λ i n. slot h.number.0 (omega arith) (omega arith)) ∙ ap (λ (k : ℕ). used k (λ i. get_or (f block) i (zeros 512))) (sym (p.blocks block (block_lives r h.number.0 b l (omega (arith, many)) a)).eight) ∙ used_list (f block) (zeros 512)

  -- and all volumes hold what their heads count
  count_heads : (low : ℕ) (hs : List Head) → ((w : ℕ) → list_any (is_head w) hs ≡ true → list_any (is_head w) r.heads ≡ true) → 1 ≤ low → Rising low r.next hs → AllCount f hs → heads_total blocks (λ k. filled (f k)) hs ≤ weighs hs
  count_heads low [] i l q cs = omega arith
  count_heads low (h ∷ hs) i l q cs =
      omega (arith, count_blocks h (omega (arith, q.0)) (i h.number.0 (here (eqb h.number.0 h.number.0) (eq-eqb h.number.0 h.number.0 refl))) cs.0, count_heads (suc h.number.0) hs (λ w e. i w (there (eqb w h.number.0) e)) (omega arith) q.1 cs.1)
    where
      here : (b : Bool) → b ≡ true → (b || list_any (is_head h.number.0) hs) ≡ true
      here true e = refl
      here false e = never (sym e)

      there : (b : Bool) {c : Bool} → c ≡ true → (b || c) ≡ true
      there true e = refl
      there false e = e

  placed : (k : ℕ) → is_gone r k ≡ false → Placed blocks r.heads (λ j. filled (f j)) k
  placed k e = (omega (arith, many), go (leb r.next (volume_of k)) refl (list_any (is_head (volume_of k)) r.heads) refl e)
    where
      neither : (b : Bool) → not (b && false) ≡ true
      neither true = refl
      neither false = refl

      go : (a : Bool) → leb r.next (volume_of k) ≡ a → (c : Bool) → list_any (is_head (volume_of k)) r.heads ≡ c → not (not (eqb (volume_of k) 0) && (a || c)) ≡ false → (list_any (is_head (volume_of k)) r.heads ≡ true) ⊎ (filled (f k) ≡ 0)
      go true l c m g = inr (ap filled (p.fresh k (leb-true r.next (volume_of k) l)) ∙ filled-empty)
      go false l true m g = inl m
      go false l false m g = never (sym (neither (not (eqb (volume_of k) 0))) ∙ g)

  bound : (ks : List ℕ) → IsDistinct eqb ks → All (λ (k : ℕ). is_gone r k ≡ false) ks → sum_by (λ (k : ℕ). filled (f k)) ks ≤ room
  bound ks d a = omega (arith, p.weight, p.within, sum-within blocks r.heads (λ j. filled (f j)) ks d (recursion_from_All _ ks (λ k e l. placed (slice_index_or ks k e) (a k e l))), count_heads 1 r.heads (λ w e. e) (omega arith) p.rising p.counts)

pub room_bounds : RoomBounds
room_bounds room r f p ks d a = bound 137438953472 refl room r f p ks d a
