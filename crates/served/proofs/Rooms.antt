-- What volumes hold stays within the room.
use Rattle.std.proofs.Common.{◌≡◌, ℕ, ◌+◌, ◌/◌, ◌%◌, ◌<◌, ◌≤◌, Bool, true, false, cond, not, ◌&&◌, ◌||◌, ◌≢◌, ◌⊎◌, List, [], ◌∷◌, length, slice_index_or, length-append, eqb, leb, ltb, sym, refl, ap, ap₂, ◌∙◌, subst, inl, inr, arith, eqb-true, ne_eqb, eq-eqb}
use Rattle.std.proofs.lemmas.Bool.Decides.{nat_tests}
use Rattle.std.proofs.lemmas.Slice.Eq.{bytes_eq-Decides}
use Rattle.std.specs.Prelude.{bytes_eq}
use Rattle.std.specs.List.{list_any}
use Rattle.std.proofs.lemmas.List.Elements.{All-replicate}
use Rattle.agreement.proofs.Base.{by_test}
use Rattle.disks.specs.Device.{zeros}
use Rattle.disks.specs.Disks.{find, all_zero}
use Rattle.volumes.specs.declared.head.Head.{Head}
use Rattle.volumes.specs.Service.{Service, Served, puts, is_head, is_living, with_token, with_used, new_head, recount}
use Rattle.volumes.proofs.Counts.{used-blank, used_same, recounted}
use Rattle.volumes.proofs.Weighing.{weighs_push, weighs-changed, weighs-without, recount_fits}
use Rattle.copies.specs.Service.{Change, overwritten}
use Rattle.served.specs.Blocks.{Block, empty_block, key_of, volume_of, key_at, sector_in}
use Rattle.served.specs.Room.{is_gone, Counts, IsBlock, HasRoom}
use Rattle.served.specs.Served.{changes_of}
use Rattle.served.proofs.Keys.{volume_of-key_of}
use Rattle.served.proofs.Steps.{Leaves, stays, reads, makes, attaches, writes, drops, made, attached, wrote, dropped, counts}
use Rattle.served.proofs.Living.{never, any_found, gone-stays}
use Rattle.served.proofs.Heads.{length-changed, length_without, rising_bound, rising_pushed, rising-changed, rising_without, found_between, counts_same, count_pushed, count_without, count_found, count_each, count-changed}
use Rattle.served.proofs.Writing.{over, sector-over, sector-held, block-over}

-- WHAT LIVES
-- what has a number that wasn't given, or is a head's, isn't gone
pub fresh_lives : (r : Service) (k : ℕ) → 1 ≤ r.next → r.next ≤ volume_of k → is_gone r k ≡ false
fresh_lives r k l m = go (list_any (is_head (volume_of k)) r.heads)
  where
    go : (b : Bool) → not (not (eqb (volume_of k) 0) && (leb r.next (volume_of k) || b)) ≡ false
    go b = grind (arith, nat_tests)

pub block_lives : (r : Service) (v b : ℕ) → 1 ≤ v → b < 137438953472 → list_any (is_head v) r.heads ≡ true → is_gone r (key_of v b) ≡ false
block_lives r v b l m e = subst (λ (w : ℕ). not (is_living r.next r.heads w) ≡ false) (sym (volume_of-key_of v b m)) (go (list_any (is_head v) r.heads) e)
  where
    go : (c : Bool) → c ≡ true → not (not (eqb v 0) && (leb r.next v || c)) ≡ false
    go c q = grind (arith, nat_tests)

head_lives : (r : Service) (v n : ℕ) → 1 ≤ v → n < 1099511627776 → list_any (is_head v) r.heads ≡ true → is_gone r (key_at v n) ≡ false
head_lives r v n l m e = block_lives r v (n / 8) l (omega arith) e

not_both : {A : Type 0} (b : Bool) → b ≡ true → b ≡ false → A
not_both b p q = never (sym p ∙ q)

-- what is gone doesn't count
module _ (room : ℕ) (r : Service) (f g : ℕ → Block) (e : (k : ℕ) → (is_gone r k ≡ true) ⊎ (f k ≡ g k)) where
  same_at : (k : ℕ) → is_gone r k ≡ false → f k ≡ g k
  same_at k d = go (e k)
    where
      go : (is_gone r k ≡ true) ⊎ (f k ≡ g k) → f k ≡ g k
      go (inl c) = not_both (is_gone r k) c d
      go (inr c) = c

  pub room_same : HasRoom room r f → HasRoom room r g
  room_same p =
      record {
        few = p.few;
        limited = p.limited;
        rising = p.rising;
        counts = count_each f g 1 r.next r.heads r.heads (λ w q. q) (omega arith) p.rising (λ h q l c. counts_same f g h (λ n m. ap (λ (b : Block). slice_index_or b (n % 8) (zeros 512)) (same_at (key_at h.number.0 n) (head_lives r h.number.0 n l m q))) c) p.counts;
        weight = p.weight;
        within = p.within;
        blocks = λ k d. subst IsBlock (same_at k d) (p.blocks k d);
        fresh = λ k l. sym (same_at k (fresh_lives r k (rising_bound 1 r.next r.heads p.rising) l)) ∙ p.fresh k l;
      }

-- EACH CALL
pub empty_zeros : (i : ℕ) → i < 8 → slice_index_or empty_block i (zeros 512) ≡ zeros 512
empty_zeros i l = All-replicate (λ (s : List ℕ). s ≡ zeros 512) 8 (zeros 512) refl i (zeros 512) l

module _ (room : ℕ) (r : Service) (f : ℕ → Block) (p : HasRoom room r f) where
  first : 1 ≤ r.next
  first = rising_bound 1 r.next r.heads p.rising

  fresh_sector : (v n : ℕ) → r.next ≤ v → n < 1099511627776 → sector_in f v n ≡ zeros 512
  fresh_sector v n l m = ap (λ (b : Block). slice_index_or b (n % 8) (zeros 512)) (p.fresh (key_at v n) (omega arith)) ∙ empty_zeros (n % 8) (omega arith)

  living_after : (s : Served) → Leaves room r f s → (k : ℕ) → is_gone s.service k ≡ false → is_gone r k ≡ false
  living_after s q k e = go (is_gone r k) refl
    where
      go : (b : Bool) → is_gone r k ≡ b → b ≡ false
      go true d = not_both (is_gone s.service k) (gone-stays room r f s q k d) e
      go false d = refl

  make_room : (z : ℕ) → z ≤ 1099511627776 → length r.heads < 4096 → r.next < 4611686018427387904 → r.weight + 64 ≤ room → HasRoom room (made room r f z).service f
  make_room z l x y m =
      record {
        few = rw length-append (omega (arith, x));
        limited = omega (arith, y);
        rising = rising_pushed 1 r.next r.heads (new_head r.next z) refl p.rising;
        counts = count_pushed f r.heads (new_head r.next z) (record { size = l; token = omega arith; count = used_same z _ (λ n. zeros 512) (λ n i. fresh_sector r.next n (omega arith) (omega arith)) ∙ used-blank z; beyond = λ n i j. fresh_sector r.next n (omega arith) j }) p.counts;
        weight = omega (arith, p.weight, weighs_push r.heads (new_head r.next z));
        within = m;
        blocks = λ k e. p.blocks k (living_after _ (makes z l x y m) k e);
        fresh = λ k i. p.fresh k (omega arith);
      }

  attach_room : (v : ℕ) (h : Head) → find (is_head v) r.heads ≡ h ∷ [] → h.token.0 < 4611686018427387903 → HasRoom room (attached room r f v h).service f
  attach_room v h e l =
      record {
        few = omega (arith, p.few, length-changed v (with_token (h.token.0 + 1)) r.heads);
        limited = p.limited;
        rising = rising-changed v 1 r.next _ r.heads (λ k. refl) p.rising;
        counts = count-changed f f v (λ k o c. c) 1 r.next _ h r.heads p.rising e (λ c. record { size = c.size; token = omega (arith, l); count = c.count; beyond = c.beyond }) p.counts;
        weight = omega (arith, p.weight, weighs-changed v (with_token (h.token.0 + 1)) r.heads h e);
        within = p.within;
        blocks = λ k d. p.blocks k (living_after _ (attaches v h e l) k d);
        fresh = p.fresh;
      }

  drop_room : (v : ℕ) (h : Head) → find (is_head v) r.heads ≡ h ∷ [] → HasRoom room (dropped room r f v h).service f
  drop_room v h e =
      record {
        few = omega (arith, p.few, length_without (is_head v) r.heads);
        limited = p.limited;
        rising = rising_without (is_head v) 1 r.next r.heads p.rising;
        counts = count_without f (is_head v) r.heads p.counts;
        weight = omega (arith, p.weight, weighs-without v r.heads h e);
        within = omega (arith, p.within);
        blocks = λ k d. p.blocks k (living_after _ (drops v h e) k d);
        fresh = p.fresh;
      }

  -- a sector within a head's size
  pub held_below : (v n : ℕ) (h : Head) → find (is_head v) r.heads ≡ h ∷ [] → n < h.size.0 → n < 1099511627776
  held_below v n h e l = omega (arith, l, (count_found f (is_head v) r.heads h e p.counts).size)

  pub held_between : (v : ℕ) (h : Head) → find (is_head v) r.heads ≡ h ∷ [] → (v ≡ h.number.0) × (1 ≤ v) × (v < r.next)
  held_between v h e = found_between v 1 r.next r.heads h p.rising e

  pub held_lives : (v n : ℕ) (h : Head) → find (is_head v) r.heads ≡ h ∷ [] → n < h.size.0 → is_gone r (key_at v n) ≡ false
  held_lives v n h e l = head_lives r v n (held_between v h e).1 (held_below v n h e l) (any_found v r.heads h e)

  -- sectors are whole
  pub held_whole : (v n : ℕ) (h : Head) → find (is_head v) r.heads ≡ h ∷ [] → n < h.size.0 → length (sector_in f v n) ≡ 512
  held_whole v n h e l =
      let b : IsBlock (f (key_at v n)) = p.blocks (key_at v n) (held_lives v n h e l) in
      b.whole (n % 8) (zeros 512) (omega (arith, b.eight))

  -- WRITES: one sector holds b, in blocks g
  module _ (v n : ℕ) (b : List ℕ) (h : Head) (e : find (is_head v) r.heads ≡ h ∷ []) (l : n < h.size.0) (w : length b ≡ 512) (fits : (all_zero (sector_in f v n) && not (all_zero b) && ltb room (r.weight + 1)) ≡ false) where
    abbrev was : List ℕ
    was = sector_in f v n

    used_within : h.used ≤ r.weight
    used_within = omega (arith, p.weight, weighs-without v r.heads h e)

    put_room : (g : ℕ → Block) → ((u m : ℕ) → m < 1099511627776 → sector_in g u m ≡ cond (eqb u v && eqb m n) b (sector_in f u m)) → ((k : ℕ) → is_gone r k ≡ false → IsBlock (g k)) → ((k : ℕ) → r.next ≤ volume_of k → g k ≡ empty_block) → HasRoom room (wrote room r f v n was b h).service g
    put_room g s bs fs =
        record {
          few = omega (arith, p.few, length-changed v (with_used (counts room r f was b h)) r.heads);
          limited = p.limited;
          rising = rising-changed v 1 r.next _ r.heads (λ k. refl) p.rising;
          counts = count-changed f g v others 1 r.next _ h r.heads p.rising e here p.counts;
          weight = omega (arith, p.weight, used_within, weighs-changed v (with_used (counts room r f was b h)) r.heads h e);
          within = recount_fits (all_zero was) (all_zero b) h.used r.weight room used_within p.within fits;
          blocks = λ k d. bs k (living_after _ (writes v n b h e l w fits) k d);
          fresh = fs;
        }
      where
        others : (k : Head) → k.number.0 ≢ v → Counts f k → Counts g k
        others k o c = counts_same f g k (λ m i. sym (s k.number.0 m i ∙ ap (λ (x : Bool). cond (x && eqb m n) b (sector_in f k.number.0 m)) (ne_eqb k.number.0 v o))) c

        of_v : (m : ℕ) → m < 1099511627776 → sector_in g h.number.0 m ≡ cond (eqb m n) b (sector_in f h.number.0 m)
        of_v m i = s h.number.0 m i ∙ ap (λ (x : Bool). cond (x && eqb m n) b (sector_in f h.number.0 m)) (eq-eqb h.number.0 v (sym (held_between v h e).0))

        here : Counts f h → Counts g (with_used (counts room r f was b h) h)
        here c =
            record {
              size = c.size;
              token = c.token;
              count = used_same h.size.0 _ (λ m. cond (eqb m n) b (sector_in f h.number.0 m)) (λ m i. of_v m (omega (arith, c.size))) ∙ recounted h.size.0 n b (sector_in f h.number.0) _ l (λ m. refl) ∙ ap₂ (λ (u k : ℕ). recount (all_zero (sector_in f u n)) (all_zero b) k) (sym (held_between v h e).0) c.count;
              beyond = λ m i j. of_v m j ∙ ap (λ (x : Bool). cond x b (sector_in f h.number.0 m)) (ne_eqb m n (omega (arith, i, l))) ∙ c.beyond m i j;
            }

    write_room : HasRoom room (wrote room r f v n was b h).service (overwritten (changes_of (puts v n b) f) f)
    unfolding changes_of overwritten
    write_room =
        by_test (λ (cs : List (Change Block)). HasRoom room (wrote room r f v n was b h).service (overwritten cs f)) (bytes_eq was b)
        (λ t. put_room f (λ u m i. sector-held f v n u m b ((bytes_eq-Decides was b).0 t)) p.blocks p.fresh)
        (λ _. put_room (over f v n b) (λ u m i. sector-over f v n u m b (held_below v n h e l) i (p.blocks (key_at v n) (held_lives v n h e l)).eight) blocks fresh)
      where
        blocks : (k : ℕ) → is_gone r k ≡ false → IsBlock (over f v n b k)
        blocks k d = by_test IsBlock (eqb k (key_at v n)) (λ _. block-over n b (f (key_at v n)) w (p.blocks (key_at v n) (held_lives v n h e l))) (λ _. p.blocks k d)

        fresh : (k : ℕ) → r.next ≤ volume_of k → over f v n b k ≡ empty_block
        fresh k i = by_test (λ (x : Block). x ≡ empty_block) (eqb k (key_at v n)) (λ t. absurd (omega (arith, i, held_below v n h e l, (held_between v h e).2, eqb-true k (key_at v n) t))) (λ _. p.fresh k i)

  pub left_room : (s : Served) → Leaves room r f s → HasRoom room s.service (overwritten (changes_of s.change f) f)
  unfolding changes_of overwritten
  left_room s (stays a c) = p
  left_room s (reads v n h e l) = p
  left_room s (makes z l x y m) = make_room z l x y m
  left_room s (attaches v h e l) = attach_room v h e l
  left_room s (writes v n b h e l w x) = write_room v n b h e l w x
  left_room s (drops v h e) = drop_room v h e
