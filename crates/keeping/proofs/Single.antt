-- One sector changes: of all slots of its block, in both passes, only that one is set.
use Rattle.std.proofs.Common.{◌≡◌, ◌≢◌, ◌⊎◌, inl, inr, ℕ, zero, suc, ◌+◌, ◌*◌, ◌/◌, ◌%◌, ◌<◌, Bool, true, false, cond, not, ◌&&◌, ◌==◌, List, [], ◌∷◌, length, get_or, set, Some, None, Option, refl, sym, ap, ◌∙◌, arith, bytes_eq, eqb-true, eq-eqb, length-set}
use Rattle.std.specs.List.{list_all}
use Rattle.std.proofs.lemmas.Bool.{and_from, and_parts, and_left, and_right, not_from_false, not_from_true, cases_eq}
use Rattle.std.proofs.lemmas.List.{get_or-set_same, get_or-set_other}
use Rattle.std.proofs.lemmas.List.Sums.{AllPass-from_list_all, list_all-from_AllPass}
use Rattle.std.proofs.lemmas.Slice.Eq.{bytes_eq-Decides}
use Rattle.disks.specs.Device.{zeros}
use Rattle.disks.specs.Disks.{all_zero}
use Rattle.volumes.specs.Service.{Service}
use Rattle.pieces.specs.declared.entry.Entry.{Entry}
use Rattle.pieces.specs.Kept.{Kept, entry_at, vacated}
use Rattle.pieces.specs.Meaning.{shown}
use Rattle.pieces.specs.Replaces as replaces
use Rattle.pieces.specs.Replaces.{Held, sets_held, vacates_at, vacates_where}
use Rattle.copies.specs.Service.{Change}
use Rattle.served.specs.Blocks as blocks
use Rattle.served.specs.Blocks.{Block, volume_of, block_of}
use Rattle.served.specs.Room.{is_gone}
use Rattle.served.proofs.Keys.{volume_of-key_of, block_of-key_of}
use Rattle.keeping.specs.Keeping.{is_whole, is_due, due, look_held, is_of_pass, or_held, tidied_held, writes_sector, writes_slots, writes_all, write_held, Good}
use Rattle.keeping.specs.Single.{WritesOne}
use Rattle.keeping.proofs.Keys.{has_volume}
use Rattle.keeping.proofs.Moves.{slot_of, slot_looked, slot_looked_or, eight_looked, set_moves}
use Rattle.keeping.proofs.Tidying.{tidied_fine, tidied_slot}
use Rattle.keeping.proofs.Fitting.{look_whole}

clash : {A : Type 0} → false ≡ true → A
clash e = let z : ◌≡◌ {A = ℕ} 0 1 = cc in absurd (omega arith)

-- nothing is given up
vacates_none : (f : Entry → Bool) (n : ℕ) (k : Kept) → ((i : ℕ) → f (entry_at i k) ≡ false) → vacates_where f n k ≡ k
unfolding vacates_where vacates_at
vacates_none f zero k h = refl
vacates_none f (suc i) k h = ap (λ (m : Kept). cond (f (entry_at i m)) (vacated i m) m) (vacates_none f i k h) ∙ ap (λ (t : Bool). cond t (vacated i k) k) (h i)

-- is the sector written?
abbrev turns : (z : Bool) → Held → (volume sector : ℕ) → List ℕ → Bool
turns z h v n bs = is_of_pass z bs && not (bytes_eq (shown h.data' h.kept v n) bs)

sector_stays : (z : Bool) (w v n : ℕ) (bs : List ℕ) (h : Held) → turns z h v n bs ≡ false → writes_sector z w v n bs h ≡ h
unfolding writes_sector
sector_stays z w v n bs h e = ap (λ (t : Bool). cond t (or_held (sets_held v n bs w h) h) h) e

sector_turns : (z : Bool) (w v n : ℕ) (bs : List ℕ) (h : Held) → turns z h v n bs ≡ true → writes_sector z w v n bs h ≡ or_held (sets_held v n bs w h) h
unfolding writes_sector
sector_turns z w v n bs h e = ap (λ (t : Bool). cond t (or_held (sets_held v n bs w h) h) h) e

module _ (z : Bool) (w v b : ℕ) where
  slots_stay : (more : Block) (s : ℕ) (h : Held) → ((j : ℕ) → j < length more → turns z h v (8 * b + (s + j)) (get_or more j []) ≡ false) → writes_slots z w v b s more h ≡ h
  unfolding writes_slots
  slots_stay [] s h f = refl
  slots_stay (bs ∷ more) s h f =
      ap (writes_slots z w v b (suc s) more) (sector_stays z w v (8 * b + s) bs h (ap (λ (n : ℕ). turns z h v (8 * b + n) bs) (omega arith) ∙ f 0 (omega arith)))
      ∙ slots_stay more (suc s) h (λ j l. ap (λ (n : ℕ). turns z h v (8 * b + n) (get_or more j [])) (omega arith) ∙ f (suc j) (omega (arith, l)))

  -- only this one
  slots_one : (t : ℕ) (bs : List ℕ) (more : Block) (s : ℕ) (h : Held) → t < length more → get_or more t [] ≡ bs → turns z h v (8 * b + (s + t)) bs ≡ true →
      ((j : ℕ) → j < length more → j ≢ t → (turns z h v (8 * b + (s + j)) (get_or more j []) ≡ false) × (turns z (or_held (sets_held v (8 * b + (s + t)) bs w h) h) v (8 * b + (s + j)) (get_or more j []) ≡ false)) →
      writes_slots z w v b s more h ≡ or_held (sets_held v (8 * b + (s + t)) bs w h) h
  unfolding writes_slots
  slots_one t bs [] s h l e y f = absurd (omega (arith, l))
  slots_one zero bs (cs ∷ more) s h l e y f =
      ap (λ (ds : List ℕ). writes_slots z w v b (suc s) more (writes_sector z w v (8 * b + s) ds h)) e
      ∙ ap (writes_slots z w v b (suc s) more) (ap (λ (n : ℕ). writes_sector z w v (8 * b + n) bs h) (omega arith) ∙ sector_turns z w v (8 * b + (s + 0)) bs h y)
      ∙ slots_stay more (suc s) (or_held (sets_held v (8 * b + (s + 0)) bs w h) h)
      (λ j m. ap (λ (n : ℕ). turns z (or_held (sets_held v (8 * b + (s + 0)) bs w h) h) v (8 * b + n) (get_or more j [])) (omega arith) ∙ (f (suc j) (omega (arith, m)) (λ q. absurd (omega (arith, q)))).1)
  slots_one (suc t) bs (cs ∷ more) s h l e y f =
      ap (writes_slots z w v b (suc s) more) (sector_stays z w v (8 * b + s) cs h (ap (λ (n : ℕ). turns z h v (8 * b + n) cs) (omega arith) ∙ (f 0 (omega arith) (λ q. absurd (omega (arith, q)))).0))
      ∙ slots_one t bs more (suc s) h (omega (arith, l)) e (ap (λ (n : ℕ). turns z h v (8 * b + n) bs) (omega arith) ∙ y)
      (λ j m o. let g = f (suc j) (omega (arith, m)) (λ q. o (omega (arith, q))) in (
        ap (λ (n : ℕ). turns z h v (8 * b + n) (get_or more j [])) (omega arith) ∙ g.0,
        ap (λ (n : ℕ). turns z (or_held (sets_held v (8 * b + n) bs w h) h) v (8 * b + (suc s + j)) (get_or more j [])) (omega arith) ∙ ap (λ (n : ℕ). turns z (or_held (sets_held v (8 * b + (s + suc t)) bs w h) h) v (8 * b + n) (get_or more j [])) (omega arith) ∙ g.1,
      ))
      ∙ ap (λ (n : ℕ). or_held (sets_held v (8 * b + n) bs w h) h) (omega arith)

module _ (size : ℕ) (r : Service) (w v n : ℕ) (bs : List ℕ) (h : Held) (g : Good size h) (small : n < 1099511627776) (alive : is_gone r (blocks.key_at v n) ≡ false) (long : length bs ≡ 512) (differs : bytes_eq (blocks.sector_in (look_held h) v n) bs ≡ false) where
  abbrev k : ℕ
  k = blocks.key_at v n

  abbrev B : Block
  B = set (look_held h (blocks.key_at v n)) (n % 8) bs

  abbrev x : Held
  x = tidied_held r h

  at_volume : volume_of (blocks.key_at v n) ≡ v
  at_volume = volume_of-key_of v (n / 8) (omega (arith, small))

  at_block : block_of (blocks.key_at v n) ≡ n / 8
  at_block = block_of-key_of v (n / 8) (omega (arith, small))

  eight : length B ≡ 8
  eight = length-set (look_held h (blocks.key_at v n)) (n % 8) bs ∙ eight_looked h (blocks.key_at v n)

  here : get_or B (n % 8) [] ≡ bs
  here = get_or-set_same (look_held h (blocks.key_at v n)) (n % 8) bs [] (omega (arith, eight_looked h (blocks.key_at v n)))

  other : (j : ℕ) → j < 8 → j ≢ n % 8 → get_or B j [] ≡ slot_of x k j
  other j l o = get_or-set_other (look_held h (blocks.key_at v n)) (n % 8) j bs [] o ∙ slot_looked h k j l ∙ sym (tidied_slot size r h g k j alive)

  was : bytes_eq (slot_of x k (n % 8)) bs ≡ false
  was = ap (λ (cs : List ℕ). bytes_eq cs bs) (tidied_slot size r h g k (n % 8) alive ∙ sym (slot_looked_or (zeros 512) h k (n % 8) (omega arith))) ∙ differs

  whole : is_whole B ≡ true
  whole = and_from _ _ (eq-eqb (length B) 8 eight) (list_all-from_AllPass (λ (s : List ℕ). length s == 512) B (λ j d l. eq-eqb _ 512 (at j d (omega (arith, l, eight)) (cases_eq j (n % 8)))))
    where
      looked : list_all (λ (s : List ℕ). length s == 512) (look_held h (blocks.key_at v n)) ≡ true
      looked = (and_parts (length (look_held h (blocks.key_at v n)) == 8) _ (look_whole size h (blocks.key_at v n) g)).1

      at : (j : ℕ) (d : List ℕ) → j < 8 → (j ≡ n % 8) ⊎ (j ≡ n % 8 → ⊥) → length (get_or B j d) ≡ 512
      at j d l (inl e) = ap (λ (i : ℕ). length (get_or B i d)) e ∙ ap (λ (cs : List ℕ). length cs) (get_or-set_same (look_held h (blocks.key_at v n)) (n % 8) bs d (omega (arith, eight_looked h (blocks.key_at v n)))) ∙ long
      at j d l (inr o) =
          ap (λ (cs : List ℕ). length cs) (get_or-set_other (look_held h (blocks.key_at v n)) (n % 8) j bs d o)
          ∙ eqb-true _ 512 (AllPass-from_list_all (λ (s : List ℕ). length s == 512) (look_held h (blocks.key_at v n)) looked j d (omega (arith, l, eight_looked h (blocks.key_at v n))))

  -- what is set
  abbrev y : Held
  y = or_held (sets_held (volume_of k) (8 * block_of k + (0 + n % 8)) bs w x) x

  unmoved : (j : ℕ) → j < 8 → j ≢ n % 8 → slot_of y k j ≡ slot_of x k j
  unmoved j l o = go (sets_held (volume_of k) (8 * block_of k + (0 + n % 8)) bs w x) refl
    where
      same : (m : Held) → (slot_of m k j ≡ slot_of x k j) ⊎ (slot_of m k j ≡ get_or B j []) → slot_of m k j ≡ slot_of x k j
      same m (inl e) = e
      same m (inr e) = e ∙ other j l o

      go : (p : Option Held) → sets_held (volume_of k) (8 * block_of k + (0 + n % 8)) bs w x ≡ p → slot_of (or_held p x) k j ≡ slot_of x k j
      go None e = refl
      go (Some m) e =
          let a = set_moves w (λ q i. get_or B i []) size r k (n % 8) bs x m (tidied_fine size r h g) alive (omega arith) long here (ap (λ (i : ℕ). sets_held (volume_of k) (8 * block_of k + i) bs w x) (omega arith) ∙ e) in
          same m (a.1.toward k j used l)
        where
          used : volume_of k ≢ 0
          used z = let u = has_volume r k alive in absurd (omega (arith, u.1, z))

  abbrev Stays : Bool → Held → Type 0
  Stays z u = (j : ℕ) → j < length B → j ≢ n % 8 → turns z u (volume_of k) (8 * block_of k + (0 + j)) (get_or B j []) ≡ false

  stays : (z : Bool) (u : Held) → ((j : ℕ) → j < 8 → j ≢ n % 8 → slot_of u k j ≡ slot_of x k j) → Stays z u
  stays z u f j l o =
      and_right _ _
      (not_from_true (bytes_eq (shown u.data' u.kept (volume_of k) (8 * block_of k + (0 + j))) (get_or B j []))
      ((bytes_eq-Decides (shown u.data' u.kept (volume_of k) (8 * block_of k + (0 + j))) (get_or B j [])).1
      (ap (λ (i : ℕ). shown u.data' u.kept (volume_of k) (8 * block_of k + i)) (omega arith) ∙ f j (omega (arith, l, eight)) o ∙ sym (other j (omega (arith, l, eight)) o))))

  turned : (z : Bool) → is_of_pass z bs ≡ true → writes_slots z w (volume_of k) (block_of k) 0 B x ≡ y
  turned z p =
      slots_one z w (volume_of k) (block_of k) (n % 8) bs B 0 x (omega (arith, eight)) here
      (and_from _ _ p (not_from_false (bytes_eq (shown x.data' x.kept (volume_of k) (8 * block_of k + (0 + n % 8))) bs) (ap (λ (i : ℕ). bytes_eq (shown x.data' x.kept (volume_of k) (8 * block_of k + i)) bs) (omega arith) ∙ was)))
      (λ j l o. (stays z x (λ j l o. refl) j l o, stays z y unmoved j l o))

  skipped : (z : Bool) (u : Held) → is_of_pass z bs ≡ false → ((j : ℕ) → j < 8 → j ≢ n % 8 → slot_of u k j ≡ slot_of x k j) → writes_slots z w (volume_of k) (block_of k) 0 B u ≡ u
  skipped z u p f = slots_stay z w (volume_of k) (block_of k) B 0 u (λ j l. go j l (cases_eq j (n % 8)))
    where
      go : (j : ℕ) → j < length B → (j ≡ n % 8) ⊎ (j ≡ n % 8 → ⊥) → turns z u (volume_of k) (8 * block_of k + (0 + j)) (get_or B j []) ≡ false
      go j l (inl e) = and_left _ _ (ap (λ (i : ℕ). is_of_pass z (get_or B i [])) e ∙ ap (is_of_pass z) here ∙ p)
      go j l (inr o) = stays z u f j l o

  both : writes_slots false w (volume_of k) (block_of k) 0 B (writes_slots true w (volume_of k) (block_of k) 0 B x) ≡ y
  both = go (all_zero bs) refl
    where
      go : (t : Bool) → all_zero bs ≡ t → writes_slots false w (volume_of k) (block_of k) 0 B (writes_slots true w (volume_of k) (block_of k) 0 B x) ≡ y
      go true e = ap (writes_slots false w (volume_of k) (block_of k) 0 B) (turned true e) ∙ skipped false y (ap not e) unmoved
      go false e = ap (writes_slots false w (volume_of k) (block_of k) 0 B) (skipped true x e (λ j l o. refl)) ∙ turned false (ap not e)

  one_written : write_held r w (record { key = blocks.key_at v n; block = blocks.with_sector n bs (look_held h (blocks.key_at v n)) } ∷ []) h ≡ or_held (sets_held v n bs w (tidied_held r h)) (tidied_held r h)
  unfolding write_held due writes_all
  one_written =
      ap (λ (t : Bool). writes_all false w (cond t (c ∷ []) []) (writes_all true w (cond t (c ∷ []) []) x)) is_all
      ∙ both
      ∙ ap (λ (u : ℕ). or_held (sets_held u (8 * block_of k + (0 + n % 8)) bs w x) x) at_volume
      ∙ ap (λ (i : ℕ). or_held (sets_held v i bs w x) x) (omega (arith, at_block))
    where
      c : Change Block
      c = record { key = blocks.key_at v n; block = set (look_held h (blocks.key_at v n)) (n % 8) bs }

      is_all : is_due r (record { key = blocks.key_at v n; block = set (look_held h (blocks.key_at v n)) (n % 8) bs }) [] ≡ true
      is_all = and_from _ _ (not_from_false (is_gone r (blocks.key_at v n)) alive) (and_from _ _ refl whole)

pub writes_one : WritesOne
unfolding write_held due writes_all
writes_one = record {
  none = λ r w h. refl;
  one = λ size r w v n bs h g small alive long differs. one_written size r w v n bs h g small alive long differs;
  tidy = λ r h f. ap (λ (m : Kept). record { kept = m; data' = h.data' }) (vacates_none (replaces.is_gone r.next r.heads) (length h.kept.entries) h.kept f);
}
