-- There is a service with a keeper of its blocks that meet the laws.
use Rattle.std.proofs.Common.{◌≡◌, ℕ, zero, suc, ◌+◌, ◌-◌, ◌/◌, ◌≤◌, ◌<◌, Bool, true, false, cond, eqb, not, ◌&&◌, ◌||◌, ◌⊎◌, List, [], ◌∷◌, ◌++◌, length, Option, Some, None, sym, refl, ap, ◌∙◌, subst, inl, inr, arith, eqb-true, ltb-true, ltb-false, leb-true}
use Rattle.std.specs.Prelude.{nat_lt}
use Rattle.std.proofs.lemmas.Bool.{and_parts, or_parts, eqb-false, eq-eqb}
use Rattle.agreement.proofs.Base.{by_test}
use Rattle.copies.specs.Service.{Change, Stamped, Portion, in_range, lookup, overwritten, Lawful, age, Portioned, Taken, Keeps}
use Rattle.copies.specs.Cells.{CellCall, write, read, drop, CellReply, CellRest, holds, limit, is_gone, cell_reply, cell_next, cell_changes, cell_says, cells, Cells, block_of, stamp_of, look_at, stamp_at, among, markers, first_marker, forgotten, tidied, set, changed, swept, wanted, placed, scan, differs, clashes, comes, is_none, remains, joined, is_full, take_cells, cell_keeper}
use Rattle.replicated.proofs.Caught.{never, known}

-- TESTS
pick : {A : Type 0} (x : Bool) (a b : A) → x ≡ true → cond x a b ≡ a
pick true a b e = refl
pick false a b e = never (sym e)

pass : {A : Type 0} (x : Bool) (a b : A) → x ≡ false → cond x a b ≡ b
pass true a b e = never e
pass false a b e = refl

-- THE SERVICE
gone_stays : (o : CellCall) (r : CellRest) (f : ℕ → ℕ) (k : ℕ) → is_gone r k ≡ true → is_gone (cell_next o r f) k ≡ true
unfolding is_gone cell_next holds
gone_stays (write j b) r f k e = e
gone_stays (read j) r f k e = e
gone_stays (drop g) r f k e = also (not (nat_lt k limit)) (eqb (k / 4) g) (holds (k / 4) r.dropped) e
  where
    also : (x y z : Bool) → (x || z) ≡ true → (x || (y || z)) ≡ true
    also true y z e = refl
    also false true z e = refl
    also false false z e = e

at_key : (r : CellRest) (f g : ℕ → ℕ) (k : ℕ) → (is_gone r k ≡ true) ⊎ (f k ≡ g k) → (x : Bool) → is_gone r k ≡ x → ◌≡◌ {A = Option ℕ} (cond x None (Some (f k))) (cond x None (Some (g k)))
at_key r f g k e true d = refl
at_key r f g k (inl e) false d = never (sym e ∙ d)
at_key r f g k (inr e) false d = ap (λ (n : ℕ). Some n) e

agrees : (o : CellCall) (r : CellRest) (f g : ℕ → ℕ) → ((k : ℕ) → (is_gone r k ≡ true) ⊎ (f k ≡ g k)) → (cell_reply o r f ≡ cell_reply o r g) × (cell_next o r f ≡ cell_next o r g) × (cell_changes o r f ≡ cell_changes o r g)
unfolding cell_reply cell_next cell_changes
agrees (write k b) r f g e = (at_key r f g k (e k) (is_gone r k) refl, refl, refl)
agrees (read k) r f g e = (at_key r f g k (e k) (is_gone r k) refl, refl, refl)
agrees (drop d) r f g e = (refl, refl, refl)

unlike : (a : Option ℕ) → cell_says a ≡ CellReply.busy → ⊥
unfolding cell_says
unlike (Some n) e = cc
unlike None e = cc

pub cells_lawful : Lawful cells
cells_lawful = record { gone_stays = gone_stays; agrees = agrees; room_first = tt; room_stays = λ o r f e. tt; room_same = λ r f g e n. tt; unlike = unlike }

-- BLOCKS
among_is : (f : ℕ → Bool) (bs : List (Stamped ℕ)) (k : ℕ) → lookup k (among f bs) ≡ cond (f k) (lookup k bs) None
unfolding among lookup
among_is f [] k = by_test (λ (z : Option (Stamped ℕ)). None ≡ z) (f k) (λ _. refl) (λ _. refl)
among_is f (b ∷ bs) k =
    by_test (λ (z : List (Stamped ℕ)). lookup k z ≡ cond (f k) (lookup k (b ∷ bs)) None) (f b.key)
    (λ e. known (eqb k b.key) (λ q. pick (eqb k b.key) _ _ q ∙ sym (pick (f k) _ _ (ap f (eqb-true k b.key q) ∙ e) ∙ pick (eqb k b.key) _ _ q)) (λ q. pass (eqb k b.key) _ _ q ∙ among_is f bs k ∙ ap (λ (z : Option (Stamped ℕ)). cond (f k) z None) (sym (pass (eqb k b.key) _ _ q))))
    (λ e. among_is f bs k ∙ known (eqb k b.key) (λ q. let z : f k ≡ false = ap f (eqb-true k b.key q) ∙ e in pass (f k) _ _ z ∙ sym (pass (f k) _ _ z)) (λ q. ap (λ (z : Option (Stamped ℕ)). cond (f k) z None) (sym (pass (eqb k b.key) _ _ q))))

among_in : (f : ℕ → Bool) (bs : List (Stamped ℕ)) (k : ℕ) → f k ≡ true → lookup k (among f bs) ≡ lookup k bs
among_in f bs k e = among_is f bs k ∙ pick (f k) _ _ e

among_out : (f : ℕ → Bool) (bs : List (Stamped ℕ)) (k : ℕ) → f k ≡ false → lookup k (among f bs) ≡ None
among_out f bs k e = among_is f bs k ∙ pass (f k) _ _ e

append_some : (as' bs : List (Stamped ℕ)) (k : ℕ) (b : Stamped ℕ) → lookup k as' ≡ Some b → lookup k (as' ++ bs) ≡ Some b
unfolding lookup
append_some [] bs k b e = cc
append_some (a ∷ as') bs k b e = known (eqb k a.key) (λ q. pick (eqb k a.key) _ _ q ∙ sym (pick (eqb k a.key) _ _ q) ∙ e) (λ q. pass (eqb k a.key) _ _ q ∙ append_some as' bs k b (sym (pass (eqb k a.key) _ _ q) ∙ e))

append_none : (as' bs : List (Stamped ℕ)) (k : ℕ) → lookup k as' ≡ None → lookup k (as' ++ bs) ≡ lookup k bs
unfolding lookup
append_none [] bs k e = refl
append_none (a ∷ as') bs k e = known (eqb k a.key) (λ q. let z : ◌≡◌ {A = Option (Stamped ℕ)} (Some a) None = sym (pick (eqb k a.key) _ _ q) ∙ e in cc) (λ q. pass (eqb k a.key) _ _ q ∙ append_none as' bs k (sym (pass (eqb k a.key) _ _ q) ∙ e))

key_is : (bs : List (Stamped ℕ)) (k : ℕ) (b : Stamped ℕ) → lookup k bs ≡ Some b → k ≡ b.key
unfolding lookup
key_is [] k b e = cc
key_is (a ∷ bs) k b e = known (eqb k a.key) (λ q. let z : a ≡ b = let y : ◌≡◌ {A = Option (Stamped ℕ)} (Some a) (Some b) = sym (pick (eqb k a.key) _ _ q) ∙ e in cc in eqb-true k a.key q ∙ ap (λ (c : Stamped ℕ). c.key) z) (λ q. key_is bs k b (sym (pass (eqb k a.key) _ _ q) ∙ e))

-- WRITING
abbrev aged : Cells → ℕ → ℕ
aged s k = age cells cell_keeper s k

-- a key's block stays, and doesn't get younger
abbrev Stays : Cells → Cells → ℕ → Type 0
Stays s t k = (look_at t k ≡ look_at s k) × (aged s k ≤ aged t k)

forgotten_stays : (m : Option ℕ) (s : Cells) (k : ℕ) → Stays s (forgotten m s) k
unfolding forgotten block_of stamp_of
forgotten_stays None s k = (refl, omega arith)
forgotten_stays (Some j) s k =
    by_test (λ (t : Cells). Stays s t k) (eqb (look_at s j) 0)
    (λ e. known (eqb k j)
    (λ q. let z : k ≡ j = eqb-true k j q in let o = among_out (λ n. not (eqb n j)) s.blocks k (ap not q) in
    (ap block_of o ∙ sym (ap (look_at s) z ∙ eqb-true (look_at s j) 0 e), omega (arith, ap (stamp_at s) z, ap stamp_of o)))
    (λ q. let o = among_in (λ n. not (eqb n j)) s.blocks k (ap not q) in (ap block_of o, omega (arith, ap stamp_of o))))
    (λ e. (refl, omega arith))

tidied_stays : (s : Cells) (k : ℕ) → Stays s (tidied s) k
unfolding tidied
tidied_stays s k = by_test (λ (t : Cells). Stays s t k) (nat_lt 4 (markers s.blocks)) (λ e. forgotten_stays (first_marker s.blocks) s k) (λ e. (refl, omega arith))

set_at : (v : ℕ) (c : Change ℕ) (s : Cells) (k : ℕ) → eqb k c.key ≡ true → lookup k (set v c s).blocks ≡ Some (record { key = c.key; stamp = v; block = c.block })
unfolding lookup
set_at v c s k q = pick (eqb k c.key) _ _ q

set_else : (v : ℕ) (c : Change ℕ) (s : Cells) (k : ℕ) → eqb k c.key ≡ false → lookup k (set v c s).blocks ≡ lookup k s.blocks
unfolding lookup
set_else v c s k q = pass (eqb k c.key) _ _ q ∙ among_in (λ n. not (eqb n c.key)) s.blocks k (ap not q)

change_look : (v : ℕ) (c : Change ℕ) (s : Cells) (k : ℕ) → look_at (tidied (set v c s)) k ≡ cond (eqb k c.key) c.block (look_at s k)
unfolding block_of
change_look v c s k = (tidied_stays (set v c s) k).0 ∙ known (eqb k c.key) (λ q. ap block_of (set_at v c s k q) ∙ sym (pick (eqb k c.key) _ _ q)) (λ q. ap block_of (set_else v c s k q) ∙ sym (pass (eqb k c.key) _ _ q))

overwritten_at : (cs : List (Change ℕ)) (f f' : ℕ → ℕ) (k : ℕ) → f k ≡ f' k → overwritten cs f k ≡ overwritten cs f' k
unfolding overwritten
overwritten_at [] f f' k e = e
overwritten_at (c ∷ cs) f f' k e = overwritten_at cs (λ n. cond (eqb n c.key) c.block (f n)) (λ n. cond (eqb n c.key) c.block (f' n)) k (ap (λ (z : ℕ). cond (eqb k c.key) c.block z) e)

changed_look : (v : ℕ) (cs : List (Change ℕ)) (s : Cells) (k : ℕ) → look_at (changed v cs s) k ≡ overwritten cs (look_at s) k
unfolding changed overwritten
changed_look v [] s k = refl
changed_look v (c ∷ cs) s k = changed_look v cs (tidied (set v c s)) k ∙ overwritten_at cs (look_at (tidied (set v c s))) (λ n. cond (eqb n c.key) c.block (look_at s n)) k (change_look v c s k)

changed_age : (v : ℕ) (cs : List (Change ℕ)) (s : Cells) (k : ℕ) → (v ≤ aged (changed v cs s) k) ⊎ ((overwritten cs (look_at s) k ≡ look_at s k) × (aged s k ≤ aged (changed v cs s) k))
unfolding changed overwritten stamp_of
changed_age v [] s k = inr (refl, omega arith)
changed_age v (c ∷ cs) s k = elim (changed_age v cs u k) [
  | inl l ↦ inl l
  | inr y ↦ known (eqb k c.key)
      (λ q. inl (omega (arith, y.1, t.1, ap stamp_of (set_at v c s k q))))
      (λ q. let e = change_look v c s k ∙ pass (eqb k c.key) _ _ q in
      inr (sym (overwritten_at cs (look_at u) (λ n. cond (eqb n c.key) c.block (look_at s n)) k (change_look v c s k)) ∙ y.0 ∙ e, omega (arith, y.1, t.1, ap stamp_of (set_else v c s k q))))
]
  where
    u : Cells
    u = tidied (set v c s)

    t : Stays (set v c s) u k
    t = tidied_stays (set v c s) k

swept_at : (r : CellRest) (s : Cells) (k : ℕ) → is_gone r k ≡ false → lookup k (swept r s).blocks ≡ lookup k s.blocks
swept_at r s k e = among_in (λ n. not (is_gone r n)) s.blocks k (ap not e)

write_look : (r : CellRest) (v : ℕ) (cs : List (Change ℕ)) (s : Cells) (k : ℕ) → is_gone r k ≡ false → look_at (changed v cs (swept r s)) k ≡ overwritten cs (look_at s) k
write_look r v cs s k e = changed_look v cs (swept r s) k ∙ overwritten_at cs (look_at (swept r s)) (look_at s) k (ap block_of (swept_at r s k e))

write_age : (r : CellRest) (v : ℕ) (cs : List (Change ℕ)) (s : Cells) (k : ℕ) → is_gone r k ≡ false →
    (v ≤ aged (changed v cs (swept r s)) k) ⊎ ((overwritten cs (look_at s) k ≡ look_at s k) × (aged s k ≤ aged (changed v cs (swept r s)) k))
write_age r v cs s k e = elim (changed_age v cs (swept r s) k) [
  | inl l ↦ inl l
  | inr y ↦ let b = ap block_of (swept_at r s k e) in inr (sym (overwritten_at cs (look_at (swept r s)) (look_at s) k b) ∙ y.0 ∙ b, omega (arith, y.1, ap stamp_of (swept_at r s k e)))
]

-- PORTIONS
in_low : (key k : ℕ) (next : Option ℕ) → in_range key next k ≡ true → key ≤ k
in_low key k None e = leb-true key k e
in_low key k (Some n) e = leb-true key k (and_parts _ _ e).0

in_high : (key k n : ℕ) (next : Option ℕ) → in_range key next k ≡ true → next ≡ Some n → k < n
in_high key k n None e f = cc
in_high key k n (Some m) e f = let z : m ≡ n = cc in omega (arith, z, ltb-true k m (and_parts _ _ e).1)

is_small : (r : CellRest) (k : ℕ) → is_gone r k ≡ false → k < limit
unfolding is_gone
is_small r k e = ltb-true k limit (is_not (nat_lt k limit) (or_parts _ _ e).0)
  where
    is_not : (x : Bool) → not x ≡ false → x ≡ true
    is_not true f = refl
    is_not false f = sym f

module _ (r : CellRest) (whole : Bool) (base : ℕ) (s : Cells) where
  -- what a portion has of a key that it comes to
  abbrev of_key : ℕ → Option (Stamped ℕ)
  of_key k = wanted r whole base k (lookup k s.blocks)

  abbrev scanned : (many room key : ℕ) → Portion ℕ
  scanned n room key = scan r whole base s n room key

  abbrev placed_at : (many room key : ℕ) → Option (Stamped ℕ) → Portion ℕ
  placed_at n room key o = placed key room (λ m. scanned n m (suc key)) o

  wanted_is : (k : ℕ) (b : Stamped ℕ) → of_key k ≡ Some b → lookup k s.blocks ≡ Some b
  unfolding wanted
  wanted_is k b e = go (lookup k s.blocks) e
    where
      go : (o : Option (Stamped ℕ)) → wanted r whole base k o ≡ Some b → o ≡ Some b
      go None f = cc
      go (Some c) f = by_test (λ (z : Option (Stamped ℕ)). z ≡ Some b → ◌≡◌ {A = Option (Stamped ℕ)} (Some c) (Some b)) (not (is_gone r k) && (whole || nat_lt base c.stamp)) (λ _ g. g) (λ _ g. cc) f

  scan_next : (n room key m : ℕ) → (scanned n room key).next ≡ Some m → (key ≤ m) × (m < key + n)
  unfolding scan placed
  scan_next zero room key m e = cc
  scan_next (suc n) room key m e = go (of_key key) room (λ room f. scan_next n room (suc key) m f) e
    where
      go : (o : Option (Stamped ℕ)) (room : ℕ) → ((room : ℕ) → (scanned n room (suc key)).next ≡ Some m → (suc key ≤ m) × (m < suc key + n)) → (placed_at n room key o).next ≡ Some m → (key ≤ m) × (m < key + suc n)
      go None room later f = let z = later room f in (omega (arith, z), omega (arith, z))
      go (Some b) zero later f = let z : key ≡ m = cc in (omega (arith, z), omega (arith, z))
      go (Some b) (suc room) later f = let z = later room f in (omega (arith, z), omega (arith, z))

  scan_later : (n room key m : ℕ) → (scanned n (suc room) key).next ≡ Some m → key < m
  unfolding scan placed
  scan_later zero room key m e = cc
  scan_later (suc n) room key m e = go (of_key key) (λ f. scan_later n room (suc key) m f) e
    where
      go : (o : Option (Stamped ℕ)) → ((scanned n (suc room) (suc key)).next ≡ Some m → suc key < m) → (placed_at n (suc room) key o).next ≡ Some m → key < m
      go None later f = omega (arith, later f)
      go (Some b) later f = omega (arith, (scan_next n room (suc key) m f).0)

  scan_low : (n room key k : ℕ) → k < key → lookup k (scanned n room key).blocks ≡ None
  unfolding scan placed lookup
  scan_low zero room key k l = refl
  scan_low (suc n) room key k l = go (of_key key) refl room (λ room. scan_low n room (suc key) k (omega (arith, l)))
    where
      go : (o : Option (Stamped ℕ)) → of_key key ≡ o → (room : ℕ) → ((room : ℕ) → lookup k (scanned n room (suc key)).blocks ≡ None) → lookup k (placed_at n room key o).blocks ≡ None
      go None e room later = later room
      go (Some b) e zero later = refl
      go (Some b) e (suc room) later = known (eqb k b.key) (λ q. absurd (omega (arith, l, eqb-true k b.key q, key_is s.blocks key b (wanted_is key b e)))) (λ q. pass (eqb k b.key) _ _ q ∙ later room)

  scan_is : (n room key k : ℕ) → key ≤ k → k < key + n → ((m : ℕ) → (scanned n room key).next ≡ Some m → k < m) → lookup k (scanned n room key).blocks ≡ of_key k
  unfolding scan placed lookup
  scan_is zero room key k l h t = absurd (omega (arith, l, h))
  scan_is (suc n) room key k l h t = go (of_key key) refl room (λ room g t. scan_is n room (suc key) k g (omega (arith, h)) t) t
    where
      go : (o : Option (Stamped ℕ)) → of_key key ≡ o → (room : ℕ) → ((room : ℕ) → suc key ≤ k → ((m : ℕ) → (scanned n room (suc key)).next ≡ Some m → k < m) → lookup k (scanned n room (suc key)).blocks ≡ of_key k) → ((m : ℕ) → (placed_at n room key o).next ≡ Some m → k < m) →
          lookup k (placed_at n room key o).blocks ≡ of_key k
      go None e room later t = known (eqb k key)
          (λ q. scan_low n room (suc key) k (omega (arith, eqb-true k key q)) ∙ sym e ∙ ap of_key (sym (eqb-true k key q)))
          (λ q. later room (omega (arith, l, eqb-false k key q)) t)
      go (Some b) e zero later t = absurd (omega (arith, l, t key refl))
      go (Some b) e (suc room) later t =
          let j : key ≡ b.key = key_is s.blocks key b (wanted_is key b e) in
          known (eqb k b.key)
          (λ q. pick (eqb k b.key) _ _ q ∙ sym e ∙ ap of_key (j ∙ sym (eqb-true k b.key q)))
          (λ q. pass (eqb k b.key) _ _ q ∙ later room (omega (arith, l, j, eqb-false k b.key q)) t)

  -- what a portion has, it was to have
  scan_only : (n room key k : ℕ) (b : Stamped ℕ) → lookup k (scanned n room key).blocks ≡ Some b → of_key k ≡ Some b
  unfolding scan placed lookup
  scan_only zero room key k b e = cc
  scan_only (suc n) room key k b e = go (of_key key) refl room (λ room f. scan_only n room (suc key) k b f) e
    where
      go : (o : Option (Stamped ℕ)) → of_key key ≡ o → (room : ℕ) → ((room : ℕ) → lookup k (scanned n room (suc key)).blocks ≡ Some b → of_key k ≡ Some b) → lookup k (placed_at n room key o).blocks ≡ Some b → of_key k ≡ Some b
      go None f room later g = later room g
      go (Some c) f zero later g = cc
      go (Some c) f (suc room) later g = known (eqb k c.key)
          (λ q. ap of_key (eqb-true k c.key q ∙ sym (key_is s.blocks key c (wanted_is key c f))) ∙ f ∙ sym (pick (eqb k c.key) _ _ q) ∙ g)
          (λ q. later room (sym (pass (eqb k c.key) _ _ q) ∙ g))

  wanted_there : (k : ℕ) (b : Stamped ℕ) → of_key k ≡ Some b → is_gone r k ≡ false
  unfolding wanted
  wanted_there k b e = go (is_gone r k) refl (lookup k s.blocks) e
    where
      go : (g : Bool) → is_gone r k ≡ g → (o : Option (Stamped ℕ)) → wanted r whole base k o ≡ Some b → is_gone r k ≡ false
      go false f o h = f
      go true f None h = cc
      go true f (Some c) h = let z : ◌≡◌ {A = Option (Stamped ℕ)} None (Some b) = ap (λ (g : Bool). cond (not g && (whole || nat_lt base c.stamp)) (Some c) None) (sym f) ∙ h in cc

  -- what a portion has of a key in its range
  portion_has : (key k : ℕ) → is_gone r k ≡ false → in_range key (scanned (limit - key) 2 key).next k ≡ true → lookup k (scanned (limit - key) 2 key).blocks ≡ of_key k
  portion_has key k e i = scan_is (limit - key) 2 key k (in_low key k _ i) (omega (arith, is_small r k e, in_low key k _ i)) (λ m f. in_high key k m _ i f)

  portioned : (k : ℕ) → is_gone r k ≡ false → Portioned cells cell_keeper whole base s k (of_key k)
  unfolding wanted block_of stamp_of
  portioned k e = go whole (lookup k s.blocks) refl
    where
      go : (w : Bool) (o : Option (Stamped ℕ)) → lookup k s.blocks ≡ o → Portioned cells cell_keeper w base s k (wanted r w base k o)
      go true None f = (ap block_of f, omega (arith, ap stamp_of f))
      go false None f = omega (arith, ap stamp_of f)
      go w (Some b) f = subst (λ (g : Bool). Portioned cells cell_keeper w base s k (cond (not g && (w || nat_lt base b.stamp)) (Some b) None)) (sym e) (of w)
        where
          of : (w : Bool) → Portioned cells cell_keeper w base s k (cond (w || nat_lt base b.stamp) (Some b) None)
          of true = (sym (ap block_of f), sym (ap stamp_of f))
          of false = by_test (λ (z : Option (Stamped ℕ)). Portioned cells cell_keeper false base s k z) (nat_lt base b.stamp) (λ _. (sym (ap block_of f), sym (ap stamp_of f))) (λ g. omega (arith, ap stamp_of f, ltb-false base b.stamp g))

  portion_is : (key k : ℕ) → is_gone r k ≡ false → in_range key (scanned (limit - key) 2 key).next k ≡ true → Portioned cells cell_keeper whole base s k (lookup k (scanned (limit - key) 2 key).blocks)
  portion_is key k e i = subst (λ (o : Option (Stamped ℕ)). Portioned cells cell_keeper whole base s k o) (sym (portion_has key k e i)) (portioned k e)

  left_falls : (key n : ℕ) → (scanned (limit - key) 2 key).next ≡ Some n → limit - n < limit - key
  left_falls key n e = omega (arith, scan_next (limit - key) 2 key n e, scan_later (limit - key) 1 key n e)

-- PORTIONS TAKEN OVER
module _ (r : CellRest) (whole : Bool) (key : ℕ) (next : Option ℕ) (floor : ℕ) (bs : List (Stamped ℕ)) (s : Cells) where
  abbrev now : Cells
  now = joined r whole key next floor bs s

  abbrev came : List (Stamped ℕ)
  came = among (comes r key next) bs

  came_in : (k : ℕ) → is_gone r k ≡ false → in_range key next k ≡ true → lookup k came ≡ lookup k bs
  came_in k e i = among_in (comes r key next) bs k (both (in_range key next k) (is_gone r k) i e)
    where
      both : (x y : Bool) → x ≡ true → y ≡ false → (x && not y) ≡ true
      both x true d f = never f
      both true false d f = refl
      both false false d f = d

  came_out : (k : ℕ) → in_range key next k ≡ false → lookup k came ≡ None
  came_out k i = among_out (comes r key next) bs k (ap (λ (x : Bool). x && not (is_gone r k)) i)

  now_some : (k : ℕ) (b : Stamped ℕ) → lookup k came ≡ Some b → lookup k now.blocks ≡ Some b
  now_some k b e = append_some came _ k b e

  now_none : (k : ℕ) → lookup k came ≡ None → lookup k now.blocks ≡ cond (not (whole && in_range key next k)) (lookup k s.blocks) None
  unfolding is_none
  now_none k e = append_none came _ k e ∙ among_is (remains r whole key next bs) s.blocks k ∙ ap (λ (z : Bool). cond z (lookup k s.blocks) None) (ap (λ (o : Option (Stamped ℕ)). not (whole && in_range key next k) && is_none o) e ∙ twice (not (whole && in_range key next k)))
    where
      twice : (x : Bool) → (x && true) ≡ x
      twice true = refl
      twice false = refl

  now_in : (k : ℕ) → is_gone r k ≡ false → in_range key next k ≡ true → Taken cells cell_keeper whole floor s now k (lookup k bs)
  unfolding block_of stamp_of
  now_in k e i = go whole (lookup k bs) (came_in k e i) (λ f. now_none k f ∙ ap (λ (z : Bool). cond (not (whole && z)) (lookup k s.blocks) None) i)
    where
      go : (w : Bool) (o : Option (Stamped ℕ)) → lookup k came ≡ o → (lookup k came ≡ None → lookup k now.blocks ≡ cond (not (w && true)) (lookup k s.blocks) None) → Taken cells cell_keeper w floor s now k o
      go w (Some b) f g = (ap block_of (now_some k b f), omega (arith, ap stamp_of (now_some k b f)))
      go true None f g = ap block_of (g f)
      go false None f g = (ap block_of (g f), omega (arith, ap stamp_of (g f)))

  now_out : (k : ℕ) → in_range key next k ≡ false → (look_at now k ≡ look_at s k) × (aged s k ≤ aged now k)
  now_out k i = (ap block_of e, omega (arith, ap stamp_of e))
    where
      small : (w : Bool) → not (w && false) ≡ true
      small true = refl
      small false = refl

      e : lookup k now.blocks ≡ lookup k s.blocks
      e = now_none k (came_out k i) ∙ pick _ _ _ (ap (λ (z : Bool). not (whole && z)) i ∙ small whole)

  taken_is : (t : Cells) → take_cells r whole key next floor bs s ≡ Some t → now ≡ t
  unfolding take_cells
  taken_is t e = by_test (λ (z : Option Cells). z ≡ Some t → now ≡ t) (is_full whole key next bs s now) (λ _ f. cc) (λ _ f. cc) e

  take_in : (t : Cells) (k : ℕ) → take_cells r whole key next floor bs s ≡ Some t → is_gone r k ≡ false → in_range key next k ≡ true → Taken cells cell_keeper whole floor s t k (lookup k bs)
  take_in t k e g i = subst (λ (u : Cells). Taken cells cell_keeper whole floor s u k (lookup k bs)) (taken_is t e) (now_in k g i)

  take_out : (t : Cells) (k : ℕ) → take_cells r whole key next floor bs s ≡ Some t → in_range key next k ≡ false → (look_at t k ≡ look_at s k) × (aged s k ≤ aged t k)
  take_out t k e i = subst (λ (u : Cells). (look_at u k ≡ look_at s k) × (aged s k ≤ aged u k)) (taken_is t e) (now_out k i)

  take_floor : (t : Cells) → take_cells r whole key next floor bs s ≡ Some t → floor ≤ t.floor
  take_floor t e = subst (λ (u : Cells). floor ≤ u.floor) (taken_is t e) (omega arith)

-- FROM NOTHING: what was taken of one that stays as it is, is as it is there
abbrev Fit : CellRest → Cells → Cells → Type 0
Fit r s t = (k : ℕ) (b : Stamped ℕ) → lookup k t.blocks ≡ Some b → (lookup k s.blocks ≡ Some b) × (is_gone r k ≡ false)

fit_none : (r : CellRest) (s : Cells) → Fit r s (record { floor = 0; blocks = [] })
unfolding lookup
fit_none r s k b e = cc

no_clash : (whole : Bool) (from : ℕ) (next : Option ℕ) (bs : List (Stamped ℕ)) (s : Cells) (n key : ℕ) →
    ((k : ℕ) → key ≤ k → k < key + n → in_range from next k ≡ true → differs whole (lookup k s.blocks) (lookup k bs) ≡ false) → clashes whole from next bs s n key ≡ false
unfolding clashes
no_clash whole from next bs s zero key f = refl
no_clash whole from next bs s (suc n) key f = neither _ _ _ (f key (omega arith) (omega arith)) (no_clash whole from next bs s n (suc key) (λ k l h. f k (omega (arith, l)) (omega (arith, h))))
  where
    neither : (x y z : Bool) → (x ≡ true → y ≡ false) → z ≡ false → ((x && y) || z) ≡ false
    neither true y z g h = ap (λ (y : Bool). y || z) (g refl) ∙ h
    neither false y z g h = h

module _ (r q : CellRest) (whole : Bool) (base key : ℕ) (s t : Cells) (fit : Fit r s t) where
  abbrev part : Portion ℕ
  part = scan r whole base s (limit - key) 2 key

  abbrev then_has : Cells
  then_has = joined q whole key part.next s.floor part.blocks t

  as_before : (k : ℕ) → in_range key part.next k ≡ true → differs whole (lookup k t.blocks) (lookup k part.blocks) ≡ false
  unfolding differs wanted
  as_before k i = go (lookup k t.blocks) refl
    where
      like : (c : Stamped ℕ) → not (eqb c.stamp c.stamp && eqb c.block c.block) ≡ false
      like c = ap (λ (x : Bool). not (x && eqb c.block c.block)) (eq-eqb c.stamp c.stamp refl) ∙ ap not (eq-eqb c.block c.block refl)

      of : (w : Bool) (c : Stamped ℕ) → differs w (Some c) (cond (w || nat_lt base c.stamp) (Some c) None) ≡ false
      of true c = like c
      of false c = by_test (λ (z : Option (Stamped ℕ)). differs false (Some c) z ≡ false) (nat_lt base c.stamp) (λ _. like c) (λ _. refl)

      go : (o : Option (Stamped ℕ)) → lookup k t.blocks ≡ o → differs whole o (lookup k part.blocks) ≡ false
      go None e = refl
      go (Some c) e =
          let f = fit k c e in
          ap (λ (z : Option (Stamped ℕ)). differs whole (Some c) z)
          (portion_has r whole base s key k f.1 i ∙ ap (λ (o : Option (Stamped ℕ)). wanted r whole base k o) f.0 ∙ ap (λ (g : Bool). cond (not g && (whole || nat_lt base c.stamp)) (Some c) None) f.1)
          ∙ of whole c

  has_place : take_cells q whole key part.next s.floor part.blocks t ≡ Some then_has
  unfolding take_cells
  has_place = pass _ _ _ (last (nat_lt 8 (length then_has.blocks)) _ (no_clash whole key part.next part.blocks t (limit - key) key (λ k l h i. as_before k i)))
    where
      last : (x y : Bool) → y ≡ false → (x && y) ≡ false
      last true y e = e
      last false y e = refl

  still_fits : Fit r s then_has
  still_fits k b e = go (lookup k (came q whole key part.next s.floor part.blocks t)) refl
    where
      half : (x : Bool) (o : Option (Stamped ℕ)) → cond x o None ≡ Some b → o ≡ Some b
      half true o f = f
      half false o f = cc

      go : (o : Option (Stamped ℕ)) → lookup k (came q whole key part.next s.floor part.blocks t) ≡ o → (lookup k s.blocks ≡ Some b) × (is_gone r k ≡ false)
      go (Some c) f =
          let z : ◌≡◌ {A = Option (Stamped ℕ)} (Some c) (Some b) = sym (now_some q whole key part.next s.floor part.blocks t k c f) ∙ e in
          let w = scan_only r whole base s (limit - key) 2 key k b (half _ _ (sym (among_is (comes q key part.next) part.blocks k) ∙ f ∙ z)) in
          (wanted_is r whole base s k b w, wanted_there r whole base s k b w)
      go None f = fit k b (half _ _ (sym (now_none q whole key part.next s.floor part.blocks t k f) ∙ e))

pub cells_keeps : Keeps cells cell_keeper
unfolding block_of lookup
cells_keeps =
    record {
      none_empty = λ k. refl;
      write_look = λ r v cs s k e. write_look r v cs s k;
      write_age = λ r v cs s k e. write_age r v cs s k;
      portion_is = λ r whole base key s k. portion_is r whole base s key k;
      take_in = λ r whole key next floor bs s t k. take_in r whole key next floor bs s t k;
      take_out = λ r whole key next floor bs s t k e g i. take_out r whole key next floor bs s t k e i;
      take_floor = λ r whole key next floor bs s t. take_floor r whole key next floor bs s t;
      left = λ s k. limit - k;
      most = limit;
      left_most = λ s k. omega arith;
      left_falls = λ r whole base key n s. left_falls r whole base s key n;
      Fit = Fit;
      fit_none = fit_none;
      fit_take = λ r q whole base key s t f. (then_has r q whole base key s t f, has_place r q whole base key s t f, still_fits r q whole base key s t f);
    }

-- IT OCCURS that there is no place, and that a marker is forgotten and the floor rises.
abbrev filled : List ℕ → Cells
filled ks = record { floor = 0; blocks = of ks }
  where
    of : List ℕ → List (Stamped ℕ)
    of [] = []
    of (k ∷ ks) = record { key = k; stamp = 1; block = 1 } ∷ of ks

pub refuses : take_cells (record { dropped = []; count = 0 }) true 60 None 0 [] (filled (0 ∷ 1 ∷ 2 ∷ 3 ∷ 4 ∷ 5 ∷ 6 ∷ 7 ∷ 8 ∷ 60 ∷ [])) ≡ None
unfolding take_cells clashes differs among is_none is_gone holds lookup
refuses = refl

abbrev wiped : List ℕ → Cells
wiped ks = of 1 ks (record { floor = 0; blocks = [] })
  where
    of : ℕ → List ℕ → Cells → Cells
    of v [] s = s
    of v (k ∷ ks) s = of (suc v) ks (changed v (record { key = k; block = 0 } ∷ []) (swept (record { dropped = []; count = 0 }) s))

pub floor_rises : ((wiped (0 ∷ 1 ∷ 2 ∷ 3 ∷ 4 ∷ [])).floor ≡ 1) × (stamp_at (wiped (0 ∷ 1 ∷ 2 ∷ 3 ∷ 4 ∷ [])) 0 ≡ 0) × (stamp_at (wiped (0 ∷ 1 ∷ 2 ∷ 3 ∷ 4 ∷ [])) 1 ≡ 2)
unfolding changed tidied forgotten first_marker markers among is_gone holds lookup block_of stamp_of
floor_rises = (refl, refl, refl)
