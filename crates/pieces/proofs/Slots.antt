-- The table's map, where a piece is added or one of its words changes.
use Rattle.std.proofs.Common.{◌≡◌, ◌≢◌, ◌⊎◌, inl, inr, ℕ, zero, suc, ◌/◌, ◌%◌, ◌<◌, ◌≤◌, Bool, true, false, cond, ◌==◌, List, [], ◌∷◌, length, get_or, set, replicate, Some, None, vec_items, refl, sym, ap, ◌∙◌, subst, arith}
use Rattle.std.specs.List.{position, insert}
use Rattle.std.proofs.lemmas.List.{get_or-set_same, get_or-set_other}
use Rattle.std.proofs.lemmas.List.Quantifiers.{position-Some}
use Rattle.std.proofs.lemmas.Bool.{eqb-true, eq-eqb, ne_eqb, cases_eq, and_right, and_from, and_parts}
use Rattle.pieces.specs.declared.piece.Piece.{Piece}
use Rattle.pieces.specs.Tables.{is_piece, word_of, slot_in, is_same, SlotPut}
use Rattle.std.proofs.lemmas.List.Edits.{length-insert, get_or-insert_at}
use Rattle.pieces.proofs.Blank.{defaults}
use Rattle.pieces.proofs.Counting.{none_of}

clash : {A : Type 0} → false ≡ true → A
clash e = let z : ◌≡◌ {A = ℕ} 0 1 = cc in absurd (omega arith)

-- by the place where its piece stands
slot_at : (ps : List Piece) (v b i : ℕ) (d : Piece) → i < length ps → is_piece v (b / 1024) (get_or ps i d) ≡ true → ((j : ℕ) → j < i → is_piece v (b / 1024) (get_or ps j d) ≡ false) → slot_in ps v b ≡ word_of b (get_or ps i d)
unfolding slot_in
slot_at [] v b i d l t h = absurd (omega arith)
slot_at (p ∷ ps) v b zero d l t h = ap (λ (c : Bool). cond c (word_of b p) (slot_in ps v b)) t
slot_at (p ∷ ps) v b (suc i) d l t h = ap (λ (c : Bool). cond c (word_of b p) (slot_in ps v b)) (h 0 (omega arith)) ∙ slot_at ps v b i d (omega arith) t (λ j m. h (suc j) (omega arith))

pub slot_found : (ps : List Piece) (v b i : ℕ) (d : Piece) → position (is_piece v (b / 1024)) ps ≡ Some i → slot_in ps v b ≡ word_of b (get_or ps i d)
slot_found ps v b i d e = let p = position-Some (is_piece v (b / 1024)) ps i d e in slot_at ps v b i d p.0 p.1 p.2

pub slot_none : (ps : List Piece) (v b : ℕ) (d : Piece) → ((j : ℕ) → j < length ps → is_piece v (b / 1024) (get_or ps j d) ≡ false) → slot_in ps v b ≡ 0
unfolding slot_in
slot_none [] v b d h = refl
slot_none (p ∷ ps) v b d h = ap (λ (c : Bool). cond c (word_of b p) (slot_in ps v b)) (h 0 (omega arith)) ∙ slot_none ps v b d (λ j l. h (suc j) (omega arith))

pub slot_missing : (ps : List Piece) (v b : ℕ) (d : Piece) → position (is_piece v (b / 1024)) ps ≡ None → slot_in ps v b ≡ 0
slot_missing ps v b d e = slot_none ps v b d (λ j l. none_of (is_piece v (b / 1024)) ps d e j l)

-- A PIECE IS ADDED
slot_insert : (ps : List Piece) (i : ℕ) (y : Piece) (v b : ℕ) (d : Piece) → word_of b y ≡ 0 → (is_piece v (b / 1024) y ≡ true → (j : ℕ) → j < length ps → is_piece v (b / 1024) (get_or ps j d) ≡ false) → slot_in (insert ps i y) v b ≡ slot_in ps v b
unfolding slot_in
slot_insert ps zero y v b d w h = go (is_piece v (b / 1024) y) refl
  where
    go : (t : Bool) → is_piece v (b / 1024) y ≡ t → cond (is_piece v (b / 1024) y) (word_of b y) (slot_in ps v b) ≡ slot_in ps v b
    go true e = ap (λ (c : Bool). cond c (word_of b y) (slot_in ps v b)) e ∙ w ∙ sym (slot_none ps v b d (h e))
    go false e = ap (λ (c : Bool). cond c (word_of b y) (slot_in ps v b)) e
slot_insert [] (suc i) y v b d w h = go (is_piece v (b / 1024) y) refl
  where
    go : (t : Bool) → is_piece v (b / 1024) y ≡ t → cond (is_piece v (b / 1024) y) (word_of b y) 0 ≡ 0
    go true e = ap (λ (c : Bool). cond c (word_of b y) 0) e ∙ w
    go false e = ap (λ (c : Bool). cond c (word_of b y) 0) e
slot_insert (p ∷ ps) (suc i) y v b d w h = ap (λ (n : ℕ). cond (is_piece v (b / 1024) p) (word_of b p) n) (slot_insert ps i y v b d w (λ t j l. h t (suc j) (omega arith)))

pub slots_added : (ps : List Piece) (i v b : ℕ) (y : Piece) → position (is_piece v (b / 1024)) ps ≡ None → y.volume.0 ≡ v → y.number ≡ b / 1024 → vec_items y.words ≡ replicate 1024 0 → (u c : ℕ) → slot_in (insert ps i y) u c ≡ slot_in ps u c
slots_added ps i v b y none ev en zero_words u c =
    slot_insert ps i y u c y (ap (λ (ws : List ℕ). get_or ws (c % 1024) 0) zero_words ∙ defaults 1024 0 (c % 1024)) (λ t j l. go t j l (and_parts (y.volume.0 == u) (y.number == c / 1024) t))
  where
    go : is_piece u (c / 1024) y ≡ true → (j : ℕ) → j < length ps → ((y.volume.0 == u) ≡ true) × ((y.number == c / 1024) ≡ true) → is_piece u (c / 1024) (get_or ps j y) ≡ false
    go t j l p =
        let su : v ≡ u = sym ev ∙ eqb-true y.volume.0 u p.0 in
        let sn : b / 1024 ≡ c / 1024 = sym en ∙ eqb-true y.number (c / 1024) p.1 in
        subst (λ (n : ℕ). is_piece u n (get_or ps j y) ≡ false) sn (subst (λ (n : ℕ). is_piece n (b / 1024) (get_or ps j y) ≡ false) su (none_of (is_piece v (b / 1024)) ps y none j l))

pub now_there : (ps : List Piece) (i v b : ℕ) (y : Piece) → i ≤ length ps → y.volume.0 ≡ v → y.number ≡ b / 1024 → position (is_piece v (b / 1024)) (insert ps i y) ≢ None
now_there ps i v b y l ev en e =
    let at : get_or (insert ps i y) i y ≡ y = get_or-insert_at ps i y y l in
    let long = length-insert ps i y l in
    let is : is_piece v (b / 1024) (get_or (insert ps i y) i y) ≡ true = ap (is_piece v (b / 1024)) at ∙ and_from (y.volume.0 == v) (y.number == b / 1024) (eq-eqb y.volume.0 v ev) (eq-eqb y.number (b / 1024) en) in
    clash (sym (none_of (is_piece v (b / 1024)) (insert ps i y) y e i (omega arith)) ∙ is)

-- A WORD CHANGES
same_piece : (v b u c : ℕ) (p : Piece) → is_same v b u c ≡ true → is_piece v (b / 1024) p ≡ is_piece u (c / 1024) p
same_piece v b u c p e =
    let f = and_parts (v == u) (b == c) e in
    let eu : v ≡ u = eqb-true v u f.0 in
    let ec : b ≡ c = eqb-true b c f.1 in
    rw (eu, ec) refl

module _ (v b w : ℕ) (p q : Piece) (sv : q.volume.0 ≡ p.volume.0) (sn : q.number ≡ p.number) (sw : vec_items q.words ≡ set (vec_items p.words) (b % 1024) w) (long : length (vec_items p.words) ≡ 1024) where
  kept_piece : (u n : ℕ) → is_piece u n q ≡ is_piece u n p
  kept_piece u n = rw (sv, sn) refl

  -- within the piece
  word_changed : (u c : ℕ) → is_piece v (b / 1024) p ≡ true → is_piece u (c / 1024) p ≡ true → word_of c q ≡ cond (is_same v b u c) w (word_of c p)
  word_changed u c mine his = go (cases_eq (c % 1024) (b % 1024))
    where
      su : u ≡ v
      su = sym (eqb-true p.volume.0 u (and_parts (p.volume.0 == u) (p.number == c / 1024) his).0) ∙ eqb-true p.volume.0 v (and_parts (p.volume.0 == v) (p.number == b / 1024) mine).0

      sc : c / 1024 ≡ b / 1024
      sc = sym (eqb-true p.number (c / 1024) (and_parts (p.volume.0 == u) (p.number == c / 1024) his).1) ∙ eqb-true p.number (b / 1024) (and_parts (p.volume.0 == v) (p.number == b / 1024) mine).1

      go : (c % 1024 ≡ b % 1024) ⊎ (c % 1024 ≡ b % 1024 → ⊥) → word_of c q ≡ cond (is_same v b u c) w (word_of c p)
      go (inl e) =
          let whole : c ≡ b = omega (arith, sc) in
          let is : is_same v b u c ≡ true = and_from (v == u) (b == c) (eq-eqb v u (sym su)) (eq-eqb b c (sym whole)) in
          ap (λ (ws : List ℕ). get_or ws (c % 1024) 0) sw ∙ ap (λ (n : ℕ). get_or (set (vec_items p.words) (b % 1024) w) n 0) e ∙ get_or-set_same (vec_items p.words) (b % 1024) w 0 (omega (arith, long)) ∙ sym (ap (λ (t : Bool). cond t w (word_of c p)) is)
      go (inr o) =
          let is : is_same v b u c ≡ false = and_right (v == u) (b == c) (ne_eqb b c (λ e. o (ap (λ (n : ℕ). n % 1024) (sym e)))) in
          ap (λ (ws : List ℕ). get_or ws (c % 1024) 0) sw ∙ get_or-set_other (vec_items p.words) (b % 1024) (c % 1024) w 0 o ∙ sym (ap (λ (t : Bool). cond t w (word_of c p)) is)

  slot_changed : (ps : List Piece) (i : ℕ) (d : Piece) (u c : ℕ) → i < length ps → get_or ps i d ≡ p → is_piece v (b / 1024) p ≡ true → ((j : ℕ) → j < i → is_piece v (b / 1024) (get_or ps j d) ≡ false) → slot_in (set ps i q) u c ≡ cond (is_same v b u c) w (slot_in ps u c)
  unfolding slot_in
  slot_changed [] i d u c l e m h = absurd (omega arith)
  slot_changed (x ∷ ps) zero d u c l e m h = go (is_piece u (c / 1024) p) refl
    where
      go : (t : Bool) → is_piece u (c / 1024) p ≡ t → cond (is_piece u (c / 1024) q) (word_of c q) (slot_in ps u c) ≡ cond (is_same v b u c) w (cond (is_piece u (c / 1024) x) (word_of c x) (slot_in ps u c))
      go true t =
          ap (λ (z : Bool). cond z (word_of c q) (slot_in ps u c)) (kept_piece u (c / 1024) ∙ t) ∙ word_changed u c m t
          ∙ ap (λ (n : ℕ). cond (is_same v b u c) w n) (sym (ap (λ (z : Piece). cond (is_piece u (c / 1024) z) (word_of c z) (slot_in ps u c)) e ∙ ap (λ (z : Bool). cond z (word_of c p) (slot_in ps u c)) t))
      go false t =
          ap (λ (z : Bool). cond z (word_of c q) (slot_in ps u c)) (kept_piece u (c / 1024) ∙ t) ∙ other (is_same v b u c) refl
          ∙ ap (λ (n : ℕ). cond (is_same v b u c) w n) (sym (ap (λ (z : Piece). cond (is_piece u (c / 1024) z) (word_of c z) (slot_in ps u c)) e ∙ ap (λ (z : Bool). cond z (word_of c p) (slot_in ps u c)) t))
        where
          other : (s : Bool) → is_same v b u c ≡ s → slot_in ps u c ≡ cond (is_same v b u c) w (slot_in ps u c)
          other true s = clash (sym t ∙ sym (same_piece v b u c p s) ∙ m)
          other false s = sym (ap (λ (z : Bool). cond z w (slot_in ps u c)) s)
  slot_changed (x ∷ ps) (suc i) d u c l e m h = go (is_piece u (c / 1024) x) refl (slot_changed ps i d u c (omega arith) e m (λ j k. h (suc j) (omega arith)))
    where
      go : (t : Bool) → is_piece u (c / 1024) x ≡ t → slot_in (set ps i q) u c ≡ cond (is_same v b u c) w (slot_in ps u c) → cond (is_piece u (c / 1024) x) (word_of c x) (slot_in (set ps i q) u c) ≡ cond (is_same v b u c) w (cond (is_piece u (c / 1024) x) (word_of c x) (slot_in ps u c))
      go true t ih = ap (λ (z : Bool). cond z (word_of c x) (slot_in (set ps i q) u c)) t ∙ other (is_same v b u c) refl ∙ ap (λ (n : ℕ). cond (is_same v b u c) w n) (sym (ap (λ (z : Bool). cond z (word_of c x) (slot_in ps u c)) t))
        where
          other : (s : Bool) → is_same v b u c ≡ s → word_of c x ≡ cond (is_same v b u c) w (word_of c x)
          other true s = clash (sym (h 0 (omega arith)) ∙ same_piece v b u c x s ∙ t)
          other false s = sym (ap (λ (z : Bool). cond z w (word_of c x)) s)
      go false t ih = ap (λ (z : Bool). cond z (word_of c x) (slot_in (set ps i q) u c)) t ∙ ih ∙ ap (λ (n : ℕ). cond (is_same v b u c) w n) (sym (ap (λ (z : Bool). cond z (word_of c x) (slot_in ps u c)) t))

pub slot_put : (ps : List Piece) (v b w i : ℕ) (q : Piece) (d : Piece) → position (is_piece v (b / 1024)) ps ≡ Some i → q.volume.0 ≡ (get_or ps i d).volume.0 → q.number ≡ (get_or ps i d).number → vec_items q.words ≡ set (vec_items (get_or ps i d).words) (b % 1024) w → length (vec_items (get_or ps i d).words) ≡ 1024 → SlotPut v b w ps (set ps i q)
slot_put ps v b w i q d e sv sn sw long = λ u c. let p = position-Some (is_piece v (b / 1024)) ps i d e in slot_changed v b w (get_or ps i d) q sv sn sw long ps i d u c p.0 refl p.1 p.2

-- no piece, so its word is 0 already
pub slot_absent : (ps : List Piece) (v b : ℕ) (d : Piece) → position (is_piece v (b / 1024)) ps ≡ None → SlotPut v b 0 ps ps
slot_absent ps v b d e = λ u c. go u c (is_same v b u c) refl
  where
    go : (u c : ℕ) (s : Bool) → is_same v b u c ≡ s → slot_in ps u c ≡ cond (is_same v b u c) 0 (slot_in ps u c)
    go u c true s =
        let f = and_parts (v == u) (b == c) s in
        let zero_here : slot_in ps u c ≡ 0 = rw (sym (eqb-true v u f.0), sym (eqb-true b c f.1)) (slot_missing ps v b d e) in
        zero_here ∙ sym (ap (λ (z : Bool). cond z 0 (slot_in ps u c)) s)
    go u c false s = sym (ap (λ (z : Bool). cond z 0 (slot_in ps u c)) s)

pub got : (ps : List Piece) (v b n i r : ℕ) (d : Piece) → n ≡ b / 1024 → position (is_piece v n) ps ≡ Some i → d ≡ get_or ps i d → r ≡ word_of b d → r ≡ slot_in ps v b
got ps v b n i r d en e at w =
    let e2 : position (is_piece v (b / 1024)) ps ≡ Some i = sym (ap (λ (m : ℕ). position (is_piece v m) ps) en) ∙ e in
    w ∙ ap (word_of b) at ∙ sym (slot_found ps v b i d e2)

got_nothing : (qs : List Piece) (v b : ℕ) → position (is_piece v (b / 1024)) qs ≡ None → slot_in qs v b ≡ 0
unfolding slot_in
got_nothing [] v b q = refl
got_nothing (p ∷ qs) v b q = slot_missing (p ∷ qs) v b p q

pub got_none : (ps : List Piece) (v b n : ℕ) → n ≡ b / 1024 → position (is_piece v n) ps ≡ None → 0 ≡ slot_in ps v b
got_none ps v b n en e =
    let e2 : position (is_piece v (b / 1024)) ps ≡ None = sym (ap (λ (m : ℕ). position (is_piece v m) ps) en) ∙ e in
    sym (got_nothing ps v b e2)

pub no_slots : (v b : ℕ) → slot_in [] v b ≡ 0
unfolding slot_in
no_slots v b = refl

pub put_as : (ps : List Piece) (v b n w i : ℕ) (q d : Piece) → n ≡ b / 1024 → position (is_piece v n) ps ≡ Some i → d ≡ get_or ps i d → q.volume.0 ≡ d.volume.0 → q.number ≡ d.number → vec_items q.words ≡ set (vec_items d.words) (b % 1024) w → length (vec_items d.words) ≡ 1024 → SlotPut v b w ps (set ps i q)
put_as ps v b n w i q d en e at sv sn sw long =
    let e2 : position (is_piece v (b / 1024)) ps ≡ Some i = sym (ap (λ (m : ℕ). position (is_piece v m) ps) en) ∙ e in
    slot_put ps v b w i q d e2 (sv ∙ ap (λ (z : Piece). z.volume.0) at) (sn ∙ ap (λ (z : Piece). z.number) at) (sw ∙ ap (λ (z : Piece). set (vec_items z.words) (b % 1024) w) at) (sym (ap (λ (z : Piece). length (vec_items z.words)) at) ∙ long)

nothing_put : (s : Bool) (u c : ℕ) → slot_in [] u c ≡ cond s 0 (slot_in [] u c)
nothing_put true u c = no_slots u c
nothing_put false u c = refl

pub absent_as : (ps : List Piece) (v b : ℕ) → position (is_piece v (b / 1024)) ps ≡ None → SlotPut v b 0 ps ps
absent_as [] v b e = λ u c. nothing_put (is_same v b u c) u c
absent_as (p ∷ ps) v b e = slot_absent (p ∷ ps) v b p e
