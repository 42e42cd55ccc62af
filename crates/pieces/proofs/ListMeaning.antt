-- What a list of changed blocks says. Each step takes the nearest one; what lies before it is not wanted, and what lies behind it comes later.
use Rattle.std.proofs.Common.{◌≡◌, inl, inr, ℕ, zero, suc, ◌+◌, ◌<◌, ◌≤◌, Bool, true, false, cond, not, ◌&&◌, ◌==◌, ltb, List, length, get_or, Some, None, Option, refl, sym, ap, ◌∙◌, subst, arith}
use Rattle.std.specs.List.{find}
use Rattle.std.proofs.lemmas.List.Quantifiers.{position-Some}
use Rattle.std.proofs.lemmas.Bool.{eqb-true, eq-eqb, ne_eqb, ltb-false, lt-ltb, and_from, and_parts, not-true}
use Rattle.pieces.specs.declared.entry.Stamp.{Stamp}
use Rattle.pieces.specs.declared.entry.Entry.{Entry}
use Rattle.pieces.specs.declared.changed.Key.{Key}
use Rattle.pieces.specs.Entries.{is_block, free_entry}
use Rattle.pieces.specs.Kept.{Kept, index_of, entry_at, stamp_in}
use Rattle.pieces.specs.Meaning.{look_in, Sound}
use Rattle.pieces.specs.Changes.{key_of, entry_key, is_before, is_newer, is_wanted, nearest, next_number, key_behind, listed, listed_on, is_below, Says}
use Rattle.pieces.proofs.Bytes.{both_true}
use Rattle.pieces.proofs.Counting.{only_first}
use Rattle.pieces.proofs.Nearest.{Before, NotBefore, before, not_before, is_before_from, found_nearest, nearest_none, nearest_some}

clash : {A : Type 0} → false ≡ true → A
clash e = let z : ◌≡◌ {A = ℕ} 0 1 = cc in absurd (omega arith)

pub same_key : (v b : ℕ) (e : Entry) → is_block v b e ≡ true → entry_key e ≡ key_of v b
same_key v b e t =
    let p = both_true (e.volume.0 == v) (e.block.0 == b) t in
    ap (λ (n : ℕ). key_of n e.block.0) (eqb-true e.volume.0 v p.0) ∙ ap (λ (n : ℕ). key_of v n) (eqb-true e.block.0 b p.1)

is_own : (v b : ℕ) (e : Entry) → e.volume.0 ≡ v → e.block.0 ≡ b → is_block v b e ≡ true
is_own v b e p q = and_from (e.volume.0 == v) (e.block.0 == b) (eq-eqb e.volume.0 v p) (eq-eqb e.block.0 b q)

module _ (size : ℕ) (since : Option Stamp) (k : Kept) (v b : ℕ) (x : Sound size k) (small : (i : ℕ) → (entry_at i k).block.0 < 18446744073709551615) where
  abbrev es : List Entry
  es = k.entries

  abbrev F : Entry → Bool
  F e = is_block (suc v) b e

  abbrev q : Key
  q = key_of (suc v) b

  -- where none of its entries changed, nothing is said
  nothing_says : ((i : ℕ) → i < length k.entries → is_block (suc v) b (get_or k.entries i free_entry) ≡ true → is_newer since (get_or k.entries i free_entry).stamp.0 ≡ false) → Says since k (suc v) b None
  nothing_says h = go since h (index_of (suc v) b k.entries) refl
    where
      go : (s : Option Stamp) → ((i : ℕ) → i < length k.entries → is_block (suc v) b (get_or k.entries i free_entry) ≡ true → is_newer s (get_or k.entries i free_entry).stamp.0 ≡ false) → (o : Option ℕ) → index_of (suc v) b k.entries ≡ o → Says s k (suc v) b None
      go None g None e = ap (λ (o : Option ℕ). look_in o k.entries) e
      go None g (Some i) e = let p = position-Some (is_block (suc v) b) k.entries i free_entry e in clash (sym (g i p.0 p.1))
      go (Some base) g None e = omega (arith, ap (λ (o : Option ℕ). stamp_in o k) e)
      go (Some base) g (Some i) e =
          let p = position-Some (is_block (suc v) b) k.entries i free_entry e in
          omega (arith, ap (λ (o : Option ℕ). stamp_in o k) e, ltb-false base.0 (get_or k.entries i free_entry).stamp.0 (g i p.0 p.1))

  -- its entry is wanted exactly if it is newer
  wanted : (from : Key) (e : Entry) → is_block (suc v) b e ≡ true → is_before (key_of (suc v) b) from ≡ false → is_wanted since from e ≡ is_newer since e.stamp.0
  unfolding is_wanted
  wanted from e t behind =
      let p = both_true (e.volume.0 == suc v) (e.block.0 == b) t in
      let used : (e.volume.0 == 0) ≡ false = ne_eqb e.volume.0 0 (λ z. absurd (omega (arith, eqb-true e.volume.0 (suc v) p.0))) in
      let at : is_before (entry_key e) from ≡ false = ap (λ (z : Key). is_before z from) (same_key (suc v) b e t) ∙ behind in
      rw (used, at) refl

  unwanted : (from : Key) → is_before (key_of (suc v) b) from ≡ false → ((i : ℕ) → i < length k.entries → is_block (suc v) b (get_or k.entries i free_entry) ≡ true → is_wanted since from (get_or k.entries i free_entry) ≡ false) → Says since k (suc v) b None
  unwanted from behind h = nothing_says (λ i l t. sym (wanted from (get_or k.entries i free_entry) t behind) ∙ h i l t)

  -- what is wanted is not before the key
  not_before_wanted : (from : Key) (e : Entry) → is_wanted since from e ≡ true → is_before (entry_key e) from ≡ false
  unfolding is_wanted
  not_before_wanted from e t =
      let p = and_parts (not (e.volume.0 == 0)) (not (is_before (entry_key e) from) && is_newer since e.stamp.0) t in
      not-true (is_before (entry_key e) from) (and_parts (not (is_before (entry_key e) from)) (is_newer since e.stamp.0) p.1).0

  higher : (n : ℕ) → n ≤ next_number n
  higher n = go (ltb n 18446744073709551615)
    where
      go : (t : Bool) → n ≤ cond t (n + 1) n
      go true = omega arith
      go false = omega arith

  behind_it : (a from : Key) (e : Entry) → Before a from → NotBefore (entry_key e) from → Before a (key_behind e)
  behind_it a from e (inl p) (inl r) = inl (omega arith)
  behind_it a from e (inl p) (inr r) = inl (omega (arith, r.0))
  behind_it a from e (inr p) (inl r) = inl (omega (arith, p.0))
  behind_it a from e (inr p) (inr r) = inr (omega (arith, p.0, r.0), omega (arith, p.1, r.1, higher e.block.0))

  -- a list has nothing that lies before the key that it begins at
  none_before : (n : ℕ) (from : Key) → is_before (key_of (suc v) b) from ≡ true → find (is_block (suc v) b) (listed n since from k.entries).blocks ≡ None
  unfolding listed
  none_before zero from h = refl
  none_before (suc n) from h = go (nearest since from k.entries) refl (λ z. none_before n z)
    where
      go : (o : Option Entry) → nearest since from k.entries ≡ o → ((z : Key) → is_before (key_of (suc v) b) z ≡ true → find (is_block (suc v) b) (listed n since z k.entries).blocks ≡ None) → find (is_block (suc v) b) (listed_on o (λ z. listed n since z k.entries)).blocks ≡ None
      go None e ih = refl
      go (Some y) e ih =
          let w = found_nearest since from k.entries y e in
          let past : is_before (entry_key y) from ≡ false = not_before_wanted from y w.3 in
          other (is_block (suc v) b y) refl past (ih (key_behind y) (is_before_from (key_of (suc v) b) (key_behind y) (behind_it (key_of (suc v) b) from y (before (key_of (suc v) b) from h) (not_before (entry_key y) from past))))
        where
          other : (t : Bool) → is_block (suc v) b y ≡ t → is_before (entry_key y) from ≡ false → find (is_block (suc v) b) (listed n since (key_behind y) k.entries).blocks ≡ None → cond (is_block (suc v) b y) (Some y) (find (is_block (suc v) b) (listed n since (key_behind y) k.entries).blocks) ≡ None
          other true t p r = clash (sym (ap (λ (z : Key). is_before z from) (sym (same_key (suc v) b y t)) ∙ p) ∙ h)
          other false t p r = ap (λ (c : Bool). cond c (Some y) (find (is_block (suc v) b) (listed n since (key_behind y) k.entries).blocks)) t ∙ r

  -- not its own, and before what lies behind it: before it
  strictly : (y : Entry) → y.block.0 < 18446744073709551615 → is_block (suc v) b y ≡ false → Before (key_of (suc v) b) (key_behind y) → NotBefore (key_of (suc v) b) (entry_key y) → ⊥
  strictly y few t (inl l) (inl r) = absurd (omega (arith, l, r))
  strictly y few t (inl l) (inr r) = absurd (omega (arith, l, r.0))
  strictly y few t (inr l) (inl r) = absurd (omega (arith, l.0, r))
  strictly y few t (inr l) (inr r) =
      let up : next_number y.block.0 ≡ y.block.0 + 1 = ap (λ (c : Bool). cond c (y.block.0 + 1) y.block.0) (lt-ltb y.block.0 18446744073709551615 few) in
      clash (sym t ∙ is_own (suc v) b y (omega (arith, r.0)) (omega (arith, l.1, r.1, up)))

  list_says : (n : ℕ) (from : Key) → is_before (key_of (suc v) b) from ≡ false → is_below (key_of (suc v) b) (listed n since from k.entries).next ≡ true → Says since k (suc v) b (find (is_block (suc v) b) (listed n since from k.entries).blocks)
  unfolding listed
  list_says zero from behind h = clash (sym behind ∙ h)
  list_says (suc n) from behind h = go (nearest since from k.entries) refl h (λ z. list_says n z)
    where
      go : (o : Option Entry) → nearest since from k.entries ≡ o → is_below (key_of (suc v) b) (listed_on o (λ z. listed n since z k.entries)).next ≡ true →
          ((z : Key) → is_before (key_of (suc v) b) z ≡ false → is_below (key_of (suc v) b) (listed n since z k.entries).next ≡ true → Says since k (suc v) b (find (is_block (suc v) b) (listed n since z k.entries).blocks)) → Says since k (suc v) b (find (is_block (suc v) b) (listed_on o (λ z. listed n since z k.entries)).blocks)
      go None e below ih = unwanted from behind (λ i l t. nearest_none since from k.entries e i l)
      go (Some y) e below ih =
          let w = found_nearest since from k.entries y e in
          own (is_block (suc v) b y) refl w
        where
          later : is_block (suc v) b y ≡ false → y.block.0 < 18446744073709551615 → (t : Bool) → is_before (key_of (suc v) b) (key_behind y) ≡ t → Says since k (suc v) b (find (is_block (suc v) b) (listed n since (key_behind y) k.entries).blocks)
          later f few true t =
              subst (λ (o : Option Entry). Says since k (suc v) b o) (sym (none_before n (key_behind y) t))
              (unwanted from behind (λ i l g. not_wanted i l g (is_wanted since from (get_or k.entries i free_entry)) refl))
            where
              not_wanted : (i : ℕ) → i < length k.entries → is_block (suc v) b (get_or k.entries i free_entry) ≡ true → (c : Bool) → is_wanted since from (get_or k.entries i free_entry) ≡ c → is_wanted since from (get_or k.entries i free_entry) ≡ false
              not_wanted i l g true c =
                  let r = nearest_some since from k.entries y e i l c in
                  absurd (strictly y few f (before (key_of (suc v) b) (key_behind y) t) (subst (λ (z : Key). NotBefore z (entry_key y)) (same_key (suc v) b (get_or k.entries i free_entry) g) r))
              not_wanted i l g false c = c
          later f few false t = ih (key_behind y) t below

          own : (t : Bool) → is_block (suc v) b y ≡ t → (i : ℕ) × (i < length k.entries) × (get_or k.entries i free_entry ≡ y) × (is_wanted since from y ≡ true) → Says since k (suc v) b (cond (is_block (suc v) b y) (Some y) (find (is_block (suc v) b) (listed n since (key_behind y) k.entries).blocks))
          own true t (i, l, s, c) =
              let here : is_block (suc v) b (get_or k.entries i free_entry) ≡ true = ap (is_block (suc v) b) s ∙ t in
              let at : index_of (suc v) b k.entries ≡ Some i = only_first (is_block (suc v) b) k.entries i free_entry l here (x.single v b) in
              subst (λ (c : Bool). Says since k (suc v) b (cond c (Some y) (find (is_block (suc v) b) (listed n since (key_behind y) k.entries).blocks))) (sym t) (sym s ∙ ap (λ (o : Option ℕ). look_in o k.entries) (sym at))
          own false t (i, l, s, c) =
              let few : y.block.0 < 18446744073709551615 = subst (λ (z : Entry). z.block.0 < 18446744073709551615) s (small i) in
              subst (λ (c : Bool). Says since k (suc v) b (cond c (Some y) (find (is_block (suc v) b) (listed n since (key_behind y) k.entries).blocks))) (sym t) (later t few (is_before (key_of (suc v) b) (key_behind y)) refl)

pub list_means : (size n : ℕ) (since : Option Stamp) (from : Key) (k : Kept) (v b : ℕ) → Sound size k → ((i : ℕ) → (entry_at i k).block.0 < 18446744073709551615) → is_before (key_of (suc v) b) from ≡ false → is_below (key_of (suc v) b) (listed n since from k.entries).next ≡ true →
    Says since k (suc v) b (find (is_block (suc v) b) (listed n since from k.entries).blocks)
list_means size n since from k v b x small behind below = list_says size since k v b x small n from behind below
