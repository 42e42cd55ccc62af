-- A pass over all blocks comes to its end: each list takes one entry away from what is left.
use Rattle.std.proofs.Common.{◌≡◌, inl, inr, ℕ, zero, suc, ◌+◌, ◌<◌, ◌≤◌, Bool, true, false, cond, not, ◌&&◌, ◌==◌, List, [], ◌∷◌, length, get_or, Some, None, Option, refl, sym, ap, ◌∙◌, subst, arith}
use Rattle.std.specs.List.{sum_by}
use Rattle.std.proofs.lemmas.Bool.{and_parts, and_from, not-true, not_from_false, lt-ltb}
use Rattle.std.proofs.lemmas.List.Sums.{sum_by-cons}
use Rattle.pieces.specs.declared.entry.Stamp.{Stamp}
use Rattle.pieces.specs.declared.entry.Entry.{Entry}
use Rattle.pieces.specs.declared.changed.Key.{Key}
use Rattle.pieces.specs.Entries.{free_entry}
use Rattle.pieces.specs.Kept.{Kept, entry_at}
use Rattle.pieces.specs.Meaning.{one}
use Rattle.pieces.specs.Changes.{entry_key, is_before, is_newer, is_wanted, nearest, next_number, key_behind, listed, listed_on, is_left, left}
use Rattle.pieces.proofs.Nearest.{NotBefore, not_before, is_before_from, not_before_from, found_nearest}

clash : {A : Type 0} → false ≡ true → A
clash e = let z : ◌≡◌ {A = ℕ} 0 1 = cc in absurd (omega arith)

one_at : (a b : Bool) → (a ≡ true → b ≡ true) → one a ≤ one b
one_at true b h = omega (arith, ap one (h refl))
one_at false b h = omega arith

-- two counts of one list
no_less : {X : Type 0} (g h : X → ℕ) (xs : List X) (d : X) → ((j : ℕ) → g (get_or xs j d) ≤ h (get_or xs j d)) → sum_by g xs ≤ sum_by h xs
no_less g h [] d l = omega arith
no_less g h (x ∷ xs) d l = omega (arith, sum_by-cons g x xs, sum_by-cons h x xs, l 0, no_less g h xs d (λ j. l (suc j)))

less_by_one : {X : Type 0} (g h : X → ℕ) (xs : List X) (i : ℕ) (d : X) → i < length xs → ((j : ℕ) → g (get_or xs j d) ≤ h (get_or xs j d)) → g (get_or xs i d) < h (get_or xs i d) → sum_by g xs < sum_by h xs
less_by_one g h [] i d m l s = absurd (omega arith)
less_by_one g h (x ∷ xs) zero d m l s = omega (arith, sum_by-cons g x xs, sum_by-cons h x xs, no_less g h xs d (λ j. l (suc j)))
less_by_one g h (x ∷ xs) (suc i) d m l s = omega (arith, sum_by-cons g x xs, sum_by-cons h x xs, l 0, less_by_one g h xs i d (omega arith) (λ j. l (suc j)) s)

-- what is wanted is left
wanted_left : (since : Option Stamp) (from : Key) (e : Entry) → is_wanted since from e ≡ true → is_left from e ≡ true
unfolding is_wanted is_left
wanted_left since from e t =
    let p = and_parts (not (e.volume.0 == 0)) (not (is_before (entry_key e) from) && is_newer since e.stamp.0) t in
    and_from (not (e.volume.0 == 0)) (not (is_before (entry_key e) from)) p.0 (and_parts (not (is_before (entry_key e) from)) (is_newer since e.stamp.0) p.1).0

left_parts : (from : Key) (e : Entry) → is_left from e ≡ true → ((not (e.volume.0 == 0)) ≡ true) × (is_before (entry_key e) from ≡ false)
unfolding is_left
left_parts from e t = let p = and_parts (not (e.volume.0 == 0)) (not (is_before (entry_key e) from)) t in (p.0, not-true (is_before (entry_key e) from) p.1)

left_from : (from : Key) (e : Entry) → (not (e.volume.0 == 0)) ≡ true → is_before (entry_key e) from ≡ false → is_left from e ≡ true
unfolding is_left
left_from from e p q = and_from (not (e.volume.0 == 0)) (not (is_before (entry_key e) from)) p (not_from_false (is_before (entry_key e) from) q)

-- what is behind an entry is behind all that it is behind
farther : (from : Key) (y e : Entry) → NotBefore (entry_key y) from → NotBefore (entry_key e) (key_behind y) → y.block.0 ≤ next_number y.block.0 → NotBefore (entry_key e) from
farther from y e (inl a) (inl b) h = inl (omega (arith, a, b))
farther from y e (inl a) (inr b) h = inl (omega (arith, a, b.0))
farther from y e (inr a) (inl b) h = inl (omega (arith, a.0, b))
farther from y e (inr a) (inr b) h = inr (omega (arith, a.0, b.0), omega (arith, a.1, b.1, h))

up : (n : ℕ) → n < 18446744073709551615 → next_number n ≡ n + 1
up n few = ap (λ (c : Bool). cond c (n + 1) n) (lt-ltb n 18446744073709551615 few)

module _ (k : Kept) (small : (i : ℕ) → (entry_at i k).block.0 < 18446744073709551615) where
  -- one step
  one_less : (since : Option Stamp) (from : Key) (y : Entry) → nearest since from k.entries ≡ Some y → left k (key_behind y) < left k from
  one_less since from y e =
      let w = found_nearest since from k.entries y e in
      let few : y.block.0 < 18446744073709551615 = subst (λ (z : Entry). z.block.0 < 18446744073709551615) w.2 (small w.0) in
      let past = not_before (entry_key y) from (left_parts from y (wanted_left since from y w.3)).1 in
      let was : is_left from (entry_at w.0 k) ≡ true = ap (is_left from) w.2 ∙ wanted_left since from y w.3 in
      less_by_one (λ (z : Entry). cond (is_left (key_behind y) z) 1 0) (λ (z : Entry). cond (is_left from z) 1 0) k.entries w.0 free_entry w.1 (λ j. one_at (is_left (key_behind y) (entry_at j k)) (is_left from (entry_at j k)) (λ t. still (entry_at j k) few past t))
      (omega (arith, ap one was, ap one (ap (is_left (key_behind y)) w.2 ∙ out few (is_left (key_behind y) y) refl)))
    where
      still : (z : Entry) → y.block.0 < 18446744073709551615 → NotBefore (entry_key y) from → is_left (key_behind y) z ≡ true → is_left from z ≡ true
      still z few past t =
          let p = left_parts (key_behind y) z t in
          left_from from z p.0 (not_before_from (entry_key z) from (farther from y z past (not_before (entry_key z) (key_behind y) p.1) (omega (arith, up y.block.0 few))))

      out : y.block.0 < 18446744073709551615 → (t : Bool) → is_left (key_behind y) y ≡ t → is_left (key_behind y) y ≡ false
      out few true t =
          clash (sym (left_parts (key_behind y) y t).1 ∙ is_before_from (entry_key y) (key_behind y) (inr (refl, omega (arith, up y.block.0 few))))
      out few false t = t

  no_more : (n : ℕ) (since : Option Stamp) (from to : Key) → (listed n since from k.entries).next ≡ Some to → left k to ≤ left k from
  unfolding listed
  no_more zero since from to e = let same : from ≡ to = cc in omega (arith, ap (left k) same)
  no_more (suc n) since from to e = go (nearest since from k.entries) refl e (λ z. no_more n since z to)
    where
      go : (o : Option Entry) → nearest since from k.entries ≡ o → (listed_on o (λ z. listed n since z k.entries)).next ≡ Some to → ((z : Key) → (listed n since z k.entries).next ≡ Some to → left k to ≤ left k z) → left k to ≤ left k from
      go None q r ih = let z : ◌≡◌ {A = ℕ} 0 1 = cc in absurd (omega arith)
      go (Some y) q r ih = omega (arith, ih (key_behind y) r, one_less since from y q)

  ends : (n : ℕ) (since : Option Stamp) (from to : Key) → (listed (suc n) since from k.entries).next ≡ Some to → left k to < left k from
  unfolding listed
  ends n since from to e = go (nearest since from k.entries) refl e
    where
      go : (o : Option Entry) → nearest since from k.entries ≡ o → (listed_on o (λ z. listed n since z k.entries)).next ≡ Some to → left k to < left k from
      go None q r = let z : ◌≡◌ {A = ℕ} 0 1 = cc in absurd (omega arith)
      go (Some y) q r = omega (arith, no_more n since (key_behind y) to r, one_less since from y q)

pub list_ends : (n : ℕ) (since : Option Stamp) (from to : Key) (k : Kept) → ((i : ℕ) → (entry_at i k).block.0 < 18446744073709551615) → (listed (suc n) since from k.entries).next ≡ Some to → left k to < left k from
list_ends n since from to k small e = ends k small n since from to e
