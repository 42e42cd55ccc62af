-- A search that begins at a hint finds what one from the start finds, and the hint holds when an entry or a place changes.
use Rattle.std.proofs.Common.{◌≡◌, ℕ, ◌+◌, ◌-◌, ◌<◌, ◌≤◌, min, Bool, true, false, cond, not, ltb, List, length, get_or, set, take, drop, Some, None, Option, refl, sym, ap, ◌∙◌, subst, arith}
use Rattle.std.specs.List.{position}
use Rattle.std.proofs.lemmas.List.{get_or-drop, get_or-set_same, get_or-set_other, get_or_past, length-drop, take_rest}
use Rattle.std.proofs.lemmas.List.Quantifiers.{position-Some}
use Rattle.std.proofs.lemmas.Bool.{ltb-true, ltb-false}
use Rattle.pieces.specs.declared.entry.Entry.{Entry}
use Rattle.pieces.specs.Entries.{is_free, free_entry}
use Rattle.pieces.specs.Hints.{AllTaken, NoneFree}
use Rattle.pieces.proofs.Counting.{none_of, none_counted, none_from_zero, found_at}

clash : {A : Type 0} → false ≡ true → A
clash e = let z : ◌≡◌ {A = ℕ} 0 1 = cc in absurd (omega arith)

-- OF ANY TEST that fails below n
module _ {X : Type 0} (f : X → Bool) (d : X) (n : ℕ) (xs : List X) (low : (i : ℕ) → i < n → f (get_or xs i d) ≡ false) where
  -- where it passes the default, n is within
  within : f d ≡ true → n ≤ length xs
  within t = go (ltb (length xs) n) refl
    where
      go : (b : Bool) → ltb (length xs) n ≡ b → n ≤ length xs
      go true e = clash (sym (low (length xs) (ltb-true (length xs) n e)) ∙ ap f (get_or_past xs (length xs) d (omega arith)) ∙ t)
      go false e = omega (arith, ltb-false (length xs) n e)

  found_behind : f d ≡ true → (j : ℕ) → position f (drop n xs) ≡ Some j → position f xs ≡ Some (n + j)
  found_behind t j e =
      let s = position-Some f (drop n xs) j d e in
      found_at f xs (n + j) d (omega (arith, s.0, length-drop n xs)) (sym (ap f (get_or-drop n xs j d)) ∙ s.1) (λ k m. below s.2 k m (ltb k n) refl)
    where
      below : ((i : ℕ) → i < j → f (get_or (drop n xs) i d) ≡ false) → (k : ℕ) → k < n + j → (b : Bool) → ltb k n ≡ b → f (get_or xs k d) ≡ false
      below h k m true e = low k (ltb-true k n e)
      below h k m false e =
          let same : n + (k - n) ≡ k = omega (arith, ltb-false k n e) in
          sym (ap (λ (i : ℕ). f (get_or xs i d)) same) ∙ sym (ap f (get_or-drop n xs (k - n) d)) ∙ h (k - n) (omega (arith, ltb-false k n e))

  none_behind : position f (drop n xs) ≡ None → position f xs ≡ None
  none_behind e = none_from_zero f xs d (none_counted f xs d (λ i l. at i l (ltb i n) refl))
    where
      at : (i : ℕ) → i < length xs → (b : Bool) → ltb i n ≡ b → f (get_or xs i d) ≡ false
      at i l true t = low i (ltb-true i n t)
      at i l false t =
          let same : n + (i - n) ≡ i = omega (arith, ltb-false i n t) in
          sym (ap (λ (k : ℕ). f (get_or xs k d)) same) ∙ sym (ap f (get_or-drop n xs (i - n) d)) ∙ none_of f (drop n xs) d e (i - n) (omega (arith, ltb-false i n t, length-drop n xs))

  -- an element changes: the hint stays, or falls to it
  stays : f d ≡ true → (j : ℕ) (y : X) → f y ≡ false → (i : ℕ) → i < n → f (get_or (set xs j y) i d) ≡ false
  stays t j y e i m = go (ltb i j) refl (ltb j i) refl
    where
      other : (i ≡ j → ⊥) → f (get_or (set xs j y) i d) ≡ false
      other o = ap f (get_or-set_other xs j i y d o) ∙ low i m

      go : (b : Bool) → ltb i j ≡ b → (c : Bool) → ltb j i ≡ c → f (get_or (set xs j y) i d) ≡ false
      go true p c q = other (λ s. absurd (omega (arith, ltb-true i j p)))
      go false p true q = other (λ s. absurd (omega (arith, ltb-true j i q)))
      go false p false q =
          let same : i ≡ j = omega (arith, ltb-false i j p, ltb-false j i q) in
          ap (λ (k : ℕ). f (get_or (set xs j y) k d)) same ∙ ap f (get_or-set_same xs j y d (omega (arith, same, within t))) ∙ e

  falls : (j : ℕ) (y : X) (i : ℕ) → i < min n j → f (get_or (set xs j y) i d) ≡ false
  falls j y i m = ap f (get_or-set_other xs j i y d (λ s. absurd (omega (arith, m)))) ∙ low i (omega (arith, m))

-- where nothing is found, nothing stands anywhere
all_before : {X : Type 0} (f : X → Bool) (d : X) (xs : List X) → position f xs ≡ None → (i : ℕ) → i < length xs → f (get_or xs i d) ≡ false
all_before f d xs e i l = none_of f xs d e i l

-- ENTRIES
pub entries_within : (n : ℕ) (es : List Entry) → NoneFree n es → n ≤ length es
entries_within n es h = within is_free free_entry n es h refl

pub unused_found : (n j : ℕ) (es : List Entry) → NoneFree n es → position is_free (take (length es - n) (drop n es)) ≡ Some j → position is_free es ≡ Some (n + j)
unused_found n j es h e = found_behind is_free free_entry n es h refl j (ap (position is_free) (sym (take_rest es n)) ∙ e)

pub unused_none : (n : ℕ) (es : List Entry) → NoneFree n es → position is_free (take (length es - n) (drop n es)) ≡ None → position is_free es ≡ None
unused_none n es h e = none_behind is_free free_entry n es h (ap (position is_free) (sym (take_rest es n)) ∙ e)

-- after a search the hint is what was found, or the end
pub none_free_found : (i m : ℕ) (es : List Entry) → position is_free es ≡ Some i → m ≡ i → NoneFree m es
none_free_found i m es e q = subst (λ (k : ℕ). NoneFree k es) (sym q) (position-Some is_free es i free_entry e).2

pub none_free_all : (m : ℕ) (es : List Entry) → position is_free es ≡ None → m ≡ length es → NoneFree m es
none_free_all m es e q = subst (λ (k : ℕ). NoneFree k es) (sym q) (all_before is_free free_entry es e)

pub none_free_set : (n j m : ℕ) (es : List Entry) (y : Entry) → m ≡ cond (is_free y) (min n j) n → NoneFree n es → NoneFree m (set es j y)
none_free_set n j m es y q h = subst (λ (k : ℕ). NoneFree k (set es j y)) (sym q) (go (is_free y) refl)
  where
    go : (b : Bool) → is_free y ≡ b → NoneFree (cond b (min n j) n) (set es j y)
    go true e = falls is_free free_entry n es h j y
    go false e = stays is_free free_entry n es h refl j y e

pub none_free_lowered : (n j m : ℕ) (es : List Entry) (y : Entry) → m ≡ min n j → NoneFree n es → NoneFree m (set es j y)
none_free_lowered n j m es y q h = subst (λ (k : ℕ). NoneFree k (set es j y)) (sym q) (falls is_free free_entry n es h j y)

-- PLACES
not_true : (b : Bool) → not b ≡ false → b ≡ true
not_true true e = refl
not_true false e = clash (sym e)

as_tests : (n : ℕ) (ts : List Bool) → AllTaken n ts → (p : ℕ) → p < n → not (get_or ts p false) ≡ false
as_tests n ts h p l = ap not (h p l)

pub places_within : (n : ℕ) (ts : List Bool) → AllTaken n ts → n ≤ length ts
places_within n ts h = within not false n ts (as_tests n ts h) refl

pub place_found : (n j : ℕ) (ts : List Bool) → AllTaken n ts → position not (take (length ts - n) (drop n ts)) ≡ Some j → position not ts ≡ Some (n + j)
place_found n j ts h e = found_behind not false n ts (as_tests n ts h) refl j (ap (position not) (sym (take_rest ts n)) ∙ e)

pub place_none : (n : ℕ) (ts : List Bool) → AllTaken n ts → position not (take (length ts - n) (drop n ts)) ≡ None → position not ts ≡ None
place_none n ts h e = none_behind not false n ts (as_tests n ts h) (ap (position not) (sym (take_rest ts n)) ∙ e)

pub all_taken_found : (p m : ℕ) (ts : List Bool) → position not ts ≡ Some p → m ≡ p → AllTaken m ts
all_taken_found p m ts e q = subst (λ (k : ℕ). AllTaken k ts) (sym q) (λ i l. not_true (get_or ts i false) ((position-Some not ts p false e).2 i l))

pub all_taken_all : (m : ℕ) (ts : List Bool) → position not ts ≡ None → m ≡ length ts → AllTaken m ts
all_taken_all m ts e q = subst (λ (k : ℕ). AllTaken k ts) (sym q) (λ i l. not_true (get_or ts i false) (all_before not false ts e i l))

pub all_taken_set : (n p : ℕ) (ts : List Bool) → AllTaken n ts → AllTaken n (set ts p true)
all_taken_set n p ts h i l = not_true (get_or (set ts p true) i false) (stays not false n ts (as_tests n ts h) refl p true refl i l)

pub all_taken_freed : (n p m : ℕ) (ts : List Bool) → m ≡ min n p → AllTaken n ts → AllTaken m (set ts p false)
all_taken_freed n p m ts q h = subst (λ (k : ℕ). AllTaken k (set ts p false)) (sym q) (λ i l. not_true (get_or (set ts p false) i false) (falls not false n ts (as_tests n ts h) p false i l))

-- for the search of answers
pub ruleset within_hints = (entries_within, places_within)
