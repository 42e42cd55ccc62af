-- All entries stay of blocks that a volume can have.
use Rattle.std.proofs.Common.{◌≡◌, ◌⊎◌, inl, inr, ℕ, zero, suc, ◌+◌, ◌/◌, ◌%◌, ◌<◌, ◌≤◌, Bool, true, false, cond, List, [], ◌∷◌, length, get_or, set, Some, None, Option, refl, ap, ◌∙◌, subst, arith, length-set}
use Rattle.std.proofs.lemmas.List.{get_or-set_same, get_or-set_other, get_or_past}
use Rattle.std.proofs.lemmas.Bool.{cases_eq, cases_lt, lt-ltb}
use Rattle.pieces.specs.declared.entry.Entry.{Entry}
use Rattle.pieces.specs.Entries.{free_entry, marker, is_block_number}
use Rattle.pieces.specs.Layouts.{entries_of}
use Rattle.pieces.specs.Kept.{Kept, Claim, WasSet, index_of, entry_at, vacant, with_place, puts_place, frees_place, claims_entry, claims_new, claims_of, claims, sets_blank, sets_bytes, place_for, sets, cleared, vacated}
use Rattle.pieces.specs.Loads.{take_all, restored, restores_of, restores, load_entry, then_load, load_entries}
use Rattle.pieces.specs.Loading.{BlocksInRange, StaysInRange}
use Rattle.pieces.proofs.Blank.{defaults}

none_some : {X A : Type 0} (x : X) → None ≡ Some x → A
none_some x e = let z : ◌≡◌ {A = ℕ} 0 1 = cc in absurd (omega arith)

some_same : {X : Type 0} (x y : X) → Some x ≡ Some y → x ≡ y
some_same x y e = cc

-- one entry more of such a block
range_set : (es : List Entry) (i : ℕ) (y : Entry) → is_block_number y.block.0 ≡ true → ((j : ℕ) → is_block_number (get_or es j free_entry).block.0 ≡ true) → (j : ℕ) → is_block_number (get_or (set es i y) j free_entry).block.0 ≡ true
range_set es i y now all j = go (cases_eq j i) (cases_lt j (length es))
  where
    test : Entry → Bool
    test e = is_block_number e.block.0

    go : (j ≡ i) ⊎ (j ≡ i → ⊥) → (j < length es) ⊎ (length es ≤ j) → is_block_number (get_or (set es i y) j free_entry).block.0 ≡ true
    go (inl e) (inl l) = ap (λ (n : ℕ). test (get_or (set es i y) n free_entry)) e ∙ ap test (get_or-set_same es i y free_entry (omega (arith, l, e))) ∙ now
    go (inl e) (inr g) = ap test (get_or_past (set es i y) j free_entry (omega (arith, g, length-set es i y)))
    go (inr o) l = ap test (get_or-set_other es i j y free_entry o) ∙ all j

range_puts : (i s p w : ℕ) (k : Kept) → BlocksInRange k → BlocksInRange (puts_place i s p w k)
unfolding puts_place
range_puts i s p w k all = range_set k.entries i (with_place s p w (entry_at i k)) (all i) all

range_frees : (i s w : ℕ) (k : Kept) → BlocksInRange k → BlocksInRange (frees_place i s w k)
unfolding frees_place
range_frees i s w k all = range_set k.entries i (with_place s 0 w (entry_at i k)) (all i) all

range_claims : (v b w : ℕ) (k : Kept) (c : Claim) → is_block_number b ≡ true → BlocksInRange k → claims v b w k ≡ Some c → BlocksInRange c.kept
unfolding claims claims_entry
range_claims v b w k c few all e = go (index_of v b k.entries) e
  where
    new : (o : Option ℕ) → claims_new v b w o k ≡ Some c → BlocksInRange c.kept
    new None q = none_some c q
    new (Some j) q = subst (λ (d : Claim). BlocksInRange d.kept) (some_same _ c q) (range_set k.entries j (marker v b w) few all)

    go : (o : Option ℕ) → claims_of v b w o k ≡ Some c → BlocksInRange c.kept
    go None q = new (vacant k.entries) q
    go (Some i) q = subst (λ (d : Claim). BlocksInRange d.kept) (some_same _ c q) all

pub range_sets : (v n w : ℕ) (blank : Bool) (k : Kept) (r : WasSet) → n < 1099511627776 → BlocksInRange k → sets v n blank w k ≡ Some r → BlocksInRange r.kept
unfolding sets
range_sets v n w true k r few all e = go (claims v (n / 8) w k) refl e
  where
    go : (o : Option Claim) → claims v (n / 8) w k ≡ o → sets_blank (n % 8) w o k ≡ Some r → BlocksInRange r.kept
    go None c q = subst (λ (d : WasSet). BlocksInRange d.kept) (some_same _ r q) all
    go (Some d) c q = subst (λ (x : WasSet). BlocksInRange x.kept) (some_same _ r q) (range_frees d.index (n % 8) w d.kept (range_claims v (n / 8) w k d (lt-ltb (n / 8) 137438953472 (omega (arith, few))) all c))
range_sets v n w false k r few all e = go (place_for v n k) (claims v (n / 8) w k) refl e
  where
    go : (p : Option ℕ) (o : Option Claim) → claims v (n / 8) w k ≡ o → sets_bytes (n % 8) w p o k ≡ Some r → BlocksInRange r.kept
    go None o c q = none_some r q
    go (Some p) None c q = none_some r q
    go (Some p) (Some d) c q = subst (λ (x : WasSet). BlocksInRange x.kept) (some_same _ r q) (range_puts d.index (n % 8) p w d.kept (range_claims v (n / 8) w k d (lt-ltb (n / 8) 137438953472 (omega (arith, few))) all c))

range_cleared : (i s : ℕ) (k : Kept) → BlocksInRange k → BlocksInRange (cleared i s k)
unfolding cleared
range_cleared i zero k all = all
range_cleared i (suc s) k all = range_frees i s 0 (cleared i s k) (range_cleared i s k all)

pub range_vacated : (i : ℕ) (k : Kept) → BlocksInRange k → BlocksInRange (vacated i k)
unfolding vacated
range_vacated i k all = range_set (cleared i 8 k).entries i free_entry refl (range_cleared i 8 k all)

-- what is loaded passed the test
range_load : (lives : ℕ → Bool) (i : ℕ) (e : Entry) (k m : Kept) → BlocksInRange k → load_entry lives i e k ≡ Some m → BlocksInRange m
unfolding restores
range_load lives i e k m all q = go (lives e.volume.0) (is_block_number e.block.0) refl q
  where
    back : is_block_number e.block.0 ≡ true → (o : Option (List Bool)) → restored i e k o ≡ Some m → BlocksInRange m
    back few None h = none_some m h
    back few (Some ts) h = subst BlocksInRange (some_same _ m h) (range_set k.entries i e few all)

    of : is_block_number e.block.0 ≡ true → (o : Option ℕ) → restores_of o i e k ≡ Some m → BlocksInRange m
    of few (Some j) h = none_some m h
    of few None h = back few (take_all e.places k.taken) h

    go : (b c : Bool) → is_block_number e.block.0 ≡ c → cond b (cond c (restores_of (index_of e.volume.0 e.block.0 k.entries) i e k) None) (Some k) ≡ Some m → BlocksInRange m
    go true true few h = of few (index_of e.volume.0 e.block.0 k.entries) h
    go true false few h = none_some m h
    go false c few h = subst BlocksInRange (some_same k m h) all

pub range_loaded : (lives : ℕ → Bool) (i : ℕ) (es : List Entry) (k m : Kept) → BlocksInRange k → load_entries lives i es k ≡ Some m → BlocksInRange m
unfolding load_entries
range_loaded lives i [] k m all q = subst BlocksInRange (some_same k m q) all
range_loaded lives i (e ∷ es) k m all q = go (load_entry lives i e k) refl q (λ x r h. range_loaded lives (i + 1) es x m r h)
  where
    go : (o : Option Kept) → load_entry lives i e k ≡ o → then_load (load_entries lives (i + 1) es) o ≡ Some m → ((x : Kept) → BlocksInRange x → load_entries lives (i + 1) es x ≡ Some m → BlocksInRange m) → BlocksInRange m
    go None c h rest = none_some m h
    go (Some x) c h rest = rest x (range_load lives i e k x all c) h

pub stays_in_range : StaysInRange
stays_in_range = record {
  blank = λ size i. ap (λ (e : Entry). is_block_number e.block.0) (defaults (entries_of size) free_entry i);
  loaded = range_loaded;
  set = range_sets;
  vacated = range_vacated;
}
