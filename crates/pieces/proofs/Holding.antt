-- Two lists of entries: where no block's entry in the first weighs more than the one in the second, the first weighs no more. One entry of
-- the first is taken away after the other, and from the second its block's entry.
use Rattle.std.proofs.Common.{◌≡◌, ◌≢◌, ℕ, zero, suc, ◌+◌, ◌<◌, ◌≤◌, Bool, true, false, cond, ◌==◌, List, [], ◌∷◌, length, get_or, set, Some, None, Option, refl, sym, ap, ◌∙◌, subst, arith}
use Rattle.std.specs.List.{sum_by, count_by}
use Rattle.std.proofs.lemmas.List.Sums.{sum_by-cons, sum_by-set}
use Rattle.std.proofs.lemmas.List.Quantifiers.{position-Some}
use Rattle.std.proofs.lemmas.Bool.{and_left, and_from, eq-eqb, ne_eqb}
use Rattle.pieces.specs.declared.entry.Entry.{Entry}
use Rattle.pieces.specs.Entries.{is_block, free_entry}
use Rattle.pieces.specs.Kept.{index_of}
use Rattle.pieces.specs.Meaning.{look_in, look, held_in, held, one}
use Rattle.pieces.proofs.Counting.{none_of, none_counted, none_from_zero, found_at, no_held}
use Rattle.pieces.proofs.Looking.{no_block, look_in_none, look_same, look_here}
use Rattle.pieces.proofs.Putting.{its_own, one_block}

-- a block has one entry
abbrev pub Single : List Entry → Type 0
Single es = (v b : ℕ) → count_by (is_block (suc v) b) es ≤ 1

-- an entry of no volume weighs nothing
abbrev pub Idle : (Entry → ℕ) → List Entry → Type 0
Idle g es = (i : ℕ) → (get_or es i free_entry).volume.0 ≡ 0 → g (get_or es i free_entry) ≡ 0

-- no block's entry in the first list weighs more than in the second
abbrev pub Lighter : (Entry → ℕ) → List Entry → List Entry → Type 0
Lighter g ts ss = (v b : ℕ) → g (look (suc v) b ts) ≤ g (look (suc v) b ss)

pub own_block : (e : Entry) (v : ℕ) → e.volume.0 ≡ v → is_block v e.block.0 e ≡ true
own_block e v q = and_from (e.volume.0 == v) (e.block.0 == e.block.0) (eq-eqb e.volume.0 v q) (eq-eqb e.block.0 e.block.0 refl)

pub other_volume : (e : Entry) (v b : ℕ) → e.volume.0 ≢ v → is_block v b e ≡ false
other_volume e v b o = and_left (e.volume.0 == v) (e.block.0 == b) (ne_eqb e.volume.0 v o)

pub free_holds : held_in free_entry ≡ 0
free_holds = no_held free_entry.places refl

module _ (v b : ℕ) (e : Entry) (es : List Entry) where
  pub look_head : is_block v b e ≡ true → look v b (e ∷ es) ≡ e
  look_head t = ap (λ (o : Option ℕ). look_in o (e ∷ es)) (found_at (is_block v b) (e ∷ es) 0 free_entry (omega arith) t (λ j l. absurd (omega arith)))

  pub look_tail : is_block v b e ≡ false → look v b (e ∷ es) ≡ look v b es
  look_tail t = go (index_of v b es) refl
    where
      go : (o : Option ℕ) → index_of v b es ≡ o → look v b (e ∷ es) ≡ look_in o es
      go None q = look_in_none v b (e ∷ es) (none_from_zero (is_block v b) (e ∷ es) free_entry (none_counted (is_block v b) (e ∷ es) free_entry fails))
        where
          fails : (i : ℕ) → i < length (e ∷ es) → is_block v b (get_or (e ∷ es) i free_entry) ≡ false
          fails zero l = t
          fails (suc i) l = none_of (is_block v b) es free_entry q i (omega arith)
      go (Some i) q =
          let p = position-Some (is_block v b) es i free_entry q in
          ap (λ (o : Option ℕ). look_in o (e ∷ es)) (found_at (is_block v b) (e ∷ es) (suc i) free_entry (omega (arith, p.0)) p.1 (fails p.2))
        where
          fails : ((j : ℕ) → j < i → is_block v b (get_or es j free_entry) ≡ false) → (j : ℕ) → j < suc i → is_block v b (get_or (e ∷ es) j free_entry) ≡ false
          fails h zero l = t
          fails h (suc j) l = h j (omega arith)

  pub count_head : count_by (is_block v b) (e ∷ es) ≡ one (is_block v b e) + count_by (is_block v b) es
  count_head = sum_by-cons (λ (z : Entry). cond (is_block v b z) 1 0) e es

pub single_tail : (e : Entry) (es : List Entry) → Single (e ∷ es) → Single es
single_tail e es h v b = omega (arith, h v b, count_head (suc v) b e es)

-- the block of the first entry has no other
pub none_behind : (v : ℕ) (e : Entry) (es : List Entry) → Single (e ∷ es) → e.volume.0 ≡ suc v → count_by (is_block (suc v) e.block.0) es ≡ 0
none_behind v e es h q = omega (arith, h v e.block.0, count_head (suc v) e.block.0 e es, ap one (own_block e (suc v) q))

module _ (g : Entry → ℕ) (nothing : g free_entry ≡ 0) where
  no_more : (v b : ℕ) (es : List Entry) → count_by (is_block (suc v) b) es ≡ 0 → g (look (suc v) b es) ≡ 0
  no_more v b es c = ap g (look_in_none (suc v) b es (none_from_zero (is_block (suc v) b) es free_entry c)) ∙ nothing

  -- the first entry, where the others weigh no more than any list does in which no block weighs less
  module _ (e : Entry) (es ss : List Entry) (single : Single (e ∷ es)) (idle : Idle g (e ∷ es)) (h : Lighter g (e ∷ es) ss) (rest : (rs : List Entry) → Lighter g es rs → sum_by g es ≤ sum_by g rs) where
    of_none : e.volume.0 ≡ 0 → sum_by g (e ∷ es) ≤ sum_by g ss
    of_none q = omega (arith, sum_by-cons g e es, idle 0 q, rest ss (λ v b. omega (arith, h v b, ap g (look_tail (suc v) b e es (other_volume e (suc v) b (λ z. absurd (omega (arith, q, z))))))))

    of_some : (u : ℕ) → e.volume.0 ≡ suc u → sum_by g (e ∷ es) ≤ sum_by g ss
    of_some u q = at (index_of (suc u) e.block.0 ss) refl
      where
        here : g e ≤ g (look (suc u) e.block.0 ss)
        here = omega (arith, h u e.block.0, ap g (look_head (suc u) e.block.0 e es (own_block e (suc u) q)))

        -- of the other blocks, where the second list keeps them
        less : (rs : List Entry) → ((v b : ℕ) → is_block (suc v) b e ≡ false → look (suc v) b rs ≡ look (suc v) b ss) → Lighter g es rs
        less rs same v b = by (is_block (suc v) b e) refl
          where
            by : (t : Bool) → is_block (suc v) b e ≡ t → g (look (suc v) b es) ≤ g (look (suc v) b rs)
            by true t =
                let f = one_block (suc u) e.block.0 (suc v) b e (own_block e (suc u) q) t in
                let none : count_by (is_block (suc v) b) es ≡ 0 = subst (λ (n : ℕ). count_by (is_block n b) es ≡ 0) (sym f.0) (subst (λ (n : ℕ). count_by (is_block (suc u) n) es ≡ 0) (sym f.1) (none_behind u e es single q)) in
                omega (arith, no_more v b es none)
            by false t = omega (arith, h v b, ap g (look_tail (suc v) b e es t), ap g (same v b t))

        at : (o : Option ℕ) → index_of (suc u) e.block.0 ss ≡ o → sum_by g (e ∷ es) ≤ sum_by g ss
        at None p = omega (arith, sum_by-cons g e es, here, ap g (look_in_none (suc u) e.block.0 ss p), nothing, rest ss (less ss (λ v b t. refl)))
        at (Some j) p =
            let found = position-Some (is_block (suc u) e.block.0) ss j free_entry p in
            let others = less (set ss j free_entry) (λ v b t. look_same (suc v) b ss j free_entry (other v b t (is_block (suc v) b (get_or ss j free_entry)) refl) (no_block v b)) in
            omega (arith, sum_by-cons g e es, here, ap (λ (o : Option ℕ). g (look_in o ss)) p, sum_by-set g ss j free_entry free_entry found.0, nothing, rest (set ss j free_entry) others)
          where
            other : (v b : ℕ) → is_block (suc v) b e ≡ false → (t : Bool) → is_block (suc v) b (get_or ss j free_entry) ≡ t → is_block (suc v) b (get_or ss j free_entry) ≡ false
            other v b o false t = t
            other v b o true t =
                let f = one_block (suc u) e.block.0 (suc v) b (get_or ss j free_entry) (its_own (suc u) e.block.0 j ss p) t in
                let is : is_block (suc v) b e ≡ true = subst (λ (n : ℕ). is_block n b e ≡ true) (sym f.0) (subst (λ (n : ℕ). is_block (suc u) n e ≡ true) (sym f.1) (own_block e (suc u) q)) in
                let y : false ≡ true = sym o ∙ is in
                let z : ◌≡◌ {A = ℕ} 0 1 = cc in
                absurd (omega arith)

    of_either : sum_by g (e ∷ es) ≤ sum_by g ss
    of_either = go e.volume.0 refl
      where
        go : (u : ℕ) → e.volume.0 ≡ u → sum_by g (e ∷ es) ≤ sum_by g ss
        go zero q = of_none q
        go (suc u) q = of_some u q

  pub weighs_no_more : (ts ss : List Entry) → Single ts → Idle g ts → Lighter g ts ss → sum_by g ts ≤ sum_by g ss
  weighs_no_more [] ss single idle h = omega arith
  weighs_no_more (e ∷ es) ss single idle h = of_either e es ss single idle h (λ rs. weighs_no_more es rs (single_tail e es single) (λ i. idle (suc i)))

-- of what is held less, where a block holds less
pub holds_less : (ts ss : List Entry) → Single ts → Idle held_in ts → Lighter held_in ts ss → (v b : ℕ) → held_in (look (suc v) b ts) < held_in (look (suc v) b ss) → held ts < held ss
holds_less ts ss single idle h v b l = at (index_of (suc v) b ss) refl
  where
    -- the second list's entry, with the places of the first's
    y : Entry
    y = record { volume = record { 0 = suc v }; block = record { 0 = b }; stamp = record { 0 = 0 }; places = (look (suc v) b ts).places }

    at : (o : Option ℕ) → index_of (suc v) b ss ≡ o → held ts < held ss
    at None p = absurd (omega (arith, l, ap held_in (look_in_none (suc v) b ss p), free_holds))
    at (Some j) p =
        omega (arith, sum_by-set held_in ss j y free_entry inside, weighs_no_more held_in free_holds ts (set ss j y) single idle more, ap (λ (o : Option ℕ). held_in (look_in o ss)) p, l)
      where
        inside : j < length ss
        inside = (position-Some (is_block (suc v) b) ss j free_entry p).0

        more : Lighter held_in ts (set ss j y)
        more u a = by (is_block (suc u) a y) refl (is_block (suc u) a (get_or ss j free_entry)) refl
          where
            same : (u ≡ v) × (a ≡ b) → held_in (look (suc u) a ts) ≤ held_in (look (suc u) a (set ss j y))
            same f =
                let here : held_in (look (suc v) b (set ss j y)) ≡ held_in (look (suc v) b ts) = ap held_in (look_here (suc v) b ss j y inside p (own_block y (suc v) refl)).0 in
                let there : held_in (look (suc u) a (set ss j y)) ≡ held_in (look (suc u) a ts) = rw (f.0, f.1) here in
                omega (arith, there)

            by : (t : Bool) → is_block (suc u) a y ≡ t → (c : Bool) → is_block (suc u) a (get_or ss j free_entry) ≡ c → held_in (look (suc u) a ts) ≤ held_in (look (suc u) a (set ss j y))
            by true t c r = let f = one_block (suc v) b (suc u) a y (own_block y (suc v) refl) t in same (omega (arith, f.0), f.1)
            by false t true r = let f = one_block (suc v) b (suc u) a (get_or ss j free_entry) (its_own (suc v) b j ss p) r in same (omega (arith, f.0), f.1)
            by false t false r = omega (arith, h u a, ap held_in (look_same (suc u) a ss j y r t))
