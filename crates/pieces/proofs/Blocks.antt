-- What is held is held by the blocks of entries in use, each of which has its own entry.
use Rattle.std.proofs.Common.{◌≡◌, ◌≢◌, ℕ, zero, suc, ◌<◌, Bool, true, false, cond, ◌==◌, List, [], ◌∷◌, length, get_or, refl, sym, ap, ◌∙◌, arith}
use Rattle.std.specs.List.{sum_by}
use Rattle.std.proofs.lemmas.List.Sums.{sum_by-cons, get_or-le-sum_by}
use Rattle.std.proofs.lemmas.Bool.{eqb-true, eqb-false}
use Rattle.pieces.specs.declared.entry.Entry.{Entry}
use Rattle.pieces.specs.declared.changed.Key.{Key}
use Rattle.pieces.specs.Entries.{is_block, free_entry}
use Rattle.pieces.specs.Changes.{entry_key}
use Rattle.pieces.specs.Meaning.{look, held_in, held, one}
use Rattle.pieces.specs.Counts.{keys_in, no_key, Distinct, HeldByBlocks}
use Rattle.pieces.proofs.Holding.{Single, Idle, own_block, count_head, single_tail, look_head, look_tail}
use Rattle.pieces.proofs.Within.{idle}

pub sum_alike : {X : Type 0} (f g : X → ℕ) (xs : List X) (d : X) → ((i : ℕ) → i < length xs → f (get_or xs i d) ≡ g (get_or xs i d)) → sum_by f xs ≡ sum_by g xs
sum_alike f g [] d h = refl
sum_alike f g (x ∷ xs) d h = omega (arith, sum_by-cons f x xs, sum_by-cons g x xs, h 0 (omega arith), sum_alike f g xs d (λ i l. h (suc i) (omega arith)))

-- a key of the list is one of these entries'
abbrev Of : List Entry → List Key → Type 0
Of es bs = (i : ℕ) → i < length bs → ((get_or bs i no_key).volume.0 ≢ 0) × ((j : ℕ) × (j < length es) × (entry_key (get_or es j free_entry) ≡ get_or bs i no_key))

keys_of : (es : List Entry) → Of es (keys_in es)
keys_of [] i l = absurd (omega arith)
keys_of (e ∷ es) i l = go (e.volume.0 == 0) refl (keys_of es) i l
  where
    behind : Of es (keys_in es) → Of (e ∷ es) (keys_in es)
    behind h i l = let f = h i l in (f.0, (suc f.1.0, omega (arith, f.1.1), f.1.2))

    go : (t : Bool) → (e.volume.0 == 0) ≡ t → Of es (keys_in es) → Of (e ∷ es) (cond t (keys_in es) (entry_key e ∷ keys_in es))
    go true t h i l = behind h i l
    go false t h zero l = (eqb-false e.volume.0 0 t, (0, omega arith, refl))
    go false t h (suc i) l = behind h i (omega arith)

block_of_key : (e : Entry) (b : Key) → entry_key e ≡ b → is_block b.volume.0 b.block.0 e ≡ true
block_of_key e b q = ap (λ (z : Key). is_block z.volume.0 z.block.0 e) (sym q) ∙ own_block e e.volume.0 refl

-- a key of those behind isn't the first entry's
not_first : (e : Entry) (es : List Entry) → Single (e ∷ es) → (i : ℕ) → i < length (keys_in es) → is_block (get_or (keys_in es) i no_key).volume.0 (get_or (keys_in es) i no_key).block.0 e ≡ false
not_first e es single i l = go b.volume.0 refl (is_block b.volume.0 b.block.0 e) refl
  where
    b : Key
    b = get_or (keys_in es) i no_key

    go : (v : ℕ) → b.volume.0 ≡ v → (t : Bool) → is_block b.volume.0 b.block.0 e ≡ t → is_block b.volume.0 b.block.0 e ≡ false
    go v q false t = t
    go zero q true t = absurd ((keys_of es i l).0 q)
    go (suc v) q true t =
        let f = (keys_of es i l).1 in
        let there : is_block (suc v) b.block.0 (get_or es f.0 free_entry) ≡ true = ap (λ (n : ℕ). is_block n b.block.0 (get_or es f.0 free_entry)) (sym q) ∙ block_of_key (get_or es f.0 free_entry) b f.2 in
        let here : is_block (suc v) b.block.0 e ≡ true = ap (λ (n : ℕ). is_block n b.block.0 e) (sym q) ∙ t in
        absurd (omega (arith, single v b.block.0, count_head (suc v) b.block.0 e es, get_or-le-sum_by (λ (z : Entry). cond (is_block (suc v) b.block.0 z) 1 0) es f.0 free_entry f.1, ap one there, ap one here))

keys_apart : (es : List Entry) → Single es → Distinct (keys_in es)
keys_apart [] single = λ i j l m e. absurd (omega arith)
keys_apart (e ∷ es) single = go (e.volume.0 == 0) (keys_apart es (single_tail e es single))
  where
    more : Distinct (keys_in es) → Distinct (entry_key e ∷ keys_in es)
    more h i zero l m q = absurd (omega arith)
    more h zero (suc j) l m q =
        let y : false ≡ true = sym (not_first e es single j (omega arith)) ∙ block_of_key e (get_or (keys_in es) j no_key) q in
        let z : ◌≡◌ {A = ℕ} 0 1 = cc in
        absurd (omega arith)
    more h (suc i) (suc j) l m q = h i j (omega arith) (omega arith) q

    go : (t : Bool) → Distinct (keys_in es) → Distinct (cond t (keys_in es) (entry_key e ∷ keys_in es))
    go true h = h
    go false h = more h

abbrev holding : List Entry → Key → ℕ
holding es b = held_in (look b.volume.0 b.block.0 es)

all_held : (es : List Entry) → Single es → Idle held_in es → held es ≡ sum_by (holding es) (keys_in es)
all_held [] single idle = refl
all_held (e ∷ es) single idle = go (e.volume.0 == 0) refl (all_held es (single_tail e es single) (λ i. idle (suc i)))
  where
    others : sum_by (holding (e ∷ es)) (keys_in es) ≡ sum_by (holding es) (keys_in es)
    others = sum_alike (holding (e ∷ es)) (holding es) (keys_in es) no_key (λ i l. ap held_in (look_tail (get_or (keys_in es) i no_key).volume.0 (get_or (keys_in es) i no_key).block.0 e es (not_first e es single i l)))

    go : (t : Bool) → (e.volume.0 == 0) ≡ t → held es ≡ sum_by (holding es) (keys_in es) → held (e ∷ es) ≡ sum_by (holding (e ∷ es)) (cond t (keys_in es) (entry_key e ∷ keys_in es))
    go true t ih = omega (arith, sum_by-cons held_in e es, idle 0 (eqb-true e.volume.0 0 t), others, ih)
    go false t ih = omega (arith, sum_by-cons held_in e es, sum_by-cons (holding (e ∷ es)) (entry_key e) (keys_in es), ap held_in (look_head e.volume.0 e.block.0 e es (own_block e e.volume.0 refl)), others, ih)

pub held_by_blocks : HeldByBlocks
held_by_blocks = record {
  distinct = λ size k x. keys_apart k.entries x.single;
  in_use = λ k. keys_of k.entries;
  total = λ size k x c. all_held k.entries x.single (idle k c);
  bounded = λ size bound k x c h. omega (arith, all_held k.entries x.single (idle k c), h (keys_in k.entries) (keys_apart k.entries x.single) (keys_of k.entries));
}
