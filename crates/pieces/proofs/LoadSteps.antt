-- Entries are loaded one after the other.
use Rattle.std.proofs.Common.{◌≡◌, ℕ, zero, suc, ◌+◌, ◌-◌, ◌*◌, ◌<◌, ◌≤◌, Bool, true, false, cond, List, [], ◌∷◌, ◌++◌, length, get_or, take, drop, replicate, Some, None, Option, refl, sym, ap, ◌∙◌, arith, add-zero, length-set}
use Rattle.std.proofs.lemmas.List.{drop_more, drop_all, drop-drop}
use Rattle.pieces.specs.declared.entry.Entry.{Entry}
use Rattle.pieces.specs.Entries.{entry_of, free_entry, is_block_number}
use Rattle.pieces.specs.Kept.{Kept, index_of}
use Rattle.pieces.specs.Loads.{entries_in, take_all, restored, restores_of, restores, load_entry, then_load, load_entries}

pub long_entries : (n : ℕ) (bs : List ℕ) → length (entries_in n bs) ≡ n
unfolding entries_in
long_entries zero bs = refl
long_entries (suc n) bs = ap suc (long_entries n (drop 64 bs))

pub entry_in : (n i : ℕ) (bs : List ℕ) → i < n → get_or (entries_in n bs) i free_entry ≡ entry_of (take 64 (drop (64 * i) bs))
unfolding entries_in
entry_in zero i bs l = absurd (omega arith)
entry_in (suc n) zero bs l = refl
entry_in (suc n) (suc i) bs l =
    let further : 64 * suc i ≡ 64 + 64 * i = omega arith in
    entry_in n i (drop 64 bs) (omega arith) ∙ ap (λ (xs : List ℕ). entry_of (take 64 xs)) (drop-drop (64 * i) 64 bs ∙ ap (λ (k : ℕ). drop k bs) (sym further))

-- the entry in the i-th part behind the generation
pub part_read : (n i : ℕ) (bs : List ℕ) (e : Entry) → i < n → e ≡ entry_of (take (64 + 64 * i + 64 - (64 + 64 * i)) (drop (64 + 64 * i) bs)) → e ≡ get_or (entries_in n (drop 64 bs)) i free_entry
part_read n i bs e l read =
    let part : 64 + 64 * i + 64 - (64 + 64 * i) ≡ 64 = omega arith in
    read ∙ ap (λ (w : ℕ). entry_of (take w (drop (64 + 64 * i) bs))) part ∙ ap (λ (xs : List ℕ). entry_of (take 64 xs)) (sym (drop-drop (64 * i) 64 bs)) ∙ sym (entry_in n i (drop 64 bs) l)

some_same : (k m : Kept) → Some k ≡ Some m → k ≡ m
some_same k m e = cc

none_some : {A : Type 0} (m : Kept) → None ≡ Some m → A
none_some m e = let z : ◌≡◌ {A = ℕ} 0 1 = cc in absurd (omega arith)

long_restored : (i : ℕ) (e : Entry) (k m : Kept) (t : Option (List Bool)) → restored i e k t ≡ Some m → length m.entries ≡ length k.entries
long_restored i e k m None q = none_some m q
long_restored i e k m (Some ts) q = sym (ap (λ (z : Kept). length z.entries) (some_same _ m q)) ∙ length-set k.entries i e

long_restores : (o : Option ℕ) (i : ℕ) (e : Entry) (k m : Kept) → restores_of o i e k ≡ Some m → length m.entries ≡ length k.entries
long_restores (Some j) i e k m q = none_some m q
long_restores None i e k m q = long_restored i e k m (take_all e.places k.taken) q

pub long_load : (lives : ℕ → Bool) (i : ℕ) (e : Entry) (k m : Kept) → load_entry lives i e k ≡ Some m → length m.entries ≡ length k.entries
unfolding restores
long_load lives i e k m q = go (lives e.volume.0) (is_block_number e.block.0) q
  where
    go : (b c : Bool) → cond b (cond c (restores_of (index_of e.volume.0 e.block.0 k.entries) i e k) None) (Some k) ≡ Some m → length m.entries ≡ length k.entries
    go true true h = long_restores (index_of e.volume.0 e.block.0 k.entries) i e k m h
    go true false h = none_some m h
    go false c h = sym (ap (λ (z : Kept). length z.entries) (some_same k m h))

pub load_more : (lives : ℕ → Bool) (base i : ℕ) (es : List Entry) (e : Entry) (k m : Kept) (r : Option Kept) → i < length es → e ≡ get_or es i free_entry → load_entry lives (base + i) e k ≡ Some m → load_entries lives (base + i) (drop i es) k ≡ r → load_entries lives (base + (i + 1)) (drop (i + 1) es) m ≡ r
unfolding load_entries
load_more lives base i es e k m r inside at q held =
    let first : load_entries lives (base + i) (drop i es) k ≡ then_load (load_entries lives (base + i + 1) (drop (i + 1) es)) (load_entry lives (base + i) (get_or es i free_entry) k) =
    ap (λ (xs : List Entry). load_entries lives (base + i) xs k) (drop_more es i free_entry inside) in
    let one : load_entry lives (base + i) (get_or es i free_entry) k ≡ Some m = ap (λ (x : Entry). load_entry lives (base + i) x k) (sym at) ∙ q in
    let far : base + i + 1 ≡ base + (i + 1) = omega arith in
    sym (ap (λ (n : ℕ). load_entries lives n (drop (i + 1) es) m) far) ∙ sym (ap (λ (o : Option Kept). then_load (load_entries lives (base + i + 1) (drop (i + 1) es)) o) one) ∙ sym first ∙ held

pub load_end : (lives : ℕ → Bool) (base i : ℕ) (es : List Entry) (k : Kept) (r : Option Kept) → length es ≤ i → load_entries lives (base + i) (drop i es) k ≡ r → r ≡ Some k
unfolding load_entries
load_end lives base i es k r past held = sym held ∙ ap (λ (xs : List Entry). load_entries lives (base + i) xs k) (drop_all i es past)

pub load_append : (lives : ℕ → Bool) (i : ℕ) (xs ys : List Entry) (k : Kept) → load_entries lives i (xs ++ ys) k ≡ then_load (load_entries lives (i + length xs) ys) (load_entries lives i xs k)
unfolding load_entries
load_append lives i [] ys k = ap (λ (n : ℕ). load_entries lives n ys k) (sym (add-zero i))
load_append lives i (x ∷ xs) ys k = go (load_entry lives i x k) (load_append lives (i + 1) xs ys)
  where
    far : i + 1 + length xs ≡ i + length (x ∷ xs)
    far = omega arith

    go : (o : Option Kept) → ((m : Kept) → load_entries lives (i + 1) (xs ++ ys) m ≡ then_load (load_entries lives (i + 1 + length xs) ys) (load_entries lives (i + 1) xs m)) → then_load (load_entries lives (i + 1) (xs ++ ys)) o ≡ then_load (load_entries lives (i + length (x ∷ xs)) ys) (then_load (load_entries lives (i + 1) xs) o)
    go None ih = refl
    go (Some m) ih = ih m ∙ ap (λ (n : ℕ). then_load (load_entries lives n ys) (load_entries lives (i + 1) xs m)) far

pub load_broken : (lives : ℕ → Bool) (base i : ℕ) (es : List Entry) (e : Entry) (k : Kept) (r : Option Kept) → i < length es → e ≡ get_or es i free_entry → load_entry lives (base + i) e k ≡ None → load_entries lives (base + i) (drop i es) k ≡ r → r ≡ None
unfolding load_entries
load_broken lives base i es e k r inside at q held =
    let first : load_entries lives (base + i) (drop i es) k ≡ then_load (load_entries lives (base + i + 1) (drop (i + 1) es)) (load_entry lives (base + i) (get_or es i free_entry) k) = ap (λ (xs : List Entry). load_entries lives (base + i) xs k) (drop_more es i free_entry inside) in
    sym held ∙ first ∙ ap (λ (o : Option Kept). then_load (load_entries lives (base + i + 1) (drop (i + 1) es)) o) (ap (λ (x : Entry). load_entry lives (base + i) x k) (sym at) ∙ q)

-- free entries load nothing
pub load_free : (lives : ℕ → Bool) (i n : ℕ) (k : Kept) → lives 0 ≡ false → load_entries lives i (replicate n free_entry) k ≡ Some k
unfolding load_entries
load_free lives i zero k h = refl
load_free lives i (suc n) k h = ap (λ (b : Bool). then_load (load_entries lives (i + 1) (replicate n free_entry)) (cond b (restores i free_entry k) (Some k))) h ∙ load_free lives (i + 1) n k h
