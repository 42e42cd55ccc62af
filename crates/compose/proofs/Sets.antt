use Rattle.std.specs.Prelude.{◌≡◌, refl}
use Rattle.std.proofs.Common.{ap}
use mathlib.Core.List.{List, [], ◌∷◌, ◌++◌, Memᴰ}
use Rattle.disks.specs.Cluster.{is_done, is_told, is_busy}
use Rattle.compose.specs.Sets.{Takes, here, there, taken, takes, Perm, nil, ins, ready, TakenDone, TakenTold, TakenBusy, TakenMany}

-- what is taken out stands somewhere, and what stands somewhere can be taken out
pub take_split : {A : Type 0} {x : A} {xs ys : List A} → Takes x xs ys → (before : List A) × (behind : List A) × (xs ≡ before ++ x ∷ behind) × (ys ≡ before ++ behind)
take_split (here {ys = ys}) = ([], ys, refl, refl)
take_split (there {z = z} t) = let (before, behind, e, g) = take_split t in (z ∷ before, behind, ap (λ zs. z ∷ zs) e, ap (λ zs. z ∷ zs) g)

pub mem_takes : {A : Type 0} {x : A} {xs : List A} → Memᴰ x xs → (ys : List A) × Takes x xs ys
mem_takes {A} {x} (Memᴰ.head {xs = xs} e) = (xs, rw (← e) here)
mem_takes (Memᴰ.tail {x = y} m) = let (ys, t) = mem_takes m in (y ∷ ys, there t)

pub takes_mem : {A : Type 0} {x : A} {xs ys : List A} → Takes x xs ys → Memᴰ x xs
takes_mem here = Memᴰ.head refl
takes_mem (there t) = Memᴰ.tail (takes_mem t)

-- taken out of what stands behind other elements, and before them
pub takes-behind : {A : Type 0} {x : A} (before : List A) {xs ys : List A} → Takes x xs ys → Takes x (before ++ xs) (before ++ ys)
takes-behind [] t = t
takes-behind (z ∷ before) t = there (takes-behind before t)

pub takes-before : {A : Type 0} {x : A} (behind : List A) {xs ys : List A} → Takes x xs ys → Takes x (xs ++ behind) (ys ++ behind)
takes-before behind here = here
takes-before behind (there t) = there (takes-before behind t)

pub takes_middle : {A : Type 0} {x : A} (before behind : List A) → Takes x (before ++ x ∷ behind) (before ++ behind)
takes_middle before behind = takes-behind before here

-- two elements taken out one after the other can be taken out the other way round
pub swap : {A : Type 0} {a x : A} {ys zs vs : List A} → Takes a ys zs → Takes x zs vs → (us : List A) × Takes x ys us × Takes a us vs
swap {a = a} {vs = vs} here u = (a ∷ vs, there u, here)
swap (there t) here = (_, here, t)
swap (there {z = z} t) (there u) = let (us, v, w) = swap t u in (z ∷ us, there v, there w)

-- from lists with the same elements the same element can be taken out, and put back
pub perm_take : {A : Type 0} {x : A} {xs ys xs' : List A} → Perm xs ys → Takes x xs xs' → (ys' : List A) × Takes x ys ys' × Perm xs' ys'
perm_take nil t = elim t [ ]
perm_take (ins {zs = zs} t q) here = (zs, t, q)
perm_take (ins t q) (there u) =
    let (zs', v, q') = perm_take q u in
    let (us, v', t') = swap t v in
    (us, v', ins t' q')

pub perm_put : {A : Type 0} {x : A} {xs xs' ys ys' : List A} → Takes x xs xs' → Takes x ys ys' → Perm xs' ys' → Perm xs ys
perm_put here u q = ins u q
perm_put (there t) u (ins v q) =
    let (us, v', u') = swap u v in
    ins v' (perm_put t u' q)

pub perm_refl : {A : Type 0} (xs : List A) → Perm xs xs
perm_refl [] = nil
perm_refl (x ∷ xs) = ins here (perm_refl xs)

pub perm_sym : {A : Type 0} {xs ys : List A} → Perm xs ys → Perm ys xs
perm_sym nil = nil
perm_sym (ins t q) = perm_put t here (perm_sym q)

pub perm_trans : {A : Type 0} {xs ys zs : List A} → Perm xs ys → Perm ys zs → Perm xs zs
perm_trans nil q = q
perm_trans (ins t q) q' =
    let (zs', u, q'') = perm_take q' t in
    ins u (perm_trans q q'')

pub taken_done : TakenDone
taken_done O R p es w ws ws' s t r rs f c l m a =
    let (before, behind, e, g) = take_split m in
    rw g (is_done before behind w.house w.id w.call (rw e at l) a)

pub taken-told : TakenTold
taken-told O R p es ws s y rs rs' f c l m =
    let (before, behind, e, g) = take_split m in
    rw g (is_told before behind y.house y.id y.reply (rw e at l))

pub taken-busy : TakenBusy
taken-busy O R p es w ws ws' s rs f c l m =
    let (before, behind, e, g) = take_split m in
    rw g (is_busy before behind w.house w.id w.call (rw e at l))

pub taken_many : TakenMany
taken_many O R p x es ds ws ws' s rs f c l taken = l
taken_many O R p x es ds ws ws' s rs f c l (takes {d = d} {ds = ds'} {vs = vs} t ts) =
    taken_many O R p x es ds' vs ws' (x.state d.call s) (ready d (x.reply d.call s) ∷ rs) f c (taken_done O R p es d ws vs s (x.state d.call s) (x.reply d.call s) rs f c l t (x.allowed d.call s)) ts
