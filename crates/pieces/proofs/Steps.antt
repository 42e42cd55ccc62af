-- Changes step by step, and that none of them changes how many entries there are.
use Rattle.pieces.specs.declared.entry.Entry.{Entry}
use Rattle.std.proofs.Common.{◌≡◌, ℕ, zero, suc, ◌+◌, ◌==◌, Bool, true, false, cond, length, refl, ◌∙◌, add-one, length-set}
use Rattle.pieces.specs.Entries.{free_entry}
use Rattle.pieces.specs.Kept.{Kept, entry_at, frees_place, puts_place, cleared, vacated, forgets_at, forgotten}
use Rattle.pieces.specs.Replaces.{vacates_at, vacates_where}

pub long_frees : (i s v : ℕ) (k : Kept) → length (frees_place i s v k).entries ≡ length k.entries
unfolding frees_place
long_frees i s v k = length-set k.entries i _

pub long_puts : (i s p v : ℕ) (k : Kept) → length (puts_place i s p v k).entries ≡ length k.entries
unfolding puts_place
long_puts i s p v k = length-set k.entries i _

pub long_cleared : (i s : ℕ) (k : Kept) → length (cleared i s k).entries ≡ length k.entries
unfolding cleared
long_cleared i zero k = refl
long_cleared i (suc s) k = long_frees i s 0 (cleared i s k) ∙ long_cleared i s k

pub long_vacated : (i : ℕ) (k : Kept) → length (vacated i k).entries ≡ length k.entries
unfolding vacated
long_vacated i k = length-set (cleared i 8 k).entries i free_entry ∙ long_cleared i 8 k

pub long_forgets : (v i : ℕ) (k : Kept) → length (forgets_at v i k).entries ≡ length k.entries
unfolding forgets_at
long_forgets v i k = go ((entry_at i k).volume.0 == v)
  where
    go : (b : Bool) → length (cond b (vacated i k) k).entries ≡ length k.entries
    go true = long_vacated i k
    go false = refl

pub long_forgotten : (v n : ℕ) (k : Kept) → length (forgotten v n k).entries ≡ length k.entries
unfolding forgotten
long_forgotten v zero k = refl
long_forgotten v (suc n) k = long_forgets v n (forgotten v n k) ∙ long_forgotten v n k

pub cleared_none : (i : ℕ) (k : Kept) → k ≡ cleared i 0 k
unfolding cleared
cleared_none i k = refl

pub cleared_more : (i s : ℕ) (k m t : Kept) → m ≡ cleared i s k → t ≡ frees_place i s 0 m → t ≡ cleared i (s + 1) k
unfolding cleared
cleared_more i s k m t e f = rw (add-one, f, e) refl

pub forgotten_none : (v : ℕ) (k : Kept) → k ≡ forgotten v 0 k
unfolding forgotten
forgotten_none v k = refl

pub forgotten_more : (v i : ℕ) (k m t : Kept) → m ≡ forgotten v i k → t ≡ forgets_at v i m → t ≡ forgotten v (i + 1) k
unfolding forgotten
forgotten_more v i k m t e f = rw (add-one, f, e) refl

pub long_vacates : (f : Entry → Bool) (i : ℕ) (k : Kept) → length (vacates_at f i k).entries ≡ length k.entries
unfolding vacates_at
long_vacates f i k = go (f (entry_at i k))
  where
    go : (b : Bool) → length (cond b (vacated i k) k).entries ≡ length k.entries
    go true = long_vacated i k
    go false = refl

pub long_where : (f : Entry → Bool) (n : ℕ) (k : Kept) → length (vacates_where f n k).entries ≡ length k.entries
unfolding vacates_where
long_where f zero k = refl
long_where f (suc n) k = long_vacates f n (vacates_where f n k) ∙ long_where f n k

pub where_none : (f : Entry → Bool) (k : Kept) → k ≡ vacates_where f 0 k
unfolding vacates_where
where_none f k = refl

pub where_more : (f : Entry → Bool) (i : ℕ) (k m t : Kept) → m ≡ vacates_where f i k → t ≡ vacates_at f i m → t ≡ vacates_where f (i + 1) k
unfolding vacates_where
where_more f i k m t e g = rw (add-one, g, e) refl
