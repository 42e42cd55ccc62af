-- What is loaded of a tidy directory is what was kept itself: its entries are the same one by one, and which places are taken follows from
-- them, since the taken places are those that are used.
use Rattle.std.proofs.Common.{◌≡◌, ◌⊎◌, inl, inr, ℕ, zero, suc, Bool, true, false, List, length, get_or, Some, refl, sym, ap, ◌∙◌, arith}
use Rattle.std.proofs.lemmas.List.{ext_get_or}
use Rattle.pieces.specs.declared.entry.Entry.{Entry}
use Rattle.pieces.specs.Entries.{free_entry}
use Rattle.pieces.specs.Kept.{Kept, blank_kept, entry_at, raised}
use Rattle.pieces.specs.Loads.{load_entries}
use Rattle.pieces.specs.Meaning.{uses, one, is_taken, Sound}
use Rattle.pieces.specs.Loading.{living, OnDevice, BlocksInRange, Clean, Tidy, LoadSame}
use Rattle.pieces.proofs.Restoring.{living_cases}
use Rattle.pieces.proofs.Loading.{all_loaded, all_living, long_all}

-- an entry of a tidy directory lives or is free
tidy_living : (lives : ℕ → Bool) (k : Kept) → Tidy lives k → (j : ℕ) → living lives (entry_at j k) ≡ entry_at j k
tidy_living lives k t j = go (living_cases lives (entry_at j k))
  where
    go : ((lives (entry_at j k).volume.0 ≡ true) × (living lives (entry_at j k) ≡ entry_at j k)) ⊎ ((lives (entry_at j k).volume.0 ≡ false) × (living lives (entry_at j k) ≡ free_entry)) → living lives (entry_at j k) ≡ entry_at j k
    go (inl a) = a.1
    go (inr a) = a.1 ∙ sym (t j a.0)

pub tidy_exact : (lives : ℕ → Bool) (k : Kept) (es : List Entry) → Tidy lives k → OnDevice lives es k → (j : ℕ) → living lives (get_or es j free_entry) ≡ entry_at j k
tidy_exact lives k es t o j = o.1 j ∙ tidy_living lives k t j

pub tidy_on_device : (lives : ℕ → Bool) (k : Kept) (es : List Entry) → Tidy lives k → length es ≡ length k.entries → ((j : ℕ) → living lives (get_or es j free_entry) ≡ entry_at j k) → OnDevice lives es k
tidy_on_device lives k es t l h = (l, λ j. h j ∙ sym (tidy_living lives k t j))

pub tidy_clean : (lives : ℕ → Bool) (k : Kept) → lives 0 ≡ false → Tidy lives k → Clean k
tidy_clean lives k nobody t i z = t i (ap lives z ∙ nobody)

same_bool : (a b : Bool) → one a ≡ one b → a ≡ b
same_bool true true e = refl
same_bool true false e = absurd (omega (arith, e))
same_bool false true e = absurd (omega (arith, e))
same_bool false false e = refl

-- the same entries have the same places taken
same_taken : (size : ℕ) (k m : Kept) → Sound size k → Sound size m → m.entries ≡ k.entries → m.taken ≡ k.taken
same_taken size k m x y e = ext_get_or false m.taken k.taken (y.taken ∙ sym x.taken) (λ p l. at p)
  where
    at : (p : ℕ) → is_taken p m.taken ≡ is_taken p k.taken
    at zero = y.none ∙ sym x.none
    at (suc p) = same_bool (is_taken (suc p) m.taken) (is_taken (suc p) k.taken) (sym (y.apart p) ∙ ap (uses (suc p)) e ∙ x.apart p)

same_kept : (k m : Kept) (f : ℕ) → m.entries ≡ k.entries → m.taken ≡ k.taken → m.floor ≡ f → ◌≡◌ {A = Kept} m (record k { floor = f })
same_kept k m f a b c = λ i. record { entries = a i; taken = b i; floor = c i }

load_same : (size floor : ℕ) (lives : ℕ → Bool) (k : Kept) (es : List Entry) → Sound size k → BlocksInRange k → lives 0 ≡ false → Tidy lives k → length es ≡ length k.entries → ((j : ℕ) → living lives (get_or es j free_entry) ≡ entry_at j k) → load_entries lives 0 es (raised floor (blank_kept size)) ≡ Some (record k { floor = floor })
load_same size f lives k es x few nobody t l h =
    let r = all_loaded size f lives k es x few nobody (tidy_on_device lives k es t l h) in
    let entries : r.0.entries ≡ k.entries = ext_get_or free_entry r.0.entries k.entries (long_all size f lives k r.0 x nobody r.2) (λ j i. all_living size f lives k r.0 x nobody r.2 j ∙ tidy_living lives k t j) in
    r.1 ∙ ap (λ (m : Kept). Some m) (same_kept k r.0 f entries (same_taken size k r.0 x r.2.sound entries) r.2.floor)

pub loads_same : LoadSame
loads_same = record { same = load_same; exact = tidy_exact; on_device = tidy_on_device; clean = tidy_clean }
