-- A new directory is sound, and all is zeros.
use Rattle.std.proofs.Common.{◌≡◌, ℕ, zero, suc, ◌*◌, ◌/◌, ◌%◌, true, false, cond, length, get_or, replicate, Some, None, Option, refl, sym, ap, ◌∙◌, arith}
use Rattle.std.specs.List.{sum_by}
use Rattle.std.proofs.lemmas.List.{length-replicate}
use Rattle.std.proofs.lemmas.List.Folds.{sum_by-replicate}
use Rattle.std.proofs.lemmas.List.Sums.{sum_by-cons}
use Rattle.pieces.specs.declared.entry.Entry.{Entry}
use Rattle.pieces.specs.Entries.{is_block, free_entry}
use Rattle.pieces.specs.Layouts.{places_of, entries_of}
use Rattle.pieces.specs.Kept.{blank_kept}
use Rattle.pieces.specs.Meaning.{uses_in, held_in, one, look_in, Sound, content, BlankMeans}
use Rattle.pieces.proofs.Counting.{no_use, no_held}
use Rattle.pieces.proofs.Looking.{zeros_at, place_looked, no_block}

-- the default, so many times
pub defaults : {X : Type 0} (n : ℕ) (d : X) (i : ℕ) → get_or (replicate n d) i d ≡ d
defaults zero d i = refl
defaults (suc n) d zero = refl
defaults (suc n) d (suc i) = defaults n d i

-- a sum of nothings
pub nothing : {X : Type 0} (f : X → ℕ) (n : ℕ) (x : X) → f x ≡ 0 → sum_by f (replicate n x) ≡ 0
nothing f n x e = sum_by-replicate f n x ∙ ap (λ (m : ℕ). n * m) e ∙ omega arith

pub blank_sound : (size : ℕ) → Sound size (blank_kept size)
blank_sound size = record {
  entries = length-replicate (entries_of size) free_entry;
  taken = ap suc (length-replicate (places_of size) false);
  none = refl;
  eight = λ i. ap (λ (z : Entry). length z.places) (defaults (entries_of size) free_entry i);
  apart = λ p. nothing (uses_in (suc p)) (entries_of size) free_entry (no_use p free_entry.places refl) ∙ sym (ap one (defaults (places_of size) false p));
  total = omega (arith, sum_by-cons one true (replicate (places_of size) false), nothing one (places_of size) false refl, nothing held_in (entries_of size) free_entry (no_held free_entry.places refl));
  single = λ v b. omega (arith, nothing (λ (z : Entry). cond (is_block (suc v) b z) 1 0) (entries_of size) free_entry (ap one (no_block v b)));
}

blank_looks : (size v b : ℕ) (o : Option ℕ) → look_in o (blank_kept size).entries ≡ free_entry
blank_looks size v b None = refl
blank_looks size v b (Some i) = defaults (entries_of size) free_entry i

pub blank_means : BlankMeans
blank_means = record {
  sound = λ size least. blank_sound size;
  blank = λ size v n d. ap (content d) (place_looked (suc v) n (blank_kept size) ∙ ap (λ (z : Entry). get_or z.places (n % 8) 0) (blank_looks size (suc v) (n / 8) _) ∙ zeros_at free_entry.places (n % 8) refl);
}
