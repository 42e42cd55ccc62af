-- What is on the device stays what is kept.
use Rattle.std.proofs.Common.{◌≡◌, ◌⊎◌, inl, inr, ℕ, suc, Bool, true, false, cond, List, length, get_or, Some, refl, sym, ap, ◌∙◌, arith}
use Rattle.std.proofs.lemmas.Bool.{cases_eq}
use Rattle.pieces.specs.declared.entry.Entry.{Entry}
use Rattle.pieces.specs.Entries.{free_entry}
use Rattle.pieces.specs.Kept.{Kept, WasSet, entry_at, forgotten}
use Rattle.pieces.specs.Meaning.{Sound, SetsOne}
use Rattle.pieces.specs.Loading.{living, OnDevice, StaysOnDevice}
use Rattle.pieces.proofs.Forgetting.{entry_forgotten, entry_stays}
use Rattle.pieces.proofs.Steps.{long_forgotten}

set_stays : (size v n w : ℕ) (blank : Bool) (lives : ℕ → Bool) (k : Kept) (r : WasSet) (es fs : List Entry) → SetsOne size v n blank w k r → Sound size k → OnDevice lives es k → length fs ≡ length es →
    ((j : ℕ) → (get_or fs j free_entry ≡ entry_at j r.kept) ⊎ ((get_or fs j free_entry ≡ get_or es j free_entry) × (r.writes.entry ≡ Some j → ⊥))) → OnDevice lives fs r.kept
set_stays size v n w blank lives k r es fs x s o l h = (omega (arith, o.0, x.sound.entries, s.entries), λ j. go j (h j))
  where
    go : (j : ℕ) → (get_or fs j free_entry ≡ entry_at j r.kept) ⊎ ((get_or fs j free_entry ≡ get_or es j free_entry) × (r.writes.entry ≡ Some j → ⊥)) → living lives (get_or fs j free_entry) ≡ living lives (entry_at j r.kept)
    go j (inl e) = ap (living lives) e
    go j (inr e) = ap (living lives) e.0 ∙ o.1 j ∙ ap (living lives) (sym (x.elsewhere j e.1))

both_free : (b : Bool) → cond b free_entry free_entry ≡ free_entry
both_free true = refl
both_free false = refl

forget_stays : (size v : ℕ) (lives : ℕ → Bool) (k : Kept) (es : List Entry) → Sound size k → lives (suc v) ≡ false → OnDevice lives es k → OnDevice lives es (forgotten (suc v) (length k.entries) k)
forget_stays size v lives k es x dead o = (omega (arith, o.0, long_forgotten (suc v) (length k.entries) k), λ j. o.1 j ∙ go j (cases_eq (entry_at j k).volume.0 (suc v)))
  where
    go : (j : ℕ) → ((entry_at j k).volume.0 ≡ suc v) ⊎ ((entry_at j k).volume.0 ≡ suc v → ⊥) → living lives (entry_at j k) ≡ living lives (entry_at j (forgotten (suc v) (length k.entries) k))
    go j (inl e) =
        let none : living lives (entry_at j k) ≡ free_entry = ap (λ (b : Bool). cond b (entry_at j k) free_entry) (ap lives e ∙ dead) in
        none ∙ sym (both_free (lives free_entry.volume.0)) ∙ ap (living lives) (sym (entry_forgotten size v k x j e))
    go j (inr e) = ap (living lives) (sym (entry_stays size v k x j e))

-- fewer see what more see, and of that their own
twice : (lives fewer : ℕ → Bool) (e : Entry) → (fewer e.volume.0 ≡ true → lives e.volume.0 ≡ true) → living fewer (living lives e) ≡ living fewer e
twice lives fewer e h = go (lives e.volume.0) refl (fewer e.volume.0) refl
  where
    go : (b : Bool) → lives e.volume.0 ≡ b → (c : Bool) → fewer e.volume.0 ≡ c → living fewer (living lives e) ≡ living fewer e
    go true p c q = ap (λ (b : Bool). living fewer (cond b e free_entry)) p
    go false p true q = let y : false ≡ true = sym p ∙ h q in let z : ◌≡◌ {A = ℕ} 0 1 = cc in absurd (omega arith)
    go false p false q = ap (λ (b : Bool). living fewer (cond b e free_entry)) p ∙ both_free (fewer free_entry.volume.0) ∙ sym (ap (λ (c : Bool). cond c e free_entry) q)

fewer_stay : (lives fewer : ℕ → Bool) (k : Kept) (es : List Entry) → ((v : ℕ) → fewer v ≡ true → lives v ≡ true) → OnDevice lives es k → OnDevice fewer es k
fewer_stay lives fewer k es h o =
    (o.0, λ j. sym (twice lives fewer (get_or es j free_entry) (h (get_or es j free_entry).volume.0)) ∙ ap (living fewer) (o.1 j) ∙ twice lives fewer (entry_at j k) (h (entry_at j k).volume.0))

pub stays_on_device : StaysOnDevice
stays_on_device = record { set_written = set_stays; forgotten_unwritten = forget_stays; fewer_live = fewer_stay; begun_again = λ size lives. (refl, λ j. refl) }
