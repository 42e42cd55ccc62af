-- Pictures stand. Numbers of pictures are each one's own and below the next; from a state on, what is there was there or is newer. So a
-- picture with an old number is the old picture.
use Rattle.std.specs.Prelude.{◌≡◌, ◌⊎◌, Bool, ℕ, ◌+◌, ◌<◌, ◌≤◌}
use Rattle.std.proofs.Common.{ap, sym, ◌∙◌, inl, inr, arith, le_refl}
use Rattle.std.proofs.Math.Logic.{⊎_map}
use mathlib.Core.List.Memᴰ
use mathlib.Core.List.{List, [], ◌∷◌, ◌++◌, Memᴰ}
use Rattle.disks.specs.Disks.{Picture, State, keep}
use Rattle.disks.specs.Promise.{PicturesStand}
use Rattle.disks.proofs.Steps.{nothing, made, changed, dropped, taken, thrown, Move, called, shortened, along, on_cond}

mem_append : {A : Type 0} {x : A} (xs : List A) {y : A} → Memᴰ x (xs ++ (y ∷ [])) → Memᴰ x xs ⊎ (x ≡ y)
mem_append xs m = ⊎_map (λ k. k) (λ k. Memᴰ.eq_of_singleton k) (Memᴰ.append_cases xs m)

mem_keep : {A : Type 0} (f : A → Bool) {x : A} (xs : List A) → Memᴰ x (keep f xs) → Memᴰ x xs
unfolding keep
mem_keep f [] m = m
mem_keep f {x} (z ∷ xs) m =
    on_cond (λ ys. Memᴰ x ys → Memᴰ x (z ∷ xs)) (f z) (λ _ n. elim (Memᴰ.cases_cons n) [ inl e ↦ Memᴰ.head e | inr k ↦ Memᴰ.tail (mem_keep f xs k) ])
    (λ _ n. Memᴰ.tail (mem_keep f xs n)) m

-- of the pictures of a state that can be come to: numbers below the next, each one's own
record Own (next : ℕ) (ps : List Picture) : Type 0 where
  low : (p : Picture) → Memᴰ p ps → p.num < next
  own : (p q : Picture) → Memᴰ p ps → Memᴰ q ps → p.num ≡ q.num → p ≡ q

own-taken : (n : ℕ) (ps : List Picture) (x : Picture) → x.num ≡ n → Own n ps → Own (n + 1) (ps ++ (x ∷ []))
own-taken n ps x e o = record { low = λ p m. low p (mem_append ps m); own = λ p q m k g. own p q (mem_append ps m) (mem_append ps k) g }
  where
    low : (p : Picture) → Memᴰ p ps ⊎ (p ≡ x) → p.num < n + 1
    low p (inl m) = omega (arith, o.low p m)
    low p (inr h) = omega (arith, ap (λ (y : Picture). y.num) h)

    own : (p q : Picture) → Memᴰ p ps ⊎ (p ≡ x) → Memᴰ q ps ⊎ (q ≡ x) → p.num ≡ q.num → p ≡ q
    own p q (inl m) (inl k) g = o.own p q m k g
    own p q (inl m) (inr h) g = absurd (omega (arith, o.low p m, ap (λ (y : Picture). y.num) h))
    own p q (inr h) (inl k) g = absurd (omega (arith, o.low q k, ap (λ (y : Picture). y.num) h))
    own p q (inr h) (inr k) g = h ∙ sym k

own_step : {s u : State} → Own s.next s.pictures → Move s u → Own u.next u.pictures
own_step o (called nothing) = o
own_step o (called (made x e)) = record { low = λ p m. omega (arith, o.low p m); own = o.own }
own_step o (called (changed w f e h)) = o
own_step o (called (dropped w)) = o
own_step {s} o (called (taken p e)) = own-taken s.next s.pictures p e o
own_step {s} o (called (thrown f)) = record { low = λ p m. o.low p (mem_keep f s.pictures m); own = λ p q m n e. o.own p q (mem_keep f s.pictures m) (mem_keep f s.pictures n) e }
own_step o (shortened ws x) = o

none-own : (n : ℕ) → Own n []
none-own n = record { low = λ p m. elim m [ ]; own = λ p q m k e. elim m [ ] }

-- from a state on: what is there was there, or is newer
record Since (n : ℕ) (ps : List Picture) (m : ℕ) (qs : List Picture) : Type 0 where
  on : n ≤ m
  new : (q : Picture) → Memᴰ q qs → Memᴰ q ps ⊎ (n ≤ q.num)

since_step : (n : ℕ) (ps : List Picture) {s u : State} → Since n ps s.next s.pictures → Move s u → Since n ps u.next u.pictures
since_step n ps o (called nothing) = o
since_step n ps o (called (made x e)) = record { on = omega (arith, o.on); new = o.new }
since_step n ps o (called (changed w f e h)) = o
since_step n ps o (called (dropped w)) = o
since_step n ps {s} o (called (taken p e)) = record { on = omega (arith, o.on); new = λ q m. go q (mem_append s.pictures m) }
  where
    go : (q : Picture) → Memᴰ q s.pictures ⊎ (q ≡ p) → Memᴰ q ps ⊎ (n ≤ q.num)
    go q (inl m) = o.new q m
    go q (inr h) = inr (omega (arith, o.on, ap (λ (y : Picture). y.num) h))
since_step n ps {s} o (called (thrown f)) = record { on = o.on; new = λ q m. o.new q (mem_keep f s.pictures m) }
since_step n ps o (shortened ws x) = o

pub pictures-stand : PicturesStand
pictures-stand s t r u p q mp mq e = go ((along (λ (t : State). Since s.next s.pictures t.next t.pictures) (λ s' u'. since_step s.next s.pictures) u (record { on = le_refl _; new = λ q m. inl m })).new q mq)
  where
    o : Own s.next s.pictures
    o = along (λ (t : State). Own t.next t.pictures) (λ s u. own_step) r (none-own 1)

    go : Memᴰ q s.pictures ⊎ (s.next ≤ q.num) → (p.size ≡ q.size) × ((n : ℕ) → p.sector n ≡ q.sector n)
    go (inl m) = (ap (λ (y : Picture). y.size) (o.own p q mp m e), λ n. ap (λ (y : Picture). y.sector n) (o.own p q mp m e))
    go (inr h) = absurd (omega (arith, o.low p mp))
