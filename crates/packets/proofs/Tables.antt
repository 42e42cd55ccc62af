-- What each house has, in the houses' order.
use Rattle.std.proofs.Common.{◌≡◌, ℕ, zero, suc, ◌+◌, ◌<◌, Bool, true, false, cond, ◌&&◌, T, eqb, ltb, List, [], ◌∷◌, ◌++◌, length, refl, sym, ap, ap₂, ◌∙◌, subst, inl, inr, append_assoc, append-nil, add-one, arith, length-append}
use Rattle.std.specs.List.{flat_map, list_all}
use Rattle.std.proofs.Math.Bool.{and-false}
use Rattle.std.proofs.lemmas.Bool.{lt-ltb, cases_lt}
use Rattle.std.proofs.lemmas.Bool.Decides.{nat_tests}
use Rattle.std.proofs.lemmas.Grind.{flat_map-append}
use Rattle.std.proofs.lemmas.List.Folds.{list_all-append}
use Rattle.disks.specs.Cluster.{put}
use Rattle.octets.proofs.Numbers.{join}
use Rattle.packets.specs.declared.fault.Unsent.{Unsent}
use Rattle.packets.specs.declared.fault.Unsent.TheVariants as unsent
use Rattle.packets.specs.Codecs.{Codec, Unfit, exactly}
use Rattle.packets.specs.Formats.{AnswerSession}
use Rattle.packets.specs.Seen.{table}

-- ---- the first so many

module _ {A : Type 0} where
  table_same : (n : ℕ) (f g : ℕ → A) → ((k : ℕ) → k < n → f k ≡ g k) → table n f ≡ table n g
  unfolding table
  table_same zero f g h = refl
  table_same (suc n) f g h = ap₂ (λ (xs : List A) (x : A). xs ++ x ∷ []) (table_same n f g (λ k lt. h k (omega arith))) (h n (omega arith))

  pub table_more : (n : ℕ) (f : ℕ → A) → table (n + 1) f ≡ table n f ++ f n ∷ []
  unfolding table
  table_more n f = rw add-one refl

  pub length-table : (n : ℕ) (f : ℕ → A) → length (table n f) ≡ n
  unfolding table
  length-table zero f = refl
  length-table (suc n) f = rw length-append (omega (arith, length-table n f))

other : (k n : ℕ) → k < n → eqb k n ≡ false
other k n lt = grind (arith, nat_tests)

same : (n : ℕ) → eqb n n ≡ true
same n = grind (arith, nat_tests)

-- a session was put behind those of the houses before
pub sessions_on : (n : ℕ) (x : AnswerSession) (old new : ℕ → AnswerSession) → n < 49 → new ≡ cond (ltb n 49) (put n x old) old → table (n + 1) new ≡ table n old ++ x ∷ []
sessions_on n x old new lt e =
    let inside : ltb n 49 ≡ true = lt-ltb n 49 lt in
    let is : new ≡ put n x old = e ∙ rw inside refl in
    let here : new n ≡ x = ap (λ (f : ℕ → AnswerSession). f n) is ∙ rw (same n) refl in
    let before : (k : ℕ) → k < n → new k ≡ old k = λ k l. ap (λ (f : ℕ → AnswerSession). f k) is ∙ rw (other k n l) refl in
    table_more n new ∙ ap₂ (λ (xs : List AnswerSession) (y : AnswerSession). xs ++ y ∷ []) (table_same n new old before) here

-- ---- putting each

module _ {A : Type 0} (c : Codec A) (f : ℕ → A) where
  pub each_spelled : (n : ℕ) (old head out new : List ℕ) → out ≡ old ++ (head ++ flat_map c.bytes (table n f)) → new ≡ out ++ c.bytes (f n) → new ≡ old ++ (head ++ flat_map c.bytes (table (n + 1) f))
  each_spelled n old head out new e g =
      let more : flat_map c.bytes (table (n + 1) f) ≡ flat_map c.bytes (table n f) ++ c.bytes (f n) = ap (flat_map c.bytes) (table_more n f) ∙ flat_map-append c.bytes (table n f) (f n ∷ []) ∙ ap (λ (xs : List ℕ). flat_map c.bytes (table n f) ++ xs) (append-nil (c.bytes (f n))) in
      g ∙ ap (λ (xs : List ℕ). xs ++ c.bytes (f n)) e ∙ append_assoc old (head ++ flat_map c.bytes (table n f)) (c.bytes (f n)) ∙ ap (λ (xs : List ℕ). old ++ xs) (append_assoc head (flat_map c.bytes (table n f)) (c.bytes (f n)) ∙ ap (λ (xs : List ℕ). head ++ xs) (sym more))

  one_fits : (x : A) → T (c.fits x) → T (c.fits x && true)
  one_fits x h = join (c.fits x) true h tt

  pub each_fits : (n : ℕ) → T (list_all c.fits (table n f)) → T (c.fits (f n)) → T (list_all c.fits (table (n + 1) f))
  each_fits n h g =
      let more : list_all c.fits (table (n + 1) f) ≡ (list_all c.fits (table n f) && (c.fits (f n) && true)) = ap (list_all c.fits) (table_more n f) ∙ list_all-append c.fits (table n f) (f n ∷ []) in
      subst (λ (b : Bool). T b) (sym more) (join _ _ h (one_fits (f n) g))

  parts : (n : ℕ) → list_all c.fits (table n f ++ f n ∷ []) ≡ (list_all c.fits (table n f) && (c.fits (f n) && true))
  parts n = list_all-append c.fits (table n f) (f n ∷ [])

  last : (n i : ℕ) → i ≡ n → c.fits (f i) ≡ false → list_all c.fits (table n f ++ f n ∷ []) ≡ false
  last n i is h =
      let no : c.fits (f n) ≡ false = ap (λ (k : ℕ). c.fits (f k)) (sym is) ∙ h in
      parts n ∙ rw no (and-false (list_all c.fits (table n f)))

  one_unfit : (n i : ℕ) → i < n → c.fits (f i) ≡ false → list_all c.fits (table n f) ≡ false
  unfolding table
  one_unfit zero i lt h = absurd (omega arith)
  one_unfit (suc n) i lt h = elim (cases_lt i n) [ inl l ↦ parts n ∙ rw (one_unfit n i l h) refl | inr le ↦ last n i (omega arith) h ]

  pub each_unfit : (e : Unsent) (n i : ℕ) → i < n → Unfit c (f i) e → Unfit (exactly n c) (table n f) e
  each_unfit unsent.Memory n i lt h = tt
  each_unfit unsent.TooMuch n i lt h = rw (one_unfit n i lt h) (and-false (eqb (length (table n f)) n))

  pub each_long : (n : ℕ) → T (list_all c.fits (table n f)) → T (eqb (length (table n f)) n && list_all c.fits (table n f))
  each_long n h = let long : eqb (length (table n f)) n ≡ true = rw length-table (same n) in rw long h
