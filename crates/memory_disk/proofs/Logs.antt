-- What the writes of a log give to the sectors, one write after the other.
use Rattle.std.proofs.Common.{◌≡◌, ℕ, ◌+◌, ◌<◌, ◌≤◌, Bool, true, false, cond, ◌&&◌, eqb, ◌⊎◌, List, [], ◌∷◌, ◌++◌, length, get_or, take, sym, refl, ap, ◌∙◌, subst, inl, inr}
use mathlib.Core.Bool.{false≢true}
use mathlib.Core.List.{Memᴰ}
use Rattle.std.proofs.lemmas.List.{take_more, take_all}
use Rattle.journal.specs.declared.state.Write.{Write}
use Rattle.journal.specs.Programs.{no_write}
use Rattle.memory_disk.specs.Contents.{Table, kept_at, shown_at, present, since_after, since_in, if_any, Settled, Lost}

-- one write more at the end of a log
since_push : (bs : List (List ℕ)) (ws : List Write) (w : Write) (n : ℕ) →
    since_after bs (ws ++ w ∷ []) n ≡ cond (eqb n w.target.0) (w.bytes ∷ since_after bs ws n) (since_after bs ws n)
since_push bs [] w n = refl
since_push bs (x ∷ ws) w n = since_push (cond (eqb n x.target.0) (x.bytes ∷ bs) bs) ws w n

pub since_one : (ws : List Write) (w : Write) (n : ℕ) → since_in (ws ++ w ∷ []) n ≡ cond (eqb n w.target.0) (w.bytes ∷ since_in ws n) (since_in ws n)
since_one ws w n = since_push [] ws w n

-- one write more of a loop over a log
abbrev nth : List Write → ℕ → Write
nth ws i = get_or ws i no_write

since_more : (ws : List Write) (i n : ℕ) → i < length ws →
    since_in (take (i + 1) ws) n ≡ cond (eqb n (nth ws i).target.0) ((nth ws i).bytes ∷ since_in (take i ws) n) (since_in (take i ws) n)
since_more ws i n l = ap (λ (xs : List Write). since_in xs n) (take_more ws i no_write l) ∙ since_one (take i ws) (nth ws i) n

-- a loop that settles
settle_step : {A B : Type 0} (b : Bool) (x : A) (xs : List A) (p q r s : B) → r ≡ p → s ≡ if_any xs p q → cond b r s ≡ if_any (cond b (x ∷ xs) xs) p q
settle_step true x xs p q r s e f = e
settle_step false x xs p q r s e f = f

pub settle_none : (m : Table) → Settled [] m m
settle_none m = record { kept = λ n. refl; shown = λ n. refl }

pub settle_more : (ws : List Write) (i : ℕ) (m m1 m2 : Table) → i < length ws → Settled (take i ws) m m1 →
    ((n : ℕ) → kept_at m2 n ≡ cond (eqb n (nth ws i).target.0) (shown_at m1 n) (kept_at m1 n)) → ((n : ℕ) → shown_at m2 n ≡ shown_at m1 n) → Settled (take (i + 1) ws) m m2
settle_more ws i m m1 m2 l h k s = record {
  kept = λ n.
      k n ∙ settle_step (eqb n (nth ws i).target.0) (nth ws i).bytes (since_in (take i ws) n) (shown_at m n) (kept_at m n) (shown_at m1 n) (kept_at m1 n) (h.shown n) (h.kept n) ∙
      ap (λ (xs : List (List ℕ)). if_any xs (shown_at m n) (kept_at m n)) (sym (since_more ws i n l));
  shown = λ n. s n ∙ h.shown n;
}

pub settle_all : (ws : List Write) (i : ℕ) (m m' : Table) → length ws ≤ i → Settled (take i ws) m m' → Settled ws m m'
settle_all ws i m m' l h = subst (λ (xs : List Write). Settled xs m m') (take_all i ws l) h

-- a loop that loses
pub lose_none : (m : Table) → Lost [] m m
lose_none m = record { kept = λ n. inl refl; shown = λ n. refl }

-- from one table to the next the sector k, and no other, keeps these bytes, or what it kept
abbrev Keeps : Table → Table → ℕ → List ℕ → Type 0
Keeps m m' k b = (n : ℕ) → (kept_at m' n ≡ kept_at m n) ⊎ ((eqb n k ≡ true) × (kept_at m' n ≡ b))

kept_step : (b : Bool) (x : List ℕ) (xs : List (List ℕ)) (new old was : List ℕ) → (new ≡ old) ⊎ ((b ≡ true) × (new ≡ x)) → (old ≡ was) ⊎ Memᴰ old xs →
    (new ≡ was) ⊎ Memᴰ new (cond b (x ∷ xs) xs)
kept_step true x xs new old was (inl e) (inl f) = inl (e ∙ f)
kept_step true x xs new old was (inl e) (inr m) = inr (Memᴰ.tail (subst (λ (y : List ℕ). Memᴰ y xs) (sym e) m))
kept_step true x xs new old was (inr e) h = inr (Memᴰ.head e.1)
kept_step false x xs new old was (inl e) (inl f) = inl (e ∙ f)
kept_step false x xs new old was (inl e) (inr m) = inr (subst (λ (y : List ℕ). Memᴰ y xs) (sym e) m)
kept_step false x xs new old was (inr e) h = elim (false≢true e.0) [ ]

shown_step : (b : Bool) (x : List ℕ) (xs : List (List ℕ)) (new old was s : List ℕ) → (new ≡ old) ⊎ ((b ≡ true) × (new ≡ x)) → s ≡ if_any xs old was →
    cond b new s ≡ if_any (cond b (x ∷ xs) xs) new was
shown_step true x xs new old was s k h = refl
shown_step false x xs new old was s (inl e) h = h ∙ ap (λ (y : List ℕ). if_any xs y was) (sym e)
shown_step false x xs new old was s (inr e) h = elim (false≢true e.0) [ ]

module _ (ws : List Write) (i : ℕ) (m m1 m2 m3 : Table) (l : i < length ws) (h : Lost (take i ws) m m1)
    (k : (n : ℕ) → kept_at m3 n ≡ kept_at m2 n) (s : (n : ℕ) → shown_at m3 n ≡ cond (eqb n (nth ws i).target.0) (kept_at m2 n) (shown_at m2 n)) where
  lose_more : Keeps m1 m2 (nth ws i).target.0 (nth ws i).bytes → ((n : ℕ) → shown_at m2 n ≡ shown_at m1 n) → Lost (take (i + 1) ws) m m3
  lose_more f g = record {
    kept = λ n.
        subst (λ (xs : List (List ℕ)). (kept_at m3 n ≡ kept_at m n) ⊎ Memᴰ (kept_at m3 n) xs) (sym (since_more ws i n l))
        (subst (λ (y : List ℕ). (y ≡ kept_at m n) ⊎ Memᴰ y (cond (eqb n (nth ws i).target.0) ((nth ws i).bytes ∷ since_in (take i ws) n) (since_in (take i ws) n))) (sym (k n))
        (kept_step (eqb n (nth ws i).target.0) (nth ws i).bytes (since_in (take i ws) n) (kept_at m2 n) (kept_at m1 n) (kept_at m n) (f n) (h.kept n)));
    shown = λ n.
        s n ∙ shown_step (eqb n (nth ws i).target.0) (nth ws i).bytes (since_in (take i ws) n) (kept_at m2 n) (kept_at m1 n) (shown_at m n) (shown_at m2 n) (f n) (g n ∙ h.shown n) ∙
        ap (λ (y : List ℕ). if_any (cond (eqb n (nth ws i).target.0) ((nth ws i).bytes ∷ since_in (take i ws) n) (since_in (take i ws) n)) y (shown_at m n)) (sym (k n)) ∙
        ap (λ (xs : List (List ℕ)). if_any xs (kept_at m3 n) (shown_at m n)) (sym (since_more ws i n l));
  }

  -- the write stays
  pub lose_kept : (m2' : Table) → m2 ≡ m2' → ((n : ℕ) → kept_at m2' n ≡ cond (eqb n (nth ws i).target.0 && present m1 (nth ws i).target.0) (nth ws i).bytes (kept_at m1 n)) →
      ((n : ℕ) → shown_at m2' n ≡ shown_at m1 n) → Lost (take (i + 1) ws) m m3
  lose_kept m2' same e g =
      lose_more (λ n. go n (eqb n (nth ws i).target.0) (present m1 (nth ws i).target.0) (ap (λ (t : Table). kept_at t n) same ∙ e n)) (λ n. ap (λ (t : Table). shown_at t n) same ∙ g n)
    where
      go : (n : ℕ) (a b : Bool) → kept_at m2 n ≡ cond (a && b) (nth ws i).bytes (kept_at m1 n) → (kept_at m2 n ≡ kept_at m1 n) ⊎ ((a ≡ true) × (kept_at m2 n ≡ (nth ws i).bytes))
      go n true true q = inr (refl, q)
      go n true false q = inl q
      go n false b q = inl q

  -- the write is lost
  pub lose_left : m2 ≡ m1 → Lost (take (i + 1) ws) m m3
  lose_left e = lose_more (λ n. inl (ap (λ (t : Table). kept_at t n) e)) (λ n. ap (λ (t : Table). shown_at t n) e)

pub lose_all : (ws : List Write) (i : ℕ) (m m' : Table) → length ws ≤ i → Lost (take i ws) m m' → Lost ws m m'
lose_all ws i m m' l h = subst (λ (xs : List Write). Lost xs m m') (take_all i ws l) h
