-- That a sector shows what was written to it last, over the steps of the disk.
use Rattle.std.proofs.Common.{◌≡◌, ℕ, Bool, true, false, cond, eqb, ◌⊎◌, List, [], ◌∷◌, ◌++◌, sym, refl, ap, ◌∙◌, inl, inr}
use mathlib.Core.List.{Memᴰ}
use Rattle.journal.specs.declared.Place.{Place}
use Rattle.journal.specs.declared.state.Write.{Write}
use Rattle.disks.specs.Device.{zeros, latest}
use Rattle.memory_disk.specs.Contents.{Table, kept_at, shown_at, since_in, if_any, Wrote, Settled, Lost}
use Rattle.memory_disk.proofs.Logs.{since_one}

-- the disk's invariant
abbrev pub Shows : Table → List Write → Type 0
Shows m ws = (n : ℕ) → shown_at m n ≡ latest (kept_at m n) (since_in ws n)

-- with an empty log a sector shows what it keeps
even-shows : (m : Table) (ws : List Write) → ws ≡ [] → ((n : ℕ) → shown_at m n ≡ kept_at m n) → Shows m ws
unfolding latest
even-shows m ws e h n = h n ∙ ap (λ (xs : List Write). latest (kept_at m n) (since_in xs n)) (sym e)

pub blank_shows : (m : Table) (ws : List Write) → ws ≡ [] → ((n : ℕ) → kept_at m n ≡ zeros 512) → ((n : ℕ) → shown_at m n ≡ zeros 512) → Shows m ws
blank_shows m ws e k s = even-shows m ws e (λ n. s n ∙ sym (k n))

latest_one : (b : Bool) (x old : List ℕ) (xs : List (List ℕ)) (s : List ℕ) → s ≡ latest old xs → cond b x s ≡ latest old (cond b (x ∷ xs) xs)
unfolding latest
latest_one true x old xs s h = refl
latest_one false x old xs s h = h

-- one write more, behind a log that is the one before
pub noted_shows : (m m' : Table) (ws ws1 ws2 : List Write) (p : Place) (b : List ℕ) → Shows m ws → ws1 ≡ ws → ws2 ≡ ws1 ++ record { target = p; bytes = b } ∷ [] → Wrote p.0 b m m' → Shows m' ws2
noted_shows m m' ws ws1 ws2 p b h same e t n =
    let w : Write = record { target = p; bytes = b } in
    t.shown n ∙ latest_one (eqb n p.0) b (kept_at m n) (since_in ws n) (shown_at m n) (h n) ∙ ap (latest (kept_at m n)) (sym (since_one ws w n)) ∙
    ap (λ (x : List ℕ). latest x (since_in (ws ++ w ∷ []) n)) (sym (t.kept n)) ∙
    ap (λ (xs : List Write). latest (kept_at m' n) (since_in xs n)) (sym (e ∙ ap (λ (xs : List Write). xs ++ w ∷ []) same))

-- all stays
pub settled_is : (m m' : Table) (ws : List Write) → Shows m ws → Settled ws m m' → (n : ℕ) → kept_at m' n ≡ latest (kept_at m n) (since_in ws n)
unfolding latest
settled_is m m' ws h e n = e.kept n ∙ go (since_in ws n) (h n)
  where
    go : (xs : List (List ℕ)) → shown_at m n ≡ latest (kept_at m n) xs → if_any xs (shown_at m n) (kept_at m n) ≡ latest (kept_at m n) xs
    go [] q = refl
    go (x ∷ xs) q = q

pub settled_shows : (m m' : Table) (ws ws' : List Write) → Shows m ws → Settled ws m m' → ws' ≡ [] → Shows m' ws'
settled_shows m m' ws ws' h e q = even-shows m' ws' q (λ n. e.shown n ∙ h n ∙ sym (settled_is m m' ws h e n))

-- some is lost
pub lost_shows : (m m' : Table) (ws ws' : List Write) → Shows m ws → Lost ws m m' → ws' ≡ [] → Shows m' ws'
unfolding latest
lost_shows m m' ws ws' h e q = even-shows m' ws' q (λ n. e.shown n ∙ go n (since_in ws n) (h n) (e.kept n))
  where
    go : (n : ℕ) (xs : List (List ℕ)) → shown_at m n ≡ latest (kept_at m n) xs → (kept_at m' n ≡ kept_at m n) ⊎ Memᴰ (kept_at m' n) xs → if_any xs (kept_at m' n) (shown_at m n) ≡ kept_at m' n
    go n [] s (inl k) = s ∙ sym k
    go n [] s (inr k) = elim k [ ]
    go n (x ∷ xs) s k = refl
