-- Calls done in the past. A call that changes nothing may be taken as done at any state that the history passed since it was made: a
-- service that answers a read by such a state, when it is no longer the present one, is still as one place.
-- The argument: a call that waits carries the states that it passed. For each that waits choose whether it goes on waiting or was done
-- at one of them. By induction on the history there is an ordinary one for every choice: where a step reaches a new state, those chosen
-- to be done there are done right then, and it stays as it is.
-- Assumes nothing.
use mathlib.Core.List.{List, [], ◌∷◌, map, Memᴰ}
use Rattle.std.specs.Prelude.{ℕ, suc, ◌<◌}
use Rattle.disks.specs.Cluster.{Seen, called, answered, fell, Plain, Waiting, Ready, Linear}
use Rattle.compose.specs.Sets.{Takes, Perm, ready}

-- a call that waits, and the states since it was made, the present one included
pub record Since {O R : Type 0} (p : Plain O R) : Type 0 where
  pub waiting : Waiting O
  pub passed : List p.State

-- all of them come to a state
abbrev pub passes : {O R : Type 0} {p : Plain O R} → p.State → List (Since p) → List (Since p)
passes t [] = []
passes t (w ∷ ws) = record { waiting = w.waiting; passed = t ∷ w.passed } ∷ passes t ws

-- What may be seen of one place where a call may also have been done in the past, if it left the state as it was.
pub data Late {O R : Type 0} (p : Plain O R) : List (Seen O R) → p.State → List (Since p) → List (Ready R) → (falls cuts : ℕ) → Type 0 where
  at_first : Late p [] p.start [] [] 0 0
  makes : {es : List (Seen O R)} {s : p.State} {ws : List (Since p)} {rs : List (Ready R)} {f c : ℕ} (i k : ℕ) (o : O) → Late p es s ws rs f c →
      Late p (called i k o ∷ es) s (record { waiting = record { house = i; id = k; call = o }; passed = s ∷ [] } ∷ ws) rs f c
  is_done : {es : List (Seen O R)} {s t : p.State} {w : Since p} {ws ws' : List (Since p)} {rs : List (Ready R)} {f c : ℕ} {r : R} → Late p es s ws rs f c → Takes w ws ws' → p.Answers w.waiting.call s r t →
      Late p es t (passes t ws') (ready w.waiting r ∷ rs) f c
  was_done : {es : List (Seen O R)} {s x : p.State} {w : Since p} {ws ws' : List (Since p)} {rs : List (Ready R)} {f c : ℕ} {r : R} → Late p es s ws rs f c → Takes w ws ws' → Memᴰ x w.passed → p.Answers w.waiting.call x r x →
      Late p es s ws' (ready w.waiting r ∷ rs) f c
  is_told : {es : List (Seen O R)} {s : p.State} {ws : List (Since p)} {y : Ready R} {rs rs' : List (Ready R)} {f c : ℕ} → Late p es s ws rs f c → Takes y rs rs' → Late p (answered y.house y.id y.reply ∷ es) s ws rs' f c
  is_busy : {es : List (Seen O R)} {s : p.State} {w : Since p} {ws ws' : List (Since p)} {rs : List (Ready R)} {f c : ℕ} → Late p es s ws rs f c → Takes w ws ws' →
      Late p (answered w.waiting.house w.waiting.id p.busy ∷ es) s ws' rs f c
  has_fallen : {es : List (Seen O R)} {s : p.State} {ws : List (Since p)} {rs : List (Ready R)} {f c : ℕ} (i : ℕ) → Late p es s ws rs f c → Late p (fell i ∷ es) s ws rs (suc f) c
  is_cut : {es : List (Seen O R)} {s t : p.State} {ws : List (Since p)} {rs : List (Ready R)} {f c : ℕ} → Late p es s ws rs f c → c < f → p.Cut s t → Late p es t (passes t ws) rs f (suc c)

-- INSERTED INTO THE PAST: what may be seen so may be seen of one place, with the same calls waiting, the same answers ready in some
-- order, the same falls and cuts.
abbrev pub InsertedIntoThePast : Type 1
InsertedIntoThePast =
    (O R : Type 0) (p : Plain O R) (es : List (Seen O R)) (s : p.State) (ws : List (Since p)) (rs : List (Ready R)) (f c : ℕ) → Late p es s ws rs f c → (rs' : List (Ready R)) × Perm rs rs' × Linear p es s (map (λ w. w.waiting) ws) rs' f c

-- ONE INSERTED: a call that waits and would have changed nothing at a state it passed was done, and no longer waits.
abbrev pub OneInserted : Type 1
OneInserted =
    (O R : Type 0) (p : Plain O R) (es : List (Seen O R)) (s x : p.State) (w : Since p) (ws ws' : List (Since p)) (r : R) (rs : List (Ready R)) (f c : ℕ) → Late p es s ws rs f c → Takes w ws ws' → Memᴰ x w.passed → p.Answers w.waiting.call x r x →
    (rs' : List (Ready R)) × Perm (ready w.waiting r ∷ rs) rs' × Linear p es s (map (λ v. v.waiting) ws') rs' f c
