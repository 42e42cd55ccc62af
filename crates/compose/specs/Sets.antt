-- Lists without regard to order: one element taken out wherever it stands, and two lists with the same elements. With them the steps of
-- a one-place history, by which call waits and which answer is ready in place of where it stands.
-- Assumes nothing.
use Rattle.std.specs.Prelude.{ℕ}
use mathlib.Core.List.{List, [], ◌∷◌}
use Rattle.disks.specs.Cluster.{Seen, answered, Plain, Waiting, Ready, Linear}
use Rattle.compose.specs.Many.{Exec, state_after, ready_after}

-- ys is xs with one x taken out, wherever it stands
pub data Takes {A : Type 0} (x : A) : List A → List A → Type 0 where
  here : {ys : List A} → Takes x (x ∷ ys) ys
  there : {z : A} {xs ys : List A} → Takes x xs ys → Takes x (z ∷ xs) (z ∷ ys)

-- us is ws with each of ds taken out, one after another
pub data TakesAll {A : Type 0} : List A → List A → List A → Type 0 where
  taken : {ws : List A} → TakesAll [] ws ws
  takes : {d : A} {ds ws vs us : List A} → Takes d ws vs → TakesAll ds vs us → TakesAll (d ∷ ds) ws us

-- the same elements, each as often, in another order
pub data Perm {A : Type 0} : List A → List A → Type 0 where
  nil : Perm [] []
  ins : {x : A} {xs ys zs : List A} → Takes x ys zs → Perm xs zs → Perm (x ∷ xs) ys

-- the answer to a call that waited
abbrev pub ready : {O R : Type 0} → Waiting O → R → Ready R
ready w r = record { house = w.house; id = w.id; reply = r }

-- TAKEN AND DONE: any call that waits may be done, and no longer waits.
abbrev pub TakenDone : Type 1
TakenDone =
    (O R : Type 0) (p : Plain O R) (es : List (Seen O R)) (w : Waiting O) (ws ws' : List (Waiting O)) (s t : p.State) (r : R) (rs : List (Ready R)) (f c : ℕ) → Linear p es s ws rs f c → Takes w ws ws' → p.Answers w.call s r t →
    Linear p es t ws' (ready w r ∷ rs) f c

-- TAKEN AND TOLD: any answer that is ready may be told, and is no longer ready.
abbrev pub TakenTold : Type 1
TakenTold =
    (O R : Type 0) (p : Plain O R) (es : List (Seen O R)) (ws : List (Waiting O)) (s : p.State) (y : Ready R) (rs rs' : List (Ready R)) (f c : ℕ) → Linear p es s ws rs f c → Takes y rs rs' → Linear p (answered y.house y.id y.reply ∷ es) s ws rs' f c

-- TAKEN AND BUSY: any call that waits may be answered by busy, and no longer waits.
abbrev pub TakenBusy : Type 1
TakenBusy =
    (O R : Type 0) (p : Plain O R) (es : List (Seen O R)) (w : Waiting O) (ws ws' : List (Waiting O)) (s : p.State) (rs : List (Ready R)) (f c : ℕ) → Linear p es s ws rs f c → Takes w ws ws' → Linear p (answered w.house w.id p.busy ∷ es) s ws' rs f c

-- MANY TAKEN: any calls that wait may be done one after another, in an order of one's choice.
abbrev pub TakenMany : Type 1
TakenMany =
    (O R : Type 0) (p : Plain O R) (x : Exec p) (es : List (Seen O R)) (ds ws ws' : List (Waiting O)) (s : p.State) (rs : List (Ready R)) (f c : ℕ) → Linear p es s ws rs f c → TakesAll ds ws ws' → Linear p es (state_after p x ds s) ws' (ready_after p x ds s rs) f c
