-- Several waiting calls done one after the other at one point of a history, by a service that has one answer for each call; and a call
-- that waits, by membership in place of its position.
-- Assumes nothing.
use Rattle.std.specs.Prelude.{◌≡◌, ℕ}
use mathlib.Core.List.{List, [], ◌∷◌, ◌++◌, Memᴰ}
use Rattle.disks.specs.Cluster.{Seen, Plain, Waiting, Ready, Linear}

-- a service's one answer to a call
pub record Exec {O R : Type 0} (p : Plain O R) : Type 0 where
  pub reply : O → p.State → R
  pub state : O → p.State → p.State
  pub allowed : (o : O) (s : p.State) → p.Answers o s (reply o s) (state o s)

module _ {O R : Type 0} (p : Plain O R) (x : Exec p) where
  -- the state after calls, and their replies before those that were ready, the last done first
  abbrev pub state_after : List (Waiting O) → p.State → p.State
  state_after [] s = s
  state_after (w ∷ ws) s = state_after ws (x.state w.call s)

  abbrev pub ready_after : List (Waiting O) → p.State → List (Ready R) → List (Ready R)
  ready_after [] s rs = rs
  ready_after (w ∷ ws) s rs = ready_after ws (x.state w.call s) (record { house = w.house; id = w.id; reply = x.reply w.call s } ∷ rs)

-- MANY AT ONCE: the first so many of the waiting calls are done, in their order.
abbrev pub ManyAtOnce : Type 1
ManyAtOnce =
    (O R : Type 0) (p : Plain O R) (x : Exec p) (es : List (Seen O R)) (ds ws : List (Waiting O)) (s : p.State) (rs : List (Ready R)) (f c : ℕ) → Linear p es s (ds ++ ws) rs f c → Linear p es (state_after p x ds s) ws (ready_after p x ds s rs) f c

-- ANY THAT WAITS may be done, wherever it stands.
abbrev pub AnyWaiting : Type 1
AnyWaiting =
    (O R : Type 0) (p : Plain O R) (es : List (Seen O R)) (w : Waiting O) (ws : List (Waiting O)) (s t : p.State) (r : R) (rs : List (Ready R)) (f c : ℕ) → Linear p es s ws rs f c → Memᴰ w ws → p.Answers w.call s r t →
    (before : List (Waiting O)) × (behind : List (Waiting O)) × (ws ≡ before ++ w ∷ behind) × Linear p es t (before ++ behind) (record { house = w.house; id = w.id; reply = r } ∷ rs) f c
