-- Pure houses: each event is one atomic change of what a house stores, and a fall leaves what was stored before the event or after it.
-- What can happen to such houses, what is claimed of what customers see of them, and what it is for them to answer in so many steps.
-- Assumes nothing.
use Rattle.std.specs.Prelude.{◌≡◌, ◌⊎◌, not, ℕ, suc, ◌+◌, ◌<◌, ◌≤◌, T, length}
use mathlib.Core.List.{List, [], ◌∷◌, ◌++◌, Memᴰ}
use Rattle.disks.specs.Cluster.{In, From, Ask, Tick, Out, Tell, Seen, called, answered, fell, Packet, Asking, put, packets, tells, is_used, settled, away_from, count_at, Plain, Waiting, Ready, Linear, distinct, inside}

-- D: what is stored; Mem: what is remembered while the power is on
pub record Pure (M O R : Type 0) : Type 1 where
  pub D : Type 0
  pub Mem : Type 0
  pub start : D
  pub opens : (me all : ℕ) → D → record { stored : D; mem : Mem }
  pub does : In M O → Mem → D → record { stored : D; mem : Mem; out : List (Out M R) }

pub data Stand (Mem D : Type 0) : Type 0 where
  off : D → Stand Mem D
  on : Mem → D → Stand Mem D

pub record World (Mem D M : Type 0) : Type 0 where
  pub house : ℕ → Stand Mem D
  pub wire : List (Packet M)
  -- calls made at houses that haven't fallen since, and not answered
  pub pending : List Asking

abbrev pub asking : {Mem D M : Type 0} → (house id : ℕ) → World Mem D M → World Mem D M
asking i k w = record { house = w.house; wire = w.wire; pending = record { house = i; id = k } ∷ w.pending }

abbrev pub after : {M O R : Type 0} → (h : Pure M O R) → ℕ → record { stored : h.D; mem : h.Mem; out : List (Out M R) } → World h.Mem h.D M → World h.Mem h.D M
after {M} {O} {R} h i x w = record { house = put i (on x.mem x.stored) w.house; wire = packets i x.out ++ w.wire; pending = settled i x.out w.pending }

abbrev pub fallen : {Mem D M : Type 0} → ℕ → D → World Mem D M → World Mem D M
fallen i d w = record { house = put i (off d) w.house; wire = w.wire; pending = away_from i w.pending }

abbrev pub risen : {M O R : Type 0} → (h : Pure M O R) → (all i : ℕ) → h.D → World h.Mem h.D M → World h.Mem h.D M
risen {M} {O} {R} h all i d w = record { house = put i (on (h.opens i all d).mem (h.opens i all d).stored) w.house; wire = w.wire; pending = w.pending }

-- Packets come late, again, in any order, or never; clocks tick as they like; power fails anywhere. The latest seen stands first.
pub data Trace {M O R : Type 0} (h : Pure M O R) (all : ℕ) : List (Seen O R) → World h.Mem h.D M → Type 0 where
  begin : Trace h all [] (record { house = λ i. off h.start; wire = []; pending = [] })
  rises : {es : List (Seen O R)} {w : World h.Mem h.D M} (i : ℕ) (d : h.D) → i < all → Trace h all es w → w.house i ≡ off d → Trace h all es (risen h all i d w)
  does : {es : List (Seen O R)} {w : World h.Mem h.D M} (i : ℕ) (m : h.Mem) (d : h.D) (p : Packet M) → i < all → Trace h all es w → w.house i ≡ on m d → Memᴰ p w.wire → p.to ≡ i →
      Trace h all (tells i (h.does (From p.from p.what) m d).out ++ es) (after h i (h.does (From p.from p.what) m d) w)
  asked : {es : List (Seen O R)} {w : World h.Mem h.D M} (i k : ℕ) (o : O) (m : h.Mem) (d : h.D) → i < all → Trace h all es w → w.house i ≡ on m d → T (not (is_used k es)) →
      Trace h all (tells i (h.does (Ask k o) m d).out ++ called i k o ∷ es) (after h i (h.does (Ask k o) m d) (asking i k w))
  ticks : {es : List (Seen O R)} {w : World h.Mem h.D M} (i : ℕ) (m : h.Mem) (d : h.D) → i < all → Trace h all es w → w.house i ≡ on m d → Trace h all (tells i (h.does Tick m d).out ++ es) (after h i (h.does Tick m d) w)
  falls : {es : List (Seen O R)} {w : World h.Mem h.D M} (i : ℕ) (m : h.Mem) (d : h.D) → i < all → Trace h all es w → w.house i ≡ on m d → Trace h all (fell i ∷ es) (fallen i d w)
  falls_rising : {es : List (Seen O R)} {w : World h.Mem h.D M} (i : ℕ) (d f : h.D) → i < all → Trace h all es w → w.house i ≡ off d → (f ≡ d) ⊎ (f ≡ (h.opens i all d).stored) → Trace h all (fell i ∷ es) (fallen i f w)
  falls_doing : {es : List (Seen O R)} {w : World h.Mem h.D M} (i : ℕ) (m : h.Mem) (d f : h.D) (p : Packet M) → i < all → Trace h all es w → w.house i ≡ on m d → Memᴰ p w.wire → p.to ≡ i →
      (f ≡ d) ⊎ (f ≡ (h.does (From p.from p.what) m d).stored) → Trace h all (fell i ∷ es) (fallen i f w)
  falls_asked : {es : List (Seen O R)} {w : World h.Mem h.D M} (i k : ℕ) (o : O) (m : h.Mem) (d f : h.D) → i < all → Trace h all es w → w.house i ≡ on m d → T (not (is_used k es)) →
      (f ≡ d) ⊎ (f ≡ (h.does (Ask k o) m d).stored) → Trace h all (fell i ∷ called i k o ∷ es) (fallen i f w)
  falls_ticking : {es : List (Seen O R)} {w : World h.Mem h.D M} (i : ℕ) (m : h.Mem) (d f : h.D) → i < all → Trace h all es w → w.house i ≡ on m d → (f ≡ d) ⊎ (f ≡ (h.does Tick m d).stored) → Trace h all (fell i ∷ es) (fallen i f w)

-- as one place, with no cut at all
abbrev pub PureAsOne : {M O R : Type 0} → Plain O R → Pure M O R → Type 0
PureAsOne {M} {O} {R} p h =
    (all : ℕ) → 3 ≤ all → (es : List (Seen O R)) (w : World h.Mem h.D M) → Trace h all es w → (s : p.State) × (ws : List (Waiting O)) × (rs : List (Ready R)) × (f : ℕ) × Linear p es s ws rs f 0

-- a call is answered by busy only at once, and only where eight wait
abbrev pub PureBusy : {M O R : Type 0} → R → Pure M O R → Type 0
PureBusy {M} {O} {R} busy h =
    (all : ℕ) → 3 ≤ all → (es : List (Seen O R)) (w : World h.Mem h.D M) → Trace h all es w → (i k : ℕ) (m : h.Mem) (d : h.D) (x : In M O) → w.house i ≡ on m d →
    Memᴰ (Tell k busy) (h.does x m d).out → (o : O) × (x ≡ Ask k o) × (8 ≤ count_at i w.pending)

-- they are given power, and packets that houses of the group send from then on, so many steps, with nobody else's help
pub data PureHelped {M O R : Type 0} (h : Pure M O R) (all : ℕ) (group : List ℕ) : (steps : ℕ) → List (Seen O R) → World h.Mem h.D M → List (Seen O R) → World h.Mem h.D M → Type 0 where
  still : {es : List (Seen O R)} {w : World h.Mem h.D M} → PureHelped h all group 0 es w es w
  rising : {steps : ℕ} {es fs : List (Seen O R)} {w v : World h.Mem h.D M} (i : ℕ) (d : h.D) → Memᴰ i group → PureHelped h all group steps es w fs v → v.house i ≡ off d → PureHelped h all group (suc steps) es w fs (risen h all i d v)
  doing : {steps : ℕ} {es fs : List (Seen O R)} {w v : World h.Mem h.D M} (i : ℕ) (m : h.Mem) (d : h.D) (p : Packet M) (news : List (Packet M)) → Memᴰ i group → Memᴰ p.from group → PureHelped h all group steps es w fs v → v.house i ≡ on m d →
      v.wire ≡ news ++ w.wire → Memᴰ p news → p.to ≡ i → PureHelped h all group (suc steps) es w (tells i (h.does (From p.from p.what) m d).out ++ fs) (after h i (h.does (From p.from p.what) m d) v)
  ticking : {steps : ℕ} {es fs : List (Seen O R)} {w v : World h.Mem h.D M} (i : ℕ) (m : h.Mem) (d : h.D) → Memᴰ i group → PureHelped h all group steps es w fs v → v.house i ≡ on m d →
      PureHelped h all group (suc steps) es w (tells i (h.does Tick m d).out ++ fs) (after h i (h.does Tick m d) v)

-- With any one house out, all calls that wait at the others can be answered, in at most so many steps. Each house tells its own, so
-- there is such a bound only for so many houses.
abbrev pub PureAnswers : {M O R : Type 0} → (bound : ℕ) → Pure M O R → Type 0
PureAnswers {M} {O} {R} bound h =
    (all : ℕ) → 3 ≤ all → all ≤ 49 → (es : List (Seen O R)) (w : World h.Mem h.D M) → Trace h all es w → (group : List ℕ) → T (distinct group) → T (inside all group) → all ≤ length group + 1 →
    (fs : List (Seen O R)) × (v : World h.Mem h.D M) × (steps : ℕ) × (steps ≤ bound) × PureHelped h all group steps es w fs v × ((a : Asking) → Memᴰ a w.pending → Memᴰ a.house group → (r : R) × Memᴰ (answered a.house a.id r) fs)

-- of how many steps a trace is
unfoldable pub steps_of : {M O R : Type 0} {h : Pure M O R} {all : ℕ} {es : List (Seen O R)} {w : World h.Mem h.D M} → Trace h all es w → ℕ
steps_of begin = 0
steps_of (rises i d l t e) = suc (steps_of t)
steps_of (does i m d p l t e n to) = suc (steps_of t)
steps_of (asked i k o m d l t e n) = suc (steps_of t)
steps_of (ticks i m d l t e) = suc (steps_of t)
steps_of (falls i m d l t e) = suc (steps_of t)
steps_of (falls_rising i d f l t e c) = suc (steps_of t)
steps_of (falls_doing i m d f p l t e n to c) = suc (steps_of t)
steps_of (falls_asked i k o m d f l t e n c) = suc (steps_of t)
steps_of (falls_ticking i m d f l t e c) = suc (steps_of t)

-- the same, from all that can come to be in fewer steps than a limit
abbrev pub PureAnswersWithin : {M O R : Type 0} → (limit bound : ℕ) → Pure M O R → Type 0
PureAnswersWithin {M} {O} {R} limit bound h =
    (all : ℕ) → 3 ≤ all → all ≤ 49 → (es : List (Seen O R)) (w : World h.Mem h.D M) (t : Trace h all es w) → steps_of t < limit → (group : List ℕ) → T (distinct group) → T (inside all group) → all ≤ length group + 1 →
    (fs : List (Seen O R)) × (v : World h.Mem h.D M) × (steps : ℕ) × (steps ≤ bound) × PureHelped h all group steps es w fs v × ((a : Asking) → Memᴰ a w.pending → Memᴰ a.house group → (r : R) × Memᴰ (answered a.house a.id r) fs)
