-- A house's code above a part on its device that keeps to a judge: what can happen to such houses, with the part as its judge has it.
-- Assumes nothing.
use Rattle.std.specs.Prelude.{◌≡◌, not, ℕ, suc, ◌<◌, ◌≤◌, T}
use mathlib.Core.List.{List, [], ◌∷◌, ◌++◌, Memᴰ}
use Rattle.disks.specs.Device.{answer, Machine, Judge, Keeps, Plan, then', through, Comes, CutShort}
use Rattle.disks.specs.Cluster.{In, From, Ask, Tick, Out, Seen, called, fell, House, Packet, Asking, put, packets, tells, is_used, settled, away_from, Plain, Waiting, Ready, Linear, AsOne}

pub record HouseOn (C R M O Q : Type 0) : Type 1 where
  pub Mem : Type 0
  pub opens : (me all size : ℕ) → Plan C R Mem
  pub does : In M O → Mem → Plan C R (record { out : List (Out M Q); mem : Mem })

-- the house that such code is on a machine
abbrev pub house_over : {C R M O Q : Type 0} → Machine C R → HouseOn C R M O Q → House M O Q
house_over {C} {R} {M} {O} {Q} e h =
    record {
      Mem = record { below : e.Mem; above : h.Mem };
      opens = λ me all size. then' (e.opens size) (λ m. then' (through e (h.opens me all size) m) (λ x. answer (record { below = x.below; above = x.value })));
      does = λ x m. then' (through e (h.does x m.above) m.below) (λ y. answer (record { out = y.value.out; mem = record { below = y.below; above = y.value.mem } }));
    }

pub data StandOn {C R M O Q : Type 0} (j : Judge C R) (h : HouseOn C R M O Q) : Type 0 where
  off' : j.State → StandOn j h
  on' : h.Mem → j.State → StandOn j h

pub record WorldOn {C R M O Q : Type 0} (j : Judge C R) (h : HouseOn C R M O Q) : Type 0 where
  pub house : ℕ → StandOn j h
  pub wire : List (Packet M)
  pub pending : List Asking

abbrev pub sets : {C R M O Q : Type 0} {j : Judge C R} {h : HouseOn C R M O Q} → ℕ → StandOn j h → List (Out M Q) → List Asking → WorldOn j h → WorldOn j h
sets i x os ps w = record { house = put i x w.house; wire = packets i os ++ w.wire; pending = settled i os ps }

abbrev pub drops : {C R M O Q : Type 0} {j : Judge C R} {h : HouseOn C R M O Q} → ℕ → j.State → WorldOn j h → WorldOn j h
drops i s w = record { house = put i (off' s) w.house; wire = w.wire; pending = away_from i w.pending }

-- as Trace in Cluster, with the part below as its judge has it
pub data TraceOn {C R M O Q : Type 0} (j : ℕ → Judge C R) (h : HouseOn C R M O Q) (all size : ℕ) : ℕ → List (Seen O Q) → WorldOn (j size) h → Type 0 where
  begin : TraceOn j h all size 0 [] (record { house = λ i. off' (j size).start; wire = []; pending = [] })
  rises : {n : ℕ} {es : List (Seen O Q)} {w : WorldOn (j size) h} {m : h.Mem} {s t : (j size).State} (i : ℕ) → i < all → TraceOn j h all size n es w → w.house i ≡ off' s → Comes (j size) (h.opens i all size) s m t →
      TraceOn j h all size (suc n) es (sets i (on' m t) [] w.pending w)
  does : {n : ℕ} {es : List (Seen O Q)} {w : WorldOn (j size) h} {m : h.Mem} {s t : (j size).State} (i : ℕ) (p : Packet M) (x : record { out : List (Out M Q); mem : h.Mem }) → i < all → TraceOn j h all size n es w → w.house i ≡ on' m s →
      Memᴰ p w.wire → p.to ≡ i → Comes (j size) (h.does (From p.from p.what) m) s x t → TraceOn j h all size (suc n) (tells i x.out ++ es) (sets i (on' x.mem t) x.out w.pending w)
  asked : {n : ℕ} {es : List (Seen O Q)} {w : WorldOn (j size) h} {m : h.Mem} {s t : (j size).State} (i k : ℕ) (o : O) (x : record { out : List (Out M Q); mem : h.Mem }) → i < all → k < 18446744073709551616 → TraceOn j h all size n es w → w.house i ≡ on' m s →
      T (not (is_used k es)) → Comes (j size) (h.does (Ask k o) m) s x t → TraceOn j h all size (suc n) (tells i x.out ++ called i k o ∷ es) (sets i (on' x.mem t) x.out (record { house = i; id = k } ∷ w.pending) w)
  ticks : {n : ℕ} {es : List (Seen O Q)} {w : WorldOn (j size) h} {m : h.Mem} {s t : (j size).State} (i : ℕ) (x : record { out : List (Out M Q); mem : h.Mem }) → i < all → TraceOn j h all size n es w → w.house i ≡ on' m s → Comes (j size) (h.does Tick m) s x t →
      TraceOn j h all size (suc n) (tells i x.out ++ es) (sets i (on' x.mem t) x.out w.pending w)
  falls : {n : ℕ} {es : List (Seen O Q)} {w : WorldOn (j size) h} {m : h.Mem} {s u : (j size).State} (i : ℕ) → i < all → TraceOn j h all size n es w → w.house i ≡ on' m s → (j size).Down s u → TraceOn j h all size (suc n) (fell i ∷ es) (drops i u w)
  falls_rising : {n : ℕ} {es : List (Seen O Q)} {w : WorldOn (j size) h} {s u : (j size).State} (i : ℕ) → i < all → TraceOn j h all size n es w → w.house i ≡ off' s → CutShort (j size) (h.opens i all size) s u → TraceOn j h all size (suc n) (fell i ∷ es) (drops i u w)
  falls_doing : {n : ℕ} {es : List (Seen O Q)} {w : WorldOn (j size) h} {m : h.Mem} {s u : (j size).State} (i : ℕ) (p : Packet M) → i < all → TraceOn j h all size n es w → w.house i ≡ on' m s → Memᴰ p w.wire → p.to ≡ i →
      CutShort (j size) (h.does (From p.from p.what) m) s u → TraceOn j h all size (suc n) (fell i ∷ es) (drops i u w)
  falls_asked : {n : ℕ} {es : List (Seen O Q)} {w : WorldOn (j size) h} {m : h.Mem} {s u : (j size).State} (i k : ℕ) (o : O) → i < all → k < 18446744073709551616 → TraceOn j h all size n es w → w.house i ≡ on' m s → T (not (is_used k es)) →
      CutShort (j size) (h.does (Ask k o) m) s u → TraceOn j h all size (suc n) (fell i ∷ called i k o ∷ es) (drops i u w)
  falls_ticking : {n : ℕ} {es : List (Seen O Q)} {w : WorldOn (j size) h} {m : h.Mem} {s u : (j size).State} (i : ℕ) → i < all → TraceOn j h all size n es w → w.house i ≡ on' m s → CutShort (j size) (h.does Tick m) s u →
      TraceOn j h all size (suc n) (fell i ∷ es) (drops i u w)

abbrev pub AsOneOn : {C R M O Q : Type 0} → (ℕ → Judge C R) → (ℕ → ℕ → Plain O Q) → HouseOn C R M O Q → Type 0
AsOneOn {C} {R} {M} {O} {Q} j p h =
    (all size : ℕ) → 3 ≤ all → all ≤ 49 → 65536 ≤ size → size ≤ 1099511627776 → (n : ℕ) (es : List (Seen O Q)) (w : WorldOn (j size) h) → n < 72057594037927936 → TraceOn j h all size n es w →
    (s : (p all size).State) × (ws : List (Waiting O)) × (rs : List (Ready Q)) × (f : ℕ) × (c : ℕ) × Linear (p all size) es s ws rs f c

-- HOUSES COMPOSE: what is as one place above a judge is as one place above every machine that keeps to it.
abbrev pub HousesCompose : Type 1
HousesCompose =
    (C R M O Q : Type 0) (j : ℕ → Judge C R) (p : ℕ → ℕ → Plain O Q) (e : Machine C R) (h : HouseOn C R M O Q) → Keeps j e → AsOneOn j p h → AsOne p (house_over e h)
