-- Houses, each with its own device, what is under way between them, and what customers see of all of them together; what it is for
-- them to be as one place, to answer, to say busy only at nine calls, and to stay within their devices.
-- Assumes nothing.
use Rattle.std.specs.Prelude.{◌≡◌, Bool, true, false, cond, ◌&&◌, ◌||◌, not, ℕ, suc, ◌+◌, ◌<◌, ◌≤◌, eqb, ltb, T, length}
use mathlib.Core.List.{List, [], ◌∷◌, ◌++◌, Memᴰ}
use Rattle.disks.specs.Device.{Device, blank_device, Io, run, Ran, Upto, AfterCut, Fair}

-- what can come to a house: a packet, a call under its number, a tick of its clock
pub data In (M O : Type 0) : Type 0 where
  From : (house : ℕ) → M → In M O
  Ask : (id : ℕ) → O → In M O
  Tick : In M O

-- what a house gives when it is done: packets and answers
pub data Out (M R : Type 0) : Type 0 where
  To : (house : ℕ) → M → Out M R
  Tell : (id : ℕ) → R → Out M R

-- the code of a house, which knows its number, how many houses there are, and its device's size
pub record House (M O R : Type 0) : Type 1 where
  pub Mem : Type 0
  pub opens : (me all size : ℕ) → Io Mem
  pub does : In M O → Mem → Io (record { out : List (Out M R); mem : Mem })

-- what customers see: a call is made at a house, under a number of its own; it is answered
pub data Seen (O R : Type 0) : Type 0 where
  called : (house id : ℕ) → O → Seen O R
  answered : (house id : ℕ) → R → Seen O R
  fell : (house : ℕ) → Seen O R

pub data Stand (Mem : Type 0) : Type 0 where
  off : Device → Stand Mem
  on : Mem → Device → Stand Mem

pub record Packet (M : Type 0) : Type 0 where
  pub to : ℕ
  pub from : ℕ
  pub what : M

-- a call that waits: at which house, under which number
pub record Asking : Type 0 where
  pub house : ℕ
  pub id : ℕ

pub record World (Mem M : Type 0) : Type 0 where
  pub house : ℕ → Stand Mem
  pub wire : List (Packet M)
  -- calls made at houses that haven't fallen since, and not answered
  pub pending : List Asking

abbrev pub put : {A : Type 0} → ℕ → A → (ℕ → A) → ℕ → A
put i x f j = cond (eqb j i) x (f j)

unfoldable pub packets : {M R : Type 0} → ℕ → List (Out M R) → List (Packet M)
packets i [] = []
packets i (To j m ∷ os) = record { to = j; from = i; what = m } ∷ packets i os
packets i (Tell k r ∷ os) = packets i os

unfoldable pub tells : {M O R : Type 0} → ℕ → List (Out M R) → List (Seen O R)
tells i [] = []
tells i (To j m ∷ os) = tells i os
tells i (Tell k r ∷ os) = answered i k r ∷ tells i os

unfoldable pub is_used : {O R : Type 0} → ℕ → List (Seen O R) → Bool
is_used k [] = false
is_used k (called j i o ∷ es) = eqb k i || is_used k es
is_used k (answered j i r ∷ es) = is_used k es
is_used k (fell j ∷ es) = is_used k es

unfoldable pub without : (house id : ℕ) → List Asking → List Asking
without i k [] = []
without i k (a ∷ as') = cond (eqb i a.house && eqb k a.id) (without i k as') (a ∷ without i k as')

unfoldable pub settled : {M R : Type 0} → ℕ → List (Out M R) → List Asking → List Asking
settled i [] ps = ps
settled i (To j m ∷ os) ps = settled i os ps
settled i (Tell k r ∷ os) ps = settled i os (without i k ps)

unfoldable pub away_from : (house : ℕ) → List Asking → List Asking
away_from i [] = []
away_from i (a ∷ as') = cond (eqb i a.house) (away_from i as') (a ∷ away_from i as')

unfoldable pub count_at : (house : ℕ) → List Asking → ℕ
count_at i [] = 0
count_at i (a ∷ as') = cond (eqb i a.house) (1 + count_at i as') (count_at i as')

abbrev pub asking : {Mem M : Type 0} → (house id : ℕ) → World Mem M → World Mem M
asking i k w = record { house = w.house; wire = w.wire; pending = record { house = i; id = k } ∷ w.pending }

-- what a house does is on the wire, and seen, when it is done
abbrev pub after : {M O R : Type 0} → (h : House M O R) → ℕ → Ran (record { out : List (Out M R); mem : h.Mem }) → World h.Mem M → World h.Mem M
after {M} {O} {R} h i x w = record { house = put i (on x.value.mem x.device) w.house; wire = packets i x.value.out ++ w.wire; pending = settled i x.value.out w.pending }

abbrev pub fallen : {Mem M : Type 0} → ℕ → Device → World Mem M → World Mem M
fallen i d w = record { house = put i (off d) w.house; wire = w.wire; pending = away_from i w.pending }

abbrev pub risen : {M O R : Type 0} → (h : House M O R) → (all size i : ℕ) → Device → World h.Mem M → World h.Mem M
risen {M} {O} {R} h all size i d w = record { house = put i (on (run (h.opens i all size) d).value (run (h.opens i all size) d).device) w.house; wire = w.wire; pending = w.pending }

-- Whatever can happen to so many houses: packets come late, again, in any order, or never, but as they were sent; clocks tick as they like;
-- power fails anywhere, and of what a house was doing then nothing was sent or answered. The latest seen stands first.
pub data Trace {M O R : Type 0} (h : House M O R) (all size : ℕ) : ℕ → List (Seen O R) → World h.Mem M → Type 0 where
  begin : Trace h all size 0 [] (record { house = λ i. off blank_device; wire = []; pending = [] })
  rises : {n : ℕ} {es : List (Seen O R)} {w : World h.Mem M} (i : ℕ) (d : Device) → i < all → Trace h all size n es w → w.house i ≡ off d → Trace h all size (suc n) es (risen h all size i d w)
  does : {n : ℕ} {es : List (Seen O R)} {w : World h.Mem M} (i : ℕ) (m : h.Mem) (d : Device) (p : Packet M) → i < all → Trace h all size n es w → w.house i ≡ on m d → Memᴰ p w.wire → p.to ≡ i →
      Trace h all size (suc n) (tells i (run (h.does (From p.from p.what) m) d).value.out ++ es) (after h i (run (h.does (From p.from p.what) m) d) w)
  -- calls have numbers of 64 bits
  asked : {n : ℕ} {es : List (Seen O R)} {w : World h.Mem M} (i k : ℕ) (o : O) (m : h.Mem) (d : Device) → i < all → k < 18446744073709551616 → Trace h all size n es w → w.house i ≡ on m d → T (not (is_used k es)) →
      Trace h all size (suc n) (tells i (run (h.does (Ask k o) m) d).value.out ++ called i k o ∷ es) (after h i (run (h.does (Ask k o) m) d) (asking i k w))
  ticks : {n : ℕ} {es : List (Seen O R)} {w : World h.Mem M} (i : ℕ) (m : h.Mem) (d : Device) → i < all → Trace h all size n es w → w.house i ≡ on m d →
      Trace h all size (suc n) (tells i (run (h.does Tick m) d).value.out ++ es) (after h i (run (h.does Tick m) d) w)
  falls : {n : ℕ} {es : List (Seen O R)} {w : World h.Mem M} (i : ℕ) (m : h.Mem) (d e : Device) → i < all → Trace h all size n es w → w.house i ≡ on m d → AfterCut d e → Trace h all size (suc n) (fell i ∷ es) (fallen i e w)
  falls_rising : {n : ℕ} {es : List (Seen O R)} {w : World h.Mem M} (i : ℕ) (d e f : Device) → i < all → Trace h all size n es w → w.house i ≡ off d → Upto (h.opens i all size) d e → AfterCut e f → Trace h all size (suc n) (fell i ∷ es) (fallen i f w)
  falls_doing : {n : ℕ} {es : List (Seen O R)} {w : World h.Mem M} (i : ℕ) (m : h.Mem) (d e f : Device) (p : Packet M) → i < all → Trace h all size n es w → w.house i ≡ on m d → Memᴰ p w.wire → p.to ≡ i →
      Upto (h.does (From p.from p.what) m) d e → AfterCut e f → Trace h all size (suc n) (fell i ∷ es) (fallen i f w)
  falls_asked : {n : ℕ} {es : List (Seen O R)} {w : World h.Mem M} (i k : ℕ) (o : O) (m : h.Mem) (d e f : Device) → i < all → k < 18446744073709551616 → Trace h all size n es w → w.house i ≡ on m d → T (not (is_used k es)) →
      Upto (h.does (Ask k o) m) d e → AfterCut e f → Trace h all size (suc n) (fell i ∷ called i k o ∷ es) (fallen i f w)
  falls_ticking : {n : ℕ} {es : List (Seen O R)} {w : World h.Mem M} (i : ℕ) (m : h.Mem) (d e f : Device) → i < all → Trace h all size n es w → w.house i ≡ on m d → Upto (h.does Tick m) d e → AfterCut e f →
      Trace h all size (suc n) (fell i ∷ es) (fallen i f w)

-- ONE PLACE. A service as if in one place: its states, what a call may answer and leave, what a house's fall may leave, and what is said to one call too many.
pub record Plain (O R : Type 0) : Type 1 where
  pub State : Type 0
  pub start : State
  pub Answers : O → State → R → State → Type 0
  pub Cut : State → State → Type 0
  pub busy : R

pub record Waiting (O : Type 0) : Type 0 where
  pub house : ℕ
  pub id : ℕ
  pub call : O

pub record Ready (R : Type 0) : Type 0 where
  pub house : ℕ
  pub id : ℕ
  pub reply : R

-- What may be seen of it: each call is done at one moment, after it was made and before it is answered, or never, if it is never answered, or answered by busy; for each fall of a house there may be a cut, at a moment after it.
pub data Linear {O R : Type 0} (p : Plain O R) : List (Seen O R) → p.State → List (Waiting O) → List (Ready R) → (falls cuts : ℕ) → Type 0 where
  at_first : Linear p [] p.start [] [] 0 0
  makes : {es : List (Seen O R)} {s : p.State} {ws : List (Waiting O)} {rs : List (Ready R)} {f c : ℕ} (i k : ℕ) (o : O) → Linear p es s ws rs f c → Linear p (called i k o ∷ es) s (record { house = i; id = k; call = o } ∷ ws) rs f c
  is_done : {es : List (Seen O R)} {s t : p.State} {rs : List (Ready R)} {f c : ℕ} {r : R} (before behind : List (Waiting O)) (i k : ℕ) (o : O) → Linear p es s (before ++ record { house = i; id = k; call = o } ∷ behind) rs f c → p.Answers o s r t →
      Linear p es t (before ++ behind) (record { house = i; id = k; reply = r } ∷ rs) f c
  -- it is answered at the house where it was made
  is_told : {es : List (Seen O R)} {s : p.State} {ws : List (Waiting O)} {f c : ℕ} (before behind : List (Ready R)) (i k : ℕ) (r : R) → Linear p es s ws (before ++ record { house = i; id = k; reply = r } ∷ behind) f c →
      Linear p (answered i k r ∷ es) s ws (before ++ behind) f c
  is_busy : {es : List (Seen O R)} {s : p.State} {rs : List (Ready R)} {f c : ℕ} (before behind : List (Waiting O)) (i k : ℕ) (o : O) → Linear p es s (before ++ record { house = i; id = k; call = o } ∷ behind) rs f c →
      Linear p (answered i k p.busy ∷ es) s (before ++ behind) rs f c
  has_fallen : {es : List (Seen O R)} {s : p.State} {ws : List (Waiting O)} {rs : List (Ready R)} {f c : ℕ} (i : ℕ) → Linear p es s ws rs f c → Linear p (fell i ∷ es) s ws rs (suc f) c
  is_cut : {es : List (Seen O R)} {s t : p.State} {ws : List (Waiting O)} {rs : List (Ready R)} {f c : ℕ} → Linear p es s ws rs f c → c < f → p.Cut s t → Linear p es t ws rs f (suc c)

-- So many houses are as one place, for fewer than 2^56 steps, since numbers on a device have 64 bits.
abbrev pub AsOne : {M O R : Type 0} → (ℕ → ℕ → Plain O R) → House M O R → Type 0
AsOne {M} {O} {R} p h =
    (all size : ℕ) → 3 ≤ all → all ≤ 49 → 65536 ≤ size → size ≤ 1099511627776 → (n : ℕ) (es : List (Seen O R)) (w : World h.Mem M) → n < 72057594037927936 → Trace h all size n es w →
    (s : (p all size).State) × (ws : List (Waiting O)) × (rs : List (Ready R)) × (f : ℕ) × (c : ℕ) × Linear (p all size) es s ws rs f c

-- A call is answered by busy only at once, and only where eight wait, whatever comes to the house.
abbrev pub BusyAtNine : {M O R : Type 0} → R → House M O R → Type 0
BusyAtNine {M} {O} {R} busy h =
    (all size : ℕ) → 3 ≤ all → all ≤ 49 → 65536 ≤ size → size ≤ 1099511627776 → (n : ℕ) (es : List (Seen O R)) (w : World h.Mem M) → n < 72057594037927936 → Trace h all size n es w → (i k : ℕ) (m : h.Mem) (d : Device) (x : In M O) → w.house i ≡ on m d →
    Memᴰ (Tell k busy) (run (h.does x m) d).value.out → (o : O) × (x ≡ Ask k o) × (8 ≤ count_at i w.pending)

-- They answer: from whatever has come to be, if all houses but one are given power, and packets that they send from then on, all calls
-- that wait at them can be answered, with nobody else's help.
pub data Helped {M O R : Type 0} (h : House M O R) (all size : ℕ) (group : List ℕ) : List (Seen O R) → World h.Mem M → List (Seen O R) → World h.Mem M → Type 0 where
  still : {es : List (Seen O R)} {w : World h.Mem M} → Helped h all size group es w es w
  rising : {es fs : List (Seen O R)} {w v : World h.Mem M} (i : ℕ) (d : Device) → Memᴰ i group → Helped h all size group es w fs v → v.house i ≡ off d → Helped h all size group es w fs (risen h all size i d v)
  doing : {es fs : List (Seen O R)} {w v : World h.Mem M} (i : ℕ) (m : h.Mem) (d : Device) (p : Packet M) (news : List (Packet M)) → Memᴰ i group → Memᴰ p.from group → Helped h all size group es w fs v → v.house i ≡ on m d →
      v.wire ≡ news ++ w.wire → Memᴰ p news → p.to ≡ i → Helped h all size group es w (tells i (run (h.does (From p.from p.what) m) d).value.out ++ fs) (after h i (run (h.does (From p.from p.what) m) d) v)
  ticking : {es fs : List (Seen O R)} {w v : World h.Mem M} (i : ℕ) (m : h.Mem) (d : Device) → Memᴰ i group → Helped h all size group es w fs v → v.house i ≡ on m d →
      Helped h all size group es w (tells i (run (h.does Tick m) d).value.out ++ fs) (after h i (run (h.does Tick m) d) v)

unfoldable pub away : ℕ → List ℕ → Bool
away j [] = true
away j (k ∷ ks) = not (eqb j k) && away j ks

unfoldable pub distinct : List ℕ → Bool
distinct [] = true
distinct (i ∷ is) = away i is && distinct is

unfoldable pub inside : ℕ → List ℕ → Bool
inside all [] = true
inside all (i ∷ is) = ltb i all && inside all is

abbrev pub Answers : {M O R : Type 0} → House M O R → Type 0
Answers {M} {O} {R} h =
    (all size : ℕ) → 3 ≤ all → all ≤ 49 → 65536 ≤ size → size ≤ 1099511627776 → (n : ℕ) (es : List (Seen O R)) (w : World h.Mem M) → n < 72057594037927936 → Trace h all size n es w → (group : List ℕ) → T (distinct group) → T (inside all group) → all ≤ length group + 1 →
    (fs : List (Seen O R)) × (v : World h.Mem M) × Helped h all size group es w fs v × ((a : Asking) → Memᴰ a w.pending → Memᴰ a.house group → (r : R) × Memᴰ (answered a.house a.id r) fs)

-- Each touches its own device only, whatever comes to it, also packets that nobody sent.
abbrev pub Within : {M O R : Type 0} → House M O R → Type 0
Within {M} {O} {R} h =
    (all size : ℕ) → 3 ≤ all → all ≤ 49 → 65536 ≤ size → size ≤ 1099511627776 → (n : ℕ) (es : List (Seen O R)) (w : World h.Mem M) → n < 72057594037927936 → Trace h all size n es w → (i : ℕ) → i < all →
    ((d : Device) → w.house i ≡ off d → Fair size (h.opens i all size) d) × ((m : h.Mem) (d : Device) (x : In M O) → w.house i ≡ on m d → Fair size (h.does x m) d)
