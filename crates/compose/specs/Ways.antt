-- Houses compose for the rest of what is promised: they say busy only where they may, and they answer. A way of answering must go by
-- what can be seen (power, memory above, packets, what is pending), whichever answers that the judge allows the parts give.
use Rattle.std.specs.Prelude.{◌≡◌, ℕ, suc, ◌+◌, ◌≤◌, ◌<◌, T, length}
use mathlib.Core.List.{List, ◌++◌, Memᴰ}
use Rattle.disks.specs.Device.{Machine, Judge, Keeps, Comes}
use Rattle.disks.specs.Cluster.{In, From, Ask, Tick, Out, Tell, Seen, Packet, Asking, House, put, packets, tells, settled, count_at, distinct, inside, Helped, BusyAtNine, Answers}
use Rattle.disks.specs.Cluster
use Rattle.disks.specs.Over.{HouseOn, house_over, StandOn, off', on', WorldOn, TraceOn}

-- BUSY, above a judge
abbrev pub BusyOn : {C R M O Q : Type 0} → Q → (ℕ → Judge C R) → HouseOn C R M O Q → Type 0
BusyOn {C} {R} {M} {O} {Q} busy j h =
    (all size : ℕ) → 3 ≤ all → all ≤ 49 → 65536 ≤ size → size ≤ 1099511627776 → (n : ℕ) (es : List (Seen O Q)) (w : WorldOn (j size) h) → n < 72057594037927936 → TraceOn j h all size n es w →
    (i k : ℕ) (m : h.Mem) (s t : (j size).State) (x : In M O) (y : record { out : List (Out M Q); mem : h.Mem }) → w.house i ≡ on' m s → Comes (j size) (h.does x m) s y t → Memᴰ (Tell k busy) y.out → (o : O) × (x ≡ Ask k o) × (8 ≤ count_at i w.pending)

abbrev pub HousesBusy : Type 1
HousesBusy = (C R M O Q : Type 0) (busy : Q) (j : ℕ → Judge C R) (e : Machine C R) (h : HouseOn C R M O Q) → Keeps j e → BusyOn busy j h → BusyAtNine busy (house_over e h)

-- ANSWERING, above a judge: there is a way that goes by what is seen of the houses, their power, their memory above, the wire and what is pending, whichever of the answers that the judge allows the parts give
pub data Glance (A : Type 0) : Type 0 where
  dark : Glance A
  lit : A → Glance A

unfoldable pub glance : {C R M O Q : Type 0} {j : Judge C R} {h : HouseOn C R M O Q} → StandOn j h → Glance h.Mem
glance (off' s) = dark
glance (on' m s) = lit m

-- houses that look so can have come to be so, and one of them can do this
pub record May {C R M O Q : Type 0} (j : ℕ → Judge C R) (h : HouseOn C R M O Q) (all size n : ℕ) (es : List (Seen O Q)) (look : ℕ → Glance h.Mem) (wire : List (Packet M)) (pending : List Asking) (i : ℕ) (Does : StandOn (j size) h → (j size).State → Type 0) : Type 0 where
  pub house : ℕ → StandOn (j size) h
  pub after : (j size).State
  pub came : TraceOn j h all size n es (record { house = house; wire = wire; pending = pending })
  pub looks : (k : ℕ) → glance (house k) ≡ look k
  pub it_does : Does (house i) after

pub data Doing {C R M O Q : Type 0} (j : Judge C R) (h : HouseOn C R M O Q) (x : In M O) (y : record { out : List (Out M Q); mem : h.Mem }) : StandOn j h → j.State → Type 0 where
  doing : {m : h.Mem} {s t : j.State} → Comes j (h.does x m) s y t → Doing j h x y (on' m s) t

pub data Rising {C R M O Q : Type 0} (j : Judge C R) (h : HouseOn C R M O Q) (i all size : ℕ) (m : h.Mem) : StandOn j h → j.State → Type 0 where
  rising : {s t : j.State} → Comes j (h.opens i all size) s m t → Rising j h i all size m (off' s) t

pub data Way {C R M O Q : Type 0} (j : ℕ → Judge C R) (h : HouseOn C R M O Q) (all size : ℕ) (group : List ℕ) (base : List (Packet M)) (goal : List (Seen O Q) → Type 0) : ℕ → List (Seen O Q) → (ℕ → Glance h.Mem) → List (Packet M) → List Asking → Type 0 where
  there : {n : ℕ} {es : List (Seen O Q)} {look : ℕ → Glance h.Mem} {wire : List (Packet M)} {pending : List Asking} → goal es → Way j h all size group base goal n es look wire pending
  by-rising : {n : ℕ} {es : List (Seen O Q)} {look : ℕ → Glance h.Mem} {wire : List (Packet M)} {pending : List Asking} (i : ℕ) → Memᴰ i group → look i ≡ dark →
      ((m : h.Mem) → May j h all size n es look wire pending i (Rising (j size) h i all size m) → Way j h all size group base goal (suc n) es (put i (lit m) look) wire pending) →
      Way j h all size group base goal n es look wire pending
  by-doing : {n : ℕ} {es : List (Seen O Q)} {look : ℕ → Glance h.Mem} {wire : List (Packet M)} {pending : List Asking} (i : ℕ) (m : h.Mem) (p : Packet M) (news : List (Packet M)) → Memᴰ i group → Memᴰ p.from group → look i ≡ lit m → wire ≡ news ++ base → Memᴰ p news → p.to ≡ i →
      ((y : record { out : List (Out M Q); mem : h.Mem }) → May j h all size n es look wire pending i (Doing (j size) h (From p.from p.what) y) →
      Way j h all size group base goal (suc n) (tells i y.out ++ es) (put i (lit y.mem) look) (packets i y.out ++ wire) (settled i y.out pending)) →
      Way j h all size group base goal n es look wire pending
  by-ticking : {n : ℕ} {es : List (Seen O Q)} {look : ℕ → Glance h.Mem} {wire : List (Packet M)} {pending : List Asking} (i : ℕ) (m : h.Mem) → Memᴰ i group → look i ≡ lit m →
      ((y : record { out : List (Out M Q); mem : h.Mem }) → May j h all size n es look wire pending i (Doing (j size) h Tick y) →
      Way j h all size group base goal (suc n) (tells i y.out ++ es) (put i (lit y.mem) look) (packets i y.out ++ wire) (settled i y.out pending)) →
      Way j h all size group base goal n es look wire pending

abbrev pub Served : {O Q : Type 0} → List Asking → List ℕ → List (Seen O Q) → Type 0
Served {O} {Q} pending group fs = (a : Asking) → Memᴰ a pending → Memᴰ a.house group → (r : Q) × Memᴰ (Cluster.Seen.answered a.house a.id r) fs

abbrev pub AnswersOn : {C R M O Q : Type 0} → (ℕ → Judge C R) → HouseOn C R M O Q → Type 0
AnswersOn {C} {R} {M} {O} {Q} j h =
    (all size : ℕ) → 3 ≤ all → all ≤ 49 → 65536 ≤ size → size ≤ 1099511627776 → (n : ℕ) (es : List (Seen O Q)) (w : WorldOn (j size) h) → n < 72057594037927936 → TraceOn j h all size n es w → (group : List ℕ) → T (distinct group) → T (inside all group) → all ≤ length group + 1 →
    Way j h all size group w.wire (Served w.pending group) n es (λ k. glance (w.house k)) w.wire w.pending

abbrev pub HousesAnswer : Type 1
HousesAnswer = (C R M O Q : Type 0) (j : ℕ → Judge C R) (e : Machine C R) (h : HouseOn C R M O Q) → Keeps j e → AnswersOn j h → Answers (house_over e h)
