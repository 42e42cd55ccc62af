use Rattle.std.specs.Prelude.{◌≡◌, ℕ, ◌≤◌, T}
use Rattle.std.proofs.Math.Path.{refl}
use Rattle.std.proofs.Common.{ap, sym, ◌∙◌}
use mathlib.Core.List.Memᴰ
use mathlib.Core.List.{List}
use Rattle.disks.specs.Device.{Device, run, Machine, Event, Trace, Judge, Allowed, Keeps}
use Rattle.disks.specs.Cluster.{In, From, Ask, Tick, Out, Tell, Seen, Packet, Asking, House, put, packets, tells, settled, count_at, distinct, inside, Helped, BusyAtNine, Answers}
use Rattle.disks.specs.Cluster
use Rattle.disks.specs.Over.{HouseOn, house_over, StandOn}
use Rattle.compose.specs.Ways.{HousesBusy, Glance, dark, lit, glance, May, Doing, doing, Rising, rising, Way, there, by-rising, by-doing, by-ticking, Served, HousesAnswer}
use Rattle.compose.proofs.Group.{in_group}
use Rattle.compose.proofs.Houses.{Mem, under, stand, step, done, up_done, kept, sim}
use Rattle.compose.proofs.Compose.{Then}
use Rattle.compose.proofs.Put.{both-put}

pub houses-busy : HousesBusy
houses-busy C R M O Q busy j e h keeps on all size a b lo hi n es w lt tr i k m d x was mem =
    let (gs, trs, back) = step j e h all size w.house w.wire w.pending (sim j e h all size tr) i _ (Cluster.Stand.on (run ((house_over e h).does x m) d).value.mem (run ((house_over e h).does x m) d).device) was _ (done j e h all size x m d) in
    let (σ, ok) = kept j e size keeps lo hi trs in
    let (s, c, hs, t, at_i, rest, like) = back σ ok in
    on all size a b lo hi n es _ lt t i k m.above s _ x _ at_i c mem

module _ {C R M O Q : Type 0} (j : ℕ → Judge C R) (e : Machine C R) (h : HouseOn C R M O Q) (keeps : Keeps j e) (all size : ℕ) (lo : 65536 ≤ size) (hi : size ≤ 1099511627776) (group : List ℕ) (within : T (inside all group)) (es : List (Seen O Q)) (w : Cluster.World (Mem j e h all size) M) (goal : List (Seen O Q) → Type 0) where
  abbrev Memory : Type 0
  Memory = record { below : e.Mem; above : h.Mem }

  abbrev seen : Cluster.Stand Memory → Glance h.Mem
  seen (Cluster.Stand.off d) = dark
  seen (Cluster.Stand.on m d) = lit m.above

  looks_so : (x : Cluster.Stand Memory) (s : (j size).State) → glance (stand j e h all size x s) ≡ seen x
  unfolding glance
  looks_so (Cluster.Stand.off d) s = refl
  looks_so (Cluster.Stand.on m d) s = refl

  was-dark : (x : Cluster.Stand Memory) → seen x ≡ dark → (d : Device) × (x ≡ Cluster.Stand.off d)
  was-dark (Cluster.Stand.off d) q = (d, refl)
  was-dark (Cluster.Stand.on m d) q = absurd (cc q)

  was-lit : (x : Cluster.Stand Memory) (a : h.Mem) → seen x ≡ lit a → (m : Memory) × (d : Device) × (x ≡ Cluster.Stand.on m d)
  was-lit (Cluster.Stand.off d) a q = absurd (cc q)
  was-lit (Cluster.Stand.on m d) a q = (m, d, refl)

  sees : (i : ℕ) (new : Cluster.Stand Memory) (house : ℕ → Cluster.Stand Memory) (look : ℕ → Glance h.Mem) → ((k : ℕ) → look k ≡ seen (house k)) → (k : ℕ) → put i (seen new) look k ≡ seen (put i new house k)
  sees i new house look see = both-put (λ k a b. a ≡ seen b) i (seen new) new look house refl see

  abbrev H : House M O Q
  H = house_over e h

  abbrev place : (ℕ → Cluster.Stand Memory) → List (Packet M) → List Asking → Cluster.World Memory M
  place house wire pending = record { house = house; wire = wire; pending = pending }

  -- a house that can go on on its device can do so above the judge, and looks as it did
  may : {n : ℕ} {fs : List (Seen O Q)} {look : ℕ → Glance h.Mem} {wire : List (Packet M)} {pending : List Asking} (house : ℕ → Cluster.Stand Memory) → ((k : ℕ) → look k ≡ seen (house k)) → Cluster.Trace H all size n fs (place house wire pending) →
      (i : ℕ) (old new : Cluster.Stand Memory) → house i ≡ old → (P : (j size).State → (j size).State → Type 0) →
      ((gs : List (Event C R)) → Trace e size gs (under j e h all size old) → Then (j size) e size (under j e h all size new) (λ t. (s : (j size).State) × Allowed (j size) gs s × P s t)) →
      (Does : StandOn (j size) h → (j size).State → Type 0) → ((s t : (j size).State) → P s t → Does (stand j e h all size old s) t) → May j h all size n fs look wire pending i Does
  may {wire = wire} {pending = pending} house see tr i old new was P does Does so =
      let (gs, trs, back) = step j e h all size house wire pending (sim j e h all size tr) i old new was P does in
      let (σ, ok) = kept j e size keeps lo hi trs in
      let (s, c, hs, t, at_i, rest, like) = back σ ok in
      record { house = hs; after = σ i; came = t; looks = λ k. ap glance (like k).1 ∙ looks_so (house k) (like k).0 ∙ sym (see k); it_does = rw at_i (so s (σ i) c) }

  may_rise : {n : ℕ} {fs : List (Seen O Q)} {look : ℕ → Glance h.Mem} {wire : List (Packet M)} {pending : List Asking} (house : ℕ → Cluster.Stand Memory) → ((k : ℕ) → look k ≡ seen (house k)) → Cluster.Trace H all size n fs (place house wire pending) → (i : ℕ) (d : Device) → house i ≡ Cluster.Stand.off d →
      May j h all size n fs look wire pending i (Rising (j size) h i all size (run (H.opens i all size) d).value.above)
  may_rise house see tr i d was = may house see tr i _ (Cluster.Stand.on (run (H.opens i all size) d).value (run (H.opens i all size) d).device) was _ (up_done j e h all size i d) _ (λ s t c. rising c)

  may_do : {n : ℕ} {fs : List (Seen O Q)} {look : ℕ → Glance h.Mem} {wire : List (Packet M)} {pending : List Asking} (house : ℕ → Cluster.Stand Memory) → ((k : ℕ) → look k ≡ seen (house k)) → Cluster.Trace H all size n fs (place house wire pending) → (i : ℕ) (m : Memory) (d : Device) (x : In M O) → house i ≡ Cluster.Stand.on m d →
      May j h all size n fs look wire pending i (Doing (j size) h x (record { out = (run (H.does x m) d).value.out; mem = (run (H.does x m) d).value.mem.above }))
  may_do house see tr i m d x was = may house see tr i _ (Cluster.Stand.on (run (H.does x m) d).value.mem (run (H.does x m) d).device) was _ (done j e h all size x m d) _ (λ s t c. doing c)

  goes : {n : ℕ} {fs : List (Seen O Q)} {look : ℕ → Glance h.Mem} {wire : List (Packet M)} {pending : List Asking} → Way j h all size group w.wire goal n fs look wire pending →
      (house : ℕ → Cluster.Stand Memory) → ((k : ℕ) → look k ≡ seen (house k)) → Cluster.Trace H all size n fs (place house wire pending) → Helped H all size group es w fs (place house wire pending) →
      (gs : List (Seen O Q)) × (v : Cluster.World Memory M) × Helped H all size group es w gs v × goal gs
  goes (there g) house see tr he = (_, _, he, g)
  goes {look = look} (by-rising i mem is next) house see tr he =
      let (d, was) = was-dark (house i) (sym (see i) ∙ is) in
      goes (next (run (H.opens i all size) d).value.above (may_rise house see tr i d was)) _ (sees i (Cluster.Stand.on (run (H.opens i all size) d).value (run (H.opens i all size) d).device) house look see) (Cluster.Trace.rises i d (in_group all group within mem) tr was) (Helped.rising i d mem he was)
  goes {look = look} (by-doing i a p news mem from is wires new to next) house see tr he =
      let (m, d, was) = was-lit (house i) a (sym (see i) ∙ is) in
      goes (next _ (may_do house see tr i m d (From p.from p.what) was)) _ (sees i (Cluster.Stand.on (run (H.does (From p.from p.what) m) d).value.mem (run (H.does (From p.from p.what) m) d).device) house look see)
      (Cluster.Trace.does i m d p (in_group all group within mem) tr was (rw wires (Memᴰ.append_left w.wire new)) to) (Helped.doing i m d p news mem from he was wires new to)
  goes {look = look} (by-ticking i a mem is next) house see tr he =
      let (m, d, was) = was-lit (house i) a (sym (see i) ∙ is) in
      goes (next _ (may_do house see tr i m d Tick was)) _ (sees i (Cluster.Stand.on (run (H.does Tick m) d).value.mem (run (H.does Tick m) d).device) house look see)
      (Cluster.Trace.ticks i m d (in_group all group within mem) tr was) (Helped.ticking i m d mem he was)

pub houses-answer : HousesAnswer
houses-answer C R M O Q j e h keeps on all size a b lo hi n es w lt tr group dist within len =
    let (gs, trs, back) = sim j e h all size tr in
    let (σ, ok) = kept j e size keeps lo hi trs in
    let (hs, t, same) = back σ ok in
    goes j e h keeps all size lo hi group within es w (Served w.pending group) (on all size a b lo hi n es _ lt t group dist within len) w.house (λ k. ap glance (same k) ∙ looks_so j e h keeps all size lo hi group within es w (Served w.pending group) (w.house k) (σ k)) tr Helped.still
