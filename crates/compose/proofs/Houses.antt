-- Houses compose, as layers do, house by house: each house's part below has a trace of its own, and a step touches one house.
use Rattle.std.specs.Prelude.{◌≡◌, refl, true, cond, ℕ, suc, ◌≤◌, eqb}
use Rattle.std.proofs.Math.Path.{ap}
use Rattle.std.proofs.Common.{inl, inr, le_trans, lit≤}
use mathlib.Core.List.{List, [], ◌∷◌}
use Rattle.disks.specs.Device.{Device, AfterCut, Io, answer, run, Upto, Machine, Event, World, off, on, opened, opening_cut, between_cut, cut_between, cut_opening, Judge, Allowed, at_start, Keeps, Plan, then', through, Comes, CutShort, at_once}
use Rattle.disks.specs.Device
use Rattle.disks.specs.Cluster.{In, From, Ask, Tick, Out, Seen, Packet, Asking, House, put, packets, tells, settled, AsOne}
use Rattle.disks.specs.Cluster
use Rattle.disks.specs.Over.{HouseOn, house_over, StandOn, off', on', TraceOn, HousesCompose}
use Rattle.compose.proofs.Put.{at_put, both-put}
use Rattle.std.proofs.lemmas.Bool.{eq-eqb}
use Rattle.compose.proofs.Compose.{run_then, upto_then, upto_map, Then, plan_done, plan-cut, at_opening, at_between}

-- what the parts below may have come to, where the machine keeps to the judge
pub kept : {C R : Type 0} (j : ℕ → Judge C R) (e : Machine C R) (size : ℕ) → Keeps j e → 65536 ≤ size → size ≤ 1099511627776 → {gs : ℕ → List (Event C R)} {w : ℕ → World e} → ((k : ℕ) → Device.Trace e size (gs k) (w k)) → (σ : ℕ → (j size).State) × ((k : ℕ) → Allowed (j size) (gs k) (σ k))
kept j e size keeps lo hi {gs} {w} trs =
    let below = λ (k : ℕ). keeps size (le_trans (lit≤ tt) lo) hi (gs k) (w k) (trs k) in
    (λ k. (below k).0, λ k. (below k).1)

module _ {C R M O Q : Type 0} (j : ℕ → Judge C R) (e : Machine C R) (h : HouseOn C R M O Q) (all size : ℕ) where
  abbrev pub Mem : Type 0
  Mem = record { below : e.Mem; above : h.Mem }

  -- the world of the machine in a house; the house as the judge has it
  abbrev pub under : Cluster.Stand Mem → World e
  under (Cluster.Stand.off d) = off d
  under (Cluster.Stand.on m d) = on m.below d

  abbrev pub stand : Cluster.Stand Mem → (j size).State → StandOn (j size) h
  stand (Cluster.Stand.off d) s = off' s
  stand (Cluster.Stand.on m d) s = on' m.above s

  -- a trace of the machine in each house; and whatever states these may have come to, a trace of the houses above them
  abbrev pub Sim : ℕ → List (Seen O Q) → (ℕ → Cluster.Stand Mem) → List (Packet M) → List Asking → Type 0
  Sim n es house wire pending =
      (gs : ℕ → List (Event C R)) × ((k : ℕ) → Device.Trace e size (gs k) (under (house k))) ×
      ((σ : ℕ → (j size).State) → ((k : ℕ) → Allowed (j size) (gs k) (σ k)) →
      (hs : ℕ → StandOn (j size) h) × TraceOn j h all size n es (record { house = hs; wire = wire; pending = pending }) × ((k : ℕ) → hs k ≡ stand (house k) (σ k)))

  -- one house goes on
  pub step : {n : ℕ} {es : List (Seen O Q)} (house : ℕ → Cluster.Stand Mem) (wire : List (Packet M)) (pending : List Asking) → Sim n es house wire pending → (i : ℕ) (old new : Cluster.Stand Mem) → house i ≡ old → (P : (j size).State → (j size).State → Type 0) →
      ((gs : List (Event C R)) → Device.Trace e size gs (under old) → Then (j size) e size (under new) (λ t. (s : (j size).State) × Allowed (j size) gs s × P s t)) →
      (gs : ℕ → List (Event C R)) × ((k : ℕ) → Device.Trace e size (gs k) (under (put i new house k))) ×
      ((σ : ℕ → (j size).State) → ((k : ℕ) → Allowed (j size) (gs k) (σ k)) →
      (s : (j size).State) × P s (σ i) × (hs : ℕ → StandOn (j size) h) × TraceOn j h all size n es (record { house = hs; wire = wire; pending = pending }) × (hs i ≡ stand old s) × ((k : ℕ) → put i (stand new (σ i)) hs k ≡ stand (put i new house k) (σ k)) × ((k : ℕ) → (s : (j size).State) × (hs k ≡ stand (house k) s)))
  step {n} {es} house wire pending (gs, trs, back) i old new was P goes =
      let (g, tr, back') = goes (gs i) (rw was at (trs i)) in (
        put i g gs,
        both-put (λ k fs x. Device.Trace e size fs (under x)) i g new gs house tr trs,
        λ σ ok.
            let (s, y, p) = back' (σ i) (rw yes at (ok i)) in
            let (hs, t, same) = back (put i s σ) (λ k. at_put i (λ b k. Allowed (j size) (cond b g (gs k)) (σ k) → Allowed (j size) (gs k) (cond b s (σ k))) (λ _. y) k (λ x. x) (ok k)) in
            (s, p, hs, t, rw (yes, was) at (same i), λ k. at_put i (λ b k. hs k ≡ stand (house k) (cond b s (σ k)) → cond b (stand new (σ i)) (hs k) ≡ stand (cond b new (house k)) (σ k)) (λ _. refl) k (λ x. x) (same k), λ k. (put i s σ k, same k)),
      )
    where
      yes : eqb i i ≡ true
      yes = eq-eqb i i refl

  at_first : {s : (j size).State} → Allowed (j size) [] s → (j size).start ≡ s
  at_first at_start = refl

  abbrev pub SimAt : ℕ → List (Seen O Q) → Cluster.World Mem M → Type 0
  SimAt n es w = Sim n es w.house w.wire w.pending

  -- what a house does, done and cut
  pub done : (x : In M O) (m : Mem) (d : Device) (gs : List (Event C R)) → Device.Trace e size gs (on m.below d) →
      Then (j size) e size (on (run ((house_over e h).does x m) d).value.mem.below (run ((house_over e h).does x m) d).device)
      (λ t. (s : (j size).State) × Allowed (j size) gs s × Comes (j size) (h.does x m.above) s (record { out = (run ((house_over e h).does x m) d).value.out; mem = (run ((house_over e h).does x m) d).value.mem.above }) t)
  unfolding run
  done x m d gs tr = rw run_then (plan_done (j size) e size (h.does x m.above) m.below d gs tr)

  cut_short : (x : In M O) (m : Mem) (d f g : Device) (gs : List (Event C R)) → Device.Trace e size gs (on m.below d) → Upto ((house_over e h).does x m) d f → AfterCut f g →
      Then (j size) e size (off g) (λ t. (s : (j size).State) × Allowed (j size) gs s × CutShort (j size) (h.does x m.above) s t)
  cut_short x m d f g gs tr u y = plan-cut (j size) e size (h.does x m.above) m.below d f g gs tr (upto_map (through e (h.does x m.above) m.below) (λ y. record { out = y.value.out; mem = record { below = y.below; above = y.value.mem } }) d f u) y

  pub up_done : (i : ℕ) (d : Device) (gs : List (Event C R)) → Device.Trace e size gs (off d) →
      Then (j size) e size (on (run ((house_over e h).opens i all size) d).value.below (run ((house_over e h).opens i all size) d).device)
      (λ t. (s : (j size).State) × Allowed (j size) gs s × Comes (j size) (h.opens i all size) s (run ((house_over e h).opens i all size) d).value.above t)
  unfolding run
  up_done i d gs tr = rw (run_then, run_then) (plan_done (j size) e size (h.opens i all size) (run (e.opens size) d).value (run (e.opens size) d).device gs (opened tr))

  up-cut : (i : ℕ) (d f g : Device) (gs : List (Event C R)) → Device.Trace e size gs (off d) → Upto ((house_over e h).opens i all size) d f → AfterCut f g →
      Then (j size) e size (off g) (λ t. (s : (j size).State) × Allowed (j size) gs s × CutShort (j size) (h.opens i all size) s t)
  up-cut i d f g gs tr u x =
      elim (upto_then (e.opens size) (λ m. then' (through e (h.opens i all size) m) (λ x. answer (record { below = x.below; above = x.value }))) d f u) [
        | inl v ↦ (cut_opening ∷ gs, opening_cut tr v x, λ t y. let (s, z, q) = at_opening (j size) y in (s, z, at_once q))
        | inr v ↦ plan-cut (j size) e size (h.opens i all size) (run (e.opens size) d).value (run (e.opens size) d).device f g gs (opened tr) (upto_map (through e (h.opens i all size) (run (e.opens size) d).value) (λ x. record { below = x.below; above = x.value }) (run (e.opens size) d).device f v) x
      ]

  between : (m : Mem) (d g : Device) (gs : List (Event C R)) → Device.Trace e size gs (on m.below d) → AfterCut d g →
      Then (j size) e size (off g) (λ t. (s : (j size).State) × Allowed (j size) gs s × (j size).Down s t)
  between m d g gs tr x = (cut_between ∷ gs, between_cut tr x, λ t y. at_between (j size) y)

  -- one house goes on by an event of the houses above
  event : {n : ℕ} {es fs : List (Seen O Q)} {wire : List (Packet M)} {pending : List Asking} (w : Cluster.World Mem M) → SimAt n es w → (i : ℕ) (old new : Cluster.Stand Mem) → w.house i ≡ old → (P : (j size).State → (j size).State → Type 0) →
      ((gs : List (Event C R)) → Device.Trace e size gs (under old) → Then (j size) e size (under new) (λ t. (s : (j size).State) × Allowed (j size) gs s × P s t)) →
      ((s t : (j size).State) (hs : ℕ → StandOn (j size) h) → P s t → TraceOn j h all size n es (record { house = hs; wire = w.wire; pending = w.pending }) → hs i ≡ stand old s →
      TraceOn j h all size (suc n) fs (record { house = put i (stand new t) hs; wire = wire; pending = pending })) →
      Sim (suc n) fs (put i new w.house) wire pending
  event w x i old new was P goes makes =
      let (gs, trs, back) = step w.house w.wire w.pending x i old new was P goes in
      (gs, trs, λ σ ok. let (s, c, hs, t, at_i, rest, like) = back σ ok in (_, makes s (σ i) hs c t at_i, rest))

  pub sim : {n : ℕ} {es : List (Seen O Q)} {w : Cluster.World Mem M} → Cluster.Trace (house_over e h) all size n es w → SimAt n es w
  unfolding packets settled
  sim Cluster.Trace.begin = ((λ k. []), (λ k. Device.Trace.begin), λ σ ok. ((λ k. off' (j size).start), TraceOn.begin, λ k. ap off' (at_first (ok k))))
  sim (Cluster.Trace.rises i d lt tr was) = event _ (sim tr) i _ _ was _ (up_done i d) (λ s t hs c x at_i. TraceOn.rises i lt x at_i c)
  sim (Cluster.Trace.does i m d p lt tr was mem to) = event _ (sim tr) i _ _ was _ (done (From p.from p.what) m d) (λ s t hs c x at_i. TraceOn.does i p _ lt x at_i mem to c)
  sim (Cluster.Trace.asked i k o m d lt kt tr was new) = event _ (sim tr) i _ _ was _ (done (Ask k o) m d) (λ s t hs c x at_i. TraceOn.asked i k o _ lt kt x at_i new c)
  sim (Cluster.Trace.ticks i m d lt tr was) = event _ (sim tr) i _ _ was _ (done Tick m d) (λ s t hs c x at_i. TraceOn.ticks i _ lt x at_i c)
  sim (Cluster.Trace.falls i m d g lt tr was a) = event _ (sim tr) i _ _ was _ (λ gs t. between m d g gs t a) (λ s t hs c x at_i. TraceOn.falls i lt x at_i c)
  sim (Cluster.Trace.falls_rising i d f g lt tr was u a) = event _ (sim tr) i _ _ was _ (λ gs t. up-cut i d f g gs t u a) (λ s t hs c x at_i. TraceOn.falls_rising i lt x at_i c)
  sim (Cluster.Trace.falls_doing i m d f g p lt tr was mem to u a) = event _ (sim tr) i _ _ was _ (λ gs t. cut_short (From p.from p.what) m d f g gs t u a) (λ s t hs c x at_i. TraceOn.falls_doing i p lt x at_i mem to c)
  sim (Cluster.Trace.falls_asked i k o m d f g lt kt tr was new u a) = event _ (sim tr) i _ _ was _ (λ gs t. cut_short (Ask k o) m d f g gs t u a) (λ s t hs c x at_i. TraceOn.falls_asked i k o lt kt x at_i new c)
  sim (Cluster.Trace.falls_ticking i m d f g lt tr was u a) = event _ (sim tr) i _ _ was _ (λ gs t. cut_short Tick m d f g gs t u a) (λ s t hs c x at_i. TraceOn.falls_ticking i lt x at_i c)

pub houses_compose : HousesCompose
houses_compose C R M O Q j p e h keeps one all size a b lo hi n es w lt tr =
    let (gs, trs, back) = sim j e h all size tr in
    let (σ, ok) = kept j e size keeps lo hi trs in
    let (hs, t, same) = back σ ok in
    one all size a b lo hi n es _ lt t
