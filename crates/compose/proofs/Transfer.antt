-- What is carried up to 2^56 steps, from what is carried for any limit of at least that many.
use Rattle.std.specs.Prelude.{◌≡◌, refl, ◌⊎◌, ℕ, suc, ◌<◌}
use Rattle.std.proofs.Common.{inl, inr, lit≤}
use mathlib.Core.List.{List, ◌∷◌, ◌++◌, Memᴰ}
use Rattle.disks.specs.Device.{Device, run, Ran}
use Rattle.disks.specs.Cluster
use Rattle.disks.specs.Cluster.{Out, House, Seen, fell, Packet, Asking, tells, on as on', off as off'}
use Rattle.compose.specs.Pure.{Pure, Stand, off, on, World, Trace, after, fallen, risen}
use Rattle.compose.specs.Simulation.{Simulates, Carries, CarriesWithin}
use Rattle.compose.specs.SimulationFor.{SimulatesFor}
use Rattle.compose.proofs.TransferFor as to
use Rattle.compose.proofs.TransferFor.{carries_for, carries_within_for}

abbrev pub to_the_limit : {M O R : Type 0} {h : House M O R} {q : Pure M O R} {all size : ℕ} → Simulates h q all size → SimulatesFor h q all size 72057594037927936
to_the_limit sim =
    record {
      Off = sim.Off;
      On = sim.On;
      blank = sim.blank;
      off_later = sim.off_later;
      on_later = sim.on_later;
      opens = sim.opens;
      opens-cut = sim.opens-cut;
      out_is = sim.out_is;
      does = sim.does;
      does-cut = sim.does-cut;
      cut = sim.cut;
    }

-- The steps of the transfer, for the limit 2^56.
module _ {M O R : Type 0} (h : House M O R) (q : Pure M O R) (all size : ℕ) (sim : Simulates h q all size) where
  abbrev pub Match : (n j : ℕ) → Cluster.Stand h.Mem → Stand q.Mem q.D → Type 0
  Match n j a b = to.Match h q all size 72057594037927936 (to_the_limit sim) n j a b

  pub later : (n j : ℕ) (a : Cluster.Stand h.Mem) (b : Stand q.Mem q.D) → Match n j a b → Match (suc n) j a b
  later = to.later h q all size 72057594037927936 (to_the_limit sim)

  pub find_on : (n j : ℕ) (k : h.Mem) (d : Device) (b : Stand q.Mem q.D) → Match n j (on' k d) b → (m : q.Mem) × (s : q.D) × (b ≡ on m s) × sim.On n j m s k d
  find_on = to.find_on h q all size 72057594037927936 (to_the_limit sim)

  pub find_off : (n j : ℕ) (d : Device) (b : Stand q.Mem q.D) → Match n j (off' d) b → (s : q.D) × (b ≡ off s) × sim.Off n j s d
  find_off = to.find_off h q all size 72057594037927936 (to_the_limit sim)

  -- the pure houses' world
  pub record Like (n : ℕ) (es : List (Seen O R)) (w : Cluster.World h.Mem M) : Type 0 where
    pub world : World q.Mem q.D M
    pub trace : Trace q all es world
    pub houses : (j : ℕ) → Match n j (w.house j) (world.house j)
    pub wire_is : world.wire ≡ w.wire
    pub pending_is : world.pending ≡ w.pending

  -- a world that has come to be so, and one that stands beside it
  like : {n : ℕ} {es : List (Seen O R)} {w : Cluster.World h.Mem M} → to.Like h q all size 72057594037927936 (to_the_limit sim) n es w → Like n es w
  like y = record { world = y.world; trace = y.trace; houses = y.beside.houses; wire_is = y.beside.wire_is; pending_is = y.beside.pending_is }

  beside : {n : ℕ} {es : List (Seen O R)} {w : Cluster.World h.Mem M} (l : Like n es w) → to.Beside h q all size 72057594037927936 (to_the_limit sim) n w l.world
  beside l = record { houses = l.houses; wire_is = l.wire_is; pending_is = l.pending_is }

  module _ (n : ℕ) (es : List (Seen O R)) (w : Cluster.World h.Mem M) (l : Like n es w) (i : ℕ) where
    pub is_on : (k : h.Mem) (d : Device) → w.house i ≡ on' k d → (m : q.Mem) × (s : q.D) × (l.world.house i ≡ on m s) × sim.On n i m s k d
    is_on = to.is_on h q all size 72057594037927936 (to_the_limit sim) n w l.world (beside l) i

    pub is_off : (d : Device) → w.house i ≡ off' d → (s : q.D) × (l.world.house i ≡ off s) × sim.Off n i s d
    is_off = to.is_off h q all size 72057594037927936 (to_the_limit sim) n w l.world (beside l) i

    -- an event came to its end
    pub ended : (pend pend' : List Asking) → pend' ≡ pend → (fs : List (Seen O R)) (r : Ran (record { out : List (Out M R); mem : h.Mem })) (x : record { stored : q.D; mem : q.Mem; out : List (Out M R) }) → r.value.out ≡ x.out → sim.On (suc n) i x.mem x.stored r.value.mem r.device →
        Trace q all (tells i x.out ++ fs) (after q i x (record { house = l.world.house; wire = l.world.wire; pending = pend' })) → Like (suc n) (tells i r.value.out ++ fs) (Cluster.after {O = O} h i r (record { house = w.house; wire = w.wire; pending = pend }))
    ended pend pend' p fs r x e o t =
        let b : to.Beside h q all size 72057594037927936 (to_the_limit sim) n (record { house = w.house; wire = w.wire; pending = pend }) (record { house = l.world.house; wire = l.world.wire; pending = pend' }) = record { houses = l.houses; wire_is = l.wire_is; pending_is = p } in
        let z = to.ended h q all size 72057594037927936 (to_the_limit sim) n _ _ b i r x e o in
        record { world = after q i x (record { house = l.world.house; wire = l.world.wire; pending = pend' }); trace = rw e t; houses = z.houses; wire_is = z.wire_is; pending_is = z.pending_is }

    -- power failed
    pub fell-down : (fs : List (Seen O R)) (s : q.D) (f : Device) → sim.Off (suc n) i s f → Trace q all (fell i ∷ fs) (fallen i s l.world) → Like (suc n) (fell i ∷ fs) (Cluster.fallen i f w)
    fell-down fs s f o t = let z = to.fell-down h q all size 72057594037927936 (to_the_limit sim) n w l.world (beside l) i s f o in
        record { world = fallen i s l.world; trace = t; houses = z.houses; wire_is = z.wire_is; pending_is = z.pending_is }

    pub either : (fs : List (Seen O R)) (s s' : q.D) (f : Device) → sim.Off (suc n) i s f ⊎ sim.Off (suc n) i s' f → ((z : q.D) → (z ≡ s) ⊎ (z ≡ s') → Trace q all (fell i ∷ fs) (fallen i z l.world)) → Like (suc n) (fell i ∷ fs) (Cluster.fallen i f w)
    either fs s s' f (inl o) t = fell-down fs s f o (t s (inl refl))
    either fs s s' f (inr o) t = fell-down fs s' f o (t s' (inr refl))

    pub came_up : (s : q.D) (d : Device) → sim.On (suc n) i (q.opens i all s).mem (q.opens i all s).stored (run (h.opens i all size) d).value (run (h.opens i all size) d).device → Trace q all es (risen q all i s l.world) → Like (suc n) es (Cluster.risen {O = O} h all size i d w)
    came_up s d o t = let z = to.came_up h q all size 72057594037927936 (to_the_limit sim) n w l.world (beside l) i s d o in
        record { world = risen q all i s l.world; trace = t; houses = z.houses; wire_is = z.wire_is; pending_is = z.pending_is }

    pub on_wire : (p : Packet M) → Memᴰ p w.wire → Memᴰ p l.world.wire
    on_wire = to.on_wire h q all size 72057594037927936 (to_the_limit sim) n w l.world (beside l) i

  pub alike : {n : ℕ} {es : List (Seen O R)} {w : Cluster.World h.Mem M} → n < 72057594037927936 → Cluster.Trace h all size n es w → Like n es w
  alike b t = like (to.alike h q all size 72057594037927936 (to_the_limit sim) b t)

pub carries : Carries
carries M O R h q p sim = carries_for M O R h q p _ (lit≤ tt) (λ all size a b c d. to_the_limit (sim all size a b c d))

pub carries-within : CarriesWithin
carries-within M O R h q sim inside =
    carries_within_for M O R h q _ (lit≤ tt) (λ all size a b c d. to_the_limit (sim all size a b c d))
    (λ all size a b c d. record { opens = (inside all size a b c d).opens; does = (inside all size a b c d).does })
