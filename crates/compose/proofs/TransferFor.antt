-- A house on a device that does what a pure house does, for as many steps as a limit says: each of its traces is one of the pure house's,
-- house by house related, with the same packets under way and the same calls pending. So what holds of the pure traces holds of its own.
-- A world of pure houses stands beside one of houses on devices by a record of its own (`Beside`), which a way of answering, that goes on
-- from a trace, needs too. The pure trace has no more steps.
use Rattle.std.specs.Prelude.{◌≡◌, refl, ◌⊎◌, ℕ, suc, ◌<◌, ◌≤◌}
use Rattle.std.proofs.Common.{inl, inr, arith}
use mathlib.Core.List.{List, ◌∷◌, ◌++◌, Memᴰ}
use Rattle.disks.specs.Device.{Device, run, Ran}
use Rattle.disks.specs.Cluster
use Rattle.disks.specs.Cluster.{In, From, Ask, Tick, Out, Tell, House, Seen, called, fell, Packet, Asking, put, packets, tells, settled, away_from, count_at, Plain, Waiting, Ready, Linear, AsOne, BusyAtNine, Within, begin as begin', rises as rises', does as does', asked as asked', ticks as ticks', falls as falls', falls_rising as falls_rising', falls_doing as falls_doing', falls_asked as falls_asked', falls_ticking as falls_ticking', on as on', off as off'}
use Rattle.compose.specs.Pure.{Pure, Stand, off, on, World, Trace, begin, rises, does, asked, ticks, falls, falls_rising, falls_doing, falls_asked, falls_ticking, after, fallen, risen, asking, steps_of}
use Rattle.compose.proofs.Put.{both-put}
use Rattle.compose.specs.SimulationFor.{SimulatesFor, CarriesFor, CarriesWithinFor}

module _ {M O R : Type 0} (h : House M O R) (q : Pure M O R) (all size limit : ℕ) (sim : SimulatesFor h q all size limit) where
  abbrev pub Match : (n j : ℕ) → Cluster.Stand h.Mem → Stand q.Mem q.D → Type 0
  Match n j (off' d) (off s) = sim.Off n j s d
  Match n j (off' d) (on m s) = ⊥
  Match n j (on' k d) (off s) = ⊥
  Match n j (on' k d) (on m s) = sim.On n j m s k d

  pub later : (n j : ℕ) (a : Cluster.Stand h.Mem) (b : Stand q.Mem q.D) → Match n j a b → Match (suc n) j a b
  later n j (off' d) (off s) w = sim.off_later n j s d w
  later n j (off' d) (on m s) w = w
  later n j (on' k d) (off s) w = w
  later n j (on' k d) (on m s) w = sim.on_later n j m s k d w

  pub find_on : (n j : ℕ) (k : h.Mem) (d : Device) (b : Stand q.Mem q.D) → Match n j (on' k d) b → (m : q.Mem) × (s : q.D) × (b ≡ on m s) × sim.On n j m s k d
  find_on n j k d (off s) w = absurd w
  find_on n j k d (on m s) w = (m, s, refl, w)

  pub find_off : (n j : ℕ) (d : Device) (b : Stand q.Mem q.D) → Match n j (off' d) b → (s : q.D) × (b ≡ off s) × sim.Off n j s d
  find_off n j d (off s) w = (s, refl, w)
  find_off n j d (on m s) w = absurd w

  -- a world of pure houses beside one of houses on devices
  pub record Beside (n : ℕ) (w : Cluster.World h.Mem M) (u : World q.Mem q.D M) : Type 0 where
    pub houses : (j : ℕ) → Match n j (w.house j) (u.house j)
    pub wire_is : u.wire ≡ w.wire
    pub pending_is : u.pending ≡ w.pending

  -- such a world that has come to be, by what is seen of the houses on devices
  pub record Like (n : ℕ) (es : List (Seen O R)) (w : Cluster.World h.Mem M) : Type 0 where
    pub world : World q.Mem q.D M
    pub trace : Trace q all es world
    pub few : steps_of trace ≤ n
    pub beside : Beside n w world

  -- a trace of no more steps
  abbrev pub TraceIn : (n : ℕ) → List (Seen O R) → World q.Mem q.D M → Type 0
  TraceIn n es u = (t : Trace q all es u) × (steps_of t ≤ n)

  module _ (n : ℕ) (w : Cluster.World h.Mem M) (u : World q.Mem q.D M) (l : Beside n w u) (i : ℕ) where
    pub is_on : (k : h.Mem) (d : Device) → w.house i ≡ on' k d → (m : q.Mem) × (s : q.D) × (u.house i ≡ on m s) × sim.On n i m s k d
    is_on k d e = find_on n i k d (u.house i) (rw e at (l.houses i))

    pub is_off : (d : Device) → w.house i ≡ off' d → (s : q.D) × (u.house i ≡ off s) × sim.Off n i s d
    is_off d e = find_off n i d (u.house i) (rw e at (l.houses i))

    -- one house comes to be so, and the others stay
    goes_on : (a : Cluster.Stand h.Mem) (b : Stand q.Mem q.D) → Match (suc n) i a b → (j : ℕ) → Match (suc n) j (put i a w.house j) (put i b u.house j)
    goes_on a b o = both-put (Match (suc n)) i a b w.house u.house o (λ j. later n j (w.house j) (u.house j) (l.houses j))

    -- a call is made
    was-asked : (c : ℕ) → Beside n (Cluster.asking i c w) (asking i c u)
    was-asked c = record { houses = l.houses; wire_is = l.wire_is; pending_is = cc l.pending_is }

    -- an event came to its end
    pub ended : (r : Ran (record { out : List (Out M R); mem : h.Mem })) (x : record { stored : q.D; mem : q.Mem; out : List (Out M R) }) → r.value.out ≡ x.out → sim.On (suc n) i x.mem x.stored r.value.mem r.device → Beside (suc n) (Cluster.after {O = O} h i r w) (after q i x u)
    ended r x e o =
        record {
          houses = goes_on _ _ o;
          wire_is = cc (e, l.wire_is);
          pending_is = cc (e, l.pending_is);
        }

    -- power failed
    pub fell-down : (s : q.D) (f : Device) → sim.Off (suc n) i s f → Beside (suc n) (Cluster.fallen i f w) (fallen i s u)
    fell-down s f o = record { houses = goes_on _ _ o; wire_is = l.wire_is; pending_is = cc l.pending_is }

    -- power came
    pub came_up : (s : q.D) (d : Device) → sim.On (suc n) i (q.opens i all s).mem (q.opens i all s).stored (run (h.opens i all size) d).value (run (h.opens i all size) d).device → Beside (suc n) (Cluster.risen {O = O} h all size i d w) (risen q all i s u)
    came_up s d o = record { houses = goes_on _ _ o; wire_is = l.wire_is; pending_is = l.pending_is }

    pub on_wire : (p : Packet M) → Memᴰ p w.wire → Memᴰ p u.wire
    on_wire p m = rw l.wire_is m

    pub either : (es : List (Seen O R)) (s s' : q.D) (f : Device) → sim.Off (suc n) i s f ⊎ sim.Off (suc n) i s' f → ((z : q.D) → (z ≡ s) ⊎ (z ≡ s') → TraceIn (suc n) (fell i ∷ es) (fallen i z u)) → Like (suc n) (fell i ∷ es) (Cluster.fallen i f w)
    either es s s' f (inl o) t = record { world = fallen i s u; trace = (t s (inl refl)).0; few = (t s (inl refl)).1; beside = fell-down s f o }
    either es s s' f (inr o) t = record { world = fallen i s' u; trace = (t s' (inr refl)).0; few = (t s' (inr refl)).1; beside = fell-down s' f o }

    -- of an event that ended the same is told
    told : (es : List (Seen O R)) (k : h.Mem) (d : Device) (x : In M O) (m : q.Mem) (s : q.D) → i < all → suc n < limit → sim.On n i m s k d → TraceIn (suc n) (tells i (q.does x m s).out ++ es) (after q i (q.does x m s) u) →
        Like (suc n) (tells i (run (h.does x k) d).value.out ++ es) (Cluster.after {O = O} h i (run (h.does x k) d) w)
    told es k d x m s hi b o t =
        let e = sim.out_is n i m s k d x o in
        let f : TraceIn (suc n) (tells i (run (h.does x k) d).value.out ++ es) (after q i (q.does x m s) u) = rw e t in
        record {
          world = after q i (q.does x m s) u;
          trace = f.0;
          few = f.1;
          beside = ended (run (h.does x k) d) (q.does x m s) e (sim.does n i m s k d x hi b o);
        }

  pub alike : {n : ℕ} {es : List (Seen O R)} {w : Cluster.World h.Mem M} → n < limit → Cluster.Trace h all size n es w → Like n es w
  unfolding steps_of
  alike b begin' = record { world = _; trace = begin; few = omega arith; beside = record { houses = λ j. sim.blank j; wire_is = refl; pending_is = refl } }
  alike b (rises' {n} {es} {w} i d hi t e) = let l = alike (omega arith) t in let z = is_off n w l.world l.beside i d e in
      record { world = _; trace = rises i z.0 hi l.trace z.1; few = omega (arith, l.few); beside = came_up n w l.world l.beside i z.0 d (sim.opens n i z.0 d hi b z.2) }
  alike b (does' {n} {es} {w} i k d p hi t e m to) = let l = alike (omega arith) t in let z = is_on n w l.world l.beside i k d e in
      told n w l.world l.beside i es k d (From p.from p.what) z.0 z.1 hi b z.3 (does i z.0 z.1 p hi l.trace z.2 (on_wire n w l.world l.beside i p m) to, omega (arith, l.few))
  alike b (asked' {n} {es} {w} i c o k d hi hk t e u) = let l = alike (omega arith) t in let z = is_on n w l.world l.beside i k d e in
      told n (Cluster.asking i c w) (asking i c l.world) (was-asked n w l.world l.beside i c) i (called i c o ∷ es) k d (Ask c o) z.0 z.1 hi b z.3 (asked i c o z.0 z.1 hi l.trace z.2 u, omega (arith, l.few))
  alike b (ticks' {n} {es} {w} i k d hi t e) = let l = alike (omega arith) t in let z = is_on n w l.world l.beside i k d e in
      told n w l.world l.beside i es k d Tick z.0 z.1 hi b z.3 (ticks i z.0 z.1 hi l.trace z.2, omega (arith, l.few))
  alike b (falls' {n} {es} {w} i k d f hi t e c) = let l = alike (omega arith) t in let z = is_on n w l.world l.beside i k d e in
      record { world = _; trace = falls i z.0 z.1 hi l.trace z.2; few = omega (arith, l.few); beside = fell-down n w l.world l.beside i z.1 f (sim.cut n i z.0 z.1 k d f z.3 c) }
  alike b (falls_rising' {n} {es} {w} i d g f hi t e up c) = let l = alike (omega arith) t in let z = is_off n w l.world l.beside i d e in
      either n w l.world l.beside i es z.0 _ f (sim.opens-cut n i z.0 d g f hi b z.2 up c) (λ y o. (falls_rising i z.0 y hi l.trace z.1 o, omega (arith, l.few)))
  alike b (falls_doing' {n} {es} {w} i k d g f p hi t e m to up c) = let l = alike (omega arith) t in let z = is_on n w l.world l.beside i k d e in
      either n w l.world l.beside i es z.1 _ f (sim.does-cut n i z.0 z.1 k d g f (From p.from p.what) hi b z.3 up c) (λ y o. (falls_doing i z.0 z.1 y p hi l.trace z.2 (on_wire n w l.world l.beside i p m) to o, omega (arith, l.few)))
  alike b (falls_asked' {n} {es} {w} i a o k d g f hi hk t e u up c) = let l = alike (omega arith) t in let z = is_on n w l.world l.beside i k d e in
      either n w l.world l.beside i (called i a o ∷ es) z.1 _ f (sim.does-cut n i z.0 z.1 k d g f (Ask a o) hi b z.3 up c) (λ y v. (falls_asked i a o z.0 z.1 y hi l.trace z.2 u v, omega (arith, l.few)))
  alike b (falls_ticking' {n} {es} {w} i k d g f hi t e up c) = let l = alike (omega arith) t in let z = is_on n w l.world l.beside i k d e in
      either n w l.world l.beside i es z.1 _ f (sim.does-cut n i z.0 z.1 k d g f Tick hi b z.3 up c) (λ y o. (falls_ticking i z.0 z.1 y hi l.trace z.2 o, omega (arith, l.few)))

pub carries_for : CarriesFor
carries_for M O R h q p limit far sim = (
  λ one all size a b c d n es w l t. let y = alike h (q all size) all size limit (sim all size a b c d) (omega arith) t in let z = one all size all a es y.world y.trace in (z.0, z.1, z.2, z.3, 0, z.4),
  λ r one all size a b c d n es w l t i k m v x e f.
      let y = alike h (q all size) all size limit (sim all size a b c d) (omega arith) t in
      let o = is_on h (q all size) all size limit (sim all size a b c d) n w y.world y.beside i m v e in
      let z = one all size all a es y.world y.trace i k o.0 o.1 x o.2 (rw ((sim all size a b c d).out_is n i o.0 o.1 m v x o.3) at f) in
      (z.0, z.1, rw y.beside.pending_is at z.2),
)

pub carries_within_for : CarriesWithinFor
carries_within_for M O R h q limit far sim inside all size a b c d n es w l t i hi =
    let y = alike h (q all size) all size limit (sim all size a b c d) (omega arith) t in (
      λ v e. let o = is_off h (q all size) all size limit (sim all size a b c d) n w y.world y.beside i v e in (inside all size a b c d).opens n i o.0 v hi o.2,
      λ m v x e. let o = is_on h (q all size) all size limit (sim all size a b c d) n w y.world y.beside i m v e in (inside all size a b c d).does n i o.0 o.1 m v x o.3,
    )
