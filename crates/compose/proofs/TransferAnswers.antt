-- A house on a device that does what a pure house does answers if the pure house does: each step by which the pure houses are helped is
-- one by which those on devices are, with the same told and the same packets sent since.
use Rattle.std.specs.Prelude.{◌≡◌, refl, ℕ, suc, ◌+◌, ◌<◌, T}
use Rattle.std.proofs.Common.{arith}
use mathlib.Core.List.{List, ◌++◌}
use Rattle.disks.specs.Device.{Device, run}
use Rattle.disks.specs.Cluster
use Rattle.disks.specs.Cluster.{In, From, Tick, Out, House, Seen, tells, inside, Helped, still as still', rising as rising', doing as doing', ticking as ticking', on as on', off as off'}
use Rattle.compose.proofs.Group.{in_group}
use Rattle.compose.specs.Pure.{Pure, off, on, World, after, PureHelped, still, rising, doing, ticking}
use Rattle.compose.specs.SimulationFor.{SimulatesFor, CarriesAnswers, CarriesAnswersWithin}
use Rattle.compose.proofs.TransferFor.{Match, Beside, ended, came_up, alike}

module _ {M O R : Type 0} (h : House M O R) (q : Pure M O R) (all size limit : ℕ) (sim : SimulatesFor h q all size limit) where
  find_on : (n j : ℕ) (m : q.Mem) (s : q.D) (a : Cluster.Stand h.Mem) → Match h q all size limit sim n j a (on m s) → (k : h.Mem) × (d : Device) × (a ≡ on' k d) × sim.On n j m s k d
  find_on n j m s (off' d) w = absurd w
  find_on n j m s (on' k d) w = (k, d, refl, w)

  find_off : (n j : ℕ) (s : q.D) (a : Cluster.Stand h.Mem) → Match h q all size limit sim n j a (off s) → (d : Device) × (a ≡ off' d) × sim.Off n j s d
  find_off n j s (off' d) w = (d, refl, w)
  find_off n j s (on' k d) w = absurd w

  module _ (group : List ℕ) (within : T (inside all group)) (n : ℕ) (w : Cluster.World h.Mem M) where
    -- how far the houses on devices have come with the pure ones
    record Reached (steps : ℕ) (es fs : List (Seen O R)) (v : World q.Mem q.D M) : Type 0 where
      count : ℕ
      counted : count ≡ n + steps
      world : Cluster.World h.Mem M
      helped : Helped h all size group es w fs world
      beside : Beside h q all size limit sim count world v

    module _ {steps : ℕ} {es fs : List (Seen O R)} {v : World q.Mem q.D M} (y : Reached steps es fs v) (i : ℕ) where
      is_on : (m : q.Mem) (s : q.D) → v.house i ≡ on m s → (k : h.Mem) × (d : Device) × (y.world.house i ≡ on' k d) × sim.On y.count i m s k d
      is_on m s e = find_on y.count i m s (y.world.house i) (rw e at (y.beside.houses i))

      is_off : (s : q.D) → v.house i ≡ off s → (d : Device) × (y.world.house i ≡ off' d) × sim.Off y.count i s d
      is_off s e = find_off y.count i s (y.world.house i) (rw e at (y.beside.houses i))

      -- an event came to its end
      step : (k : h.Mem) (d : Device) (x : In M O) (m : q.Mem) (s : q.D) → i < all → n + suc steps < limit → sim.On y.count i m s k d →
          Helped h all size group es w (tells i (run (h.does x k) d).value.out ++ fs) (Cluster.after {O = O} h i (run (h.does x k) d) y.world) → Reached (suc steps) es (tells i (q.does x m s).out ++ fs) (after q i (q.does x m s) v)
      step k d x m s hi b o he =
          let e = sim.out_is y.count i m s k d x o in
          record {
            count = suc y.count;
            counted = omega (arith, y.counted);
            world = _;
            helped = rw (← e) he;
            beside = ended h q all size limit sim y.count y.world v y.beside i (run (h.does x k) d) (q.does x m s) e (sim.does y.count i m s k d x hi (omega (arith, y.counted)) o);
          }

    reach : {steps : ℕ} {es fs : List (Seen O R)} {u v : World q.Mem q.D M} → Beside h q all size limit sim n w u → n + steps < limit → PureHelped q all group steps es u fs v → Reached steps es fs v
    reach l b still = record { count = n; counted = omega arith; world = w; helped = still'; beside = l }
    reach l b (rising {v = v} i s mem t e) =
        let y = reach l (omega arith) t in let z = is_off y i s e in
        record {
          count = suc y.count;
          counted = omega (arith, y.counted);
          world = _;
          helped = rising' i z.0 mem y.helped z.1;
          beside = came_up h q all size limit sim y.count y.world v y.beside i s z.0 (sim.opens y.count i s z.0 (in_group all group within mem) (omega (arith, y.counted)) z.2);
        }
    reach l b (doing i m s p news mem from t e wires new to) =
        let y = reach l (omega arith) t in let z = is_on y i m s e in
        step y i z.0 z.1 (From p.from p.what) m s (in_group all group within mem) b z.3 (doing' i z.0 z.1 p news mem from y.helped z.2 (cc (y.beside.wire_is, wires, l.wire_is)) new to)
    reach l b (ticking i m s mem t e) =
        let y = reach l (omega arith) t in let z = is_on y i m s e in
        step y i z.0 z.1 Tick m s (in_group all group within mem) b z.3 (ticking' i z.0 z.1 mem y.helped z.2)

pub carries_answers_within : CarriesAnswersWithin
carries_answers_within M O R h q limit bound far sim one all size a b c d n es w lt t group dist within len =
    let y = alike h (q all size) all size limit (sim all size a b c d) (omega arith) t in
    let (fs, v, steps, few, he, all_told) = one all size all a b es y.world y.trace (omega (arith, y.few)) group dist within len in
    let z = reach h (q all size) all size limit (sim all size a b c d) group within n w y.beside (omega arith) he in
    (fs, z.world, z.helped, λ x m g. all_told x (rw y.beside.pending_is m) g)

pub carries-answers : CarriesAnswers
carries-answers M O R h q limit bound far sim one = carries_answers_within M O R h q limit bound far sim (λ all size n three few es w t _. one all size n three few es w t)
