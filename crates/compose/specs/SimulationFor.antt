-- Simulation of a pure house, as in `Simulation`, for as many steps as a limit says: what a house can do for as long as its numbers last.
-- Assumes nothing.
use Rattle.std.specs.Prelude.{◌≡◌, ◌⊎◌, ℕ, suc, ◌+◌, ◌<◌, ◌≤◌}
use Rattle.disks.specs.Device.{Device, blank_device, run, Upto, AfterCut, Fair}
use Rattle.disks.specs.Cluster.{In, House, Plain, AsOne, BusyAtNine, Within, Answers}
use Rattle.compose.specs.Pure.{Pure, PureAsOne, PureBusy, PureAnswers, PureAnswersWithin}

-- Off: what is stored and a device that holds it. On: the same, with both memories. n counts the steps of all houses, which
-- are fewer than the limit. Whatever packet comes, sent by a house or not.
pub record SimulatesFor {M O R : Type 0} (h : House M O R) (q : Pure M O R) (all size limit : ℕ) : Type 1 where
  pub Off : (n i : ℕ) → q.D → Device → Type 0
  pub On : (n i : ℕ) → q.Mem → q.D → h.Mem → Device → Type 0
  pub blank : (i : ℕ) → Off 0 i q.start blank_device
  pub off_later : (n i : ℕ) (s : q.D) (d : Device) → Off n i s d → Off (suc n) i s d
  pub on_later : (n i : ℕ) (m : q.Mem) (s : q.D) (k : h.Mem) (d : Device) → On n i m s k d → On (suc n) i m s k d
  pub opens : (n i : ℕ) (s : q.D) (d : Device) → i < all → suc n < limit → Off n i s d → On (suc n) i (q.opens i all s).mem (q.opens i all s).stored (run (h.opens i all size) d).value (run (h.opens i all size) d).device
  pub opens-cut : (n i : ℕ) (s : q.D) (d e f : Device) → i < all → suc n < limit → Off n i s d → Upto (h.opens i all size) d e → AfterCut e f → Off (suc n) i s f ⊎ Off (suc n) i (q.opens i all s).stored f
  pub out_is : (n i : ℕ) (m : q.Mem) (s : q.D) (k : h.Mem) (d : Device) (x : In M O) → On n i m s k d → (run (h.does x k) d).value.out ≡ (q.does x m s).out
  pub does : (n i : ℕ) (m : q.Mem) (s : q.D) (k : h.Mem) (d : Device) (x : In M O) → i < all → suc n < limit → On n i m s k d → On (suc n) i (q.does x m s).mem (q.does x m s).stored (run (h.does x k) d).value.mem (run (h.does x k) d).device
  pub does-cut : (n i : ℕ) (m : q.Mem) (s : q.D) (k : h.Mem) (d e f : Device) (x : In M O) → i < all → suc n < limit → On n i m s k d → Upto (h.does x k) d e → AfterCut e f → Off (suc n) i s f ⊎ Off (suc n) i (q.does x m s).stored f
  pub cut : (n i : ℕ) (m : q.Mem) (s : q.D) (k : h.Mem) (d f : Device) → On n i m s k d → AfterCut d f → Off (suc n) i s f

-- What holds of the pure houses holds of those on devices that simulate them for 2^56 steps or more: as one place, with no cut, and
-- busy only at nine.
abbrev pub CarriesFor : Type 1
CarriesFor =
    (M O R : Type 0) (h : House M O R) (q : ℕ → ℕ → Pure M O R) (p : ℕ → ℕ → Plain O R) (limit : ℕ) → 72057594037927936 ≤ limit →
    ((all size : ℕ) → 3 ≤ all → all ≤ 49 → 65536 ≤ size → size ≤ 1099511627776 → SimulatesFor h (q all size) all size limit) →
    (((all size : ℕ) → PureAsOne (p all size) (q all size)) → AsOne p h) × ((b : R) → ((all size : ℕ) → PureBusy b (q all size)) → BusyAtNine b h)

-- a house that simulates for so many steps asks only for what its device has
pub record InsideFor {M O R : Type 0} (h : House M O R) (q : Pure M O R) (all size limit : ℕ) (sim : SimulatesFor h q all size limit) : Type 0 where
  pub opens : (n i : ℕ) (s : q.D) (d : Device) → i < all → sim.Off n i s d → Fair size (h.opens i all size) d
  pub does : (n i : ℕ) (m : q.Mem) (s : q.D) (k : h.Mem) (d : Device) (x : In M O) → sim.On n i m s k d → Fair size (h.does x k) d

-- It stays within its device, over every trace.
abbrev pub CarriesWithinFor : Type 1
CarriesWithinFor =
    (M O R : Type 0) (h : House M O R) (q : ℕ → ℕ → Pure M O R) (limit : ℕ) → 72057594037927936 ≤ limit → (sim : (all size : ℕ) → 3 ≤ all → all ≤ 49 → 65536 ≤ size → size ≤ 1099511627776 → SimulatesFor h (q all size) all size limit) →
    ((all size : ℕ) (a : 3 ≤ all) (b : all ≤ 49) (c : 65536 ≤ size) (d : size ≤ 1099511627776) → InsideFor h (q all size) all size limit (sim all size a b c d)) → Within h

-- It answers, if the pure houses do in at most so many steps, and it simulates them for that many beyond 2^56: a way of answering goes
-- on from a trace that may be nearly that long.
abbrev pub CarriesAnswers : Type 1
CarriesAnswers =
    (M O R : Type 0) (h : House M O R) (q : ℕ → ℕ → Pure M O R) (limit bound : ℕ) → 72057594037927936 + bound ≤ limit →
    ((all size : ℕ) → 3 ≤ all → all ≤ 49 → 65536 ≤ size → size ≤ 1099511627776 → SimulatesFor h (q all size) all size limit) → ((all size : ℕ) → PureAnswers bound (q all size)) → Answers h

-- Then it is enough that the pure houses answer from what can come to be in fewer than 2^56 steps.
abbrev pub CarriesAnswersWithin : Type 1
CarriesAnswersWithin =
    (M O R : Type 0) (h : House M O R) (q : ℕ → ℕ → Pure M O R) (limit bound : ℕ) →
    72057594037927936 + bound ≤ limit → ((all size : ℕ) → 3 ≤ all → all ≤ 49 → 65536 ≤ size → size ≤ 1099511627776 → SimulatesFor h (q all size) all size limit) → ((all size : ℕ) → PureAnswersWithin 72057594037927936 bound (q all size)) → Answers h
