-- When a house on a device does what a pure house does: a relation between devices and what is stored that holds at every place where
-- the house may be cut, for what was stored before the event or after it. `SimulationFor` says the same for any limit: these statements
-- stand beside it in their own words, and follow from it in proofs/Transfer.
-- Assumes nothing.
use Rattle.std.specs.Prelude.{◌≡◌, ◌⊎◌, ℕ, suc, ◌<◌, ◌≤◌}
use Rattle.disks.specs.Device.{Device, blank_device, run, Upto, AfterCut, Fair}
use Rattle.disks.specs.Cluster.{In, House, Plain, AsOne, BusyAtNine, Within}
use Rattle.compose.specs.Pure.{Pure, PureAsOne, PureBusy}

-- Off: what is stored and a device that holds it. On: the same, with both memories. n counts the steps of all houses. Whatever packet
-- comes, sent by a house or not.
pub record Simulates {M O R : Type 0} (h : House M O R) (q : Pure M O R) (all size : ℕ) : Type 1 where
  pub Off : (n i : ℕ) → q.D → Device → Type 0
  pub On : (n i : ℕ) → q.Mem → q.D → h.Mem → Device → Type 0
  pub blank : (i : ℕ) → Off 0 i q.start blank_device
  pub off_later : (n i : ℕ) (s : q.D) (d : Device) → Off n i s d → Off (suc n) i s d
  pub on_later : (n i : ℕ) (m : q.Mem) (s : q.D) (k : h.Mem) (d : Device) → On n i m s k d → On (suc n) i m s k d
  pub opens : (n i : ℕ) (s : q.D) (d : Device) → i < all → suc n < 72057594037927936 → Off n i s d → On (suc n) i (q.opens i all s).mem (q.opens i all s).stored (run (h.opens i all size) d).value (run (h.opens i all size) d).device
  pub opens-cut : (n i : ℕ) (s : q.D) (d e f : Device) → i < all → suc n < 72057594037927936 → Off n i s d → Upto (h.opens i all size) d e → AfterCut e f → Off (suc n) i s f ⊎ Off (suc n) i (q.opens i all s).stored f
  pub out_is : (n i : ℕ) (m : q.Mem) (s : q.D) (k : h.Mem) (d : Device) (x : In M O) → On n i m s k d → (run (h.does x k) d).value.out ≡ (q.does x m s).out
  pub does : (n i : ℕ) (m : q.Mem) (s : q.D) (k : h.Mem) (d : Device) (x : In M O) → i < all → suc n < 72057594037927936 → On n i m s k d → On (suc n) i (q.does x m s).mem (q.does x m s).stored (run (h.does x k) d).value.mem (run (h.does x k) d).device
  pub does-cut : (n i : ℕ) (m : q.Mem) (s : q.D) (k : h.Mem) (d e f : Device) (x : In M O) → i < all → suc n < 72057594037927936 → On n i m s k d → Upto (h.does x k) d e → AfterCut e f → Off (suc n) i s f ⊎ Off (suc n) i (q.does x m s).stored f
  pub cut : (n i : ℕ) (m : q.Mem) (s : q.D) (k : h.Mem) (d f : Device) → On n i m s k d → AfterCut d f → Off (suc n) i s f

-- What holds of the pure houses holds of those on devices: as one place, with no cut, and busy only at nine.
abbrev pub Carries : Type 1
Carries =
    (M O R : Type 0) (h : House M O R) (q : ℕ → ℕ → Pure M O R) (p : ℕ → ℕ → Plain O R) → ((all size : ℕ) → 3 ≤ all → all ≤ 49 → 65536 ≤ size → size ≤ 1099511627776 → Simulates h (q all size) all size) →
    (((all size : ℕ) → PureAsOne (p all size) (q all size)) → AsOne p h) × ((b : R) → ((all size : ℕ) → PureBusy b (q all size)) → BusyAtNine b h)

-- such a house asks only for what its device has
pub record Inside {M O R : Type 0} (h : House M O R) (q : Pure M O R) (all size : ℕ) (sim : Simulates h q all size) : Type 0 where
  pub opens : (n i : ℕ) (s : q.D) (d : Device) → i < all → sim.Off n i s d → Fair size (h.opens i all size) d
  pub does : (n i : ℕ) (m : q.Mem) (s : q.D) (k : h.Mem) (d : Device) (x : In M O) → sim.On n i m s k d → Fair size (h.does x k) d

-- It stays within its device, over every trace.
abbrev pub CarriesWithin : Type 1
CarriesWithin =
    (M O R : Type 0) (h : House M O R) (q : ℕ → ℕ → Pure M O R) (sim : (all size : ℕ) → 3 ≤ all → all ≤ 49 → 65536 ≤ size → size ≤ 1099511627776 → Simulates h (q all size) all size) →
    ((all size : ℕ) (a : 3 ≤ all) (b : all ≤ 49) (c : 65536 ≤ size) (d : size ≤ 1099511627776) → Inside h (q all size) all size (sim all size a b c d)) → Within h
