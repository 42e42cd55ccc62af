-- Subtraction by recursion is subtraction.
use Rattle.std.proofs.Common.{◌≡◌, ℕ, zero, suc, ◌-◌, ◌/◌, ap, arith}
use Rattle.disks.specs.Promise.{less}
use Rattle.volumes.specs.Simulation.{RoomIsCore}

less_is : (k m : ℕ) → less k m ≡ m - k
unfolding less
less_is zero m = omega arith
less_is (suc k) zero = omega arith
less_is (suc k) (suc m) = omega (arith, less_is k m)

pub room_is_core : RoomIsCore
room_is_core all size = ap (λ (n : ℕ). n / 4) (less_is 2048 size)
