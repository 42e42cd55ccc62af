use Rattle.std.proofs.Common.{◌≡◌, ℕ, ◌<◌, ◌≤◌, get_or, vec_len}
use Rattle.disks.specs.Device.{zeros}
use Rattle.cut_trial.specs.Models.{placed, after_writes}
use Rattle.cut_trial.proofs.model.Model.put.Given as goal

abbrev pub invariant-loop-i : goal.invariant-loop-i
invariant-loop-i l =
    record {
      count : vec_len l.self.sectors ≡ vec_len l.initial.self.sectors;
      done : (k : ℕ) → k < l.i → get_or l.self.sectors.items k (zeros 512) ≡ after_writes l.writes (placed k) (get_or l.initial.self.sectors.items k (zeros 512));
      rest : (k : ℕ) → l.i ≤ k → get_or l.self.sectors.items k (zeros 512) ≡ get_or l.initial.self.sectors.items k (zeros 512);
    }
