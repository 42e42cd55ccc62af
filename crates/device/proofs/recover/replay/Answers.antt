use native.Mathlib.Nat.{sub-zero}
use Rattle.device.proofs.recover.replay.Goals as goal

pub loop-i-init : goal.loop-i-init
loop-i-init g c = λ r t h. rw sub-zero at h
