use Rattle.std.proofs.Common.{◌≡◌, ℕ, vec_len}
use Rattle.copies.specs.Messages.{unused}
use Rattle.copies.specs.Views.{session_of}
use Rattle.copies.proofs.sessions.Sessions.new.Given as goal

abbrev pub invariant-loop-house : goal.invariant-loop-house
invariant-loop-house g l = (vec_len l.each ≡ l._house) × ((h : ℕ) → session_of l.each.items h ≡ unused)
