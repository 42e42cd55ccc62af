-- What a house knows of its numbers where it admits an event.
use Rattle.std.proofs.Common.{◌≡◌, ℕ, suc, ◌<◌, ◌^◌, Bool, true, false, cond, nat_lt, ◌==◌, refl, arith}
use Rattle.std.proofs.lemmas.Bool.Decides.{nat_tests}
use Rattle.copies.specs.Messages.{Agreeing, Recovery, level, recovers}
use Rattle.copies.specs.Copy.{Memory, Turn, is_copy, on_tick, stirs, elect, elects, resend, patience, next_ballot, saying}
use Rattle.copies.specs.Admits.{is_ready}

module _ {O : Type 0} where
  pub ready_promised : (a : Agreeing O) (m : Memory O) → is_ready a m ≡ true → a.promised < 2 ^ 62
  ready_promised a m e = grind (arith, nat_tests)

  pub ready_version : (a : Agreeing O) (m : Memory O) → is_ready a m ≡ true → a.version < 2 ^ 62
  ready_version a m e = grind (arith, nat_tests)

  pub ready_counter : (a : Agreeing O) (m : Memory O) → is_ready a m ≡ true → m.counter < 2 ^ 62
  ready_counter a m e = grind (arith, nat_tests)

  pub ready_quiet : (a : Agreeing O) (m : Memory O) → is_ready a m ≡ true → m.quiet < 2 ^ 62
  ready_quiet a m e = grind (arith, nat_tests)

module _ {X B O A : Type 0} where
  either_counter : (b : Bool) (n : ℕ) (t u : Turn X B O A) → t.memory.counter ≡ n → u.memory.counter ≡ n → (cond b t u).memory.counter ≡ n
  either_counter true n t u e f = e
  either_counter false n t u e f = f

  elect_counter : (t : Turn X B O A) → (elect t).memory.counter ≡ t.memory.counter
  unfolding elect
  elect_counter t = either_counter (nat_lt (suc t.memory.quiet) (patience t.memory.me)) t.memory.counter (record t { memory = record t.memory { quiet = suc t.memory.quiet } }) (elects (next_ballot t.memory.me t.agreeing.promised) t) refl refl

  stirs_counter : (r : Recovery) (t : Turn X B O A) → (stirs r t).memory.counter ≡ t.memory.counter
  unfolding stirs
  stirs_counter level t = either_counter (t.memory.lead == suc t.agreeing.promised) t.memory.counter (saying t) (elect t) refl (elect_counter t)
  stirs_counter (recovers a b) t = refl

  -- a tick makes no bundle
  pub tick_counter : (t : Turn X B O A) → (on_tick t).memory.counter ≡ t.memory.counter
  unfolding on_tick
  tick_counter t = either_counter (is_copy t.memory.me) t.memory.counter (stirs t.agreeing.recovery (resend t)) (resend t) (stirs_counter t.agreeing.recovery (resend t)) refl
