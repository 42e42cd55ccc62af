-- A status or a part, and the work that it brings, leave the counter of bundles.
use Rattle.std.proofs.Common.{◌≡◌, ℕ, suc, Bool, true, false, cond, not, ◌&&◌, ◌||◌, eqb, max, Option, Some, None, List, refl, ◌∙◌}
use Rattle.std.specs.Prelude.{nat_lt, nat_le, ◌==◌}
use Rattle.agreement.specs.Copies.{Proposal, nothing, voted, rank}
use Rattle.copies.specs.Service.{Service, Keeper}
use Rattle.copies.specs.Messages.{Command, Status, Part, Tail, more, ends, Recovery, level, recovers, Session, next_key}
use Rattle.copies.specs.Copy.{Turn, Work, rests, applies, takes, replaces, Span, unseen, from_to, ahead, takes_over, may_lead, even, hears, asks_on, status_of, on_status, on_part, passed, tail_taken, noted}
use Rattle.copies.specs.House.{Wholes, Parts, on, works, does_work, stowed, put_rest}
use Rattle.replicated.specs.Ties.{CounterStays}

module _ {X B O A : Type 0} where
  by_cond : (n : ℕ) (z : Bool) (s t : Turn X B O A) → s.memory.counter ≡ n → t.memory.counter ≡ n → (cond z s t).memory.counter ≡ n
  by_cond n true s t e f = e
  by_cond n false s t e f = f

  of_ahead : (r p : ℕ) (x : Status O) (y : Proposal (Command O)) (t : Turn X B O A) → (ahead r p x y t).memory.counter ≡ t.memory.counter
  unfolding ahead
  of_ahead r p x nothing t = refl
  of_ahead r p x (voted vb vk) t = search by_cond

  of_takes_over : (p : ℕ) (y : Proposal (Command O)) (t : Turn X B O A) → (takes_over p y t).memory.counter ≡ t.memory.counter
  unfolding takes_over
  of_takes_over p nothing t = refl
  of_takes_over p (voted b k) t = refl

  of_may_lead : (r p : ℕ) (x : Status O) (t : Turn X B O A) → (may_lead r p x t).memory.counter ≡ t.memory.counter
  unfolding may_lead
  of_may_lead r p x t = search (by_cond, of_takes_over)

  of_even : (r p : ℕ) (x : Status O) (y : Proposal (Command O)) (t : Turn X B O A) → (even r p x y t).memory.counter ≡ t.memory.counter
  unfolding even
  of_even r p x nothing t = of_may_lead r p x t
  of_even r p x (voted b k) t = search (by_cond, of_may_lead)

  of_hears : (r p : ℕ) (x : Status O) (t : Turn X B O A) → (hears r p x t).memory.counter ≡ t.memory.counter
  unfolding hears
  of_hears r p x t = search (by_cond, of_ahead, of_even)

  of_asks_on : (r p : ℕ) (x : Status O) (t : Turn X B O A) → (asks_on r p x t).memory.counter ≡ t.memory.counter
  unfolding asks_on
  of_asks_on r p x t = search by_cond

  of_status_of : (r p : ℕ) (x : Status O) (z : Recovery) (t : Turn X B O A) → (status_of r p x z t).memory.counter ≡ t.memory.counter
  unfolding status_of
  of_status_of r p x (recovers a b) t = of_asks_on r p x t
  of_status_of r p x level t = search (by_cond, of_hears)

  of_on_status : (r : ℕ) (x : Status O) (t : Turn X B O A) → (on_status r x t).memory.counter ≡ t.memory.counter
  unfolding on_status
  of_on_status r x t = search (by_cond, of_status_of)

  of_on_part : (r : ℕ) (x : Part X B A) (t : Turn X B O A) → (on_part r x t).memory.counter ≡ t.memory.counter
  unfolding on_part
  of_on_part r x t = search by_cond

  of_passed : (r p : ℕ) (x : Part X B A) (rest : X) (done : ℕ → Session A) (z : Span) (t : Turn X B O A) → (passed r p x rest done z t).memory.counter ≡ t.memory.counter
  unfolding passed
  of_passed r p x rest done unseen t = refl
  of_passed r p x rest done (from_to l h) t = search by_cond

  of_tail : (r p : ℕ) (x : Part X B A) (y : Tail X A) (z : Recovery) (t : Turn X B O A) → (tail_taken r p x y z t).memory.counter ≡ t.memory.counter
  unfolding tail_taken
  of_tail r p x y level t = refl
  of_tail r p x (more k) (recovers a b) t = refl
  of_tail r p x (ends rest done) (recovers a b) t = of_passed r p x rest done _ t

module _ {O R : Type 0} (sv : Service O R) (kp : Keeper sv) where
  of_put_rest : (y : Work sv.Rest sv.Block O sv.A) (w : Wholes sv kp) → (put_rest sv kp y w).turn.memory.counter ≡ w.turn.memory.counter
  unfolding put_rest
  of_put_rest rests w = refl
  of_put_rest (applies k) w = refl
  of_put_rest (takes r x) w = refl
  of_put_rest (replaces x) w = refl

  of_stowed : (r : ℕ) (x : Parts sv kp) (y : Option kp.Kept) (w : Wholes sv kp) → (stowed sv kp r x y w).turn.memory.counter ≡ w.turn.memory.counter
  unfolding stowed
  of_stowed r x None w = refl
  of_stowed r x (Some s) w = of_put_rest _ _ ∙ of_tail r _ x x.tail _ _

  of_does_work : (y : Work sv.Rest sv.Block O sv.A) (w : Wholes sv kp) → (does_work sv kp y w).turn.memory.counter ≡ w.turn.memory.counter
  unfolding does_work
  of_does_work rests w = refl
  of_does_work (applies k) w = refl
  of_does_work (takes r x) w = of_stowed r x (kp.take w.rest x.whole x.asked.key (next_key x.tail) x.floor x.blocks w.kept) w
  of_does_work (replaces x) w = refl

pub counter_stays : CounterStays
counter_stays O R sv kp r w = ((λ x. of_does_work sv kp _ _ ∙ of_on_status r x w.turn), (λ x. of_does_work sv kp _ _ ∙ of_on_part r x w.turn))
