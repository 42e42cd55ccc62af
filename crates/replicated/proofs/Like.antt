-- What leaves the calls that wait, the bundle under way, and what is to be told, as they are.
use Rattle.std.specs.Prelude.{◌≡◌, ℕ, suc, ◌%◌, max, ◌&&◌, ◌||◌, not, List, Option, Some, None, nat_lt, nat_le, ◌==◌}
use Rattle.std.proofs.Common.{refl, ◌∙◌}
use Rattle.agreement.specs.Copies.{Proposal, nothing, voted, rank, higher}
use Rattle.agreement.proofs.Base.{by_test}
use Rattle.copies.specs.Service.{Service, Keeper}
use Rattle.copies.specs.Messages.{Item, Bundle, Command, Reply, Session, Recovery, level, recovers, is_level, Status, Want, Part, Tail, more, ends, next_key}
use Rattle.copies.specs.Copy.{Way, Span, unseen, from_to, Work, rests, applies, takes, replaces, Turn, is_copy, is_new, is_asked, widened, patience, on_bundle, is_open, forward, raising, ahead, takes_over, may_lead, even, hears, asks_on, status_of, noted, on_status, on_part, passed, tail_taken, taken, on_want, elect, stirs, resend, on_tick}
use Rattle.copies.specs.House.{Wholes, put_rest, stowed, does_work, works}

-- of what waits, the bundle under way, and what is to be told
pub record Alike {O A : Type 0} (w w' : List (Item O)) (y y' : Way O) (ts ts' : List (Reply A)) : Type 0 where
  pub wait_is : w' ≡ w
  pub way_is : y' ≡ y
  pub told_is : ts' ≡ ts

module _ {O A : Type 0} where
  pub alike : {w : List (Item O)} {y : Way O} {ts : List (Reply A)} → Alike w w y y ts ts
  alike = record { wait_is = refl; way_is = refl; told_is = refl }

  pub like_trans : {w w' w'' : List (Item O)} {y y' y'' : Way O} {ts ts' ts'' : List (Reply A)} → Alike w w' y y' ts ts' → Alike w' w'' y' y'' ts' ts'' → Alike w w'' y y'' ts ts''
  like_trans f g = record { wait_is = g.wait_is ∙ f.wait_is; way_is = g.way_is ∙ f.way_is; told_is = g.told_is ∙ f.told_is }

module _ {X B O A : Type 0} where
  abbrev pub Like : Turn X B O A → Turn X B O A → Type 0
  Like t u = Alike t.memory.waiting u.memory.waiting t.memory.way u.memory.way t.told u.told

  pub like_forward : (t : Turn X B O A) → Like t (forward t)
  unfolding forward
  like_forward t = by_test (Like t) (is_open t) (λ _. alike) (λ _. alike)

  pub like_bundle : (b : Bundle O) (t : Turn X B O A) → Like t (on_bundle b t)
  unfolding on_bundle
  like_bundle b t = by_test (Like t) (is_copy t.memory.me) (λ _. by_test (Like t) (is_new b t.sessions) (λ _. alike) (λ _. alike)) (λ _. alike)

  like_raising : (r p : ℕ) (x : Status O) (t : Turn X B O A) → Like t (raising r p x t)
  like_raising r p x t = by_test (Like t) (nat_lt t.agreeing.promised p || nat_lt x.promised p) (λ _. alike) (λ _. alike)

  like_ahead : (r p : ℕ) (x : Status O) (u : Proposal (Command O)) (t : Turn X B O A) → Like t (ahead r p x u t)
  unfolding ahead
  like_ahead r p x nothing t = alike
  like_ahead r p x (voted vb vk) t = by_test (Like t) (x.version == suc t.agreeing.version && nat_le x.last vb) (λ _. alike) (λ _. alike)

  like_takes : (p : ℕ) (u : Proposal (Command O)) (t : Turn X B O A) → Like t (takes_over p u t)
  unfolding takes_over
  like_takes p nothing t = alike
  like_takes p (voted b k) t = alike

  like_lead : (r p : ℕ) (x : Status O) (t : Turn X B O A) → Like t (may_lead r p x t)
  unfolding may_lead
  like_lead r p x t =
      by_test (Like t) (p % 3 == t.memory.me && (x.promised == p && not (rank t.agreeing.proposal == suc p))) (λ _. like_takes p (higher t.agreeing.proposal x.proposal) t) (λ _. like_raising r p x t)

  like_even : (r p : ℕ) (x : Status O) (u : Proposal (Command O)) (t : Turn X B O A) → Like t (even r p x u t)
  unfolding even
  like_even r p x nothing t = like_lead r p x t
  like_even r p x (voted b k) t = by_test (Like t) (p % 3 == r && (x.promised == p && b == p)) (λ _. alike) (λ _. like_lead r p x t)

  like_hears : (r p : ℕ) (x : Status O) (t : Turn X B O A) → Like t (hears r p x t)
  unfolding hears
  like_hears r p x t =
      by_test (Like t) (nat_lt t.agreeing.version x.version) (λ _. like_ahead r p x t.agreeing.proposal t)
      (λ _. by_test (Like t) (nat_lt x.version t.agreeing.version) (λ _. alike) (λ _. like_even r p x x.proposal t))

  like_status_of : (r p : ℕ) (x : Status O) (u : Recovery) (t : Turn X B O A) → Like t (status_of r p x u t)
  unfolding status_of asks_on
  like_status_of r p x (recovers a b) t = by_test (Like t) (not x.recovering && (nat_le t.agreeing.version x.version && not t.memory.pass.asked)) (λ _. alike) (λ _. alike)
  like_status_of r p x level t = by_test (Like t) x.recovering (λ _. alike) (λ _. like_hears r p x t)

  pub like_status : (r : ℕ) (x : Status O) (t : Turn X B O A) → Like t (on_status r x t)
  unfolding on_status
  like_status r x t = by_test (Like t) (is_copy t.memory.me && (is_copy r && not (r == t.memory.me))) (λ _. like_status_of r (max t.agreeing.promised x.promised) x t.agreeing.recovery (noted r x t)) (λ _. alike)

  pub like_part : (r : ℕ) (x : Part X B A) (t : Turn X B O A) → Like t (on_part r x t)
  unfolding on_part
  like_part r x t = by_test (Like t) (is_copy t.memory.me && (is_asked x.asked t.memory.pass t.agreeing.recovery && nat_le t.agreeing.version x.version)) (λ _. alike) (λ _. alike)

  like_passed : (r p : ℕ) (x : Part X B A) (rest : X) (done : ℕ → Session A) (s : Span) (t : Turn X B O A) → Like t (passed r p x rest done s t)
  unfolding passed
  like_passed r p x rest done unseen t = alike
  like_passed r p x rest done (from_to l h) t = by_test (Like t) (l == h) (λ _. alike) (λ _. alike)

  pub like_taken : (r : ℕ) (x : Part X B A) (t : Turn X B O A) → Like t (taken r x t)
  unfolding tail_taken
  like_taken r x t = go x.tail t.agreeing.recovery
    where
      go : (z : Tail X A) (u : Recovery) → Like t (tail_taken r (max t.agreeing.promised x.promised) x z u (record t { work = rests }))
      go z level = alike
      go (more k) (recovers a b) = alike
      go (ends rest done) (recovers a b) = like_passed r (max t.agreeing.promised x.promised) x rest done (widened x.version t.memory.pass.span) (record t { work = rests })

  pub like_want : (r : ℕ) (q : Want) (t : Turn X B O A) → Like t (on_want r q t)
  unfolding on_want
  like_want r q t = by_test (Like t) (is_copy t.memory.me && is_level t.agreeing.recovery) (λ _. alike) (λ _. alike)

  pub like_elect : (t : Turn X B O A) → Like t (elect t)
  unfolding elect
  like_elect t = by_test (Like t) (nat_lt (suc t.memory.quiet) (patience t.memory.me)) (λ _. alike) (λ _. alike)

  pub like_tick : (t : Turn X B O A) → Like t (on_tick t)
  unfolding on_tick stirs
  like_tick t = by_test (Like t) (is_copy t.memory.me) (λ _. go t.agreeing.recovery) (λ _. alike)
    where
      go : (u : Recovery) → Like t (stirs u (resend t))
      go (recovers a b) = alike
      go level = by_test (Like t) (t.memory.lead == suc t.agreeing.promised) (λ _. alike) (λ _. like_elect (resend t))

module _ {O R : Type 0} (sv : Service O R) (kp : Keeper sv) where
  pub like_works : (w : Wholes sv kp) → Like w.turn (works sv kp w).turn
  unfolding does_work stowed put_rest
  like_works w = go w.turn.work
    where
      rest : (u : Work sv.Rest sv.Block O sv.A) (z : Wholes sv kp) → Like w.turn z.turn → Like w.turn (put_rest sv kp u z).turn
      rest rests z f = f
      rest (applies k) z f = f
      rest (takes r x) z f = f
      rest (replaces x) z f = f

      stow : (r : ℕ) (x : Part sv.Rest sv.Block sv.A) (s : Option kp.Kept) → Like w.turn (stowed sv kp r x s w).turn
      stow r x None = alike
      stow r x (Some s) = rest (taken r x w.turn).work (record w { turn = taken r x w.turn; kept = s }) (like_taken r x w.turn)

      go : (u : Work sv.Rest sv.Block O sv.A) → Like w.turn (does_work sv kp u w).turn
      go rests = alike
      go (applies k) = alike
      go (takes r x) = stow r x (kp.take w.rest x.whole x.asked.key (next_key x.tail) x.floor x.blocks w.kept)
      go (replaces x) = alike
