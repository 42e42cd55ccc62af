-- Events leave sessions alone, and what a copy agrees on changes only where its marks do: a command is proposed only under a ballot that wasn't proposed under, and is
-- taken back only where the version rises.
use Rattle.std.proofs.Common.{◌≡◌, ℕ, suc, Bool, true, false, cond, not, ◌&&◌, ◌||◌, ◌==◌, ◌%◌, refl, sym, subst, ◌∷◌, Some, ap, ◌∙◌, max, nat_lt, nat_le, arith}
use Rattle.std.proofs.lemmas.Bool.Decides.{nat_tests}
use Rattle.agreement.specs.Copies.{Proposal, nothing, voted, rank, higher}
use Rattle.copies.specs.Messages.{Command, Recovery, level, recovers, is_level, Agreeing, Status, Session, Bundle, Want, Part, Tail, more, ends}
use Rattle.copies.specs.Copy.{Turn, saying_to, wanting, passing, agreed, Way, free, under, is_free, is_nil, undone, is_copy, noted, raised, raising, recovering, applying, ahead, takes_over, may_lead, even, telling, hears, asks_on, status_of, on_status, settle, freed, settle_here, packed, pack, is_open, proposing, forward, goes_on, on_bundle, on_tick, stirs, elect, elects, resend, saying, next_ballot, patience, remembered, with_memory, queued, is_new, on_want, on_part, is_asked, takes, Span, unseen, from_to, passed, tail_taken, taken, widened, ended, adopted, replaces, ranging, new_pass, rests}
use Rattle.copies.specs.Steps.{Marks, marks, is_replaced}

agreeing_by : {O : Type 0} (a b : Agreeing O) → marks a ≡ marks b → a.proposal ≡ b.proposal → a ≡ b
agreeing_by a b e p = λ i. record { promised = (e i).promised; version = (e i).version; last = (e i).last; proposal = p i; recovery = (e i).recovery }

by_test : {T : Type 0} (P : T → Type 0) (c : Bool) (x y : T) → (c ≡ true → P x) → (c ≡ false → P y) → P (cond c x y)
by_test P true x y f g = f refl
by_test P false x y f g = g refl

not_suc : (n : ℕ) → suc n ≡ n → ⊥
not_suc n e = omega arith

module _ {X B O A : Type 0} where
  -- from t to u
  abbrev pub Told : Turn X B O A → Turn X B O A → Type 0
  Told t u = (u.sessions ≡ t.sessions) × (marks u.agreeing ≡ marks t.agreeing → u.agreeing ≡ t.agreeing)

  told_same : (t u : Turn X B O A) → u.sessions ≡ t.sessions → u.agreeing.proposal ≡ t.agreeing.proposal → Told t u
  told_same t u s p = (s, λ e. agreeing_by u.agreeing t.agreeing e p)

  told_applying : (p b : ℕ) (k : Command O) (t u : Turn X B O A) → u.sessions ≡ t.sessions → u.agreeing ≡ t.agreeing → Told t (applying p b k u)
  told_applying p b k t u d s = (d, λ e. absurd (not_suc t.agreeing.version (ap (λ (a : Agreeing O). suc a.version) (sym s) ∙ ap (λ (m : Marks). m.version) e)))

  told_ahead : (r p : ℕ) (x : Status O) (v : Proposal (Command O)) (t : Turn X B O A) → Told t (ahead r p x v t)
  unfolding ahead
  told_ahead r p x nothing t = told_same t (recovering r p t) refl refl
  told_ahead r p x (voted b k) t = by_test (Told t) (x.version == suc t.agreeing.version && nat_le x.last b) (applying p x.last k t) (recovering r p t) (λ h. told_applying p x.last k t t refl refl) (λ h. told_same t (recovering r p t) refl refl)

  told_takes_over : (p : ℕ) (v : Proposal (Command O)) (t : Turn X B O A) → (rank t.agreeing.proposal == suc p) ≡ false → Told t (takes_over p v t)
  unfolding takes_over
  told_takes_over p nothing t h = told_same t (takes_over p nothing t) refl refl
  told_takes_over p (voted b k) t h = (refl, λ e. let f : suc p ≡ rank t.agreeing.proposal = ap (λ (m : Marks). m.ballot) e in absurd (grind (arith, nat_tests)))

  raising_sessions : (r p : ℕ) (x : Status O) (t : Turn X B O A) → (raising r p x t).sessions ≡ t.sessions
  raising_sessions r p x t = by_test (λ (u : Turn X B O A). u.sessions ≡ t.sessions) (nat_lt t.agreeing.promised p || nat_lt x.promised p) (saying_to r t) t (λ h. refl) (λ h. refl)

  told_may_lead : (r p : ℕ) (x : Status O) (t : Turn X B O A) → Told t (may_lead r p x t)
  unfolding may_lead
  told_may_lead r p x t =
      by_test (Told t) (p % 3 == t.memory.me && (x.promised == p && not (rank t.agreeing.proposal == suc p))) (takes_over p (higher t.agreeing.proposal x.proposal) t) (raising r p x t)
      (λ h. told_takes_over p (higher t.agreeing.proposal x.proposal) t (grind arith)) (λ h. told_same t (raising r p x t) (raising_sessions r p x t) refl)

  told_even : (r p : ℕ) (x : Status O) (v : Proposal (Command O)) (t : Turn X B O A) → Told t (even r p x v t)
  unfolding even
  told_even r p x nothing t = told_may_lead r p x t
  told_even r p x (voted b k) t = by_test (Told t) (p % 3 == r && (x.promised == p && b == p)) (applying p p k (saying_to r t)) (may_lead r p x t) (λ h. told_applying p p k t (saying_to r t) refl refl) (λ h. told_may_lead r p x t)

  told_hears : (r p : ℕ) (x : Status O) (t : Turn X B O A) → Told t (hears r p x t)
  unfolding hears
  told_hears r p x t =
      by_test (Told t) (nat_lt t.agreeing.version x.version) (ahead r p x t.agreeing.proposal t) (cond (nat_lt x.version t.agreeing.version) (telling r p t) (even r p x x.proposal t))
      (λ h. told_ahead r p x t.agreeing.proposal t)
      (λ h. by_test (Told t) (nat_lt x.version t.agreeing.version) (telling r p t) (even r p x x.proposal t) (λ k. told_same t (telling r p t) refl refl) (λ k. told_even r p x x.proposal t))

  asks_same : (r p : ℕ) (x : Status O) (t : Turn X B O A) → (asks_on r p x t).agreeing.proposal ≡ t.agreeing.proposal
  unfolding asks_on
  asks_same r p x t = by_test (λ (u : Turn X B O A). u.agreeing.proposal ≡ t.agreeing.proposal) (not x.recovering && (nat_le t.agreeing.version x.version && not t.memory.pass.asked)) (wanting r (passing (record t.memory.pass { asked = true }) (agreed (raised p t.agreeing) t))) (agreed (raised p t.agreeing) t) (λ h. refl) (λ h. refl)

  asks_sessions : (r p : ℕ) (x : Status O) (t : Turn X B O A) → (asks_on r p x t).sessions ≡ t.sessions
  unfolding asks_on
  asks_sessions r p x t = by_test (λ (u : Turn X B O A). u.sessions ≡ t.sessions) (not x.recovering && (nat_le t.agreeing.version x.version && not t.memory.pass.asked)) (wanting r (passing (record t.memory.pass { asked = true }) (agreed (raised p t.agreeing) t))) (agreed (raised p t.agreeing) t) (λ h. refl) (λ h. refl)

  told_status_of : (r p : ℕ) (x : Status O) (v : Recovery) (t : Turn X B O A) → Told t (status_of r p x v t)
  unfolding status_of
  told_status_of r p x (recovers a b) t = told_same t (asks_on r p x t) (asks_sessions r p x t) (asks_same r p x t)
  told_status_of r p x level t = by_test (Told t) x.recovering (telling r p t) (hears r p x t) (λ h. told_same t (telling r p t) refl refl) (λ h. told_hears r p x t)

  pub told_status : (r : ℕ) (x : Status O) (t : Turn X B O A) → Told t (on_status r x t)
  unfolding on_status
  told_status r x t = by_test (Told t) (is_copy t.memory.me && (is_copy r && not (r == t.memory.me))) (status_of r (max t.agreeing.promised x.promised) x t.agreeing.recovery (noted r x t)) t (λ h. told_status_of r (max t.agreeing.promised x.promised) x t.agreeing.recovery (noted r x t)) (λ h. told_same t t refl refl)

  told_forward : (t u : Turn X B O A) → u.sessions ≡ t.sessions → u.agreeing ≡ t.agreeing → Told t (forward u)
  unfolding forward
  told_forward t u d s =
      by_test (Told t) (is_open u) (proposing (undone u.memory.heard u.sessions) u) u
      (λ h. (
        d,
        λ e. let f : suc u.agreeing.promised ≡ rank u.agreeing.proposal = ap (λ (m : Marks). m.ballot) e ∙ ap (λ (a : Agreeing O). rank a.proposal) (sym s) in
            let z : (rank u.agreeing.proposal == 0) ≡ true = grind arith in absurd (grind (arith, nat_tests)),
      ))
      (λ h. (d, λ e. s))

  abbrev Same : Turn X B O A → Turn X B O A → Type 0
  Same t u = (u.sessions ≡ t.sessions) × (u.agreeing ≡ t.agreeing)

  pack_same : (t : Turn X B O A) → Same t (pack t)
  unfolding pack
  pack_same t = by_test (Same t) (is_free t.memory.way && not (is_nil t.memory.waiting)) (packed t) t (λ h. (refl, refl)) (λ h. (refl, refl))

  settle_same : (s : Session A) (w : Way O) (t : Turn X B O A) → Same t (settle s w t)
  unfolding settle
  settle_same s free t = (refl, refl)
  settle_same s (under b) t = by_test (Same t) (b.incarnation == s.incarnation && b.counter == s.counter) (freed s t) t (λ h. (refl, refl)) (λ h. (refl, refl))

  here_same : (t : Turn X B O A) → Same t (settle_here t)
  unfolding settle_here
  here_same t = by_test (Same t) (is_copy t.memory.me) (settle (t.sessions t.memory.me) t.memory.way t) t (λ h. settle_same (t.sessions t.memory.me) t.memory.way t) (λ h. (refl, refl))

  bundle_same : (b : Bundle O) (t : Turn X B O A) → Same t (on_bundle b t)
  unfolding on_bundle
  bundle_same b t =
      by_test (Same t) (is_copy t.memory.me) (cond (is_new b t.sessions) (with_memory (remembered b t.memory) t) (record t { sends = record t.sends { replies = b.house ∷ t.sends.replies } })) t
      (λ h. by_test (Same t) (is_new b t.sessions) (with_memory (remembered b t.memory) t) (record t { sends = record t.sends { replies = b.house ∷ t.sends.replies } }) (λ k. (refl, refl)) (λ k. (refl, refl)))
      (λ h. (refl, refl))

  pub told_goes_on : (t : Turn X B O A) → Told t (goes_on t)
  told_goes_on t = told_forward t (pack (settle_here t)) ((pack_same (settle_here t)).0 ∙ (here_same t).0) ((pack_same (settle_here t)).1 ∙ (here_same t).1)

  pub told_bundle : (b : Bundle O) (t : Turn X B O A) → Told t (forward (on_bundle b t))
  told_bundle b t = told_forward t (on_bundle b t) (bundle_same b t).0 (bundle_same b t).1

  pub told_replies : (s : Session A) (t : Turn X B O A) → Told t (forward (pack (settle s t.memory.way t)))
  told_replies s t = told_forward t (pack (settle s t.memory.way t)) ((pack_same (settle s t.memory.way t)).0 ∙ (settle_same s t.memory.way t).0) ((pack_same (settle s t.memory.way t)).1 ∙ (settle_same s t.memory.way t).1)

  pub told_call : (k : ℕ) (o : O) (t : Turn X B O A) → Told t (forward (pack (queued k o t)))
  told_call k o t = told_forward t (pack (queued k o t)) (pack_same (queued k o t)).0 (pack_same (queued k o t)).1

  -- a tick leaves the proposal
  abbrev Proposes : Turn X B O A → Turn X B O A → Type 0
  Proposes t u = (u.sessions ≡ t.sessions) × (u.agreeing.proposal ≡ t.agreeing.proposal)

  elect_same : (t : Turn X B O A) → Proposes t (elect t)
  unfolding elect
  elect_same t = by_test (Proposes t) (nat_lt (suc t.memory.quiet) (patience t.memory.me)) (record t { memory = record t.memory { quiet = suc t.memory.quiet } }) (elects (next_ballot t.memory.me t.agreeing.promised) t) (λ h. (refl, refl)) (λ h. (refl, refl))

  stirs_same : (v : Recovery) (t : Turn X B O A) → Proposes t (stirs v t)
  unfolding stirs
  stirs_same level t = by_test (Proposes t) (t.memory.lead == suc t.agreeing.promised) (saying t) (elect t) (λ h. (refl, refl)) (λ h. elect_same t)
  stirs_same (recovers a b) t = (refl, refl)

  tick_same : (t : Turn X B O A) → Proposes t (on_tick t)
  unfolding on_tick
  tick_same t = by_test (Proposes t) (is_copy t.memory.me) (stirs t.agreeing.recovery (resend t)) (resend t) (λ h. stirs_same t.agreeing.recovery (resend t)) (λ h. (refl, refl))

  pub told_tick : (t : Turn X B O A) → Told t (on_tick t)
  told_tick t = told_same t (on_tick t) (tick_same t).0 (tick_same t).1

  pub told_want : (r : ℕ) (w : Want) (t : Turn X B O A) → Told t (on_want r w t)
  unfolding on_want
  told_want r w t = by_test (Told t) (is_copy t.memory.me && is_level t.agreeing.recovery) (record t { sends = record t.sends { serves = Some (record { to = r; want = w }) } }) t (λ h. (refl, λ e. refl)) (λ h. (refl, λ e. refl))

  pub told_part : (r : ℕ) (x : Part X B A) (t : Turn X B O A) → Told t (on_part r x t)
  unfolding on_part
  told_part r x t = by_test (Told t) (is_copy t.memory.me && (is_asked x.asked t.memory.pass t.agreeing.recovery && nat_le t.agreeing.version x.version)) (record t { work = takes r x }) t (λ h. (refl, λ e. refl)) (λ h. (refl, λ e. refl))

  -- a part brings sessions only with the state's rest
  abbrev Brings : Turn X B O A → Turn X B O A → Type 0
  Brings t u = is_replaced u.work ≡ false → u.sessions ≡ t.sessions

  passed_brings : (r p : ℕ) (x : Part X B A) (rest : X) (done : ℕ → Session A) (s : Span) (t : Turn X B O A) → Brings t (passed r p x rest done s t)
  unfolding passed
  passed_brings r p x rest done unseen t = λ e. refl
  passed_brings r p x rest done (from_to l h) t =
      by_test (Brings t) (l == h)
      (record (saying_to r t) { agreeing = cond (x.version == t.agreeing.version) (ended p t.agreeing) (adopted p x.version x.last t.agreeing); sessions = done; work = replaces rest })
      (wanting r (passing new_pass (agreed (ranging p l h t.agreeing) t)))
      (λ k e. cc) (λ k e. refl)

  tail_brings : (r p : ℕ) (x : Part X B A) (y : Tail X A) (v : Recovery) (t : Turn X B O A) → Brings t (tail_taken r p x y v t)
  unfolding tail_taken
  tail_brings r p x y level t = λ e. refl
  tail_brings r p x (more k) (recovers a b) t = λ e. refl
  tail_brings r p x (ends rest done) (recovers a b) t = passed_brings r p x rest done (widened x.version t.memory.pass.span) t

  taken_brings : (r : ℕ) (x : Part X B A) (t : Turn X B O A) → Brings t (taken r x t)
  taken_brings r x t = tail_brings r (max t.agreeing.promised x.promised) x x.tail t.agreeing.recovery (record t { work = rests })

  pub brought : (r : ℕ) (x : Part X B A) (t u : Turn X B O A) → u ≡ taken r x t → is_replaced u.work ≡ false → u.sessions ≡ t.sessions
  brought r x t u e = subst (λ (v : Turn X B O A). Brings t v) (sym e) (taken_brings r x t)

  pub kept_of : (t u v : Turn X B O A) → Told t v → u ≡ v → Told t u
  kept_of t u v k e = subst (λ (w : Turn X B O A). Told t w) (sym e) k
