-- What a status leaves of the copy that hears it.
use Rattle.std.specs.Prelude.{◌≡◌, ℕ, suc, ◌%◌, max, true, false, ◌&&◌, ◌||◌, not, Some, nat_lt}
use Rattle.std.proofs.Common.{◌<◌, ◌≤◌, eqb, leb, ◌≢◌, ◌⊎◌, sym, refl, ap, ◌∙◌, subst, inl, inr, arith, ltb-false, eqb-true}
use mathlib.Core.List.{Memᴰ}
use Rattle.std.proofs.lemmas.Bool.Decides.{nat_tests as tests}
use Rattle.agreement.specs.Copies.{Proposal, nothing, voted, rank, higher}
use Rattle.agreement.proofs.Base.{by_test, by_both, by_three}
use Rattle.copies.specs.Messages.{Bundle, Command, Recovery, level, recovers, Status}
use Rattle.copies.specs.Copy.{nobody, Work, rests, applies, takes, replaces, Turn, raised, proposed, raising, telling, applying, recovering, ahead, leading, takes_over, may_lead, even, hears, asks_on, status_of, agreed, noted, on_status, saying, saying_to, passing, wanting, goes_on}
use Rattle.replicated.proofs.Turns.{or_false, max_left, max_right, not_level, Reaches, also_reaches, higher_none, Stands, stands_of, keeps_goes}

module _ {X B O A : Type 0} where
  on_is : (r : ℕ) (x : Status O) (t : Turn X B O A) → t.memory.me < 3 → r < 3 → r ≢ t.memory.me → on_status r x t ≡ status_of r (max t.agreeing.promised x.promised) x t.agreeing.recovery (noted r x t)
  unfolding on_status
  on_is r x t l k n = grind (arith, tests)

  level_is : (r p : ℕ) (x : Status O) (v : Recovery) (t : Turn X B O A) → v ≡ level → x.recovering ≡ false → status_of r p x v t ≡ hears r p x t
  unfolding status_of
  level_is r p x level t e f = rw f refl
  level_is r p x (recovers a b) t e f = absurd (let z : ◌≡◌ {A = ℕ} 0 1 = cc in omega arith)

  tells_is : (r p : ℕ) (x : Status O) (v : Recovery) (t : Turn X B O A) → v ≡ level → x.recovering ≡ true → status_of r p x v t ≡ telling r p t
  unfolding status_of
  tells_is r p x level t e f = rw f refl
  tells_is r p x (recovers a b) t e f = absurd (let z : ◌≡◌ {A = ℕ} 0 1 = cc in omega arith)

  asks_is : (r p : ℕ) (x : Status O) (v : Recovery) (t : Turn X B O A) (a b : ℕ) → v ≡ recovers a b → x.recovering ≡ false → t.agreeing.version ≤ x.version → t.memory.pass.asked ≡ false →
      status_of r p x v t ≡ wanting r (passing (record t.memory.pass { asked = true }) (agreed (raised p t.agreeing) t))
  unfolding status_of asks_on
  asks_is r p x (recovers c d) t a b e f l g = rw f (rw g (grind (arith, tests)))
  asks_is r p x level t a b e f l g = absurd (let z : ◌≡◌ {A = ℕ} 0 1 = cc in omega arith)

  -- a level copy hears of a level one
  pub heard_is : (r : ℕ) (x : Status O) (t : Turn X B O A) → t.memory.me < 3 → r < 3 → r ≢ t.memory.me → t.agreeing.recovery ≡ level → x.recovering ≡ false → on_status r x t ≡ hears r (max t.agreeing.promised x.promised) x (noted r x t)
  heard_is r x t l k n v f = on_is r x t l k n ∙ level_is r _ x t.agreeing.recovery (noted r x t) v f

  -- or of one that recovers: it answers
  pub record Answering (r p : ℕ) (t u : Turn X B O A) : Type 0 where
    pub stands : Stands t u
    pub prom_is : u.agreeing.promised ≡ p
    pub says : Reaches r u.sends.status
    pub work_is : u.work ≡ t.work

  pub tells_left : (r p : ℕ) (t : Turn X B O A) → t.sends.status ≡ nobody → Answering r p t (goes_on (telling r p t))
  tells_left r p t n = let k = keeps_goes (telling r p t) in
      record { stands = stands_of k; prom_is = k.prom_is; says = k.says r (also_reaches r t.sends.status n); work_is = k.work_is }

  pub hears_behind : (r p : ℕ) (x : Status O) (t : Turn X B O A) → x.version < t.agreeing.version → hears r p x t ≡ telling r p t
  unfolding hears
  hears_behind r p x t l = grind (arith, tests)

  hears_ahead : (r p : ℕ) (x : Status O) (t : Turn X B O A) → t.agreeing.version < x.version → hears r p x t ≡ ahead r p x t.agreeing.proposal t
  unfolding hears
  hears_ahead r p x t l = grind (arith, tests)

  hears_even : (r p : ℕ) (x : Status O) (t : Turn X B O A) → t.agreeing.version ≡ x.version → hears r p x t ≡ even r p x x.proposal t
  unfolding hears
  hears_even r p x t e = grind (arith, tests)

  -- what is to be done on blocks leaves the agreement as it is
  abbrev pub Light : Work X B O A → Type 0
  Light rests = Unit {0}
  Light (applies k) = Unit {0}
  Light (takes r x) = ⊥
  Light (replaces x) = ⊥

  light_rests : (k : Work X B O A) → k ≡ rests → Light k
  light_rests rests e = tt
  light_rests (applies k) e = tt
  light_rests (takes r x) e = absurd (let z : ◌≡◌ {A = ℕ} 0 1 = cc in omega arith)
  light_rests (replaces x) e = absurd (let z : ◌≡◌ {A = ℕ} 0 1 = cc in omega arith)

  -- of one that is as far
  pub record Evened (p : ℕ) (t u : Turn X B O A) : Type 0 where
    pub light : Light u.work
    pub prom_is : u.agreeing.promised ≡ p
    pub rec_is : u.agreeing.recovery ≡ t.agreeing.recovery
    pub ver_is : (u.agreeing.version ≡ t.agreeing.version) ⊎ (u.agreeing.version ≡ suc t.agreeing.version)

  abbrev SameVer : Turn X B O A → Turn X B O A → Type 0
  SameVer t u = u.agreeing.version ≡ t.agreeing.version

  takes_evened : (p : ℕ) (v : Proposal (Command O)) (t : Turn X B O A) → t.work ≡ rests → Evened p t (takes_over p v t) × SameVer t (takes_over p v t)
  unfolding takes_over
  takes_evened p nothing t w = (record { light = light_rests t.work w; prom_is = refl; rec_is = refl; ver_is = inl refl }, refl)
  takes_evened p (voted b k) t w = (record { light = light_rests t.work w; prom_is = refl; rec_is = refl; ver_is = inl refl }, refl)

  raising_evened : (r p : ℕ) (x : Status O) (t : Turn X B O A) → t.work ≡ rests → Evened p t (raising r p x t) × SameVer t (raising r p x t)
  raising_evened r p x t w = (record { light = light_rests _ (work_is ∙ w); prom_is = refl; rec_is = refl; ver_is = inl refl }, refl)
    where
      work_is : (raising r p x t).work ≡ t.work
      work_is = by_test (λ (z : Turn X B O A). z.work ≡ t.work) (nat_lt t.agreeing.promised p || nat_lt x.promised p) (λ _. refl) (λ _. refl)

  may_evened : (r p : ℕ) (x : Status O) (t : Turn X B O A) → t.work ≡ rests → Evened p t (may_lead r p x t) × SameVer t (may_lead r p x t)
  unfolding may_lead
  may_evened r p x t w = by_test (λ (z : Turn X B O A). Evened p t z × SameVer t z) (eqb (p % 3) t.memory.me && (eqb x.promised p && not (eqb (rank t.agreeing.proposal) (suc p)))) (λ _. takes_evened p _ t w) (λ _. raising_evened r p x t w)

  even_may : (r p : ℕ) (x : Status O) (v : Proposal (Command O)) (t : Turn X B O A) → (rank v ≢ suc p) ⊎ (p % 3 ≢ r) → even r p x v t ≡ may_lead r p x t
  unfolding even
  even_may r p x nothing t n = refl
  even_may r p x (voted b k) t n =
      by_three (λ (z : Turn X B O A). z ≡ may_lead r p x t) (eqb (p % 3) r) (eqb x.promised p) (eqb b p) (λ e _ f. absurd (elim n [ inl a ↦ a (ap suc (eqb-true _ _ f)) | inr a ↦ a (eqb-true _ _ e) ])) refl

  even_evened : (r p : ℕ) (x : Status O) (v : Proposal (Command O)) (t : Turn X B O A) → t.work ≡ rests → Evened p t (even r p x v t)
  unfolding even
  even_evened r p x nothing t w = (may_evened r p x t w).0
  even_evened r p x (voted b k) t w = by_test (Evened p t) (eqb (p % 3) r && (eqb x.promised p && eqb b p)) (λ _. record { light = tt; prom_is = refl; rec_is = refl; ver_is = inr refl }) (λ _. (may_evened r p x t w).0)

  pub hears_evened : (r p : ℕ) (x : Status O) (t : Turn X B O A) → t.work ≡ rests → t.agreeing.version ≡ x.version → Evened p t (hears r p x t)
  hears_evened r p x t w e = subst (Evened p t) (sym (hears_even r p x t e)) (even_evened r p x x.proposal t w)

  pub hears_same : (r p : ℕ) (x : Status O) (t : Turn X B O A) → t.work ≡ rests → t.agreeing.version ≡ x.version → rank x.proposal ≢ suc p → (hears r p x t).agreeing.version ≡ t.agreeing.version
  hears_same r p x t w e n = subst (SameVer t) (sym (hears_even r p x t e ∙ even_may r p x x.proposal t (inl n))) (may_evened r p x t w).1

  -- of one that is further
  pub record Learned (p : ℕ) (x : Status O) (t u : Turn X B O A) : Type 0 where
    pub light : Light u.work
    pub prom_is : u.agreeing.promised ≡ p
    pub rec_is : u.agreeing.recovery ≡ t.agreeing.recovery
    pub ver_is : u.agreeing.version ≡ x.version

  abbrev pub Nearer : (r p : ℕ) → Status O → Turn X B O A → Turn X B O A → Type 0
  Nearer r p x t u = Learned p x t u ⊎ (u ≡ recovering r p t)

  ahead_nearer : (r p : ℕ) (x : Status O) (v : Proposal (Command O)) (t : Turn X B O A) → Nearer r p x t (ahead r p x v t)
  unfolding ahead
  ahead_nearer r p x nothing t = inr refl
  ahead_nearer r p x (voted b k) t =
      by_both (Nearer r p x t) (eqb x.version (suc t.agreeing.version)) (leb x.last b) (λ e _. inl (record { light = tt; prom_is = refl; rec_is = refl; ver_is = sym (eqb-true _ _ e) })) (inr refl)

  pub hears_nearer : (r p : ℕ) (x : Status O) (t : Turn X B O A) → t.agreeing.version < x.version → Nearer r p x t (hears r p x t)
  hears_nearer r p x t l = subst (Nearer r p x t) (sym (hears_ahead r p x t l)) (ahead_nearer r p x t.agreeing.proposal t)

  -- a copy that recovers asks on
  pub record Asking (r p a b : ℕ) (t u : Turn X B O A) : Type 0 where
    pub agreeing_is : u.agreeing ≡ raised p t.agreeing
    pub wants : u.sends.wants ≡ Some r
    pub work_is : u.work ≡ t.work

  pub asks_left : (r : ℕ) (x : Status O) (t : Turn X B O A) (a b : ℕ) → t.memory.me < 3 → r < 3 → r ≢ t.memory.me → t.agreeing.recovery ≡ recovers a b → x.recovering ≡ false → t.agreeing.version ≤ x.version → t.memory.pass.asked ≡ false →
      Asking r (max t.agreeing.promised x.promised) a b t (goes_on (on_status r x t))
  asks_left r x t a b l k n v f q g =
      subst (λ (z : Turn X B O A). Asking r (max t.agreeing.promised x.promised) a b t (goes_on z)) (sym (on_is r x t l k n ∙ asks_is r _ x t.agreeing.recovery (noted r x t) a b v f q g))
      (let k = keeps_goes (wanting r (passing (record t.memory.pass { asked = true }) (agreed (raised (max t.agreeing.promised x.promised) t.agreeing) (noted r x t)))) in record { agreeing_is = k.unlevel (not_level a b t.agreeing.recovery v); wants = k.wants_is; work_is = k.work_is })

  pub tells_is_left : (r : ℕ) (x : Status O) (t : Turn X B O A) → t.memory.me < 3 → r < 3 → r ≢ t.memory.me → t.agreeing.recovery ≡ level → x.recovering ≡ true → t.sends.status ≡ nobody → Answering r (max t.agreeing.promised x.promised) (noted r x t) (goes_on (on_status r x t))
  tells_is_left r x t l k n v f s =
      subst (λ (z : Turn X B O A). Answering r (max t.agreeing.promised x.promised) (noted r x t) (goes_on z)) (sym (on_is r x t l k n ∙ tells_is r _ x t.agreeing.recovery (noted r x t) v f)) (tells_left r _ (noted r x t) s)

  -- of one that is as far, with a higher ballot and no proposal under it
  pub record Raised (r p : ℕ) (t u : Turn X B O A) : Type 0 where
    pub stands : Stands t u
    pub prom_is : u.agreeing.promised ≡ p
    pub agreeing_is : t.memory.lead ≢ suc p → u.agreeing ≡ raised p t.agreeing
    pub says : t.agreeing.promised < p → Reaches r u.sends.status
    pub work_is : u.work ≡ t.work

  raising_left : (r p : ℕ) (x : Status O) (t : Turn X B O A) → t.sends.status ≡ nobody → Raised r p t (goes_on (raising r p x t))
  raising_left r p x t n =
      by_test (λ (z : Turn X B O A). Raised r p t (goes_on (agreed (raised p t.agreeing) z))) (nat_lt t.agreeing.promised p || nat_lt x.promised p)
      (λ _. let k = keeps_goes (agreed (raised p t.agreeing) (saying_to r t)) in record { stands = stands_of k; prom_is = k.prom_is; agreeing_is = k.still; says = λ l. k.says r (also_reaches r t.sends.status n); work_is = k.work_is })
      (λ f. let k = keeps_goes (agreed (raised p t.agreeing) t) in record { stands = stands_of k; prom_is = k.prom_is; agreeing_is = k.still; says = λ l. absurd (omega (arith, l, ltb-false t.agreeing.promised p (or_false _ _ f))); work_is = k.work_is })

  may_raise : (r p : ℕ) (x : Status O) (t : Turn X B O A) → p % 3 ≢ t.memory.me → may_lead r p x t ≡ raising r p x t
  unfolding may_lead
  may_raise r p x t n = by_both (λ (z : Turn X B O A). z ≡ raising r p x t) (eqb (p % 3) t.memory.me) (eqb x.promised p && not (eqb (rank t.agreeing.proposal) (suc p))) (λ e _. absurd (n (eqb-true _ _ e))) refl

  may_take : (r p : ℕ) (x : Status O) (t : Turn X B O A) → p % 3 ≡ t.memory.me → x.promised ≡ p → rank t.agreeing.proposal ≢ suc p → may_lead r p x t ≡ takes_over p (higher t.agreeing.proposal x.proposal) t
  unfolding may_lead
  may_take r p x t e f n = grind (arith, tests)

  pub got_raise : (r : ℕ) (x : Status O) (t : Turn X B O A) → t.memory.me < 3 → r < 3 → r ≢ t.memory.me → t.agreeing.recovery ≡ level → x.recovering ≡ false → t.sends.status ≡ nobody → t.agreeing.version ≡ x.version → t.agreeing.promised ≤ x.promised → x.promised % 3 ≢ t.memory.me → rank x.proposal ≢ suc x.promised →
      Raised r x.promised (noted r x t) (goes_on (on_status r x t))
  got_raise r x t l k n v f s e b o q =
      subst (λ (z : Turn X B O A). Raised r x.promised (noted r x t) (goes_on z))
      (sym (heard_is r x t l k n v f ∙ ap (λ p. hears r p x (noted r x t)) (max_right _ _ b) ∙ hears_even r x.promised x (noted r x t) e ∙ even_may r x.promised x x.proposal (noted r x t) (inl q) ∙ may_raise r x.promised x (noted r x t) o))
      (raising_left r x.promised x (noted r x t) s)

  -- one's own ballot, promised by one that is as far
  pub record Taken (p : ℕ) (t u : Turn X B O A) : Type 0 where
    pub prom_is : u.agreeing.promised ≡ p
    pub ver_is : u.agreeing.version ≡ t.agreeing.version
    pub rec_is : u.agreeing.recovery ≡ t.agreeing.recovery
    pub sessions_is : u.sessions ≡ t.sessions
    pub lead_is : u.memory.lead ≡ suc p
    pub pend_is : (rank u.agreeing.proposal ≡ 0) ⊎ (rank u.agreeing.proposal ≡ suc u.agreeing.promised)
    pub heard : (b : Bundle O) → b.house ≢ t.memory.me → Memᴰ b t.memory.heard → Memᴰ b u.memory.heard
    pub work_is : u.work ≡ t.work

  takes_left : (p : ℕ) (v : Proposal (Command O)) (t : Turn X B O A) → (v ≡ nothing → t.agreeing.proposal ≡ nothing) → Taken p t (goes_on (takes_over p v t))
  unfolding takes_over
  takes_left p nothing t f = let k = keeps_goes (leading p (agreed (raised p t.agreeing) t)) in record { prom_is = k.prom_is; ver_is = k.ver_is; rec_is = k.rec_is; sessions_is = k.sessions_is; lead_is = k.lead_is; pend_is = k.pend_is (inl (ap rank (f refl))); heard = k.heard; work_is = k.work_is }
  takes_left p (voted b c) t f = let k = keeps_goes (leading p (saying (agreed (proposed p c t.agreeing) t))) in record { prom_is = k.prom_is; ver_is = k.ver_is; rec_is = k.rec_is; sessions_is = k.sessions_is; lead_is = k.lead_is; pend_is = k.pend_is (inr refl); heard = k.heard; work_is = k.work_is }

  pub got_take : (r : ℕ) (x : Status O) (t : Turn X B O A) → t.memory.me < 3 → r < 3 → r ≢ t.memory.me → t.agreeing.recovery ≡ level → x.recovering ≡ false → t.agreeing.version ≡ x.version → t.agreeing.promised ≡ x.promised → x.promised % 3 ≡ t.memory.me → rank t.agreeing.proposal ≢ suc x.promised →
      Taken x.promised (noted r x t) (goes_on (on_status r x t))
  got_take r x t l k n v f e b o q =
      subst (λ (z : Turn X B O A). Taken x.promised (noted r x t) (goes_on z))
      (sym (heard_is r x t l k n v f ∙ ap (λ p. hears r p x (noted r x t)) (max_right _ _ (omega (arith, b))) ∙ hears_even r x.promised x (noted r x t) e ∙ even_may r x.promised x x.proposal (noted r x t) (inr (λ z. n (sym z ∙ o))) ∙ may_take r x.promised x (noted r x t) o refl q))
      (takes_left x.promised (higher t.agreeing.proposal x.proposal) (noted r x t) (higher_none _ _))

  -- a proposal that is followed, and one's own that was
  even_apply : (r p : ℕ) (x : Status O) (t : Turn X B O A) (k : Command O) → p % 3 ≡ r → x.promised ≡ p → even r p x (voted p k) t ≡ applying p p k (saying_to r t)
  unfolding even
  even_apply r p x t k e f = grind (arith, tests)

  ahead_own : (r p : ℕ) (x : Status O) (t : Turn X B O A) (b : ℕ) (k : Command O) → x.version ≡ suc t.agreeing.version → x.last ≤ b → ahead r p x (voted b k) t ≡ applying p x.last k t
  unfolding ahead
  ahead_own r p x t b k e l = grind (arith, tests)

  pub hears_apply : (r : ℕ) (x : Status O) (t : Turn X B O A) (k : Command O) → t.memory.me < 3 → r < 3 → r ≢ t.memory.me → t.agreeing.recovery ≡ level → x.recovering ≡ false → t.agreeing.version ≡ x.version → t.agreeing.promised ≤ x.promised → x.promised % 3 ≡ r → x.proposal ≡ voted x.promised k →
      on_status r x t ≡ applying x.promised x.promised k (saying_to r (noted r x t))
  hears_apply r x t k l lr n v f e b o q =
      heard_is r x t l lr n v f ∙ ap (λ p. hears r p x (noted r x t)) (max_right _ _ b) ∙ hears_even r x.promised x (noted r x t) e ∙ ap (λ u. even r x.promised x u (noted r x t)) q ∙ even_apply r x.promised x (noted r x t) k o refl

  pub hears_gain : (r : ℕ) (x : Status O) (t : Turn X B O A) (b : ℕ) (k : Command O) → t.memory.me < 3 → r < 3 → r ≢ t.memory.me → t.agreeing.recovery ≡ level → x.recovering ≡ false → x.version ≡ suc t.agreeing.version → x.promised ≤ t.agreeing.promised → x.last ≤ b → t.agreeing.proposal ≡ voted b k →
      on_status r x t ≡ applying t.agreeing.promised x.last k (noted r x t)
  hears_gain r x t b k l lr n v f e lp ll q =
      heard_is r x t l lr n v f ∙ ap (λ p. hears r p x (noted r x t)) (max_left _ _ lp) ∙ hears_ahead r _ x (noted r x t) (omega (arith, e)) ∙ ap (λ u. ahead r t.agreeing.promised x u (noted r x t)) q ∙ ahead_own r _ x (noted r x t) b k e ll
