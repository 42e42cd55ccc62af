-- What a turn leaves, as far as help needs it.
use Rattle.std.specs.Prelude.{◌≡◌, ℕ, suc, max, Bool, true, false, cond, ◌&&◌, ◌||◌, not, List, [], ◌∷◌}
use Rattle.std.proofs.Common.{◌<◌, ◌≤◌, eqb, ltb, ◌≢◌, ◌⊎◌, sym, refl, ap, ◌∙◌, inl, inr, arith, ltb-true, eqb-true}
use mathlib.Core.List.Memᴰ
use mathlib.Core.List.{Memᴰ}
use Rattle.std.proofs.lemmas.Bool.Decides.{nat_tests as tests}
use Rattle.agreement.specs.Copies.{Proposal, nothing, voted, rank, higher}
use Rattle.agreement.proofs.Base.{by_test, by_three}
use Rattle.copies.specs.Messages.{Bundle, Command, Session, Recovery, recovers, is_level, Agreeing}
use Rattle.copies.specs.Copy.{Way, free, under, Whom, nobody, one, others, Turn, is_free, is_nil, is_copy, not_of, undone, pack, settle, settle_here, is_open, proposing, forward, goes_on, also}

pub or_false : (a b : Bool) → (a || b) ≡ false → a ≡ false
or_false true b e = e
or_false false b e = refl

pub and_left : (a b : Bool) → (a && b) ≡ true → a ≡ true
and_left true b e = refl
and_left false b e = e

pub and_right : (a b : Bool) → (a && b) ≡ true → b ≡ true
and_right true b e = e
and_right false b e = absurd (let z : ◌≡◌ {A = ℕ} 0 1 = cc in omega arith)

pub max_right : (a b : ℕ) → a ≤ b → max a b ≡ b
max_right a b l = omega arith

pub max_left : (a b : ℕ) → b ≤ a → max a b ≡ a
max_left a b l = omega arith

pub not_level : (a t : ℕ) (r : Recovery) → r ≡ recovers a t → is_level r ≡ false
not_level a t r e = ap is_level e

-- the status goes to house j
abbrev pub Reaches : ℕ → Whom → Type 0
Reaches j nobody = ⊥
Reaches j (one r) = r ≡ j
Reaches j others = Unit {0}

pub also_reaches : (r : ℕ) (w : Whom) → w ≡ nobody → Reaches r (also r w)
also_reaches r nobody e = refl
also_reaches r (one q) e = absurd (let z : ◌≡◌ {A = ℕ} 0 1 = cc in omega arith)
also_reaches r others e = tt

module _ {O : Type 0} where
  pub not_of_in : (h : ℕ) (b : Bundle O) (bs : List (Bundle O)) → b.house ≢ h → Memᴰ b bs → Memᴰ b (not_of h bs)
  unfolding not_of
  not_of_in h b [] n m = m
  not_of_in h b (c ∷ bs) n m = go (not_of_in h b bs n) (Memᴰ.cases_cons m)
    where
      go : (Memᴰ b bs → Memᴰ b (not_of h bs)) → (b ≡ c) ⊎ Memᴰ b bs → Memᴰ b (cond (eqb c.house h) (not_of h bs) (c ∷ not_of h bs))
      go f (inl e) = by_test (λ z. Memᴰ b z) (eqb c.house h) (λ t. absurd (n (ap (λ (z : Bundle O). z.house) e ∙ eqb-true _ _ t))) (λ _. Memᴰ.head e)
      go f (inr k) = by_test (λ z. Memᴰ b z) (eqb c.house h) (λ _. f k) (λ _. Memᴰ.tail (f k))

  pub pend_cases : (u : Proposal (Command O)) (p : ℕ) → (rank u ≡ 0) ⊎ (rank u ≡ suc p) → (u ≡ nothing) ⊎ ((k : Command O) × (u ≡ voted p k))
  pend_cases nothing p e = inl refl
  pend_cases (voted b k) p (inl e) = absurd (omega (arith, e))
  pend_cases (voted b k) p (inr e) = inr (k, ap (λ (z : ℕ). voted z k) (omega (arith, e)))

  pub higher_none : (u v : Proposal (Command O)) → higher u v ≡ nothing → u ≡ nothing
  higher_none nothing v e = refl
  higher_none (voted b k) nothing e = by_test (λ (z : Proposal (Command O)). z ≡ nothing → voted b k ≡ nothing) (ltb (suc b) 0) (λ t _. absurd (omega (arith, ltb-true (suc b) 0 t))) (λ _ f. f) e
  higher_none (voted b k) (voted c l) e = by_test (λ (z : Proposal (Command O)). z ≡ nothing → voted b k ≡ nothing) (ltb (suc b) (suc c)) (λ _ f. absurd (let z : ◌≡◌ {A = ℕ} 0 1 = cc in omega arith)) (λ _ f. f) e

module _ {X B O A : Type 0} where
  -- u comes after t, and the copy has moved by no more than a proposal
  pub record Keeps (t u : Turn X B O A) : Type 0 where
    pub prom_is : u.agreeing.promised ≡ t.agreeing.promised
    pub ver_is : u.agreeing.version ≡ t.agreeing.version
    pub rec_is : u.agreeing.recovery ≡ t.agreeing.recovery
    pub sessions_is : u.sessions ≡ t.sessions
    pub work_is : u.work ≡ t.work
    pub lead_is : u.memory.lead ≡ t.memory.lead
    pub me_is : u.memory.me ≡ t.memory.me
    pub quiet_is : u.memory.quiet ≡ t.memory.quiet
    pub pass_is : u.memory.pass ≡ t.memory.pass
    pub still : t.memory.lead ≢ suc t.agreeing.promised → u.agreeing ≡ t.agreeing
    pub unlevel : is_level t.agreeing.recovery ≡ false → u.agreeing ≡ t.agreeing
    pub held : rank t.agreeing.proposal ≢ 0 → u.agreeing ≡ t.agreeing
    pub pend_is : (rank t.agreeing.proposal ≡ 0) ⊎ (rank t.agreeing.proposal ≡ suc t.agreeing.promised) → (rank u.agreeing.proposal ≡ 0) ⊎ (rank u.agreeing.proposal ≡ suc u.agreeing.promised)
    pub heard : (b : Bundle O) → b.house ≢ t.memory.me → Memᴰ b t.memory.heard → Memᴰ b u.memory.heard
    pub says : (j : ℕ) → Reaches j t.sends.status → Reaches j u.sends.status
    pub bundle : t.sends.bundle ≡ true → u.sends.bundle ≡ true
    pub replies_is : u.sends.replies ≡ t.sends.replies
    pub wants_is : u.sends.wants ≡ t.sends.wants
    pub serves_is : u.sends.serves ≡ t.sends.serves

  pub keeps_same : (t : Turn X B O A) → Keeps t t
  keeps_same t =
      record {
        prom_is = refl;
        ver_is = refl;
        rec_is = refl;
        sessions_is = refl;
        work_is = refl;
        lead_is = refl;
        me_is = refl;
        quiet_is = refl;
        pass_is = refl;
        still = λ _. refl;
        unlevel = λ _. refl;
        held = λ _. refl;
        pend_is = λ z. z;
        heard = λ b n m. m;
        says = λ j r. r;
        bundle = λ e. e;
        replies_is = refl;
        wants_is = refl;
        serves_is = refl;
      }

  pub keeps_then : {t u s : Turn X B O A} → Keeps t u → Keeps u s → Keeps t s
  keeps_then {t} {u} {s} a b =
      record {
        prom_is = b.prom_is ∙ a.prom_is;
        ver_is = b.ver_is ∙ a.ver_is;
        rec_is = b.rec_is ∙ a.rec_is;
        sessions_is = b.sessions_is ∙ a.sessions_is;
        work_is = b.work_is ∙ a.work_is;
        lead_is = b.lead_is ∙ a.lead_is;
        me_is = b.me_is ∙ a.me_is;
        quiet_is = b.quiet_is ∙ a.quiet_is;
        pass_is = b.pass_is ∙ a.pass_is;
        still = λ n. b.still (λ e. n (sym a.lead_is ∙ e ∙ ap suc a.prom_is)) ∙ a.still n;
        unlevel = λ n. b.unlevel (ap is_level a.rec_is ∙ n) ∙ a.unlevel n;
        held = λ n. b.held (λ e. n (sym (ap (λ (z : Agreeing O). rank z.proposal) (a.held n)) ∙ e)) ∙ a.held n;
        pend_is = λ z. b.pend_is (a.pend_is z);
        heard = λ c n m. b.heard c (λ e. n (e ∙ a.me_is)) (a.heard c n m);
        says = λ j r. b.says j (a.says j r);
        bundle = λ e. b.bundle (a.bundle e);
        replies_is = b.replies_is ∙ a.replies_is;
        wants_is = b.wants_is ∙ a.wants_is;
        serves_is = b.serves_is ∙ a.serves_is;
      }

  keeps_settle : (s : Session A) (w : Way O) (t : Turn X B O A) → Keeps t (settle s w t)
  unfolding settle
  keeps_settle s free t = keeps_same t
  keeps_settle s (under b) t =
      by_test (Keeps t) (eqb b.incarnation s.incarnation && eqb b.counter s.counter)
      (λ _. record {
        prom_is = refl;
        ver_is = refl;
        rec_is = refl;
        sessions_is = refl;
        work_is = refl;
        lead_is = refl;
        me_is = refl;
        quiet_is = refl;
        pass_is = refl;
        still = λ _. refl;
        unlevel = λ _. refl;
        held = λ _. refl;
        pend_is = λ z. z;
        heard = λ b n m. m;
        says = λ j r. r;
        bundle = λ e. e;
        replies_is = refl;
        wants_is = refl;
        serves_is = refl;
      })
      (λ _. keeps_same t)

  keeps_here : (t : Turn X B O A) → Keeps t (settle_here t)
  unfolding settle_here
  keeps_here t = by_test (Keeps t) (is_copy t.memory.me) (λ _. keeps_settle _ t.memory.way t) (λ _. keeps_same t)

  pub keeps_pack : (t : Turn X B O A) → Keeps t (pack t)
  unfolding pack
  keeps_pack t =
      by_test (Keeps t) (is_free t.memory.way && not (is_nil t.memory.waiting))
      (λ _. record {
        prom_is = refl;
        ver_is = refl;
        rec_is = refl;
        sessions_is = refl;
        work_is = refl;
        lead_is = refl;
        me_is = refl;
        quiet_is = refl;
        pass_is = refl;
        still = λ _. refl;
        unlevel = λ _. refl;
        held = λ _. refl;
        pend_is = λ z. z;
        heard = λ b n m. Memᴰ.tail (not_of_in t.memory.me b t.memory.heard n m);
        says = λ j r. r;
        bundle = λ _. refl;
        replies_is = refl;
        wants_is = refl;
        serves_is = refl;
      })
      (λ _. keeps_same t)

  pack_agreeing : (t : Turn X B O A) → (pack t).agreeing ≡ t.agreeing
  unfolding pack
  pack_agreeing t = by_test (λ (z : Turn X B O A). z.agreeing ≡ t.agreeing) (is_free t.memory.way && not (is_nil t.memory.waiting)) (λ _. refl) (λ _. refl)

  settle_agreeing : (s : Session A) (w : Way O) (t : Turn X B O A) → (settle s w t).agreeing ≡ t.agreeing
  unfolding settle
  settle_agreeing s free t = refl
  settle_agreeing s (under b) t = by_test (λ (z : Turn X B O A). z.agreeing ≡ t.agreeing) (eqb b.incarnation s.incarnation && eqb b.counter s.counter) (λ _. refl) (λ _. refl)

  here_agreeing : (t : Turn X B O A) → (settle_here t).agreeing ≡ t.agreeing
  unfolding settle_here
  here_agreeing t = by_test (λ (z : Turn X B O A). z.agreeing ≡ t.agreeing) (is_copy t.memory.me) (λ _. settle_agreeing _ t.memory.way t) (λ _. refl)

  pub keeps_forward : (t : Turn X B O A) → Keeps t (forward t)
  unfolding forward
  keeps_forward t =
      by_three (Keeps t) (is_copy t.memory.me) (is_level t.agreeing.recovery) (eqb t.memory.lead (suc t.agreeing.promised) && (eqb (rank t.agreeing.proposal) 0 && not (is_nil (undone t.memory.heard t.sessions))))
      (λ _ l e. record {
        prom_is = refl;
        ver_is = refl;
        rec_is = refl;
        sessions_is = refl;
        work_is = refl;
        lead_is = refl;
        me_is = refl;
        quiet_is = refl;
        pass_is = refl;
        still = λ n. absurd (n (eqb-true _ _ (and_left _ _ e)));
        unlevel = λ n. absurd (let z : ◌≡◌ {A = Bool} true false = sym l ∙ n in let q : ◌≡◌ {A = ℕ} 0 1 = cc in omega arith);
        held = λ n. absurd (n (eqb-true _ _ (and_left _ _ (and_right _ _ e))));
        pend_is = λ _. inr refl;
        heard = λ b n m. m;
        says = λ j r. tt;
        bundle = λ e. e;
        replies_is = refl;
        wants_is = refl;
        serves_is = refl;
      })
      (keeps_same t)

  pub keeps_goes : (t : Turn X B O A) → Keeps t (goes_on t)
  keeps_goes t = keeps_then (keeps_here t) (keeps_then (keeps_pack (settle_here t)) (keeps_forward (pack (settle_here t))))

  -- who leads and has no proposal proposes all that it has heard and that isn't done
  pub record Fills (u : Turn X B O A) (j : ℕ) : Type 0 where
    pub is : ((u.agreeing.proposal ≡ nothing) × (is_nil (undone u.memory.heard u.sessions) ≡ true)) ⊎ ((u.agreeing.proposal ≡ voted u.agreeing.promised (undone u.memory.heard u.sessions)) × Reaches j u.sends.status)

  forward_fills : (t : Turn X B O A) (j : ℕ) → t.memory.me < 3 → is_level t.agreeing.recovery ≡ true → t.memory.lead ≡ suc t.agreeing.promised → t.agreeing.proposal ≡ nothing → Fills (forward t) j
  unfolding forward
  forward_fills t j l v e n = rw (open_is t l v e n) (go (is_nil (undone t.memory.heard t.sessions)) refl)
    where
      open_is : (t : Turn X B O A) → t.memory.me < 3 → is_level t.agreeing.recovery ≡ true → t.memory.lead ≡ suc t.agreeing.promised → t.agreeing.proposal ≡ nothing → is_open t ≡ not (is_nil (undone t.memory.heard t.sessions))
      open_is t l v e n = rw n (rw v (grind (arith, tests)))

      go : (b : Bool) → is_nil (undone t.memory.heard t.sessions) ≡ b → Fills (cond (not b) (proposing (undone t.memory.heard t.sessions) t) t) j
      go true f = record { is = inl (n, f) }
      go false f = record { is = inr (refl, tt) }

  pub goes_fills : (t : Turn X B O A) (j : ℕ) → t.memory.me < 3 → is_level t.agreeing.recovery ≡ true → t.memory.lead ≡ suc t.agreeing.promised → t.agreeing.proposal ≡ nothing → Fills (goes_on t) j
  goes_fills t j l v e n =
      let a = keeps_then (keeps_here t) (keeps_pack (settle_here t)) in
      forward_fills (pack (settle_here t)) j (omega (arith, a.me_is, l)) (ap is_level a.rec_is ∙ v) (a.lead_is ∙ e ∙ ap suc (sym a.prom_is)) (ap (λ (z : Agreeing O). z.proposal) (pack_agreeing (settle_here t) ∙ here_agreeing t) ∙ n)

  -- a copy that doesn't apply nor take anything
  pub record Stood (version : ℕ) (recovery : Recovery) (sessions : ℕ → Session A) (lead me : ℕ) (heard_before : List (Bundle O)) (u : Turn X B O A) : Type 0 where
    pub ver_is : u.agreeing.version ≡ version
    pub rec_is : u.agreeing.recovery ≡ recovery
    pub sessions_is : u.sessions ≡ sessions
    pub lead_is : u.memory.lead ≡ lead
    pub heard : (b : Bundle O) → b.house ≢ me → Memᴰ b heard_before → Memᴰ b u.memory.heard

  abbrev pub Stands : Turn X B O A → Turn X B O A → Type 0
  Stands t u = Stood t.agreeing.version t.agreeing.recovery t.sessions t.memory.lead t.memory.me t.memory.heard u

  pub stands_of : {t u : Turn X B O A} → Keeps t u → Stands t u
  stands_of k = record { ver_is = k.ver_is; rec_is = k.rec_is; sessions_is = k.sessions_is; lead_is = k.lead_is; heard = k.heard }
