-- What a tick leaves of a copy: it waits, it elects itself, it leads, or it recovers.
use Rattle.std.specs.Prelude.{◌≡◌, ℕ, suc, ◌%◌, true, false}
use Rattle.std.proofs.Common.{◌<◌, ◌≤◌, eqb, ltb, ◌≢◌, sym, refl, ap, ◌∙◌, subst, arith}
use mathlib.Core.List.{Memᴰ}
use Rattle.std.proofs.lemmas.Bool.Decides.{nat_tests as tests}
use Rattle.agreement.specs.Copies.{nothing, rank}
use Rattle.agreement.proofs.Base.{by_test}
use Rattle.copies.specs.Messages.{Bundle, Recovery, level, recovers, is_level}
use Rattle.copies.specs.Copy.{Pass, Turn, next_ballot, patience, raised, resend, elects, elect, stirs, on_tick, saying, passing, goes_on}
use Rattle.replicated.proofs.Turns.{not_level, Reaches, Stands, stands_of, keeps_goes, Fills, goes_fills}

pub next_own : (me p : ℕ) → me < 3 → next_ballot me p % 3 ≡ me
next_own me p l = omega arith

module _ {X B O A : Type 0} where
  tick_is : (t : Turn X B O A) → t.memory.me < 3 → on_tick t ≡ stirs t.agreeing.recovery (resend t)
  unfolding on_tick
  tick_is t l = grind (arith, tests)

  stirs_led : (v : Recovery) (t : Turn X B O A) → v ≡ level → t.memory.lead ≡ suc t.agreeing.promised → stirs v t ≡ saying t
  unfolding stirs
  stirs_led level t f e = grind (arith, tests)
  stirs_led (recovers a b) t f e = absurd (let z : ◌≡◌ {A = ℕ} 0 1 = cc in omega arith)

  stirs_elect : (v : Recovery) (t : Turn X B O A) → v ≡ level → t.memory.lead ≢ suc t.agreeing.promised → stirs v t ≡ elect t
  unfolding stirs
  stirs_elect level t f e = grind (arith, tests)
  stirs_elect (recovers a b) t f e = absurd (let z : ◌≡◌ {A = ℕ} 0 1 = cc in omega arith)

  stirs_rec : (v : Recovery) (t : Turn X B O A) (a b : ℕ) → v ≡ recovers a b → stirs v t ≡ saying (passing (record t.memory.pass { asked = false }) t)
  unfolding stirs
  stirs_rec (recovers c d) t a b f = refl
  stirs_rec level t a b f = absurd (let z : ◌≡◌ {A = ℕ} 0 1 = cc in omega arith)

  elect_waits : (t : Turn X B O A) → suc t.memory.quiet < patience t.memory.me → elect t ≡ record t { memory = record t.memory { quiet = suc t.memory.quiet } }
  unfolding elect
  elect_waits t l = grind (arith, tests)

  elect_now : (t : Turn X B O A) → patience t.memory.me ≤ suc t.memory.quiet → elect t ≡ elects (next_ballot t.memory.me t.agreeing.promised) t
  unfolding elect
  elect_now t l = grind (arith, tests)

  -- a copy that doesn't lead waits
  pub record Waited (t u : Turn X B O A) : Type 0 where
    pub agreeing_is : u.agreeing ≡ t.agreeing
    pub sessions_is : u.sessions ≡ t.sessions
    pub lead_is : u.memory.lead ≡ t.memory.lead
    pub quiet_is : u.memory.quiet ≡ suc t.memory.quiet
    pub heard : (b : Bundle O) → b.house ≢ t.memory.me → Memᴰ b t.memory.heard → Memᴰ b u.memory.heard

  pub tick_waits : (t : Turn X B O A) → t.memory.me < 3 → t.agreeing.recovery ≡ level → t.memory.lead ≢ suc t.agreeing.promised → suc t.memory.quiet < patience t.memory.me → Waited t (goes_on (on_tick t))
  tick_waits t l v n q =
      subst (λ (z : Turn X B O A). Waited t (goes_on z)) (sym (tick_is t l ∙ stirs_elect t.agreeing.recovery (resend t) v n ∙ elect_waits (resend t) q))
      (let k = keeps_goes (record (resend t) { memory = record t.memory { quiet = suc t.memory.quiet } }) in record { agreeing_is = k.still n; sessions_is = k.sessions_is; lead_is = k.lead_is; quiet_is = k.quiet_is; heard = k.heard })

  -- it takes the next ballot, and says so
  pub record Elected (t u : Turn X B O A) (p : ℕ) : Type 0 where
    pub agreeing_is : u.agreeing ≡ raised p t.agreeing
    pub sessions_is : u.sessions ≡ t.sessions
    pub lead_is : u.memory.lead ≡ t.memory.lead
    pub says : (j : ℕ) → Reaches j u.sends.status
    pub heard : (b : Bundle O) → b.house ≢ t.memory.me → Memᴰ b t.memory.heard → Memᴰ b u.memory.heard

  pub tick_elects : (t : Turn X B O A) → t.memory.me < 3 → t.agreeing.recovery ≡ level → t.memory.lead ≤ suc t.agreeing.promised → t.memory.lead ≢ suc t.agreeing.promised → patience t.memory.me ≤ suc t.memory.quiet →
      Elected t (goes_on (on_tick t)) (next_ballot t.memory.me t.agreeing.promised)
  tick_elects t l v b n q =
      subst (λ (z : Turn X B O A). Elected t (goes_on z) (next_ballot t.memory.me t.agreeing.promised)) (sym (tick_is t l ∙ stirs_elect t.agreeing.recovery (resend t) v n ∙ elect_now (resend t) q))
      (let k = keeps_goes (elects (next_ballot t.memory.me t.agreeing.promised) (resend t)) in record { agreeing_is = k.still (λ e. absurd (omega arith)); sessions_is = k.sessions_is; lead_is = k.lead_is; says = λ j. k.says j tt; heard = k.heard })

  -- a leader ticks
  pub record Led (t u : Turn X B O A) (j : ℕ) : Type 0 where
    pub stands : Stands t u
    pub prom_is : u.agreeing.promised ≡ t.agreeing.promised
    pub says : Reaches j u.sends.status
    pub idle : t.agreeing.proposal ≡ nothing → Fills u j
    pub busy : rank t.agreeing.proposal ≢ 0 → u.agreeing ≡ t.agreeing

  pub tick_led : (t : Turn X B O A) (j : ℕ) → t.memory.me < 3 → t.agreeing.recovery ≡ level → t.memory.lead ≡ suc t.agreeing.promised → Led t (goes_on (on_tick t)) j
  tick_led t j l v e =
      subst (λ (z : Turn X B O A). Led t (goes_on z) j) (sym (tick_is t l ∙ stirs_led t.agreeing.recovery (resend t) v e))
      (let k = keeps_goes (saying (resend t)) in
      record {
        stands = stands_of k;
        prom_is = k.prom_is;
        says = k.says j tt;
        idle = λ n. goes_fills (saying (resend t)) j l (ap is_level v) e n;
        busy = k.held;
      })

  -- a copy that recovers says so, and may ask again
  pub record Stirred (t u : Turn X B O A) : Type 0 where
    pub agreeing_is : u.agreeing ≡ t.agreeing
    pub asked : u.memory.pass.asked ≡ false
    pub says : (j : ℕ) → Reaches j u.sends.status

  pub tick_stirs : (t : Turn X B O A) (a b : ℕ) → t.memory.me < 3 → t.agreeing.recovery ≡ recovers a b → Stirred t (goes_on (on_tick t))
  tick_stirs t a b l v =
      subst (λ (z : Turn X B O A). Stirred t (goes_on z)) (sym (tick_is t l ∙ stirs_rec t.agreeing.recovery (resend t) a b v))
      (let k = keeps_goes (saying (passing (record t.memory.pass { asked = false }) (resend t))) in record { agreeing_is = k.unlevel (not_level a b t.agreeing.recovery v); asked = ap (λ (z : Pass). z.asked) k.pass_is; says = λ j. k.says j tt })

  -- any tick of a copy
  pub record Ticked (t u : Turn X B O A) : Type 0 where
    pub stands : Stands t u
    pub low : t.agreeing.promised ≤ u.agreeing.promised
    pub bundle : u.sends.bundle ≡ true

  elect_ticked : (t : Turn X B O A) → t.sends.bundle ≡ true → Ticked t (goes_on (elect t))
  unfolding elect
  elect_ticked t b = by_test (λ (z : Turn X B O A). Ticked t (goes_on z)) (ltb (suc t.memory.quiet) (patience t.memory.me))
      (λ _. let k = keeps_goes (record t { memory = record t.memory { quiet = suc t.memory.quiet } }) in record { stands = stands_of k; low = omega (arith, k.prom_is); bundle = k.bundle b })
      (λ _. let k = keeps_goes (elects (next_ballot t.memory.me t.agreeing.promised) t) in record { stands = stands_of k; low = omega (arith, k.prom_is); bundle = k.bundle b })

  stirs_ticked : (v : Recovery) (t : Turn X B O A) → t.sends.bundle ≡ true → Ticked t (goes_on (stirs v t))
  unfolding stirs
  stirs_ticked (recovers a c) t b = let k = keeps_goes (saying (passing (record t.memory.pass { asked = false }) t)) in record { stands = stands_of k; low = omega (arith, k.prom_is); bundle = k.bundle b }
  stirs_ticked level t b = by_test (λ (z : Turn X B O A). Ticked t (goes_on z)) (eqb t.memory.lead (suc t.agreeing.promised))
      (λ _. let k = keeps_goes (saying t) in record { stands = stands_of k; low = omega (arith, k.prom_is); bundle = k.bundle b })
      (λ _. elect_ticked t b)

  pub tick_any : (t : Turn X B O A) → Ticked t (goes_on (on_tick t))
  unfolding on_tick
  tick_any t = by_test (λ (z : Turn X B O A). Ticked t (goes_on z)) (ltb t.memory.me 3)
      (λ _. again (stirs_ticked t.agreeing.recovery (resend t) refl))
      (λ _. let k = keeps_goes (resend t) in record { stands = stands_of k; low = omega (arith, k.prom_is); bundle = k.bundle refl })
    where
      again : {u : Turn X B O A} → Ticked (resend t) u → Ticked t u
      again h = record { stands = h.stands; low = h.low; bundle = h.bundle }
