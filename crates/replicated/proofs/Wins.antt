-- Of two copies that are even, one comes to lead: first the other is elected, so that its promise is no higher, then itself.
use Rattle.std.specs.Prelude.{◌≡◌, ℕ, suc, ◌+◌, ◌%◌, false, not}
use Rattle.std.proofs.Common.{◌<◌, ◌≤◌, ◌≢◌, ◌⊎◌, sym, refl, ap, ◌∙◌, subst, arith}
use mathlib.Core.List.{Memᴰ}
use Rattle.agreement.specs.Copies.{rank}
use Rattle.compose.specs.Pure.{on}
use Rattle.copies.specs.Service.{Service, Keeper}
use Rattle.copies.specs.Messages.{Bundle, Recovery, level, is_level, Agreeing, Status, Told}
use Rattle.copies.specs.Copy.{Memory, raised, noted, on_status, goes_on}
use Rattle.copies.specs.House.{Disks, status_now, with_turn, begins, disk_of}
use Rattle.replicated.proofs.Heard.{got_raise, Taken, got_take}
use Rattle.replicated.proofs.Parted.{turn_of, told_is}
use Rattle.replicated.proofs.Now.{Alone, Now, Pair, Step, swap, hear_x, step_to, Facts, facts, said}
use Rattle.replicated.proofs.Meets.{Elects, elects_x}

module _ {O R : Type 0} {sv : Service O R} {kp : Keeper sv} (alone : Alone sv kp) where
  -- both are level and as far, u has promised no less and doesn't lead
  pub record Calm (n : Now alone) (z u : ℕ) (mz : Memory O) (dz : Disks sv kp) : Type 0 where
    pub mu : Memory O
    pub du : Disks sv kp
    pub z_is : n.v.house z ≡ on mz dz
    pub u_is : n.v.house u ≡ on mu du
    pub z_level : dz.agreeing.recovery ≡ level
    pub u_level : du.agreeing.recovery ≡ level
    pub vers : du.agreeing.version ≡ dz.agreeing.version
    pub proms : dz.agreeing.promised ≤ du.agreeing.promised
    pub u_not : mu.lead ≢ suc du.agreeing.promised

  -- x leads, and both are level and as far
  pub record Leads (n : Now alone) (x y : ℕ) (mx : Memory O) (dx : Disks sv kp) : Type 0 where
    pub my : Memory O
    pub dy : Disks sv kp
    pub x_is : n.v.house x ≡ on mx dx
    pub y_is : n.v.house y ≡ on my dy
    pub x_level : dx.agreeing.recovery ≡ level
    pub y_level : dy.agreeing.recovery ≡ level
    pub vers : dy.agreeing.version ≡ dx.agreeing.version
    pub proms : dy.agreeing.promised ≡ dx.agreeing.promised
    pub leads : mx.lead ≡ suc dx.agreeing.promised
    pub pend_is : (rank dx.agreeing.proposal ≡ 0) ⊎ (rank dx.agreeing.proposal ≡ suc dx.agreeing.promised)

  pub record Won (n : Now alone) (k z u : ℕ) (mz : Memory O) (dz : Disks sv kp) : Type 0 where
    pub then : Now alone
    pub m : Memory O
    pub d : Disks sv kp
    pub leads : Leads then z u m d
    pub sessions_is : d.sessions ≡ dz.sessions
    pub heard : (b : Bundle O) → b.house ≢ z → Memᴰ b mz.heard → Memᴰ b m.heard
    pub cost : then.steps ≤ k + n.steps

  -- y hears a higher status of x, which is as far and hasn't proposed under it
  record Follows (n : Now alone) (x y : ℕ) (mx : Memory O) (dx : Disks sv kp) (my : Memory O) (dy : Disks sv kp) (p : ℕ) : Type 0 where
    pub then : Now alone
    pub m : Memory O
    pub d : Disks sv kp
    pub x_is : then.v.house x ≡ on mx dx
    pub y_is : then.v.house y ≡ on m d
    pub agreeing_is : d.agreeing ≡ raised p dy.agreeing
    pub sessions_is : d.sessions ≡ dy.sessions
    pub not_led : m.lead ≢ suc d.agreeing.promised
    pub said : dy.agreeing.promised < p → Memᴰ (record { to = x; from = y; what = Told (status_now sv kp (raised p dy.agreeing)) }) then.news
    pub heard : (b : Bundle O) → b.house ≢ y → Memᴰ b my.heard → Memᴰ b m.heard
    pub cost : then.steps ≡ suc n.steps

  follows : {x y : ℕ} (p : Pair alone x y) (n : Now alone) (mx my : Memory O) (dx dy : Disks sv kp) → n.v.house x ≡ on mx dx → n.v.house y ≡ on my dy → (X : Status O) → Memᴰ (record { to = y; from = x; what = Told X }) n.news → dy.agreeing.recovery ≡ level → X.recovering ≡ false → dy.agreeing.version ≡ X.version → dy.agreeing.promised ≤ X.promised → X.promised % 3 ≡ x → rank X.proposal ≢ suc X.promised →
      Follows n x y mx dx my dy X.promised
  follows {x} {y} p n mx my dx dy ex ey X st vy rx ve pr own rl =
      let g = facts alone n y my dy p.ly ey in
      let r = got_raise x X (turn_of sv kp my dy) (omega (arith, p.ly, g.me_is)) p.lx (λ e. p.ne (sym (e ∙ g.me_is))) vy rx refl ve pr (λ e. p.ne (sym g.me_is ∙ sym e ∙ own)) rl in
      let h = step_to alone (told_is sv kp x X my dy r.work_is) (hear_x alone (swap alone p) n ey ex (Told X) st) in
      let k = facts alone h.then y _ _ p.ly h.x_is in
      let nl : my.lead ≢ suc X.promised = λ e. p.ne (sym (k.own (r.stands.lead_is ∙ e ∙ ap suc (sym r.prom_is))) ∙ ap (λ j. j % 3) r.prom_is ∙ own) in
      let a = r.agreeing_is nl in
      record {
        then = h.then;
        m = _;
        d = _;
        x_is = h.y_is;
        y_is = h.x_is;
        agreeing_is = a;
        sessions_is = r.stands.sessions_is;
        not_led = λ e. nl (sym r.stands.lead_is ∙ e ∙ ap suc r.prom_is);
        said = λ l. subst (λ (c : Agreeing O). Memᴰ (record { to = x; from = y; what = Told (status_now sv kp c) }) h.then.news) a (said alone (swap alone p) h (r.says l));
        heard = λ b o m. r.stands.heard b (λ e. o (e ∙ g.me_is)) m;
        cost = h.cost;
      }

  -- z leads, when u and then z itself were elected
  pub wins : {z u : ℕ} (p : Pair alone z u) (n : Now alone) (mz : Memory O) (dz : Disks sv kp) → Calm n z u mz dz → Won n 11 z u mz dz
  wins {z} {u} p n mz dz a = first (elects_x alone (swap alone p) n a.mu mz a.du dz a.u_is a.z_is a.u_level a.u_not)
    where
      ver : {a b : Agreeing O} → a ≡ b → a.version ≡ b.version
      ver e = ap (λ (s : Agreeing O). s.version) e

      prom : {a b : Agreeing O} → a ≡ b → a.promised ≡ b.promised
      prom e = ap (λ (s : Agreeing O). s.promised) e

      rec : {a b : Agreeing O} → a ≡ b → a.recovery ≡ b.recovery
      rec e = ap (λ (s : Agreeing O). s.recovery) e

      told_level : {v : Recovery} → v ≡ level → not (is_level v) ≡ false
      told_level e = ap (λ (v : Recovery). not (is_level v)) e

      El : (m : Now alone) (x y : ℕ) (mx : Memory O) (dx : Disks sv kp) (my : Memory O) (dy : Disks sv kp) → Type 0
      El m x y mx dx my dy = Elects alone m 4 x y mx dx my dy

      -- z hears that u promised its ballot, and leads
      fifth : (b : El n u z a.mu a.du mz dz) (c : Follows b.then u z b.m b.d mz dz b.p) (d : El c.then z u c.m c.d b.m b.d) (e : Follows d.then z u d.m d.d b.m b.d d.p) → d.d.agreeing.recovery ≡ level → e.d.agreeing.recovery ≡ level → d.d.agreeing.version ≡ e.d.agreeing.version → d.d.agreeing.promised ≡ d.p → e.d.agreeing.promised ≡ d.p → b.d.agreeing.version ≡ e.d.agreeing.version → b.d.agreeing.recovery ≡ level → b.d.agreeing.promised < d.p → Won n 11 z u mz dz
      fifth b c d e dl el ve dp ep bv bl lt =
          record {
            then = h.then;
            m = (with_turn sv kp (goes_on (on_status u X (turn_of sv kp d.m d.d))) (begins sv kp d.m d.d)).turn.memory;
            d = disk_of sv kp (with_turn sv kp (goes_on (on_status u X (turn_of sv kp d.m d.d))) (begins sv kp d.m d.d));
            leads = record { my = e.m; dy = e.d; x_is = h.x_is; y_is = h.y_is; x_level = t.rec_is ∙ dl; y_level = el; vers = omega (arith, t.ver_is, ve); proms = ep ∙ sym t.prom_is; leads = t.lead_is ∙ ap suc (sym t.prom_is); pend_is = t.pend_is };
            sessions_is = t.sessions_is ∙ d.sessions_is ∙ c.sessions_is;
            heard = λ q o k. t.heard q (λ g. o (g ∙ f.me_is)) (d.heard q o (c.heard q o k));
            cost = omega (arith, h.cost, e.cost, d.cost, c.cost, b.cost);
          }
        where
          f : Facts alone z d.m d.d
          f = facts alone e.then z d.m d.d p.lx e.x_is

          X : Status O
          X = status_now sv kp (raised d.p b.d.agreeing)

          t : Taken d.p (noted u X (turn_of sv kp d.m d.d)) (goes_on (on_status u X (turn_of sv kp d.m d.d)))
          t = got_take u X (turn_of sv kp d.m d.d) (omega (arith, p.lx, f.me_is)) p.ly (λ g. p.ne (g ∙ f.me_is)) dl (told_level bl) (ve ∙ sym bv) dp (d.own ∙ sym f.me_is) (λ g. d.rank_low (sym (ap (λ (s : Agreeing O). rank s.proposal) d.agreeing_is) ∙ g))

          h : Step alone e.then z u (with_turn sv kp (goes_on (on_status u X (turn_of sv kp d.m d.d))) (begins sv kp d.m d.d)) e.m e.d
          h = step_to alone (told_is sv kp u X d.m d.d t.work_is) (hear_x alone p e.then e.x_is e.y_is (Told X) (e.said lt))

      -- u has heard of z
      fourth : (b : El n u z a.mu a.du mz dz) (c : Follows b.then u z b.m b.d mz dz b.p) (d : El c.then z u c.m c.d b.m b.d) → b.d.agreeing.recovery ≡ level → c.d.agreeing.recovery ≡ level → b.d.agreeing.version ≡ c.d.agreeing.version → b.d.agreeing.promised ≡ c.d.agreeing.promised → Follows d.then z u d.m d.d b.m b.d d.p → Won n 11 z u mz dz
      fourth b c d bl cl ve pr e = fifth b c d e (rec d.agreeing_is ∙ cl) (rec e.agreeing_is ∙ bl) (omega (arith, ver d.agreeing_is, ver e.agreeing_is, ve)) (prom d.agreeing_is) (prom e.agreeing_is) (sym (ver e.agreeing_is)) bl (omega (arith, d.over, pr))

      -- z is elected
      third : (b : El n u z a.mu a.du mz dz) (c : Follows b.then u z b.m b.d mz dz b.p) → b.d.agreeing.recovery ≡ level → c.d.agreeing.recovery ≡ level → b.d.agreeing.version ≡ c.d.agreeing.version → b.d.agreeing.promised ≡ c.d.agreeing.promised → El c.then z u c.m c.d b.m b.d → Won n 11 z u mz dz
      third b c bl cl ve pr d = fourth b c d bl cl ve pr (follows p d.then d.m b.m d.d b.d d.x_is d.y_is (status_now sv kp (raised d.p c.d.agreeing)) d.said bl (told_level cl) ve (omega (arith, pr, d.over)) d.own d.rank_low)

      -- z has heard of u
      second : (b : El n u z a.mu a.du mz dz) → Follows b.then u z b.m b.d mz dz b.p → Won n 11 z u mz dz
      second b c = third b c (rec b.agreeing_is ∙ a.u_level) (rec c.agreeing_is ∙ a.z_level) (omega (arith, ver b.agreeing_is, ver c.agreeing_is, a.vers)) (prom b.agreeing_is ∙ sym (prom c.agreeing_is)) (elects_x alone p c.then c.m b.m c.d b.d c.y_is c.x_is (rec c.agreeing_is ∙ a.z_level) c.not_led)

      first : El n u z a.mu a.du mz dz → Won n 11 z u mz dz
      first b = second b (follows (swap alone p) b.then b.m mz b.d dz b.x_is b.y_is (status_now sv kp (raised b.p a.du.agreeing)) b.said a.z_level (told_level a.u_level) (sym a.vers) (omega (arith, a.proms, b.over)) b.own b.rank_low)
