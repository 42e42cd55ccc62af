-- A copy meets another, both level: it says its status under its own ballot, which takes four ticks at most, and the other hears of it. If
-- that one is behind, it learns or catches up at once. So it is no less far then, and has promised no less.
use Rattle.std.specs.Prelude.{◌≡◌, ℕ, zero, suc, ◌+◌, ◌*◌, ◌%◌, max, not}
use Rattle.std.proofs.Common.{◌<◌, ◌≤◌, ◌≢◌, sym, refl, ap, ◌∙◌, subst, inl, inr, arith}
use mathlib.Core.List.{Memᴰ}
use native.Mathlib.Decide.{ℕ_discrete, dec_le}
use Rattle.agreement.specs.Copies.{rank}
use Rattle.compose.specs.Pure.{on}
use Rattle.copies.specs.Service.{Service, Keeper}
use Rattle.copies.specs.Messages.{Bundle, Recovery, level, is_level, Agreeing, Status, Told}
use Rattle.copies.specs.Copy.{Memory, unseen, Turn, patience, next_ballot, raised, telling, hears, noted, on_status, goes_on}
use Rattle.copies.specs.House.{Disks, Wholes, status_now, with_turn, works, begins, disk_of, got, ticked, on as on_turn}
use Rattle.replicated.proofs.Ticks.{next_own, tick_waits, tick_elects, tick_led}
use Rattle.replicated.proofs.Heard.{heard_is, Evened, hears_evened, hears_same, Nearer, hears_nearer, hears_behind, tells_left}
use Rattle.replicated.proofs.Parted.{turn_of, told_is, light_gone, recovers_left}
use Rattle.replicated.proofs.Now.{Alone, Now, Pair, Step, swap, tick_x, hear_x, step_to, Facts, facts, said}
use Rattle.replicated.proofs.Passes.{resumes, ends_level}

module _ {O R : Type 0} {sv : Service O R} {kp : Keeper sv} (alone : Alone sv kp) where
  -- x, which doesn't lead, elects itself
  pub record Elects (n : Now alone) (k x y : ℕ) (mx : Memory O) (dx : Disks sv kp) (my : Memory O) (dy : Disks sv kp) : Type 0 where
    pub then : Now alone
    pub m : Memory O
    pub d : Disks sv kp
    pub p : ℕ
    pub x_is : then.v.house x ≡ on m d
    pub y_is : then.v.house y ≡ on my dy
    pub agreeing_is : d.agreeing ≡ raised p dx.agreeing
    pub sessions_is : d.sessions ≡ dx.sessions
    pub own : p % 3 ≡ x
    pub over : dx.agreeing.promised < p
    pub rank_low : rank dx.agreeing.proposal ≢ suc p
    pub said : Memᴰ (record { to = y; from = x; what = Told (status_now sv kp (raised p dx.agreeing)) }) then.news
    pub not_led : m.lead ≢ suc p
    pub heard : (b : Bundle O) → b.house ≢ x → Memᴰ b mx.heard → Memᴰ b m.heard
    pub cost : then.steps ≤ k + n.steps

  elects_now : (k : ℕ) {x y : ℕ} → Pair alone x y → (n : Now alone) (mx my : Memory O) (dx dy : Disks sv kp) → n.v.house x ≡ on mx dx → n.v.house y ≡ on my dy → dx.agreeing.recovery ≡ level → mx.lead ≢ suc dx.agreeing.promised → patience mx.me ≤ suc mx.quiet → Elects n (suc k) x y mx dx my dy
  elects_now k {x} {y} p n mx my dx dy ex ey v nl q =
      let f = facts alone n x mx dx p.lx ex in
      let s = tick_x alone p n ex ey in
      let t = tick_elects (turn_of sv kp mx dx) (omega (arith, p.lx, f.me_is)) v f.low nl q in
      record {
        then = s.then;
        m = (ticked sv kp (begins sv kp mx dx)).turn.memory;
        d = disk_of sv kp (ticked sv kp (begins sv kp mx dx));
        p = next_ballot mx.me dx.agreeing.promised;
        x_is = s.x_is;
        y_is = s.y_is;
        agreeing_is = t.agreeing_is;
        sessions_is = t.sessions_is;
        own = next_own mx.me dx.agreeing.promised (omega (arith, p.lx, f.me_is)) ∙ f.me_is;
        over = omega arith;
        rank_low = λ e. absurd (omega (arith, e, f.rank_low));
        said = subst (λ (a : Agreeing O). Memᴰ (record { to = y; from = x; what = Told (status_now sv kp a) }) s.then.news) t.agreeing_is (said alone p s (t.says y));
        not_led = λ e. absurd (omega (arith, e, t.lead_is, f.low));
        heard = λ b o m. t.heard b (λ e. o (e ∙ f.me_is)) m;
        cost = omega (arith, s.cost);
      }

  -- x, which doesn't lead, waits for a tick
  record Waits (n : Now alone) (x y : ℕ) (mx : Memory O) (dx : Disks sv kp) (my : Memory O) (dy : Disks sv kp) : Type 0 where
    pub then : Now alone
    pub m : Memory O
    pub d : Disks sv kp
    pub x_is : then.v.house x ≡ on m d
    pub y_is : then.v.house y ≡ on my dy
    pub agreeing_is : d.agreeing ≡ dx.agreeing
    pub sessions_is : d.sessions ≡ dx.sessions
    pub lead_is : m.lead ≡ mx.lead
    pub me_is : m.me ≡ mx.me
    pub quiet_is : m.quiet ≡ suc mx.quiet
    pub heard : (b : Bundle O) → b.house ≢ x → Memᴰ b mx.heard → Memᴰ b m.heard
    pub cost : then.steps ≡ suc n.steps

  waits_x : {x y : ℕ} → Pair alone x y → (n : Now alone) (mx my : Memory O) (dx dy : Disks sv kp) → n.v.house x ≡ on mx dx → n.v.house y ≡ on my dy → dx.agreeing.recovery ≡ level → mx.lead ≢ suc dx.agreeing.promised → suc mx.quiet < patience mx.me → Waits n x y mx dx my dy
  waits_x {x} {y} p n mx my dx dy ex ey v nl q =
      let f = facts alone n x mx dx p.lx ex in
      let s = tick_x alone p n ex ey in
      let t = tick_waits (turn_of sv kp mx dx) (omega (arith, p.lx, f.me_is)) v nl q in
      let g = facts alone s.then x _ _ p.lx s.x_is in
      record { then = s.then; m = _; d = _; x_is = s.x_is; y_is = s.y_is; agreeing_is = t.agreeing_is; sessions_is = t.sessions_is; lead_is = t.lead_is; me_is = g.me_is ∙ sym f.me_is; quiet_is = t.quiet_is; heard = λ b o m. t.heard b (λ e. o (e ∙ f.me_is)) m; cost = s.cost }

  later : (k : ℕ) {x y : ℕ} (n : Now alone) (mx my : Memory O) (dx dy : Disks sv kp) (t : Waits n x y mx dx my dy) → Elects t.then k x y t.m t.d my dy → Elects n (suc k) x y mx dx my dy
  later k {x} {y} n mx my dx dy t r =
      record {
        then = r.then;
        m = r.m;
        d = r.d;
        p = r.p;
        x_is = r.x_is;
        y_is = r.y_is;
        agreeing_is = r.agreeing_is ∙ ap (raised r.p) t.agreeing_is;
        sessions_is = r.sessions_is ∙ t.sessions_is;
        own = r.own;
        over = subst (λ (a : Agreeing O). a.promised < r.p) t.agreeing_is r.over;
        rank_low = subst (λ (a : Agreeing O). rank a.proposal ≢ suc r.p) t.agreeing_is r.rank_low;
        said = subst (λ (a : Agreeing O). Memᴰ (record { to = y; from = x; what = Told (status_now sv kp (raised r.p a)) }) r.then.news) t.agreeing_is r.said;
        not_led = r.not_led;
        heard = λ b o m. r.heard b o (t.heard b o m);
        cost = omega (arith, r.cost, t.cost);
      }

  rouses : (k : ℕ) {x y : ℕ} → Pair alone x y → (n : Now alone) (mx my : Memory O) (dx dy : Disks sv kp) → n.v.house x ≡ on mx dx → n.v.house y ≡ on my dy → dx.agreeing.recovery ≡ level → mx.lead ≢ suc dx.agreeing.promised → patience mx.me ≤ suc mx.quiet + k → Elects n (suc k) x y mx dx my dy
  rouses zero p n mx my dx dy ex ey v nl pa = elects_now zero p n mx my dx dy ex ey v nl (omega (arith, pa))
  rouses (suc k) p n mx my dx dy ex ey v nl pa = elim (dec_le (patience mx.me) (suc mx.quiet)) [
    | yes q ↦ elects_now (suc k) p n mx my dx dy ex ey v nl q
    | no q ↦
        let t = waits_x p n mx my dx dy ex ey v nl (omega (arith, q)) in
        later (suc k) n mx my dx dy t (rouses k p t.then t.m my t.d dy t.x_is t.y_is (ap (λ (a : Agreeing O). a.recovery) t.agreeing_is ∙ v) (λ e. nl (sym t.lead_is ∙ e ∙ ap (λ (a : Agreeing O). suc a.promised) t.agreeing_is)) (omega (arith, pa, t.quiet_is, t.me_is)))
  ]

  pub elects_x : {x y : ℕ} → Pair alone x y → (n : Now alone) (mx my : Memory O) (dx dy : Disks sv kp) → n.v.house x ≡ on mx dx → n.v.house y ≡ on my dy → dx.agreeing.recovery ≡ level → mx.lead ≢ suc dx.agreeing.promised → Elects n 4 x y mx dx my dy
  elects_x {x} p n mx my dx dy ex ey v nl = let f = facts alone n x mx dx p.lx ex in rouses 3 p n mx my dx dy ex ey v nl (omega (arith, f.me_is, p.lx))

  -- x, which is level, says its status under its own ballot
  record Spoke (n : Now alone) (x y : ℕ) (mx : Memory O) (dx : Disks sv kp) (my : Memory O) (dy : Disks sv kp) : Type 0 where
    pub then : Now alone
    pub m : Memory O
    pub d : Disks sv kp
    pub x_is : then.v.house x ≡ on m d
    pub y_is : then.v.house y ≡ on my dy
    pub level_is : d.agreeing.recovery ≡ level
    pub ver_is : d.agreeing.version ≡ dx.agreeing.version
    pub low : dx.agreeing.promised ≤ d.agreeing.promised
    pub own : d.agreeing.promised % 3 ≡ x
    pub said : Memᴰ (record { to = y; from = x; what = Told (status_now sv kp d.agreeing) }) then.news
    pub free : mx.lead ≢ suc dx.agreeing.promised → (m.lead ≢ suc d.agreeing.promised) × (rank d.agreeing.proposal < suc d.agreeing.promised)
    pub cost : then.steps ≤ 4 + n.steps

  speaks : {x y : ℕ} → Pair alone x y → (n : Now alone) (mx my : Memory O) (dx dy : Disks sv kp) → n.v.house x ≡ on mx dx → n.v.house y ≡ on my dy → dx.agreeing.recovery ≡ level → Spoke n x y mx dx my dy
  speaks {x} {y} p n mx my dx dy ex ey v = elim (ℕ_discrete mx.lead (suc dx.agreeing.promised)) [
    | yes e ↦
        let f = facts alone n x mx dx p.lx ex in
        let s = tick_x alone p n ex ey in
        let t = tick_led (turn_of sv kp mx dx) y (omega (arith, p.lx, f.me_is)) v e in
        record {
          then = s.then;
          m = (ticked sv kp (begins sv kp mx dx)).turn.memory;
          d = disk_of sv kp (ticked sv kp (begins sv kp mx dx));
          x_is = s.x_is;
          y_is = s.y_is;
          level_is = t.stands.rec_is ∙ v;
          ver_is = t.stands.ver_is;
          low = omega (arith, t.prom_is);
          own = ap (λ k. k % 3) t.prom_is ∙ f.own e;
          said = said alone p s t.says;
          free = λ n. absurd (n e);
          cost = omega (arith, s.cost);
        }
    | no nl ↦
        let f = facts alone n x mx dx p.lx ex in
        let r = elects_x p n mx my dx dy ex ey v nl in
        let pr = ap (λ (a : Agreeing O). a.promised) r.agreeing_is in
        record {
          then = r.then;
          m = r.m;
          d = r.d;
          x_is = r.x_is;
          y_is = r.y_is;
          level_is = ap (λ (a : Agreeing O). a.recovery) r.agreeing_is ∙ v;
          ver_is = ap (λ (a : Agreeing O). a.version) r.agreeing_is;
          low = omega (arith, pr, r.over);
          own = ap (λ k. k % 3) pr ∙ r.own;
          said = subst (λ (a : Agreeing O). Memᴰ (record { to = y; from = x; what = Told (status_now sv kp a) }) r.then.news) (sym r.agreeing_is) r.said;
          free = λ _. (λ e. r.not_led (e ∙ ap suc pr), omega (arith, pr, r.over, f.rank_low, ap (λ (a : Agreeing O). rank a.proposal) r.agreeing_is));
          cost = r.cost;
        }
  ]

  -- y heard of x, and is level and no less far
  pub record Met (n : Now alone) (x y : ℕ) (mx0 : Memory O) (dx0 dy0 : Disks sv kp) : Type 0 where
    pub then : Now alone
    pub mx : Memory O
    pub dx : Disks sv kp
    pub my : Memory O
    pub dy : Disks sv kp
    pub x_is : then.v.house x ≡ on mx dx
    pub y_is : then.v.house y ≡ on my dy
    pub x_level : dx.agreeing.recovery ≡ level
    pub y_level : dy.agreeing.recovery ≡ level
    pub ver_is : dx.agreeing.version ≡ dx0.agreeing.version
    pub far : dx.agreeing.version ≤ dy.agreeing.version
    pub low : dx0.agreeing.promised ≤ dx.agreeing.promised
    pub own : dx.agreeing.promised % 3 ≡ x
    pub prom_is : dy.agreeing.promised ≡ max dy0.agreeing.promised dx.agreeing.promised
    pub not_led : mx0.lead ≢ suc dx0.agreeing.promised → mx.lead ≢ suc dx.agreeing.promised
    pub as_far : mx0.lead ≢ suc dx0.agreeing.promised → dy0.agreeing.version ≤ dx0.agreeing.version → dy.agreeing.version ≡ dx.agreeing.version
    pub cost : then.steps ≤ 6 * alone.keeps.most + 11 + n.steps

  pub meets : {x y : ℕ} → Pair alone x y → (n : Now alone) (mx my : Memory O) (dx dy : Disks sv kp) → n.v.house x ≡ on mx dx → n.v.house y ≡ on my dy → dx.agreeing.recovery ≡ level → dy.agreeing.recovery ≡ level → Met n x y mx dx dy
  meets {x} {y} p n mx my dx dy ex ey vx vy = go (speaks p n mx my dx dy ex ey vx)
    where
      go : Spoke n x y mx dx my dy → Met n x y mx dx dy
      go s = by_ver (dec_le s.d.agreeing.version dy.agreeing.version) (ℕ_discrete s.d.agreeing.version dy.agreeing.version)
        where
          X : Status O
          X = status_now sv kp s.d.agreeing

          q : ℕ
          q = max dy.agreeing.promised s.d.agreeing.promised

          f : Facts alone y my dy
          f = facts alone s.then y my dy p.ly s.y_is

          z : Wholes sv kp
          z = got sv kp x (Told X) (begins sv kp my dy)

          h : Step alone s.then y x z s.m s.d
          h = hear_x alone (swap alone p) s.then s.y_is s.x_is (Told X) s.said

          t : Turn sv.Rest sv.Block O sv.A
          t = noted x X (turn_of sv kp my dy)

          is : on_status x X (turn_of sv kp my dy) ≡ hears x q X t
          is = heard_is x X (turn_of sv kp my dy) (omega (arith, p.ly, f.me_is)) p.lx (λ e. p.ne (sym (e ∙ f.me_is))) vy (ap (λ (v : Recovery). not (is_level v)) s.level_is)

          -- y went on in that step
          stepped : z.turn.agreeing.promised ≡ q → z.turn.agreeing.recovery ≡ level → s.d.agreeing.version ≤ z.turn.agreeing.version → (mx.lead ≢ suc dx.agreeing.promised → dy.agreeing.version ≤ dx.agreeing.version → z.turn.agreeing.version ≡ s.d.agreeing.version) → Met n x y mx dx dy
          stepped e l v g =
              record {
                then = h.then;
                mx = s.m;
                dx = s.d;
                my = z.turn.memory;
                dy = disk_of sv kp z;
                x_is = h.y_is;
                y_is = h.x_is;
                x_level = s.level_is;
                y_level = l;
                ver_is = s.ver_is;
                far = v;
                low = s.low;
                own = s.own;
                prom_is = e;
                not_led = λ o. (s.free o).0;
                as_far = g;
                cost = omega (arith, h.cost, s.cost);
              }

          nearer : dy.agreeing.version < s.d.agreeing.version → Nearer x q X t (on_status x X (turn_of sv kp my dy)) → Met n x y mx dx dy
          nearer l (inl a) = let g = light_gone sv kp (on_status x X (turn_of sv kp my dy)) (begins sv kp my dy) a.light in
              stepped (g.prom_is ∙ a.prom_is) (g.rec_is ∙ a.rec_is ∙ vy) (omega (arith, g.ver_is, a.ver_is)) (λ _ _. g.ver_is ∙ a.ver_is)
          nearer l (inr a) =
              let b = step_to alone (ap (λ (u : Turn sv.Rest sv.Block O sv.A). on_turn sv kp goes_on (works sv kp (with_turn sv kp u (begins sv kp my dy)))) a) h in
              let c = recovers_left sv kp x q t (begins sv kp my dy) refl in
              let e = ends_level alone (swap alone p) b.then _ _ s.m s.d (resumes alone (swap alone p) s.then _ s.m s.d b q dy.agreeing.version 0 dy.kept unseen c s.level_is (omega (arith, l)) (omega arith)) in
              record {
                then = e.then;
                mx = s.m;
                dx = s.d;
                my = e.m;
                dy = e.d;
                x_is = e.s_is;
                y_is = e.c_is;
                x_level = s.level_is;
                y_level = e.level_is;
                ver_is = s.ver_is;
                far = omega (arith, e.ver_is);
                low = s.low;
                own = s.own;
                prom_is = e.prom_is ∙ c.prom_is;
                not_led = λ o. (s.free o).0;
                as_far = λ _ _. e.ver_is;
                cost = omega (arith, e.cost, h.cost, b.cost, s.cost);
              }

          by_ver : Dec (s.d.agreeing.version ≤ dy.agreeing.version) → Dec (s.d.agreeing.version ≡ dy.agreeing.version) → Met n x y mx dx dy
          by_ver (no a) b = nearer (omega (arith, a)) (subst (Nearer x q X t) (sym is) (hears_nearer x q X t (omega (arith, a))))
          by_ver (yes a) (yes b) =
              let e = subst (Evened q t) (sym is) (hears_evened x q X t refl (sym b)) in
              let g = light_gone sv kp (on_status x X (turn_of sv kp my dy)) (begins sv kp my dy) e.light in
              stepped (g.prom_is ∙ e.prom_is) (g.rec_is ∙ e.rec_is ∙ vy) (omega (arith, e.ver_is, g.ver_is, b))
              (λ o _. g.ver_is ∙ ap (λ (u : Turn sv.Rest sv.Block O sv.A). u.agreeing.version) is ∙ hears_same x q X t refl (sym b) (λ r. absurd (omega (arith, r, (s.free o).1))) ∙ sym b)
          by_ver (yes a) (no b) =
              let e = ap goes_on (is ∙ hears_behind x q X t (omega (arith, a, b))) in
              let c = tells_left x q t refl in
              stepped (ap (λ (u : Turn sv.Rest sv.Block O sv.A). u.agreeing.promised) (gone_is e) ∙ c.prom_is) (ap (λ (u : Turn sv.Rest sv.Block O sv.A). u.agreeing.recovery) (gone_is e) ∙ c.stands.rec_is ∙ vy)
              (omega (arith, a, ap (λ (u : Turn sv.Rest sv.Block O sv.A). u.agreeing.version) (gone_is e), c.stands.ver_is)) (λ _ l. absurd (omega (arith, l, a, b, s.ver_is)))
            where
              gone_is : goes_on (on_status x X (turn_of sv kp my dy)) ≡ goes_on (telling x q t) → z.turn ≡ goes_on (telling x q t)
              gone_is e = ap (λ (y : Wholes sv kp). y.turn) (told_is sv kp x X my dy (ap (λ (u : Turn sv.Rest sv.Block O sv.A). u.work) e ∙ (tells_left x q t refl).work_is)) ∙ e
