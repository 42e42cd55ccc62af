-- What a leader has heard is done: a proposal under way first, then one of all that it heard.
use Rattle.std.specs.Prelude.{◌≡◌, ℕ, suc, ◌+◌, ◌%◌, true, false, not}
use Rattle.std.proofs.Common.{◌<◌, ◌≤◌, ◌≢◌, ◌⊎◌, sym, refl, ap, ◌∙◌, subst, inl, inr, arith}
use mathlib.Core.List.{Memᴰ}
use Rattle.agreement.specs.Copies.{nothing, voted, rank}
use Rattle.compose.specs.Pure.{on}
use Rattle.copies.specs.Service.{Service, Keeper}
use Rattle.copies.specs.Messages.{Bundle, Command, Recovery, level, is_level, Agreeing, Status, Told}
use Rattle.copies.specs.Copy.{Memory, Turn, applied, is_nil, is_new, undone, applying, saying_to, noted, goes_on}
use Rattle.copies.specs.House.{Disks, Wholes, State, status_now, with_turn, does_work, works, begins, disk_of, got, ticked, command_done, on as on_turn}
use Rattle.replicated.proofs.Turns.{Reaches, Fills, pend_cases, keeps_goes, goes_fills}
use Rattle.replicated.proofs.Ticks.{Led, tick_led}
use Rattle.replicated.proofs.Heard.{hears_apply, hears_gain}
use Rattle.replicated.proofs.Parted.{turn_of}
use Rattle.replicated.proofs.New.{undone_none, undone_in, old_stays, command_new}
use Rattle.replicated.proofs.Now.{Alone, Now, Pair, Step, swap, tick_x, hear_x, Facts, facts, said}
use Rattle.replicated.proofs.Wins.{Leads}

module _ {O R : Type 0} (sv : Service O R) (kp : Keeper sv) where
  -- what is stored after a command is applied
  abbrev pub after_command : Command O → Disks sv kp → State sv kp
  after_command k d = command_done sv kp (suc d.agreeing.version) k (record { sessions = d.sessions; rest = d.rest; kept = d.kept })

  -- a proposal is followed
  pub record Applied (r p : ℕ) (d : Disks sv kp) (z : Wholes sv kp) : Type 0 where
    pub agreeing_is : z.turn.memory.lead ≢ suc p → z.turn.agreeing ≡ applied p p d.agreeing
    pub prom_is : z.turn.agreeing.promised ≡ p
    pub says : Reaches r z.turn.sends.status

  pub got_apply : (r : ℕ) (x : Status O) (m : Memory O) (d : Disks sv kp) (k : Command O) → m.me < 3 → r < 3 → r ≢ m.me → d.agreeing.recovery ≡ level → x.recovering ≡ false → d.agreeing.version ≡ x.version → d.agreeing.promised ≤ x.promised → x.promised % 3 ≡ r → x.proposal ≡ voted x.promised k →
      Applied r x.promised d (got sv kp r (Told x) (begins sv kp m d))
  unfolding does_work
  got_apply r x m d k l lr n v f e b o q =
      subst (λ (t : Turn sv.Rest sv.Block O sv.A). Applied r x.promised d (on_turn sv kp goes_on (works sv kp (with_turn sv kp t (begins sv kp m d))))) (sym (hears_apply r x (turn_of sv kp m d) k l lr n v f e b o q))
      (let g = keeps_goes (works sv kp (with_turn sv kp (applying x.promised x.promised k (saying_to r (noted r x (turn_of sv kp m d)))) (begins sv kp m d))).turn in
      record { agreeing_is = λ c. g.still (λ y. c (g.lead_is ∙ y)); prom_is = g.prom_is; says = g.says r refl })

  -- one's own proposal was followed
  pub record Gained (k : Command O) (m : Memory O) (d : Disks sv kp) (z : Wholes sv kp) (j : ℕ) : Type 0 where
    pub prom_is : z.turn.agreeing.promised ≡ d.agreeing.promised
    pub ver_is : z.turn.agreeing.version ≡ suc d.agreeing.version
    pub rec_is : z.turn.agreeing.recovery ≡ d.agreeing.recovery
    pub sessions_is : z.turn.sessions ≡ (after_command k d).sessions
    pub lead_is : z.turn.memory.lead ≡ m.lead
    pub heard : (b : Bundle O) → b.house ≢ m.me → Memᴰ b m.heard → Memᴰ b z.turn.memory.heard
    pub fills : Fills z.turn j

  pub got_gain : (r : ℕ) (x : Status O) (m : Memory O) (d : Disks sv kp) (b : ℕ) (k : Command O) → m.me < 3 → r < 3 → r ≢ m.me → d.agreeing.recovery ≡ level → x.recovering ≡ false → x.version ≡ suc d.agreeing.version → x.promised ≤ d.agreeing.promised → x.last ≤ b → d.agreeing.proposal ≡ voted b k → m.lead ≡ suc d.agreeing.promised →
      Gained k m d (got sv kp r (Told x) (begins sv kp m d)) r
  unfolding does_work
  got_gain r x m d b k l lr n v f e lp ll q le =
      subst (λ (t : Turn sv.Rest sv.Block O sv.A). Gained k m d (on_turn sv kp goes_on (works sv kp (with_turn sv kp t (begins sv kp m d)))) r) (sym (hears_gain r x (turn_of sv kp m d) b k l lr n v f e lp ll q))
      (let u = (works sv kp (with_turn sv kp (applying d.agreeing.promised x.last k (noted r x (turn_of sv kp m d))) (begins sv kp m d))).turn in
      let g = keeps_goes u in
      record { prom_is = g.prom_is; ver_is = g.ver_is; rec_is = g.rec_is; sessions_is = g.sessions_is; lead_is = g.lead_is; heard = g.heard; fills = goes_fills u r l (ap is_level v) le refl })

module _ {O R : Type 0} {sv : Service O R} {kp : Keeper sv} (alone : Alone sv kp) where
  -- x is with a proposal of all that it has heard and that isn't done, or there is none such
  abbrev pub FullOf : Memory O → Disks sv kp → Type 0
  FullOf m d = ((d.agreeing.proposal ≡ nothing) × (is_nil (undone m.heard d.sessions) ≡ true)) ⊎ (d.agreeing.proposal ≡ voted d.agreeing.promised (undone m.heard d.sessions))

  full_rank : (m : Memory O) (d : Disks sv kp) → FullOf m d → (rank d.agreeing.proposal ≡ 0) ⊎ (rank d.agreeing.proposal ≡ suc d.agreeing.promised)
  full_rank m d (inl e) = inl (ap rank e.0)
  full_rank m d (inr e) = inr (ap rank e)

  fills_full : (z : Wholes sv kp) (j : ℕ) → Fills z.turn j → FullOf z.turn.memory (disk_of sv kp z)
  fills_full z j f = elim f.is [ inl e ↦ inl e | inr e ↦ inr e.0 ]

  -- x's proposal is followed by y, and x hears of it
  record Next (n : Now alone) (x y : ℕ) (mx : Memory O) (dx : Disks sv kp) (k : Command O) : Type 0 where
    pub then : Now alone
    pub m : Memory O
    pub d : Disks sv kp
    pub leads : Leads alone then x y m d
    pub sessions_is : d.sessions ≡ (after_command sv kp k dx).sessions
    pub heard : (b : Bundle O) → b.house ≢ x → Memᴰ b mx.heard → Memᴰ b m.heard
    pub full : FullOf m d
    pub cost : then.steps ≡ 2 + n.steps

  round : {x y : ℕ} (p : Pair alone x y) (n : Now alone) (mx : Memory O) (dx : Disks sv kp) → Leads alone n x y mx dx → (k : Command O) → dx.agreeing.proposal ≡ voted dx.agreeing.promised k → Memᴰ (record { to = y; from = x; what = Told (status_now sv kp dx.agreeing) }) n.news → Next n x y mx dx k
  round {x} {y} p n mx dx a k e st = two (zy.turn.agreeing) refl
    where
      fx : Facts alone x mx dx
      fx = facts alone n x mx dx p.lx a.x_is

      fy : Facts alone y a.my a.dy
      fy = facts alone n y a.my a.dy p.ly a.y_is

      zy : Wholes sv kp
      zy = got sv kp x (Told (status_now sv kp dx.agreeing)) (begins sv kp a.my a.dy)

      h : Step alone n y x zy mx dx
      h = hear_x alone (swap alone p) n a.y_is a.x_is (Told (status_now sv kp dx.agreeing)) st

      t : Applied sv kp x dx.agreeing.promised a.dy zy
      t = got_apply sv kp x (status_now sv kp dx.agreeing) a.my a.dy k (omega (arith, p.ly, fy.me_is)) p.lx (λ g. p.ne (sym (g ∙ fy.me_is))) a.y_level (ap (λ (v : Recovery). not (is_level v)) a.x_level) a.vers (omega (arith, a.proms)) (fx.own a.leads) e

      g : Facts alone y zy.turn.memory (disk_of sv kp zy)
      g = facts alone h.then y zy.turn.memory (disk_of sv kp zy) p.ly h.x_is

      agreeing_is : zy.turn.agreeing ≡ applied dx.agreeing.promised dx.agreeing.promised a.dy.agreeing
      agreeing_is = t.agreeing_is (λ z. p.ne (sym (g.own (z ∙ ap suc (sym t.prom_is))) ∙ ap (λ j. j % 3) t.prom_is ∙ fx.own a.leads))

      zx : Status O → Wholes sv kp
      zx X = got sv kp y (Told X) (begins sv kp mx dx)

      two : (c : Agreeing O) → zy.turn.agreeing ≡ c → Next n x y mx dx k
      two c f = done (status_now sv kp c) refl (c_is.0) c_is.1 c_is.2 c_is.3 (subst (λ (b : Agreeing O). Memᴰ (record { to = x; from = y; what = Told (status_now sv kp b) }) h.then.news) f (said alone (swap alone p) h t.says))
        where
          c_is : (c.recovery ≡ level) × (c.version ≡ suc dx.agreeing.version) × (c.promised ≡ dx.agreeing.promised) × (c.last ≡ dx.agreeing.promised)
          c_is =
              let i = sym f ∙ agreeing_is in
              (ap (λ (b : Agreeing O). b.recovery) i ∙ a.y_level, ap (λ (b : Agreeing O). b.version) i ∙ ap suc a.vers, ap (λ (b : Agreeing O). b.promised) i, ap (λ (b : Agreeing O). b.last) i)

          done : (X : Status O) → X ≡ status_now sv kp c → c.recovery ≡ level → c.version ≡ suc dx.agreeing.version → c.promised ≡ dx.agreeing.promised → c.last ≡ dx.agreeing.promised → Memᴰ (record { to = x; from = y; what = Told X }) h.then.news → Next n x y mx dx k
          done X i cl cv cp ca m =
              record {
                then = s.then;
                m = (zx X).turn.memory;
                d = disk_of sv kp (zx X);
                leads = record { my = zy.turn.memory; dy = disk_of sv kp zy; x_is = s.x_is; y_is = s.y_is; x_level = q.rec_is ∙ a.x_level; y_level = ap (λ (b : Agreeing O). b.recovery) f ∙ cl; vers = omega (arith, ap (λ (b : Agreeing O). b.version) f, cv, q.ver_is); proms = ap (λ (b : Agreeing O). b.promised) f ∙ cp ∙ sym q.prom_is; leads = q.lead_is ∙ a.leads ∙ ap suc (sym q.prom_is); pend_is = full_rank (zx X).turn.memory (disk_of sv kp (zx X)) fu };
                sessions_is = q.sessions_is;
                heard = λ b o m. q.heard b (λ z. o (z ∙ fx.me_is)) m;
                full = fu;
                cost = omega (arith, s.cost, h.cost);
              }
            where
              s : Step alone h.then x y (zx X) zy.turn.memory (disk_of sv kp zy)
              s = hear_x alone p h.then h.y_is h.x_is (Told X) m

              q : Gained sv kp k mx dx (zx X) y
              q = got_gain sv kp y X mx dx dx.agreeing.promised k (omega (arith, p.lx, fx.me_is)) p.ly (λ z. p.ne (z ∙ fx.me_is)) a.x_level (ap (λ (Y : Status O). Y.recovering) i ∙ ap (λ (v : Recovery). not (is_level v)) cl) (ap (λ (Y : Status O). Y.version) i ∙ cv) (omega (arith, ap (λ (Y : Status O). Y.promised) i, cp)) (omega (arith, ap (λ (Y : Status O). Y.last) i, ca)) e a.leads

              fu : FullOf (zx X).turn.memory (disk_of sv kp (zx X))
              fu = fills_full (zx X) y q.fills

  -- x, which leads, ticks
  record Pulse (n : Now alone) (x y : ℕ) (mx : Memory O) (dx : Disks sv kp) : Type 0 where
    pub then : Now alone
    pub m : Memory O
    pub d : Disks sv kp
    pub leads : Leads alone then x y m d
    pub sessions_is : d.sessions ≡ dx.sessions
    pub heard : (b : Bundle O) → b.house ≢ x → Memᴰ b mx.heard → Memᴰ b m.heard
    pub more : (is_nil (undone m.heard d.sessions) ≡ true) ⊎ ((k : Command O) × (d.agreeing.proposal ≡ voted d.agreeing.promised k) × Memᴰ (record { to = y; from = x; what = Told (status_now sv kp d.agreeing) }) then.news)
    pub again : (k : Command O) → dx.agreeing.proposal ≡ voted dx.agreeing.promised k → (d.agreeing.proposal ≡ voted d.agreeing.promised k) × Memᴰ (record { to = y; from = x; what = Told (status_now sv kp d.agreeing) }) then.news
    pub cost : then.steps ≡ suc n.steps

  pulse : {x y : ℕ} (p : Pair alone x y) (n : Now alone) (mx : Memory O) (dx : Disks sv kp) → Leads alone n x y mx dx → Pulse n x y mx dx
  pulse {x} {y} p n mx dx a = go (pend_cases dx.agreeing.proposal dx.agreeing.promised a.pend_is)
    where
      fx : Facts alone x mx dx
      fx = facts alone n x mx dx p.lx a.x_is

      z : Wholes sv kp
      z = ticked sv kp (begins sv kp mx dx)

      s : Step alone n x y z a.my a.dy
      s = tick_x alone p n a.x_is a.y_is

      t : Led (turn_of sv kp mx dx) z.turn y
      t = tick_led (turn_of sv kp mx dx) y (omega (arith, p.lx, fx.me_is)) a.x_level a.leads

      st : Memᴰ (record { to = y; from = x; what = Told (status_now sv kp z.turn.agreeing) }) s.then.news
      st = said alone p s t.says

      leads_still : (rank z.turn.agreeing.proposal ≡ 0) ⊎ (rank z.turn.agreeing.proposal ≡ suc z.turn.agreeing.promised) → Leads alone s.then x y z.turn.memory (disk_of sv kp z)
      leads_still r = record { my = a.my; dy = a.dy; x_is = s.x_is; y_is = s.y_is; x_level = t.stands.rec_is ∙ a.x_level; y_level = a.y_level; vers = a.vers ∙ sym t.stands.ver_is; proms = a.proms ∙ sym t.prom_is; leads = t.stands.lead_is ∙ a.leads ∙ ap suc (sym t.prom_is); pend_is = r }

      go : (dx.agreeing.proposal ≡ nothing) ⊎ ((k : Command O) × (dx.agreeing.proposal ≡ voted dx.agreeing.promised k)) → Pulse n x y mx dx
      go (inl e) = let f = t.idle e in
          record {
            then = s.then;
            m = z.turn.memory;
            d = disk_of sv kp z;
            leads = leads_still (full_rank z.turn.memory (disk_of sv kp z) (fills_full z y f));
            sessions_is = t.stands.sessions_is;
            heard = λ b o m. t.stands.heard b (λ q. o (q ∙ fx.me_is)) m;
            more = elim f.is [ inl q ↦ inl q.1 | inr q ↦ inr (_, q.0, st) ];
            again = λ k g. absurd (let q : ◌≡◌ {A = ℕ} 0 (suc dx.agreeing.promised) = sym (ap rank e) ∙ ap rank g in omega arith);
            cost = s.cost;
          }
      go (inr e) =
          let f = t.busy (λ q. absurd (omega (arith, q, ap rank e.1))) in
          let pe = λ (k : Command O) (g : dx.agreeing.proposal ≡ voted dx.agreeing.promised k). subst (λ (c : Agreeing O). c.proposal ≡ voted c.promised k) (sym f) g in
          record {
            then = s.then;
            m = z.turn.memory;
            d = disk_of sv kp z;
            leads = leads_still (inr (ap rank (pe e.0 e.1)));
            sessions_is = t.stands.sessions_is;
            heard = λ b o m. t.stands.heard b (λ q. o (q ∙ fx.me_is)) m;
            more = inr (e.0, pe e.0 e.1, st);
            again = λ k g. (pe k g, st);
            cost = s.cost;
          }

  -- b is done at x
  pub record Finished (n : Now alone) (k x y : ℕ) (b : Bundle O) : Type 0 where
    pub then : Now alone
    pub m : Memory O
    pub d : Disks sv kp
    pub my : Memory O
    pub dy : Disks sv kp
    pub x_is : then.v.house x ≡ on m d
    pub y_is : then.v.house y ≡ on my dy
    pub old : is_new b d.sessions ≡ false
    pub cost : then.steps ≤ k + n.steps

  abbrev pub Has : Bundle O → Memory O → Disks sv kp → Type 0
  Has b m d = Memᴰ b m.heard ⊎ (is_new b d.sessions ≡ false)

  pub finishes : {x y : ℕ} (p : Pair alone x y) (b : Bundle O) → b.house ≢ x → (n : Now alone) (mx : Memory O) (dx : Disks sv kp) → Leads alone n x y mx dx → Has b mx dx → Finished n 6 x y b
  finishes {x} {y} p b o n mx dx a hb = one (pulse p n mx dx a)
    where
      idle : (k : Now alone) (m : Memory O) (d : Disks sv kp) → k.steps ≤ 6 + n.steps → Leads alone k x y m d → Has b m d → is_nil (undone m.heard d.sessions) ≡ true → Finished n 6 x y b
      idle k m d c l h e = record { then = k; m = m; d = d; my = l.my; dy = l.dy; x_is = l.x_is; y_is = l.y_is; old = elim h [ inl i ↦ undone_none b m.heard d.sessions i e | inr z ↦ z ]; cost = c }

      has_pulse : {k : Now alone} (m : Memory O) (d : Disks sv kp) → Has b m d → (q : Pulse k x y m d) → Has b q.m q.d
      has_pulse m d h q = elim h [ inl k ↦ inl (q.heard b o k) | inr z ↦ inr (ap (is_new b) q.sessions_is ∙ z) ]

      has_next : {i : Now alone} (m : Memory O) (d : Disks sv kp) (k : Command O) → Has b m d → (q : Next i x y m d k) → Has b q.m q.d
      has_next m d k h q = elim h [ inl j ↦ inl (q.heard b o j) | inr z ↦ inr (ap (is_new b) q.sessions_is ∙ old_stays sv kp _ k b _ z) ]

      fourth : (i : Now alone) (m : Memory O) (d : Disks sv kp) (q : Pulse i x y m d) → i.steps ≤ 3 + n.steps → Has b m d → Next q.then x y q.m q.d (undone m.heard d.sessions) → Finished n 6 x y b
      fourth i m d q c h r =
          record {
            then = r.then;
            m = r.m;
            d = r.d;
            my = r.leads.my;
            dy = r.leads.dy;
            x_is = r.leads.x_is;
            y_is = r.leads.y_is;
            old = ap (is_new b) r.sessions_is ∙ elim h [
              | inl j ↦ elim (undone_in b m.heard d.sessions j) [ inl z ↦ old_stays sv kp _ (undone m.heard d.sessions) b _ (ap (is_new b) q.sessions_is ∙ z) | inr z ↦ command_new sv kp _ (undone m.heard d.sessions) b _ z ]
              | inr z ↦ old_stays sv kp _ (undone m.heard d.sessions) b _ (ap (is_new b) q.sessions_is ∙ z)
            ];
            cost = omega (arith, r.cost, q.cost, c);
          }

      third : (i : Now alone) (m : Memory O) (d : Disks sv kp) → i.steps ≤ 3 + n.steps → Has b m d → (q : Pulse i x y m d) → d.agreeing.proposal ≡ voted d.agreeing.promised (undone m.heard d.sessions) → Finished n 6 x y b
      third i m d c h q e = let z = q.again _ e in fourth i m d q c h (round p q.then q.m q.d q.leads _ z.0 z.1)

      two : (i : Now alone) (m : Memory O) (d : Disks sv kp) (k : Command O) → i.steps ≤ 1 + n.steps → Has b m d → (q : Next i x y m d k) → Finished n 6 x y b
      two i m d k c h q = elim q.full [
        | inl e ↦ idle q.then q.m q.d (omega (arith, q.cost, c)) q.leads (has_next m d k h q) e.1
        | inr e ↦ third q.then q.m q.d (omega (arith, q.cost, c)) (has_next m d k h q) (pulse p q.then q.m q.d q.leads) e
      ]

      one : Pulse n x y mx dx → Finished n 6 x y b
      one q = elim q.more [
        | inl e ↦ idle q.then q.m q.d (omega (arith, q.cost)) q.leads (has_pulse mx dx hb q) e
        | inr e ↦ two q.then q.m q.d e.0 (omega (arith, q.cost)) (has_pulse mx dx hb q) (round p q.then q.m q.d q.leads e.0 e.1 e.2)
      ]
