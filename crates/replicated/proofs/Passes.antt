-- A copy that recovers catches up with one that is level. While only these two act, all parts are of one version. A part is taken, and then
-- less is left; or there was no place for it, and it begins again from nothing. At the end of a pass whose parts were all of one version the
-- copy is level. So the pass under way ends; the next is of one version; and if that finds no place, one from nothing does.
use Rattle.std.specs.Prelude.{◌≡◌, ℕ, zero, suc, ◌+◌, ◌*◌, not, Option, Some, None}
use Rattle.std.proofs.Common.{◌<◌, ◌≤◌, ◌⊎◌, sym, refl, ap, ◌∙◌, subst, inl, inr, arith}
use mathlib.Core.List.{Memᴰ}
use Rattle.compose.specs.Pure.{on}
use Rattle.copies.specs.Service.{Service, Keeper}
use Rattle.copies.specs.Messages.{Recovery, level, recovers, is_level, Agreeing, Status, Want, Tail, more, ends, next_key, Told, Asked, Given}
use Rattle.copies.specs.Copy.{Memory, Span, unseen, from_to, widened, on_status, goes_on}
use Rattle.copies.specs.House.{Disks, Wholes, Parts, status_now, want_of, part_of, with_turn, begins, disk_of, got, ticked}
use Rattle.replicated.proofs.Ticks.{tick_stirs}
use Rattle.replicated.proofs.Heard.{tells_is_left, asks_left}
use Rattle.replicated.proofs.Parted.{Same, turn_of, told_is, Resumed, Parted, Tails, got_part, serving, got_want, Portioned, portioned}
use Rattle.replicated.proofs.Now.{Alone, stands, Now, Pair, Step, swap, tick_x, hear_x, step_to, facts, said, asked_for, gave}

same_widened : (v : ℕ) (c : Span) → Same v c → Same v (widened v c)
same_widened v unseen s = (refl, refl)
same_widened v (from_to l h) s = (omega (arith, s), omega (arith, s))

module _ {O R : Type 0} {sv : Service O R} {kp : Keeper sv} (alone : Alone sv kp) where
  -- c, which recovers, asks s, which is level and no less far
  pub record Wanting (n : Now alone) (c s : ℕ) (mc : Memory O) (dc : Disks sv kp) (ms : Memory O) (ds : Disks sv kp) : Type 0 where
    pub base : ℕ
    pub top : ℕ
    pub c_is : n.v.house c ≡ on mc dc
    pub s_is : n.v.house s ≡ on ms ds
    pub rec_is : dc.agreeing.recovery ≡ recovers base top
    pub s_level : ds.agreeing.recovery ≡ level
    pub asks : Memᴰ (record { to = s; from = c; what = Asked (want_of sv kp base top mc.pass.key) }) n.news
    pub vers : dc.agreeing.version ≤ ds.agreeing.version
    pub proms : ds.agreeing.promised ≤ dc.agreeing.promised

  -- c is level, and as far as s
  pub record Ended (n : Now alone) (k c s : ℕ) (dc : Disks sv kp) (ms : Memory O) (ds : Disks sv kp) : Type 0 where
    pub then : Now alone
    pub m : Memory O
    pub d : Disks sv kp
    pub c_is : then.v.house c ≡ on m d
    pub s_is : then.v.house s ≡ on ms ds
    pub level_is : d.agreeing.recovery ≡ level
    pub ver_is : d.agreeing.version ≡ ds.agreeing.version
    pub prom_is : d.agreeing.promised ≡ dc.agreeing.promised
    pub cost : then.steps ≤ k + n.steps

  -- a pass begins
  pub record Again (n : Now alone) (k c s : ℕ) (mc : Memory O) (dc : Disks sv kp) (ms : Memory O) (ds : Disks sv kp) : Type 0 where
    pub then : Now alone
    pub m : Memory O
    pub d : Disks sv kp
    pub wanting : Wanting then c s m d ms ds
    pub span_is : m.pass.span ≡ unseen
    pub ver_is : d.agreeing.version ≡ dc.agreeing.version
    pub prom_is : d.agreeing.promised ≡ dc.agreeing.promised
    -- parts of one version found no place
    pub none : Same ds.agreeing.version mc.pass.span → d.kept ≡ kp.none
    pub unfit : Same ds.agreeing.version mc.pass.span → alone.keeps.Fit ds.rest ds.kept dc.kept → ⊥
    pub cost : then.steps ≤ k + n.steps

  pub resumes : {c s : ℕ} (p : Pair alone c s) (n : Now alone) (z : Wholes sv kp) (ms : Memory O) (ds : Disks sv kp) (st : Step alone n c s z ms ds) (q v key : ℕ) (k : kp.Kept) (span : Span) → Resumed sv kp s q v k key span z → ds.agreeing.recovery ≡ level → v ≤ ds.agreeing.version → ds.agreeing.promised ≤ q →
      Wanting st.then c s z.turn.memory (disk_of sv kp z) ms ds
  resumes p n z ms ds st q v key k span r l a b =
      record { base = r.base; top = r.top; c_is = st.x_is; s_is = st.y_is; rec_is = r.rec_is; s_level = l; asks = asked_for alone p st r.base r.top r.wants r.rec_is; vers = omega (arith, a, r.ver_is); proms = omega (arith, b, r.prom_is) }

  -- a part comes
  record Came (n : Now alone) (c s : ℕ) (mc : Memory O) (dc : Disks sv kp) (ms : Memory O) (ds : Disks sv kp) (q : Want) : Type 0 where
    pub from : Now alone
    pub x : Parts sv kp
    pub is : Portioned sv kp q ds x
    pub step : Step alone from c s (got sv kp s (Given x) (begins sv kp mc dc)) ms ds
    pub cost : step.then.steps ≡ 2 + n.steps
    pub part : (o : Option kp.Kept) → kp.take dc.rest x.whole x.asked.key (next_key x.tail) x.floor x.blocks dc.kept ≡ o → Parted sv kp s dc.agreeing.promised dc.agreeing.version x mc.pass o (got sv kp s (Given x) (begins sv kp mc dc))

  comes : {c s : ℕ} (p : Pair alone c s) (n : Now alone) (mc : Memory O) (dc : Disks sv kp) (ms : Memory O) (ds : Disks sv kp) (a : Wanting n c s mc dc ms ds) → Came n c s mc dc ms ds (want_of sv kp a.base a.top mc.pass.key)
  comes {c} {s} p n mc dc ms ds a =
      let fc = facts alone n c mc dc p.lx a.c_is in
      let fs = facts alone n s ms ds p.ly a.s_is in
      let q = want_of sv kp a.base a.top mc.pass.key in
      let i = portioned sv kp c q ms ds in
      let t = step_to alone (got_want sv kp c q ms ds (omega (arith, p.ly, fs.me_is)) a.s_level) (hear_x alone (swap alone p) n a.s_is a.c_is (Asked q) a.asks) in
      let g = gave alone (swap alone p) t (record { to = c; want = q }) (serves q) in
      let u = hear_x alone p t.then t.y_is (t.x_is ∙ same q) (Given (part_of sv kp q (serving sv kp c q ms ds))) g in
      record {
        from = t.then;
        x = part_of sv kp q (serving sv kp c q ms ds);
        is = i;
        step = u;
        cost = omega (arith, u.cost, t.cost);
        part = λ o e. got_part sv kp s _ mc dc a.base a.top (omega (arith, p.lx, fc.me_is)) a.rec_is i.asked_is (omega (arith, i.ver_is, a.vers)) (omega (arith, i.prom_is, a.proms)) o e;
      }
    where
      serves : (q : Want) → (serving sv kp c q ms ds).turn.sends.serves ≡ Some (record { to = c; want = q })
      serves q = refl

      same : (q : Want) → stands sv kp (serving sv kp c q ms ds) ≡ on ms ds
      same q = refl

  same_take : (q : Want) (ds : Disks sv kp) (x : Parts sv kp) (i : Portioned sv kp q ds x) (r : sv.Rest) (t : kp.Kept) →
      kp.take r x.whole x.asked.key (next_key x.tail) x.floor x.blocks t ≡ kp.take r i.whole q.key (kp.portion ds.rest i.whole q.base q.key ds.kept).next (kp.floor ds.kept) (kp.portion ds.rest i.whole q.base q.key ds.kept).blocks t
  same_take q ds x i r t = let a = i.asked_is in let b = i.whole_is in let c = i.floor_is in let d = i.blocks_is in let e = i.next_is in cc

  -- how many parts may come yet, and what a pass leads to
  abbrev After : (n : Now alone) (k c s : ℕ) (mc : Memory O) (dc : Disks sv kp) (ms : Memory O) (ds : Disks sv kp) → Type 0
  After n k c s mc dc ms ds = Ended n k c s dc ms ds ⊎ Again n k c s mc dc ms ds

  part_of_pass : (k : ℕ) {c s : ℕ} (p : Pair alone c s) (n : Now alone) (mc : Memory O) (dc : Disks sv kp) (ms : Memory O) (ds : Disks sv kp) → Wanting n c s mc dc ms ds → alone.keeps.left ds.kept mc.pass.key ≤ k →
      ((i : ℕ) → k ≡ suc i → (m : Now alone) (m' : Memory O) (d' : Disks sv kp) → Wanting m c s m' d' ms ds → alone.keeps.left ds.kept m'.pass.key ≤ i → After m (2 * i + 2) c s m' d' ms ds) → After n (2 * k + 2) c s mc dc ms ds
  part_of_pass k {c} {s} p n mc dc ms ds a l rec = go (comes p n mc dc ms ds a)
    where
      q : Want
      q = want_of sv kp a.base a.top mc.pass.key

      -- a part is taken, and there is more
      more_left : (y : Came n c s mc dc ms ds q) (t : kp.Kept) (next : ℕ) → kp.take dc.rest y.x.whole y.x.asked.key (next_key y.x.tail) y.x.floor y.x.blocks dc.kept ≡ Some t → next_key y.x.tail ≡ Some next → Resumed sv kp s dc.agreeing.promised dc.agreeing.version t next (widened y.x.version mc.pass.span) (got sv kp s (Given y.x) (begins sv kp mc dc)) → After n (2 * k + 2) c s mc dc ms ds
      more_left y t next e f r = at k refl
        where
          z : Wholes sv kp
          z = got sv kp s (Given y.x) (begins sv kp mc dc)

          falls : alone.keeps.left ds.kept next < alone.keeps.left ds.kept mc.pass.key
          falls = alone.keeps.left_falls ds.rest y.is.whole a.base mc.pass.key next ds.kept (sym y.is.next_is ∙ f)

          wants : Wanting y.step.then c s z.turn.memory (disk_of sv kp z) ms ds
          wants = resumes p y.from z ms ds y.step dc.agreeing.promised dc.agreeing.version next t (widened y.x.version mc.pass.span) r a.s_level a.vers a.proms

          -- what was of one version is so still
          same_on : Same ds.agreeing.version mc.pass.span → Same ds.agreeing.version z.turn.memory.pass.span
          same_on g = subst (Same ds.agreeing.version) (sym r.span_is) (subst (λ (v : ℕ). Same ds.agreeing.version (widened v mc.pass.span)) (sym y.is.ver_is) (same_widened ds.agreeing.version mc.pass.span g))

          fit_on : alone.keeps.Fit ds.rest ds.kept dc.kept → alone.keeps.Fit ds.rest ds.kept z.kept
          fit_on g =
              let b = alone.keeps.fit_take ds.rest dc.rest y.is.whole a.base mc.pass.key ds.kept dc.kept g in
              let h : ◌≡◌ {A = Option kp.Kept} (Some b.0) (Some t) = sym b.1 ∙ sym (same_take q ds y.x y.is dc.rest dc.kept) ∙ e in
              let i : b.0 ≡ t = cc in
              subst (alone.keeps.Fit ds.rest ds.kept) (i ∙ sym r.kept_is) b.2

          at : (j : ℕ) → k ≡ j → After n (2 * k + 2) c s mc dc ms ds
          at zero h = absurd (omega (arith, falls, h, l))
          at (suc i) h = elim (rec i h y.step.then z.turn.memory (disk_of sv kp z) wants (omega (arith, falls, h, l, ap (alone.keeps.left ds.kept) r.key_is))) [
            | inl b ↦ inl (record { then = b.then; m = b.m; d = b.d; c_is = b.c_is; s_is = b.s_is; level_is = b.level_is; ver_is = b.ver_is; prom_is = b.prom_is ∙ r.prom_is; cost = omega (arith, h, b.cost, y.cost) })
            | inr b ↦ inr (record { then = b.then; m = b.m; d = b.d; wanting = b.wanting; span_is = b.span_is; ver_is = b.ver_is ∙ r.ver_is; prom_is = b.prom_is ∙ r.prom_is; none = λ g. b.none (same_on g); unfit = λ g f. b.unfit (same_on g) (fit_on f); cost = omega (arith, h, b.cost, y.cost) })
          ]

      -- a pass begins
      anew : (y : Came n c s mc dc ms ds q) (t : kp.Kept) → Resumed sv kp s dc.agreeing.promised dc.agreeing.version t 0 unseen (got sv kp s (Given y.x) (begins sv kp mc dc)) → (Same ds.agreeing.version mc.pass.span → t ≡ kp.none) → (Same ds.agreeing.version mc.pass.span → alone.keeps.Fit ds.rest ds.kept dc.kept → ⊥) → After n (2 * k + 2) c s mc dc ms ds
      anew y t r f g = inr (record { then = y.step.then; m = (got sv kp s (Given y.x) (begins sv kp mc dc)).turn.memory; d = disk_of sv kp (got sv kp s (Given y.x) (begins sv kp mc dc)); wanting = resumes p y.from _ ms ds y.step dc.agreeing.promised dc.agreeing.version 0 t unseen r a.s_level a.vers a.proms; span_is = r.span_is; ver_is = r.ver_is; prom_is = r.prom_is; none = λ h. r.kept_is ∙ f h; unfit = g; cost = omega (arith, y.cost) })

      go : Came n c s mc dc ms ds q → After n (2 * k + 2) c s mc dc ms ds
      go y = by_take (kp.take dc.rest y.x.whole y.x.asked.key (next_key y.x.tail) y.x.floor y.x.blocks dc.kept) refl
        where
          z : Wholes sv kp
          z = got sv kp s (Given y.x) (begins sv kp mc dc)

          by_tail : (t : kp.Kept) → kp.take dc.rest y.x.whole y.x.asked.key (next_key y.x.tail) y.x.floor y.x.blocks dc.kept ≡ Some t → (u : Tail sv.Rest sv.A) → y.x.tail ≡ u → Tails sv kp s dc.agreeing.promised dc.agreeing.version y.x mc.pass t u z → After n (2 * k + 2) c s mc dc ms ds
          by_tail t e (more next) f r = more_left y t next e (ap next_key f) r
          by_tail t e (ends rest done) f (inl r) = inl (record { then = y.step.then; m = z.turn.memory; d = disk_of sv kp z; c_is = y.step.x_is; s_is = y.step.y_is; level_is = r.rec_is; ver_is = r.ver_is ∙ y.is.ver_is; prom_is = r.prom_is; cost = omega (arith, y.cost) })
          by_tail t e (ends rest done) f (inr r) = anew y t r.0 (λ g. absurd (r.1 (subst (λ (v : ℕ). Same v mc.pass.span) (sym y.is.ver_is) g))) (λ g _. r.1 (subst (λ (v : ℕ). Same v mc.pass.span) (sym y.is.ver_is) g))

          by_take : (o : Option kp.Kept) → kp.take dc.rest y.x.whole y.x.asked.key (next_key y.x.tail) y.x.floor y.x.blocks dc.kept ≡ o → After n (2 * k + 2) c s mc dc ms ds
          by_take None e = anew y kp.none (y.part None e) (λ _. refl) (λ _ f.
              let b = alone.keeps.fit_take ds.rest dc.rest y.is.whole a.base mc.pass.key ds.kept dc.kept f in
              let h : ◌≡◌ {A = Option kp.Kept} (Some b.0) None = sym b.1 ∙ sym (same_take q ds y.x y.is dc.rest dc.kept) ∙ e in
              let i : ◌≡◌ {A = ℕ} 0 1 = cc in omega arith)
          by_take (Some t) e = by_tail t e y.x.tail refl (y.part (Some t) e)

  pass : (k : ℕ) {c s : ℕ} (p : Pair alone c s) (n : Now alone) (mc : Memory O) (dc : Disks sv kp) (ms : Memory O) (ds : Disks sv kp) → Wanting n c s mc dc ms ds → alone.keeps.left ds.kept mc.pass.key ≤ k → After n (2 * k + 2) c s mc dc ms ds
  pass zero p n mc dc ms ds a l = part_of_pass zero p n mc dc ms ds a l (λ i e m m' d' b h. absurd (omega (arith, e)))
  pass (suc k) {c} {s} p n mc dc ms ds a l =
      part_of_pass (suc k) p n mc dc ms ds a l (λ i e m m' d' b h. let f : k ≡ i = omega (arith, e) in subst (λ (j : ℕ). After m (2 * j + 2) c s m' d' ms ds) f (pass k p m m' d' ms ds b (omega (arith, f, h))))

  -- after three passes at most, c is level
  pub ends_level : {c s : ℕ} (p : Pair alone c s) (n : Now alone) (mc : Memory O) (dc : Disks sv kp) (ms : Memory O) (ds : Disks sv kp) → Wanting n c s mc dc ms ds → Ended n (6 * alone.keeps.most + 6) c s dc ms ds
  ends_level {c} {s} p n mc dc ms ds a = first (pass alone.keeps.most p n mc dc ms ds a (alone.keeps.left_most ds.kept mc.pass.key))
    where
      wait : (k j : ℕ) (y : Again n k c s mc dc ms ds) → k + j ≤ 6 * alone.keeps.most + 6 → Ended y.then j c s y.d ms ds → Ended n (6 * alone.keeps.most + 6) c s dc ms ds
      wait k j y l e = record { then = e.then; m = e.m; d = e.d; c_is = e.c_is; s_is = e.s_is; level_is = e.level_is; ver_is = e.ver_is; prom_is = e.prom_is ∙ y.prom_is; cost = omega (arith, e.cost, y.cost, l) }

      third : (y : Again n (2 * alone.keeps.most + 2) c s mc dc ms ds) (x : Again y.then (2 * alone.keeps.most + 2) c s y.m y.d ms ds) → After x.then (2 * alone.keeps.most + 2) c s x.m x.d ms ds → Ended y.then (4 * alone.keeps.most + 4) c s y.d ms ds
      third y x (inl e) = record { then = e.then; m = e.m; d = e.d; c_is = e.c_is; s_is = e.s_is; level_is = e.level_is; ver_is = e.ver_is; prom_is = e.prom_is ∙ x.prom_is; cost = omega (arith, e.cost, x.cost) }
      third y x (inr b) =
          absurd (b.unfit (unseen_same x.span_is) (subst (alone.keeps.Fit ds.rest ds.kept) (sym (x.none (unseen_same y.span_is))) (alone.keeps.fit_none ds.rest ds.kept)))
        where
          unseen_same : {c : Span} → c ≡ unseen → Same ds.agreeing.version c
          unseen_same e = subst (Same ds.agreeing.version) (sym e) tt

      second : (y : Again n (2 * alone.keeps.most + 2) c s mc dc ms ds) → After y.then (2 * alone.keeps.most + 2) c s y.m y.d ms ds → Ended y.then (4 * alone.keeps.most + 4) c s y.d ms ds
      second y (inl e) = record { then = e.then; m = e.m; d = e.d; c_is = e.c_is; s_is = e.s_is; level_is = e.level_is; ver_is = e.ver_is; prom_is = e.prom_is; cost = omega (arith, e.cost) }
      second y (inr x) = third y x (pass alone.keeps.most p x.then x.m x.d ms ds x.wanting (alone.keeps.left_most ds.kept x.m.pass.key))

      first : After n (2 * alone.keeps.most + 2) c s mc dc ms ds → Ended n (6 * alone.keeps.most + 6) c s dc ms ds
      first (inl e) = record { then = e.then; m = e.m; d = e.d; c_is = e.c_is; s_is = e.s_is; level_is = e.level_is; ver_is = e.ver_is; prom_is = e.prom_is; cost = omega (arith, e.cost) }
      first (inr y) = wait (2 * alone.keeps.most + 2) (4 * alone.keeps.most + 4) y (omega arith) (second y (pass alone.keeps.most p y.then y.m y.d ms ds y.wanting (alone.keeps.left_most ds.kept y.m.pass.key)))

  -- a copy that recovers, with one that is level and no less far
  pub record Both (n : Now alone) (k x y : ℕ) : Type 0 where
    pub then : Now alone
    pub mx : Memory O
    pub dx : Disks sv kp
    pub my : Memory O
    pub dy : Disks sv kp
    pub x_is : then.v.house x ≡ on mx dx
    pub y_is : then.v.house y ≡ on my dy
    pub x_level : dx.agreeing.recovery ≡ level
    pub y_level : dy.agreeing.recovery ≡ level
    pub cost : then.steps ≤ k + n.steps

  pub catches : {c s : ℕ} (p : Pair alone c s) (n : Now alone) (mc : Memory O) (dc : Disks sv kp) (ms : Memory O) (ds : Disks sv kp) → n.v.house c ≡ on mc dc → n.v.house s ≡ on ms ds → (a b : ℕ) → dc.agreeing.recovery ≡ recovers a b → ds.agreeing.recovery ≡ level → dc.agreeing.version ≤ ds.agreeing.version → Both n (6 * alone.keeps.most + 9) c s
  catches {c} {s} p n mc dc ms ds ec es' a b v l h =
      let fc = facts alone n c mc dc p.lx ec in
      let fs = facts alone n s ms ds p.ly es' in
      let t = tick_stirs (turn_of sv kp mc dc) a b (omega (arith, p.lx, fc.me_is)) v in
      let st = tick_x alone p n ec es' in
      let X : Status O = status_now sv kp (ticked sv kp (begins sv kp mc dc)).turn.agreeing in
      let k = said alone p st (t.says s) in
      let tv = ap (λ (z : Agreeing O). z.recovery) t.agreeing_is in
      let u = tells_is_left c X (turn_of sv kp ms ds) (omega (arith, p.ly, fs.me_is)) p.lx (λ e. p.ne (sym (e ∙ fs.me_is))) l (ap (λ (z : Recovery). not (is_level z)) (tv ∙ v)) refl in
      let su = step_to alone (told_is sv kp c X ms ds u.work_is) (hear_x alone (swap alone p) st.then st.y_is st.x_is (Told X) k) in
      let told_back = said alone (swap alone p) su u.says in
      let zs = with_turn sv kp (goes_on (on_status c X (turn_of sv kp ms ds))) (begins sv kp ms ds) in
      let zc = ticked sv kp (begins sv kp mc dc) in
      let Y : Status O = status_now sv kp zs.turn.agreeing in
      let f2 = facts alone su.then c zc.turn.memory (disk_of sv kp zc) p.lx su.y_is in
      let i = asks_left s Y (turn_of sv kp zc.turn.memory (disk_of sv kp zc)) a b (omega (arith, p.lx, f2.me_is)) p.ly (λ e. p.ne (e ∙ f2.me_is)) (tv ∙ v) (ap (λ (z : Recovery). not (is_level z)) (u.stands.rec_is ∙ l)) (omega (arith, ap (λ (z : Agreeing O). z.version) t.agreeing_is, u.stands.ver_is, h)) t.asked in
      let si = step_to alone (told_is sv kp s Y zc.turn.memory (disk_of sv kp zc) i.work_is) (hear_x alone p su.then su.y_is su.x_is (Told Y) told_back) in
      let zi = with_turn sv kp (goes_on (on_status s Y (turn_of sv kp zc.turn.memory (disk_of sv kp zc)))) (begins sv kp zc.turn.memory (disk_of sv kp zc)) in
      let iv = ap (λ (z : Agreeing O). z.recovery) i.agreeing_is ∙ tv ∙ v in
      let e = ends_level p si.then zi.turn.memory (disk_of sv kp zi) zs.turn.memory (disk_of sv kp zs) (record {
        base = a;
        top = b;
        c_is = si.x_is;
        s_is = si.y_is;
        rec_is = iv;
        s_level = u.stands.rec_is ∙ l;
        asks = asked_for alone p si a b i.wants iv;
        vers = omega (arith, ap (λ (z : Agreeing O). z.version) i.agreeing_is, ap (λ (z : Agreeing O). z.version) t.agreeing_is, u.stands.ver_is, h);
        proms = omega (arith, ap (λ (z : Agreeing O). z.promised) i.agreeing_is);
      }) in
      record { then = e.then; mx = e.m; dx = e.d; my = zs.turn.memory; dy = disk_of sv kp zs; x_is = e.c_is; y_is = e.s_is; x_level = e.level_is; y_level = u.stands.rec_is ∙ l; cost = omega (arith, e.cost, si.cost, su.cost, st.cost) }
