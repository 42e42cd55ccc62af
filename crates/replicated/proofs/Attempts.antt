-- A bundle under way is done by two copies, and its house hears of it. The two become even, the house sends its bundle to one of them, that
-- one comes to lead and has it done; then the house sends it again, and is told the replies. Whenever it's over before, that's the end.
use Rattle.std.specs.Prelude.{◌≡◌, ℕ, suc, ◌+◌, ◌*◌, false, List, []}
use Rattle.std.proofs.Common.{◌<◌, ◌≤◌, ◌≢◌, ◌⊎◌, sym, refl, ap, ◌∙◌, subst, inl, inr, arith}
use mathlib.Core.List.{Memᴰ}
use native.Mathlib.Decide.{ℕ_discrete}
use Rattle.disks.specs.Cluster.{From, Tick, Seen, put}
use Rattle.compose.specs.Pure.{on, PureHelped, still, rising, doing, ticking}
use Rattle.copies.specs.Service.{Service, Keeper}
use Rattle.copies.specs.Messages.{Item, Bundle, Session, Agreeing, Bundled, Done}
use Rattle.copies.specs.Copy.{free, under, Memory, is_new}
use Rattle.copies.specs.House.{Disks, Wholes, posts, begins, disk_of, got, ticked, behaves, replicated}
use Rattle.replicated.proofs.Lists.{put_here, put_other}
use Rattle.replicated.proofs.Replay.{Above, Upto, Stems, replay_stems}
use Rattle.replicated.proofs.Good.{Ok, OkOn}
use Rattle.replicated.proofs.Posted.{Pos, post_bundle, post_reply}
use Rattle.replicated.proofs.Ticks.{Ticked, tick_any}
use Rattle.replicated.proofs.Parted.{turn_of}
use Rattle.replicated.proofs.Stage.{Stages, stage_does, stage_ticks, stage_done, Bundles, hears_bundle}
use Rattle.replicated.proofs.New.{above_false}
use Rattle.replicated.proofs.Now.{Wor, Sure, Alone, on_mem, on_disk, on_off, stands, packet_of, Now, Moved, ticks_on, hears_on, Pair, swap, Facts, facts}
use Rattle.replicated.proofs.Evens.{Even, Evens, evens}
use Rattle.replicated.proofs.Wins.{Calm, Won, wins}
use Rattle.replicated.proofs.Rounds.{Finished, finishes}

at_put : {A : Type 0} (i j : ℕ) (s : A) (hs : ℕ → A) → i ≡ j → put j s hs i ≡ s
at_put i j s hs e = subst (λ (k : ℕ). put j s hs k ≡ s) (sym e) (put_here j s hs)

not_above : (i c j d : ℕ) → (Above i c j d → ⊥) → Upto j d i c → (i ≡ j) × (c ≡ d)
not_above i c j d n (inl l) = absurd (n (inl l))
not_above i c j d n (inr l) = elim (ℕ_discrete c d) [ yes e ↦ (sym l.0, e) | no f ↦ absurd (n (inr (l.0, omega (arith, f, l.1)))) ]

upto_zero : (i c : ℕ) → Upto 0 0 i c
upto_zero i c = elim (ℕ_discrete i 0) [ yes e ↦ inr (sym e, omega arith) | no f ↦ inl (omega (arith, f)) ]

module _ {O R : Type 0} {sv : Service O R} {kp : Keeper sv} (alone : Alone sv kp) where
  abbrev Stays : Bundle O → List (Item O) → ℕ → Wor sv kp → Type 0
  Stays b ws i v = (m : Memory O) × (d : Disks sv kp) × (v.house i ≡ on m d) × Stages sv kp b ws m

  stage_run : (b : Bundle O) (ws : List (Item O)) (i : ℕ) {steps : ℕ} {gs fs : List (Seen O R)} {u v : Wor sv kp} → PureHelped (replicated sv kp alone.ok) alone.all alone.group steps gs u fs v → Stays b ws i u → Stays b ws i v
  stage_run b ws i still g = g
  stage_run b ws i (rising {v = v} j d k r o) g = let h = stage_run b ws i r g in elim (ℕ_discrete i j) [
    | yes e ↦ absurd (on_off sv kp (sym h.2 ∙ ap v.house e ∙ o))
    | no n ↦ (h.0, h.1, put_other j _ v.house i n ∙ h.2, h.3)
  ]
  stage_run b ws i (doing {v = v} j m d p news k l r o wi mp to) g = let h = stage_run b ws i r g in elim (ℕ_discrete i j) [
    | yes e ↦ ((behaves sv kp alone.ok (From p.from p.what) m d).mem, (behaves sv kp alone.ok (From p.from p.what) m d).stored, at_put i j (on (behaves sv kp alone.ok (From p.from p.what) m d).mem (behaves sv kp alone.ok (From p.from p.what) m d).stored) v.house e, stage_does sv kp b ws alone.ok p.from p.what m d (subst (Stages sv kp b ws) (on_mem sv kp (sym h.2 ∙ ap v.house e ∙ o)) h.3))
    | no n ↦ (h.0, h.1, put_other j _ v.house i n ∙ h.2, h.3)
  ]
  stage_run b ws i (ticking {v = v} j m d k r o) g = let h = stage_run b ws i r g in elim (ℕ_discrete i j) [
    | yes e ↦ ((behaves sv kp alone.ok Tick m d).mem, (behaves sv kp alone.ok Tick m d).stored, at_put i j (on (behaves sv kp alone.ok Tick m d).mem (behaves sv kp alone.ok Tick m d).stored) v.house e, stage_ticks sv kp b ws alone.ok m d (subst (Stages sv kp b ws) (on_mem sv kp (sym h.2 ∙ ap v.house e ∙ o)) h.3))
    | no n ↦ (h.0, h.1, put_other j _ v.house i n ∙ h.2, h.3)
  ]

  -- a house of the group with a bundle under way
  module _ (i : ℕ) (gi : Memᴰ i alone.group) (li : i < alone.all) (m0 : Memory O) (d0 : Disks sv kp) (b : Bundle O) (e0 : alone.w.house i ≡ on m0 d0) (w0 : m0.way ≡ under b) where
    pub record End (k : ℕ) : Type 0 where
      pub then : Now alone
      pub m : Memory O
      pub d : Disks sv kp
      pub is : then.v.house i ≡ on m d
      pub none : m.waiting ≡ []
      pub over : m0.waiting ≡ [] → m.way ≡ free
      pub cost : then.steps ≤ k

    at : (n : Now alone) → Stays b m0.waiting i n.v
    at n = stage_run b m0.waiting i n.run (m0, d0, e0, inl (w0, refl))

    ends_at : (k : ℕ) (n : Now alone) (m : Memory O) (d : Disks sv kp) → n.v.house i ≡ on m d → (m.waiting ≡ []) × (m0.waiting ≡ [] → m.way ≡ free) → n.steps ≤ k → End k
    ends_at k n m d e g c = record { then = n; m = m; d = d; is = e; none = g.0; over = g.1; cost = c }

    -- of a bundle under way
    record Mine (m : Memory O) : Type 0 where
      pub me_is : m.me ≡ i
      pub house_is : b.house ≡ i

    mine : (n : Now alone) (m : Memory O) (d : Disks sv kp) → n.v.house i ≡ on m d → m.way ≡ under b → Mine m
    mine n m d e q = let s = alone.sure n.fs n.v n.trace in go s (subst (Ok sv kp s.g s.asked s.made i) e (s.house i))
      where
        go : (s : Sure sv kp n.v) → OkOn sv kp s.g s.asked s.made i m d → Mine m
        go s o = record { me_is = o.me_is; house_is = (o.way_is b q).1 }

    abbrev SameNumber : Session sv.A → Type 0
    SameNumber s = (b.incarnation ≡ s.incarnation) × (b.counter ≡ s.counter)

    -- what a copy has of it, if it isn't new there, is its session
    same_session : (n : Now alone) (z : ℕ) → z < 3 → (m mz : Memory O) (d dz : Disks sv kp) → n.v.house i ≡ on m d → m.way ≡ under b → n.v.house z ≡ on mz dz → is_new b dz.sessions ≡ false → SameNumber (dz.sessions b.house)
    same_session n z lz m mz d dz e q ez old = let s = alone.sure n.fs n.v n.trace in go s (subst (Ok sv kp s.g s.asked s.made i) e (s.house i)) (subst (Ok sv kp s.g s.asked s.made z) ez (s.house z))
      where
        go : (s : Sure sv kp n.v) → OkOn sv kp s.g s.asked s.made i m d → OkOn sv kp s.g s.asked s.made z mz dz → SameNumber (dz.sessions b.house)
        go s o oz = by_stem (dz.sessions b.house) (subst (λ (h : ℕ). Stems sv s.made i (dz.sessions h)) (sym (o.way_is b q).1) (subst (λ (f : ℕ → Session sv.A). Stems sv s.made i (f i)) (sym (oz.copy_is lz).sessions_is) (replay_stems sv s.made (s.g.copy z).history (s.snaps z (s.g.copy z) (s.inv.cur z lz)).past i))) (above_false b.incarnation b.counter _ _ old)
          where
            by_stem : (y : Session sv.A) → Stems sv s.made i y → (Above b.incarnation b.counter y.incarnation y.counter → ⊥) → SameNumber y
            by_stem y (inl f) n = not_above b.incarnation b.counter y.incarnation y.counter n (subst (λ (x : Session sv.A). Upto x.incarnation x.counter b.incarnation b.counter) (sym f) (upto_zero b.incarnation b.counter))
            by_stem y (inr f) n =
                let a = o.way_is b q in
                not_above b.incarnation b.counter y.incarnation y.counter n (elim (o.made_low f.0 f.1 f.2) [ inl l ↦ inl (omega (arith, l, f.3, a.2)) | inr l ↦ inr (omega (arith, l.0, f.3, a.2), omega (arith, l.1, f.4, a.3)) ])

    -- i ticks, and z hears of the bundle, or it's over by then
    record Asked (n : Now alone) (z : ℕ) (mi : Memory O) (di : Disks sv kp) (mz : Memory O) (dz : Disks sv kp) : Type 0 where
      pub then : Now alone
      pub z_is : then.v.house z ≡ stands sv kp (got sv kp i (Bundled b) (begins sv kp mz dz))
      pub i_is : then.v.house i ≡ stands sv kp (ticked sv kp (begins sv kp mi di))
      pub there : (j : ℕ) → j ≢ i → j ≢ z → then.v.house j ≡ n.v.house j
      pub new : (q : Pos sv kp) → Memᴰ q (posts sv kp (got sv kp i (Bundled b) (begins sv kp mz dz))) → Memᴰ (packet_of sv kp z q) then.news
      pub cost : then.steps ≡ 2 + n.steps

    asks : (k : ℕ) (n : Now alone) (z : ℕ) → n.steps + 1 ≤ k → Memᴰ z alone.group → z < 3 → z ≢ i → (mi mz : Memory O) (di dz : Disks sv kp) → n.v.house i ≡ on mi di → n.v.house z ≡ on mz dz → Asked n z mi di mz dz ⊎ End k
    asks k n z c gz lz nz mi mz di dz ei ez = by_stage (at s.then)
      where
        zi : Wholes sv kp
        zi = ticked sv kp (begins sv kp mi di)

        s : Moved alone n i zi
        s = ticks_on alone n i mi di gi li ei

        by_stage : Stays b m0.waiting i s.then.v → Asked n z mi di mz dz ⊎ End k
        by_stage (m, d, e, inr g) = inr (ends_at k s.then m d e g (omega (arith, s.cost, c)))
        by_stage (m, d, e, inl g) =
            let f : m ≡ zi.turn.memory = on_mem sv kp (sym e ∙ s.here) in
            let o = mine s.then m d e g.0 in
            inl (hears (s.new _ (post_bundle sv kp zi z b (tick_any (turn_of sv kp mi di)).bundle (ap (λ (y : Memory O). y.way) (sym f) ∙ g.0) lz (λ y. nz (y ∙ ap (λ (x : Memory O). x.me) (sym f) ∙ o.me_is)))))
          where
            hears : Memᴰ (record { to = z; from = i; what = Bundled b }) s.then.news → Asked n z mi di mz dz
            hears k =
                let h = hears_on alone s.then z i (Bundled b) mz dz gz gi (omega (arith, lz, alone.three)) (s.there z nz ∙ ez) k in
                record { then = h.then; z_is = h.here; i_is = h.there i (λ e. nz (sym e)) ∙ s.here; there = λ j a c. h.there j c ∙ s.there j a; new = h.new; cost = omega (arith, h.cost, s.cost) }

    -- both are even, and z isn't i
    leads_to : {z u : ℕ} (p : Pair alone z u) → z ≢ i → (k : ℕ) (n : Now alone) → n.steps + 1 ≤ k → Even alone n z u → (mi : Memory O) (di : Disks sv kp) → n.v.house i ≡ on mi di → mi.way ≡ under b → Finished alone n 19 z u b ⊎ End k
    leads_to {z} {u} p nz k n c a mi di ei q = elim (asks k n z c p.gx p.lx nz mi a.mx di a.dx ei a.x_is) [ inl s ↦ inl (heard s) | inr e ↦ inr e ]
      where
        F : Type 0
        F = Finished alone n 19 z u b

        zz : Wholes sv kp
        zz = got sv kp i (Bundled b) (begins sv kp a.mx a.dx)

        g : Bundles b (turn_of sv kp a.mx a.dx) zz.turn
        g = hears_bundle b (turn_of sv kp a.mx a.dx) (omega (arith, p.lx, (facts alone n z a.mx a.dx p.lx a.x_is).me_is))

        same : zz.turn.agreeing ≡ a.dx.agreeing
        same = g.still a.x_not

        zi : Wholes sv kp
        zi = ticked sv kp (begins sv kp mi di)

        heard : Asked n z mi di a.mx a.dx → F
        heard s = won (wins alone p s.then zz.turn.memory (disk_of sv kp zz) (elim (ℕ_discrete u i) [ yes e ↦ here e | no e ↦ there e ]))
          where
            won : Won alone s.then 11 z u zz.turn.memory (disk_of sv kp zz) → F
            won y =
                let o = mine n mi di ei q in
                let f = finishes alone p b (λ e. nz (sym e ∙ o.house_is)) y.then y.m y.d y.leads (elim g.has [ inl k ↦ inl (y.heard b (λ e. nz (sym e ∙ o.house_is)) k) | inr k ↦ inr (ap (is_new b) y.sessions_is ∙ k) ]) in
                record { then = f.then; m = f.m; d = f.d; my = f.my; dy = f.dy; x_is = f.x_is; y_is = f.y_is; old = f.old; cost = omega (arith, f.cost, y.cost, s.cost) }

            there : u ≢ i → Calm alone s.then z u zz.turn.memory (disk_of sv kp zz)
            there e =
                record {
                  mu = a.my;
                  du = a.dy;
                  z_is = s.z_is;
                  u_is = s.there u e p.ne ∙ a.y_is;
                  z_level = ap (λ (c : Agreeing O). c.recovery) same ∙ a.x_level;
                  u_level = a.y_level;
                  vers = a.vers ∙ sym (ap (λ (c : Agreeing O). c.version) same);
                  proms = omega (arith, a.proms, ap (λ (c : Agreeing O). c.promised) same);
                  u_not = a.y_not;
                }

            here : u ≡ i → Calm alone s.then z u zz.turn.memory (disk_of sv kp zz)
            here e =
                record {
                  mu = zi.turn.memory;
                  du = disk_of sv kp zi;
                  z_is = s.z_is;
                  u_is = subst (λ (k : ℕ). s.then.v.house k ≡ stands sv kp zi) (sym e) s.i_is;
                  z_level = ap (λ (c : Agreeing O). c.recovery) same ∙ a.x_level;
                  u_level = t.stands.rec_is ∙ ap (λ (k : Disks sv kp). k.agreeing.recovery) ed ∙ a.y_level;
                  vers = t.stands.ver_is ∙ ap (λ (k : Disks sv kp). k.agreeing.version) ed ∙ a.vers ∙ sym (ap (λ (c : Agreeing O). c.version) same);
                  proms = omega (arith, ap (λ (c : Agreeing O). c.promised) same, a.proms, ap (λ (k : Disks sv kp). k.agreeing.promised) ed, t.low);
                  u_not = λ y. absurd (omega (arith, y, t.stands.lead_is, fi.low, nl, t.low));
                }
              where
                ue : n.v.house i ≡ on a.my a.dy
                ue = subst (λ (k : ℕ). n.v.house k ≡ on a.my a.dy) e a.y_is

                em : mi ≡ a.my
                em = on_mem sv kp (sym ei ∙ ue)

                ed : di ≡ a.dy
                ed = on_disk sv kp (sym ei ∙ ue)

                t : Ticked (turn_of sv kp mi di) zi.turn
                t = tick_any (turn_of sv kp mi di)

                fi : Facts alone i mi di
                fi = facts alone n i mi di (omega (arith, e, p.ly)) ei

                nl : mi.lead ≢ suc di.agreeing.promised
                nl x = a.y_not (ap (λ (k : Memory O). k.lead) (sym em) ∙ x ∙ ap (λ (k : Disks sv kp). suc k.agreeing.promised) ed)

    -- it is done at z, which says so
    told : (k : ℕ) (n : Now alone) (z u : ℕ) (p : Pair alone z u) → z ≢ i → n.steps + 22 ≤ k → Finished alone n 19 z u b → End k
    told k n z u p nz c f = one (at f.then)
      where
        s_of : Session sv.A
        s_of = f.d.sessions b.house

        last : (h : Now alone) → h.steps ≤ n.steps + 21 → Memᴰ (record { to = i; from = z; what = Done s_of }) h.news → SameNumber s_of → Stays b m0.waiting i h.v → End k
        last h l q e (m, d, ei, inr g) = ends_at k h m d ei g (omega (arith, l, c))
        last h l q e (m, d, ei, inl g) =
            let y = hears_on alone h i z (Done s_of) m d gi p.gx li ei q in
            ends_at k y.then _ _ y.here (stage_done sv kp b m0.waiting s_of (begins sv kp m d) z g.0 g.1 e.0 e.1) (omega (arith, y.cost, l, c))

        one : Stays b m0.waiting i f.then.v → End k
        one (m, d, ei, inr g) = ends_at k f.then m d ei g (omega (arith, f.cost, c))
        one (m, d, ei, inl g) = elim (asks k f.then z (omega (arith, f.cost, c)) p.gx p.lx nz m f.m d f.d ei f.x_is) [
          | inl s ↦
              let o = mine f.then m d ei g.0 in
              let fz = facts alone f.then z f.m f.d p.lx f.x_is in
              let r = hears_bundle b (turn_of sv kp f.m f.d) (omega (arith, p.lx, fz.me_is)) in
              let q = s.new _ (post_reply sv kp (got sv kp i (Bundled b) (begins sv kp f.m f.d)) b.house (r.replies f.old)) in
              last s.then (omega (arith, s.cost, f.cost)) (subst (λ (h : ℕ). Memᴰ (record { to = h; from = z; what = Done s_of }) s.then.news) o.house_is (subst (λ (y : ℕ → Session sv.A). Memᴰ (record { to = b.house; from = z; what = Done (y b.house) }) s.then.news) r.sessions_is q)) (same_session f.then z p.lx m f.m d f.d ei g.0 f.x_is f.old) (at s.then)
          | inr e ↦ e
        ]

    from_even : (k : ℕ) (x y : ℕ) (p : Pair alone x y) (n : Now alone) → n.steps + 22 ≤ k → Even alone n x y → Stays b m0.waiting i n.v → End k
    from_even k x y p n c a (m, d, ei, inr g) = ends_at k n m d ei g (omega (arith, c))
    from_even k x y p n c a (m, d, ei, inl g) = elim (ℕ_discrete x i) [
      | yes e ↦
          let a' : Even alone n y x = record { mx = a.my; dx = a.dy; my = a.mx; dy = a.dx; x_is = a.y_is; y_is = a.x_is; x_level = a.y_level; y_level = a.x_level; vers = sym a.vers; proms = sym a.proms; x_not = a.y_not; y_not = a.x_not } in
          by_lead y x (swap alone p) (λ f. p.ne (f ∙ sym e)) (leads_to (swap alone p) (λ f. p.ne (f ∙ sym e)) k n (omega (arith, c)) a' m d ei g.0)
      | no e ↦ by_lead x y p e (leads_to p e k n (omega (arith, c)) a m d ei g.0)
    ]
      where
        by_lead : (z u : ℕ) (r : Pair alone z u) → z ≢ i → Finished alone n 19 z u b ⊎ End k → End k
        by_lead z u r nz (inl f) = told k n z u r nz c f
        by_lead z u r nz (inr e) = e

    pub attempt : (x y : ℕ) (p : Pair alone x y) (n : Now alone) (mx my : Memory O) (dx dy : Disks sv kp) → n.v.house x ≡ on mx dx → n.v.house y ≡ on my dy → End (24 * alone.keeps.most + 64 + n.steps)
    attempt x y p n mx my dx dy ex ey = go (evens alone p n mx dx my dy ex ey)
      where
        go : Evens alone n (24 * alone.keeps.most + 42) x y → End (24 * alone.keeps.most + 64 + n.steps)
        go e = from_even (24 * alone.keeps.most + 64 + n.steps) x y p e.then (omega (arith, e.cost)) e.even (at e.then)
