-- Runs with help from a world, step by step, and what each step leaves.
use Rattle.std.specs.Prelude.{◌≡◌, ℕ, zero, suc, ◌%◌, true, List, [], ◌∷◌, ◌++◌, Some}
use Rattle.std.proofs.Common.{◌<◌, ◌≤◌, ◌≢◌, sym, refl, ap, ◌∙◌, subst, inl, inr, arith}
use mathlib.Core.List.Memᴰ
use mathlib.Core.List.{Memᴰ}
use Rattle.agreement.specs.Copies
use Rattle.agreement.specs.Copies.{Proposal, nothing, voted, rank, Copy}
use Rattle.agreement.proofs.Base.{Snap}
use Rattle.agreement.proofs.Inv.{Inv}
use Rattle.disks.specs.Cluster.{In, From, Tick, Out, Tell, Seen, Packet, packets}
use Rattle.compose.specs.Pure.{Stand, off, on, World, Trace, does, ticks, after, PureHelped, doing, ticking}
use Rattle.copies.specs.Service.{Service, Keeper, Keeps}
use Rattle.copies.specs.Messages.{Bundle, Command, Reply, recovers, Told, Asked, Given}
use Rattle.copies.specs.Copy.{Memory, Serve}
use Rattle.copies.specs.House.{Disks, Wholes, Messages, Ended, status_now, want_of, part_of, posts, posted, outs, begins, disk_of, finishes, got, ticked, acts, Guard, behaves, replicated}
use Rattle.replicated.proofs.Lists.{put_here, put_other, Homed}
use Rattle.replicated.proofs.Good.{Ok, OkOn, Inside}
use Rattle.replicated.proofs.Turns.{Reaches}
use Rattle.replicated.proofs.Posted.{Pos, post_status, post_want, post_part}

join_join : {A : Type 0} (a b c : List A) → (a ++ b) ++ c ≡ a ++ (b ++ c)
join_join [] b c = refl
join_join (x ∷ a) b c = ap (λ l. x ∷ l) (join_join a b c)

module _ {O R : Type 0} (sv : Service O R) (kp : Keeper sv) where
  abbrev pub Wor : Type 0
  Wor = World (Memory O) (Disks sv kp) (Messages sv kp)

  -- what is so of houses in any world that can be reached
  pub record Sure (v : Wor) : Type 0 where
    pub g : Copies.World (Command O)
    pub asked : List (Homed O)
    pub made : List (Bundle O)
    pub inv : Inv g
    pub snaps : (r : ℕ) (x : Copy (Command O)) → Snap g r x → Inside sv kp made x
    pub house : (j : ℕ) → Ok sv kp g asked made j (v.house j)

  abbrev pub packet_of : ℕ → Pos sv kp → Packet (Messages sv kp)
  packet_of i q = record { to = q.to; from = i; what = q.what }

  posted_in : (i : ℕ) (q : Pos sv kp) (qs : List (Pos sv kp)) → Memᴰ q qs → Memᴰ (packet_of i q) (packets i (posted sv kp qs))
  unfolding posted packets
  posted_in i q [] m = absurd (Memᴰ.not-nil m)
  posted_in i q (r ∷ qs) m = elim (Memᴰ.cases_cons m) [ inl e ↦ Memᴰ.head (ap (packet_of i) e) | inr n ↦ Memᴰ.tail (posted_in i q qs n) ]

  outs_in : (i : ℕ) (p : Packet (Messages sv kp)) (ts : List (Reply sv.A)) (os : List (Out (Messages sv kp) R)) → Memᴰ p (packets i os) → Memᴰ p (packets i (outs sv kp ts os))
  unfolding outs packets
  outs_in i p [] os m = m
  outs_in i p (t ∷ ts) os m = outs_in i p ts (Tell t.id (sv.says t.reply) ∷ os) m

  pub on_mem : {m m' : Memory O} {d d' : Disks sv kp} → ◌≡◌ {A = Stand (Memory O) (Disks sv kp)} (on m d) (on m' d') → m ≡ m'
  on_mem e = cc e

  pub on_disk : {m m' : Memory O} {d d' : Disks sv kp} → ◌≡◌ {A = Stand (Memory O) (Disks sv kp)} (on m d) (on m' d') → d ≡ d'
  on_disk e = cc e

  pub on_off : {m : Memory O} {d d' : Disks sv kp} → ◌≡◌ {A = Stand (Memory O) (Disks sv kp)} (on m d) (off d') → ⊥
  on_off e = let q : ◌≡◌ {A = ℕ} 0 1 = cc in omega arith

  -- a house after an event
  abbrev pub stands : Wholes sv kp → Stand (Memory O) (Disks sv kp)
  stands z = on z.turn.memory (disk_of sv kp z)

  -- From world w on, houses of a group are alone: nobody else helps, and no packet sent before comes. Each lets every event happen.
  pub record Alone : Type 1 where
    pub keeps : Keeps sv kp
    pub ok : Guard sv kp
    pub lets : (x : In (Messages sv kp) O) (m : Memory O) (d : Disks sv kp) → ok x m d ≡ true
    pub all : ℕ
    pub three : 3 ≤ all
    pub group : List ℕ
    pub es : List (Seen O R)
    pub w : Wor
    pub sure : (fs : List (Seen O R)) (v : Wor) → Trace (replicated sv kp ok) all fs v → Sure v

module _ {O R : Type 0} {sv : Service O R} {kp : Keeper sv} (alone : Alone sv kp) where
  behaves_is : (x : In (Messages sv kp) O) (m : Memory O) (d : Disks sv kp) → behaves sv kp alone.ok x m d ≡ acts sv kp x m d
  unfolding behaves
  behaves_is x m d = rw (alone.lets x m d) refl

  pub tick_is : (m : Memory O) (d : Disks sv kp) → behaves sv kp alone.ok Tick m d ≡ finishes sv kp (ticked sv kp (begins sv kp m d))
  unfolding acts
  tick_is m d = behaves_is Tick m d

  pub from_is : (r : ℕ) (x : Messages sv kp) (m : Memory O) (d : Disks sv kp) → behaves sv kp alone.ok (From r x) m d ≡ finishes sv kp (got sv kp r x (begins sv kp m d))
  unfolding acts
  from_is r x m d = behaves_is (From r x) m d

  pub record Now : Type 0 where
    pub fs : List (Seen O R)
    pub v : Wor sv kp
    pub steps : ℕ
    pub run : PureHelped (replicated sv kp alone.ok) alone.all alone.group steps alone.es alone.w fs v
    pub trace : Trace (replicated sv kp alone.ok) alone.all fs v
    pub news : List (Packet (Messages sv kp))
    pub wire_is : v.wire ≡ news ++ alone.w.wire

  -- house i went on to z
  pub record Moved (n : Now) (i : ℕ) (z : Wholes sv kp) : Type 0 where
    pub then : Now
    pub here : then.v.house i ≡ stands sv kp z
    pub there : (j : ℕ) → j ≢ i → then.v.house j ≡ n.v.house j
    pub new : (q : Pos sv kp) → Memᴰ q (posts sv kp z) → Memᴰ (packet_of sv kp i q) then.news
    pub kept : (p : Packet (Messages sv kp)) → Memᴰ p n.news → Memᴰ p then.news
    pub cost : then.steps ≡ suc n.steps

  moved : (n : Now) (i : ℕ) (z : Wholes sv kp) (y : Ended sv kp) → y ≡ finishes sv kp z → (fs : List (Seen O R)) → PureHelped (replicated sv kp alone.ok) alone.all alone.group (suc n.steps) alone.es alone.w fs (after (replicated sv kp alone.ok) i y n.v) → Trace (replicated sv kp alone.ok) alone.all fs (after (replicated sv kp alone.ok) i y n.v) → Moved n i z
  moved n i z y e fs r tr =
      record {
        then = record { fs = fs; v = after (replicated sv kp alone.ok) i y n.v; steps = suc n.steps; run = r; trace = tr; news = packets i y.out ++ n.news; wire_is = ap (λ l. packets i y.out ++ l) n.wire_is ∙ sym (join_join (packets i y.out) n.news alone.w.wire) };
        here = put_here i (on y.mem y.stored) n.v.house ∙ ap (λ (x : Ended sv kp). on x.mem x.stored) e;
        there = λ j ne. put_other i (on y.mem y.stored) n.v.house j ne;
        new = λ q m. Memᴰ.append_left _ (subst (λ (x : Ended sv kp). Memᴰ (packet_of sv kp i q) (packets i x.out)) (sym e) (outs_in sv kp i (packet_of sv kp i q) z.turn.told (posted sv kp (posts sv kp z)) (posted_in sv kp i q (posts sv kp z) m)));
        kept = λ p m. Memᴰ.append_right _ m;
        cost = refl;
      }

  pub ticks_on : (n : Now) (i : ℕ) (m : Memory O) (d : Disks sv kp) → Memᴰ i alone.group → i < alone.all → n.v.house i ≡ on m d → Moved n i (ticked sv kp (begins sv kp m d))
  ticks_on n i m d g l e = moved n i (ticked sv kp (begins sv kp m d)) (behaves sv kp alone.ok Tick m d) (tick_is m d) _ (ticking i m d g n.run e) (ticks i m d l n.trace e)

  pub hears_on : (n : Now) (i r : ℕ) (x : Messages sv kp) (m : Memory O) (d : Disks sv kp) → Memᴰ i alone.group → Memᴰ r alone.group → i < alone.all → n.v.house i ≡ on m d → Memᴰ (record { to = i; from = r; what = x }) n.news → Moved n i (got sv kp r x (begins sv kp m d))
  hears_on n i r x m d g h l e k =
      moved n i (got sv kp r x (begins sv kp m d)) (behaves sv kp alone.ok (From r x) m d) (from_is r x m d) _ (doing i m d (record { to = i; from = r; what = x }) n.news g h n.run e n.wire_is k refl)
      (does i m d (record { to = i; from = r; what = x }) l n.trace e (subst (λ (z : List (Packet (Messages sv kp))). Memᴰ (record { to = i; from = r; what = x }) z) (sym n.wire_is) (Memᴰ.append_left _ k)) refl)

  pub record Pair (x y : ℕ) : Type 0 where
    pub gx : Memᴰ x alone.group
    pub gy : Memᴰ y alone.group
    pub lx : x < 3
    pub ly : y < 3
    pub ne : y ≢ x

  abbrev pub swap : {x y : ℕ} → Pair x y → Pair y x
  swap p = record { gx = p.gy; gy = p.gx; lx = p.ly; ly = p.lx; ne = λ e. p.ne (sym e) }

  -- x went on to z; y is as it was
  pub record Step (n : Now) (x y : ℕ) (z : Wholes sv kp) (my : Memory O) (dy : Disks sv kp) : Type 0 where
    pub then : Now
    pub x_is : then.v.house x ≡ stands sv kp z
    pub y_is : then.v.house y ≡ on my dy
    pub new : (q : Pos sv kp) → Memᴰ q (posts sv kp z) → Memᴰ (packet_of sv kp x q) then.news
    pub kept : (p : Packet (Messages sv kp)) → Memᴰ p n.news → Memᴰ p then.news
    pub cost : then.steps ≡ suc n.steps

  pub tick_x : {x y : ℕ} → Pair x y → (n : Now) {mx my : Memory O} {dx dy : Disks sv kp} → n.v.house x ≡ on mx dx → n.v.house y ≡ on my dy → Step n x y (ticked sv kp (begins sv kp mx dx)) my dy
  tick_x {x} {y} p n {mx} {my} {dx} {dy} ex ey = let s = ticks_on n x mx dx p.gx (omega (arith, p.lx)) ex in record { then = s.then; x_is = s.here; y_is = s.there y p.ne ∙ ey; new = s.new; kept = s.kept; cost = s.cost }

  pub hear_x : {x y : ℕ} → Pair x y → (n : Now) {mx my : Memory O} {dx dy : Disks sv kp} → n.v.house x ≡ on mx dx → n.v.house y ≡ on my dy → (z : Messages sv kp) → Memᴰ (record { to = x; from = y; what = z }) n.news → Step n x y (got sv kp y z (begins sv kp mx dx)) my dy
  hear_x {x} {y} p n {mx} {my} {dx} {dy} ex ey z k = let s = hears_on n x y z mx dx p.gx p.gy (omega (arith, p.lx)) ex k in record { then = s.then; x_is = s.here; y_is = s.there y p.ne ∙ ey; new = s.new; kept = s.kept; cost = s.cost }

  pub step_to : {n : Now} {x y : ℕ} {z z' : Wholes sv kp} {my : Memory O} {dy : Disks sv kp} → z ≡ z' → Step n x y z my dy → Step n x y z' my dy
  step_to {n} {x} {y} {z} {z'} {my} {dy} e s = subst (λ (k : Wholes sv kp). Step n x y k my dy) e s

  -- what is so of a copy
  pub record Facts (j : ℕ) (m : Memory O) (d : Disks sv kp) : Type 0 where
    pub me_is : m.me ≡ j
    pub low : m.lead ≤ suc d.agreeing.promised
    pub own : m.lead ≡ suc d.agreeing.promised → d.agreeing.promised % 3 ≡ j
    pub rank_low : rank d.agreeing.proposal ≤ suc d.agreeing.promised

  pub facts : (n : Now) (j : ℕ) (m : Memory O) (d : Disks sv kp) → j < 3 → n.v.house j ≡ on m d → Facts j m d
  facts n j m d l e = go (alone.sure n.fs n.v n.trace).g (alone.sure n.fs n.v n.trace).inv (subst (Ok sv kp (alone.sure n.fs n.v n.trace).g (alone.sure n.fs n.v n.trace).asked (alone.sure n.fs n.v n.trace).made j) e ((alone.sure n.fs n.v n.trace).house j))
    where
      go : (g : Copies.World (Command O)) → Inv g → OkOn sv kp g (alone.sure n.fs n.v n.trace).asked (alone.sure n.fs n.v n.trace).made j m d → Facts j m d
      go g i o =
          record {
            me_is = o.me_is;
            low = low m.lead refl;
            own = λ z. ap (λ k. k % 3) prom_is ∙ ((o.lead_is l d.agreeing.promised z).now prom_is).owner;
            rank_low = rank_low (g.copy j).proposal refl;
          }
        where
          prom_is : d.agreeing.promised ≡ (g.copy j).promised
          prom_is = (o.copy_is l).promised_is

          low : (k : ℕ) → m.lead ≡ k → m.lead ≤ suc d.agreeing.promised
          low zero z = omega arith
          low (suc b) z = omega (arith, prom_is, (o.lead_is l b z).low)

          rank_low : (u : Proposal (Command O)) → (g.copy j).proposal ≡ u → rank d.agreeing.proposal ≤ suc d.agreeing.promised
          rank_low nothing z = rw ((o.copy_is l).proposal_is ∙ z) (omega arith)
          rank_low (voted b k) z = rw ((o.copy_is l).proposal_is ∙ z) (omega (arith, prom_is, (i.own j (g.copy j) b k (i.cur j l) z).1))

  -- what is among the news then
  module _ {x y : ℕ} (p : Pair x y) {n : Now} {z : Wholes sv kp} {my : Memory O} {dy : Disks sv kp} (s : Step n x y z my dy) where
    me_is : z.turn.memory.me ≡ x
    me_is = (facts s.then x z.turn.memory (disk_of sv kp z) p.lx s.x_is).me_is

    pub said : Reaches y z.turn.sends.status → Memᴰ (record { to = y; from = x; what = Told (status_now sv kp z.turn.agreeing) }) s.then.news
    said r = s.new _ (post_status sv kp z y r p.ly (λ e. p.ne (e ∙ me_is)))

    pub asked_for : (b t : ℕ) → z.turn.sends.wants ≡ Some y → z.turn.agreeing.recovery ≡ recovers b t → Memᴰ (record { to = y; from = x; what = Asked (want_of sv kp b t z.turn.memory.pass.key) }) s.then.news
    asked_for b t e f = s.new _ (post_want sv kp z y b t e f)

    pub gave : (c : Serve) → z.turn.sends.serves ≡ Some c → Memᴰ (record { to = c.to; from = x; what = Given (part_of sv kp c.want z) }) s.then.news
    gave c e = s.new _ (post_part sv kp z c e)
