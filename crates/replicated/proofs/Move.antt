-- A house's copy comes to another state.
use Rattle.std.proofs.Common.{◌≡◌, ℕ, suc, ◌%◌, ◌<◌, ◌≤◌, ◌≢◌, ◌⊎◌, List, [], None, sym, refl, ap, ◌∙◌, subst, inl, inr, arith}
use mathlib.Core.List.Memᴰ
use mathlib.Core.List.{Memᴰ}
use native.Mathlib.Decide.{dec_le}
use Rattle.agreement.specs.Copies.{Proposal, nothing, voted, Copy, rank, higher}
use Rattle.agreement.specs.Copies
use Rattle.agreement.proofs.Base.{Snap, snap_new, snap_grows, snap_back, copy_here}
use Rattle.agreement.proofs.Inv.{Inv}
use Rattle.agreement.proofs.Calm.{no_vote, raise, catch_up}
use Rattle.agreement.proofs.Accept.{accept}
use Rattle.agreement.proofs.Propose.{Since, propose}
use Rattle.agreement.proofs.Steps.{learned}
use Rattle.agreement.proofs.Behind.{behind_raised}
use Rattle.disks.specs.Cluster.{Seen, Packet, put}
use Rattle.compose.specs.Pure.{Stand, on}
use Rattle.copies.specs.Service.{Service, Keeper, Lawful, Keeps}
use Rattle.copies.specs.Messages.{Command, Reply, Session, Recovery, level, recovers, Agreeing}
use Rattle.copies.specs.Copy.{Pass, Memory, nobody, Sends, Work, rests, raised, proposed, applied}
use Rattle.copies.specs.House.{Wholes, Disks, Messages, State, command_done, disk_of}
use Rattle.copies.specs.Promise.{Played, command_played, replay}
use Rattle.replicated.proofs.Lists.{here, there, each}
use Rattle.replicated.proofs.Replay.{Within}
use Rattle.replicated.proofs.Caught.{Shows, long, done_shows}
use Rattle.replicated.proofs.Good.{Promised, Lead, Leads, Lags, Grown, Blocks, CopyIs, PassIs, Inside, OkOn, Ok, Owed, Calm, Tale, Top, Good, blocks_on, pass_on, msg_grows, leads_grows, ok_grows, tale_swap}
use Rattle.replicated.proofs.Grow.{tale_command}

module _ {O R : Type 0} (sv : Service O R) (kp : Keeper sv) where
  -- where an event takes place: what was seen, the houses, the wire, the house that it is at, and what was agreed on before it
  pub record Scene : Type 0 where
    pub es : List (Seen O R)
    pub hs : ℕ → Stand (Memory O) (Disks sv kp)
    pub ps : List (Packet (Messages sv kp))
    pub i : ℕ
    pub before : Copies.World (Command O)

  -- only a copy says how far it is, or what was done
  pub record Sent (i : ℕ) (s : Sends) : Type 0 where
    pub few : (i < 3) ⊎ ((s.status ≡ nobody) × (s.replies ≡ []))
    pub serves_none : s.serves ≡ None

  pub record At (c : Scene) (w : Wholes sv kp) : Type 0 where
    pub good : Good sv kp c.es (put c.i (on w.turn.memory (disk_of sv kp w)) c.hs) c.ps c.i w.turn.told
    pub grown : Grown c.before good.g
    pub rests_yet : w.turn.work ≡ rests
    pub sent : Sent c.i w.turn.sends

  abbrev pub moved : ℕ → Pass → ℕ → Sends → Work sv.Rest sv.Block O sv.A → Agreeing O → (ℕ → Session sv.A) → sv.Rest → kp.Kept → Wholes sv kp → Wholes sv kp
  moved l p q n y a d r s w =
      record { incarnation = w.incarnation; turn = record { agreeing = a; sessions = d; memory = record w.turn.memory { lead = l; quiet = q; pass = p }; told = w.turn.told; sends = n; work = y }; rest = r; kept = s }

  -- a copy sends what it likes, if it serves nothing
  pub sends_by : (i : ℕ) → i < 3 → (s : Sends) → s.serves ≡ None → Sent i s
  sends_by i h s e = record { few = inl h; serves_none = e }

  module _ (c : Scene) where
    pub mine : (w : Wholes sv kp) (v : At c w) → OkOn sv kp v.good.g v.good.asked v.good.made c.i w.turn.memory (disk_of sv kp w)
    mine w v = here c.i (on w.turn.memory (disk_of sv kp w)) c.hs (Ok sv kp v.good.g v.good.asked v.good.made) v.good.house

    module _ (w : Wholes sv kp) (v : At c w) where
      -- only what is remembered or sent changes
      unfoldable pub memory_step : (m : Memory O) (n : Sends) → Sent c.i n → OkOn sv kp v.good.g v.good.asked v.good.made c.i m (disk_of sv kp w) →
          ((rs : _) → Owed sv kp v.good.now rs c.i (on w.turn.memory (disk_of sv kp w)) → Owed sv kp v.good.now rs c.i (on m (disk_of sv kp w))) → (Calm sv kp v.good.now c.i (on w.turn.memory (disk_of sv kp w)) → Calm sv kp v.good.now c.i (on m (disk_of sv kp w))) →
          At c (record w { turn = record w.turn { memory = m; sends = n } })
      memory_step m n s me f e =
          record {
            good =
                record {
                  g = v.good.g;
                  asked = v.good.asked;
                  made = v.good.made;
                  now = v.good.now;
                  inv = v.good.inv;
                  top = v.good.top;
                  book = v.good.book;
                  snaps = v.good.snaps;
                  wire = v.good.wire;
                  house = each c.i _ c.hs (Ok sv kp v.good.g v.good.asked v.good.made) me (there c.i (on w.turn.memory (disk_of sv kp w)) c.hs (Ok sv kp v.good.g v.good.asked v.good.made) v.good.house);
                  tale = tale_swap sv kp c.es v.good.asked c.i (on w.turn.memory (disk_of sv kp w)) _ c.hs w.turn.told v.good.now f e v.good.tale;
                };
            grown = v.grown;
            rests_yet = v.rests_yet;
            sent = s;
          }

      module _ (hi : c.i < 3) where
        -- the copy as it is in the agreement
        abbrev pub a : Copy (Command O)
        a = v.good.g.copy c.i

        pub is_copy_of : CopyIs sv kp v.good.g a (disk_of sv kp w)
        is_copy_of = (mine w v).copy_is hi

        pub cur : Snap v.good.g c.i a
        cur = v.good.inv.cur c.i hi

        pub own_inside : Inside sv kp v.good.made a
        own_inside = v.good.snaps c.i a cur

        pub own_leads : Leads v.good.g c.i w.turn.memory.lead a
        own_leads = (mine w v).lead_is hi

        -- no block is of a version that isn't its own
        pub own_shows : w.turn.agreeing.recovery ≡ level → Shows sv kp w.kept a.history
        own_shows e = subst (Blocks sv kp v.good.g a w.kept) e is_copy_of.blocks_is

        -- what the agreement is when this copy is z
        abbrev pub then_at : Copy (Command O) → Copies.World (Command O)
        then_at z = Copies.put v.good.g c.i z

        pub on_then : (z : Copy (Command O)) → Grown v.good.g (then_at z)
        on_then z r x = snap_grows v.good.g c.i z

        module _ (l : ℕ) (p : Pass) (q : ℕ) (n : Sends) (y : Work sv.Rest sv.Block O sv.A) (z : Copy (Command O)) (ag : Agreeing O) (d : ℕ → Session sv.A) (r : sv.Rest) (s : kp.Kept) (still : y ≡ rests) (serves : n.serves ≡ None) (then : Played sv) (inv' : Inv (then_at z))
            (copy' : CopyIs sv kp (then_at z) z (record { incarnation = w.incarnation; agreeing = ag; sessions = d; rest = r; kept = s })) (lags' : Lags (then_at z) c.i ag.recovery) (pass' : PassIs sv kp (then_at z) ag.version s p ag.recovery)
            (ins : Inside sv kp v.good.made z) (leads : Leads (then_at z) c.i l z) (top' : Top sv kp (then_at z) then) (tale' : Tale sv kp c.es v.good.asked (put c.i (on w.turn.memory (disk_of sv kp w)) c.hs) c.i w.turn.told then) where
          pub copy_step : At c (moved l p q n y ag d r s w)
          copy_step =
              record {
                good =
                    record {
                      g = then_at z;
                      asked = v.good.asked;
                      made = v.good.made;
                      now = then;
                      inv = inv';
                      top = top';
                      book = v.good.book;
                      snaps = λ m x h. elim (snap_back v.good.g c.i z h) [ inl k ↦ v.good.snaps m x k | inr e ↦ subst (Inside sv kp v.good.made) (sym e.1) ins ];
                      wire = λ k m. msg_grows sv kp v.good.g v.good.made c.i z k.from k.to k.what (v.good.wire k m);
                      house = each c.i _ c.hs (Ok sv kp (then_at z) v.good.asked v.good.made) me (λ j ne. ok_grows sv kp v.good.g v.good.asked v.good.made c.i z j ne (c.hs j) (there c.i (on w.turn.memory (disk_of sv kp w)) c.hs (Ok sv kp v.good.g v.good.asked v.good.made) v.good.house j ne));
                      tale = tale_swap sv kp c.es v.good.asked c.i (on w.turn.memory (disk_of sv kp w)) _ c.hs w.turn.told then (λ rs k. k) (λ k. k) tale';
                    };
                grown = λ m x h. snap_grows v.good.g c.i z (v.grown m x h);
                rests_yet = still;
                sent = sends_by c.i hi n serves;
              }
            where
              o : OkOn sv kp v.good.g v.good.asked v.good.made c.i w.turn.memory (disk_of sv kp w)
              o = mine w v

              me : OkOn sv kp (then_at z) v.good.asked v.good.made c.i (moved l p q n y ag d r s w).turn.memory (disk_of sv kp (moved l p q n y ag d r s w))
              me =
                  record {
                    copy_is = λ _. subst (λ (x : Copy (Command O)). CopyIs sv kp (then_at z) x (disk_of sv kp (moved l p q n y ag d r s w))) (sym (copy_here v.good.g c.i z)) copy';
                    lags = λ _. lags';
                    pass_is = λ _. pass';
                    me_is = o.me_is;
                    inc_is = o.inc_is;
                    asked_low = o.asked_low;
                    made_low = o.made_low;
                    wait_is = o.wait_is;
                    way_is = o.way_is;
                    heard_is = o.heard_is;
                    lead_is = λ _. subst (Leads (then_at z) c.i l) (sym (copy_here v.good.g c.i z)) leads;
                  }

        -- nothing new is decided
        pub echo_top : (z : Copy (Command O)) (r : ℕ) (x : Copy (Command O)) → Snap v.good.g r x → z.version ≤ x.version → Top sv kp (then_at z) v.good.now
        echo_top z r x h l =
            record {
              who = v.good.top.who;
              at = v.good.top.at;
              snap = snap_grows v.good.g c.i z v.good.top.snap;
              highest = λ n y q. elim (snap_back v.good.g c.i z q) [ inl p ↦ v.good.top.highest n y p | inr e ↦ omega (arith, ap (λ (k : Copy (Command O)). k.version) e.1, v.good.top.highest r x h) ];
              is = v.good.top.is;
            }

        module _ (p : ℕ) (up : a.promised ≤ p) where
          -- who led p leads p, if it is no higher; further on too
          lead_same : (z : Copy (Command O)) → z.promised ≡ p → a.version ≤ z.version → (z.proposal ≡ nothing → (a.version < z.version) ⊎ (a.proposal ≡ nothing)) → Leads (then_at z) c.i w.turn.memory.lead z
          lead_same z e l n = leads_grows sv kp v.good.g c.i z c.i w.turn.memory.lead z (λ b m. record { low = omega (arith, (own_leads b m).low); now = λ y. go b (own_leads b m) y })
            where
              go : (b : ℕ) → Lead v.good.g c.i a b → b ≡ z.promised → Promised v.good.g c.i z
              go b m y =
                  let u : a.promised ≡ p = omega (arith, m.low) in
                  let h = m.now (y ∙ e ∙ sym u) in
                  record {
                    who = h.who;
                    at = h.at;
                    snap = h.snap;
                    other = h.other;
                    owner = ap (λ (k : ℕ). k % 3) (e ∙ sym u) ∙ h.owner;
                    prom_is = h.prom_is ∙ u ∙ sym e;
                    behind = omega (arith, h.behind);
                    when = λ k. elim (n k) [ inl d ↦ inl (omega (arith, h.behind)) | inr d ↦ elim (h.when d) [ inl f ↦ inl (omega arith) | inr f ↦ inr f ] ];
                  }

          abbrev raised_copy : Copy (Command O)
          raised_copy = Copies.raised p a

          lags_raised : (r : Recovery) → Lags v.good.g c.i r → Lags (then_at raised_copy) c.i r
          lags_raised level k = tt
          lags_raised (recovers b t) k = behind_raised v.good.g c.i k p

          -- the promise is raised, and no more; blocks may be of other versions
          again : (l : ℕ) → Leads (then_at raised_copy) c.i l raised_copy → (m : Recovery) (s : kp.Kept) (k : Pass) (q : ℕ) (n : Sends) (y : Work sv.Rest sv.Block O sv.A) (d : ℕ → Session sv.A) (r : sv.Rest) → y ≡ rests → n.serves ≡ None → d ≡ (replay sv a.history).sessions →
              r ≡ (replay sv a.history).place.rest → Blocks sv kp v.good.g a s m → Lags v.good.g c.i m → PassIs sv kp v.good.g w.turn.agreeing.version s k m → At c (moved l k q n y (record w.turn.agreeing { promised = p; recovery = m }) d r s w)
          again l leads m s k q n y d r still serves de re blocks lags pass =
              copy_step l k q n y raised_copy (record w.turn.agreeing { promised = p; recovery = m }) d r s still serves v.good.now (raise v.good.g v.good.inv c.i hi p up)
              (record { promised_is = refl; version_is = is_copy_of.version_is; last_is = is_copy_of.last_is; proposal_is = is_copy_of.proposal_is; sessions_is = de; rest_is = re; blocks_is = blocks_on sv kp v.good.g (then_at raised_copy) (on_then raised_copy) raised_copy s m (raised_blocks m blocks) })
              (lags_raised m lags) (pass_on sv kp v.good.g (then_at raised_copy) (on_then raised_copy) w.turn.agreeing.version s k m pass) (record { vote = own_inside.vote; past = own_inside.past }) leads (echo_top raised_copy c.i a cur (omega arith)) v.good.tale
            where
              raised_blocks : (m : Recovery) → Blocks sv kp v.good.g a s m → Blocks sv kp v.good.g raised_copy s m
              raised_blocks level h = h
              raised_blocks (recovers b t) h = h

          lead_raised : Leads (then_at raised_copy) c.i w.turn.memory.lead raised_copy
          lead_raised = lead_same raised_copy refl (omega arith) (λ e. inr e)

          pub to_recovery : (m : Recovery) (s : kp.Kept) (k : Pass) (q : ℕ) (n : Sends) (y : Work sv.Rest sv.Block O sv.A) (d : ℕ → Session sv.A) (r : sv.Rest) → y ≡ rests → n.serves ≡ None → d ≡ (replay sv a.history).sessions → r ≡ (replay sv a.history).place.rest →
              Blocks sv kp v.good.g a s m → Lags v.good.g c.i m → PassIs sv kp v.good.g w.turn.agreeing.version s k m → At c (moved w.turn.memory.lead k q n y (record w.turn.agreeing { promised = p; recovery = m }) d r s w)
          to_recovery = again w.turn.memory.lead lead_raised

          -- where the pass is stays
          pub to_raised : (k : Pass) (q : ℕ) (n : Sends) → k.key ≡ w.turn.memory.pass.key → k.span ≡ w.turn.memory.pass.span → n.serves ≡ None → At c (moved w.turn.memory.lead k q n w.turn.work (raised p w.turn.agreeing) w.turn.sessions w.rest w.kept w)
          to_raised k q n e f serves =
              to_recovery w.turn.agreeing.recovery w.kept k q n w.turn.work w.turn.sessions w.rest v.rests_yet serves is_copy_of.sessions_is is_copy_of.rest_is is_copy_of.blocks_is ((mine w v).lags hi) (same_pass w.turn.agreeing.recovery ((mine w v).pass_is hi))
            where
              same_pass : (m : Recovery) → PassIs sv kp v.good.g w.turn.agreeing.version w.kept w.turn.memory.pass m → PassIs sv kp v.good.g w.turn.agreeing.version w.kept k m
              same_pass level h = tt
              same_pass (recovers b t) h = rw (e, f) h

          -- I lead from now on, and neither of us has voted
          pub to_lead : (r : ℕ) (x : Copy (Command O)) → Snap v.good.g r x → r ≢ c.i → p % 3 ≡ c.i → x.promised ≡ p → x.version ≡ a.version → x.proposal ≡ nothing →
              At c (moved (suc p) w.turn.memory.pass w.turn.memory.quiet w.turn.sends w.turn.work (raised p w.turn.agreeing) w.turn.sessions w.rest w.kept w)
          to_lead r x h ne m e l z =
              again (suc p) (λ b y. record { low = omega arith; now = λ _. record { who = r; at = x; snap = snap_grows v.good.g c.i raised_copy h; other = ne; owner = m; prom_is = e; behind = omega arith; when = λ _. inr z } }) w.turn.agreeing.recovery w.kept
              w.turn.memory.pass w.turn.memory.quiet w.turn.sends w.turn.work w.turn.sessions w.rest v.rests_yet v.sent.serves_none is_copy_of.sessions_is is_copy_of.rest_is is_copy_of.blocks_is ((mine w v).lags hi) ((mine w v).pass_is hi)

          module _ (r : ℕ) (x : Copy (Command O)) (h : Snap v.good.g r x) where
            -- I go as far as another went
            further : (z : Copy (Command O)) → z ≡ Copies.adopted p x → a.version < x.version → (n : Sends) (y : Work sv.Rest sv.Block O sv.A) (ag : Agreeing O) (d : ℕ → Session sv.A) (rest : sv.Rest) (s : kp.Kept) (k : Pass) → y ≡ rests → n.serves ≡ None → ag.recovery ≡ level →
                CopyIs sv kp (then_at z) z (record { incarnation = w.incarnation; agreeing = ag; sessions = d; rest = rest; kept = s }) → At c (moved w.turn.memory.lead k w.turn.memory.quiet n y ag d rest s w)
            further z e l n y ag d rest s k still serves lev is =
                copy_step w.turn.memory.lead k w.turn.memory.quiet n y z ag d rest s still serves v.good.now (subst (λ (q : Copy (Command O)). Inv (then_at q)) (sym e) (catch_up v.good.g v.good.inv c.i hi p up r x h l)) is
                (subst (Lags (then_at z) c.i) (sym lev) tt) (subst (PassIs sv kp (then_at z) ag.version s k) (sym lev) tt)
                (subst (Inside sv kp v.good.made) (sym e) (record { vote = λ b k f. no_vote f; past = (v.good.snaps r x h).past }))
                (lead_same z (ap (λ (q : Copy (Command O)). q.promised) e) (omega (arith, ver_is)) (λ _. inl (omega (arith, ver_is)))) (echo_top z r x h (omega (arith, ver_is))) v.good.tale
              where
                ver_is : z.version ≡ x.version
                ver_is = ap (λ (q : Copy (Command O)). q.version) e

            -- what another copy has is taken over
            pub to_adopted : a.version < x.version → (n : Sends) (y : Work sv.Rest sv.Block O sv.A) (d : ℕ → Session sv.A) (rest : sv.Rest) (s : kp.Kept) (k : Pass) (version last : ℕ) → y ≡ rests → n.serves ≡ None → version ≡ x.version → last ≡ x.last →
                d ≡ (replay sv x.history).sessions → rest ≡ (replay sv x.history).place.rest → Shows sv kp s x.history →
                At c (moved w.turn.memory.lead k w.turn.memory.quiet n y (record { promised = p; version = version; last = last; proposal = nothing; recovery = level }) d rest s w)
            to_adopted l n y d rest s k version last still serves ve le de re shows =
                further (Copies.adopted p x) refl l n y _ d rest s k still serves refl (record { promised_is = refl; version_is = ve; last_is = le; proposal_is = refl; sessions_is = de; rest_is = re; blocks_is = shows })

        module _ (laws : Lawful sv) (keeps : Keeps sv kp) (lev : w.turn.agreeing.recovery ≡ level) (p : ℕ) (up : a.promised ≤ p) (b : ℕ) (k : Command O) where
          abbrev pub applied_copy : Copy (Command O)
          applied_copy = Copies.applied p b k a

          abbrev pub done : State sv kp
          done = command_done sv kp (suc w.turn.agreeing.version) k (record { sessions = w.turn.sessions; rest = w.rest; kept = w.kept })

          -- its calls are done, and blocks show it
          pub applied_is : CopyIs sv kp (then_at applied_copy) applied_copy (record { incarnation = w.incarnation; agreeing = applied p b w.turn.agreeing; sessions = done.sessions; rest = done.rest; kept = done.kept })
          applied_is =
              let o = done_shows sv kp laws keeps a.history k (record { sessions = w.turn.sessions; rest = w.rest; kept = w.kept }) is_copy_of.sessions_is is_copy_of.rest_is (own_shows lev) (suc w.turn.agreeing.version) (ap suc (is_copy_of.version_is ∙ sym (long v.good.g v.good.inv c.i a cur))) in
              record { promised_is = refl; version_is = ap suc is_copy_of.version_is; last_is = refl; proposal_is = refl; sessions_is = o.0; rest_is = o.1; blocks_is = subst (Blocks sv kp (then_at applied_copy) applied_copy done.kept) (sym lev) o.2 }

        module _ (laws : Lawful sv) (keeps : Keeps sv kp) (lev : w.turn.agreeing.recovery ≡ level) (p : ℕ) (up : a.promised ≤ p) (r : ℕ) (x : Copy (Command O)) (h : Snap v.good.g r x) where
          -- it is what I proposed
          pub to_learned : (vb : ℕ) (vk : Command O) → x.version ≡ suc a.version → a.proposal ≡ voted vb vk → x.last ≤ vb → (n : Sends) → n.serves ≡ None →
              At c (moved w.turn.memory.lead w.turn.memory.pass w.turn.memory.quiet n rests (applied p x.last w.turn.agreeing) (done laws keeps lev p up x.last vk).sessions (done laws keeps lev p up x.last vk).rest (done laws keeps lev p up x.last vk).kept w)
          to_learned vb vk e f l n serves =
              further p up r x h (Copies.applied p x.last vk a) (sym (learned v.good.g v.good.inv c.i r x hi h p up e vb vk f l)) (omega arith) n rests _ _ _ _ w.turn.memory.pass refl serves lev (applied_is laws keeps lev p up x.last vk)

          module _ (ne : r ≢ c.i) where
            -- I follow, and thereby decide
            module _ (none : (q : Reply sv.A) → Memᴰ q w.turn.told → ⊥) (k : Command O) (votes : x.proposal ≡ voted p k) (even : x.version ≡ a.version) where
              abbrev z : Copy (Command O)
              z = Copies.applied p p k a

              k_within : Within sv v.good.made k
              k_within = (v.good.snaps r x h).vote p k votes

              z_inside : Inside sv kp v.good.made z
              z_inside = record { vote = λ b y f. no_vote f; past = λ y m. elim (Memᴰ.cases_cons m) [ inl e ↦ subst (Within sv v.good.made) (sym e) k_within | inr n ↦ own_inside.past y n ] }

              abbrev then_accepted : Sends → Wholes sv kp
              then_accepted n = moved w.turn.memory.lead w.turn.memory.pass w.turn.memory.quiet n rests (applied p p w.turn.agreeing) (done laws keeps lev p up p k).sessions (done laws keeps lev p up p k).rest (done laws keeps lev p up p k).kept w

              go : (n : Sends) → n.serves ≡ None → (then : Played sv) → Top sv kp (then_at z) then → Tale sv kp c.es v.good.asked (put c.i (on w.turn.memory (disk_of sv kp w)) c.hs) c.i w.turn.told then → At c (then_accepted n)
              go n serves then =
                  copy_step w.turn.memory.lead w.turn.memory.pass w.turn.memory.quiet n rests z (applied p p w.turn.agreeing) _ _ _ refl serves then (accept v.good.g v.good.inv c.i hi p up r x k h ne votes even) (applied_is laws keeps lev p up p k)
                  (subst (Lags (then_at z) c.i) (sym lev) tt) (subst (PassIs sv kp (then_at z) (suc w.turn.agreeing.version) (done laws keeps lev p up p k).kept w.turn.memory.pass) (sym lev) tt) z_inside (lead_same p up z refl (omega arith) (λ _. inl (omega arith)))

              new_top : v.good.top.at.version < z.version → Top sv kp (then_at z) (command_played sv k v.good.now)
              unfolding replay
              new_top l =
                  record {
                    who = c.i;
                    at = z;
                    snap = snap_new v.good.g c.i z hi;
                    highest = λ n y q. elim (snap_back v.good.g c.i z q) [ inl s ↦ omega (arith, v.good.top.highest n y s) | inr e ↦ omega (arith, ap (λ (y : Copy (Command O)). y.version) e.1) ];
                    is = ap (command_played sv k) (ap (replay sv) (v.good.inv.same c.i v.good.top.who a v.good.top.at cur v.good.top.snap (omega (arith, v.good.top.highest c.i a cur))) ∙ v.good.top.is);
                  }

              pub to_accepted : (n : Sends) → n.serves ≡ None → At c (then_accepted n)
              to_accepted n serves = elim (dec_le z.version v.good.top.at.version) [
                | yes l ↦ go n serves v.good.now (echo_top z v.good.top.who v.good.top.at v.good.top.snap l) v.good.tale
                | no m ↦ go n serves (command_played sv k v.good.now) (new_top (omega arith)) (tale_command sv kp c.es v.good.asked v.good.made v.good.book _ c.i w.turn.told none k k_within v.good.now v.good.tale)
              ]

        module _ (lev : w.turn.agreeing.recovery ≡ level) (p : ℕ) (up : a.promised ≤ p) (r : ℕ) (x : Copy (Command O)) (h : Snap v.good.g r x) (ne : r ≢ c.i) where
          -- I lead, and propose
          module _ (k : Command O) (kin : Within sv v.good.made k) (owner : p % 3 ≡ c.i) (promised : x.promised ≡ p) (behind : x.version ≤ a.version) (open_yet : rank a.proposal ≢ suc p)
              (follows : (b : ℕ) → (b < rank a.proposal) ⊎ ((x.version ≡ a.version) × (b < rank x.proposal)) → Since v.good.g b a.version k) where
            abbrev d : Copy (Command O)
            d = Copies.proposed p k a

            pub to_proposed : (l : ℕ) → ((b : ℕ) → l ≡ suc b → b ≤ p) → (n : Sends) → n.serves ≡ None → At c (moved l w.turn.memory.pass w.turn.memory.quiet n w.turn.work (proposed p k w.turn.agreeing) w.turn.sessions w.rest w.kept w)
            to_proposed l low n serves =
                copy_step l w.turn.memory.pass w.turn.memory.quiet n w.turn.work d (proposed p k w.turn.agreeing) w.turn.sessions w.rest w.kept v.rests_yet serves v.good.now (propose v.good.g v.good.inv c.i hi p up r x k h ne owner promised behind open_yet follows)
                (record { promised_is = refl; version_is = is_copy_of.version_is; last_is = is_copy_of.last_is; proposal_is = refl; sessions_is = is_copy_of.sessions_is; rest_is = is_copy_of.rest_is; blocks_is = subst (Blocks sv kp (then_at d) d w.kept) (sym lev) (own_shows lev) })
                (subst (Lags (then_at d) c.i) (sym lev) tt) (subst (PassIs sv kp (then_at d) w.turn.agreeing.version w.kept w.turn.memory.pass) (sym lev) tt)
                (record { vote = λ b z e. subst (Within sv v.good.made) (cc e) kin; past = own_inside.past })
                (λ b y. record { low = low b y; now = λ _. record { who = r; at = x; snap = snap_grows v.good.g c.i d h; other = ne; owner = owner; prom_is = promised; behind = behind; when = λ e. no_vote (sym e) } })
                (echo_top d c.i a cur (omega arith)) v.good.tale
