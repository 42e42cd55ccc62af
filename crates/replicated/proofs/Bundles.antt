-- The bundle under way: it is heard, made of what waits, and done.
use Rattle.std.proofs.Common.{◌≡◌, ℕ, suc, ◌-◌, ◌<◌, true, cond, not, ◌&&◌, eqb, ltb, ◌≢◌, ◌⊎◌, List, [], ◌∷◌, ◌++◌, sym, refl, ap, ◌∙◌, subst, inl, inr, arith, ltb-true, eqb-true}
use mathlib.Core.List.Memᴰ
use mathlib.Core.List.{Memᴰ}
use Rattle.agreement.proofs.Base.{by_test, by_both}
use Rattle.agreement.proofs.Steps.{first}
use Rattle.disks.specs.Cluster.{put}
use Rattle.compose.specs.Pure.{Stand, off, on}
use Rattle.copies.specs.Service.{Service, Keeper}
use Rattle.copies.specs.Messages.{Bundle, Reply, Session}
use Rattle.copies.specs.Copy.{Way, free, under, Memory, Sends, is_free, is_nil, is_new, not_of, remembered, new_bundle, on_bundle, packed, pack, freed, settle, settle_here, resend}
use Rattle.copies.specs.House.{Wholes, Turns, Disks, with_turn, disk_of}
use Rattle.copies.specs.Promise.{Played, replay}
use Rattle.replicated.proofs.Lists.{Homed, slot, slot_none, here, there, each}
use Rattle.replicated.proofs.Replay.{Above, Stems, replay_rises, replay_stems}
use Rattle.replicated.proofs.Good.{OkOn, Ok, Owed, Calm, Known, msg_more, tale_swap}
use Rattle.replicated.proofs.Move.{Scene, Sent, At, sends_by, mine, memory_step, is_copy_of, cur}

no_under : {O : Type 0} {b : Bundle O} {A : Type 0} → free ≡ under b → A
no_under e = let z : ◌≡◌ {A = ℕ} 0 1 = cc in absurd (omega arith)

pub not_of_in : {O : Type 0} (h : ℕ) (bs : List (Bundle O)) (b : Bundle O) → Memᴰ b (not_of h bs) → Memᴰ b bs
unfolding not_of
not_of_in h [] b m = m
not_of_in {O} h (c ∷ bs) b m = go (not_of_in h bs b) m
  where
    go : (Memᴰ b (not_of h bs) → Memᴰ b bs) → Memᴰ b (cond (eqb c.house h) (not_of h bs) (c ∷ not_of h bs)) → Memᴰ b (c ∷ bs)
    go f =
        by_test (λ (z : List (Bundle O)). Memᴰ b z → Memᴰ b (c ∷ bs)) (eqb c.house h) (λ _ n. Memᴰ.tail (f n)) (λ _ n. elim (Memᴰ.cases_cons n) [ inl e ↦ Memᴰ.head e | inr k ↦ Memᴰ.tail (f k) ])

module _ {O R : Type 0} (sv : Service O R) (kp : Keeper sv) where
  module _ (c : Scene sv kp) where
    -- what an event makes of the turn
    abbrev pub Then : Wholes sv kp → Turns sv kp → Type 0
    Then w t = At sv kp c (with_turn sv kp t w)

    module _ (w : Wholes sv kp) (v : At sv kp c w) where
      -- more is said
      pub to_say : (n : Sends) → Sent sv kp c.i n → Then w (record w.turn { sends = n })
      to_say n s = memory_step sv kp c w v w.turn.memory n s (mine sv kp c w v) (λ rs k. k) (λ k. k)

      -- a bundle is remembered
      to_heard : (b : Bundle O) → Memᴰ b v.good.made → Then w (record w.turn { memory = remembered b w.turn.memory })
      to_heard b m = memory_step sv kp c w v (remembered b w.turn.memory) w.turn.sends v.sent me (λ rs k. k) (λ k. k)
        where
          o : OkOn sv kp v.good.g v.good.asked v.good.made c.i w.turn.memory (disk_of sv kp w)
          o = mine sv kp c w v

          me : OkOn sv kp v.good.g v.good.asked v.good.made c.i (remembered b w.turn.memory) (disk_of sv kp w)
          me =
              record {
                copy_is = o.copy_is;
                lags = o.lags;
                pass_is = o.pass_is;
                me_is = o.me_is;
                inc_is = o.inc_is;
                asked_low = o.asked_low;
                made_low = o.made_low;
                wait_is = o.wait_is;
                way_is = o.way_is;
                heard_is = λ d n. elim (Memᴰ.cases_cons n) [ inl e ↦ Memᴰ.cast e m | inr k ↦ o.heard_is d (not_of_in b.house w.turn.memory.heard d k) ];
                lead_is = o.lead_is;
              }

      pub copy_here : ltb w.turn.memory.me 3 ≡ true → c.i < 3
      copy_here e = omega (arith, ltb-true _ _ e, (mine sv kp c w v).me_is)

      pub own_session : c.i < 3 → (h : ℕ) → Known sv kp v.good.g h (w.turn.sessions h)
      own_session hi h = record { who = c.i; at = v.good.g.copy c.i; snap = cur sv kp c w v hi; is = ap (λ (z : ℕ → Session sv.A). z h) (sym (is_copy_of sv kp c w v hi).sessions_is) }

      pub bundled : (b : Bundle O) → Memᴰ b v.good.made → Then w (on_bundle b w.turn)
      unfolding on_bundle
      bundled b m =
          by_test (Then w) (ltb w.turn.memory.me 3)
          (λ e. by_test (Then w) (is_new b w.turn.sessions) (λ _. to_heard b m) (λ _. to_say (record w.turn.sends { replies = b.house ∷ w.turn.sends.replies }) (sends_by sv kp c.i (copy_here e) _ v.sent.serves_none)))
          (λ _. v)

      pub resent : Then w (resend w.turn)
      resent = to_say (record w.turn.sends { bundle = true }) (record { few = v.sent.few; serves_none = v.sent.serves_none })

      -- a session is not above what its house has made
      session_low : Above (v.good.now.sessions c.i).incarnation (v.good.now.sessions c.i).counter w.turn.memory.incarnation w.turn.memory.counter → ⊥
      session_low a = go (subst (λ (z : Played sv). Stems sv v.good.made c.i (z.sessions c.i)) v.good.top.is (replay_stems sv v.good.made v.good.top.at.history (v.good.snaps _ _ v.good.top.snap).past c.i))
        where
          go : Stems sv v.good.made c.i (v.good.now.sessions c.i) → ⊥
          go (inl e) = let p : (v.good.now.sessions c.i).incarnation ≡ 0 = ap (λ (s : Session sv.A). s.incarnation) e in let q : (v.good.now.sessions c.i).counter ≡ 0 = ap (λ (s : Session sv.A). s.counter) e in omega arith
          go (inr s) = let u = (mine sv kp c w v).made_low s.0 s.1 s.2 in omega (arith, s.3, s.4)

      pack_step : w.turn.memory.way ≡ free → Then w (packed w.turn)
      pack_step idle =
          record {
            good =
                record {
                  g = v.good.g;
                  asked = v.good.asked;
                  made = b ∷ v.good.made;
                  now = v.good.now;
                  inv = v.good.inv;
                  top = v.good.top;
                  book = record { right = λ d m. elim (Memᴰ.cases_cons m) [ inl e ↦ subst (λ (z : Bundle O). z.calls ≡ slot v.good.asked z.house z.incarnation z.counter) (sym e) b_right | inr n ↦ v.good.book.right d n ]; ids = v.good.book.ids; used = v.good.book.used };
                  snaps = λ r x h. record { vote = λ n k e d m. Memᴰ.tail ((v.good.snaps r x h).vote n k e d m); past = λ k n d m. Memᴰ.tail ((v.good.snaps r x h).past k n d m) };
                  wire = λ p m. msg_more sv kp v.good.g v.good.made b p.from p.to p.what (v.good.wire p m);
                  house = each c.i _ c.hs (Ok sv kp v.good.g v.good.asked (b ∷ v.good.made)) me (λ j n. other j n (c.hs j) (there c.i (on w.turn.memory (disk_of sv kp w)) c.hs (Ok sv kp v.good.g v.good.asked v.good.made) v.good.house j n));
                  tale = tale_swap sv kp c.es v.good.asked c.i (on w.turn.memory (disk_of sv kp w)) _ c.hs w.turn.told v.good.now (λ rs _ d e k. absurd (undone_yet d e k)) (λ _ d e k. undone_yet d e k) v.good.tale;
                };
            grown = v.grown;
            rests_yet = v.rests_yet;
            sent = record { few = v.sent.few; serves_none = v.sent.serves_none };
          }
        where
          b : Bundle O
          b = new_bundle w.turn.memory

          o : OkOn sv kp v.good.g v.good.asked v.good.made c.i w.turn.memory (disk_of sv kp w)
          o = mine sv kp c w v

          b_right : b.calls ≡ slot v.good.asked b.house b.incarnation b.counter
          b_right = o.wait_is ∙ ap (λ (h : ℕ). slot v.good.asked h w.turn.memory.incarnation (suc w.turn.memory.counter)) (sym o.me_is)

          undone_yet : (d : Bundle O) → under b ≡ under d → (d.incarnation ≡ (v.good.now.sessions c.i).incarnation) × (d.counter ≡ (v.good.now.sessions c.i).counter) → ⊥
          undone_yet d e k =
              let p : w.turn.memory.incarnation ≡ d.incarnation = cc in
              let q : suc w.turn.memory.counter ≡ d.counter = cc in
              session_low (inr (p ∙ k.0, omega (arith, k.1)))

          me : OkOn sv kp v.good.g v.good.asked (b ∷ v.good.made) c.i (packed w.turn).memory (disk_of sv kp w)
          me =
              record {
                copy_is = o.copy_is;
                lags = o.lags;
                pass_is = o.pass_is;
                me_is = o.me_is;
                inc_is = o.inc_is;
                asked_low = λ a m e. elim (o.asked_low a m e) [ inl l ↦ inl l | inr z ↦ inr (z.0, omega (arith, z.1)) ];
                made_low = λ d m e. elim (Memᴰ.cases_cons m) [
                  | inl f ↦ inr (ap (λ (z : Bundle O). z.incarnation) f, omega (arith, ap (λ (z : Bundle O). z.counter) f))
                  | inr n ↦ elim (o.made_low d n e) [ inl l ↦ inl l | inr z ↦ inr (z.0, omega (arith, z.1)) ]
                ];
                wait_is = sym (slot_none v.good.asked c.i w.turn.memory.incarnation (suc (suc w.turn.memory.counter)) (λ a m p q r. omega (arith, o.asked_low a m p)));
                way_is = λ d e. let f : b ≡ d = cc in (Memᴰ.head (sym f), sym (ap (λ (z : Bundle O). z.house) f) ∙ o.me_is, sym (ap (λ (z : Bundle O). z.incarnation) f), sym (ap (λ (z : Bundle O). z.counter) f));
                heard_is = λ d n. elim (Memᴰ.cases_cons n) [ inl e ↦ Memᴰ.head e | inr k ↦ Memᴰ.tail (o.heard_is d (not_of_in w.turn.memory.me w.turn.memory.heard d k)) ];
                lead_is = o.lead_is;
              }

          other : (j : ℕ) → j ≢ c.i → (s : Stand (Memory O) (Disks sv kp)) → Ok sv kp v.good.g v.good.asked v.good.made j s → Ok sv kp v.good.g v.good.asked (b ∷ v.good.made) j s
          other j n (off d) h = record { copy_is = h.copy_is; lags = h.lags; asked_low = h.asked_low; made_low = λ k m e. elim (Memᴰ.cases_cons m) [ inl f ↦ absurd (n (sym e ∙ ap (λ (z : Bundle O). z.house) f ∙ o.me_is)) | inr l ↦ h.made_low k l e ] }
          other j n (on m d) h =
              record {
                copy_is = h.copy_is;
                lags = h.lags;
                pass_is = h.pass_is;
                me_is = h.me_is;
                inc_is = h.inc_is;
                asked_low = h.asked_low;
                made_low = λ k m e. elim (Memᴰ.cases_cons m) [ inl f ↦ absurd (n (sym e ∙ ap (λ (z : Bundle O). z.house) f ∙ o.me_is)) | inr l ↦ h.made_low k l e ];
                wait_is = h.wait_is;
                way_is = λ k e. let u = h.way_is k e in (Memᴰ.tail u.0, u.1, u.2, u.3);
                heard_is = λ k m. Memᴰ.tail (h.heard_is k m);
                lead_is = h.lead_is;
              }

      pub packs : Then w (pack w.turn)
      unfolding pack
      packs = go w.turn.memory.way refl
        where
          go : (u : Way O) → w.turn.memory.way ≡ u → Then w (cond (is_free u && not (is_nil w.turn.memory.waiting)) (packed w.turn) w.turn)
          go free e = by_test (Then w) (not (is_nil w.turn.memory.waiting)) (λ _. pack_step e) (λ _. v)
          go (under b) e = v

      -- the bundle under way is done
      module _ (s : Session sv.A) (known : Known sv kp v.good.g c.i s) where
        rises_or : Above (v.good.now.sessions c.i).incarnation (v.good.now.sessions c.i).counter s.incarnation s.counter ⊎ (v.good.now.sessions c.i ≡ s)
        rises_or =
            let f = first v.good.g v.good.inv (v.good.top.at.version - known.at.version) known.who v.good.top.who known.at v.good.top.at known.snap v.good.top.snap (omega (arith, v.good.top.highest known.who known.at known.snap)) in
            let n : Played sv = replay sv known.at.history in
            let r = replay_rises sv f.0 known.at.history c.i in
            let e : replay sv (f.0 ++ known.at.history) ≡ v.good.now = ap (replay sv) (sym f.1) ∙ v.good.top.is in
            subst (λ (z : Session sv.A). Above (v.good.now.sessions c.i).incarnation (v.good.now.sessions c.i).counter z.incarnation z.counter ⊎ (v.good.now.sessions c.i ≡ z)) known.is
            (subst (λ (z : Played sv). Above (z.sessions c.i).incarnation (z.sessions c.i).counter (n.sessions c.i).incarnation (n.sessions c.i).counter ⊎ (z.sessions c.i ≡ n.sessions c.i)) e r)

        free_step : (b : Bundle O) → w.turn.memory.way ≡ under b → b.incarnation ≡ s.incarnation → b.counter ≡ s.counter → Then w (freed s w.turn)
        free_step b e p q = go rises_or
          where
            o : OkOn sv kp v.good.g v.good.asked v.good.made c.i w.turn.memory (disk_of sv kp w)
            o = mine sv kp c w v

            me : OkOn sv kp v.good.g v.good.asked v.good.made c.i (freed s w.turn).memory (disk_of sv kp w)
            me = record { copy_is = o.copy_is; lags = o.lags; pass_is = o.pass_is; me_is = o.me_is; inc_is = o.inc_is; asked_low = o.asked_low; made_low = o.made_low; wait_is = o.wait_is; way_is = λ d f. no_under f; heard_is = o.heard_is; lead_is = o.lead_is }

            paid : (j : ℕ) → Owed sv kp v.good.now v.good.tale.rs j (put c.i (on (freed s w.turn).memory (disk_of sv kp w)) c.hs j)
            paid = each c.i _ c.hs (Owed sv kp v.good.now v.good.tale.rs) (λ d f. no_under f) (there c.i (on w.turn.memory (disk_of sv kp w)) c.hs (Owed sv kp v.good.now v.good.tale.rs) v.good.tale.owed)

            go : Above (v.good.now.sessions c.i).incarnation (v.good.now.sessions c.i).counter s.incarnation s.counter ⊎ (v.good.now.sessions c.i ≡ s) → Then w (freed s w.turn)
            go (inl a) =
                let y = o.way_is b e in
                absurd (session_low (subst (λ (z : ℕ). Above (v.good.now.sessions c.i).incarnation (v.good.now.sessions c.i).counter w.turn.memory.incarnation z) (sym q ∙ y.3) (subst (λ (z : ℕ). Above (v.good.now.sessions c.i).incarnation (v.good.now.sessions c.i).counter z s.counter) (sym p ∙ y.2) a)))
            go (inr f) =
                record {
                  good =
                      record {
                        g = v.good.g;
                        asked = v.good.asked;
                        made = v.good.made;
                        now = v.good.now;
                        inv = v.good.inv;
                        top = v.good.top;
                        book = v.good.book;
                        snaps = v.good.snaps;
                        wire = v.good.wire;
                        house = each c.i _ c.hs (Ok sv kp v.good.g v.good.asked v.good.made) me (there c.i (on w.turn.memory (disk_of sv kp w)) c.hs (Ok sv kp v.good.g v.good.asked v.good.made) v.good.house);
                        tale =
                            record {
                              ws = v.good.tale.ws;
                              rs = v.good.tale.rs;
                              f = v.good.tale.f;
                              line = v.good.tale.line;
                              open_yet = v.good.tale.open_yet;
                              apart = v.good.tale.apart;
                              owed = paid;
                              told = λ z m. here c.i (on w.turn.memory (disk_of sv kp w)) c.hs (Owed sv kp v.good.now v.good.tale.rs) v.good.tale.owed b e (p ∙ sym (ap (λ (k : Session sv.A). k.incarnation) f), q ∙ sym (ap (λ (k : Session sv.A). k.counter) f)) z (subst (λ (k : Session sv.A). Memᴰ z k.replies) (sym f) m);
                              told_apart = subst (λ (k : Session sv.A). Rattle.replicated.proofs.Lists.Apart (λ (z : Reply sv.A). z.id) k.replies) f (v.good.tale.apart c.i);
                              told_calm = λ z m. subst (Calm sv kp v.good.now c.i) (sym (Rattle.replicated.proofs.Lists.put_here c.i (on (freed s w.turn).memory (disk_of sv kp w)) c.hs)) (λ d g. no_under g);
                            };
                      };
                  grown = v.grown;
                  rests_yet = v.rests_yet;
                  sent = v.sent;
                }

        pub settles : Then w (settle s w.turn.memory.way w.turn)
        unfolding settle
        settles = go w.turn.memory.way refl
          where
            go : (u : Way O) → w.turn.memory.way ≡ u → Then w (settle s u w.turn)
            go free e = v
            go (under b) e = by_both (Then w) (eqb b.incarnation s.incarnation) (eqb b.counter s.counter) (λ p q. free_step b e (eqb-true _ _ p) (eqb-true _ _ q)) v

      pub settles_here : Then w (settle_here w.turn)
      unfolding settle_here
      settles_here =
          by_test (Then w) (ltb w.turn.memory.me 3)
          (λ e. let o = own_session (copy_here e) c.i in settles _ (record { who = o.who; at = o.at; snap = o.snap; is = o.is ∙ ap w.turn.sessions (sym (mine sv kp c w v).me_is) })) (λ _. v)
