-- What a status does, and a tick: a copy promises, leads, proposes, accepts, learns, or begins to recover.
use Rattle.std.proofs.Common.{◌≡◌, ℕ, suc, ◌%◌, ◌<◌, ◌≤◌, max, Bool, true, false, cond, not, ◌&&◌, ◌||◌, eqb, ltb, leb, ◌≢◌, ◌⊎◌, List, [], ◌∷◌, Some, sym, refl, ap, ◌∙◌, subst, inl, inr, arith, ltb-false, ltb-true, eqb-true, leb-true, leb-false, eq-eqb}
use mathlib.Core.List.Memᴰ
use mathlib.Core.List.{Memᴰ}
use borrow.Author.Tests.{eqb-false, not-true}
use Rattle.agreement.specs.Copies.{Proposal, nothing, voted, Copy, rank, higher}
use Rattle.agreement.proofs.Base.{by_test, by_three, Snap, Prop}
use Rattle.agreement.proofs.Propose.{Since}
use Rattle.agreement.proofs.Behind.{Behind, behind_nothing, behind_voted}
use Rattle.copies.specs.Service.{Service, Keeper, Lawful, Keeps}
use Rattle.copies.specs.Messages.{Bundle, Command, Reply, Session, Recovery, level, recovers, is_level, Status}
use Rattle.copies.specs.Copy.{others, Sends, Work, new_pass, is_nil, is_new, undone, houses_of, next_ballot, also, raised, agreed, proposing, forward, raising, telling, recovering, ahead, takes_over, may_lead, even, hears, asks_on, status_of, noted, on_status, resend, elect, stirs, on_tick, patience}
use Rattle.copies.specs.House.{Wholes, Turns, Messages, with_turn, does_work, works, disk_of}
use Rattle.replicated.proofs.Replay.{Within}
use Rattle.replicated.proofs.Caught.{AsOf, starts}
use Rattle.replicated.proofs.Good.{Promised, CopyIs, OkOn, Ok, Owed, Calm, Known, Said, told_of, MsgOk, msg_more, tale_swap}
use Rattle.replicated.proofs.Move.{Scene, Sent, At, sends_by, mine, memory_step, is_copy_of, cur, own_inside, own_leads, to_recovery, to_raised, to_lead, to_learned, to_accepted, to_proposed}
use Rattle.replicated.proofs.Bundles.{Then, to_say, copy_here, resent}

pub by_four : {A : Type 0} (P : A → Type 0) (a b c d : Bool) {x y : A} → (a ≡ true → b ≡ true → c ≡ true → d ≡ true → P x) → P y → P (cond (a && (b && (c && d))) x y)
by_four P true b c d f g = by_three P b c d (f refl) g
by_four P false b c d f g = g

pub by_five : {A : Type 0} (P : A → Type 0) (a b c d e : Bool) {x y : A} → (a ≡ true → b ≡ true → c ≡ true → d ≡ true → e ≡ true → P x) → P y → P (cond (a && (b && (c && (d && e)))) x y)
by_five P true b c d e f g = by_four P b c d e (f refl) g
by_five P false b c d e f g = g

-- both hold, or if the first does the second doesn't
pub by_and : {A : Type 0} (P : A → Type 0) (a b : Bool) {x y : A} → (a ≡ true → b ≡ true → P x) → ((a ≡ true → b ≡ false) → P y) → P (cond (a && b) x y)
by_and P true true f g = f refl refl
by_and P true false f g = g (λ _. refl)
by_and P false b f g = g (λ e. let z : ◌≡◌ {A = ℕ} 0 1 = cc in absurd (omega arith))

no_rank : {K : Type 0} (u : Proposal K) → rank u ≡ 0 → u ≡ nothing
no_rank nothing e = refl
no_rank (voted b k) e = absurd (omega arith)

pub level_is : (r : Recovery) → is_level r ≡ true → r ≡ level
level_is level e = refl
level_is (recovers a b) e = absurd (let z : ◌≡◌ {A = ℕ} 0 1 = cc in omega arith)

pub undone_in : {O A : Type 0} (bs : List (Bundle O)) (done : ℕ → Session A) (b : Bundle O) → Memᴰ b (undone bs done) → Memᴰ b bs
unfolding undone
undone_in [] done b m = m
undone_in {O} {A} (c ∷ bs) done b m = go (undone_in bs done b) m
  where
    go : (Memᴰ b (undone bs done) → Memᴰ b bs) → Memᴰ b (cond (is_new c done) (c ∷ undone bs done) (undone bs done)) → Memᴰ b (c ∷ bs)
    go f =
        by_test (λ (z : List (Bundle O)). Memᴰ b z → Memᴰ b (c ∷ bs)) (is_new c done) (λ _ n. elim (Memᴰ.cases_cons n) [ inl e ↦ Memᴰ.head e | inr k ↦ Memᴰ.tail (f k) ]) (λ _ n. Memᴰ.tail (f n))

module _ {O R : Type 0} (sv : Service O R) (kp : Keeper sv) where
  -- no work, no change
  pub idle : (c : Scene sv kp) (w : Wholes sv kp) → At sv kp c w → At sv kp c (works sv kp w)
  unfolding does_work
  idle c w v = subst (λ (y : Work sv.Rest sv.Block O sv.A). At sv kp c (does_work sv kp y w)) (sym v.rests_yet) v

  module _ (c : Scene sv kp) where
    abbrev pub ThenWork : Wholes sv kp → Turns sv kp → Type 0
    ThenWork w t = At sv kp c (works sv kp (with_turn sv kp t w))

    module _ (w : Wholes sv kp) (v : At sv kp c w) where
      pub to_quiet : (q : ℕ) → Then sv kp c w (record w.turn { memory = record w.turn.memory { quiet = q } })
      to_quiet q = memory_step sv kp c w v (record w.turn.memory { quiet = q }) w.turn.sends v.sent me (λ rs k. k) (λ k. k)
        where
          o : OkOn sv kp v.good.g v.good.asked v.good.made c.i w.turn.memory (disk_of sv kp w)
          o = mine sv kp c w v

          me : OkOn sv kp v.good.g v.good.asked v.good.made c.i (record w.turn.memory { quiet = q }) (disk_of sv kp w)
          me = record { copy_is = o.copy_is; lags = o.lags; pass_is = o.pass_is; me_is = o.me_is; inc_is = o.inc_is; asked_low = o.asked_low; made_low = o.made_low; wait_is = o.wait_is; way_is = o.way_is; heard_is = o.heard_is; lead_is = o.lead_is }

      pub quiet_msg : (q : ℕ) (r j : ℕ) (x : Messages sv kp) → MsgOk sv kp v.good.g v.good.made r j x → MsgOk sv kp (to_quiet q).good.g (to_quiet q).good.made r j x
      unfolding to_quiet memory_step
      quiet_msg q r j x h = h

      -- the pass stays where it is
      to_stir : (b : Bool) (n : Sends) → Sent sv kp c.i n → Then sv kp c w (record w.turn { memory = record w.turn.memory { pass = record w.turn.memory.pass { asked = b } }; sends = n })
      to_stir b n s = memory_step sv kp c w v (record w.turn.memory { pass = record w.turn.memory.pass { asked = b } }) n s me (λ rs k. k) (λ k. k)
        where
          o : OkOn sv kp v.good.g v.good.asked v.good.made c.i w.turn.memory (disk_of sv kp w)
          o = mine sv kp c w v

          same : (r : Recovery) → Rattle.replicated.proofs.Good.PassIs sv kp v.good.g w.turn.agreeing.version w.kept w.turn.memory.pass r → Rattle.replicated.proofs.Good.PassIs sv kp v.good.g w.turn.agreeing.version w.kept (record w.turn.memory.pass { asked = b }) r
          same level h = tt
          same (recovers x y) h = h

          me : OkOn sv kp v.good.g v.good.asked v.good.made c.i (record w.turn.memory { pass = record w.turn.memory.pass { asked = b } }) (disk_of sv kp w)
          me =
              record { copy_is = o.copy_is; lags = o.lags; pass_is = λ h. same w.turn.agreeing.recovery (o.pass_is h); me_is = o.me_is; inc_is = o.inc_is; asked_low = o.asked_low; made_low = o.made_low; wait_is = o.wait_is; way_is = o.way_is; heard_is = o.heard_is; lead_is = o.lead_is }

      module _ (hi : c.i < 3) where
        abbrev a : Copy (Command O)
        a = v.good.g.copy c.i

        is : CopyIs sv kp v.good.g a (disk_of sv kp w)
        is = is_copy_of sv kp c w v hi

        rank_is : rank w.turn.agreeing.proposal ≡ rank a.proposal
        rank_is = ap (rank {K = Command O}) is.proposal_is

        module _ (laws : Lawful sv) (keeps : Keeps sv kp) (none : (q : Reply sv.A) → Memᴰ q w.turn.told → ⊥) (r p : ℕ) (x : Copy (Command O)) (y : Status O) (h : Snap v.good.g r x) (ne : r ≢ c.i) (up : a.promised ≤ p) where
          abbrev s : Status O
          s = told_of x y

          tells_it : ThenWork w (telling r p w.turn)
          tells_it = idle c _ (to_raised sv kp c w v hi p up w.turn.memory.pass w.turn.memory.quiet (record w.turn.sends { status = also r w.turn.sends.status }) refl refl v.sent.serves_none)

          raises_it : ThenWork w (agreed (raised p w.turn.agreeing) w.turn)
          raises_it = idle c _ (to_raised sv kp c w v hi p up w.turn.memory.pass w.turn.memory.quiet w.turn.sends refl refl v.sent.serves_none)

          raises : ThenWork w (raising r p s w.turn)
          raises = by_test (λ (z : Turns sv kp). ThenWork w (agreed (raised p w.turn.agreeing) z)) (ltb w.turn.agreeing.promised p || ltb x.promised p) (λ _. tells_it) (λ _. raises_it)

          module _ (lev : w.turn.agreeing.recovery ≡ level) where
            -- I recover from now on
            begins : Behind v.good.g c.i → ThenWork w (recovering r p w.turn)
            begins b =
                idle c _ (to_recovery sv kp c w v hi p up (recovers w.turn.agreeing.version w.turn.agreeing.version) w.kept new_pass w.turn.memory.quiet (record w.turn.sends { wants = Some r }) w.turn.work w.turn.sessions w.rest v.rests_yet v.sent.serves_none is.sessions_is is.rest_is
                (λ k. subst (λ (n : ℕ). AsOf sv kp v.good.g w.kept n n k) (sym is.version_is) (starts sv kp keeps v.good.g w.kept c.i a (cur sv kp c w v hi) (Rattle.replicated.proofs.Move.own_shows sv kp c w v hi lev) k)) b refl)

            is_ahead : a.version < x.version → ThenWork w (ahead r p s w.turn.agreeing.proposal w.turn)
            unfolding ahead does_work
            is_ahead l = go w.turn.agreeing.proposal refl
              where
                go : (u : Proposal (Command O)) → w.turn.agreeing.proposal ≡ u → ThenWork w (ahead r p s u w.turn)
                go nothing e = begins (behind_nothing v.good.g c.i hi r x h l (sym is.proposal_is ∙ e))
                go (voted vb vk) e =
                    by_and (ThenWork w) (eqb x.version (suc w.turn.agreeing.version)) (leb x.last vb)
                    (λ d f. to_learned sv kp c w v hi laws keeps lev p up r x h vb vk (eqb-true _ _ d ∙ ap suc is.version_is) (sym is.proposal_is ∙ e) (leb-true _ _ f) (record w.turn.sends { replies = houses_of vk }) v.sent.serves_none)
                    (λ f. begins (behind_voted v.good.g c.i hi r x h l vb vk (sym is.proposal_is ∙ e) (λ d. omega (arith, leb-false _ _ (f (eq-eqb x.version (suc w.turn.agreeing.version) (d ∙ ap suc (sym is.version_is))))))))

            -- of two votes, the higher
            pick : (u n : Proposal (Command O)) (b : ℕ) (k : Command O) → higher u n ≡ voted b k → (u ≡ voted b k) ⊎ (n ≡ voted b k)
            pick u n b k = by_test (λ z. z ≡ voted b k → (u ≡ voted b k) ⊎ (n ≡ voted b k)) (ltb (rank u) (rank n)) (λ _ e. inr e) (λ _ e. inl e)

            pick_none : (u n : Proposal (Command O)) → higher u n ≡ nothing → n ≡ nothing
            pick_none u n = by_test (λ z. z ≡ nothing → n ≡ nothing) (ltb (rank u) (rank n)) (λ _ e. e) (λ l e. no_rank n (omega (arith, ltb-false _ _ l, ap (rank {K = Command O}) e)))

            pick_high : (u n : Proposal (Command O)) (b : ℕ) (k : Command O) → higher u n ≡ voted b k → (rank u ≤ suc b) × (rank n ≤ suc b)
            pick_high u n b k =
                by_test (λ z. z ≡ voted b k → (rank u ≤ suc b) × (rank n ≤ suc b)) (ltb (rank u) (rank n)) (λ l e. let f = ltb-true _ _ l in let g : rank n ≡ suc b = ap (rank {K = Command O}) e in (omega arith, omega arith))
                (λ l e. let f = ltb-false _ _ l in let g : rank u ≡ suc b = ap (rank {K = Command O}) e in (omega arith, omega arith))

            may_lead_is : x.version ≡ a.version → ThenWork w (may_lead r p s w.turn)
            unfolding may_lead takes_over
            may_lead_is same =
                by_three (ThenWork w) (eqb (p % 3) w.turn.memory.me) (eqb x.promised p) (not (eqb (rank w.turn.agreeing.proposal) (suc p)))
                (λ d e f. go (eqb-true _ _ d ∙ (mine sv kp c w v).me_is) (eqb-true _ _ e) (λ n. eqb-false _ _ (not-true _ f) (rank_is ∙ n)) (higher w.turn.agreeing.proposal x.proposal) refl) raises
              where
                go : p % 3 ≡ c.i → x.promised ≡ p → rank a.proposal ≢ suc p → (u : Proposal (Command O)) → higher w.turn.agreeing.proposal x.proposal ≡ u → ThenWork w (takes_over p u w.turn)
                go b d f nothing e = idle c _ (to_lead sv kp c w v hi p up r x h ne b d same (pick_none w.turn.agreeing.proposal x.proposal e))
                go b d f (voted n k) e =
                    idle c _ (to_proposed sv kp c w v hi lev p up r x h ne k within b d (omega arith) f (λ m o. record { ballot = n; over = omega (arith, rank_is, pick_high w.turn.agreeing.proposal x.proposal n k e); prop = prop }) (suc p) (λ m z. omega arith) (record w.turn.sends { status = others }) v.sent.serves_none)
                  where
                    within : Within sv v.good.made k
                    within = elim (pick w.turn.agreeing.proposal x.proposal n k e) [ inl f ↦ (own_inside sv kp c w v hi).vote n k (sym is.proposal_is ∙ f) | inr f ↦ (v.good.snaps r x h).vote n k f ]

                    prop : Prop v.good.g n a.version k
                    prop = elim (pick w.turn.agreeing.proposal x.proposal n k e) [
                      | inl f ↦ record { who = c.i; at = a; snap = cur sv kp c w v hi; votes = sym is.proposal_is ∙ f; place = refl }
                      | inr f ↦ record { who = r; at = x; snap = h; votes = f; place = same }
                    ]

            is_even : x.version ≡ a.version → ThenWork w (even r p s x.proposal w.turn)
            unfolding even does_work
            is_even same = go x.proposal refl
              where
                go : (u : Proposal (Command O)) → x.proposal ≡ u → ThenWork w (even r p s u w.turn)
                go nothing e = may_lead_is same
                go (voted b k) e =
                    by_three (ThenWork w) (eqb (p % 3) r) (eqb x.promised p) (eqb b p)
                    (λ _ _ d. to_accepted sv kp c w v hi laws keeps lev p up r x h ne none k (e ∙ ap (λ (n : ℕ). voted n k) (eqb-true _ _ d)) same (record w.turn.sends { status = also r w.turn.sends.status; replies = houses_of k }) v.sent.serves_none) (may_lead_is same)

            hears_it : ThenWork w (hears r p s w.turn)
            unfolding hears
            hears_it =
                by_test (ThenWork w) (ltb w.turn.agreeing.version x.version) (λ l. is_ahead (omega (arith, is.version_is, ltb-true _ _ l)))
                (λ l. by_test (ThenWork w) (ltb x.version w.turn.agreeing.version) (λ _. tells_it) (λ m. let d = ltb-false _ _ l in let e = ltb-false _ _ m in is_even (omega (arith, is.version_is))))

          -- I recover
          asks_it : ThenWork w (asks_on r p s w.turn)
          unfolding asks_on
          asks_it =
              by_test (ThenWork w) (not y.recovering && (leb w.turn.agreeing.version x.version && not w.turn.memory.pass.asked))
              (λ _. idle c _ (to_raised sv kp c w v hi p up (record w.turn.memory.pass { asked = true }) w.turn.memory.quiet (record w.turn.sends { wants = Some r }) refl refl v.sent.serves_none)) (λ _. raises_it)

          status_it : ThenWork w (status_of r p s w.turn.agreeing.recovery w.turn)
          unfolding status_of
          status_it = go w.turn.agreeing.recovery refl
            where
              go : (u : Recovery) → w.turn.agreeing.recovery ≡ u → ThenWork w (status_of r p s u w.turn)
              go level e = by_test (ThenWork w) y.recovering (λ _. tells_it) (λ _. hears_it e)
              go (recovers b t) e = asks_it

        lead_on : w.turn.agreeing.recovery ≡ level → w.turn.memory.lead ≡ suc w.turn.agreeing.promised → rank w.turn.agreeing.proposal ≡ 0 → Then sv kp c w (proposing (undone w.turn.memory.heard w.turn.sessions) w.turn)
        lead_on lev b d =
            to_proposed sv kp c w v hi lev w.turn.agreeing.promised (omega (arith, is.promised_is)) z.who z.at z.snap z.other k (λ y m. (mine sv kp c w v).heard_is y (undone_in w.turn.memory.heard _ y m)) (ap (λ (n : ℕ). n % 3) is.promised_is ∙ z.owner) (z.prom_is ∙ sym is.promised_is) z.behind
            (omega (arith, rank_is)) follows w.turn.memory.lead (λ n e. omega (arith, is.promised_is, (own_leads sv kp c w v hi n e).low)) (record w.turn.sends { status = others }) v.sent.serves_none
          where
            k : Command O
            k = undone w.turn.memory.heard w.turn.sessions

            z : Promised v.good.g c.i a
            z = (own_leads sv kp c w v hi w.turn.agreeing.promised b).now is.promised_is

            follows : (n : ℕ) → (n < rank a.proposal) ⊎ ((z.at.version ≡ a.version) × (n < rank z.at.proposal)) → Since v.good.g n a.version k
            follows n (inl l) = absurd (omega (arith, rank_is))
            follows n (inr l) = absurd (elim (z.when (no_rank a.proposal (sym rank_is ∙ d))) [ inl f ↦ omega (arith, l.0) | inr f ↦ omega (arith, l.1, ap (rank {K = Command O}) f) ])

        elects_it : Then sv kp c w (elect w.turn)
        unfolding elect
        elects_it =
            by_test (Then sv kp c w) (ltb (suc w.turn.memory.quiet) (patience w.turn.memory.me)) (λ _. to_quiet (suc w.turn.memory.quiet))
            (λ _. to_raised sv kp c w v hi (next_ballot w.turn.memory.me w.turn.agreeing.promised) (omega (arith, is.promised_is)) w.turn.memory.pass 0 (record w.turn.sends { status = others }) refl refl v.sent.serves_none)

        stirs_it : Then sv kp c w (stirs w.turn.agreeing.recovery w.turn)
        unfolding stirs
        stirs_it = go w.turn.agreeing.recovery
          where
            go : (u : Recovery) → Then sv kp c w (stirs u w.turn)
            go level = by_test (Then sv kp c w) (eqb w.turn.memory.lead (suc w.turn.agreeing.promised)) (λ _. to_say sv kp c w v (record w.turn.sends { status = others }) (sends_by sv kp c.i hi _ v.sent.serves_none)) (λ _. elects_it)
            go (recovers b t) = to_stir false (record w.turn.sends { status = others }) (sends_by sv kp c.i hi _ v.sent.serves_none)

      pub forwards : Then sv kp c w (forward w.turn)
      unfolding forward
      forwards =
          by_five (Then sv kp c w) (ltb w.turn.memory.me 3) (is_level w.turn.agreeing.recovery) (eqb w.turn.memory.lead (suc w.turn.agreeing.promised)) (eqb (rank w.turn.agreeing.proposal) 0) (not (is_nil (undone w.turn.memory.heard w.turn.sessions)))
          (λ b l d e _. lead_on (copy_here sv kp c w v b) (level_is _ l) (eqb-true _ _ d) (eqb-true _ _ e)) v

      -- a status that was had
      pub status : Lawful sv → Keeps sv kp → ((q : Reply sv.A) → Memᴰ q w.turn.told → ⊥) → (r : ℕ) (x : Copy (Command O)) (y : Status O) → Snap v.good.g r x → ltb w.turn.memory.me 3 ≡ true → not (eqb r w.turn.memory.me) ≡ true → ThenWork w (status_of r (max w.turn.agreeing.promised x.promised) (told_of x y) w.turn.agreeing.recovery w.turn)
      status laws keeps none r x y s b d =
          let hi = copy_here sv kp c w v b in
          status_it hi laws keeps none r (max w.turn.agreeing.promised x.promised) x y s (λ f. eqb-false _ _ (not-true _ d) (f ∙ sym (mine sv kp c w v).me_is)) (omega (arith, (is hi).promised_is))

    module _ (w : Wholes sv kp) (v : At sv kp c w) where
      pub told_status : Lawful sv → Keeps sv kp → ((q : Reply sv.A) → Memᴰ q w.turn.told → ⊥) → (r : ℕ) (x : Status O) → Said sv kp v.good.g r x → ThenWork w (on_status r x w.turn)
      unfolding on_status
      told_status laws keeps none r x h = subst (λ (z : Status O). ThenWork w (on_status r z w.turn)) (sym h.is) (go (told_of h.at x) (quiet_msg w v (noted r (told_of h.at x) w.turn).memory.quiet r c.i (Rattle.copies.specs.Messages.Told (told_of h.at x)) (record { at = h.at; snap = h.snap; is = refl })))
        where
          go : (z : Status O) → Said sv kp (to_quiet w v (noted r z w.turn).memory.quiet).good.g r z → ThenWork w (on_status r z w.turn)
          go z m =
              by_three (ThenWork w) (ltb w.turn.memory.me 3) (ltb r 3) (not (eqb r w.turn.memory.me))
              (λ b _ d. subst (λ (y : Status O). ThenWork w (status_of r (max w.turn.agreeing.promised y.promised) y w.turn.agreeing.recovery (noted r z w.turn))) (sym m.is) (status (with_turn sv kp (noted r z w.turn) w) (to_quiet w v (noted r z w.turn).memory.quiet) laws keeps none r m.at z m.snap b d)) (idle c _ v)

      pub ticks_it : Then sv kp c w (on_tick w.turn)
      unfolding on_tick
      ticks_it = by_test (Then sv kp c w) (ltb w.turn.memory.me 3) (λ b. stirs_it (with_turn sv kp (resend w.turn) w) (resent sv kp c w v) (copy_here sv kp c w v b)) (λ _. resent sv kp c w v)
