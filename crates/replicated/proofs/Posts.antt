-- What is sent at the end of an event is so of what is stored.
use Rattle.std.proofs.Common.{◌≡◌, ℕ, ◌<◌, Bool, eqb, ltb, ◌⊎◌, List, [], ◌∷◌, Option, Some, None, sym, refl, ◌∙◌, subst, inl, inr, arith}
use mathlib.Core.List.Memᴰ
use mathlib.Core.List.{Memᴰ}
use Rattle.agreement.proofs.Base.{by_test, by_both}
use Rattle.disks.specs.Cluster.{put}
use Rattle.compose.specs.Pure.{on}
use Rattle.copies.specs.Service.{Service, Keeper, Keeps}
use Rattle.copies.specs.Messages.{Bundle, Session, Recovery, level, recovers, is_level, Agreeing, Status, Want, Bundled, Done, Told, Asked, Given}
use Rattle.copies.specs.Copy.{Way, free, under, Whom, nobody, one, others, Serve, on_want}
use Rattle.copies.specs.House.{Wholes, Turns, Messages, Post, with_turn, disk_of, status_now, away, to_others, status_posts, bundle_posts, reply_posts, want_posts, part_of, part_posts, posts}
use Rattle.replicated.proofs.Caught.{part_says}
use Rattle.replicated.proofs.Good.{Grown, Said, MsgOk, Good}
use Rattle.replicated.proofs.Move.{Scene, At, mine, is_copy_of, own_shows, cur}
use Rattle.replicated.proofs.Bundles.{copy_here, own_session}
use Rattle.replicated.proofs.Statuses.{level_is}

module _ {O R : Type 0} (sv : Service O R) (kp : Keeper sv) where
  -- each of these posts
  abbrev pub Each : (P : ℕ → Messages sv kp → Type 0) → List (Post (Messages sv kp)) → Type 0
  Each P qs = (q : Post (Messages sv kp)) → Memᴰ q qs → P q.to q.what

  module _ (P : ℕ → Messages sv kp → Type 0) where
    one_post : (j : ℕ) (m : Messages sv kp) (qs : List (Post (Messages sv kp))) → P j m → Each P qs → Each P (record { to = j; what = m } ∷ qs)
    one_post j m qs f g q n = elim (Memᴰ.cases_cons n) [ inl e ↦ subst (λ (z : Post (Messages sv kp)). P z.to z.what) (sym e) f | inr k ↦ g q k ]

    away_posts : (me j : ℕ) (m : Messages sv kp) (qs : List (Post (Messages sv kp))) → P j m → Each P qs → Each P (away sv kp me j m qs)
    away_posts me j m qs f g = by_test (Each P) (eqb j me) (λ _. g) (λ _. one_post j m qs f g)

    others_posts : (me : ℕ) (m : Messages sv kp) (qs : List (Post (Messages sv kp))) → ((j : ℕ) → P j m) → Each P qs → Each P (to_others sv kp me m qs)
    unfolding to_others
    others_posts me m qs f g = away_posts me 0 m _ (f 0) (away_posts me 1 m _ (f 1) (away_posts me 2 m qs (f 2) g))

    statuses : (me : ℕ) (x : Status O) (u : Whom) (qs : List (Post (Messages sv kp))) → (u ≡ nobody) ⊎ ((j : ℕ) → P j (Told x)) → Each P qs → Each P (status_posts sv kp me x u qs)
    unfolding status_posts
    statuses me x nobody qs f g = g
    statuses me x (one r) qs f g = one_post r (Told x) qs (elim f [ inl e ↦ absurd (let z : ◌≡◌ {A = ℕ} 0 1 = cc in omega arith) | inr h ↦ h r ]) g
    statuses me x others qs f g = others_posts me (Told x) qs (elim f [ inl e ↦ absurd (let z : ◌≡◌ {A = ℕ} 0 1 = cc in omega arith) | inr h ↦ h ]) g

    bundles : (me : ℕ) (b : Bool) (u : Way O) (qs : List (Post (Messages sv kp))) → ((d : Bundle O) → u ≡ under d → (j : ℕ) → P j (Bundled d)) → Each P qs → Each P (bundle_posts sv kp me b u qs)
    unfolding bundle_posts
    bundles me b free qs f g = g
    bundles me b (under d) qs f g = by_test (Each P) b (λ _. others_posts me (Bundled d) qs (f d refl) g) (λ _. g)

    replied : (done : ℕ → Session sv.A) (hs : List ℕ) (qs : List (Post (Messages sv kp))) → ((j : ℕ) → Memᴰ j hs → P j (Done (done j))) → Each P qs → Each P (reply_posts sv kp done hs qs)
    unfolding reply_posts
    replied done [] qs f g = g
    replied done (h ∷ hs) qs f g = one_post h (Done (done h)) _ (f h (Memᴰ.head refl)) (replied done hs qs (λ j m. f j (Memᴰ.tail m)) g)

    wanted : (key : ℕ) (a : Agreeing O) (u : Option ℕ) (qs : List (Post (Messages sv kp))) → ((j : ℕ) (q : Want) → P j (Asked q)) → Each P qs → Each P (want_posts sv kp key a u qs)
    unfolding want_posts
    wanted key a None qs f g = g
    wanted key a (Some r) qs f g = go a.recovery refl
      where
        go : (u : Recovery) → a.recovery ≡ u → Each P (want_posts sv kp key a (Some r) qs)
        go level e = rw e g
        go (recovers b t) e = rw e (one_post r _ qs (f r _) g)

    parted : (w : Wholes sv kp) (u : Option Serve) → ((s : Serve) → u ≡ Some s → P s.to (Given (part_of sv kp s.want w))) → Each P (part_posts sv kp w u)
    unfolding part_posts
    parted w None f = λ q m. absurd (Memᴰ.not-nil m)
    parted w (Some s) f = one_post s.to _ [] (f s refl) (λ q m. absurd (Memᴰ.not-nil m))

  -- the event is over: what is sent is so
  pub record Over (c : Scene sv kp) (w : Wholes sv kp) : Type 0 where
    pub good : Good sv kp c.es (put c.i (on w.turn.memory (disk_of sv kp w)) c.hs) c.ps c.i w.turn.told
    pub grown : Grown c.before good.g
    pub sent : (q : Post (Messages sv kp)) → Memᴰ q (posts sv kp w) → MsgOk sv kp good.g good.made c.i q.to q.what

  module _ (c : Scene sv kp) (w : Wholes sv kp) (v : At sv kp c w) where
    abbrev Fits : ℕ → Messages sv kp → Type 0
    Fits j m = MsgOk sv kp v.good.g v.good.made c.i j m

    said_now : c.i < 3 → Said sv kp v.good.g c.i (status_now sv kp w.turn.agreeing)
    said_now hi =
        let is = is_copy_of sv kp c w v hi in
        record { at = v.good.g.copy c.i; snap = cur sv kp c w v hi; is = λ j. record { promised = is.promised_is j; version = is.version_is j; last = is.last_is j; proposal = is.proposal_is j; recovering = (status_now sv kp w.turn.agreeing).recovering } }

    -- all but a part
    most_sent : (u : Option Serve) → ((s : Serve) → u ≡ Some s → Fits s.to (Given (part_of sv kp s.want (record w { turn = record w.turn { sends = record w.turn.sends { serves = u } } })))) → Each Fits (posts sv kp (record w { turn = record w.turn { sends = record w.turn.sends { serves = u } } }))
    unfolding posts
    most_sent u f =
        statuses Fits w.turn.memory.me (status_now sv kp w.turn.agreeing) w.turn.sends.status _ (elim v.sent.few [ inl hi ↦ inr (λ j. said_now hi) | inr e ↦ inl e.0 ])
        (bundles Fits w.turn.memory.me w.turn.sends.bundle w.turn.memory.way _ (λ d e j. ((mine sv kp c w v).way_is d e).0)
        (replied Fits w.turn.sessions w.turn.sends.replies _ (λ j m. elim v.sent.few [ inl hi ↦ own_session sv kp c w v hi j | inr e ↦ absurd (Memᴰ.not-nil (subst (Memᴰ j) e.1 m)) ])
        (wanted Fits w.turn.memory.pass.key w.turn.agreeing w.turn.sends.wants _ (λ j q. tt)
        (parted Fits (record w { turn = record w.turn { sends = record w.turn.sends { serves = u } } }) u f))))

    pub over : Over c w
    over =
        record {
          good = v.good;
          grown = v.grown;
          sent = most_sent w.turn.sends.serves (λ s e. absurd (none_some (sym v.sent.serves_none ∙ e)));
        }
      where
        none_some : {s : Serve} → None ≡ Some s → ⊥
        none_some e = let z : ◌≡◌ {A = ℕ} 0 1 = cc in omega arith

    -- a copy that doesn't recover gives what is wanted
    pub serves_it : Keeps sv kp → (r : ℕ) (q : Want) → Over c (with_turn sv kp (on_want r q w.turn) w)
    unfolding on_want
    serves_it keeps r q = by_both (λ (t : Turns sv kp). Over c (with_turn sv kp t w)) (ltb w.turn.memory.me 3) (is_level w.turn.agreeing.recovery) (λ d e. go (copy_here sv kp c w v d) (level_is _ e)) over
      where
        go : c.i < 3 → w.turn.agreeing.recovery ≡ level → Over c (with_turn sv kp (record w.turn { sends = record w.turn.sends { serves = Some (record { to = r; want = q }) } }) w)
        go hi e =
            let is = is_copy_of sv kp c w v hi in
            record {
              good = v.good;
              grown = v.grown;
              sent = most_sent (Some (record { to = r; want = q })) (λ s f. part_says sv kp keeps v.good.g s.want _ c.i (v.good.g.copy c.i) (cur sv kp c w v hi) is.promised_is is.version_is is.last_is is.sessions_is is.rest_is (own_shows sv kp c w v hi e));
            }
