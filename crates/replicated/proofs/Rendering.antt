-- What is sent, rendered part by part.
use Rattle.std.proofs.Common.{◌≡◌, ℕ, zero, suc, Bool, true, false, cond, not, eqb, List, [], ◌∷◌, ◌++◌, map, filter, Option, Some, None, refl, sym, ap, ◌∙◌, append_assoc}
use Rattle.agreement.specs.Copies.{Proposal}
use Rattle.copies.specs.Service.{Service, Keeper}
use Rattle.copies.specs.Messages.{Command, Session, Recovery, level, recovers, Agreeing, Told, Bundled, Done}
use Rattle.copies.specs.Copy.{Way, free, under, Whom, nobody, one, others, Serve}
use Rattle.copies.specs.House.{Wholes, Messages, Post, away, to_others, status_now, status_posts, bundle_posts, reply_posts, want_posts, part_posts, posts}
use Rattle.copies.specs.Posts.{others_of, status_of, post_of, to_all, whom_of, bundle_of, reply_to, want_in, want_to, posts_of}
use Rattle.replicated.specs.Ties.{PostsRendered}

-- to the copies that aren't left out, by three tests
three : {M : Type 0} (m : M) (qs : List (Post M)) (a b c : Bool) →
    cond a (cond b (cond c qs (post_of m 2 ∷ qs)) (post_of m 1 ∷ cond c qs (post_of m 2 ∷ qs))) (post_of m 0 ∷ cond b (cond c qs (post_of m 2 ∷ qs)) (post_of m 1 ∷ cond c qs (post_of m 2 ∷ qs))) ≡
    map (post_of m) (cond (not a) (0 ∷ cond (not b) (1 ∷ cond (not c) (2 ∷ []) []) (cond (not c) (2 ∷ []) [])) (cond (not b) (1 ∷ cond (not c) (2 ∷ []) []) (cond (not c) (2 ∷ []) []))) ++ qs
three m qs true true true = refl
three m qs true true false = refl
three m qs true false true = refl
three m qs true false false = refl
three m qs false true true = refl
three m qs false true false = refl
three m qs false false true = refl
three m qs false false false = refl

module _ {O R : Type 0} (sv : Service O R) (kp : Keeper sv) where
  all_others : (me : ℕ) (m : Messages sv kp) (qs : List (Post (Messages sv kp))) → to_others sv kp me m qs ≡ to_all m (others_of me) ++ qs
  unfolding to_others
  all_others me m qs = three m qs (eqb 0 me) (eqb 1 me) (eqb 2 me)

  statuses : (me : ℕ) (w : Wholes sv kp) (z : Whom) (qs : List (Post (Messages sv kp))) →
      status_posts sv kp me (status_now sv kp w.turn.agreeing) z qs ≡ to_all (Told (status_of w.turn.agreeing)) (whom_of me z) ++ qs
  unfolding status_posts
  statuses me w nobody qs = refl
  statuses me w (one r) qs = refl
  statuses me w others qs = all_others me (Told (status_of w.turn.agreeing)) qs

  bundles : (me : ℕ) (b : Bool) (y : Way O) (qs : List (Post (Messages sv kp))) → bundle_posts sv kp me b y qs ≡ bundle_of me b y ++ qs
  unfolding bundle_posts
  bundles me b free qs = refl
  bundles me true (under c) qs = all_others me (Bundled c) qs
  bundles me false (under c) qs = refl

  replies : (done : ℕ → Session sv.A) (hs : List ℕ) (qs : List (Post (Messages sv kp))) → reply_posts sv kp done hs qs ≡ map (reply_to done) hs ++ qs
  unfolding reply_posts
  replies done [] qs = refl
  replies done (h ∷ hs) qs = ap (λ ps. reply_to done h ∷ ps) (replies done hs qs)

  asked : (key p v l : ℕ) (y : Proposal (Command O)) (z : Recovery) (r : ℕ) (qs : List (Post (Messages sv kp))) →
      want_posts sv kp key (record { promised = p; version = v; last = l; proposal = y; recovery = z }) (Some r) qs ≡ want_in key z r ++ qs
  unfolding want_posts
  asked key p v l y level r qs = refl
  asked key p v l y (recovers b t) r qs = refl

  wants : (key : ℕ) (w : Wholes sv kp) (z : Option ℕ) (qs : List (Post (Messages sv kp))) → want_posts sv kp key w.turn.agreeing z qs ≡ want_to key w.turn.agreeing.recovery z ++ qs
  unfolding want_posts
  wants key w None qs = refl
  wants key w (Some r) qs = asked key w.turn.agreeing.promised w.turn.agreeing.version w.turn.agreeing.last w.turn.agreeing.proposal w.turn.agreeing.recovery r qs

  pub rendered : (w : Wholes sv kp) → posts sv kp w ≡ posts_of w.turn ++ part_posts sv kp w w.turn.sends.serves
  unfolding posts posts_of
  rendered w =
      let ps = part_posts sv kp w w.turn.sends.serves in
      let qs = want_to w.turn.memory.pass.key w.turn.agreeing.recovery w.turn.sends.wants in
      let rs = map (reply_to w.turn.sessions) w.turn.sends.replies in
      let bs = bundle_of w.turn.memory.me w.turn.sends.bundle w.turn.memory.way in
      let ss = to_all (Told (status_of w.turn.agreeing)) (whom_of w.turn.memory.me w.turn.sends.status) in
      statuses w.turn.memory.me w w.turn.sends.status _
      ∙ ap (λ xs. ss ++ xs) (bundles w.turn.memory.me w.turn.sends.bundle w.turn.memory.way _
      ∙ ap (λ xs. bs ++ xs) (replies w.turn.sessions w.turn.sends.replies _ ∙ ap (λ xs. rs ++ xs) (wants w.turn.memory.pass.key w w.turn.sends.wants ps) ∙ sym (append_assoc rs qs ps)) ∙ sym (append_assoc bs (rs ++ qs) ps))
      ∙ sym (append_assoc ss (bs ++ (rs ++ qs)) ps)

pub posts_rendered : PostsRendered
posts_rendered O R sv kp w = rendered sv kp w
