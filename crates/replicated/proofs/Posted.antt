-- What is among the posts at the end of an event.
use Rattle.std.specs.Prelude.{◌≡◌, ℕ, zero, suc, Bool, true, false, List, [], ◌∷◌, Option, Some, None}
use Rattle.std.proofs.Common.{◌<◌, eqb, ◌≢◌, refl, sym, ap, subst, inl, inr, arith, eqb-true}
use mathlib.Core.List.Memᴰ
use mathlib.Core.List.{Memᴰ}
use Rattle.agreement.proofs.Base.{by_test}
use Rattle.agreement.specs.Copies.{Proposal}
use Rattle.copies.specs.Service.{Service, Keeper}
use Rattle.copies.specs.Messages.{Bundle, Command, Session, Recovery, level, recovers, Status, Bundled, Done, Told, Asked, Given}
use Rattle.copies.specs.Copy.{Way, free, under, Whom, nobody, one, others, Serve}
use Rattle.copies.specs.House.{Post, Wholes, Messages, away, status_now, want_of, part_of, to_others, status_posts, bundle_posts, reply_posts, want_posts, part_posts, posts}
use Rattle.replicated.proofs.Turns.{Reaches}

module _ {O R : Type 0} (sv : Service O R) (kp : Keeper sv) where
  abbrev pub Pos : Type 0
  Pos = Post (Messages sv kp)

  away_in : (me j : ℕ) (m : Messages sv kp) (qs : List Pos) (q : Pos) → Memᴰ q qs → Memᴰ q (away sv kp me j m qs)
  away_in me j m qs q k = by_test (λ z. Memᴰ q z) (eqb j me) (λ _. k) (λ _. Memᴰ.tail k)

  away_to : (me j : ℕ) (m : Messages sv kp) (qs : List Pos) → j ≢ me → Memᴰ (record { to = j; what = m }) (away sv kp me j m qs)
  away_to me j m qs n = by_test (λ z. Memᴰ (record { to = j; what = m }) z) (eqb j me) (λ e. absurd (n (eqb-true _ _ e))) (λ _. Memᴰ.head refl)

  others_in : (me : ℕ) (m : Messages sv kp) (qs : List Pos) (q : Pos) → Memᴰ q qs → Memᴰ q (to_others sv kp me m qs)
  unfolding to_others
  others_in me m qs q k = away_in me 0 m _ q (away_in me 1 m _ q (away_in me 2 m qs q k))

  others_to : (me : ℕ) (m : Messages sv kp) (qs : List Pos) (j : ℕ) → j < 3 → j ≢ me → Memᴰ (record { to = j; what = m }) (to_others sv kp me m qs)
  unfolding to_others
  others_to me m qs zero l n = away_to me 0 m _ n
  others_to me m qs (suc zero) l n = away_in me 0 m _ _ (away_to me 1 m _ n)
  others_to me m qs (suc (suc zero)) l n = away_in me 0 m _ _ (away_in me 1 m _ _ (away_to me 2 m qs n))
  others_to me m qs (suc (suc (suc j))) l n = absurd (omega arith)

  status_in : (me : ℕ) (x : Status O) (w : Whom) (qs : List Pos) (q : Pos) → Memᴰ q qs → Memᴰ q (status_posts sv kp me x w qs)
  unfolding status_posts
  status_in me x nobody qs q k = k
  status_in me x (one r) qs q k = Memᴰ.tail k
  status_in me x others qs q k = others_in me (Told x) qs q k

  status_to : (me : ℕ) (x : Status O) (w : Whom) (qs : List Pos) (j : ℕ) → Reaches j w → j < 3 → j ≢ me → Memᴰ (record { to = j; what = Told x }) (status_posts sv kp me x w qs)
  unfolding status_posts
  status_to me x nobody qs j r l n = elim r [ ]
  status_to me x (one k) qs j r l n = Memᴰ.head (ap (λ (z : ℕ). record { to = z; what = Told x }) (sym r))
  status_to me x others qs j r l n = others_to me (Told x) qs j l n

  bundle_in : (me : ℕ) (b : Bool) (w : Way O) (qs : List Pos) (q : Pos) → Memᴰ q qs → Memᴰ q (bundle_posts sv kp me b w qs)
  unfolding bundle_posts
  bundle_in me b free qs q k = k
  bundle_in me b (under c) qs q k = by_test (λ z. Memᴰ q z) b (λ _. others_in me (Bundled c) qs q k) (λ _. k)

  bundle_to : (me : ℕ) (b : Bool) (w : Way O) (c : Bundle O) (qs : List Pos) (j : ℕ) → b ≡ true → w ≡ under c → j < 3 → j ≢ me → Memᴰ (record { to = j; what = Bundled c }) (bundle_posts sv kp me b w qs)
  unfolding bundle_posts
  bundle_to me b free c qs j f e l n = absurd (let z : ◌≡◌ {A = ℕ} 0 1 = cc in omega arith)
  bundle_to me false (under d) c qs j f e l n = absurd (let z : ◌≡◌ {A = ℕ} 0 1 = cc in omega arith)
  bundle_to me true (under d) c qs j f e l n = let z : d ≡ c = cc in subst (λ (y : Bundle O). Memᴰ (record { to = j; what = Bundled y }) (to_others sv kp me (Bundled d) qs)) z (others_to me (Bundled d) qs j l n)

  reply_in : (done : ℕ → Session sv.A) (hs : List ℕ) (qs : List Pos) (q : Pos) → Memᴰ q qs → Memᴰ q (reply_posts sv kp done hs qs)
  unfolding reply_posts
  reply_in done [] qs q k = k
  reply_in done (h ∷ hs) qs q k = Memᴰ.tail (reply_in done hs qs q k)

  reply_to : (done : ℕ → Session sv.A) (hs : List ℕ) (qs : List Pos) (j : ℕ) → Memᴰ j hs → Memᴰ (record { to = j; what = Done (done j) }) (reply_posts sv kp done hs qs)
  unfolding reply_posts
  reply_to done [] qs j m = absurd (Memᴰ.not-nil m)
  reply_to done (h ∷ hs) qs j m = elim (Memᴰ.cases_cons m) [ inl e ↦ Memᴰ.head (ap (λ (z : ℕ). record { to = z; what = Done (done z) }) e) | inr n ↦ Memᴰ.tail (reply_to done hs qs j n) ]

  want_in : (key : ℕ) (p v l : ℕ) (u : Proposal (Command O)) (y : Recovery) (o : Option ℕ) (qs : List Pos) (q : Pos) → Memᴰ q qs → Memᴰ q (want_posts sv kp key (record { promised = p; version = v; last = l; proposal = u; recovery = y }) o qs)
  unfolding want_posts
  want_in key p v l u y None qs q k = k
  want_in key p v l u level (Some r) qs q k = k
  want_in key p v l u (recovers b t) (Some r) qs q k = Memᴰ.tail k

  want_to : (key : ℕ) (p v l : ℕ) (u : Proposal (Command O)) (y : Recovery) (b t : ℕ) (o : Option ℕ) (r : ℕ) (qs : List Pos) → o ≡ Some r → y ≡ recovers b t →
      Memᴰ (record { to = r; what = Asked (want_of sv kp b t key) }) (want_posts sv kp key (record { promised = p; version = v; last = l; proposal = u; recovery = y }) o qs)
  unfolding want_posts
  want_to key p v l u y b t None r qs e f = absurd (let z : ◌≡◌ {A = ℕ} 0 1 = cc in omega arith)
  want_to key p v l u level b t (Some q) r qs e f = absurd (let z : ◌≡◌ {A = ℕ} 0 1 = cc in omega arith)
  want_to key p v l u (recovers c d) b t (Some q) r qs e f = let x : q ≡ r = cc in let y : c ≡ b = cc in let z : d ≡ t = cc in Memᴰ.head (same x y z)
    where
      same : {q r c b d t : ℕ} → q ≡ r → c ≡ b → d ≡ t → ◌≡◌ {A = Pos} (record { to = r; what = Asked (want_of sv kp b t key) }) (record { to = q; what = Asked (want_of sv kp c d key) })
      same e f g = cc

  part_to : (w : Wholes sv kp) (o : Option Serve) (s : Serve) → o ≡ Some s → Memᴰ (record { to = s.to; what = Given (part_of sv kp s.want w) }) (part_posts sv kp w o)
  unfolding part_posts
  part_to w None s e = absurd (let z : ◌≡◌ {A = ℕ} 0 1 = cc in omega arith)
  part_to w (Some z) s e = let y : z ≡ s = cc in Memᴰ.head (ap (λ (k : Serve). record { to = k.to; what = Given (part_of sv kp k.want w) }) (sym y))

  module _ (w : Wholes sv kp) where
    pub post_status : (j : ℕ) → Reaches j w.turn.sends.status → j < 3 → j ≢ w.turn.memory.me → Memᴰ (record { to = j; what = Told (status_now sv kp w.turn.agreeing) }) (posts sv kp w)
    unfolding posts
    post_status j r l n = status_to _ _ w.turn.sends.status _ j r l n

    pub post_bundle : (j : ℕ) (b : Bundle O) → w.turn.sends.bundle ≡ true → w.turn.memory.way ≡ under b → j < 3 → j ≢ w.turn.memory.me → Memᴰ (record { to = j; what = Bundled b }) (posts sv kp w)
    unfolding posts
    post_bundle j b e f l n = status_in _ _ _ _ _ (bundle_to _ _ w.turn.memory.way b _ j e f l n)

    pub post_reply : (j : ℕ) → Memᴰ j w.turn.sends.replies → Memᴰ (record { to = j; what = Done (w.turn.sessions j) }) (posts sv kp w)
    unfolding posts
    post_reply j m = status_in _ _ _ _ _ (bundle_in _ _ w.turn.memory.way _ _ (reply_to _ _ _ j m))

    pub post_want : (r b t : ℕ) → w.turn.sends.wants ≡ Some r → w.turn.agreeing.recovery ≡ recovers b t → Memᴰ (record { to = r; what = Asked (want_of sv kp b t w.turn.memory.pass.key) }) (posts sv kp w)
    unfolding posts
    post_want r b t e f = status_in _ _ _ _ _ (bundle_in _ _ w.turn.memory.way _ _ (reply_in _ _ _ _ (want_to _ _ _ _ _ w.turn.agreeing.recovery b t _ r _ e f)))

    pub post_part : (s : Serve) → w.turn.sends.serves ≡ Some s → Memᴰ (record { to = s.to; what = Given (part_of sv kp s.want w) }) (posts sv kp w)
    unfolding posts
    post_part s e = status_in _ _ _ _ _ (bundle_in _ _ w.turn.memory.way _ _ (reply_in _ _ _ _ (want_in _ _ _ _ _ w.turn.agreeing.recovery _ _ _ (part_to w _ s e))))
