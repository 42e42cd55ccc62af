-- What is sent at the end of an event: to whom, and of what.
use Rattle.std.specs.Prelude.{◌≡◌, ℕ, Bool, cond, List, [], ◌∷◌, Option, Some, None, ◌==◌}
use Rattle.std.proofs.Common.{refl, sym, subst, inl, inr}
use mathlib.Core.List.Memᴰ
use mathlib.Core.List.{Memᴰ}
use Rattle.agreement.proofs.Base.{by_test}
use Rattle.disks.specs.Cluster.{Out, Tell, Packet, packets}
use Rattle.copies.specs.Service.{Service, Keeper}
use Rattle.copies.specs.Messages.{Bundle, Reply, Session, Recovery, level, recovers, Agreeing, Status, Bundled, Done, Told, Asked, Given}
use Rattle.copies.specs.Copy.{Way, free, under, Whom, nobody, one, others, Serve}
use Rattle.copies.specs.House.{Post, Wholes, Messages, status_now, want_of, part_of, to_others, status_posts, bundle_posts, reply_posts, want_posts, part_posts, posts, posted, outs, finishes}

module _ {O R : Type 0} (sv : Service O R) (kp : Keeper sv) where
  -- a fact of each post, from facts of what may be among them
  module _ (P : ℕ → Messages sv kp → Type 0) where
    abbrev Each : List (Post (Messages sv kp)) → Type 0
    Each qs = (q : Post (Messages sv kp)) → Memᴰ q qs → P q.to q.what

    each_cons : (r : ℕ) (m : Messages sv kp) (qs : List (Post (Messages sv kp))) → P r m → Each qs → Each (record { to = r; what = m } ∷ qs)
    each_cons r m qs h f q n = elim (Memᴰ.cases_cons n) [ inl e ↦ subst (λ (z : Post (Messages sv kp)). P z.to z.what) (sym e) h | inr l ↦ f q l ]

    each_away : (me j : ℕ) (m : Messages sv kp) (qs : List (Post (Messages sv kp))) → P j m → Each qs → Each (cond (j == me) qs (record { to = j; what = m } ∷ qs))
    each_away me j m qs h f = by_test Each (j == me) (λ _. f) (λ _. each_cons j m qs h f)

    each_others : (me : ℕ) (m : Messages sv kp) (qs : List (Post (Messages sv kp))) → ((r : ℕ) → P r m) → Each qs → Each (to_others sv kp me m qs)
    unfolding to_others
    each_others me m qs h f = each_away me 0 m _ (h 0) (each_away me 1 m _ (h 1) (each_away me 2 m qs (h 2) f))

    each_status : (me : ℕ) (x : Status O) (u : Whom) (qs : List (Post (Messages sv kp))) → ((r : ℕ) → P r (Told x)) → Each qs → Each (status_posts sv kp me x u qs)
    unfolding status_posts
    each_status me x nobody qs h f = f
    each_status me x (one r) qs h f = each_cons r (Told x) qs (h r) f
    each_status me x others qs h f = each_others me (Told x) qs h f

    each_bundle : (me : ℕ) (b : Bool) (y : Way O) (qs : List (Post (Messages sv kp))) → ((c : Bundle O) → y ≡ under c → (r : ℕ) → P r (Bundled c)) → Each qs → Each (bundle_posts sv kp me b y qs)
    unfolding bundle_posts
    each_bundle me b free qs h f = f
    each_bundle me b (under c) qs h f = by_test Each b (λ _. each_others me (Bundled c) qs (h c refl) f) (λ _. f)

    each_reply : (done : ℕ → Session sv.A) (hs : List ℕ) (qs : List (Post (Messages sv kp))) → ((h : ℕ) → P h (Done (done h))) → Each qs → Each (reply_posts sv kp done hs qs)
    unfolding reply_posts
    each_reply done [] qs h f = f
    each_reply done (i ∷ hs) qs h f = each_cons i (Done (done i)) _ (h i) (each_reply done hs qs h f)

    each_want : (key : ℕ) (a : Agreeing O) (s : Option ℕ) (qs : List (Post (Messages sv kp))) → ((b t : ℕ) → a.recovery ≡ recovers b t → (r : ℕ) → P r (Asked (want_of sv kp b t key))) → Each qs → Each (want_posts sv kp key a s qs)
    unfolding want_posts
    each_want key a None qs h f = f
    each_want key a (Some r) qs h f = go a.recovery h
      where
        go : (u : Recovery) → ((b t : ℕ) → u ≡ recovers b t → (r : ℕ) → P r (Asked (want_of sv kp b t key))) → Each (want_posts sv kp key (record a { recovery = u }) (Some r) qs)
        go level g = f
        go (recovers b t) g = each_cons r (Asked (want_of sv kp b t key)) qs (g b t refl r) f

    each_part : (w : Wholes sv kp) (s : Option Serve) → ((z : Serve) → s ≡ Some z → P z.to (Given (part_of sv kp z.want w))) → Each (part_posts sv kp w s)
    unfolding part_posts
    each_part w None h = λ q n. absurd (Memᴰ.not-nil n)
    each_part w (Some z) h = each_cons z.to (Given (part_of sv kp z.want w)) [] (h z refl) (λ q n. absurd (Memᴰ.not-nil n))

    module _ (w : Wholes sv kp) (told : (r : ℕ) → P r (Told (status_now sv kp w.turn.agreeing))) (bundled : (c : Bundle O) → w.turn.memory.way ≡ under c → (r : ℕ) → P r (Bundled c)) (done : (h : ℕ) → P h (Done (w.turn.sessions h)))
        (asked : (b t : ℕ) → w.turn.agreeing.recovery ≡ recovers b t → (r : ℕ) → P r (Asked (want_of sv kp b t w.turn.memory.pass.key))) (given : (z : Serve) → w.turn.sends.serves ≡ Some z → P z.to (Given (part_of sv kp z.want w))) where
      pub each_post : (q : Post (Messages sv kp)) → Memᴰ q (posts sv kp w) → P q.to q.what
      unfolding posts
      each_post =
          each_status w.turn.memory.me (status_now sv kp w.turn.agreeing) w.turn.sends.status _ told
          (each_bundle w.turn.memory.me w.turn.sends.bundle w.turn.memory.way _ bundled
          (each_reply w.turn.sessions w.turn.sends.replies _ done
          (each_want w.turn.memory.pass.key w.turn.agreeing w.turn.sends.wants _ asked
          (each_part w w.turn.sends.serves given))))

  -- a packet of what a house gives is one of its posts
  pub record From (i : ℕ) (qs : List (Post (Messages sv kp))) (p : Packet (Messages sv kp)) : Type 0 where
    pub post : Post (Messages sv kp)
    pub inside : Memᴰ post qs
    pub is : p ≡ record { to = post.to; from = i; what = post.what }

  from_posted : (i : ℕ) (qs : List (Post (Messages sv kp))) (p : Packet (Messages sv kp)) → Memᴰ p (packets {R = R} i (posted sv kp qs)) → From i qs p
  unfolding packets posted
  from_posted i [] p n = absurd (Memᴰ.not-nil n)
  from_posted i (q ∷ qs) p n = elim (Memᴰ.cases_cons n) [
    | inl e ↦ record { post = q; inside = Memᴰ.head refl; is = e }
    | inr l ↦ let f = from_posted i qs p l in record { post = f.post; inside = Memᴰ.tail f.inside; is = f.is }
  ]

  out_packets : (i : ℕ) (ts : List (Reply sv.A)) (acc : List (Out (Messages sv kp) R)) → packets i (outs sv kp ts acc) ≡ packets i acc
  unfolding outs packets
  out_packets i [] acc = refl
  out_packets i (t ∷ ts) acc = out_packets i ts (Tell t.id (sv.says t.reply) ∷ acc)

  pub from_posts : (i : ℕ) (w : Wholes sv kp) (p : Packet (Messages sv kp)) → Memᴰ p (packets i (finishes sv kp w).out) → From i (posts sv kp w) p
  from_posts i w p n = from_posted i (posts sv kp w) p (subst (Memᴰ p) (out_packets i w.turn.told (posted sv kp (posts sv kp w))) n)
