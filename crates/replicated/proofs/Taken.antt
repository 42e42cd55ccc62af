-- A part is taken over: a copy that recovers comes nearer, or is done.
use Rattle.std.proofs.Common.{◌≡◌, ℕ, ◌<◌, ◌≤◌, min, max, Bool, true, false, cond, ◌&&◌, eqb, ltb, leb, ◌⊎◌, Option, Some, None, sym, refl, ap, ◌∙◌, subst, inl, inr, arith, eqb-true, leb-true, eqb-true, le-leb, lt-ltb}
use borrow.Author.Tests.{eqb-false}
use native.Mathlib.Decide.{dec_le}
use Rattle.agreement.specs.Copies.{Copy}
use Rattle.agreement.proofs.Base.{by_test, by_three}
use Rattle.agreement.proofs.Behind.{Behind}
use Rattle.copies.specs.Service.{Service, Keeper, Lawful, Keeps, in_range}
use Rattle.copies.specs.Messages.{Command, Session, Recovery, level, recovers, Want, Tail, more, ends, next_key}
use Rattle.copies.specs.Copy.{Span, unseen, from_to, Pass, Sends, rests, new_pass, is_asked, widened, also, ended, adopted, saying_to, on_part, passed, tail_taken, taken, begins_again}
use Rattle.copies.specs.House.{Wholes, Turns, Parts, with_turn, put_rest, stowed, does_work, disk_of}
use Rattle.copies.specs.Promise.{replay}
use Rattle.replicated.proofs.Caught.{AsOf, PartOk, as_of_wider, none_right, takes_range, ends_shows}
use Rattle.replicated.proofs.Good.{Lags, Blocks, CopyIs, Passing, PassIs}
use Rattle.replicated.proofs.Move.{Scene, At, mine, is_copy_of, cur, to_recovery, to_adopted}
use Rattle.replicated.proofs.Statuses.{idle, ThenWork}
use Rattle.replicated.proofs.Bundles.{copy_here}

two_true : (a b : Bool) → (a && b) ≡ true → (a ≡ true) × (b ≡ true)
two_true true b e = (refl, e)
two_true false b e = absurd (let z : ◌≡◌ {A = ℕ} 0 1 = cc in omega arith)

and_true : (a b : Bool) → a ≡ true → b ≡ true → (a && b) ≡ true
and_true true b e f = f
and_true false b e f = e

-- what is asked for is what the copy wants
asked_is : (w : Want) (p : Pass) (b t : ℕ) → is_asked w p (recovers b t) ≡ true → w ≡ record { base = b; top = t; key = p.key }
asked_is w p b t e =
    let u = two_true _ _ e in
    let n = two_true _ _ u.1 in
    let x : w.base ≡ b = eqb-true _ _ u.0 in
    let y : w.top ≡ t = eqb-true _ _ n.0 in
    let z : w.key ≡ p.key = eqb-true _ _ n.1 in
    λ j. record { base = x j; top = y j; key = z j }

abbrev low_of : ℕ → Span → ℕ
low_of v unseen = v
low_of v (from_to l h) = min l v

abbrev high_of : ℕ → Span → ℕ
high_of v unseen = v
high_of v (from_to l h) = max h v

widened_is : (v : ℕ) (u : Span) → widened v u ≡ from_to (low_of v u) (high_of v u)
widened_is v unseen = refl
widened_is v (from_to l h) = refl

module _ {O R : Type 0} (sv : Service O R) (kp : Keeper sv) (laws : Lawful sv) (keeps : Keeps sv kp) (c : Scene sv kp) (w : Wholes sv kp) (v : At sv kp c w) (hi : c.i < 3) (r : ℕ) (x : Parts sv kp) (ok : PartOk sv kp v.good.g x) (b t : ℕ) (rec : w.turn.agreeing.recovery ≡ recovers b t)
    (asked : x.asked ≡ record { base = b; top = t; key = w.turn.memory.pass.key }) (far : w.turn.agreeing.version ≤ x.version) where
  abbrev a : Copy (Command O)
  a = v.good.g.copy c.i

  is : CopyIs sv kp v.good.g a (disk_of sv kp w)
  is = is_copy_of sv kp c w v hi

  far_is : a.version ≤ x.version
  far_is = omega (arith, is.version_is)

  lags : Behind v.good.g c.i
  lags = subst (Lags v.good.g c.i) rec ((mine sv kp c w v).lags hi)

  pass_now : Passing sv kp v.good.g w.turn.agreeing.version w.kept b t w.turn.memory.pass.key w.turn.memory.pass.span
  pass_now = subst (PassIs sv kp v.good.g w.turn.agreeing.version w.kept w.turn.memory.pass) rec ((mine sv kp c w v).pass_is hi)

  -- there is no place for it
  starts_over : At sv kp c (record w { turn = begins_again r w.turn; kept = kp.none })
  starts_over =
      to_recovery sv kp c w v hi w.turn.agreeing.promised (omega (arith, is.promised_is)) (recovers 0 0) kp.none new_pass w.turn.memory.quiet (record w.turn.sends { wants = Some r }) rests w.turn.sessions w.rest refl v.sent.serves_none is.sessions_is is.rest_is
      (none_right sv kp keeps v.good.g) lags refl

  module _ (s : kp.Kept) (took : kp.take w.rest x.whole x.asked.key (next_key x.tail) x.floor x.blocks w.kept ≡ Some s) where
    in_part : (k : ℕ) → in_range x.asked.key (next_key x.tail) k ≡ true → AsOf sv kp v.good.g s x.version x.version k
    in_part = (takes_range sv kp laws keeps v.good.g v.good.inv w.kept s b t w.turn.memory.pass.key x w.rest c.i a (subst (Blocks sv kp v.good.g a w.kept) rec is.blocks_is) ok asked (cur sv kp c w v hi) far_is is.rest_is took).0

    each_key : (k : ℕ) → AsOf sv kp v.good.g s (min b x.version) (max t x.version) k
    each_key = (takes_range sv kp laws keeps v.good.g v.good.inv w.kept s b t w.turn.memory.pass.key x w.rest c.i a (subst (Blocks sv kp v.good.g a w.kept) rec is.blocks_is) ok asked (cur sv kp c w v hi) far_is is.rest_is took).1

    still_of : (lo high k : ℕ) → lo ≤ x.version → x.version ≤ high → AsOf sv kp v.good.g w.kept lo high k → AsOf sv kp v.good.g s lo high k
    still_of = (takes_range sv kp laws keeps v.good.g v.good.inv w.kept s b t w.turn.memory.pass.key x w.rest c.i a (subst (Blocks sv kp v.good.g a w.kept) rec is.blocks_is) ok asked (cur sv kp c w v hi) far_is is.rest_is took).2

    -- the pass is past a key, or the part has it
    abbrev Met : ℕ → Type 0
    Met k = (k < w.turn.memory.pass.key) ⊎ (in_range x.asked.key (next_key x.tail) k ≡ true)

    -- the versions of the pass so far, and this one
    record Wider (l h : ℕ) : Type 0 where
      pub ordered : l ≤ h
      pub over : w.turn.agreeing.version ≤ l
      pub from_base : min b x.version ≤ l
      pub to_top : h ≤ max t x.version
      pub low : l ≤ x.version
      pub high : x.version ≤ h
      pub keys : (k : ℕ) → Met k → AsOf sv kp v.good.g s l h k

    wider : Wider (low_of x.version w.turn.memory.pass.span) (high_of x.version w.turn.memory.pass.span)
    wider = go w.turn.memory.pass.span pass_now
      where
        go : (u : Span) → Passing sv kp v.good.g w.turn.agreeing.version w.kept b t w.turn.memory.pass.key u → Wider (low_of x.version u) (high_of x.version u)
        go unseen e =
            record { ordered = omega arith; over = far; from_base = omega arith; to_top = omega arith; low = omega arith; high = omega arith; keys = λ k m. elim m [ inl l ↦ absurd (omega (arith, e)) | inr i ↦ in_part k i ] }
        go (from_to l h) e =
            record {
              ordered = omega (arith, e.ordered);
              over = omega (arith, e.over);
              from_base = omega (arith, e.from_base);
              to_top = omega (arith, e.to_top);
              low = omega arith;
              high = omega arith;
              keys = λ k m. elim m [
                | inl n ↦ still_of (min l x.version) (max h x.version) k (omega arith) (omega arith) (as_of_wider sv kp v.good.g w.kept l h (min l x.version) (max h x.version) k (omega arith) (omega arith) (e.keys k n))
                | inr i ↦ as_of_wider sv kp v.good.g s x.version x.version (min l x.version) (max h x.version) k (omega arith) (omega arith) (in_part k i)
              ];
            }

    key_is : x.asked.key ≡ w.turn.memory.pass.key
    key_is = ap (λ (q : Want). q.key) asked

    met_more : (m : ℕ) → x.tail ≡ more m → (k : ℕ) → k < m → Met k
    met_more m e k l = elim (dec_le w.turn.memory.pass.key k) [
      | yes d ↦ inr (subst (λ (z : Tail sv.Rest sv.A). in_range x.asked.key (next_key z) k ≡ true) (sym e) (and_true (leb x.asked.key k) (ltb k m) (le-leb x.asked.key k (omega (arith, key_is))) (lt-ltb k m l)))
      | no d ↦ inl (omega arith)
    ]

    met_all : (rest : sv.Rest) (done : ℕ → Session sv.A) → x.tail ≡ ends rest done → (k : ℕ) → Met k
    met_all rest done e k = elim (dec_le w.turn.memory.pass.key k) [
      | yes d ↦ inr (subst (λ (z : Tail sv.Rest sv.A). in_range x.asked.key (next_key z) k ≡ true) (sym e) (le-leb x.asked.key k (omega (arith, key_is))))
      | no d ↦ inl (omega arith)
    ]

    abbrev p : ℕ
    p = max w.turn.agreeing.promised x.promised

    up : a.promised ≤ p
    up = omega (arith, is.promised_is)

    -- what the part leaves
    abbrev Put : Turns sv kp → Type 0
    Put u = At sv kp c (put_rest sv kp u.work (record w { turn = u; kept = s }))

    -- all are of one version
    module _ (rest : sv.Rest) (done : ℕ → Session sv.A) (e : x.tail ≡ ends rest done) (one : (k : ℕ) → AsOf sv kp v.good.g s x.version x.version k) where
      rest_is : rest ≡ (replay sv ok.at.history).place.rest
      rest_is = (ok.ends_is rest done e).0

      done_is : done ≡ (replay sv ok.at.history).sessions
      done_is = (ok.ends_is rest done e).1

      finished : Put (record (saying_to r w.turn) { agreeing = cond (eqb x.version w.turn.agreeing.version) (ended p w.turn.agreeing) (adopted p x.version x.last w.turn.agreeing); sessions = done; work = Rattle.copies.specs.Copy.replaces rest })
      unfolding put_rest
      finished =
          by_test (λ (z : _). Put (record (saying_to r w.turn) { agreeing = z; sessions = done; work = Rattle.copies.specs.Copy.replaces rest })) (eqb x.version w.turn.agreeing.version)
          (λ f. let n : a.version ≡ x.version = sym is.version_is ∙ sym (eqb-true _ _ f) in
          let h = v.good.inv.same ok.who c.i ok.at a ok.snap (cur sv kp c w v hi) (sym ok.version_is ∙ sym n) in
          to_recovery sv kp c w v hi p up level s w.turn.memory.pass w.turn.memory.quiet (record w.turn.sends { status = also r w.turn.sends.status }) rests done rest refl v.sent.serves_none (done_is ∙ ap (λ (z : _). (replay sv z).sessions) h) (rest_is ∙ ap (λ (z : _). (replay sv z).place.rest) h)
          (ends_shows sv kp laws keeps v.good.g v.good.inv s x.version c.i a one (cur sv kp c w v hi) n) tt tt)
          (λ f. to_adopted sv kp c w v hi p up ok.who ok.at ok.snap (further (eqb-false _ _ f)) (record w.turn.sends { status = also r w.turn.sends.status }) rests done rest s w.turn.memory.pass x.version x.last refl v.sent.serves_none ok.version_is ok.last_is done_is rest_is
          (ends_shows sv kp laws keeps v.good.g v.good.inv s x.version ok.who ok.at one ok.snap (sym ok.version_is)))
        where
          further : (x.version ≡ w.turn.agreeing.version → ⊥) → a.version < ok.at.version
          further f = omega (arith, f, far, is.version_is, ok.version_is)

    takes_it : Put (taken r x w.turn)
    unfolding tail_taken passed put_rest
    takes_it = go x.tail refl w.turn.agreeing.recovery rec
      where
        ends_it : (rest : sv.Rest) (done : ℕ → Session sv.A) → x.tail ≡ ends rest done → (l h : ℕ) → Wider l h → Put (passed r p x rest done (from_to l h) (record w.turn { work = rests }))
        ends_it rest done e l h q =
            by_test Put (eqb l h)
            (λ f. let n : l ≡ h = eqb-true _ _ f in finished rest done e (λ k. as_of_wider sv kp v.good.g s l h x.version x.version k (omega (arith, n, q.low, q.high)) (omega (arith, n, q.low, q.high)) (q.keys k (met_all rest done e k))))
            (λ _. to_recovery sv kp c w v hi p up (recovers l h) s new_pass w.turn.memory.quiet (record w.turn.sends { wants = Some r }) rests w.turn.sessions w.rest refl v.sent.serves_none is.sessions_is is.rest_is (λ k. q.keys k (met_all rest done e k)) lags refl)

        go : (z : Tail sv.Rest sv.A) → x.tail ≡ z → (m : Recovery) → m ≡ recovers b t → Put (tail_taken r p x z m (record w.turn { work = rests }))
        go z e level f = absurd (let q : ◌≡◌ {A = ℕ} 0 1 = cc in omega arith)
        go (more k) e (recovers b' t') f =
            let q = wider in
            let be : b' ≡ b = cc in
            let te : t' ≡ t = cc in
            to_recovery sv kp c w v hi p up (recovers (min b' x.version) (max t' x.version)) s (record { key = k; span = widened x.version w.turn.memory.pass.span; asked = true }) w.turn.memory.quiet (record w.turn.sends { wants = Some r }) rests w.turn.sessions w.rest refl v.sent.serves_none
            is.sessions_is is.rest_is (rw (be, te) each_key) lags
            (subst (Passing sv kp v.good.g w.turn.agreeing.version s (min b' x.version) (max t' x.version) k) (sym (widened_is x.version w.turn.memory.pass.span))
            (record { ordered = q.ordered; over = q.over; from_base = omega (arith, q.from_base, be); to_top = omega (arith, q.to_top, te); keys = λ n l. q.keys n (met_more k e n l) }))
        go (ends rest done) e (recovers b' t') f = subst (λ (z : Span). Put (passed r p x rest done z (record w.turn { work = rests }))) (sym (widened_is x.version w.turn.memory.pass.span)) (ends_it rest done e _ _ wider)

  stows : (u : Option kp.Kept) → kp.take w.rest x.whole x.asked.key (next_key x.tail) x.floor x.blocks w.kept ≡ u → At sv kp c (stowed sv kp r x u (with_turn sv kp (record w.turn { work = Rattle.copies.specs.Copy.takes r x }) w))
  unfolding stowed
  stows None e = starts_over
  stows (Some s) e = takes_it s e

module _ {O R : Type 0} (sv : Service O R) (kp : Keeper sv) (laws : Lawful sv) (keeps : Keeps sv kp) (c : Scene sv kp) (w : Wholes sv kp) (v : At sv kp c w) where
  pub given : (r : ℕ) (x : Parts sv kp) → PartOk sv kp v.good.g x → ThenWork sv kp c w (on_part r x w.turn)
  unfolding on_part does_work
  given r x ok =
      by_three (ThenWork sv kp c w) (ltb w.turn.memory.me 3) (is_asked x.asked w.turn.memory.pass w.turn.agreeing.recovery) (leb w.turn.agreeing.version x.version)
      (λ d e f. go w.turn.agreeing.recovery refl (copy_here sv kp c w v d) e (leb-true _ _ f)) (idle sv kp c w v)
    where
      go : (m : Recovery) → w.turn.agreeing.recovery ≡ m → c.i < 3 → is_asked x.asked w.turn.memory.pass m ≡ true → w.turn.agreeing.version ≤ x.version → ThenWork sv kp c w (record w.turn { work = Rattle.copies.specs.Copy.takes r x })
      go level e hi f l = absurd (let z : ◌≡◌ {A = ℕ} 0 1 = cc in omega arith)
      go (recovers b t) e hi f l = stows sv kp laws keeps c w v hi r x ok b t e (asked_is x.asked w.turn.memory.pass b t f) l _ refl
