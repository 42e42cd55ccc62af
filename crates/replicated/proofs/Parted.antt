-- What an event leaves of a copy and its blocks: statuses, parts of a pass, and what is wanted.
use Rattle.std.specs.Prelude.{◌≡◌, ℕ, min, max, Bool, cond, Option, Some, None, ◌==◌}
use Rattle.std.proofs.Common.{◌<◌, ◌≤◌, eqb, ◌≢◌, ◌⊎◌, sym, refl, ap, ◌∙◌, subst, inl, inr, arith, eqb-true}
use borrow.Author.Tests.{eqb-false}
use Rattle.std.proofs.lemmas.Bool.Decides.{nat_tests as tests}
use Rattle.agreement.proofs.Base.{by_test}
use Rattle.copies.specs.Service.{Service, Keeper}
use Rattle.copies.specs.Messages.{Session, Recovery, level, recovers, Agreeing, Status, Want, Tail, more, ends, next_key, Told, Asked, Given}
use Rattle.copies.specs.Copy.{Memory, Span, unseen, from_to, Pass, Work, rests, applies, takes, replaces, silent, new_pass, widened, ranging, adopted, ended, recovering, wanting, passing, agreed, saying_to, on_status, on_part, passed, tail_taken, begins_again, on_want, goes_on}
use Rattle.copies.specs.House.{Disks, Turns, Wholes, Parts, with_turn, put_rest, stowed, does_work, works, on, begins, got, is_whole, tail_of, part_of}
use Rattle.replicated.proofs.Turns.{max_left, keeps_goes}
use Rattle.replicated.proofs.Heard.{Light}

-- all parts of the pass were of one version
abbrev pub Same : ℕ → Span → Type 0
Same v unseen = Unit {0}
Same v (from_to l h) = (l ≡ v) × (h ≡ v)

module _ {O R : Type 0} (sv : Service O R) (kp : Keeper sv) where
  abbrev pub turn_of : Memory O → Disks sv kp → Turns sv kp
  turn_of m d = (begins sv kp m d).turn

  -- a status that leaves the blocks alone
  pub told_is : (r : ℕ) (x : Status O) (m : Memory O) (d : Disks sv kp) → (goes_on (on_status r x (turn_of m d))).work ≡ rests → got sv kp r (Told x) (begins sv kp m d) ≡ with_turn sv kp (goes_on (on_status r x (turn_of m d))) (begins sv kp m d)
  unfolding does_work
  told_is r x m d e = ap (λ (k : Work sv.Rest sv.Block O sv.A). on sv kp goes_on (does_work sv kp k (with_turn sv kp (on_status r x (turn_of m d)) (begins sv kp m d)))) (sym (keeps_goes (on_status r x (turn_of m d))).work_is ∙ e)

  -- one by which a command may be applied
  pub record Gone (u : Turns sv kp) (z : Wholes sv kp) : Type 0 where
    pub prom_is : z.turn.agreeing.promised ≡ u.agreeing.promised
    pub ver_is : z.turn.agreeing.version ≡ u.agreeing.version
    pub rec_is : z.turn.agreeing.recovery ≡ u.agreeing.recovery

  pub light_gone : (u : Turns sv kp) (w : Wholes sv kp) → Light u.work → Gone u (on sv kp goes_on (works sv kp (with_turn sv kp u w)))
  unfolding does_work
  light_gone u w l = go u.work l
    where
      go : (k : Work sv.Rest sv.Block O sv.A) → Light k → Gone u (on sv kp goes_on (does_work sv kp k (with_turn sv kp u w)))
      go rests l = let k = keeps_goes u in record { prom_is = k.prom_is; ver_is = k.ver_is; rec_is = k.rec_is }
      go (applies c) l = let k = keeps_goes (does_work sv kp (applies c) (with_turn sv kp u w)).turn in record { prom_is = k.prom_is; ver_is = k.ver_is; rec_is = k.rec_is }
      go (takes r x) l = absurd l
      go (replaces x) l = absurd l

  -- a copy goes on recovering, or a pass is over
  pub record Resumed (r p v : ℕ) (s : kp.Kept) (key : ℕ) (span : Span) (z : Wholes sv kp) : Type 0 where
    pub base : ℕ
    pub top : ℕ
    pub prom_is : z.turn.agreeing.promised ≡ p
    pub ver_is : z.turn.agreeing.version ≡ v
    pub rec_is : z.turn.agreeing.recovery ≡ recovers base top
    pub kept_is : z.kept ≡ s
    pub key_is : z.turn.memory.pass.key ≡ key
    pub span_is : z.turn.memory.pass.span ≡ span
    pub wants : z.turn.sends.wants ≡ Some r

  pub record Over (p v : ℕ) (z : Wholes sv kp) : Type 0 where
    pub prom_is : z.turn.agreeing.promised ≡ p
    pub ver_is : z.turn.agreeing.version ≡ v
    pub rec_is : z.turn.agreeing.recovery ≡ level

  resumed : (r p v a b : ℕ) (s : kp.Kept) (key : ℕ) (span : Span) (u : Turns sv kp) (w : Wholes sv kp) → u.agreeing.promised ≡ p → u.agreeing.version ≡ v → u.agreeing.recovery ≡ recovers a b → u.memory.pass.key ≡ key → u.memory.pass.span ≡ span → u.sends.wants ≡ Some r →
      Resumed r p v s key span (on sv kp goes_on (record w { turn = u; kept = s }))
  resumed r p v a b s key span u w e f g h i j =
      let k = keeps_goes u in
      record { base = a; top = b; prom_is = k.prom_is ∙ e; ver_is = k.ver_is ∙ f; rec_is = k.rec_is ∙ g; kept_is = refl; key_is = ap (λ (z : Pass). z.key) k.pass_is ∙ h; span_is = ap (λ (z : Pass). z.span) k.pass_is ∙ i; wants = k.wants_is ∙ j }

  -- a copy that hears how far behind it is begins to recover
  pub recovers_left : (r p : ℕ) (u : Turns sv kp) (w : Wholes sv kp) → u.work ≡ rests → Resumed r p u.agreeing.version w.kept 0 unseen (on sv kp goes_on (works sv kp (with_turn sv kp (recovering r p u) w)))
  unfolding does_work
  recovers_left r p u w e =
      subst (λ (k : Work sv.Rest sv.Block O sv.A). Resumed r p u.agreeing.version w.kept 0 unseen (on sv kp goes_on (does_work sv kp k (with_turn sv kp (recovering r p u) w)))) (sym e)
      (resumed r p u.agreeing.version u.agreeing.version u.agreeing.version w.kept 0 unseen (recovering r p u) w refl refl refl refl refl refl)

  -- what a part leaves
  abbrev Ends : (r p v : ℕ) → Parts sv kp → Pass → kp.Kept → Wholes sv kp → Type 0
  Ends r p v x q s z = Over p x.version z ⊎ (Resumed r p v s 0 unseen z × (Same x.version q.span → ⊥))

  abbrev pub Tails : (r p v : ℕ) → Parts sv kp → Pass → kp.Kept → Tail sv.Rest sv.A → Wholes sv kp → Type 0
  Tails r p v x q s (more k) z = Resumed r p v s k (widened x.version q.span) z
  Tails r p v x q s (ends y done) z = Ends r p v x q s z

  abbrev pub Parted : (r p v : ℕ) → Parts sv kp → Pass → Option kp.Kept → Wholes sv kp → Type 0
  Parted r p v x q None z = Resumed r p v kp.none 0 unseen z
  Parted r p v x q (Some s) z = Tails r p v x q s x.tail z

  module _ (r p : ℕ) (x : Parts sv kp) (s : kp.Kept) (w : Wholes sv kp) where
    -- the turn u is left, with blocks s
    abbrev Left : Turns sv kp → Wholes sv kp
    Left u = on sv kp goes_on (put_rest sv kp u.work (record w { turn = u; kept = s }))

    over : (t : Turns sv kp) (y : sv.Rest) (done : ℕ → Session sv.A) → t.agreeing.version ≤ x.version → Over p x.version (Left (record (saying_to r t) { agreeing = cond (x.version == t.agreeing.version) (ended p t.agreeing) (adopted p x.version x.last t.agreeing); sessions = done; work = replaces y }))
    unfolding put_rest
    over t y done l = let k = keeps_goes (record (saying_to r t) { agreeing = cond (x.version == t.agreeing.version) (ended p t.agreeing) (adopted p x.version x.last t.agreeing); sessions = done; work = rests }) in
        record { prom_is = k.prom_is ∙ prom; ver_is = k.ver_is ∙ ver; rec_is = k.rec_is ∙ rec }
      where
        prom : (cond (x.version == t.agreeing.version) (ended p t.agreeing) (adopted p x.version x.last t.agreeing)).promised ≡ p
        prom = by_test (λ (z : Agreeing O). z.promised ≡ p) (eqb x.version t.agreeing.version) (λ _. refl) (λ _. refl)

        ver : (cond (x.version == t.agreeing.version) (ended p t.agreeing) (adopted p x.version x.last t.agreeing)).version ≡ x.version
        ver = by_test (λ (z : Agreeing O). z.version ≡ x.version) (eqb x.version t.agreeing.version) (λ e. sym (eqb-true _ _ e)) (λ _. refl)

        rec : (cond (x.version == t.agreeing.version) (ended p t.agreeing) (adopted p x.version x.last t.agreeing)).recovery ≡ level
        rec = by_test (λ (z : Agreeing O). z.recovery ≡ level) (eqb x.version t.agreeing.version) (λ _. refl) (λ _. refl)

    between : (t : Turns sv kp) (y : sv.Rest) (done : ℕ → Session sv.A) (v l h : ℕ) → t.work ≡ rests → t.agreeing.version ≡ v → v ≤ x.version →
        (Over p x.version (Left (passed r p x y done (from_to l h) t)) × (l ≡ h)) ⊎ (Resumed r p v s 0 unseen (Left (passed r p x y done (from_to l h) t)) × (l ≢ h))
    unfolding passed put_rest
    between t y done v l h e f g =
        by_test (λ (z : Turns sv kp). (Over p x.version (Left z) × (l ≡ h)) ⊎ (Resumed r p v s 0 unseen (Left z) × (l ≢ h))) (eqb l h)
        (λ c. inl (over t y done (omega (arith, f, g)), eqb-true _ _ c))
        (λ c. inr (
          subst (λ (k : Work sv.Rest sv.Block O sv.A). Resumed r p v s 0 unseen (on sv kp goes_on (put_rest sv kp k (record w { turn = wanting r (passing new_pass (agreed (ranging p l h t.agreeing) t)); kept = s })))) (sym e)
              (resumed r p v l h s 0 unseen (wanting r (passing new_pass (agreed (ranging p l h t.agreeing) t))) w refl f refl refl refl refl),
          eqb-false _ _ c,
        ))

    ends_left : (t : Turns sv kp) (y : sv.Rest) (done : ℕ → Session sv.A) (v : ℕ) (q : Pass) → t.work ≡ rests → t.agreeing.version ≡ v → v ≤ x.version → Ends r p v x q s (Left (passed r p x y done (widened x.version q.span) t))
    ends_left t y done v q e f g = go q.span
      where
        go : (c : Span) → Over p x.version (Left (passed r p x y done (widened x.version c) t)) ⊎ (Resumed r p v s 0 unseen (Left (passed r p x y done (widened x.version c) t)) × (Same x.version c → ⊥))
        go unseen = elim (between t y done v x.version x.version e f g) [ inl z ↦ inl z.0 | inr z ↦ absurd (z.1 refl) ]
        go (from_to l h) = elim (between t y done v (min l x.version) (max h x.version) e f g) [ inl z ↦ inl z.0 | inr z ↦ inr (z.0, λ c. z.1 (omega (arith, c))) ]

    tails_left : (t : Turns sv kp) (c : Tail sv.Rest sv.A) (rc : Recovery) (v a b : ℕ) → rc ≡ recovers a b → t.work ≡ rests → t.agreeing.version ≡ v → v ≤ x.version → Tails r p v x t.memory.pass s c (Left (tail_taken r p x c rc t))
    unfolding tail_taken put_rest
    tails_left t (more k) (recovers a' b') v a b i e f g =
        subst (λ (j : Work sv.Rest sv.Block O sv.A). Resumed r p v s k (widened x.version t.memory.pass.span) (on sv kp goes_on (put_rest sv kp j (record w { turn = tail_taken r p x (more k) (recovers a' b') t; kept = s })))) (sym e)
        (resumed r p v (min a' x.version) (max b' x.version) s k (widened x.version t.memory.pass.span) (tail_taken r p x (more k) (recovers a' b') t) w refl f refl refl refl refl)
    tails_left t (ends y done) (recovers a' b') v a b i e f g = ends_left t y done v t.memory.pass e f g
    tails_left t (more k) level v a b i e f g = absurd (let z : ◌≡◌ {A = ℕ} 0 1 = cc in omega arith)
    tails_left t (ends y done) level v a b i e f g = absurd (let z : ◌≡◌ {A = ℕ} 0 1 = cc in omega arith)

  part_is : (r : ℕ) (x : Parts sv kp) (t : Turns sv kp) (v : Recovery) (a b : ℕ) → t.memory.me < 3 → t.agreeing.recovery ≡ recovers a b → x.asked ≡ record { base = a; top = b; key = t.memory.pass.key } → t.agreeing.version ≤ x.version → on_part r x t ≡ record t { work = takes r x }
  unfolding on_part
  part_is r x t v a b l e f g = rw e (rw f (grind (arith, tests)))

  pub got_part : (r : ℕ) (x : Parts sv kp) (m : Memory O) (d : Disks sv kp) (a b : ℕ) → m.me < 3 → d.agreeing.recovery ≡ recovers a b → x.asked ≡ record { base = a; top = b; key = m.pass.key } → d.agreeing.version ≤ x.version → x.promised ≤ d.agreeing.promised → (o : Option kp.Kept) →
      kp.take d.rest x.whole x.asked.key (next_key x.tail) x.floor x.blocks d.kept ≡ o → Parted r d.agreeing.promised d.agreeing.version x m.pass o (got sv kp r (Given x) (begins sv kp m d))
  unfolding does_work stowed
  got_part r x m d a b l e f g h o i =
      subst (λ (t : Turns sv kp). Parted r d.agreeing.promised d.agreeing.version x m.pass o (on sv kp goes_on (works sv kp (with_turn sv kp t (begins sv kp m d))))) (sym (part_is r x (turn_of m d) d.agreeing.recovery a b l e f g))
      (subst (λ (y : Option kp.Kept). Parted r d.agreeing.promised d.agreeing.version x m.pass o (on sv kp goes_on (stowed sv kp r x y (with_turn sv kp (record (turn_of m d) { work = takes r x }) (begins sv kp m d))))) (sym i) (go o))
    where
      go : (y : Option kp.Kept) → Parted r d.agreeing.promised d.agreeing.version x m.pass y (on sv kp goes_on (stowed sv kp r x y (with_turn sv kp (record (turn_of m d) { work = takes r x }) (begins sv kp m d))))
      go None = resumed r d.agreeing.promised d.agreeing.version 0 0 kp.none 0 unseen (begins_again r (record (turn_of m d) { work = takes r x })) (begins sv kp m d) refl refl refl refl refl refl
      go (Some s) =
          subst (λ (p : ℕ). Tails r d.agreeing.promised d.agreeing.version x m.pass s x.tail (Left r d.agreeing.promised x s (begins sv kp m d) (tail_taken r p x x.tail d.agreeing.recovery (turn_of m d)))) (sym (max_left _ _ h))
          (tails_left r d.agreeing.promised x s (begins sv kp m d) (turn_of m d) x.tail d.agreeing.recovery d.agreeing.version a b e refl refl g)

  -- blocks are given
  want_is : (r : ℕ) (q : Want) (t : Turns sv kp) → t.memory.me < 3 → t.agreeing.recovery ≡ level → on_want r q t ≡ record t { sends = record t.sends { serves = Some (record { to = r; want = q }) } }
  unfolding on_want
  want_is r q t l e = rw e (grind (arith, tests))

  abbrev pub serving : ℕ → Want → Memory O → Disks sv kp → Wholes sv kp
  serving r q m d = with_turn sv kp (record (turn_of m d) { sends = record silent { serves = Some (record { to = r; want = q }) } }) (begins sv kp m d)

  pub got_want : (r : ℕ) (q : Want) (m : Memory O) (d : Disks sv kp) → m.me < 3 → d.agreeing.recovery ≡ level → got sv kp r (Asked q) (begins sv kp m d) ≡ serving r q m d
  got_want r q m d l e = ap (λ (t : Turns sv kp). with_turn sv kp t (begins sv kp m d)) (want_is r q (turn_of m d) l e)

  -- what is in a part
  pub record Portioned (q : Want) (d : Disks sv kp) (x : Parts sv kp) : Type 0 where
    pub whole : Bool
    pub asked_is : x.asked ≡ q
    pub prom_is : x.promised ≡ d.agreeing.promised
    pub ver_is : x.version ≡ d.agreeing.version
    pub whole_is : x.whole ≡ whole
    pub floor_is : x.floor ≡ kp.floor d.kept
    pub blocks_is : x.blocks ≡ (kp.portion d.rest whole q.base q.key d.kept).blocks
    pub next_is : next_key x.tail ≡ (kp.portion d.rest whole q.base q.key d.kept).next

  next_of : (w : Wholes sv kp) (o : Option ℕ) → next_key (tail_of sv kp w o) ≡ o
  next_of w None = refl
  next_of w (Some k) = refl

  pub portioned : (r : ℕ) (q : Want) (m : Memory O) (d : Disks sv kp) → Portioned q d (part_of sv kp q (serving r q m d))
  unfolding part_of
  portioned r q m d = record { whole = is_whole sv kp q (serving r q m d); asked_is = refl; prom_is = refl; ver_is = refl; whole_is = refl; floor_is = refl; blocks_is = refl; next_is = next_of (serving r q m d) _ }
