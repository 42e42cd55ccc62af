-- Whole events keep to small numbers and shapes, with their blocks' work done, and so does all that is sent at their ends. A packet adds two to a
-- number at the most, a call one, and a tick six.
use Rattle.std.specs.Prelude.{◌≡◌, ◌≤◌, ℕ, suc, ◌+◌, false, [], ◌∷◌, length, Option, Some, None, nat_le, ◌==◌}
use Rattle.std.proofs.Common.{refl, subst, arith}
use mathlib.Core.List.{Memᴰ}
use Rattle.agreement.proofs.Base.{by_test}
use Rattle.copies.specs.Service.{Service, Keeper}
use Rattle.copies.specs.Messages.{Bundle, Command, Want, Part, next_key, Bundled, Done, Told, Asked, Given}
use Rattle.copies.specs.Copy.{Work, rests, applies, takes, replaces, Turn, is_new, pack, settle_here, forward, goes_on, taken, queued, count}
use Rattle.copies.specs.House.{Post, Wholes, Messages, State, runs, bundle_done, command_done, put_rest, stowed, does_work, works, is_whole, tail_of, part_of, posts, got, ticked}
use Rattle.replicated.proofs.Fits.{runs_many}
use Rattle.replicated.proofs.Sent.{each_post}
use Rattle.replicated.proofs.Small.{SmallBundle, SmallStatus, SmallWay, SmallRecovery, SmallSession, SmallSessions, SmallWant, SmallTail, SmallPart, SmallWork, SmallServes, Small, small_up, bundle_up, session_up, status_up, want_up, part_up}
use Rattle.replicated.proofs.SmallTurns.{work_to, sessions_to, small_forward, small_bundle, small_settle, small_here, small_pack, small_queued, small_status, small_part, small_taken, small_again, small_want, small_tick}

module _ {O R : Type 0} (sv : Service O R) (kp : Keeper sv) where
  abbrev pub SmallMessage : ℕ → Messages sv kp → Type 0
  SmallMessage n (Bundled b) = SmallBundle n b
  SmallMessage n (Done s) = SmallSession n s
  SmallMessage n (Told x) = SmallStatus n x
  SmallMessage n (Asked q) = SmallWant n q
  SmallMessage n (Given x) = SmallPart n x

  pub message_up : {n m : ℕ} → n ≤ m → (x : Messages sv kp) → SmallMessage n x → SmallMessage m x
  message_up l (Bundled b) s = bundle_up l b s
  message_up l (Done z) s = session_up l z s
  message_up l (Told x) s = status_up l x s
  message_up l (Asked q) s = want_up l q s
  message_up l (Given x) s = part_up l x s

  module _ (n : ℕ) where
    abbrev S : Wholes sv kp → Type 0
    S w = Small n w.turn

    -- COMMANDS
    small_done : (v : ℕ) (b : Bundle O) (z : State sv kp) → SmallBundle n b → SmallSessions n z.sessions → SmallSessions n (bundle_done sv kp v b z).sessions
    unfolding bundle_done
    small_done v b z s f = by_test (λ (y : State sv kp). SmallSessions n y.sessions) (is_new b z.sessions) (λ _ h. by_test (SmallSession n) (h == b.house) (λ _. mine) (λ _. f h)) (λ _. f)
      where
        mine : SmallSession {A = sv.A} n (record { incarnation = b.incarnation; counter = b.counter; replies = (runs sv kp v b.calls z.rest z.kept).replies })
        mine = record { incarnation = s.incarnation; counter = s.counter; few = omega (arith, s.few, runs_many sv kp [] v b.calls z.rest z.kept) }

    small_command : (v : ℕ) (k : Command O) (z : State sv kp) → ((b : Bundle O) → Memᴰ b k → SmallBundle n b) → SmallSessions n z.sessions → SmallSessions n (command_done sv kp v k z).sessions
    unfolding command_done
    small_command v [] z s f = f
    small_command v (b ∷ k) z s f = small_command v k (bundle_done sv kp v b z) (λ c l. s c (Memᴰ.tail l)) (small_done v b z (s b (Memᴰ.head refl)) f)

    -- WORK
    small_works : (w : Wholes sv kp) → S w → S (works sv kp w)
    unfolding does_work stowed put_rest
    small_works w v = go w.turn.work v.works
      where
        rest : (u : Work sv.Rest sv.Block O sv.A) (z : Wholes sv kp) → S z → S (put_rest sv kp u z)
        rest rests z f = f
        rest (applies k) z f = f
        rest (takes r x) z f = f
        rest (replaces x) z f = work_to n f tt

        stow : (r : ℕ) (x : Part sv.Rest sv.Block sv.A) (s : Option kp.Kept) → SmallPart n x → S (stowed sv kp r x s w)
        stow r x None h = small_again n r w.turn v
        stow r x (Some s) h = rest (taken r x w.turn).work (record w { turn = taken r x w.turn; kept = s }) (small_taken n r x w.turn h v)

        go : (u : Work sv.Rest sv.Block O sv.A) → SmallWork n u → S (does_work sv kp u w)
        go rests h = v
        go (applies k) h = work_to n (sessions_to n v (small_command w.turn.agreeing.version k _ h.bundles v.sessions)) tt
        go (takes r x) h = stow r x (kp.take w.rest x.whole x.asked.key (next_key x.tail) x.floor x.blocks w.kept) h
        go (replaces x) h = v

    -- WHAT IS SENT
    part_small : (w : Wholes sv kp) → S w → (q : Want) → SmallWant n q → SmallPart n (part_of sv kp q w)
    unfolding part_of
    part_small w v q h = record { asked = h; promised = v.agreeing.promised; version = v.agreeing.version; last = v.agreeing.last; tail = go (kp.portion w.rest (is_whole sv kp q w) q.base q.key w.kept).next }
      where
        go : (o : Option ℕ) → SmallTail n (tail_of sv kp w o)
        go None = v.sessions
        go (Some k) = tt

    pub small_posts : (w : Wholes sv kp) → S w → (q : Post (Messages sv kp)) → Memᴰ q (posts sv kp w) → SmallMessage n q.what
    small_posts w v =
        each_post sv kp (λ r m. SmallMessage n m) w (λ r. record { promised = v.agreeing.promised; version = v.agreeing.version; last = v.agreeing.last; proposal = v.agreeing.proposal })
        (λ c e r. (subst (SmallWay n (length w.turn.memory.waiting)) e v.memory.way_small).0) (λ h. v.sessions h)
        (λ b t e r. (let f = subst (SmallRecovery n) e v.agreeing.recovery in record { base = f.0; top = f.1 })) (λ z e. part_small w v z.want (subst (SmallServes n) e v.serving))

  -- EVENTS
  abbrev Turns : Type 0
  Turns = Turn sv.Rest sv.Block O sv.A

  more : (n : ℕ) → n ≤ suc n
  more n = omega arith

  packs : (n : ℕ) (t : Turns) → Small n t → Small (suc n) (pack t)
  packs n t v = small_pack (suc n) t (omega (arith, v.memory.counter_low)) (small_up (more n) v)

  goes : (n : ℕ) (t : Turns) → Small n t → Small (suc n) (goes_on t)
  goes n t v = small_forward (suc n) _ (packs n (settle_here t) (small_here n t v))

  pub small_got : (n : ℕ) (r : ℕ) (x : Messages sv kp) (w : Wholes sv kp) → SmallMessage n x → Small n w.turn → Small (suc (suc n)) (got sv kp r x w).turn
  small_got n r (Bundled b) w h v = small_up (omega arith) (small_forward n _ (small_bundle n b w.turn h v))
  small_got n r (Done s) w h v = small_up (more (suc n)) (small_forward (suc n) _ (packs n _ (small_settle n s w.turn.memory.way w.turn v)))
  small_got n r (Told x) w h v = goes (suc n) _ (small_works (suc n) _ (small_status (suc n) r x w.turn (omega (arith, v.agreeing.version)) (status_up (more n) x h) (small_up (more n) v)))
  small_got n r (Asked q) w h v = small_up (omega arith) (small_want n r q w.turn h v)
  small_got n r (Given x) w h v = small_up (more (suc n)) (goes n _ (small_works n _ (small_part n r x w.turn h v)))

  pub small_ticked : (n : ℕ) (w : Wholes sv kp) → Small n w.turn → Small (6 + n) (ticked sv kp w).turn
  small_ticked n w v =
      small_up (omega arith) (goes (5 + n) _ (small_tick (5 + n) w.turn (omega (arith, v.agreeing.promised)) (omega (arith, v.memory.quiet_low)) (small_up (omega arith) v)))

  pub small_asked : (n k : ℕ) (o : O) (t : Turns) → nat_le 8 (count t.memory t.memory.way) ≡ false → Small n t → Small (suc n) (forward (pack (queued k o t)))
  small_asked n k o t f v = small_forward (suc n) _ (packs n (queued k o t) (small_queued n k o t f v))
