-- Turns of a house keep to small numbers and shapes. What a tick and a status add to a number is told; a bundle that is made adds one.
use Rattle.std.specs.Prelude.{◌≡◌, ◌<◌, ◌≤◌, ℕ, suc, ◌+◌, ◌%◌, min, max, true, false, cond, ◌&&◌, ◌||◌, not, List, [], ◌∷◌, ◌++◌, length, Option, nat_lt, nat_le, ◌==◌}
use Rattle.std.proofs.Common.{refl, arith, ltb-true, leb-false}
use Rattle.agreement.specs.Copies.{Proposal, nothing, voted, rank, higher}
use Rattle.agreement.proofs.Base.{by_test, by_both}
use Rattle.copies.specs.Messages.{Item, Bundle, Command, Session, Recovery, level, recovers, is_level, Agreeing, Status, Want, Part, Tail, more, ends}
use Rattle.copies.specs.Copy.{Way, free, under, Span, unseen, from_to, Serve, Work, rests, Turn, is_copy, is_free, is_nil, is_new, is_asked, undone, next_ballot, widened, patience, raised, proposed, applied, adopted, begun, ranging, ended, new_bundle, on_bundle, packed, pack, settle, settle_here, is_open, forward, agreed, raising, recovering, ahead, takes_over, may_lead, even, hears, asks_on, status_of, noted, on_status, on_part, passed, tail_taken, taken, begins_again, on_want, elect, stirs, resend, on_tick, queued, count}
use Rattle.replicated.proofs.Small.{SmallBundle, SmallCommand, SmallProposal, SmallRecovery, SmallAgreeing, SmallStatus, SmallWay, SmallSpan, SmallSessions, SmallWant, SmallTail, SmallPart, SmallWork, SmallServes, Smalls, Small, small_undone, small_heard, small_higher}

module _ {O : Type 0} (n : ℕ) (a : Agreeing O) (v : SmallAgreeing n a) (p : ℕ) (l : p ≤ n) where
  raised_small : SmallAgreeing n (raised p a)
  raised_small = record { promised = l; version = v.version; last = v.last; proposal = v.proposal; recovery = v.recovery }

  proposed_small : (k : Command O) → SmallCommand n k → SmallAgreeing n (proposed p k a)
  proposed_small k h = record { promised = l; version = v.version; last = v.last; proposal = (l, h); recovery = v.recovery }

  applied_small : (b : ℕ) → b ≤ n → a.version < n → SmallAgreeing n (applied p b a)
  applied_small b f r = record { promised = l; version = omega (arith, r); last = f; proposal = tt; recovery = v.recovery }

  adopted_small : (w b : ℕ) → w ≤ n → b ≤ n → SmallAgreeing n (adopted p w b a)
  adopted_small w b f g = record { promised = l; version = f; last = g; proposal = tt; recovery = tt }

  begun_small : SmallAgreeing n (begun p a)
  begun_small = record { promised = l; version = v.version; last = v.last; proposal = v.proposal; recovery = (v.version, v.version) }

  ranging_small : (b t : ℕ) → b ≤ n → t ≤ n → SmallAgreeing n (ranging p b t a)
  ranging_small b t f g = record { promised = l; version = v.version; last = v.last; proposal = v.proposal; recovery = (f, g) }

  ended_small : SmallAgreeing n (ended p a)
  ended_small = record { promised = l; version = v.version; last = v.last; proposal = v.proposal; recovery = tt }

widened_small : (n v : ℕ) (s : Span) → v ≤ n → SmallSpan n s → SmallSpan n (widened v s)
widened_small n v unseen l h = (l, l)
widened_small n v (from_to a b) l h = (omega (arith, l, h.0), omega (arith, l, h.1))

some_of : {A : Type 0} (xs : List A) → not (is_nil xs) ≡ true → 1 ≤ length xs
some_of [] e = absurd (let z : ◌≡◌ {A = ℕ} 0 1 = cc in omega arith)
some_of (x ∷ xs) e = omega arith

last_more : {A : Type 0} (xs : List A) (x : A) → length (xs ++ x ∷ []) ≡ suc (length xs)
last_more [] x = refl
last_more (y ∷ xs) x = let e = last_more xs x in omega (arith, e)

module _ {X B O A : Type 0} (n : ℕ) where
  -- one part of a turn is another
  module _ {a : Agreeing O} {done : ℕ → Session A} {me i c q : ℕ} {ws : List (Item O)} {y : Way O} {bs : List (Bundle O)} {s : Span} {z : Work X B O A} {o : Option Serve} (v : Smalls n a done me i c q ws y bs s z o) where
    agreeing_to : {b : Agreeing O} → SmallAgreeing n b → Smalls n b done me i c q ws y bs s z o
    agreeing_to h = record { agreeing = h; sessions = v.sessions; memory = v.memory; works = v.works; serving = v.serving }

    pub work_to : {z' : Work X B O A} → SmallWork n z' → Smalls n a done me i c q ws y bs s z' o
    work_to h = record { agreeing = v.agreeing; sessions = v.sessions; memory = v.memory; works = h; serving = v.serving }

    pub sessions_to : {done' : ℕ → Session A} → SmallSessions n done' → Smalls n a done' me i c q ws y bs s z o
    sessions_to h = record { agreeing = v.agreeing; sessions = h; memory = v.memory; works = v.works; serving = v.serving }

    serves_to : {o' : Option Serve} → SmallServes n o' → Smalls n a done me i c q ws y bs s z o'
    serves_to h = record { agreeing = v.agreeing; sessions = v.sessions; memory = v.memory; works = v.works; serving = h }

    quiet_to : {q' : ℕ} → q' ≤ n → Smalls n a done me i c q' ws y bs s z o
    quiet_to h =
        record {
          agreeing = v.agreeing;
          sessions = v.sessions;
          memory = record { house = v.memory.house; incarnation_low = v.memory.incarnation_low; counter_low = v.memory.counter_low; quiet_low = h; few = v.memory.few; way_small = v.memory.way_small; heard_small = v.memory.heard_small; span_small = v.memory.span_small };
          works = v.works;
          serving = v.serving;
        }

    span_to : {s' : Span} → SmallSpan n s' → Smalls n a done me i c q ws y bs s' z o
    span_to h =
        record {
          agreeing = v.agreeing;
          sessions = v.sessions;
          memory = record { house = v.memory.house; incarnation_low = v.memory.incarnation_low; counter_low = v.memory.counter_low; quiet_low = v.memory.quiet_low; few = v.memory.few; way_small = v.memory.way_small; heard_small = v.memory.heard_small; span_small = h };
          works = v.works;
          serving = v.serving;
        }

    heard_to : {bs' : List (Bundle O)} → SmallCommand n bs' → Smalls n a done me i c q ws y bs' s z o
    heard_to h =
        record {
          agreeing = v.agreeing;
          sessions = v.sessions;
          memory = record { house = v.memory.house; incarnation_low = v.memory.incarnation_low; counter_low = v.memory.counter_low; quiet_low = v.memory.quiet_low; few = v.memory.few; way_small = v.memory.way_small; heard_small = h; span_small = v.memory.span_small };
          works = v.works;
          serving = v.serving;
        }

    waiting_to : {ws' : List (Item O)} → length ws' ≤ 8 → SmallWay n (length ws') y → Smalls n a done me i c q ws' y bs s z o
    waiting_to f h =
        record {
          agreeing = v.agreeing;
          sessions = v.sessions;
          memory = record { house = v.memory.house; incarnation_low = v.memory.incarnation_low; counter_low = v.memory.counter_low; quiet_low = v.memory.quiet_low; few = f; way_small = h; heard_small = v.memory.heard_small; span_small = v.memory.span_small };
          works = v.works;
          serving = v.serving;
        }

    free_to : Smalls n a done me i c q ws free bs s z o
    free_to =
        record {
          agreeing = v.agreeing;
          sessions = v.sessions;
          memory = record { house = v.memory.house; incarnation_low = v.memory.incarnation_low; counter_low = v.memory.counter_low; quiet_low = v.memory.quiet_low; few = v.memory.few; way_small = tt; heard_small = v.memory.heard_small; span_small = v.memory.span_small };
          works = v.works;
          serving = v.serving;
        }

  abbrev S : Turn X B O A → Type 0
  S t = Small n t

  -- BUNDLES
  pub small_forward : (t : Turn X B O A) → S t → S (forward t)
  unfolding forward
  small_forward t v =
      by_test S (is_open t) (λ _. agreeing_to v (proposed_small n t.agreeing v.agreeing t.agreeing.promised v.agreeing.promised (undone t.memory.heard t.sessions) (small_undone n t.memory.heard t.sessions v.memory.heard_small))) (λ _. v)

  pub small_bundle : (b : Bundle O) (t : Turn X B O A) → SmallBundle n b → S t → S (on_bundle b t)
  unfolding on_bundle
  small_bundle b t h v = by_test S (is_copy t.memory.me) (λ _. by_test S (is_new b t.sessions) (λ _. heard_to v (small_heard n b t.memory.heard h v.memory.heard_small)) (λ _. v)) (λ _. v)

  pub small_settle : (s : Session A) (u : Way O) (t : Turn X B O A) → S t → S (settle s u t)
  unfolding settle
  small_settle s free t v = v
  small_settle s (under b) t v = by_test S (b.incarnation == s.incarnation && b.counter == s.counter) (λ _. free_to v) (λ _. v)

  pub small_here : (t : Turn X B O A) → S t → S (settle_here t)
  unfolding settle_here
  small_here t v = by_test S (is_copy t.memory.me) (λ _. small_settle (t.sessions t.memory.me) t.memory.way t v) (λ _. v)

  -- with room for one more
  pub small_pack : (t : Turn X B O A) → t.memory.counter < n → S t → S (pack t)
  unfolding pack
  small_pack t r v = by_both S (is_free t.memory.way) (not (is_nil t.memory.waiting)) (λ _ e. new e) v
    where
      new : not (is_nil t.memory.waiting) ≡ true → S (packed t)
      new e =
          let b : SmallBundle n (new_bundle t.memory) = record { house = v.memory.house; incarnation = v.memory.incarnation_low; counter = omega (arith, r); some = some_of t.memory.waiting e; few = v.memory.few } in
          record {
            agreeing = v.agreeing;
            sessions = v.sessions;
            memory =
                record {
                  house = v.memory.house;
                  incarnation_low = v.memory.incarnation_low;
                  counter_low = omega (arith, r);
                  quiet_low = v.memory.quiet_low;
                  few = omega arith;
                  way_small = (b, omega (arith, v.memory.few));
                  heard_small = small_heard n (new_bundle t.memory) t.memory.heard b v.memory.heard_small;
                  span_small = v.memory.span_small;
                };
            works = v.works;
            serving = v.serving;
          }

  pub small_queued : (k : ℕ) (o : O) (t : Turn X B O A) → nat_le 8 (count t.memory t.memory.way) ≡ false → S t → S (queued k o t)
  small_queued k o t f v = go t.memory.way v (leb-false _ _ f)
    where
      more : List (Item O)
      more = t.memory.waiting ++ record { id = k; call = o } ∷ []

      long : length more ≡ suc (length t.memory.waiting)
      long = last_more t.memory.waiting (record { id = k; call = o })

      go : (u : Way O) → Smalls n t.agreeing t.sessions t.memory.me t.memory.incarnation t.memory.counter t.memory.quiet t.memory.waiting u t.memory.heard t.memory.pass.span t.work t.sends.serves → count t.memory u < 8 →
          Smalls n t.agreeing t.sessions t.memory.me t.memory.incarnation t.memory.counter t.memory.quiet more u t.memory.heard t.memory.pass.span t.work t.sends.serves
      go free w l = waiting_to w (omega (arith, l, long)) tt
      go (under b) w l = waiting_to w (omega (arith, l, long)) (w.memory.way_small.0, omega (arith, l, long))

  -- A STATUS. p is a promise, and there is room for one more version.
  module _ (p : ℕ) (l : p ≤ n) where
    small_raised : (t : Turn X B O A) → S t → S (agreed (raised p t.agreeing) t)
    small_raised t v = agreeing_to v (raised_small n t.agreeing v.agreeing p l)

    small_raising : (r : ℕ) (x : Status O) (t : Turn X B O A) → S t → S (raising r p x t)
    small_raising r x t v = by_test (λ (z : Turn X B O A). S (agreed (raised p t.agreeing) z)) (nat_lt t.agreeing.promised p || nat_lt x.promised p) (λ _. small_raised t v) (λ _. small_raised t v)

    small_recovering : (r : ℕ) (t : Turn X B O A) → S t → S (recovering r p t)
    small_recovering r t v = span_to (agreeing_to v (begun_small n t.agreeing v.agreeing p l)) tt

    small_ahead : (r : ℕ) (x : Status O) (u : Proposal (Command O)) (t : Turn X B O A) → t.agreeing.version < n → SmallStatus n x → SmallProposal n u → S t → S (ahead r p x u t)
    unfolding ahead
    small_ahead r x nothing t f h g v = small_recovering r t v
    small_ahead r x (voted vb vk) t f h g v =
        by_test S (x.version == suc t.agreeing.version && nat_le x.last vb) (λ _. work_to (agreeing_to v (applied_small n t.agreeing v.agreeing p l x.last h.last f)) g.1) (λ _. small_recovering r t v)

    small_takes : (u : Proposal (Command O)) (t : Turn X B O A) → SmallProposal n u → S t → S (takes_over p u t)
    unfolding takes_over
    small_takes nothing t h v = small_raised t v
    small_takes (voted b k) t h v = agreeing_to v (proposed_small n t.agreeing v.agreeing p l k h.1)

    small_lead : (r : ℕ) (x : Status O) (t : Turn X B O A) → SmallStatus n x → S t → S (may_lead r p x t)
    unfolding may_lead
    small_lead r x t h v =
        by_test S (p % 3 == t.memory.me && (x.promised == p && not (rank t.agreeing.proposal == suc p)))
        (λ _. small_takes (higher t.agreeing.proposal x.proposal) t (small_higher n t.agreeing.proposal x.proposal v.agreeing.proposal h.proposal) v) (λ _. small_raising r x t v)

    small_even : (r : ℕ) (x : Status O) (u : Proposal (Command O)) (t : Turn X B O A) → t.agreeing.version < n → SmallStatus n x → SmallProposal n u → S t → S (even r p x u t)
    unfolding even
    small_even r x nothing t f h g v = small_lead r x t h v
    small_even r x (voted b k) t f h g v =
        by_test S (p % 3 == r && (x.promised == p && b == p)) (λ _. work_to (agreeing_to v (applied_small n t.agreeing v.agreeing p l p l f)) g.1) (λ _. small_lead r x t h v)

    small_hears : (r : ℕ) (x : Status O) (t : Turn X B O A) → t.agreeing.version < n → SmallStatus n x → S t → S (hears r p x t)
    unfolding hears
    small_hears r x t f h v =
        by_test S (nat_lt t.agreeing.version x.version) (λ _. small_ahead r x t.agreeing.proposal t f h v.agreeing.proposal v)
        (λ _. by_test S (nat_lt x.version t.agreeing.version) (λ _. small_raised t v) (λ _. small_even r x x.proposal t f h h.proposal v))

    small_status_of : (r : ℕ) (x : Status O) (u : Recovery) (t : Turn X B O A) → t.agreeing.version < n → SmallStatus n x → S t → S (status_of r p x u t)
    unfolding status_of asks_on
    small_status_of r x (recovers a b) t f h v = by_test S (not x.recovering && (nat_le t.agreeing.version x.version && not t.memory.pass.asked)) (λ _. small_raised t v) (λ _. small_raised t v)
    small_status_of r x level t f h v = by_test S x.recovering (λ _. small_raised t v) (λ _. small_hears r x t f h v)

  pub small_status : (r : ℕ) (x : Status O) (t : Turn X B O A) → t.agreeing.version < n → SmallStatus n x → S t → S (on_status r x t)
  unfolding on_status
  small_status r x t f h v =
      by_test S (is_copy t.memory.me && (is_copy r && not (r == t.memory.me)))
      (λ _. small_status_of (max t.agreeing.promised x.promised) (omega (arith, v.agreeing.promised, h.promised)) r x t.agreeing.recovery (noted r x t) f h (quiet_to v quiet)) (λ _. v)
    where
      quiet : cond (x.promised % 3 == r && nat_le t.agreeing.promised x.promised) 0 t.memory.quiet ≤ n
      quiet = by_test (λ (q : ℕ). q ≤ n) (x.promised % 3 == r && nat_le t.agreeing.promised x.promised) (λ _. omega arith) (λ _. v.memory.quiet_low)

  -- A PART, and what another wants
  pub small_part : (r : ℕ) (x : Part X B A) (t : Turn X B O A) → SmallPart n x → S t → S (on_part r x t)
  unfolding on_part
  small_part r x t h v = by_test S (is_copy t.memory.me && (is_asked x.asked t.memory.pass t.agreeing.recovery && nat_le t.agreeing.version x.version)) (λ _. work_to v h) (λ _. v)

  small_passed : (r p : ℕ) → p ≤ n → (x : Part X B A) → SmallPart n x → (rest : X) (done : ℕ → Session A) (s : Span) (t : Turn X B O A) → SmallSessions n done → SmallSpan n s → S t → S (passed r p x rest done s t)
  unfolding passed
  small_passed r p l x h rest done unseen t g f v = v
  small_passed r p l x h rest done (from_to a b) t g f v =
      by_test S (a == b) (λ _. agreeing_to (sessions_to (work_to v tt) g) agreeing) (λ _. span_to (agreeing_to v (ranging_small n t.agreeing v.agreeing p l a b f.0 f.1)) tt)
    where
      agreeing : SmallAgreeing n (cond (x.version == t.agreeing.version) (ended p t.agreeing) (adopted p x.version x.last t.agreeing))
      agreeing = by_test (SmallAgreeing n) (x.version == t.agreeing.version) (λ _. ended_small n t.agreeing v.agreeing p l) (λ _. adopted_small n t.agreeing v.agreeing p l x.version x.last h.version h.last)

  pub small_taken : (r : ℕ) (x : Part X B A) (t : Turn X B O A) → SmallPart n x → S t → S (taken r x t)
  unfolding tail_taken
  small_taken r x t h v = go x.tail t.agreeing.recovery h.tail v.agreeing.recovery
    where
      p : ℕ
      p = max t.agreeing.promised x.promised

      l : p ≤ n
      l = omega (arith, v.agreeing.promised, h.promised)

      go : (z : Tail X A) (u : Recovery) → SmallTail n z → SmallRecovery n u → S (tail_taken r p x z u (record t { work = rests }))
      go z level g f = work_to v tt
      go (more k) (recovers a b) g f =
          span_to (agreeing_to (work_to v tt) (ranging_small n t.agreeing v.agreeing p l (min a x.version) (max b x.version) (omega (arith, f.0)) (omega (arith, f.1, h.version)))) (widened_small n x.version t.memory.pass.span h.version v.memory.span_small)
      go (ends rest done) (recovers a b) g f = small_passed r p l x h rest done (widened x.version t.memory.pass.span) (record t { work = rests }) g (widened_small n x.version t.memory.pass.span h.version v.memory.span_small) (work_to v tt)

  pub small_again : (r : ℕ) (t : Turn X B O A) → S t → S (begins_again r t)
  small_again r t v = span_to (agreeing_to (work_to v tt) (ranging_small n t.agreeing v.agreeing t.agreeing.promised v.agreeing.promised 0 0 (omega arith) (omega arith))) tt

  pub small_want : (r : ℕ) (q : Want) (t : Turn X B O A) → SmallWant n q → S t → S (on_want r q t)
  unfolding on_want
  small_want r q t h v = by_test S (is_copy t.memory.me && is_level t.agreeing.recovery) (λ _. serves_to v h) (λ _. v)

  -- A TICK, with room for the next ballot
  small_elect : (t : Turn X B O A) → t.memory.me < 3 → t.agreeing.promised + 5 ≤ n → t.memory.quiet < n → S t → S (elect t)
  unfolding elect
  small_elect t f g h v =
      by_test S (nat_lt (suc t.memory.quiet) (patience t.memory.me)) (λ _. quiet_to v (omega (arith, h)))
      (λ _. quiet_to (agreeing_to v (raised_small n t.agreeing v.agreeing (next_ballot t.memory.me t.agreeing.promised) (omega (arith, f, g)))) (omega arith))

  pub small_tick : (t : Turn X B O A) → t.agreeing.promised + 5 ≤ n → t.memory.quiet < n → S t → S (on_tick t)
  unfolding on_tick stirs
  small_tick t g h v = by_test S (is_copy t.memory.me) (λ e. go t.agreeing.recovery (ltb-true _ _ e)) (λ _. v)
    where
      go : (u : Recovery) → t.memory.me < 3 → S (stirs u (resend t))
      go (recovers a b) f = v
      go level f = by_test S (t.memory.lead == suc t.agreeing.promised) (λ _. v) (λ _. small_elect (resend t) f g h v)
