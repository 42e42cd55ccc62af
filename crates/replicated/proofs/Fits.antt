-- Turns of a house, as far as bundles' numbers go: what it remembers, votes for and has done is of bundles that were made, no two of which have
-- one number, and each session has as many replies as the bundle of its number has calls, and one for each of them.
use Rattle.std.specs.Prelude.{◌≡◌, ◌⊎◌, ◌<◌, ◌≤◌, ℕ, suc, ◌%◌, max, true, ◌&&◌, ◌||◌, not, List, [], ◌∷◌, ◌++◌, length, Option, Some, None, nat_lt, nat_le, ◌==◌}
use Rattle.std.proofs.Common.{refl, sym, ap, ◌∙◌, subst, inl, inr, arith, eqb-true}
use mathlib.Core.List.Memᴰ
use mathlib.Core.List.{Memᴰ}
use Rattle.agreement.specs.Copies.{Proposal, nothing, voted, rank, higher}
use Rattle.agreement.proofs.Base.{by_test}
use Rattle.copies.specs.Service.{Service, Keeper}
use Rattle.copies.specs.Messages.{Item, Bundle, Command, Reply, Session, Recovery, level, recovers, is_level, Agreeing, Status, Want, Part, Tail, more, ends, next_key, Bundled, Done, Told, Asked, Given}
use Rattle.copies.specs.Copy.{Way, free, under, Span, unseen, from_to, Memory, Work, rests, applies, takes, replaces, Turn, is_copy, is_free, is_nil, is_new, is_asked, not_of, undone, widened, patience, new_bundle, on_bundle, packed, pack, freed, settle, settle_here, is_open, forward, goes_on, agreed, raised, raising, ahead, takes_over, may_lead, even, hears, asks_on, status_of, noted, on_status, on_part, passed, tail_taken, taken, on_want, elect, stirs, resend, on_tick, queued, count}
use Rattle.copies.specs.House.{Wholes, Messages, State, runs, bundle_done, command_done, put_rest, stowed, does_work, works, got, ticked}

module _ {O A : Type 0} where
  -- the bundle of a session's number
  pub record OfBundle (made : List (Bundle O)) (h : ℕ) (s : Session A) : Type 0 where
    pub bundle : Bundle O
    pub inside : Memᴰ bundle made
    pub house_is : bundle.house ≡ h
    pub incarnation_is : bundle.incarnation ≡ s.incarnation
    pub counter_is : bundle.counter ≡ s.counter
    pub as_many : length s.replies ≡ length bundle.calls
    pub answers : (x : Item O) → Memᴰ x bundle.calls → (q : Reply A) × Memᴰ q s.replies × (q.id ≡ x.id)

  -- a session of house h
  abbrev pub Sound : List (Bundle O) → ℕ → Session A → Type 0
  Sound made h s = (s.counter ≡ 0) ⊎ OfBundle made h s

  abbrev pub AllSound : List (Bundle O) → (ℕ → Session A) → Type 0
  AllSound made done = (h : ℕ) → Sound made h (done h)

  pub sound_grows : {made all : List (Bundle O)} → ((b : Bundle O) → Memᴰ b made → Memᴰ b all) → (h : ℕ) (s : Session A) → Sound made h s → Sound all h s
  sound_grows f h s (inl e) = inl e
  sound_grows f h s (inr o) = inr (record { bundle = o.bundle; inside = f o.bundle o.inside; house_is = o.house_is; incarnation_is = o.incarnation_is; counter_is = o.counter_is; as_many = o.as_many; answers = o.answers })

module _ {O : Type 0} where
  abbrev pub AllIn : (made bs : List (Bundle O)) → Type 0
  AllIn made bs = (b : Bundle O) → Memᴰ b bs → Memᴰ b made

  abbrev pub Votes : List (Bundle O) → Proposal (Command O) → Type 0
  Votes made nothing = Unit {0}
  Votes made (voted b k) = AllIn made k

  pub votes_grow : {made all : List (Bundle O)} → AllIn all made → (u : Proposal (Command O)) → Votes made u → Votes all u
  votes_grow f nothing v = tt
  votes_grow f (voted b k) v = λ c m. f c (v c m)

  votes_higher : (made : List (Bundle O)) (u v : Proposal (Command O)) → Votes made u → Votes made v → Votes made (higher u v)
  votes_higher made u v f g = by_test (Votes made) (nat_lt (rank u) (rank v)) (λ _. g) (λ _. f)

  -- no two have one number
  abbrev pub OneEach : List (Bundle O) → Type 0
  OneEach made = (b c : Bundle O) → Memᴰ b made → Memᴰ c made → b.house ≡ c.house → b.incarnation ≡ c.incarnation → b.counter ≡ c.counter → b ≡ c

  -- a bundle's number is no higher
  abbrev pub Low : Bundle O → (i c : ℕ) → Type 0
  Low b i c = (b.incarnation < i) ⊎ ((b.incarnation ≡ i) × (b.counter ≤ c))

  -- what house j remembers, in incarnation n
  pub record Recalls (made : List (Bundle O)) (j n : ℕ) (me incarnation counter : ℕ) (way : Way O) (heard : List (Bundle O)) : Type 0 where
    pub me_is : me ≡ j
    pub incarnation_is : incarnation ≡ n
    pub low : (b : Bundle O) → Memᴰ b made → b.house ≡ j → Low b incarnation counter
    pub way_is : (b : Bundle O) → way ≡ under b → Memᴰ b made × (b.house ≡ j) × (0 < b.counter)
    pub heard_is : AllIn made heard

  pub not_of_in : (h : ℕ) (bs : List (Bundle O)) → AllIn bs (not_of h bs)
  unfolding not_of
  not_of_in h [] b m = m
  not_of_in h (c ∷ bs) b m = go (not_of_in h bs b) m
    where
      go : (Memᴰ b (not_of h bs) → Memᴰ b bs) → Memᴰ b (Rattle.std.specs.Prelude.cond (c.house == h) (not_of h bs) (c ∷ not_of h bs)) → Memᴰ b (c ∷ bs)
      go f =
          by_test (λ z. Memᴰ b z → Memᴰ b (c ∷ bs)) (c.house == h) (λ _ n. Memᴰ.tail (f n))
          (λ _ n. elim (Memᴰ.cases_cons n) [ inl e ↦ Memᴰ.head e | inr l ↦ Memᴰ.tail (f l) ])

  pub undone_in : {A : Type 0} (bs : List (Bundle O)) (done : ℕ → Session A) → AllIn bs (undone bs done)
  unfolding undone
  undone_in [] done b m = m
  undone_in (c ∷ bs) done b m = go (undone_in bs done b) m
    where
      go : (Memᴰ b (undone bs done) → Memᴰ b bs) → Memᴰ b (Rattle.std.specs.Prelude.cond (is_new c done) (c ∷ undone bs done) (undone bs done)) → Memᴰ b (c ∷ bs)
      go f =
          by_test (λ z. Memᴰ b z → Memᴰ b (c ∷ bs)) (is_new c done)
          (λ _ n. elim (Memᴰ.cases_cons n) [ inl e ↦ Memᴰ.head e | inr l ↦ Memᴰ.tail (f l) ]) (λ _ n. Memᴰ.tail (f n))

module _ {X O A : Type 0} where
  abbrev pub TailOk : List (Bundle O) → Tail X A → Type 0
  TailOk made (more k) = Unit {0}
  TailOk made (ends x done) = AllSound made done

  pub tail_grows : {made all : List (Bundle O)} → AllIn all made → (z : Tail X A) → TailOk made z → TailOk all z
  tail_grows f (more k) h = tt
  tail_grows f (ends x done) h = λ i. sound_grows f i (done i) (h i)

module _ {X B O A : Type 0} where
  abbrev pub WorkOk : List (Bundle O) → Work X B O A → Type 0
  WorkOk made rests = Unit {0}
  WorkOk made (applies k) = AllIn made k
  WorkOk made (takes r x) = TailOk made x.tail
  WorkOk made (replaces x) = Unit {0}

  work_grows : {made all : List (Bundle O)} → AllIn all made → (z : Work X B O A) → WorkOk made z → WorkOk all z
  work_grows f rests h = tt
  work_grows f (applies k) h = λ b m. f b (h b m)
  work_grows f (takes r x) h = tail_grows f x.tail h
  work_grows f (replaces x) h = tt

  -- of the parts of a turn of house j
  pub record Fits (made : List (Bundle O)) (j n : ℕ) (proposal : Proposal (Command O)) (done : ℕ → Session A) (me incarnation counter : ℕ) (way : Way O) (heard : List (Bundle O)) (work : Work X B O A) : Type 0 where
    pub votes : Votes made proposal
    pub sound : AllSound made done
    pub recalls : Recalls made j n me incarnation counter way heard
    pub works : WorkOk made work

  module _ (made : List (Bundle O)) (j n : ℕ) where
    abbrev pub Fit : Turn X B O A → Type 0
    Fit t = Fits made j n t.agreeing.proposal t.sessions t.memory.me t.memory.incarnation t.memory.counter t.memory.way t.memory.heard t.work

    voting : {u u' : Proposal (Command O)} {done : ℕ → Session A} {me i c : ℕ} {y : Way O} {bs : List (Bundle O)} {z : Work X B O A} → Fits made j n u done me i c y bs z → Votes made u' → Fits made j n u' done me i c y bs z
    voting v h = record { votes = h; sound = v.sound; recalls = v.recalls; works = v.works }

    pub working : {u : Proposal (Command O)} {done : ℕ → Session A} {me i c : ℕ} {y : Way O} {bs : List (Bundle O)} {z z' : Work X B O A} → Fits made j n u done me i c y bs z → WorkOk made z' → Fits made j n u done me i c y bs z'
    working v h = record { votes = v.votes; sound = v.sound; recalls = v.recalls; works = h }

    pub fit_forward : (t : Turn X B O A) → Fit t → Fit (forward t)
    unfolding forward
    fit_forward t v = by_test Fit (is_open t) (λ _. voting v (λ b m. v.recalls.heard_is b (undone_in t.memory.heard t.sessions b m))) (λ _. v)

    fit_bundle : (b : Bundle O) (t : Turn X B O A) → Memᴰ b made → Fit t → Fit (on_bundle b t)
    unfolding on_bundle
    fit_bundle b t h v = by_test Fit (is_copy t.memory.me) (λ _. by_test Fit (is_new b t.sessions) (λ _. heard) (λ _. v)) (λ _. v)
      where
        heard : Fits made j n t.agreeing.proposal t.sessions t.memory.me t.memory.incarnation t.memory.counter t.memory.way (b ∷ not_of b.house t.memory.heard) t.work
        heard =
            record {
              votes = v.votes;
              sound = v.sound;
              recalls =
                  record {
                    me_is = v.recalls.me_is;
                    incarnation_is = v.recalls.incarnation_is;
                    low = v.recalls.low;
                    way_is = v.recalls.way_is;
                    heard_is = λ c m. elim (Memᴰ.cases_cons m) [ inl e ↦ subst (λ (z : Bundle O). Memᴰ z made) (sym e) h | inr l ↦ v.recalls.heard_is c (not_of_in b.house t.memory.heard c l) ];
                  };
              works = v.works;
            }

    fit_freed : (s : Session A) (t : Turn X B O A) → Fit t → Fit (freed s t)
    fit_freed s t v =
        record {
          votes = v.votes;
          sound = v.sound;
          recalls = record { me_is = v.recalls.me_is; incarnation_is = v.recalls.incarnation_is; low = v.recalls.low; way_is = λ b e. absurd (let z : ◌≡◌ {A = ℕ} 0 1 = cc in omega arith); heard_is = v.recalls.heard_is };
          works = v.works;
        }

    pub fit_settle : (s : Session A) (u : Way O) (t : Turn X B O A) → Fit t → Fit (settle s u t)
    unfolding settle
    fit_settle s free t v = v
    fit_settle s (under b) t v = by_test Fit (b.incarnation == s.incarnation && b.counter == s.counter) (λ _. fit_freed s t v) (λ _. v)

    pub fit_here : (t : Turn X B O A) → Fit t → Fit (settle_here t)
    unfolding settle_here
    fit_here t v = by_test Fit (is_copy t.memory.me) (λ _. fit_settle (t.sessions t.memory.me) t.memory.way t v) (λ _. v)

    -- a status
    fit_raising : (r p : ℕ) (x : Status O) (t : Turn X B O A) → Fit t → Fit (raising r p x t)
    fit_raising r p x t v = by_test (λ (z : Turn X B O A). Fit (agreed (raised p t.agreeing) z)) (nat_lt t.agreeing.promised p || nat_lt x.promised p) (λ _. v) (λ _. v)

    fit_ahead : (r p : ℕ) (x : Status O) (u : Proposal (Command O)) (t : Turn X B O A) → Votes made u → Fit t → Fit (ahead r p x u t)
    unfolding ahead
    fit_ahead r p x nothing t h v = v
    fit_ahead r p x (voted vb vk) t h v = by_test Fit (x.version == suc t.agreeing.version && nat_le x.last vb) (λ _. working (voting v tt) h) (λ _. v)

    fit_takes : (p : ℕ) (u : Proposal (Command O)) (t : Turn X B O A) → Votes made u → Fit t → Fit (takes_over p u t)
    unfolding takes_over
    fit_takes p nothing t h v = v
    fit_takes p (voted b k) t h v = voting v h

    fit_lead : (r p : ℕ) (x : Status O) (t : Turn X B O A) → Votes made x.proposal → Fit t → Fit (may_lead r p x t)
    unfolding may_lead
    fit_lead r p x t h v =
        by_test Fit (p % 3 == t.memory.me && (x.promised == p && not (rank t.agreeing.proposal == suc p)))
        (λ _. fit_takes p (higher t.agreeing.proposal x.proposal) t (votes_higher made t.agreeing.proposal x.proposal v.votes h) v) (λ _. fit_raising r p x t v)

    fit_even : (r p : ℕ) (x : Status O) (u : Proposal (Command O)) (t : Turn X B O A) → Votes made u → Votes made x.proposal → Fit t → Fit (even r p x u t)
    unfolding even
    fit_even r p x nothing t g h v = fit_lead r p x t h v
    fit_even r p x (voted b k) t g h v = by_test Fit (p % 3 == r && (x.promised == p && b == p)) (λ _. working (voting v tt) g) (λ _. fit_lead r p x t h v)

    fit_hears : (r p : ℕ) (x : Status O) (t : Turn X B O A) → Votes made x.proposal → Fit t → Fit (hears r p x t)
    unfolding hears
    fit_hears r p x t h v =
        by_test Fit (nat_lt t.agreeing.version x.version) (λ _. fit_ahead r p x t.agreeing.proposal t v.votes v)
        (λ _. by_test Fit (nat_lt x.version t.agreeing.version) (λ _. v) (λ _. fit_even r p x x.proposal t h h v))

    fit_status_of : (r p : ℕ) (x : Status O) (u : Recovery) (t : Turn X B O A) → Votes made x.proposal → Fit t → Fit (status_of r p x u t)
    unfolding status_of asks_on
    fit_status_of r p x (recovers a b) t h v = by_test Fit (not x.recovering && (nat_le t.agreeing.version x.version && not t.memory.pass.asked)) (λ _. v) (λ _. v)
    fit_status_of r p x level t h v = by_test Fit x.recovering (λ _. v) (λ _. fit_hears r p x t h v)

    pub fit_status : (r : ℕ) (x : Status O) (t : Turn X B O A) → Votes made x.proposal → Fit t → Fit (on_status r x t)
    unfolding on_status
    fit_status r x t h v = by_test Fit (is_copy t.memory.me && (is_copy r && not (r == t.memory.me))) (λ _. fit_status_of r (max t.agreeing.promised x.promised) x t.agreeing.recovery (noted r x t) h v) (λ _. v)

    -- a part
    pub fit_part : (r : ℕ) (x : Part X B A) (t : Turn X B O A) → TailOk made x.tail → Fit t → Fit (on_part r x t)
    unfolding on_part
    fit_part r x t h v = by_test Fit (is_copy t.memory.me && (is_asked x.asked t.memory.pass t.agreeing.recovery && nat_le t.agreeing.version x.version)) (λ _. working v h) (λ _. v)

    fit_passed : (r p : ℕ) (x : Part X B A) (rest : X) (done : ℕ → Session A) (s : Span) (t : Turn X B O A) → AllSound made done → Fit t → Fit (passed r p x rest done s t)
    unfolding passed
    fit_passed r p x rest done unseen t h v = v
    fit_passed r p x rest done (from_to l m) t h v = by_test Fit (l == m) (λ _. record { votes = votes; sound = h; recalls = v.recalls; works = tt }) (λ _. v)
      where
        votes : Votes made (Rattle.std.specs.Prelude.cond (x.version == t.agreeing.version) (Rattle.copies.specs.Copy.ended p t.agreeing) (Rattle.copies.specs.Copy.adopted p x.version x.last t.agreeing)).proposal
        votes = by_test (λ (a : Agreeing O). Votes made a.proposal) (x.version == t.agreeing.version) (λ _. v.votes) (λ _. tt)

    fit_taken : (r : ℕ) (x : Part X B A) (t : Turn X B O A) → TailOk made x.tail → Fit t → Fit (taken r x t)
    unfolding tail_taken
    fit_taken r x t h v = go x.tail t.agreeing.recovery h
      where
        go : (z : Tail X A) (u : Recovery) → TailOk made z → Fit (tail_taken r (max t.agreeing.promised x.promised) x z u (record t { work = rests }))
        go z level g = working v tt
        go (more k) (recovers a b) g = working v tt
        go (ends rest done) (recovers a b) g = fit_passed r (max t.agreeing.promised x.promised) x rest done (widened x.version t.memory.pass.span) (record t { work = rests }) g (working v tt)

    fit_want : (r : ℕ) (q : Want) (t : Turn X B O A) → Fit t → Fit (on_want r q t)
    unfolding on_want
    fit_want r q t v = by_test Fit (is_copy t.memory.me && is_level t.agreeing.recovery) (λ _. v) (λ _. v)

    -- a tick
    fit_elect : (t : Turn X B O A) → Fit t → Fit (elect t)
    unfolding elect
    fit_elect t v = by_test Fit (nat_lt (suc t.memory.quiet) (patience t.memory.me)) (λ _. v) (λ _. v)

    pub fit_tick : (t : Turn X B O A) → Fit t → Fit (on_tick t)
    unfolding on_tick stirs
    fit_tick t v = by_test Fit (is_copy t.memory.me) (λ _. go t.agreeing.recovery) (λ _. v)
      where
        go : (u : Recovery) → Fit (stirs u (resend t))
        go (recovers a b) = v
        go level = by_test Fit (t.memory.lead == suc t.agreeing.promised) (λ _. v) (λ _. fit_elect (resend t) v)

  module _ (made : List (Bundle O)) (j n : ℕ) where
    -- A new bundle may be made.
    pub record Grown (t : Turn X B O A) : Type 0 where
      pub all : List (Bundle O)
      pub one : OneEach all
      pub older : AllIn all made
      pub newer : (b : Bundle O) → Memᴰ b all → (Memᴰ b made) ⊎ (b.house ≡ j)
      pub fits : Fits all j n t.agreeing.proposal t.sessions t.memory.me t.memory.incarnation t.memory.counter t.memory.way t.memory.heard t.work

    still : (t : Turn X B O A) → OneEach made → Fit made j n t → Grown t
    still t o v = record { all = made; one = o; older = λ b m. m; newer = λ b m. inl m; fits = v }

    pub grown_pack : (t : Turn X B O A) → OneEach made → Fit made j n t → Grown (pack t)
    unfolding pack
    grown_pack t o v = by_test Grown (is_free t.memory.way && not (is_nil t.memory.waiting)) (λ _. new) (λ _. still t o v)
      where
        b : Bundle O
        b = new_bundle t.memory

        unlike : (c : Bundle O) → Memᴰ c made → c.house ≡ t.memory.me → c.incarnation ≡ t.memory.incarnation → c.counter ≡ suc t.memory.counter → ⊥
        unlike c m e f g = omega (arith, v.recalls.low c m (e ∙ v.recalls.me_is))

        one : OneEach (b ∷ made)
        one c d m l e f g = elim (Memᴰ.cases_cons m) [
          | inl p ↦ elim (Memᴰ.cases_cons l) [
            | inl q ↦ p ∙ sym q
            | inr k ↦ absurd (unlike d k (sym e ∙ ap (λ (z : Bundle O). z.house) p) (sym f ∙ ap (λ (z : Bundle O). z.incarnation) p) (sym g ∙ ap (λ (z : Bundle O). z.counter) p))
          ]
          | inr h ↦ elim (Memᴰ.cases_cons l) [
            | inl q ↦ absurd (unlike c h (e ∙ ap (λ (z : Bundle O). z.house) q) (f ∙ ap (λ (z : Bundle O). z.incarnation) q) (g ∙ ap (λ (z : Bundle O). z.counter) q))
            | inr k ↦ o c d h k e f g
          ]
        ]

        low : (c : Bundle O) → Memᴰ c (b ∷ made) → c.house ≡ j → Low c t.memory.incarnation (suc t.memory.counter)
        low c m e = elim (Memᴰ.cases_cons m) [
          | inl p ↦ inr (ap (λ (z : Bundle O). z.incarnation) p, omega (arith, ap (λ (z : Bundle O). z.counter) p))
          | inr h ↦ elim (v.recalls.low c h e) [ inl l ↦ inl l | inr l ↦ inr (l.0, omega (arith, l.1)) ]
        ]

        way_is : (c : Bundle O) → ◌≡◌ {A = Way O} (under b) (under c) → Memᴰ c (b ∷ made) × (c.house ≡ j) × (0 < c.counter)
        way_is c e = let f : b ≡ c = cc in subst (λ (z : Bundle O). Memᴰ z (b ∷ made) × (z.house ≡ j) × (0 < z.counter)) f (Memᴰ.head refl, v.recalls.me_is, omega arith)

        new : Grown (packed t)
        new =
            record {
              all = b ∷ made;
              one = one;
              older = λ c m. Memᴰ.tail m;
              newer = λ c m. elim (Memᴰ.cases_cons m) [ inl p ↦ inr (ap (λ (z : Bundle O). z.house) p ∙ v.recalls.me_is) | inr h ↦ inl h ];
              fits =
                  record {
                    votes = votes_grow (λ c m. Memᴰ.tail m) t.agreeing.proposal v.votes;
                    sound = λ h. sound_grows (λ c m. Memᴰ.tail m) h (t.sessions h) (v.sound h);
                    recalls = record { me_is = v.recalls.me_is; incarnation_is = v.recalls.incarnation_is; low = low; way_is = way_is; heard_is = λ c m. elim (Memᴰ.cases_cons m) [ inl p ↦ Memᴰ.head p | inr h ↦ Memᴰ.tail (v.recalls.heard_is c (not_of_in t.memory.me t.memory.heard c h)) ] };
                    works = work_grows (λ c m. Memᴰ.tail m) t.work v.works;
                  };
            }

    pub grown_forward : (t : Turn X B O A) → Grown t → Grown (forward t)
    grown_forward t g = record { all = g.all; one = g.one; older = g.older; newer = g.newer; fits = fit_forward g.all j n t g.fits }

    grown_goes : (t : Turn X B O A) → OneEach made → Fit made j n t → Grown (goes_on t)
    grown_goes t o v = grown_forward _ (grown_pack _ o (fit_here made j n t v))

module _ {O R : Type 0} (sv : Service O R) (kp : Keeper sv) where
  module _ (made : List (Bundle O)) where
    pub runs_many : (v : ℕ) (xs : List (Item O)) (r : sv.Rest) (s : kp.Kept) → length (runs sv kp v xs r s).replies ≡ length xs
    unfolding runs
    runs_many v [] r s = refl
    runs_many v (x ∷ xs) r s = let z = runs_many v xs (sv.next x.call r (kp.look s)) (kp.write (sv.next x.call r (kp.look s)) v (sv.changes x.call r (kp.look s)) s) in omega arith

    runs_answers : (v : ℕ) (xs : List (Item O)) (r : sv.Rest) (s : kp.Kept) (x : Item O) → Memᴰ x xs → (q : Reply sv.A) × Memᴰ q (runs sv kp v xs r s).replies × (q.id ≡ x.id)
    unfolding runs
    runs_answers v [] r s x m = absurd (Memᴰ.not-nil m)
    runs_answers v (y ∷ xs) r s x m = elim (Memᴰ.cases_cons m) [
      | inl e ↦ (_, Memᴰ.head refl, ap (λ (z : Item O). z.id) (sym e))
      | inr n ↦ (let q = runs_answers v xs (sv.next y.call r (kp.look s)) (kp.write (sv.next y.call r (kp.look s)) v (sv.changes y.call r (kp.look s)) s) x n in (q.0, Memᴰ.tail q.1, q.2))
    ]

    sound_bundle : (v : ℕ) (b : Bundle O) (z : State sv kp) → Memᴰ b made → AllSound made z.sessions → AllSound made (bundle_done sv kp v b z).sessions
    unfolding bundle_done
    sound_bundle v b z m f = by_test (λ (y : State sv kp). AllSound made y.sessions) (is_new b z.sessions) (λ _ h. by_test (Sound made h) (h == b.house) (λ e. inr (record { bundle = b; inside = m; house_is = sym (eqb-true _ _ e); incarnation_is = refl; counter_is = refl; as_many = runs_many v b.calls z.rest z.kept; answers = runs_answers v b.calls z.rest z.kept })) (λ _. f h)) (λ _. f)

    sound_command : (v : ℕ) (k : Command O) (z : State sv kp) → AllIn made k → AllSound made z.sessions → AllSound made (command_done sv kp v k z).sessions
    unfolding command_done
    sound_command v [] z m f = f
    sound_command v (b ∷ k) z m f = sound_command v k (bundle_done sv kp v b z) (λ c l. m c (Memᴰ.tail l)) (sound_bundle v b z (m b (Memᴰ.head refl)) f)

    abbrev pub MsgOk : (to : ℕ) → Messages sv kp → Type 0
    MsgOk to (Bundled b) = Memᴰ b made
    MsgOk to (Done s) = Sound made to s
    MsgOk to (Told x) = Votes made x.proposal
    MsgOk to (Asked q) = Unit {0}
    MsgOk to (Given x) = TailOk made x.tail

    module _ (j n : ℕ) where
      pub fit_works : (w : Wholes sv kp) → Fit made j n w.turn → Fit made j n (works sv kp w).turn
      unfolding does_work stowed put_rest
      fit_works w v = go w.turn.work v.works
        where
          rest : (u : Work sv.Rest sv.Block O sv.A) (z : Wholes sv kp) → Fit made j n z.turn → Fit made j n (put_rest sv kp u z).turn
          rest rests z f = f
          rest (applies k) z f = f
          rest (takes r x) z f = f
          rest (replaces x) z f = working made j n f tt

          stow : (r : ℕ) (x : Part sv.Rest sv.Block sv.A) (s : Option kp.Kept) → TailOk made x.tail → Fit made j n (stowed sv kp r x s w).turn
          stow r x None h = working made j n v tt
          stow r x (Some s) h = rest (taken r x w.turn).work (record w { turn = taken r x w.turn; kept = s }) (fit_taken made j n r x w.turn h v)

          go : (u : Work sv.Rest sv.Block O sv.A) → WorkOk made u → Fit made j n (does_work sv kp u w).turn
          go rests h = v
          go (applies k) h = record { votes = v.votes; sound = sound_command w.turn.agreeing.version k _ h v.sound; recalls = v.recalls; works = tt }
          go (takes r x) h = stow r x (kp.take w.rest x.whole x.asked.key (next_key x.tail) x.floor x.blocks w.kept) h
          go (replaces x) h = v

      pub grown_got : (r : ℕ) (x : Messages sv kp) (w : Wholes sv kp) → OneEach made → MsgOk j x → Fit made j n w.turn → Grown made j n (got sv kp r x w).turn
      grown_got r (Bundled b) w o h v = still made j n _ o (fit_forward made j n _ (fit_bundle made j n b w.turn h v))
      grown_got r (Done s) w o h v = grown_forward made j n _ (grown_pack made j n _ o (fit_settle made j n s w.turn.memory.way w.turn v))
      grown_got r (Told x) w o h v = grown_goes made j n _ o (fit_works _ (fit_status made j n r x w.turn h v))
      grown_got r (Asked q) w o h v = still made j n _ o (fit_want made j n r q w.turn v)
      grown_got r (Given x) w o h v = grown_goes made j n _ o (fit_works _ (fit_part made j n r x w.turn h v))

      pub grown_tick : (w : Wholes sv kp) → OneEach made → Fit made j n w.turn → Grown made j n (ticked sv kp w).turn
      grown_tick w o v = grown_goes made j n _ o (fit_tick made j n w.turn v)
