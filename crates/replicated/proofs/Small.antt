-- Numbers that are no larger than a bound, bundles of 1 to 8 calls of houses below 49, and commands with one bundle of a house at the most: what
-- this says of all that a house stores, remembers and sends.
use Rattle.std.specs.Prelude.{◌≡◌, ◌<◌, ◌≤◌, ℕ, ◌+◌, Bool, true, false, cond, List, [], ◌∷◌, length, Option, Some, None, count_by, nat_lt, ◌==◌}
use Rattle.std.proofs.lemmas.List.Sums.{sum_by-cons}
use Rattle.std.proofs.Common.{refl, ap, subst, sym, inl, inr, arith, eq-eqb, eqb-true}
use mathlib.Core.List.Memᴰ
use mathlib.Core.List.{Memᴰ}
use Rattle.agreement.specs.Copies.{Proposal, nothing, voted, rank, higher}
use Rattle.agreement.proofs.Base.{by_test}
use Rattle.copies.specs.Messages.{Item, Bundle, Command, Session, Recovery, level, recovers, Agreeing, Status, Want, Part, Tail, more, ends}
use Rattle.copies.specs.Copy.{Way, free, under, Span, unseen, from_to, Serve, Work, rests, applies, takes, replaces, Turn, is_new, not_of, undone}
use Rattle.replicated.proofs.Fits.{not_of_in, undone_in}

abbrev pub SmallRecovery : ℕ → Recovery → Type 0
SmallRecovery n level = Unit {0}
SmallRecovery n (recovers a t) = (a ≤ n) × (t ≤ n)

abbrev pub SmallSpan : ℕ → Span → Type 0
SmallSpan n unseen = Unit {0}
SmallSpan n (from_to l h) = (l ≤ n) × (h ≤ n)

module _ {O : Type 0} where
  pub record SmallBundle (n : ℕ) (b : Bundle O) : Type 0 where
    pub house : b.house < 49
    pub incarnation : b.incarnation ≤ n
    pub counter : b.counter ≤ n
    pub some : 1 ≤ length b.calls
    pub few : length b.calls ≤ 8

  -- how many bundles are of a house
  abbrev pub many : ℕ → Command O → ℕ
  many h k = count_by (λ c. c.house == h) k

  pub record SmallCommand (n : ℕ) (k : Command O) : Type 0 where
    pub bundles : (b : Bundle O) → Memᴰ b k → SmallBundle n b
    pub one : (h : ℕ) → many h k ≤ 1

  abbrev pub SmallProposal : ℕ → Proposal (Command O) → Type 0
  SmallProposal n nothing = Unit {0}
  SmallProposal n (voted b k) = (b ≤ n) × SmallCommand n k

  pub record SmallAgreeing (n : ℕ) (a : Agreeing O) : Type 0 where
    pub promised : a.promised ≤ n
    pub version : a.version ≤ n
    pub last : a.last ≤ n
    pub proposal : SmallProposal n a.proposal
    pub recovery : SmallRecovery n a.recovery

  pub record SmallStatus (n : ℕ) (x : Status O) : Type 0 where
    pub promised : x.promised ≤ n
    pub version : x.version ≤ n
    pub last : x.last ≤ n
    pub proposal : SmallProposal n x.proposal

  -- the bundle under way and the calls behind it are eight at the most
  abbrev pub SmallWay : (n behind : ℕ) → Way O → Type 0
  SmallWay n behind free = Unit {0}
  SmallWay n behind (under b) = SmallBundle n b × (length b.calls + behind ≤ 8)

  pub record SmallMemory (n me incarnation counter quiet : ℕ) (waiting : List (Item O)) (way : Way O) (heard : List (Bundle O)) (span : Span) : Type 0 where
    pub house : me < 49
    pub incarnation_low : incarnation ≤ n
    pub counter_low : counter ≤ n
    pub quiet_low : quiet ≤ n
    pub few : length waiting ≤ 8
    pub way_small : SmallWay n (length waiting) way
    pub heard_small : SmallCommand n heard
    pub span_small : SmallSpan n span

pub record SmallSession {A : Type 0} (n : ℕ) (s : Session A) : Type 0 where
  pub incarnation : s.incarnation ≤ n
  pub counter : s.counter ≤ n
  pub few : length s.replies ≤ 8

abbrev pub SmallSessions : {A : Type 0} → ℕ → (ℕ → Session A) → Type 0
SmallSessions n done = (h : ℕ) → SmallSession n (done h)

pub record SmallWant (n : ℕ) (q : Want) : Type 0 where
  pub base : q.base ≤ n
  pub top : q.top ≤ n

abbrev pub SmallTail : {X A : Type 0} → ℕ → Tail X A → Type 0
SmallTail n (more k) = Unit {0}
SmallTail n (ends x done) = SmallSessions n done

pub record SmallPart {X B A : Type 0} (n : ℕ) (x : Part X B A) : Type 0 where
  pub asked : SmallWant n x.asked
  pub promised : x.promised ≤ n
  pub version : x.version ≤ n
  pub last : x.last ≤ n
  pub tail : SmallTail n x.tail

abbrev pub SmallWork : {X B O A : Type 0} → ℕ → Work X B O A → Type 0
SmallWork n rests = Unit {0}
SmallWork n (applies k) = SmallCommand n k
SmallWork n (takes r x) = SmallPart n x
SmallWork n (replaces x) = Unit {0}

abbrev pub SmallServes : ℕ → Option Serve → Type 0
SmallServes n None = Unit {0}
SmallServes n (Some s) = SmallWant n s.want

module _ {X B O A : Type 0} where
  -- of the parts of a turn
  pub record Smalls (n : ℕ) (a : Agreeing O) (done : ℕ → Session A) (me incarnation counter quiet : ℕ) (waiting : List (Item O)) (way : Way O) (heard : List (Bundle O)) (span : Span) (work : Work X B O A) (serves : Option Serve) : Type 0 where
    pub agreeing : SmallAgreeing n a
    pub sessions : SmallSessions n done
    pub memory : SmallMemory n me incarnation counter quiet waiting way heard span
    pub works : SmallWork n work
    pub serving : SmallServes n serves

  abbrev pub Small : ℕ → Turn X B O A → Type 0
  Small n t = Smalls n t.agreeing t.sessions t.memory.me t.memory.incarnation t.memory.counter t.memory.quiet t.memory.waiting t.memory.way t.memory.heard t.memory.pass.span t.work t.sends.serves

-- THE BOUND MAY BE RAISED
module _ {n m : ℕ} (l : n ≤ m) where
  recovery_up : (u : Recovery) → SmallRecovery n u → SmallRecovery m u
  recovery_up level s = tt
  recovery_up (recovers a t) s = (omega (arith, l, s.0), omega (arith, l, s.1))

  span_up : (u : Span) → SmallSpan n u → SmallSpan m u
  span_up unseen s = tt
  span_up (from_to a h) s = (omega (arith, l, s.0), omega (arith, l, s.1))

module _ {O : Type 0} {n m : ℕ} (l : n ≤ m) where
  pub bundle_up : (b : Bundle O) → SmallBundle n b → SmallBundle m b
  bundle_up b s = record { house = s.house; incarnation = omega (arith, l, s.incarnation); counter = omega (arith, l, s.counter); some = s.some; few = s.few }

  pub command_up : (k : Command O) → SmallCommand n k → SmallCommand m k
  command_up k s = record { bundles = λ b i. bundle_up b (s.bundles b i); one = s.one }

  pub proposal_up : (u : Proposal (Command O)) → SmallProposal n u → SmallProposal m u
  proposal_up nothing s = tt
  proposal_up (voted b k) s = (omega (arith, l, s.0), command_up k s.1)

  pub agreeing_up : (a : Agreeing O) → SmallAgreeing n a → SmallAgreeing m a
  agreeing_up a s = record { promised = omega (arith, l, s.promised); version = omega (arith, l, s.version); last = omega (arith, l, s.last); proposal = proposal_up a.proposal s.proposal; recovery = recovery_up l a.recovery s.recovery }

  pub status_up : (x : Status O) → SmallStatus n x → SmallStatus m x
  status_up x s = record { promised = omega (arith, l, s.promised); version = omega (arith, l, s.version); last = omega (arith, l, s.last); proposal = proposal_up x.proposal s.proposal }

  way_up : (k : ℕ) (u : Way O) → SmallWay n k u → SmallWay m k u
  way_up k free s = tt
  way_up k (under b) s = (bundle_up b s.0, s.1)

module _ {n m : ℕ} (l : n ≤ m) where
  pub session_up : {A : Type 0} (s : Session A) → SmallSession n s → SmallSession m s
  session_up s f = record { incarnation = omega (arith, l, f.incarnation); counter = omega (arith, l, f.counter); few = f.few }

  pub want_up : (q : Want) → SmallWant n q → SmallWant m q
  want_up q s = record { base = omega (arith, l, s.base); top = omega (arith, l, s.top) }

  serves_up : (z : Option Serve) → SmallServes n z → SmallServes m z
  serves_up None s = tt
  serves_up (Some z) s = want_up z.want s

  tail_up : {X A : Type 0} (z : Tail X A) → SmallTail n z → SmallTail m z
  tail_up (more k) s = tt
  tail_up (ends x done) s = λ h. session_up (done h) (s h)

  pub part_up : {X B A : Type 0} (x : Part X B A) → SmallPart n x → SmallPart m x
  part_up x s = record { asked = want_up x.asked s.asked; promised = omega (arith, l, s.promised); version = omega (arith, l, s.version); last = omega (arith, l, s.last); tail = tail_up x.tail s.tail }

module _ {X B O A : Type 0} {n m : ℕ} (l : n ≤ m) where
  work_up : (z : Work X B O A) → SmallWork n z → SmallWork m z
  work_up rests s = tt
  work_up (applies k) s = command_up l k s
  work_up (takes r x) s = part_up l x s
  work_up (replaces x) s = tt

  pub small_up : {a : Agreeing O} {done : ℕ → Session A} {me i c q : ℕ} {ws : List (Item O)} {y : Way O} {bs : List (Bundle O)} {d : Span} {z : Work X B O A} {o : Option Serve} → Smalls n a done me i c q ws y bs d z o → Smalls m a done me i c q ws y bs d z o
  small_up {a} {done} {me} {i} {c} {q} {ws} {y} {bs} {d} {z} {o} s =
      record {
        agreeing = agreeing_up l a s.agreeing;
        sessions = λ h. session_up l (done h) (s.sessions h);
        memory =
            record {
              house = s.memory.house;
              incarnation_low = omega (arith, l, s.memory.incarnation_low);
              counter_low = omega (arith, l, s.memory.counter_low);
              quiet_low = omega (arith, l, s.memory.quiet_low);
              few = s.memory.few;
              way_small = way_up l (length ws) y s.memory.way_small;
              heard_small = command_up l bs s.memory.heard_small;
              span_small = span_up l d s.memory.span_small;
            };
        works = work_up z s.works;
        serving = serves_up l o s.serving;
      }

-- COMMANDS from bundles that were heard
abbrev digit : Bool → ℕ
digit t = cond t 1 0

module _ {O : Type 0} where
  abbrev one_of : ℕ → Bundle O → ℕ
  one_of h b = digit (b.house == h)

  add : (h : ℕ) (b : Bundle O) (k : Command O) → many h (b ∷ k) ≡ one_of h b + many h k
  add h b k = sum_by-cons (λ (c : Bundle O). cond (c.house == h) 1 0) b k

  not_of_few : (g h : ℕ) (bs : List (Bundle O)) → many h (not_of g bs) ≤ many h bs
  unfolding not_of
  not_of_few g h [] = omega arith
  not_of_few g h (b ∷ bs) =
      let f : many h (not_of g bs) ≤ many h (b ∷ bs) = omega (arith, not_of_few g h bs, add h b bs) in
      let k : many h (b ∷ not_of g bs) ≤ many h (b ∷ bs) = omega (arith, not_of_few g h bs, add h b bs, add h b (not_of g bs)) in
      by_test (λ (z : Command O). many h z ≤ many h (b ∷ bs)) (b.house == g) (λ _. f) (λ _. k)

  not_of_none : (h : ℕ) (bs : List (Bundle O)) → many h (not_of h bs) ≡ 0
  unfolding not_of
  not_of_none h [] = refl
  not_of_none h (b ∷ bs) = by_test (λ (z : Command O). many h z ≡ 0) (b.house == h) (λ _. not_of_none h bs) (other (not_of_none h bs))
    where
      other : many h (not_of h bs) ≡ 0 → (b.house == h) ≡ false → many h (b ∷ not_of h bs) ≡ 0
      other z e = omega (arith, z, add h b (not_of h bs), ap digit e)

  undone_few : {A : Type 0} (h : ℕ) (bs : List (Bundle O)) (done : ℕ → Session A) → many h (undone bs done) ≤ many h bs
  unfolding undone
  undone_few h [] done = omega arith
  undone_few h (b ∷ bs) done =
      let f : many h (undone bs done) ≤ many h (b ∷ bs) = omega (arith, undone_few h bs done, add h b bs) in
      let k : many h (b ∷ undone bs done) ≤ many h (b ∷ bs) = omega (arith, undone_few h bs done, add h b bs, add h b (undone bs done)) in
      by_test (λ (z : Command O). many h z ≤ many h (b ∷ bs)) (is_new b done) (λ _. k) (λ _. f)

  pub small_undone : {A : Type 0} (n : ℕ) (bs : List (Bundle O)) (done : ℕ → Session A) → SmallCommand n bs → SmallCommand n (undone bs done)
  small_undone n bs done s = record { bundles = λ b i. s.bundles b (undone_in bs done b i); one = λ h. omega (arith, s.one h, undone_few h bs done) }

  -- a bundle takes the place of its house's
  pub small_heard : (n : ℕ) (b : Bundle O) (bs : List (Bundle O)) → SmallBundle n b → SmallCommand n bs → SmallCommand n (b ∷ not_of b.house bs)
  small_heard n b bs f s = record { bundles = bundles; one = λ h. one h (b.house == h) refl }
    where
      bundles : (c : Bundle O) → Memᴰ c (b ∷ not_of b.house bs) → SmallBundle n c
      bundles c i = elim (Memᴰ.cases_cons i) [ inl e ↦ subst (SmallBundle n) (sym e) f | inr l ↦ s.bundles c (not_of_in b.house bs c l) ]

      one : (h : ℕ) (t : Bool) → (b.house == h) ≡ t → many h (b ∷ not_of b.house bs) ≤ 1
      one h true e = let z : many h (not_of b.house bs) ≡ 0 = subst (λ (g : ℕ). many h (not_of g bs) ≡ 0) (sym (eqb-true _ _ e)) (not_of_none h bs) in omega (arith, z, add h b (not_of b.house bs), ap digit e)
      one h false e = omega (arith, not_of_few b.house h bs, s.one h, add h b (not_of b.house bs), ap digit e)

  pub small_none : (n : ℕ) → SmallCommand {O = O} n []
  small_none n = record { bundles = λ b i. absurd (Memᴰ.not-nil i); one = λ h. omega arith }

  pub small_higher : (n : ℕ) (u v : Proposal (Command O)) → SmallProposal n u → SmallProposal n v → SmallProposal n (higher u v)
  small_higher n u v f g = by_test (SmallProposal n) (nat_lt (rank u) (rank v)) (λ _. g) (λ _. f)

  -- a bundle of a command is counted
  pub counted : (b : Bundle O) (k : Command O) → Memᴰ b k → 1 ≤ many b.house k
  counted b [] i = absurd (Memᴰ.not-nil i)
  counted b (c ∷ k) i = elim (Memᴰ.cases_cons i) [
    | inl e ↦ omega (arith, add b.house c k, ap digit (eq-eqb c.house b.house (ap (λ (z : Bundle O). z.house) (sym e))))
    | inr l ↦ omega (arith, counted b k l, add b.house c k)
  ]
