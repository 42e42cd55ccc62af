-- The houses answer. Two copies are in the group, and are given power. Each house of it may have a bundle under way, and calls that wait
-- behind it, which go into a second; when nothing is under way, nothing is pending there, since each call that is waits or is under way.
use Rattle.std.specs.Prelude.{◌≡◌, ℕ, zero, suc, ◌+◌, ◌*◌, true, T, List, [], ◌∷◌, length}
use Rattle.std.proofs.Common.{◌≤◌, ◌≢◌, sym, refl, ◌∙◌, inl, inr, arith}
use Rattle.std.proofs.Math.Nat.{suc-mul}
use mathlib.Core.List.Memᴰ
use mathlib.Core.List.{Memᴰ}
use native.Mathlib.Decide.{ℕ_discrete}
use Rattle.disks.specs.Cluster.{In, Seen, answered, Asking, distinct, inside}
use Rattle.compose.specs.Pure.{Stand, off, on, Trace, rises, risen, PureHelped, still, rising}
use Rattle.copies.specs.Service.{Service, Keeper, Lawful, Keeps}
use Rattle.copies.specs.Messages.{Bundle}
use Rattle.copies.specs.Copy.{Memory, Way, free, under}
use Rattle.copies.specs.House.{Disks, Messages, Guard, replicated, wakes}
use Rattle.copies.specs.Promise.{steps_for, ReplicatedAnswers}
use Rattle.replicated.proofs.Lists.{put_here, put_other}
use Rattle.replicated.proofs.Events.{reached}
use Rattle.replicated.proofs.Now.{Wor, Sure, Alone, Now}
use Rattle.replicated.proofs.Attempts.{End, attempt}
use Rattle.replicated.proofs.Open.{none_off, none_free}
use Rattle.replicated.proofs.Runs.{helped_then, pending_in, kept_or_told, Two, two, inside_low, distinct_apart, hole}

-- so many times as much, at most
times : (n k c : ℕ) → n ≤ k → n * c ≤ k * c
times n zero c l = let e : n ≡ zero = omega (arith, l) in rw e (omega arith)
times n (suc k) c l = elim (ℕ_discrete n (suc k)) [ yes e ↦ rw e (omega arith) | no f ↦ omega (arith, suc-mul k c, times n k c (omega (arith, l, f))) ]

module _ {O R : Type 0} (sv : Service O R) (kp : Keeper sv) (laws : Lawful sv) (keeps : Keeps sv kp) (ok : Guard sv kp) (lets : (x : In (Messages sv kp) O) (m : Memory O) (d : Disks sv kp) → ok x m d ≡ true) (all : ℕ) (three : 3 ≤ all) (group : List ℕ) (di : T (distinct group)) (ins : T (inside all group)) (long : all ≤ length group + 1) where
  sure : (fs : List (Seen O R)) (v : Wor sv kp) → Trace (replicated sv kp ok) all fs v → Sure sv kp v
  sure fs v t = let f = (reached sv kp ok laws keeps all t).fine in record { g = f.g; asked = f.asked; made = f.made; inv = f.inv; snaps = f.snaps; house = f.house }

  -- one bundle, and both that a house may send
  abbrev Once : ℕ
  Once = 24 * keeps.most + 66

  abbrev Twice : ℕ
  Twice = 48 * keeps.most + 132

  -- a run to where P holds
  record Run (k : ℕ) (es : List (Seen O R)) (w : Wor sv kp) (P : Wor sv kp → Type 0) : Type 0 where
    pub fs : List (Seen O R)
    pub v : Wor sv kp
    pub steps : ℕ
    pub run : PureHelped (replicated sv kp ok) all group steps es w fs v
    pub trace : Trace (replicated sv kp ok) all fs v
    pub is : P v
    pub cost : steps ≤ k

  copies : Two group
  copies = two all three group di ins long

  -- from world w on
  abbrev from : List (Seen O R) → Wor sv kp → Alone sv kp
  from es w = record { keeps = keeps; ok = ok; lets = lets; all = all; three = three; group = group; es = es; w = w; sure = sure }

  record Raised (es : List (Seen O R)) (w : Wor sv kp) (n : Now (from es w)) (x : ℕ) : Type 0 where
    pub then : Now (from es w)
    pub m : Memory O
    pub d : Disks sv kp
    pub is : then.v.house x ≡ on m d
    pub there : (j : ℕ) → j ≢ x → then.v.house j ≡ n.v.house j
    pub cost : then.steps ≤ 1 + n.steps

  raise : (es : List (Seen O R)) (w : Wor sv kp) (n : Now (from es w)) (x : ℕ) → Memᴰ x group → Raised es w n x
  raise es w n x g = go (n.v.house x) refl
    where
      go : (s : Stand (Memory O) (Disks sv kp)) → n.v.house x ≡ s → Raised es w n x
      go (off d) e = record {
        then = record { fs = n.fs; v = risen (replicated sv kp ok) all x d n.v; steps = suc n.steps; run = rising x d g n.run e; trace = rises x d (inside_low all group ins x g) n.trace e; news = n.news; wire_is = n.wire_is };
        m = (wakes sv kp x d).mem;
        d = (wakes sv kp x d).stored;
        is = put_here x (on (wakes sv kp x d).mem (wakes sv kp x d).stored) n.v.house;
        there = λ j ne. put_other x (on (wakes sv kp x d).mem (wakes sv kp x d).stored) n.v.house j ne;
        cost = omega arith;
      }
      go (on m d) e = record { then = n; m = m; d = d; is = e; there = λ j _. refl; cost = omega arith }

  tries : (es : List (Seen O R)) (w : Wor sv kp) (t : Trace (replicated sv kp ok) all es w) (i : ℕ) (gi : Memᴰ i group) (m0 : Memory O) (d0 : Disks sv kp) (b : Bundle O) (e0 : w.house i ≡ on m0 d0) (w0 : m0.way ≡ under b) → End (from es w) i gi (inside_low all group ins i gi) m0 d0 b e0 w0 Once
  tries es w t i gi m0 d0 b e0 w0 = one (raise es w n copies.x copies.gx)
    where
      n : Now (from es w)
      n = record { fs = es; v = w; steps = 0; run = still; trace = t; news = []; wire_is = refl }

      E : ℕ → Type 0
      E k = End (from es w) i gi (inside_low all group ins i gi) m0 d0 b e0 w0 k

      done : (k : ℕ) → k ≤ Once → E k → E Once
      done k l e = record { then = e.then; m = e.m; d = e.d; is = e.is; none = e.none; over = e.over; cost = omega (arith, e.cost, l) }

      two' : (a : Raised es w n copies.x) → Raised es w a.then copies.y → E Once
      two' a c =
          done (24 * keeps.most + 64 + c.then.steps) (omega (arith, c.cost, a.cost))
          (attempt (from es w) i gi (inside_low all group ins i gi) m0 d0 b e0 w0 copies.x copies.y (record { gx = copies.gx; gy = copies.gy; lx = copies.lx; ly = copies.ly; ne = copies.ne }) c.then a.m c.m a.d c.d (c.there copies.x (λ e. copies.ne (sym e)) ∙ a.is) c.is)

      one : Raised es w n copies.x → E Once
      one a = two' a (raise es w a.then copies.y copies.gy)

  abbrev Quiet : ℕ → Wor sv kp → Type 0
  Quiet i v = (a : Asking) → Memᴰ a v.pending → a.house ≢ i

  -- nothing waits at i: it has nothing under way, or that is answered too
  second : (es : List (Seen O R)) (w : Wor sv kp) → Trace (replicated sv kp ok) all es w → (i : ℕ) (gi : Memᴰ i group) (m : Memory O) (d : Disks sv kp) → w.house i ≡ on m d → m.waiting ≡ [] → (u : Way O) → m.way ≡ u → Run Once es w (Quiet i)
  second es w t i gi m d e q free f = record { fs = es; v = w; steps = 0; run = still; trace = t; is = none_free sv kp ok lets all t i m d e f; cost = omega arith }
  second es w t i gi m d e q (under b) f =
      let z = tries es w t i gi m d b e f in
      record { fs = z.then.fs; v = z.then.v; steps = z.then.steps; run = z.then.run; trace = z.then.trace; is = none_free sv kp ok lets all z.then.trace i z.m z.d z.is (z.over q); cost = z.cost }

  first : (es : List (Seen O R)) (w : Wor sv kp) → Trace (replicated sv kp ok) all es w → (i : ℕ) (gi : Memᴰ i group) (m : Memory O) (d : Disks sv kp) → w.house i ≡ on m d → (u : Way O) → m.way ≡ u → Run Twice es w (Quiet i)
  first es w t i gi m d e free f = record { fs = es; v = w; steps = 0; run = still; trace = t; is = none_free sv kp ok lets all t i m d e f; cost = omega arith }
  first es w t i gi m d e (under b) f = go (tries es w t i gi m d b e f)
    where
      go : End (from es w) i gi (inside_low all group ins i gi) m d b e f Once → Run Twice es w (Quiet i)
      go z = by_second (second z.then.fs z.then.v z.then.trace i gi z.m z.d z.is z.none z.m.way refl)
        where
          by_second : Run Once z.then.fs z.then.v (Quiet i) → Run Twice es w (Quiet i)
          by_second y = record { fs = y.fs; v = y.v; steps = y.steps + z.then.steps; run = helped_then (replicated sv kp ok) all group z.then.run y.run; trace = y.trace; is = y.is; cost = omega (arith, y.cost, z.cost) }

  quiet : (es : List (Seen O R)) (w : Wor sv kp) → Trace (replicated sv kp ok) all es w → (i : ℕ) → Memᴰ i group → Run Twice es w (Quiet i)
  quiet es w t i gi = go (w.house i) refl
    where
      go : (s : Stand (Memory O) (Disks sv kp)) → w.house i ≡ s → Run Twice es w (Quiet i)
      go (off d) e = record { fs = es; v = w; steps = 0; run = still; trace = t; is = none_off sv kp ok lets all t i d e; cost = omega arith }
      go (on m d) e = first es w t i gi m d e m.way refl

  quiet_all : (is : List ℕ) → ((i : ℕ) → Memᴰ i is → Memᴰ i group) → (es : List (Seen O R)) (w : Wor sv kp) → Trace (replicated sv kp ok) all es w → Run (length is * Twice) es w (λ v. (i : ℕ) → Memᴰ i is → Quiet i v)
  quiet_all [] f es w t = record { fs = es; v = w; steps = 0; run = still; trace = t; is = λ i m. absurd (Memᴰ.not-nil m); cost = omega arith }
  quiet_all (i ∷ is) f es w t = then (quiet_all is (λ j m. f j (Memᴰ.tail m)) es w t)
    where
      then : Run (length is * Twice) es w (λ v. (j : ℕ) → Memᴰ j is → Quiet j v) → Run (suc (length is) * Twice) es w (λ v. (j : ℕ) → Memᴰ j (i ∷ is) → Quiet j v)
      then y = by_quiet (quiet y.fs y.v y.trace i (f i (Memᴰ.head refl)))
        where
          by_quiet : Run Twice y.fs y.v (Quiet i) → Run (suc (length is) * Twice) es w (λ v. (j : ℕ) → Memᴰ j (i ∷ is) → Quiet j v)
          by_quiet z =
              record {
                fs = z.fs;
                v = z.v;
                steps = z.steps + y.steps;
                run = helped_then (replicated sv kp ok) all group y.run z.run;
                trace = z.trace;
                is = λ j m a n. elim (Memᴰ.cases_cons m) [ inl e ↦ (λ g. z.is a n (g ∙ e)) | inr k ↦ y.is j k a (pending_in (replicated sv kp ok) all group z.run a n) ];
                cost = omega (arith, z.cost, y.cost, suc-mul (length is) Twice);
              }

  few : all ≤ 49 → length group * Twice ≤ steps_for keeps.most
  few l = omega (arith, times (length group) 49 Twice (omega (arith, l, hole all group (distinct_apart group di) (inside_low all group ins))))

  pub all_answered : all ≤ 49 → (es : List (Seen O R)) (w : Wor sv kp) → Trace (replicated sv kp ok) all es w →
      (fs : List (Seen O R)) × (v : Wor sv kp) × (steps : ℕ) × (steps ≤ steps_for keeps.most) × PureHelped (replicated sv kp ok) all group steps es w fs v × ((a : Asking) → Memᴰ a w.pending → Memᴰ a.house group → (r : R) × Memᴰ (answered a.house a.id r) fs)
  all_answered l es w t = go (quiet_all group (λ i m. m) es w t)
    where
      go : Run (length group * Twice) es w (λ v. (i : ℕ) → Memᴰ i group → Quiet i v) →
          (fs : List (Seen O R)) × (v : Wor sv kp) × (steps : ℕ) × (steps ≤ steps_for keeps.most) × PureHelped (replicated sv kp ok) all group steps es w fs v × ((a : Asking) → Memᴰ a w.pending → Memᴰ a.house group → (r : R) × Memᴰ (answered a.house a.id r) fs)
      go y = (y.fs, y.v, y.steps, omega (arith, y.cost, few l), y.run, λ a m g. elim (kept_or_told (replicated sv kp ok) all group y.run a m) [ inl z ↦ absurd (y.is a.house g a z refl) | inr z ↦ z ])

pub answers : ReplicatedAnswers
answers O R sv kp ok laws keeps lets all three few es w t group di ins long = all_answered sv kp laws keeps ok lets all three group di ins long few es w t
