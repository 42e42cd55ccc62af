-- Layers compose. Whatever happens to a layer on a machine happens to the layer above the machine's judge: each of its events is a list
-- of events of the machine below, and what the judge allows of these is what the layer above it may have met. A trace of the machine is
-- carried along with a continuation that takes any derivation of the judge apart.
use Rattle.std.specs.Prelude.{◌≡◌, refl, ◌⊎◌, List, [], ◌∷◌, ℕ}
use Rattle.std.proofs.Math.Logic.{inl, inr}
use Rattle.disks.specs.Device.{Device, AfterCut, Io, answer, read, write, sync, run, Upto, here, reads, writes, syncs, Machine, Event, called, cut_in, cut_between, cut_opening, World, off, on, Trace, begin, opened, opening_cut, answered, call_cut, between_cut, Judge, Allowed, at_start, answers, was_lost, was_done, came_between, came_opening, Plan, gives, asks, Layer, then', through, over, Comes, ends, goes_on, CutShort, at_once, in_call, later, down, up, Above, first, rises, rise_cut, does, does_cut, cut, LayersCompose, shown, written, synced}

pub run_then : {A B : Type 0} (p : Io A) (f : A → Io B) (d : Device) → run (then' p f) d ≡ run (f (run p d).value) (run p d).device
unfolding run then'
run_then (answer a) f d = refl
run_then (read s k) f d = run_then (k (shown d s)) f d
run_then (write s b p) f d = run_then p f (written s b d)
run_then (sync p) f d = run_then p f (synced d)

pub upto_then : {A B : Type 0} (p : Io A) (f : A → Io B) (d e : Device) → Upto (then' p f) d e → Upto p d e ⊎ Upto (f (run p d).value) (run p d).device e
unfolding run then'
upto_then (answer a) f d e u = inr u
upto_then (read s k) f d e here = inl here
upto_then (read s k) f d e (reads u) = elim (upto_then (k (shown d s)) f d e u) [ inl v ↦ inl (reads v) | inr v ↦ inr v ]
upto_then (write s b p) f d e here = inl here
upto_then (write s b p) f d e (writes u) = elim (upto_then p f (written s b d) e u) [ inl v ↦ inl (writes v) | inr v ↦ inr v ]
upto_then (sync p) f d e here = inl here
upto_then (sync p) f d e (syncs u) = elim (upto_then p f (synced d) e u) [ inl v ↦ inl (syncs v) | inr v ↦ inr v ]

-- where only the answer is made of what came, it is cut where the program is cut
pub upto_map : {A B : Type 0} (p : Io A) (f : A → B) (d e : Device) → Upto (then' p (λ x. answer (f x))) d e → Upto p d e
unfolding then'
upto_map (answer a) f d e here = here
upto_map (read s k) f d e here = here
upto_map (read s k) f d e (reads u) = reads (upto_map (k (shown d s)) f d e u)
upto_map (write s b p) f d e here = here
upto_map (write s b p) f d e (writes u) = writes (upto_map p f (written s b d) e u)
upto_map (sync p) f d e here = here
upto_map (sync p) f d e (syncs u) = syncs (upto_map p f (synced d) e u)

-- a derivation taken apart at its latest event
module _ {C R : Type 0} (j : Judge C R) where
  at_called : {gs : List (Event C R)} {k : C} {r : R} {t : j.State} → Allowed j (called k r ∷ gs) t → (s : j.State) × Allowed j gs s × j.Answers k s r t
  at_called (answers {s = s} x h) = (s, x, h)

  pub at_between : {gs : List (Event C R)} {u : j.State} → Allowed j (cut_between ∷ gs) u → (s : j.State) × Allowed j gs s × j.Down s u
  at_between (came_between {s = s} x h) = (s, x, h)

  pub at_opening : {gs : List (Event C R)} {u : j.State} → Allowed j (cut_opening ∷ gs) u → (s : j.State) × Allowed j gs s × j.Down s u
  at_opening (came_opening {s = s} x h) = (s, x, h)

  at_cut : {A : Type 0} {gs : List (Event C R)} {c : C} (k : R → Plan C R A) {u : j.State} → Allowed j (cut_in c ∷ gs) u → (s : j.State) × Allowed j gs s × CutShort j (asks c k) s u
  at_cut k (was_lost {s = s} x h) = (s, x, at_once h)
  at_cut k (was_done {s = s} x h g) = (s, x, in_call h g)

-- A trace of the machine below, and what a derivation that it is allowed gives.
abbrev pub Then : {C R : Type 0} → (j : Judge C R) (e : Machine C R) (size : ℕ) (w : World e) → (j.State → Type 0) → Type 0
Then {C} {R} j e size w P = (gs : List (Event C R)) × Trace e size gs w × ((s : j.State) → Allowed j gs s → P s)

module _ {C R : Type 0} (j : Judge C R) (e : Machine C R) (size : ℕ) where
  -- a plan that is done: from a trace before it to one after it
  pub plan_done : {A : Type 0} (p : Plan C R A) (m : e.Mem) (d : Device) (gs : List (Event C R)) → Trace e size gs (on m d) →
      Then j e size (on (run (through e p m) d).value.below (run (through e p m) d).device) (λ t. (s : j.State) × Allowed j gs s × Comes j p s (run (through e p m) d).value.value t)
  unfolding run through
  plan_done (gives a) m d gs tr = (gs, tr, λ t x. (t, x, ends))
  plan_done (asks c k) m d gs tr =
      let (hs, tr', back) = plan_done (k (run (e.does c m) d).value.reply) (run (e.does c m) d).value.mem (run (e.does c m) d).device (called c (run (e.does c m) d).value.reply ∷ gs) (answered c tr) in
      rw (run_then (e.does c m) (λ x. through e (k x.reply) x.mem) d) (hs, tr', λ t x. let (s, y, z) = back t x in let (s', y', h) = at_called j y in (s', y', goes_on h z))

  pub plan-cut : {A : Type 0} (p : Plan C R A) (m : e.Mem) (d f g : Device) (gs : List (Event C R)) → Trace e size gs (on m d) → Upto (through e p m) d f → AfterCut f g →
      Then j e size (off g) (λ t. (s : j.State) × Allowed j gs s × CutShort j p s t)
  unfolding run through
  plan-cut (gives a) m d f g gs tr here x = (cut_between ∷ gs, between_cut tr x, λ t y. let (s, z, h) = at_between j y in (s, z, at_once h))
  plan-cut (asks c k) m d f g gs tr u x =
      elim (upto_then (e.does c m) (λ x. through e (k x.reply) x.mem) d f u) [
        | inl v ↦ (cut_in c ∷ gs, call_cut c tr v x, λ t y. at_cut j k y)
        | inr v ↦
            let (hs, tr', back) = plan-cut (k (run (e.does c m) d).value.reply) (run (e.does c m) d).value.mem (run (e.does c m) d).device f g (called c (run (e.does c m) d).value.reply ∷ gs) (answered c tr) v x in
            (hs, tr', λ t y. let (s, z, w) = back t y in let (s', z', h) = at_called j z in (s', z', later h w))
      ]

module _ {C R C' R' : Type 0} (j : Judge C R) (e : Machine C R) (l : Layer C R C' R') (size : ℕ) where
  abbrev pub Sim : List (Event C' R') → World (over e l) → Type 0
  Sim es (off d) = Then j e size (off d) (λ s. Above j l size es (down s))
  Sim es (on m d) = Then j e size (on m.below d) (λ s. Above j l size es (up m.above s))

  at_first : {s : j.State} → Allowed j [] s → Above j l size [] (down s)
  at_first at_start = first

  pub sim : {es : List (Event C' R')} {w : World (over e l)} → Trace (over e l) size es w → Sim es w
  unfolding run
  sim begin = ([], begin, λ s x. at_first x)
  sim (opened {es = es} {d = d} tr) =
      let (gs, tr', back) = sim tr in
      let (hs, tr'', back') = plan_done j e size (l.comes_up size) (run (e.opens size) d).value (run (e.opens size) d).device gs (opened tr') in
      rw (run_then, run_then) (hs, tr'', λ t x. let (s, y, z) = back' t x in rises (back s y) z)
  sim (opening_cut {es = es} {d = d} {f = f} {g = g} tr u x) =
      let (gs, tr', back) = sim tr in
      elim (upto_then (e.opens size) (λ m. then' (through e (l.comes_up size) m) (λ x. answer (record { below = x.below; above = x.value }))) d f u) [
        | inl v ↦ (cut_opening ∷ gs, opening_cut tr' v x, λ t y. let (s, z, h) = at_opening j y in rise_cut (back s z) (at_once h))
        | inr v ↦
            let (hs, tr'', back') = plan-cut j e size (l.comes_up size) (run (e.opens size) d).value (run (e.opens size) d).device f g gs (opened tr') (upto_map (through e (l.comes_up size) (run (e.opens size) d).value) (λ x. record { below = x.below; above = x.value }) (run (e.opens size) d).device f v) x in
            (hs, tr'', λ t y. let (s, z, h) = back' t y in rise_cut (back s z) h)
      ]
  sim (answered {es = es} {m = m} {d = d} c tr) =
      let (gs, tr', back) = sim tr in
      let (hs, tr'', back') = plan_done j e size (l.answers c m.above) m.below d gs tr' in
      rw run_then (hs, tr'', λ t x. let (s, y, z) = back' t x in does c _ (back s y) z)
  sim (call_cut {es = es} {m = m} {d = d} {f = f} {g = g} c tr u x) =
      let (gs, tr', back) = sim tr in
      let (hs, tr'', back') = plan-cut j e size (l.answers c m.above) m.below d f g gs tr' (upto_map (through e (l.answers c m.above) m.below) (λ x. record { reply = x.value.reply; mem = record { below = x.below; above = x.value.mem } }) d f u) x in
      (hs, tr'', λ t y. let (s, z, h) = back' t y in does_cut c (back s z) h)
  sim (between_cut {es = es} {m = m} {d = d} {g = g} tr x) =
      let (gs, tr', back) = sim tr in
      (cut_between ∷ gs, between_cut tr' x, λ t y. let (s, z, h) = at_between j y in cut (back s z) h)

pub layers_compose : LayersCompose
layers_compose C R C' R' j j' e l keeps above size lo hi es w tr = go w (sim (j size) e l size tr)
  where
    go : (w : World (over e l)) → Sim (j size) e l size es w → (s : (j' size).State) × Allowed (j' size) es s
    go (off d) (gs, tr', back) = let (s, x) = keeps size lo hi gs (off d) tr' in above size lo hi es (down s) (back s x)
    go (on m d) (gs, tr', back) = let (s, x) = keeps size lo hi gs (on m.below d) tr' in above size lo hi es (up m.above s) (back s x)
