-- Whole events, and that the houses are as one place.
use Rattle.std.proofs.Common.{◌≡◌, ℕ, ◌<◌, leb, ◌⊎◌, List, [], ◌∷◌, ◌++◌, sym, refl, ap, ◌∙◌, subst, inl, inr, arith}
use mathlib.Core.List.Memᴰ
use mathlib.Core.List.{Memᴰ}
use Rattle.agreement.specs.Copies.{Copy}
use Rattle.agreement.specs.Copies
use Rattle.agreement.proofs.Base.{Snap, by_test}
use Rattle.agreement.proofs.Steps.{inv_start, at_start}
use Rattle.disks.specs.Cluster.{In, From, Ask, Tick, Seen, called, fell, Packet, put, packets, tells, at_first}
use Rattle.compose.specs.Pure.{Stand, off, on, World, Trace, begin, rises, does, asked, ticks, falls, falls_rising, falls_doing, falls_asked, falls_ticking}
use Rattle.copies.specs.Service.{Service, Keeper, Lawful, Keeps}
use Rattle.copies.specs.Messages.{Bundle, Command, Reply, Bundled, Done, Told, Asked, Given}
use Rattle.copies.specs.Copy.{Memory, pack, forward, goes_on, count}
use Rattle.copies.specs.House.{Wholes, Disks, Messages, with_turn, begins, Ended, got, ticked, acts, Guard, behaves, blank, replicated}
use Rattle.copies.specs.Promise.{replay, Passed, stored_at, Replicated}
use Rattle.replicated.proofs.Lists.{Homed}
use Rattle.replicated.proofs.Caught.{none_right, ends_shows}
use Rattle.replicated.proofs.Good.{CopyIs, Ok, MsgOk, copy_on}
use Rattle.replicated.proofs.Move.{Scene, At}
use Rattle.replicated.proofs.Bundles.{bundled, packs, settles, settles_here}
use Rattle.replicated.proofs.Statuses.{told_status, forwards, ticks_it}
use Rattle.replicated.proofs.Taken.{given}
use Rattle.replicated.proofs.Posts.{Over, over, serves_it}
use Rattle.replicated.proofs.Ends.{Since, Fine, Goes, scene, forget, enter, starts_at, leave}
use Rattle.replicated.proofs.Falls.{fall_on, fall_off, rise}
use Rattle.replicated.proofs.Calls.{enqueue, refuse, ignore}

module _ {O R : Type 0} (sv : Service O R) (kp : Keeper sv) where
  module _ (laws : Lawful sv) (keeps : Keeps sv kp) (c : Scene sv kp) where
    on_it : (w : Wholes sv kp) → At sv kp c w → Over sv kp c (with_turn sv kp (goes_on w.turn) w)
    on_it w v = over sv kp c _ (forwards sv kp c _ (packs sv kp c _ (settles_here sv kp c w v)))

    got_it : (w : Wholes sv kp) (v : At sv kp c w) → ((q : Reply sv.A) → Memᴰ q w.turn.told → ⊥) → (r : ℕ) (x : Messages sv kp) → MsgOk sv kp v.good.g v.good.made r c.i x → Over sv kp c (got sv kp r x w)
    got_it w v none r (Bundled b) h = over sv kp c _ (forwards sv kp c _ (bundled sv kp c w v b h))
    got_it w v none r (Done s) h = over sv kp c _ (forwards sv kp c _ (packs sv kp c _ (settles sv kp c w v s h)))
    got_it w v none r (Told x) h = on_it _ (told_status sv kp c w v laws keeps none r x h)
    got_it w v none r (Asked q) h = serves_it sv kp c w v keeps r q
    got_it w v none r (Given x) h = on_it _ (given sv kp laws keeps c w v r x h)

    ticks_on : (w : Wholes sv kp) → At sv kp c w → Over sv kp c (ticked sv kp w)
    ticks_on w v = on_it _ (ticks_it sv kp c w v)

    asks_on : (w : Wholes sv kp) → At sv kp c w → Over sv kp c (with_turn sv kp (forward (pack w.turn)) w)
    asks_on w v = over sv kp c _ (forwards sv kp c _ (packs sv kp c w v))

  none : (q : Reply sv.A) → Memᴰ q [] → ⊥
  none q m = Memᴰ.not-nil m

  abbrev pub Worlds : Type 0
  Worlds = World (Memory O) (Disks sv kp) (Messages sv kp)

  abbrev pub FineW : List (Seen O R) → Worlds → Type 0
  FineW es w = Fine sv kp es w.house w.wire

  -- nothing is forgotten by the agreement: what a copy stored, a snapshot of it says
  pub record Was (g : Copies.World (Command O)) (j : ℕ) (d : Disks sv kp) : Type 0 where
    pub at : Copy (Command O)
    pub snap : Snap g j at
    pub is : CopyIs sv kp g at d

  -- all worlds passed
  pub record Reached (es : List (Seen O R)) (w : Worlds) (P : Worlds → Type 0) : Type 0 where
    pub fine : FineW es w
    pub was : (u : Worlds) → P u → (j : ℕ) → j < 3 → Was fine.g j (stored_at (u.house j))

  was_now : (g : Copies.World (Command O)) (asked : List (Homed O)) (made : List (Bundle O)) (j : ℕ) (s : Stand (Memory O) (Disks sv kp)) → Snap g j (g.copy j) → j < 3 → Ok sv kp g asked made j s → Was g j (stored_at s)
  was_now g calls made j (off d) n h o = record { at = g.copy j; snap = n; is = o.copy_is h }
  was_now g calls made j (on m d) n h o = record { at = g.copy j; snap = n; is = o.copy_is h }

  arrived : (es : List (Seen O R)) (w : Worlds) (v : FineW es w) (u : Worlds) → u ≡ w → (j : ℕ) → j < 3 → Was v.g j (stored_at (u.house j))
  arrived es w v u e j h = subst (λ (z : Worlds). Was v.g j (stored_at (z.house j))) (sym e) (was_now v.g v.asked v.made j (w.house j) (v.inv.cur j h) h (v.house j))

  next : (es es' : List (Seen O R)) (w w' : Worlds) (P : Worlds → Type 0) (t : Reached es w P) → Goes sv kp t.fine.g es' w'.house w'.wire → Reached es' w' (λ u. (u ≡ w') ⊎ P u)
  next es es' w w' P t v =
      record {
        fine = v.good;
        was = λ u p j h. elim p [
          | inl e ↦ arrived es' w' v.good u e j h
          | inr q ↦ let k = t.was u q j h in record { at = k.at; snap = v.grown j k.at k.snap; is = copy_on sv kp t.fine.g v.good.g v.grown k.at _ k.is }
        ];
      }

  start_fine : Lawful sv → Keeps sv kp → FineW [] (record { house = λ i. off (blank sv kp); wire = []; pending = [] })
  unfolding replay
  start_fine laws keeps =
      record {
        g = Copies.start;
        asked = [];
        made = [];
        now = replay sv [];
        inv = inv_start;
        top = record { who = 0; at = Copies.fresh; snap = record { small = omega arith; seen = inr refl }; highest = λ r x h. omega (arith, ap (λ (z : Copy (Command O)). z.version) (at_start h)); is = refl };
        book = record { right = λ b m. absurd (Memᴰ.not-nil m); ids = tt; used = λ a m. absurd (Memᴰ.not-nil m) };
        snaps = λ r x h. record { vote = λ b k e. Rattle.agreement.proofs.Calm.no_vote (sym (ap (λ (z : Copy (Command O)). z.proposal) (at_start h)) ∙ e); past = λ k m. absurd (Memᴰ.not-nil (subst (λ (z : Copy (Command O)). Memᴰ k z.history) (at_start h) m)) };
        wire = λ p m. absurd (Memᴰ.not-nil m);
        house = λ j.
            record {
              copy_is = λ h. record { promised_is = refl; version_is = refl; last_is = refl; proposal_is = refl; sessions_is = refl; rest_is = refl; blocks_is = ends_shows sv kp laws keeps Copies.start inv_start kp.none 0 0 Copies.fresh (none_right sv kp keeps Copies.start) (record { small = omega arith; seen = inr refl }) refl };
              lags = λ _. tt;
              asked_low = λ a m. absurd (Memᴰ.not-nil m);
              made_low = λ b m. absurd (Memᴰ.not-nil m);
            };
        tale =
            record {
              ws = [];
              rs = [];
              f = 0;
              line = at_first;
              open_yet = λ a m. absurd (Memᴰ.not-nil m);
              apart = λ h. tt;
              owed = λ j. tt;
              told = λ q m. absurd (Memᴰ.not-nil m);
              told_apart = tt;
              told_calm = λ q m. absurd (Memᴰ.not-nil m);
            };
      }

  -- what stays stored is what was, or what the event stores
  which : (P : Disks sv kp → Type 0) (d e f : Disks sv kp) → (f ≡ d) ⊎ (f ≡ e) → P d → P e → P f
  which P d e f (inl p) a b = subst P (sym p) a
  which P d e f (inr p) a b = subst P (sym p) b

  module _ (ok : Guard sv kp) (laws : Lawful sv) (keeps : Keeps sv kp) (all : ℕ) where
    module _ (es : List (Seen O R)) (w : Worlds) (v : FineW es w) where
      abbrev Begins : ℕ → Memory O → Disks sv kp → Type 0
      Begins i m d = Since sv kp v.g es (put i (on m d) w.house) w.wire i []

      entered : (i : ℕ) (s : Stand (Memory O) (Disks sv kp)) → w.house i ≡ s → Since sv kp v.g es (put i s w.house) w.wire i []
      entered i s e = enter sv kp v.g es w.house w.wire i s e (record { good = v; grown = λ r x h. h })

      got_at : (i : ℕ) (m : Memory O) (d : Disks sv kp) (p : Packet (Messages sv kp)) → w.house i ≡ on m d → Memᴰ p w.wire → p.to ≡ i → Over sv kp (scene sv kp v.g es w.house w.wire i) (got sv kp p.from p.what (begins sv kp m d))
      got_at i m d p e n to =
          let a = starts_at sv kp v.g es w.house w.wire i m d (entered i (on m d) e) in
          got_it laws keeps (scene sv kp v.g es w.house w.wire i) (begins sv kp m d) a none p.from p.what (subst (λ (j : ℕ). MsgOk sv kp a.good.g a.good.made p.from j p.what) to (a.good.wire p n))

      -- an event that acts, or is let pass
      abbrev Lands : List (Seen O R) → ℕ → Ended sv kp → Type 0
      Lands es' i z = Goes sv kp v.g (tells i z.out ++ es') (put i (on z.mem z.stored) w.house) (packets i z.out ++ w.wire)

      lands : (es' : List (Seen O R)) (i : ℕ) (m : Memory O) (d : Disks sv kp) (x : In (Messages sv kp) O) → Since sv kp v.g es' (put i (on m d) w.house) w.wire i [] → Lands es' i (acts sv kp x m d) → Lands es' i (behaves sv kp ok x m d)
      unfolding behaves tells packets
      lands es' i m d x a y = by_test (Lands es' i) (ok x m d) (λ _. y) (λ _. forget sv kp v.g es' (put i (on m d) w.house) w.wire i 0 [] a)

      -- and if power fails
      abbrev Drops : List (Seen O R) → ℕ → Disks sv kp → Type 0
      Drops es' i d = Goes sv kp v.g (fell i ∷ es') (put i (off d) w.house) w.wire

      drops : (es' : List (Seen O R)) (i : ℕ) (m : Memory O) (d f : Disks sv kp) (x : In (Messages sv kp) O) → (f ≡ d) ⊎ (f ≡ (behaves sv kp ok x m d).stored) → Drops es' i d → Drops es' i (acts sv kp x m d).stored → Drops es' i f
      unfolding behaves
      drops es' i m d f x c a b = which (Drops es' i) d _ f c a (by_test (λ (z : Ended sv kp). Drops es' i z.stored) (ok x m d) (λ _. b) (λ _. a))

      fallen_on : (es' : List (Seen O R)) (i : ℕ) (m : Memory O) (d : Disks sv kp) → Since sv kp v.g es' (put i (on m d) w.house) w.wire i [] → Drops es' i d
      fallen_on es' i m d a = fall_on sv kp (scene sv kp v.g es' w.house w.wire i) (begins sv kp m d) (over sv kp _ _ (starts_at sv kp v.g es' w.house w.wire i m d a))

    pub reached : {es : List (Seen O R)} {w : Worlds} (t : Trace (replicated sv kp ok) all es w) → Reached es w (Passed t)
    unfolding acts tells packets Passed
    reached begin = let v = start_fine laws keeps in record { fine = v; was = λ u e j h. arrived [] _ v u e j h }
    reached (rises {es} {w} i d hi t e) = let s = reached t in let v = s.fine in next es es w _ (Passed t) s (forget sv kp v.g es _ w.wire i 0 [] (rise sv kp v.g es w.house w.wire i d (entered es w v i (off d) e)))
    reached (does {es} {w} i m d p hi t e n to) = let s = reached t in let v = s.fine in
        next es _ w _ (Passed t) s (lands es w v es i m d (From p.from p.what) (entered es w v i (on m d) e) (leave sv kp (scene sv kp v.g es w.house w.wire i) _ (got_at es w v i m d p e n to)))
    reached (asked {es} {w} i k o m d hi t e u) = let s = reached t in let v = s.fine in let a = entered es w v i (on m d) e in
        next es _ w _ (Passed t) s
        (lands es w v (called i k o ∷ es) i m d (Ask k o) (ignore sv kp v.g es (put i (on m d) w.house) w.wire i k o a)
        (by_test (Lands es w v (called i k o ∷ es) i) (leb 8 (count m m.way)) (λ _. refuse sv kp v.g es (put i (on m d) w.house) w.wire i k o a)
        (λ _. leave sv kp (scene sv kp v.g (called i k o ∷ es) w.house w.wire i) _ (asks_on laws keeps (scene sv kp v.g (called i k o ∷ es) w.house w.wire i) _ (enqueue sv kp (scene sv kp v.g es w.house w.wire i) k o (begins sv kp m d) u none (starts_at sv kp v.g es w.house w.wire i m d a))))))
    reached (ticks {es} {w} i m d hi t e) = let s = reached t in let v = s.fine in let a = entered es w v i (on m d) e in
        next es _ w _ (Passed t) s (lands es w v es i m d Tick a (leave sv kp (scene sv kp v.g es w.house w.wire i) _ (ticks_on laws keeps (scene sv kp v.g es w.house w.wire i) (begins sv kp m d) (starts_at sv kp v.g es w.house w.wire i m d a))))
    reached (falls {es} {w} i m d hi t e) = let s = reached t in let v = s.fine in next es _ w _ (Passed t) s (fallen_on es w v es i m d (entered es w v i (on m d) e))
    reached (falls_rising {es} {w} i d f hi t e c) = let s = reached t in let v = s.fine in let a = entered es w v i (off d) e in
        next es _ w _ (Passed t) s
        (which (Drops es w v es i) d _ f c (fall_off sv kp v.g es w.house w.wire i d a) (fallen_on es w v es i _ _ (rise sv kp v.g es w.house w.wire i d a)))
    reached (falls_doing {es} {w} i m d f p hi t e n to c) = let s = reached t in let v = s.fine in
        next es _ w _ (Passed t) s (drops es w v es i m d f (From p.from p.what) c (fallen_on es w v es i m d (entered es w v i (on m d) e)) (fall_on sv kp (scene sv kp v.g es w.house w.wire i) _ (got_at es w v i m d p e n to)))
    reached (falls_asked {es} {w} i k o m d f hi t e u c) = let s = reached t in let v = s.fine in
        let a = enqueue sv kp (scene sv kp v.g es w.house w.wire i) k o (begins sv kp m d) u none (starts_at sv kp v.g es w.house w.wire i m d (entered es w v i (on m d) e)) in
        let b : Drops es w v (called i k o ∷ es) i d = fallen_on es w v (called i k o ∷ es) i m d (ignore sv kp v.g es (put i (on m d) w.house) w.wire i k o (entered es w v i (on m d) e)) in
        next es _ w _ (Passed t) s
        (drops es w v (called i k o ∷ es) i m d f (Ask k o) c b
        (by_test (λ (z : Ended sv kp). Drops es w v (called i k o ∷ es) i z.stored) (leb 8 (count m m.way)) (λ _. b) (λ _. fall_on sv kp (scene sv kp v.g (called i k o ∷ es) w.house w.wire i) _ (asks_on laws keeps (scene sv kp v.g (called i k o ∷ es) w.house w.wire i) _ a))))
    reached (falls_ticking {es} {w} i m d f hi t e c) = let s = reached t in let v = s.fine in let a = entered es w v i (on m d) e in
        next es _ w _ (Passed t) s (drops es w v es i m d f Tick c (fallen_on es w v es i m d a) (fall_on sv kp (scene sv kp v.g es w.house w.wire i) _ (ticks_on laws keeps (scene sv kp v.g es w.house w.wire i) (begins sv kp m d) (starts_at sv kp v.g es w.house w.wire i m d a))))

pub as_one : Replicated
as_one O R sv kp ok laws keeps all _ es w t = let v = (reached sv kp ok laws keeps all t).fine in (v.now.place, v.tale.ws, v.tale.rs, v.tale.f, v.tale.line)
