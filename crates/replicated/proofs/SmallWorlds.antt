-- In every trace all numbers are at most eight times its steps, whatever is admitted: what houses store and remember, and what is under way.
use Rattle.std.specs.Prelude.{◌≡◌, ◌⊎◌, ◌<◌, ◌≤◌, ℕ, suc, ◌+◌, ◌*◌, List, [], ◌++◌, nat_le}
use Rattle.std.proofs.Common.{sym, subst, inl, inr, arith}
use mathlib.Core.List.Memᴰ
use mathlib.Core.List.{Memᴰ}
use Rattle.agreement.proofs.Base.{by_test}
use Rattle.disks.specs.Cluster.{In, Ask, Tick, Seen, Packet, packets, put}
use Rattle.disks.specs.Cluster
use Rattle.compose.specs.Pure.{Stand, off, on, World, Trace, begin, rises, does, asked, ticks, falls, falls_rising, falls_doing, falls_asked, falls_ticking, steps_of}
use Rattle.copies.specs.Service.{Service, Keeper}
use Rattle.copies.specs.Copy.{Memory, count}
use Rattle.copies.specs.House.{Disks, Wholes, Messages, Ended, Guard, begins, got, ticked, finishes, acts, behaves, wakes, replicated}
use Rattle.replicated.proofs.Lists.{here, there, each}
use Rattle.replicated.proofs.Numbered.{got_incarnation}
use Rattle.replicated.proofs.Sent.{from_posts}
use Rattle.replicated.proofs.Small.{SmallAgreeing, SmallSessions, Small, small_up, small_none, agreeing_up, session_up}
use Rattle.replicated.proofs.SmallEvents.{SmallMessage, message_up, small_posts, small_got, small_ticked, small_asked}

module _ {O R : Type 0} (sv : Service O R) (kp : Keeper sv) where
  -- HOUSES
  pub record SmallDisk (n : ℕ) (d : Disks sv kp) : Type 0 where
    pub incarnation : d.incarnation ≤ n
    pub agreeing : SmallAgreeing n d.agreeing
    pub sessions : SmallSessions n d.sessions

  pub record SmallOn (n : ℕ) (m : Memory O) (d : Disks sv kp) : Type 0 where
    pub incarnation : d.incarnation ≤ n
    pub turn : Small n (begins sv kp m d).turn

  abbrev pub SmallStand : ℕ → Stand (Memory O) (Disks sv kp) → Type 0
  SmallStand n (off d) = SmallDisk n d
  SmallStand n (on m d) = SmallOn n m d

  pub record AllSmall (n : ℕ) (hs : ℕ → Stand (Memory O) (Disks sv kp)) (ps : List (Packet (Messages sv kp))) : Type 0 where
    pub house : (j : ℕ) → SmallStand n (hs j)
    pub from_house : (p : Packet (Messages sv kp)) → Memᴰ p ps → p.from < 49
    pub wire : (p : Packet (Messages sv kp)) → Memᴰ p ps → SmallMessage sv kp n p.what

  disk_up : {n m : ℕ} → n ≤ m → (d : Disks sv kp) → SmallDisk n d → SmallDisk m d
  disk_up l d s = record { incarnation = omega (arith, l, s.incarnation); agreeing = agreeing_up l d.agreeing s.agreeing; sessions = λ h. session_up l (d.sessions h) (s.sessions h) }

  stand_up : {n m : ℕ} → n ≤ m → (s : Stand (Memory O) (Disks sv kp)) → SmallStand n s → SmallStand m s
  stand_up l (off d) s = disk_up l d s
  stand_up l (on m d) s = record { incarnation = omega (arith, l, s.incarnation); turn = small_up l s.turn }

  all_up : {n m : ℕ} → n ≤ m → {hs : ℕ → Stand (Memory O) (Disks sv kp)} {ps : List (Packet (Messages sv kp))} → AllSmall n hs ps → AllSmall m hs ps
  all_up l {hs} v = record { house = λ j. stand_up l (hs j) (v.house j); from_house = v.from_house; wire = λ p i. message_up sv kp l p.what (v.wire p i) }

  disk_small : (n : ℕ) (m : Memory O) (d : Disks sv kp) → SmallOn n m d → SmallDisk n d
  disk_small n m d s = record { incarnation = s.incarnation; agreeing = s.turn.agreeing; sessions = s.turn.sessions }

  -- AN EVENT of house i
  abbrev pub SmallIn : ℕ → In (Messages sv kp) O → Type 0
  SmallIn n (Cluster.In.From r x) = SmallMessage sv kp n x
  SmallIn n (Ask k o) = Unit {0}
  SmallIn n Tick = Unit {0}

  module _ (n : ℕ) (hs : ℕ → Stand (Memory O) (Disks sv kp)) (ps : List (Packet (Messages sv kp))) (i : ℕ) (v : AllSmall n hs ps) where
    far : n ≤ 8 + n
    far = omega arith

    abbrev After : Ended sv kp → Type 0
    After z = AllSmall (8 + n) (put i (on z.mem z.stored) hs) (packets i z.out ++ ps)

    stayed : (m : Memory O) (d : Disks sv kp) → hs i ≡ on m d → AllSmall (8 + n) (put i (on m d) hs) ps
    stayed m d e = let u = all_up far v in record { house = each i (on m d) hs (λ j. SmallStand (8 + n)) (subst (SmallStand (8 + n)) e (u.house i)) (λ j _. u.house j); from_house = u.from_house; wire = u.wire }

    module _ (few : i < 49) where
      finished : (w : Wholes sv kp) → w.incarnation ≤ n → Small (8 + n) w.turn → After (finishes sv kp w)
      finished w e g =
          record {
            house = each i _ hs (λ j. SmallStand (8 + n)) (record { incarnation = omega (arith, e); turn = record { agreeing = g.agreeing; sessions = g.sessions; memory = g.memory; works = tt; serving = tt } }) (λ j _. u.house j);
            from_house = λ p k. elim (Memᴰ.append_cases (packets i (finishes sv kp w).out) k) [ inl l ↦ from p l | inr l ↦ u.from_house p l ];
            wire = λ p k. elim (Memᴰ.append_cases (packets i (finishes sv kp w).out) k) [ inl l ↦ news p l | inr l ↦ u.wire p l ];
          }
        where
          u : AllSmall (8 + n) hs ps
          u = all_up far v

          from : (p : Packet (Messages sv kp)) → Memᴰ p (packets i (finishes sv kp w).out) → p.from < 49
          from p k = let f = from_posts sv kp i w p k in subst (λ (z : Packet (Messages sv kp)). z.from < 49) (sym f.is) few

          news : (p : Packet (Messages sv kp)) → Memᴰ p (packets i (finishes sv kp w).out) → SmallMessage sv kp (8 + n) p.what
          news p k = let f = from_posts sv kp i w p k in subst (λ (z : Packet (Messages sv kp)). SmallMessage sv kp (8 + n) z.what) (sym f.is) (small_posts sv kp (8 + n) w g f.post f.inside)

      acted : (x : In (Messages sv kp) O) (m : Memory O) (d : Disks sv kp) → hs i ≡ on m d → SmallIn n x → After (acts sv kp x m d)
      unfolding acts packets
      acted x m d e h = go x h
        where
          s : SmallOn n m d
          s = subst (SmallStand n) e (v.house i)

          go : (x : In (Messages sv kp) O) → SmallIn n x → After (acts sv kp x m d)
          go (Cluster.In.From r y) h = finished (got sv kp r y (begins sv kp m d)) (subst (λ (k : ℕ). k ≤ n) (sym (got_incarnation sv kp r y (begins sv kp m d))) s.incarnation) (small_up (omega arith) (small_got sv kp n r y (begins sv kp m d) h s.turn))
          go (Ask k o) h = by_test After (nat_le 8 (count m m.way)) (λ _. stayed m d e) (λ f. finished _ s.incarnation (small_up (omega arith) (small_asked sv kp n k o (begins sv kp m d).turn f s.turn)))
          go Tick h = finished (ticked sv kp (begins sv kp m d)) s.incarnation (small_up (omega arith) (small_ticked sv kp n (begins sv kp m d) s.turn))

      behaved : (ok : Guard sv kp) (x : In (Messages sv kp) O) (m : Memory O) (d : Disks sv kp) → hs i ≡ on m d → SmallIn n x → After (behaves sv kp ok x m d)
      unfolding behaves packets
      behaved ok x m d e h = by_test After (ok x m d) (λ _. acted x m d e h) (λ _. stayed m d e)

      -- house i wakes
      woken : (d : Disks sv kp) → hs i ≡ off d → AllSmall (8 + n) (put i (on (wakes sv kp i d).mem (wakes sv kp i d).stored) hs) ps
      woken d e =
          record {
            house = each i _ hs (λ j. SmallStand (8 + n))
                (record {
                  incarnation = omega (arith, s.incarnation);
                  turn =
                      record {
                        agreeing = agreeing_up far d.agreeing s.agreeing;
                        sessions = λ h. session_up far (d.sessions h) (s.sessions h);
                        memory = record { house = few; incarnation_low = omega (arith, s.incarnation); counter_low = omega arith; quiet_low = omega arith; few = omega arith; way_small = tt; heard_small = small_none (8 + n); span_small = tt };
                        works = tt;
                        serving = tt;
                      };
                })
                (λ j _. u.house j);
            from_house = u.from_house;
            wire = u.wire;
          }
        where
          u : AllSmall (8 + n) hs ps
          u = all_up far v

          s : SmallDisk n d
          s = subst (SmallStand n) e (v.house i)

  -- house i falls
  fallen_small : (n : ℕ) (hs : ℕ → Stand (Memory O) (Disks sv kp)) (ps news : List (Packet (Messages sv kp))) (i : ℕ) (m : Memory O) (d : Disks sv kp) → AllSmall n (put i (on m d) hs) (news ++ ps) → AllSmall n (put i (off d) hs) ps
  fallen_small n hs ps news i m d v =
      record {
        house = each i (off d) hs (λ j. SmallStand n) (disk_small n m d (here i (on m d) hs (λ j. SmallStand n) v.house)) (there i (on m d) hs (λ j. SmallStand n) v.house);
        from_house = λ p k. v.from_house p (Memᴰ.append_right news k);
        wire = λ p k. v.wire p (Memᴰ.append_right news k);
      }

  fell : (n : ℕ) (hs : ℕ → Stand (Memory O) (Disks sv kp)) (ps : List (Packet (Messages sv kp))) (i : ℕ) (m : Memory O) (d f : Disks sv kp) (z : Ended sv kp) → AllSmall n hs ps → hs i ≡ on m d →
      AllSmall (8 + n) (put i (on z.mem z.stored) hs) (packets i z.out ++ ps) → (f ≡ d) ⊎ (f ≡ z.stored) → AllSmall (8 + n) (put i (off f) hs) ps
  fell n hs ps i m d f z v e a (inl q) = subst (λ (y : Disks sv kp). AllSmall (8 + n) (put i (off y) hs) ps) (sym q) (fallen_small (8 + n) hs ps [] i m d (stayed n hs ps i v m d e))
  fell n hs ps i m d f z v e a (inr q) = subst (λ (y : Disks sv kp). AllSmall (8 + n) (put i (off y) hs) ps) (sym q) (fallen_small (8 + n) hs ps (packets i z.out) i z.mem z.stored a)

  -- or falls in waking
  falls_again : (n : ℕ) (hs : ℕ → Stand (Memory O) (Disks sv kp)) (ps : List (Packet (Messages sv kp))) (i : ℕ) (v : AllSmall n hs ps) → i < 49 → (d f : Disks sv kp) → hs i ≡ off d → (f ≡ d) ⊎ (f ≡ (wakes sv kp i d).stored) → AllSmall (8 + n) (put i (off f) hs) ps
  falls_again n hs ps i v few d f e (inl q) =
      let l : n ≤ 8 + n = omega arith in
      let u = all_up l v in
      subst (λ (y : Disks sv kp). AllSmall (8 + n) (put i (off y) hs) ps) (sym q) (record { house = each i (off d) hs (λ j. SmallStand (8 + n)) (subst (SmallStand (8 + n)) e (u.house i)) (λ j _. u.house j); from_house = u.from_house; wire = u.wire })
  falls_again n hs ps i v few d f e (inr q) = subst (λ (y : Disks sv kp). AllSmall (8 + n) (put i (off y) hs) ps) (sym q) (fallen_small (8 + n) hs ps [] i _ _ (woken n hs ps i v few d e))

  -- TRACES
  next : (s : ℕ) {hs : ℕ → Stand (Memory O) (Disks sv kp)} {ps : List (Packet (Messages sv kp))} → AllSmall (8 + 8 * s) hs ps → AllSmall (8 * suc s) hs ps
  next s v = all_up (omega arith) v

  module _ (ok : Guard sv kp) (all : ℕ) (few : all ≤ 49) where
    house_few : {i : ℕ} → i < all → i < 49
    house_few l = omega (arith, l, few)

    pub all_small : {es : List (Seen O R)} {w : World (Memory O) (Disks sv kp) (Messages sv kp)} (t : Trace (replicated sv kp ok) all es w) → AllSmall (8 * steps_of t) w.house w.wire
    unfolding steps_of
    all_small begin =
        record {
          house = λ j. record { incarnation = omega arith; agreeing = record { promised = omega arith; version = omega arith; last = omega arith; proposal = tt; recovery = tt }; sessions = λ h. record { incarnation = omega arith; counter = omega arith; few = omega arith } };
          from_house = λ p m. absurd (Memᴰ.not-nil m);
          wire = λ p m. absurd (Memᴰ.not-nil m);
        }
    all_small (rises {es} {w} i d l t e) = next (steps_of t) (woken _ w.house w.wire i (all_small t) (house_few l) d e)
    all_small (does {es} {w} i m d p l t e n to) = let v = all_small t in next (steps_of t) (behaved _ w.house w.wire i v (house_few l) ok (Cluster.In.From p.from p.what) m d e (v.wire p n))
    all_small (asked {es} {w} i k o m d l t e u) = next (steps_of t) (behaved _ w.house w.wire i (all_small t) (house_few l) ok (Ask k o) m d e tt)
    all_small (ticks {es} {w} i m d l t e) = next (steps_of t) (behaved _ w.house w.wire i (all_small t) (house_few l) ok Tick m d e tt)
    all_small (falls {es} {w} i m d l t e) = next (steps_of t) (fallen_small _ w.house w.wire [] i m d (stayed _ w.house w.wire i (all_small t) m d e))
    all_small (falls_rising {es} {w} i d f l t e q) = next (steps_of t) (falls_again _ w.house w.wire i (all_small t) (house_few l) d f e q)
    all_small (falls_doing {es} {w} i m d f p l t e n to q) =
        let v = all_small t in next (steps_of t) (fell _ w.house w.wire i m d f (behaves sv kp ok (Cluster.In.From p.from p.what) m d) v e (behaved _ w.house w.wire i v (house_few l) ok (Cluster.In.From p.from p.what) m d e (v.wire p n)) q)
    all_small (falls_asked {es} {w} i k o m d f l t e u q) = let v = all_small t in next (steps_of t) (fell _ w.house w.wire i m d f (behaves sv kp ok (Ask k o) m d) v e (behaved _ w.house w.wire i v (house_few l) ok (Ask k o) m d e tt) q)
    all_small (falls_ticking {es} {w} i m d f l t e q) = let v = all_small t in next (steps_of t) (fell _ w.house w.wire i m d f (behaves sv kp ok Tick m d) v e (behaved _ w.house w.wire i v (house_few l) ok Tick m d e tt) q)
