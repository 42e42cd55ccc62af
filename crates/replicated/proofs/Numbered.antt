-- No two bundles have one number, and each session has as many replies as the bundle of its number has calls. So it is in every trace,
-- whatever the keeper of blocks does, and whether or not the copies agree.
use Rattle.std.specs.Prelude.{◌≡◌, ◌⊎◌, ◌≤◌, ℕ, List, [], ◌++◌, Option, Some, None, nat_le}
use Rattle.std.proofs.Common.{◌≢◌, refl, sym, ◌∙◌, subst, inl, inr, arith}
use mathlib.Core.List.Memᴰ
use mathlib.Core.List.{Memᴰ}
use Rattle.agreement.proofs.Base.{by_test}
use Rattle.disks.specs.Cluster.{In, Ask, Tick, Seen, Packet, packets, put}
use Rattle.disks.specs.Cluster
use Rattle.compose.specs.Pure.{Stand, off, on, World, Trace, begin, rises, does, asked, ticks, falls, falls_rising, falls_doing, falls_asked, falls_ticking}
use Rattle.copies.specs.Service.{Service, Keeper}
use Rattle.copies.specs.Messages.{Bundle, Want, Part, next_key, Bundled, Done, Told, Asked, Given}
use Rattle.copies.specs.Copy.{Memory, Work, rests, applies, takes, replaces, taken, queued, count}
use Rattle.copies.specs.House.{Disks, Wholes, Messages, Ended, Guard, put_rest, stowed, does_work, works, is_whole, tail_of, part_of, begins, disk_of, got, ticked, finishes, acts, behaves, wakes, replicated}
use Rattle.replicated.proofs.Lists.{here, there, each}
use Rattle.replicated.proofs.Sent.{each_post, from_posts}
use Rattle.replicated.proofs.Fits.{AllIn, AllSound, Votes, OneEach, sound_grows, votes_grow, TailOk, tail_grows, Fit, working, Grown, grown_forward, grown_pack, MsgOk, grown_got, grown_tick}

module _ {O R : Type 0} (sv : Service O R) (kp : Keeper sv) where
  -- HOUSES
  pub record OkOff (made : List (Bundle O)) (j : ℕ) (d : Disks sv kp) : Type 0 where
    pub votes : Votes made d.agreeing.proposal
    pub sound : AllSound made d.sessions
    pub low : (b : Bundle O) → Memᴰ b made → b.house ≡ j → b.incarnation ≤ d.incarnation

  abbrev pub Ok : List (Bundle O) → ℕ → Stand (Memory O) (Disks sv kp) → Type 0
  Ok made j (off d) = OkOff made j d
  Ok made j (on m d) = Fit made j d.incarnation (begins sv kp m d).turn

  pub record Numbered (hs : ℕ → Stand (Memory O) (Disks sv kp)) (ps : List (Packet (Messages sv kp))) : Type 0 where
    pub made : List (Bundle O)
    pub one : OneEach made
    pub house : (j : ℕ) → Ok made j (hs j)
    pub wire : (p : Packet (Messages sv kp)) → Memᴰ p ps → MsgOk sv kp made p.to p.what

  msg_grows : {made all : List (Bundle O)} → AllIn all made → (to : ℕ) (m : Messages sv kp) → MsgOk sv kp made to m → MsgOk sv kp all to m
  msg_grows f to (Bundled b) h = f b h
  msg_grows f to (Done s) h = sound_grows f to s h
  msg_grows f to (Told x) h = votes_grow f x.proposal h
  msg_grows f to (Asked q) h = tt
  msg_grows f to (Given x) h = tail_grows f x.tail h

  -- new bundles are of house i
  ok_grows : {made all : List (Bundle O)} → AllIn all made → (i : ℕ) → ((b : Bundle O) → Memᴰ b all → (Memᴰ b made) ⊎ (b.house ≡ i)) → (j : ℕ) → j ≢ i → (s : Stand (Memory O) (Disks sv kp)) → Ok made j s → Ok all j s
  ok_grows {made} {all} f i g j ne (off d) h =
      record { votes = votes_grow f d.agreeing.proposal h.votes; sound = λ k. sound_grows f k (d.sessions k) (h.sound k); low = λ b m e. elim (g b m) [ inl l ↦ h.low b l e | inr q ↦ absurd (ne (sym e ∙ q)) ] }
  ok_grows {made} {all} f i g j ne (on m d) h =
      record {
        votes = votes_grow f d.agreeing.proposal h.votes;
        sound = λ k. sound_grows f k (d.sessions k) (h.sound k);
        recalls =
            record {
              me_is = h.recalls.me_is;
              incarnation_is = h.recalls.incarnation_is;
              low = λ b l e. elim (g b l) [ inl k ↦ h.recalls.low b k e | inr q ↦ absurd (ne (sym e ∙ q)) ];
              way_is = λ b e. (let q = h.recalls.way_is b e in (f b q.0, q.1, q.2));
              heard_is = λ b l. f b (h.recalls.heard_is b l);
            };
        works = tt;
      }

  ok_off : (made : List (Bundle O)) (j : ℕ) (m : Memory O) (d : Disks sv kp) → Ok made j (on m d) → OkOff made j d
  ok_off made j m d h = record { votes = h.votes; sound = h.sound; low = λ b l e. omega (arith, h.recalls.low b l e, h.recalls.incarnation_is) }

  works_incarnation : (w : Wholes sv kp) → (works sv kp w).incarnation ≡ w.incarnation
  unfolding does_work stowed put_rest
  works_incarnation w = go w.turn.work
    where
      rest : (u : Work sv.Rest sv.Block O sv.A) (z : Wholes sv kp) → z.incarnation ≡ w.incarnation → (put_rest sv kp u z).incarnation ≡ w.incarnation
      rest rests z f = f
      rest (applies k) z f = f
      rest (takes r x) z f = f
      rest (replaces x) z f = f

      stow : (r : ℕ) (x : Part sv.Rest sv.Block sv.A) (s : Option kp.Kept) → (stowed sv kp r x s w).incarnation ≡ w.incarnation
      stow r x None = refl
      stow r x (Some s) = rest (taken r x w.turn).work (record w { turn = taken r x w.turn; kept = s }) refl

      go : (u : Work sv.Rest sv.Block O sv.A) → (does_work sv kp u w).incarnation ≡ w.incarnation
      go rests = refl
      go (applies k) = refl
      go (takes r x) = stow r x (kp.take w.rest x.whole x.asked.key (next_key x.tail) x.floor x.blocks w.kept)
      go (replaces x) = refl

  pub got_incarnation : (r : ℕ) (x : Messages sv kp) (w : Wholes sv kp) → (got sv kp r x w).incarnation ≡ w.incarnation
  got_incarnation r (Bundled b) w = refl
  got_incarnation r (Done s) w = refl
  got_incarnation r (Told x) w = works_incarnation _
  got_incarnation r (Asked q) w = refl
  got_incarnation r (Given x) w = works_incarnation _

  part_sound : (made : List (Bundle O)) (w : Wholes sv kp) → AllSound made w.turn.sessions → (q : Want) → TailOk made (part_of sv kp q w).tail
  unfolding part_of
  part_sound made w h q = go (kp.portion w.rest (is_whole sv kp q w) q.base q.key w.kept).next
    where
      go : (o : Option ℕ) → TailOk made (tail_of sv kp w o)
      go None = h
      go (Some k) = tt

  -- AN EVENT of house i
  abbrev pub InOk : List (Bundle O) → ℕ → In (Messages sv kp) O → Type 0
  InOk made i (Cluster.In.From r x) = MsgOk sv kp made i x
  InOk made i (Ask k o) = Unit {0}
  InOk made i Tick = Unit {0}

  module _ (hs : ℕ → Stand (Memory O) (Disks sv kp)) (ps : List (Packet (Messages sv kp))) (i : ℕ) (v : Numbered hs ps) where
    abbrev After : Ended sv kp → Type 0
    After z = Numbered (put i (on z.mem z.stored) hs) (packets i z.out ++ ps)

    finished : (n : ℕ) (w : Wholes sv kp) → w.incarnation ≡ n → Grown v.made i n w.turn → After (finishes sv kp w)
    finished n w e g =
        record {
          made = g.all;
          one = g.one;
          house = each i _ hs (Ok g.all) (subst (λ (k : ℕ). Fit g.all i k ending.turn) (sym e) mine) (λ j ne. ok_grows g.older i g.newer j ne (hs j) (v.house j));
          wire = λ p m. elim (Memᴰ.append_cases (packets i (finishes sv kp w).out) m) [ inl k ↦ news p k | inr k ↦ msg_grows g.older p.to p.what (v.wire p k) ];
        }
      where
        ending : Wholes sv kp
        ending = begins sv kp w.turn.memory (disk_of sv kp w)

        mine : Fit g.all i n ending.turn
        mine = working g.all i n g.fits tt

        news : (p : Packet (Messages sv kp)) → Memᴰ p (packets i (finishes sv kp w).out) → MsgOk sv kp g.all p.to p.what
        news p k = let f = from_posts sv kp i w p k in
            subst (λ (z : Packet (Messages sv kp)). MsgOk sv kp g.all z.to z.what) (sym f.is)
            (each_post sv kp (MsgOk sv kp g.all) w (λ r. g.fits.votes) (λ c q r. (g.fits.recalls.way_is c q).0) (λ h. g.fits.sound h) (λ b t q r. tt) (λ z q. part_sound g.all w g.fits.sound z.want) f.post f.inside)

    stayed : (m : Memory O) (d : Disks sv kp) → hs i ≡ on m d → Numbered (put i (on m d) hs) ps
    stayed m d e = record { made = v.made; one = v.one; house = each i (on m d) hs (Ok v.made) (subst (Ok v.made i) e (v.house i)) (λ j _. v.house j); wire = v.wire }

    acted : (x : In (Messages sv kp) O) (m : Memory O) (d : Disks sv kp) → hs i ≡ on m d → InOk v.made i x → After (acts sv kp x m d)
    unfolding acts packets
    acted x m d e h = go x h
      where
        fit : Fit v.made i d.incarnation (begins sv kp m d).turn
        fit = subst (Ok v.made i) e (v.house i)

        go : (x : In (Messages sv kp) O) → InOk v.made i x → After (acts sv kp x m d)
        go (Cluster.In.From r y) h = finished d.incarnation (got sv kp r y (begins sv kp m d)) (got_incarnation r y (begins sv kp m d)) (grown_got sv kp v.made i d.incarnation r y (begins sv kp m d) v.one h fit)
        go (Ask k o) h = by_test After (nat_le 8 (count m m.way)) (λ _. stayed m d e) (λ _. finished d.incarnation _ refl (grown_forward v.made i d.incarnation _ (grown_pack v.made i d.incarnation (queued k o (begins sv kp m d).turn) v.one fit)))
        go Tick h = finished d.incarnation (ticked sv kp (begins sv kp m d)) refl (grown_tick sv kp v.made i d.incarnation (begins sv kp m d) v.one fit)

    behaved : (ok : Guard sv kp) (x : In (Messages sv kp) O) (m : Memory O) (d : Disks sv kp) → hs i ≡ on m d → InOk v.made i x → After (behaves sv kp ok x m d)
    unfolding behaves packets
    behaved ok x m d e h = by_test After (ok x m d) (λ _. acted x m d e h) (λ _. stayed m d e)

  -- house i falls
  fallen_ok : (hs : ℕ → Stand (Memory O) (Disks sv kp)) (ps news : List (Packet (Messages sv kp))) (i : ℕ) (m : Memory O) (d : Disks sv kp) → Numbered (put i (on m d) hs) (news ++ ps) → Numbered (put i (off d) hs) ps
  fallen_ok hs ps news i m d v =
      record {
        made = v.made;
        one = v.one;
        house = each i (off d) hs (Ok v.made) (ok_off v.made i m d (here i (on m d) hs (Ok v.made) v.house)) (there i (on m d) hs (Ok v.made) v.house);
        wire = λ p k. v.wire p (Memᴰ.append_right news k);
      }

  fell : (hs : ℕ → Stand (Memory O) (Disks sv kp)) (ps : List (Packet (Messages sv kp))) (i : ℕ) (m : Memory O) (d f : Disks sv kp) (z : Ended sv kp) → Numbered hs ps → hs i ≡ on m d → Numbered (put i (on z.mem z.stored) hs) (packets i z.out ++ ps) → (f ≡ d) ⊎ (f ≡ z.stored) → Numbered (put i (off f) hs) ps
  fell hs ps i m d f z v e a (inl q) = subst (λ (y : Disks sv kp). Numbered (put i (off y) hs) ps) (sym q) (fallen_ok hs ps [] i m d (stayed hs ps i v m d e))
  fell hs ps i m d f z v e a (inr q) = subst (λ (y : Disks sv kp). Numbered (put i (off y) hs) ps) (sym q) (fallen_ok hs ps (packets i z.out) i z.mem z.stored a)

  -- house i wakes
  module _ (hs : ℕ → Stand (Memory O) (Disks sv kp)) (ps : List (Packet (Messages sv kp))) (i : ℕ) (v : Numbered hs ps) (d : Disks sv kp) (e : hs i ≡ off d) where
    was_off : OkOff v.made i d
    was_off = subst (Ok v.made i) e (v.house i)

    risen_ok : Numbered (put i (on (wakes sv kp i d).mem (wakes sv kp i d).stored) hs) ps
    risen_ok =
        record {
          made = v.made;
          one = v.one;
          house = each i _ hs (Ok v.made)
              (record {
                votes = was_off.votes;
                sound = was_off.sound;
                recalls = record { me_is = refl; incarnation_is = refl; low = λ b m q. inl (let l = was_off.low b m q in omega arith); way_is = λ b q. absurd (let z : ◌≡◌ {A = ℕ} 0 1 = cc in omega arith); heard_is = λ b m. absurd (Memᴰ.not-nil m) };
                works = tt;
              })
              (λ j _. v.house j);
          wire = v.wire;
        }

    -- or falls in waking
    falls_again : (f : Disks sv kp) → (f ≡ d) ⊎ (f ≡ (wakes sv kp i d).stored) → Numbered (put i (off f) hs) ps
    falls_again f (inl q) = subst (λ (y : Disks sv kp). Numbered (put i (off y) hs) ps) (sym q) (record { made = v.made; one = v.one; house = each i (off d) hs (Ok v.made) was_off (λ j _. v.house j); wire = v.wire })
    falls_again f (inr q) = subst (λ (y : Disks sv kp). Numbered (put i (off y) hs) ps) (sym q) (fallen_ok hs ps [] i _ _ risen_ok)

  module _ (ok : Guard sv kp) (all : ℕ) where
    pub numbered : {es : List (Seen O R)} {w : World (Memory O) (Disks sv kp) (Messages sv kp)} → Trace (replicated sv kp ok) all es w → Numbered w.house w.wire
    numbered begin = record { made = []; one = λ b c m. absurd (Memᴰ.not-nil m); house = λ j. record { votes = tt; sound = λ h. inl refl; low = λ b m. absurd (Memᴰ.not-nil m) }; wire = λ p m. absurd (Memᴰ.not-nil m) }
    numbered (rises {es} {w} i d l t e) = risen_ok w.house w.wire i (numbered t) d e
    numbered (does {es} {w} i m d p l t e n to) = let v = numbered t in behaved w.house w.wire i v ok (Cluster.In.From p.from p.what) m d e (subst (λ (j : ℕ). MsgOk sv kp v.made j p.what) to (v.wire p n))
    numbered (asked {es} {w} i k o m d l t e u) = behaved w.house w.wire i (numbered t) ok (Ask k o) m d e tt
    numbered (ticks {es} {w} i m d l t e) = behaved w.house w.wire i (numbered t) ok Tick m d e tt
    numbered (falls {es} {w} i m d l t e) = fallen_ok w.house w.wire [] i m d (stayed w.house w.wire i (numbered t) m d e)
    numbered (falls_rising {es} {w} i d f l t e q) = falls_again w.house w.wire i (numbered t) d e f q
    numbered (falls_doing {es} {w} i m d f p l t e n to q) = let v = numbered t in fell w.house w.wire i m d f (behaves sv kp ok (Cluster.In.From p.from p.what) m d) v e (behaved w.house w.wire i v ok (Cluster.In.From p.from p.what) m d e (subst (λ (j : ℕ). MsgOk sv kp v.made j p.what) to (v.wire p n))) q
    numbered (falls_asked {es} {w} i k o m d f l t e u q) = let v = numbered t in fell w.house w.wire i m d f (behaves sv kp ok (Ask k o) m d) v e (behaved w.house w.wire i v ok (Ask k o) m d e tt) q
    numbered (falls_ticking {es} {w} i m d f l t e q) = let v = numbered t in fell w.house w.wire i m d f (behaves sv kp ok Tick m d) v e (behaved w.house w.wire i v ok Tick m d e tt) q
