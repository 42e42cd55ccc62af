-- A house falls, and comes up.
use Rattle.std.proofs.Common.{◌≡◌, ℕ, suc, List, [], ◌∷◌, sym, refl, inl, arith}
use mathlib.Core.List.Memᴰ
use Rattle.agreement.specs.Copies.{Copy}
use Rattle.agreement.specs.Copies
use Rattle.disks.specs.Cluster.{Seen, fell, Packet, put, is_used, has_fallen}
use Rattle.compose.specs.Pure.{Stand, off, on}
use Rattle.copies.specs.Service.{Service, Keeper}
use Rattle.copies.specs.Messages.{Bundle, Command, Reply, Recovery, level, recovers}
use Rattle.copies.specs.Copy.{free, under, Memory}
use Rattle.copies.specs.House.{Wholes, Disks, Messages, disk_of, wakes}
use Rattle.replicated.proofs.Lists.{slot_none, here, there, each}
use Rattle.replicated.proofs.Good.{PassIs, OkOff, OkOn, Ok, Owed}
use Rattle.replicated.proofs.Move.{Scene}
use Rattle.replicated.proofs.Posts.{Over}
use Rattle.replicated.proofs.Ends.{Since, Goes}

module _ {O R : Type 0} (sv : Service O R) (kp : Keeper sv) where
  -- a house falls
  module _ (g₀ : Copies.World (Command O)) (es : List (Seen O R)) (hs : ℕ → Stand (Memory O) (Disks sv kp)) (ps : List (Packet (Messages sv kp))) (i : ℕ) (ts : List (Reply sv.A)) (s : Stand (Memory O) (Disks sv kp)) (v : Since sv kp g₀ es (put i s hs) ps i ts) where
    fall_to : (d : Disks sv kp) → OkOff sv kp v.good.g v.good.asked v.good.made i d → Goes sv kp g₀ (fell i ∷ es) (put i (off d) hs) ps
    unfolding is_used
    fall_to d o =
        record {
          good =
              record {
                g = v.good.g;
                asked = v.good.asked;
                made = v.good.made;
                now = v.good.now;
                inv = v.good.inv;
                top = v.good.top;
                book = record { right = v.good.book.right; ids = v.good.book.ids; used = v.good.book.used };
                snaps = v.good.snaps;
                wire = v.good.wire;
                house = each i (off d) hs (Ok sv kp v.good.g v.good.asked v.good.made) o (there i s hs (Ok sv kp v.good.g v.good.asked v.good.made) v.good.house);
                tale =
                    record {
                      ws = v.good.tale.ws;
                      rs = v.good.tale.rs;
                      f = suc v.good.tale.f;
                      line = has_fallen i v.good.tale.line;
                      open_yet = v.good.tale.open_yet;
                      apart = v.good.tale.apart;
                      owed = each i (off d) hs (Owed sv kp v.good.now v.good.tale.rs) tt (there i s hs (Owed sv kp v.good.now v.good.tale.rs) v.good.tale.owed);
                      told = λ q m. absurd (Memᴰ.not-nil m);
                      told_apart = tt;
                      told_calm = λ q m. absurd (Memᴰ.not-nil m);
                    };
              };
          grown = v.grown;
        }

  pub fall_on : (c : Scene sv kp) (w : Wholes sv kp) → Over sv kp c w → Goes sv kp c.before (fell c.i ∷ c.es) (put c.i (off (disk_of sv kp w)) c.hs) c.ps
  fall_on c w v =
      fall_to c.before c.es c.hs c.ps c.i w.turn.told (on w.turn.memory (disk_of sv kp w)) (record { good = v.good; grown = v.grown }) (disk_of sv kp w)
      (record { copy_is = o.copy_is; lags = o.lags; asked_low = λ a m e. omega (arith, o.asked_low a m e, o.inc_is); made_low = λ b m e. omega (arith, o.made_low b m e, o.inc_is) })
    where
      o : OkOn sv kp v.good.g v.good.asked v.good.made c.i w.turn.memory (disk_of sv kp w)
      o = here c.i (on w.turn.memory (disk_of sv kp w)) c.hs (Ok sv kp v.good.g v.good.asked v.good.made) v.good.house

  pub fall_off : (g₀ : Copies.World (Command O)) (es : List (Seen O R)) (hs : ℕ → Stand (Memory O) (Disks sv kp)) (ps : List (Packet (Messages sv kp))) (i : ℕ) (d : Disks sv kp) → Since sv kp g₀ es (put i (off d) hs) ps i [] → Goes sv kp g₀ (fell i ∷ es) (put i (off d) hs) ps
  fall_off g₀ es hs ps i d v = fall_to g₀ es hs ps i [] (off d) v d (here i (off d) hs (Ok sv kp v.good.g v.good.asked v.good.made) v.good.house)

  -- a house comes up
  pub rise : (g₀ : Copies.World (Command O)) (es : List (Seen O R)) (hs : ℕ → Stand (Memory O) (Disks sv kp)) (ps : List (Packet (Messages sv kp))) (i : ℕ) (d : Disks sv kp) → Since sv kp g₀ es (put i (off d) hs) ps i [] → Since sv kp g₀ es (put i (on (wakes sv kp i d).mem (wakes sv kp i d).stored) hs) ps i []
  rise g₀ es hs ps i d v =
      record {
        good =
            record {
              g = v.good.g;
              asked = v.good.asked;
              made = v.good.made;
              now = v.good.now;
              inv = v.good.inv;
              top = v.good.top;
              book = v.good.book;
              snaps = v.good.snaps;
              wire = v.good.wire;
              house = each i _ hs (Ok sv kp v.good.g v.good.asked v.good.made) me (there i (off d) hs (Ok sv kp v.good.g v.good.asked v.good.made) v.good.house);
              tale =
                  record {
                    ws = v.good.tale.ws;
                    rs = v.good.tale.rs;
                    f = v.good.tale.f;
                    line = v.good.tale.line;
                    open_yet = v.good.tale.open_yet;
                    apart = v.good.tale.apart;
                    owed = each i _ hs (Owed sv kp v.good.now v.good.tale.rs) (λ b e. absurd (no_way e)) (there i (off d) hs (Owed sv kp v.good.now v.good.tale.rs) v.good.tale.owed);
                    told = v.good.tale.told;
                    told_apart = v.good.tale.told_apart;
                    told_calm = λ q m. absurd (Memᴰ.not-nil m);
                  };
            };
        grown = v.grown;
      }
    where
      o : OkOff sv kp v.good.g v.good.asked v.good.made i d
      o = here i (off d) hs (Ok sv kp v.good.g v.good.asked v.good.made) v.good.house

      no_way : {b : Bundle O} → free ≡ under b → ⊥
      no_way e = let z : ◌≡◌ {A = ℕ} 0 1 = cc in omega arith

      no_pass : (r : Recovery) → PassIs sv kp v.good.g d.agreeing.version d.kept (wakes sv kp i d).mem.pass r
      no_pass level = tt
      no_pass (recovers b t) = refl

      me : OkOn sv kp v.good.g v.good.asked v.good.made i (wakes sv kp i d).mem (wakes sv kp i d).stored
      me =
          record {
            copy_is = λ h. let c = o.copy_is h in record { promised_is = c.promised_is; version_is = c.version_is; last_is = c.last_is; proposal_is = c.proposal_is; sessions_is = c.sessions_is; rest_is = c.rest_is; blocks_is = c.blocks_is };
            lags = o.lags;
            pass_is = λ _. no_pass d.agreeing.recovery;
            me_is = refl;
            inc_is = refl;
            asked_low = λ a m e. inl (omega (arith, o.asked_low a m e));
            made_low = λ b m e. inl (omega (arith, o.made_low b m e));
            wait_is = sym (slot_none v.good.asked i (suc d.incarnation) 1 (λ a m p q r. omega (arith, o.asked_low a m p)));
            way_is = λ b e. absurd (no_way e);
            heard_is = λ b m. absurd (Memᴰ.not-nil m);
            lead_is = λ _ b e. absurd (omega arith);
          }
