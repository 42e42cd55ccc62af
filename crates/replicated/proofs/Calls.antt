-- A call is let in, refused, or let pass.
use Rattle.std.proofs.Common.{◌≡◌, ℕ, suc, true, not, T, eqb, ◌≢◌, List, [], ◌∷◌, ◌++◌, sym, refl, ap, ◌∙◌, subst, inl, inr, arith, eq-eqb}
use mathlib.Core.List.Memᴰ
use mathlib.Core.List.{Memᴰ}
use Rattle.agreement.specs.Copies.{Copy}
use Rattle.agreement.specs.Copies
use Rattle.disks.specs.Cluster.{Seen, called, answered, Packet, is_used, makes, is_busy}
use Rattle.compose.specs.Pure.{Stand, off, on}
use Rattle.copies.specs.Service.{Service, Keeper}
use Rattle.copies.specs.Messages.{Item, Command, Reply}
use Rattle.copies.specs.Copy.{Memory, queued}
use Rattle.copies.specs.House.{Wholes, Disks, Messages, with_turn, disk_of}
use Rattle.replicated.proofs.Lists.{Homed, item, slot_skip, slot_take, here, there, each}
use Rattle.replicated.proofs.Line.{waits}
use Rattle.replicated.proofs.Good.{OkOn, Ok, Owed}
use Rattle.replicated.proofs.Move.{Scene, At, mine}
use Rattle.replicated.proofs.Pending.{or_right, or_left, not_both}
use Rattle.replicated.proofs.Ends.{Since, Goes, forget}

module _ {O R : Type 0} (sv : Service O R) (kp : Keeper sv) where
  -- a call is let in
  pub enqueue : (c : Scene sv kp) (k : ℕ) (o : O) (w : Wholes sv kp) → T (not (is_used k c.es)) → ((q : Reply sv.A) → Memᴰ q w.turn.told → ⊥) → At sv kp c w → At sv kp (record c { es = called c.i k o ∷ c.es }) (with_turn sv kp (queued k o w.turn) w)
  unfolding is_used
  enqueue c k q w fresh_id none v =
      record {
        good =
            record {
              g = v.good.g;
              asked = a ∷ v.good.asked;
              made = v.good.made;
              now = v.good.now;
              inv = v.good.inv;
              top = v.good.top;
              book =
                  record {
                    right = λ b m. v.good.book.right b m ∙ sym (slot_skip a v.good.asked b.house b.incarnation b.counter (λ p q r. omega (arith, o.made_low b m (sym p))));
                    ids = (λ y m e. not_both (is_used k c.es) fresh_id (subst (λ (n : ℕ). is_used n c.es ≡ true) e (v.good.book.used y m)), v.good.book.ids);
                    used = λ y m. elim (Memᴰ.cases_cons m) [ inl e ↦ or_left (eqb y.id k) (is_used y.id c.es) (eq-eqb _ _ (ap (λ (z : Homed O). z.id) e)) | inr n ↦ or_right (eqb y.id k) (is_used y.id c.es) (v.good.book.used y n) ];
                  };
              snaps = v.good.snaps;
              wire = v.good.wire;
              house = each c.i _ c.hs (Ok sv kp v.good.g (a ∷ v.good.asked) v.good.made) me (λ j n. other j n (c.hs j) (there c.i (on w.turn.memory (disk_of sv kp w)) c.hs (Ok sv kp v.good.g v.good.asked v.good.made) v.good.house j n));
              tale =
                  record {
                    ws = waits c.i (item a) ∷ v.good.tale.ws;
                    rs = v.good.tale.rs;
                    f = v.good.tale.f;
                    line = makes c.i k q v.good.tale.line;
                    open_yet = λ y m u. elim (Memᴰ.cases_cons m) [ inl e ↦ Memᴰ.head (ap (λ (z : Homed O). waits z.house (item z)) e) | inr n ↦ Memᴰ.tail (v.good.tale.open_yet y n u) ];
                    apart = v.good.tale.apart;
                    owed = each c.i _ c.hs (Owed sv kp v.good.now v.good.tale.rs) (here c.i (on w.turn.memory (disk_of sv kp w)) c.hs (Owed sv kp v.good.now v.good.tale.rs) v.good.tale.owed) (there c.i (on w.turn.memory (disk_of sv kp w)) c.hs (Owed sv kp v.good.now v.good.tale.rs) v.good.tale.owed);
                    told = v.good.tale.told;
                    told_apart = v.good.tale.told_apart;
                    told_calm = λ q m. absurd (none q m);
                  };
            };
        grown = v.grown;
        rests_yet = v.rests_yet;
        sent = v.sent;
      }
    where
      a : Homed O
      a = record { house = c.i; incarnation = w.turn.memory.incarnation; counter = suc w.turn.memory.counter; id = k; call = q }

      o : OkOn sv kp v.good.g v.good.asked v.good.made c.i w.turn.memory (disk_of sv kp w)
      o = mine sv kp c w v

      me : OkOn sv kp v.good.g (a ∷ v.good.asked) v.good.made c.i (queued k q w.turn).memory (disk_of sv kp w)
      me =
          record {
            copy_is = o.copy_is;
            lags = o.lags;
            pass_is = o.pass_is;
            me_is = o.me_is;
            inc_is = o.inc_is;
            asked_low = λ y m e. elim (Memᴰ.cases_cons m) [ inl f ↦ inr (ap (λ (z : Homed O). z.incarnation) f, omega (arith, ap (λ (z : Homed O). z.counter) f)) | inr n ↦ o.asked_low y n e ];
            made_low = o.made_low;
            wait_is = ap (λ (z : List (Item O)). z ++ item a ∷ []) o.wait_is ∙ sym (slot_take a v.good.asked c.i w.turn.memory.incarnation (suc w.turn.memory.counter) refl refl refl);
            way_is = o.way_is;
            heard_is = o.heard_is;
            lead_is = o.lead_is;
          }

      other : (j : ℕ) → j ≢ c.i → (s : Stand (Memory O) (Disks sv kp)) → Ok sv kp v.good.g v.good.asked v.good.made j s → Ok sv kp v.good.g (a ∷ v.good.asked) v.good.made j s
      other j n (off d) h = record { copy_is = h.copy_is; lags = h.lags; asked_low = λ y m e. elim (Memᴰ.cases_cons m) [ inl f ↦ absurd (n (sym e ∙ ap (λ (z : Homed O). z.house) f)) | inr l ↦ h.asked_low y l e ]; made_low = h.made_low }
      other j n (on m d) h =
          record {
            copy_is = h.copy_is;
            lags = h.lags;
            pass_is = h.pass_is;
            me_is = h.me_is;
            inc_is = h.inc_is;
            asked_low = λ y l e. elim (Memᴰ.cases_cons l) [ inl f ↦ absurd (n (sym e ∙ ap (λ (z : Homed O). z.house) f)) | inr q ↦ h.asked_low y q e ];
            made_low = h.made_low;
            wait_is = h.wait_is ∙ sym (slot_skip a v.good.asked j m.incarnation (suc m.counter) (λ p _ _. n (sym p)));
            way_is = h.way_is;
            heard_is = h.heard_is;
            lead_is = h.lead_is;
          }

  -- a call too many
  pub refuse : (g₀ : Copies.World (Command O)) (es : List (Seen O R)) (hs : ℕ → Stand (Memory O) (Disks sv kp)) (ps : List (Packet (Messages sv kp))) (i k : ℕ) (c : O) → Since sv kp g₀ es hs ps i [] → Goes sv kp g₀ (answered i k sv.busy ∷ called i k c ∷ es) hs ps
  unfolding is_used
  refuse g₀ es hs ps i k c v =
      forget sv kp g₀ _ hs ps i 0 []
      (record {
        good =
            record {
              g = v.good.g;
              asked = v.good.asked;
              made = v.good.made;
              now = v.good.now;
              inv = v.good.inv;
              top = v.good.top;
              book = record { right = v.good.book.right; ids = v.good.book.ids; used = λ y m. or_right (eqb y.id k) (is_used y.id es) (v.good.book.used y m) };
              snaps = v.good.snaps;
              wire = v.good.wire;
              house = v.good.house;
              tale =
                  record {
                    ws = v.good.tale.ws;
                    rs = v.good.tale.rs;
                    f = v.good.tale.f;
                    line = is_busy [] v.good.tale.ws i k c (makes i k c v.good.tale.line);
                    open_yet = v.good.tale.open_yet;
                    apart = v.good.tale.apart;
                    owed = v.good.tale.owed;
                    told = v.good.tale.told;
                    told_apart = v.good.tale.told_apart;
                    told_calm = v.good.tale.told_calm;
                  };
            };
        grown = v.grown;
      })

  -- a call that is let pass
  pub ignore : (g₀ : Copies.World (Command O)) (es : List (Seen O R)) (hs : ℕ → Stand (Memory O) (Disks sv kp)) (ps : List (Packet (Messages sv kp))) (i k : ℕ) (c : O) → Since sv kp g₀ es hs ps i [] → Since sv kp g₀ (called i k c ∷ es) hs ps i []
  unfolding is_used
  ignore g₀ es hs ps i k c v =
      record {
        good =
            record {
              g = v.good.g;
              asked = v.good.asked;
              made = v.good.made;
              now = v.good.now;
              inv = v.good.inv;
              top = v.good.top;
              book = record { right = v.good.book.right; ids = v.good.book.ids; used = λ y m. or_right (eqb y.id k) (is_used y.id es) (v.good.book.used y m) };
              snaps = v.good.snaps;
              wire = v.good.wire;
              house = v.good.house;
              tale =
                  record {
                    ws = waits i (record { id = k; call = c }) ∷ v.good.tale.ws;
                    rs = v.good.tale.rs;
                    f = v.good.tale.f;
                    line = makes i k c v.good.tale.line;
                    open_yet = λ a m u. Memᴰ.tail (v.good.tale.open_yet a m u);
                    apart = v.good.tale.apart;
                    owed = v.good.tale.owed;
                    told = v.good.tale.told;
                    told_apart = v.good.tale.told_apart;
                    told_calm = v.good.tale.told_calm;
                  };
            };
        grown = v.grown;
      }
