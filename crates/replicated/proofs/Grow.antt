-- A command is decided: its calls are done.
use Rattle.std.proofs.Common.{◌≡◌, ℕ, ◌≢◌, List, [], ◌∷◌, sym, refl, ap, ◌∙◌, subst, arith}
use mathlib.Core.List.Memᴰ
use mathlib.Core.List.{Memᴰ}
use Rattle.agreement.proofs.Base.{by_test}
use Rattle.disks.specs.Cluster.{Seen}
use Rattle.compose.specs.Pure.{Stand, off, on}
use Rattle.copies.specs.Service.{Service, Keeper}
use Rattle.copies.specs.Messages.{Item, Bundle, Command, Reply}
use Rattle.copies.specs.Copy.{is_new, Memory}
use Rattle.copies.specs.House.{Disks}
use Rattle.copies.specs.Promise.{Played, replies, fulfils, bundle_played, command_played}
use Rattle.replicated.proofs.Lists.{Apart, apart_unique, Homed, item, Of, slot_of, slot_apart, each}
use Rattle.replicated.proofs.Replay.{Above, Within, above_true, above_trans}
use Rattle.replicated.proofs.Line.{waits, ready, Ran, run_calls, replies_apart}
use Rattle.replicated.proofs.Good.{Book, Tale, Owed}

module _ {O R : Type 0} (sv : Service O R) (kp : Keeper sv) (es : List (Seen O R)) (asked : List (Homed O)) (made : List (Bundle O)) (book : Book es asked made) (hs : ℕ → Stand (Memory O) (Disks sv kp)) (i : ℕ) (ts : List (Reply sv.A)) (none : (q : Reply sv.A) → Memᴰ q ts → ⊥) where
  module _ (b : Bundle O) (inside : Memᴰ b made) (now : Played sv) (t : Tale sv kp es asked hs i ts now) (new : Above b.incarnation b.counter (now.sessions b.house).incarnation (now.sessions b.house).counter) where
    calls_apart : Apart (λ (x : Item O). x.id) b.calls
    calls_apart = subst (Apart (λ (x : Item O). x.id)) (sym (book.right b inside)) (slot_apart asked _ _ _ book.ids)

    from : (x : Item O) → Memᴰ x b.calls → Of asked b.house b.incarnation b.counter x
    from x m = slot_of asked _ _ _ x (subst (Memᴰ x) (book.right b inside) m)

    all_wait : (x : Item O) → Memᴰ x b.calls → Memᴰ (waits b.house x) t.ws
    all_wait x m =
        let o = from x m in
        let e : waits b.house x ≡ waits o.a.house (item o.a) = cc (o.is, o.house_is) in
        Memᴰ.cast e (t.open_yet o.a o.inside (subst (λ (h : ℕ). Above o.a.incarnation o.a.counter (now.sessions h).incarnation (now.sessions h).counter) (sym o.house_is) (rw (o.inc_is, o.ctr_is) new)))

    ran : Ran sv es t.f b.house b.calls now.place t.ws t.rs
    ran = run_calls sv es t.f b.house b.calls now.place t.ws t.rs calls_apart all_wait t.line

    abbrev then : Played sv
    then = fulfils sv b now

    still_open : (a : Homed O) → Above a.incarnation a.counter (then.sessions a.house).incarnation (then.sessions a.house).counter → Above a.incarnation a.counter (now.sessions a.house).incarnation (now.sessions a.house).counter × (a.house ≡ b.house → Above a.incarnation a.counter b.incarnation b.counter)
    still_open a =
        each b.house (record { incarnation = b.incarnation; counter = b.counter; replies = replies sv b.calls now.place }) now.sessions
        (λ h z. Above a.incarnation a.counter z.incarnation z.counter → Above a.incarnation a.counter (now.sessions h).incarnation (now.sessions h).counter × (h ≡ b.house → Above a.incarnation a.counter b.incarnation b.counter))
        (λ q. (above_trans q new, λ _. q)) (λ h n q. (q, λ e. absurd (n e))) a.house

    other_id : (a : Homed O) → Memᴰ a asked → (a.house ≡ b.house → Above a.incarnation a.counter b.incarnation b.counter) → (x : Item O) → Memᴰ x b.calls → a.id ≢ x.id
    other_id a m u x n e =
        let o = from x n in
        let z : a ≡ o.a = apart_unique (λ (k : Homed O). k.id) asked book.ids a o.a m o.inside (e ∙ ap (λ (k : Item O). k.id) o.is) in
        let p : a.incarnation ≡ b.incarnation = ap (λ (k : Homed O). k.incarnation) z ∙ o.inc_is in
        let q : a.counter ≡ b.counter = ap (λ (k : Homed O). k.counter) z ∙ o.ctr_is in
        let v = u (ap (λ (k : Homed O). k.house) z ∙ o.house_is) in
        omega arith

    owed_then : (j : ℕ) (s : Stand (Memory O) (Disks sv kp)) → Owed sv kp now t.rs j s → Owed sv kp then ran.rs' j s
    owed_then j (off d) w = tt
    owed_then j (on m d) w = λ c e.
        each b.house (record { incarnation = b.incarnation; counter = b.counter; replies = replies sv b.calls now.place }) now.sessions
        (λ h z. h ≡ j → (c.incarnation ≡ z.incarnation) × (c.counter ≡ z.counter) → (q : Reply sv.A) → Memᴰ q z.replies → Memᴰ (ready sv j q) ran.rs')
        (λ f _ q n. subst (λ (h : ℕ). Memᴰ (ready sv h q) ran.rs') f (ran.fresh q n))
        (λ h _ f. subst (λ (k : ℕ). (c.incarnation ≡ (now.sessions k).incarnation) × (c.counter ≡ (now.sessions k).counter) → (q : Reply sv.A) → Memᴰ q (now.sessions k).replies → Memᴰ (ready sv j q) ran.rs') (sym f) (λ y q n. ran.more (ready sv j q) (w c e y q n)))
        j refl

    fulfil : Tale sv kp es asked hs i ts then
    fulfil =
        record {
          ws = ran.ws';
          rs = ran.rs';
          f = t.f;
          line = ran.line;
          open_yet = λ a m u. let v = still_open a u in ran.keeps (waits a.house (item a)) (t.open_yet a m v.0) (other_id a m v.1);
          apart = each b.house (record { incarnation = b.incarnation; counter = b.counter; replies = replies sv b.calls now.place }) now.sessions (λ h z. Apart (λ (q : Reply sv.A). q.id) z.replies) (replies_apart sv es t.f b.house b.calls now.place calls_apart) (λ h _. t.apart h);
          owed = λ j. owed_then j (hs j) (t.owed j);
          told = λ q m. absurd (none q m);
          told_apart = t.told_apart;
          told_calm = λ q m. absurd (none q m);
        }

  tale_bundle : (b : Bundle O) → Memᴰ b made → (now : Played sv) → Tale sv kp es asked hs i ts now → Tale sv kp es asked hs i ts (bundle_played sv b now)
  unfolding bundle_played
  tale_bundle b m now t = by_test (Tale sv kp es asked hs i ts) (is_new b now.sessions) (λ n. fulfil b m now t (above_true b.incarnation b.counter (now.sessions b.house).incarnation (now.sessions b.house).counter n)) (λ _. t)

  pub tale_command : (k : Command O) → Within sv made k → (now : Played sv) → Tale sv kp es asked hs i ts now → Tale sv kp es asked hs i ts (command_played sv k now)
  unfolding command_played
  tale_command [] w now t = t
  tale_command (b ∷ k) w now t = tale_command k (λ c m. w c (Memᴰ.tail m)) (bundle_played sv b now) (tale_bundle b (w b (Memᴰ.head refl)) now t)
