-- An event begins, and ends: what is to be sent is on the wire, and replies are told.
use Rattle.std.proofs.Common.{◌≡◌, ℕ, List, [], ◌∷◌, ◌++◌, sym, refl, ap, subst, inl, inr}
use mathlib.Core.List.Memᴰ
use mathlib.Core.List.{Memᴰ}
use Rattle.agreement.specs.Copies.{Copy}
use Rattle.agreement.specs.Copies
use Rattle.disks.specs.Cluster.{Out, Tell, Seen, answered, Packet, put, packets, tells, is_used, Ready, Linear, is_told}
use Rattle.compose.specs.Pure.{Stand, off, on}
use Rattle.copies.specs.Service.{Service, Keeper}
use Rattle.copies.specs.Messages.{Command, Reply}
use Rattle.copies.specs.Copy.{Memory}
use Rattle.copies.specs.House.{Wholes, Disks, Messages, Post, disk_of, begins, posts, posted, outs, finishes}
use Rattle.copies.specs.Promise.{plain}
use Rattle.replicated.proofs.Lists.{Cut, cut, put_same}
use Rattle.replicated.proofs.Line.{ready}
use Rattle.replicated.proofs.Good.{Grown, Owed, Calm, MsgOk, Good}
use Rattle.replicated.proofs.Move.{Scene, At}
use Rattle.replicated.proofs.Posts.{Over}

module _ {O R : Type 0} (sv : Service O R) (kp : Keeper sv) where
  -- what holds, and what was agreed on before holds still
  pub record Since (before : Copies.World (Command O)) (es : List (Seen O R)) (hs : ℕ → Stand (Memory O) (Disks sv kp)) (ps : List (Packet (Messages sv kp))) (i : ℕ) (ts : List (Reply sv.A)) : Type 0 where
    pub good : Good sv kp es hs ps i ts
    pub grown : Grown before good.g

  -- nothing is to be told
  abbrev pub Fine : List (Seen O R) → (ℕ → Stand (Memory O) (Disks sv kp)) → List (Packet (Messages sv kp)) → Type 0
  Fine es hs ps = Good sv kp es hs ps 0 []

  abbrev pub Goes : Copies.World (Command O) → List (Seen O R) → (ℕ → Stand (Memory O) (Disks sv kp)) → List (Packet (Messages sv kp)) → Type 0
  Goes g es hs ps = Since g es hs ps 0 []

  abbrev pub scene : Copies.World (Command O) → List (Seen O R) → (ℕ → Stand (Memory O) (Disks sv kp)) → List (Packet (Messages sv kp)) → ℕ → Scene sv kp
  scene g es hs ps i = record { es = es; hs = hs; ps = ps; i = i; before = g }

  module _ (g₀ : Copies.World (Command O)) where
    -- whoever was to tell something
    pub forget : (es : List (Seen O R)) (hs : ℕ → Stand (Memory O) (Disks sv kp)) (ps : List (Packet (Messages sv kp))) (i j : ℕ) (ts : List (Reply sv.A)) → Since g₀ es hs ps i ts → Since g₀ es hs ps j []
    forget es hs ps i j ts v =
        record {
          good =
              record {
                g = v.good.g;
                asked = v.good.asked;
                made = v.good.made;
                now = v.good.now;
                inv = v.good.inv;
                top = v.good.top;
                book = v.good.book;
                snaps = v.good.snaps;
                wire = v.good.wire;
                house = v.good.house;
                tale =
                    record {
                      ws = v.good.tale.ws;
                      rs = v.good.tale.rs;
                      f = v.good.tale.f;
                      line = v.good.tale.line;
                      open_yet = v.good.tale.open_yet;
                      apart = v.good.tale.apart;
                      owed = v.good.tale.owed;
                      told = λ q m. absurd (Memᴰ.not-nil m);
                      told_apart = tt;
                      told_calm = λ q m. absurd (Memᴰ.not-nil m);
                    };
              };
          grown = v.grown;
        }

    pub enter : (es : List (Seen O R)) (hs : ℕ → Stand (Memory O) (Disks sv kp)) (ps : List (Packet (Messages sv kp))) (i : ℕ) (s : Stand (Memory O) (Disks sv kp)) → hs i ≡ s → Goes g₀ es hs ps → Since g₀ es (put i s hs) ps i []
    enter es hs ps i s e v = subst (λ (z : ℕ → Stand (Memory O) (Disks sv kp)). Since g₀ es z ps i []) (put_same i s hs e) (forget es hs ps 0 i [] v)

    pub starts_at : (es : List (Seen O R)) (hs : ℕ → Stand (Memory O) (Disks sv kp)) (ps : List (Packet (Messages sv kp))) (i : ℕ) (m : Memory O) (d : Disks sv kp) → Since g₀ es (put i (on m d) hs) ps i [] → At sv kp (scene g₀ es hs ps i) (begins sv kp m d)
    starts_at es hs ps i m d v = record { good = v.good; grown = v.grown; rests_yet = refl; sent = record { few = inr (refl, refl); serves_none = refl } }

    -- one reply is told
    tell_one : (es : List (Seen O R)) (hs : ℕ → Stand (Memory O) (Disks sv kp)) (ps : List (Packet (Messages sv kp))) (i : ℕ) (t : Reply sv.A) (ts : List (Reply sv.A)) → Since g₀ es hs ps i (t ∷ ts) → Since g₀ (answered i t.id (sv.says t.reply) ∷ es) hs ps i ts
    unfolding is_used
    tell_one es hs ps i t ts v =
        record {
          good =
              record {
                g = v.good.g;
                asked = v.good.asked;
                made = v.good.made;
                now = v.good.now;
                inv = v.good.inv;
                top = v.good.top;
                book = record { right = v.good.book.right; ids = v.good.book.ids; used = v.good.book.used };
                snaps = v.good.snaps;
                wire = v.good.wire;
                house = v.good.house;
                tale =
                    record {
                      ws = v.good.tale.ws;
                      rs = c.before ++ c.behind;
                      f = v.good.tale.f;
                      line = is_told c.before c.behind i t.id (sv.says t.reply) (subst (λ (z : List (Ready R)). Linear (plain sv) es v.good.now.place v.good.tale.ws z v.good.tale.f 0) c.is v.good.tale.line);
                      open_yet = v.good.tale.open_yet;
                      apart = v.good.tale.apart;
                      owed = λ j. less j (hs j) (λ e. subst (λ (k : ℕ). Calm sv kp v.good.now k (hs k)) (sym e) (v.good.tale.told_calm t (Memᴰ.head refl))) (v.good.tale.owed j);
                      told = λ u m. c.still (ready sv i u) (v.good.tale.told u (Memᴰ.tail m)) (λ e. v.good.tale.told_apart.0 u m (ap (λ (z : Ready R). z.id) e));
                      told_apart = v.good.tale.told_apart.1;
                      told_calm = λ u m. v.good.tale.told_calm u (Memᴰ.tail m);
                    };
              };
          grown = v.grown;
        }
      where
        c : Cut (ready sv i t) v.good.tale.rs
        c = cut v.good.tale.rs (v.good.tale.told t (Memᴰ.head refl))

        less : (j : ℕ) (s : Stand (Memory O) (Disks sv kp)) → (j ≡ i → Calm sv kp v.good.now j s) → Owed sv kp v.good.now v.good.tale.rs j s → Owed sv kp v.good.now (c.before ++ c.behind) j s
        less j (off d) n w = tt
        less j (on m d) n w = λ b e f q k. c.still (ready sv j q) (w b e f q k) (λ z. n (ap (λ (y : Ready R). y.house) z) b e f)

    tell_all : (es : List (Seen O R)) (hs : ℕ → Stand (Memory O) (Disks sv kp)) (ps : List (Packet (Messages sv kp))) (i : ℕ) (ts : List (Reply sv.A)) (acc : List (Out (Messages sv kp) R)) → Since g₀ (tells i acc ++ es) hs ps i ts → Since g₀ (tells i (outs sv kp ts acc) ++ es) hs ps i []
    unfolding tells outs
    tell_all es hs ps i [] acc v = v
    tell_all es hs ps i (t ∷ ts) acc v = tell_all es hs ps i ts (Tell t.id (sv.says t.reply) ∷ acc) (tell_one (tells i acc ++ es) hs ps i t ts v)

  pub no_tells : (i : ℕ) (qs : List (Post (Messages sv kp))) → tells {M = Messages sv kp} {O = O} {R = R} i (posted sv kp qs) ≡ []
  unfolding tells posted
  no_tells i [] = refl
  no_tells i (q ∷ qs) = no_tells i qs

  packets_outs : (i : ℕ) (ts : List (Reply sv.A)) (acc : List (Out (Messages sv kp) R)) → packets i (outs sv kp ts acc) ≡ packets i acc
  unfolding packets outs
  packets_outs i [] acc = refl
  packets_outs i (t ∷ ts) acc = packets_outs i ts (Tell t.id (sv.says t.reply) ∷ acc)

  pub from_posts : (P : Packet (Messages sv kp) → Type 0) (i : ℕ) (qs : List (Post (Messages sv kp))) → ((q : Post (Messages sv kp)) → Memᴰ q qs → P (record { to = q.to; from = i; what = q.what })) → (p : Packet (Messages sv kp)) → Memᴰ p (packets i (posted sv kp qs)) → P p
  unfolding packets posted
  from_posts P i [] f p m = absurd (Memᴰ.not-nil m)
  from_posts P i (q ∷ qs) f p m = elim (Memᴰ.cases_cons m) [ inl e ↦ subst P (sym e) (f q (Memᴰ.head refl)) | inr n ↦ from_posts P i qs (λ r k. f r (Memᴰ.tail k)) p n ]

  module _ (c : Scene sv kp) (w : Wholes sv kp) (v : Over sv kp c w) where
    -- what is to be sent is on the wire
    sends : Since c.before c.es (put c.i (on w.turn.memory (disk_of sv kp w)) c.hs) (packets c.i (posted sv kp (posts sv kp w)) ++ c.ps) c.i w.turn.told
    sends =
        record {
          good =
              record {
                g = v.good.g;
                asked = v.good.asked;
                made = v.good.made;
                now = v.good.now;
                inv = v.good.inv;
                top = v.good.top;
                book = v.good.book;
                snaps = v.good.snaps;
                wire = λ p m. elim (Memᴰ.append_cases (packets c.i (posted sv kp (posts sv kp w))) m) [
                  | inl n ↦ from_posts (λ p. MsgOk sv kp v.good.g v.good.made p.from p.to p.what) c.i (posts sv kp w) (λ q k. v.sent q k) p n
                  | inr n ↦ v.good.wire p n
                ];
                house = v.good.house;
                tale = v.good.tale;
              };
          grown = v.grown;
        }

    pub leave : Goes c.before (tells c.i (finishes sv kp w).out ++ c.es) (put c.i (on (finishes sv kp w).mem (finishes sv kp w).stored) c.hs) (packets c.i (finishes sv kp w).out ++ c.ps)
    leave =
        subst (λ (z : List (Packet (Messages sv kp))). Goes c.before (tells c.i (finishes sv kp w).out ++ c.es) (put c.i (on w.turn.memory (disk_of sv kp w)) c.hs) (z ++ c.ps)) (sym (packets_outs c.i w.turn.told (posted sv kp (posts sv kp w))))
        (forget c.before _ _ _ c.i 0 [] (tell_all c.before c.es _ _ c.i w.turn.told (posted sv kp (posts sv kp w))
        (subst (λ (z : List (Seen O R)). Since c.before (z ++ c.es) (put c.i (on w.turn.memory (disk_of sv kp w)) c.hs) (packets c.i (posted sv kp (posts sv kp w)) ++ c.ps) c.i w.turn.told) (sym (no_tells c.i (posts sv kp w))) sends)))
