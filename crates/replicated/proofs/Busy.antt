-- A call is answered by busy only at once, and only where eight wait.
use Rattle.std.specs.Prelude.{◌≡◌, ℕ, suc, ◌+◌, ◌≤◌, true, cond, not, ◌&&◌, T, List, [], ◌∷◌, ◌++◌, length, nat_le, ◌==◌, eqb}
use Rattle.std.proofs.Common.{◌≢◌, sym, refl, ap, ◌∙◌, subst, inl, inr, arith, eq-eqb, eqb-true, leb-true, length-append}
use mathlib.Core.List.Memᴰ
use mathlib.Core.List.{Memᴰ}
use Rattle.agreement.proofs.Base.{by_test, by_both}
use Rattle.disks.specs.Cluster.{In, Ask, Tick, Out, Tell, Seen, called, answered, fell, Asking, put, tells, is_used, settled, away_from, count_at}
use Rattle.disks.specs.Cluster
use Rattle.compose.specs.Pure.{Stand, off, on, World, Trace, begin, rises, does, asked, ticks, falls, falls_rising, falls_doing, falls_asked, falls_ticking, PureBusy}
use Rattle.copies.specs.Service.{Service, Keeper}
use Rattle.copies.specs.Messages.{Item, Bundle, Reply, Session, Bundled, Done, Told, Asked, Given}
use Rattle.copies.specs.Copy.{Way, free, under, Memory, is_copy, is_free, is_nil, packed, pack, settle, settle_here, forward, goes_on, on_status, on_part, count, queued}
use Rattle.copies.specs.House.{Disks, Wholes, Messages, Post, Ended, Guard, Turns, works, posts, posted, outs, finishes, begins, got, ticked, refused, acts, stays, behaves, blank, replicated}
use Rattle.copies.specs.House
use Rattle.copies.specs.Promise.{BusyOnly}
use Rattle.replicated.proofs.Lists.{each}
use Rattle.replicated.proofs.Like.{Alike, Like, like_trans, like_forward, like_bundle, like_status, like_part, like_want, like_tick, like_works}
use Rattle.replicated.proofs.Fits.{Sound, OneEach, Fit, fit_status, fit_part, fit_tick, fit_works, MsgOk}
use Rattle.replicated.proofs.Numbered.{numbered, Ok}
use Rattle.replicated.proofs.Pending.{ids, tell_count, settled_in, settled_ids, settled_other, settled_count, used_tells, count_here, away_in, away_ids, away_other, or_right, or_left, not_both}

module _ {O R : Type 0} (sv : Service O R) (kp : Keeper sv) where
  -- how many calls wait
  abbrev size : List (Item O) → Way O → ℕ
  size w free = length w
  size w (under b) = length b.calls + length w

  size_is : (m : Memory O) (u : Way O) → count m u ≡ size m.waiting u
  size_is m free = refl
  size_is m (under b) = refl

  -- n waited; they wait still, or are told now
  abbrev Kept : ℕ → Turns sv kp → Type 0
  Kept n t = size t.memory.waiting t.memory.way + length t.told ≡ n

  kept_like : {n : ℕ} {w w' : List (Item O)} {y y' : Way O} {ts ts' : List (Reply sv.A)} → Alike w w' y y' ts ts' → size w y + length ts ≡ n → size w' y' + length ts' ≡ n
  kept_like {n} {w} {w'} {y} {y'} {ts} {ts'} f k =
      ap (λ (z : List (Item O)). size z y' + length ts') f.wait_is ∙ ap (λ (z : Way O). size w z + length ts') f.way_is ∙ ap (λ (z : List (Reply sv.A)). size w y + length z) f.told_is ∙ k

  kept_pack : (n : ℕ) (t : Turns sv kp) → Kept n t → Kept n (pack t)
  unfolding pack
  kept_pack n t k = go t.memory.way refl
    where
      go : (u : Way O) → t.memory.way ≡ u → Kept n (cond (is_free u && not (is_nil t.memory.waiting)) (packed t) t)
      go free e = by_test (Kept n) (not (is_nil t.memory.waiting)) (λ _. let z : size t.memory.waiting t.memory.way ≡ length t.memory.waiting = ap (size t.memory.waiting) e in omega arith) (λ _. k)
      go (under b) e = k

  module _ (made : List (Bundle O)) (one : OneEach made) (j i : ℕ) where
    -- as many replies as calls
    as_many : (t : Turns sv kp) → Fit made j i t → (s : Session sv.A) → Sound made j s → (b : Bundle O) → t.memory.way ≡ under b → b.incarnation ≡ s.incarnation → b.counter ≡ s.counter → length s.replies ≡ length b.calls
    as_many t v s (inl z) b e p q = absurd (omega (arith, (v.recalls.way_is b e).2))
    as_many t v s (inr f) b e p q =
        let w = v.recalls.way_is b e in
        let g : f.bundle ≡ b = one f.bundle b f.inside w.0 (f.house_is ∙ sym w.1) (f.incarnation_is ∙ sym p) (f.counter_is ∙ sym q) in
        f.as_many ∙ ap (λ (z : Bundle O). length z.calls) g

    kept_settle : (n : ℕ) (t : Turns sv kp) → Fit made j i t → (s : Session sv.A) → Sound made j s → t.told ≡ [] → Kept n t → Kept n (settle s t.memory.way t)
    unfolding settle
    kept_settle n t v s h none k = go t.memory.way refl
      where
        go : (u : Way O) → t.memory.way ≡ u → Kept n (settle s u t)
        go free e = k
        go (under b) e =
            by_both (Kept n) (b.incarnation == s.incarnation) (b.counter == s.counter)
            (λ p q.
            let z : size t.memory.waiting t.memory.way ≡ length b.calls + length t.memory.waiting = ap (size t.memory.waiting) e in
            let y : length t.told ≡ 0 = ap (length {A = Reply sv.A}) none in
            omega (arith, as_many t v s h b e (eqb-true _ _ p) (eqb-true _ _ q), k)) k

    kept_on : (n : ℕ) (t : Turns sv kp) → Fit made j i t → t.told ≡ [] → Kept n t → Kept n (goes_on t)
    unfolding settle_here
    kept_on n t v none k =
        kept_like (like_forward _) (kept_pack n _ (by_test (Kept n) (is_copy t.memory.me)
        (λ _. kept_settle n t v (t.sessions t.memory.me) (subst (λ (h : ℕ). Sound made h (t.sessions t.memory.me)) v.recalls.me_is (v.sound t.memory.me)) none k) (λ _. k)))

    kept_got : (n r : ℕ) (x : Messages sv kp) (w : Wholes sv kp) → MsgOk sv kp made j x → Fit made j i w.turn → w.turn.told ≡ [] → Kept n w.turn → Kept n (got sv kp r x w).turn
    kept_got n r (Bundled b) w h v none k = kept_like (like_forward _) (kept_like (like_bundle b w.turn) k)
    kept_got n r (Done s) w h v none k = kept_like (like_forward _) (kept_pack n _ (kept_settle n w.turn v s h none k))
    kept_got n r (Told x) w h v none k =
        let f : Like w.turn (works sv kp (House.on sv kp (on_status r x) w)).turn = like_trans (like_status r x w.turn) (like_works sv kp (House.on sv kp (on_status r x) w)) in
        kept_on n _ (fit_works sv kp made j i _ (fit_status made j i r x w.turn h v)) (f.told_is ∙ none) (kept_like f k)
    kept_got n r (Asked q) w h v none k = kept_like (like_want r q w.turn) k
    kept_got n r (Given x) w h v none k =
        let f : Like w.turn (works sv kp (House.on sv kp (on_part r x) w)).turn = like_trans (like_part r x w.turn) (like_works sv kp (House.on sv kp (on_part r x) w)) in
        kept_on n _ (fit_works sv kp made j i _ (fit_part made j i r x w.turn h v)) (f.told_is ∙ none) (kept_like f k)

    kept_tick : (n : ℕ) (w : Wholes sv kp) → Fit made j i w.turn → w.turn.told ≡ [] → Kept n w.turn → Kept n (ticked sv kp w).turn
    kept_tick n w v none k = let f = like_tick w.turn in kept_on n _ (fit_tick made j i w.turn v) (f.told_is ∙ none) (kept_like f k)

  abbrev Counts : List Asking → ℕ → Stand (Memory O) (Disks sv kp) → Type 0
  Counts pend j (off d) = Unit {0}
  Counts pend j (on m d) = size m.waiting m.way ≤ count_at j pend

  -- those that wait at a house are among its calls not answered
  pub record Count (es : List (Seen O R)) (hs : ℕ → Stand (Memory O) (Disks sv kp)) (pend : List Asking) : Type 0 where
    pub apart : ids pend
    pub used : (a : Asking) → Memᴰ a pend → is_used a.id es ≡ true
    pub counts : (j : ℕ) → Counts pend j (hs j)

  counts_at : (pend pend' : List Asking) (j : ℕ) (s : Stand (Memory O) (Disks sv kp)) → count_at j pend ≤ count_at j pend' → Counts pend j s → Counts pend' j s
  counts_at pend pend' j (off d) l c = tt
  counts_at pend pend' j (on m d) l c = omega arith

  tell_outs : (ts : List (Reply sv.A)) (acc : List (Out (Messages sv kp) R)) → tell_count (outs sv kp ts acc) ≡ length ts + tell_count acc
  unfolding outs
  tell_outs [] acc = omega arith
  tell_outs (t ∷ ts) acc = omega (arith, tell_outs ts (Tell t.id (sv.says t.reply) ∷ acc))

  tell_posted : (qs : List (Post (Messages sv kp))) → tell_count {R = R} (posted sv kp qs) ≡ 0
  unfolding posted
  tell_posted [] = refl
  tell_posted (q ∷ qs) = tell_posted qs

  module _ (es : List (Seen O R)) (hs : ℕ → Stand (Memory O) (Disks sv kp)) (pend : List Asking) (i : ℕ) (apart : ids pend) where
    leave_count : (n : ℕ) (w : Wholes sv kp) → ((a : Asking) → Memᴰ a pend → is_used a.id es ≡ true) → n ≤ count_at i pend → ((j : ℕ) → j ≢ i → Counts pend j (hs j)) → Kept n w.turn →
        Count (tells i (finishes sv kp w).out ++ es) (put i (on (finishes sv kp w).mem (finishes sv kp w).stored) hs) (settled i (finishes sv kp w).out pend)
    leave_count n w u l c k =
        record {
          apart = settled_ids i out pend apart;
          used = λ b m. used_tells i b.id out es (u b (settled_in i out pend b m));
          counts = each i _ hs (Counts (settled i out pend)) (let p = settled_count i out pend apart in let q = tell_outs w.turn.told (posted sv kp (posts sv kp w)) in let r = tell_posted (posts sv kp w) in omega arith) (λ j ne. counts_at pend (settled i out pend) j (hs j) (omega (arith, settled_other i j out pend ne)) (c j ne));
        }
      where
        out : List (Out (Messages sv kp) R)
        out = (finishes sv kp w).out

    fall_count : (d : Disks sv kp) → ((a : Asking) → Memᴰ a pend → is_used a.id es ≡ true) → ((j : ℕ) → Counts pend j (hs j)) → Count (fell i ∷ es) (put i (off d) hs) (away_from i pend)
    unfolding is_used
    fall_count d u c =
        record {
          apart = away_ids i pend apart;
          used = λ b m. u b (away_in i pend b m);
          counts = each i (off d) hs (Counts (away_from i pend)) tt (λ j ne. counts_at pend (away_from i pend) j (hs j) (omega (arith, away_other i j pend ne)) (c j));
        }

  -- a house's count, from where it stands
  counts_of : (pend : List Asking) (j : ℕ) (s : Stand (Memory O) (Disks sv kp)) (m : Memory O) (d : Disks sv kp) → s ≡ on m d → Counts pend j s → Counts pend j (on m d)
  counts_of pend j s m d e c = subst (Counts pend j) e c

  size_more : (x : Item O) (w : List (Item O)) (u : Way O) → size (w ++ x ∷ []) u ≡ suc (size w u)
  size_more x w free = omega (arith, length-append w (x ∷ []))
  size_more x w (under b) = omega (arith, length-append w (x ∷ []))

  asking_used : (es : List (Seen O R)) (i k : ℕ) (o : O) (pend : List Asking) → ((a : Asking) → Memᴰ a pend → is_used a.id es ≡ true) → (a : Asking) → Memᴰ a pend → is_used a.id (called i k o ∷ es) ≡ true
  unfolding is_used
  asking_used es i k o pend u a m = or_right (eqb a.id k) (is_used a.id es) (u a m)

  asking_new : (es : List (Seen O R)) (i k : ℕ) (o : O) (pend : List Asking) → ((a : Asking) → Memᴰ a pend → is_used a.id es ≡ true) → (a : Asking) → Memᴰ a (record { house = i; id = k } ∷ pend) → is_used a.id (called i k o ∷ es) ≡ true
  unfolding is_used
  asking_new es i k o pend u a m = elim (Memᴰ.cases_cons m) [ inl e ↦ or_left (eqb a.id k) (is_used a.id es) (eq-eqb _ _ (ap (λ (z : Asking). z.id) e)) | inr n ↦ asking_used es i k o pend u a n ]

  asking_ids : (es : List (Seen O R)) (i k : ℕ) (pend : List Asking) → T (not (is_used k es)) → ((a : Asking) → Memᴰ a pend → is_used a.id es ≡ true) → ids pend → ids (record { house = i; id = k } ∷ pend)
  asking_ids es i k pend f u a = (λ y m e. not_both (is_used k es) f (subst (λ (n : ℕ). is_used n es ≡ true) e (u y m)), a)

  more : (j : ℕ) (b : Asking) (ps : List Asking) → count_at j ps ≤ count_at j (b ∷ ps)
  unfolding count_at
  more j b ps = by_test (λ n. count_at j ps ≤ n) (eqb j b.house) (λ _. omega arith) (λ _. omega arith)

  module _ (ok : Guard sv kp) (all : ℕ) where
    abbrev Worlds : Type 0
    Worlds = World (Memory O) (Disks sv kp) (Messages sv kp)

    abbrev Lands : List (Seen O R) → ℕ → Worlds → List Asking → Ended sv kp → Type 0
    Lands es i w pend z = Count (tells i z.out ++ es) (put i (on z.mem z.stored) w.house) (settled i z.out pend)

    refused_count : (es : List (Seen O R)) (w : Worlds) (i k : ℕ) (o : O) (m : Memory O) (d : Disks sv kp) (c : Count es w.house w.pending) → Counts w.pending i (on m d) → ids (record { house = i; id = k } ∷ w.pending) →
        count_at i (record { house = i; id = k } ∷ w.pending) ≡ 1 + count_at i w.pending → ((j : ℕ) → j ≢ i → Counts (record { house = i; id = k } ∷ w.pending) j (w.house j)) →
        Lands (called i k o ∷ es) i w (record { house = i; id = k } ∷ w.pending) (refused sv kp k m d)
    unfolding is_used tells
    refused_count es w i k o m d c q a l z =
        record {
          apart = settled_ids i os pend a;
          used = λ b n. asking_new es i k o w.pending c.used b (settled_in i os pend b n);
          counts = each i (on m d) w.house (Counts (settled i os pend)) (let p = settled_count i os pend a in omega arith) (λ j ne. counts_at pend (settled i os pend) j (w.house j) (omega (arith, settled_other i j os pend ne)) (z j ne));
        }
      where
        os : List (Out (Messages sv kp) R)
        os = Tell k sv.busy ∷ []

        pend : List Asking
        pend = record { house = i; id = k } ∷ w.pending

    -- an event that acts, or is let pass
    lands : (es : List (Seen O R)) (i : ℕ) (w : Worlds) (pend : List Asking) (m : Memory O) (d : Disks sv kp) (x : In (Messages sv kp) O) → ids pend → ((a : Asking) → Memᴰ a pend → is_used a.id es ≡ true) → Counts pend i (on m d) → ((j : ℕ) → j ≢ i → Counts pend j (w.house j)) →
        Lands es i w pend (acts sv kp x m d) → Lands es i w pend (behaves sv kp ok x m d)
    unfolding behaves tells settled
    lands es i w pend m d x a u c z y = by_test (Lands es i w pend) (ok x m d) (λ _. y) (λ _. record { apart = a; used = u; counts = each i (on m d) w.house (Counts pend) c z })

    -- the house's part of the invariant
    fit_of : {es : List (Seen O R)} {w : Worlds} (t : Trace (replicated sv kp ok) all es w) (i : ℕ) (m : Memory O) (d : Disks sv kp) → w.house i ≡ on m d → Fit (numbered sv kp ok all t).made i d.incarnation (begins sv kp m d).turn
    fit_of t i m d e = subst (Ok sv kp (numbered sv kp ok all t).made i) e ((numbered sv kp ok all t).house i)

    counted : {es : List (Seen O R)} {w : Worlds} → Trace (replicated sv kp ok) all es w → Count es w.house w.pending
    unfolding acts tells settled
    counted begin = record { apart = tt; used = λ a m. absurd (Memᴰ.not-nil m); counts = λ j. tt }
    counted (rises {es} {w} i d hi t e) = let c = counted t in record { apart = c.apart; used = c.used; counts = each i _ w.house (Counts w.pending) (omega arith) (λ j _. c.counts j) }
    counted (does {es} {w} i m d p hi t e n to) =
        let c = counted t in
        let k = counts_of w.pending i (w.house i) m d e (c.counts i) in
        let v = numbered sv kp ok all t in
        lands es i w w.pending m d (Cluster.In.From p.from p.what) c.apart c.used k (λ j _. c.counts j)
        (leave_count es w.house w.pending i c.apart (size m.waiting m.way) _ c.used k (λ j _. c.counts j)
        (kept_got v.made v.one i d.incarnation (size m.waiting m.way) p.from p.what (begins sv kp m d) (subst (λ (j : ℕ). MsgOk sv kp v.made j p.what) to (v.wire p n)) (fit_of t i m d e) refl (omega arith)))
    counted (asked {es} {w} i k o m d hi t e u) =
        let c = counted t in
        let q = counts_of w.pending i (w.house i) m d e (c.counts i) in
        let pend : List Asking = record { house = i; id = k } ∷ w.pending in
        let l : count_at i pend ≡ 1 + count_at i w.pending = count_here i (record { house = i; id = k }) w.pending refl in
        let a : ids pend = asking_ids es i k w.pending u c.used c.apart in
        let z : (j : ℕ) → j ≢ i → Counts pend j (w.house j) = λ j _. counts_at w.pending pend j (w.house j) (more j (record { house = i; id = k }) w.pending) (c.counts j) in
        lands (called i k o ∷ es) i w pend m d (Ask k o) a (asking_new es i k o w.pending c.used) (omega arith) z
        (by_test (Lands (called i k o ∷ es) i w pend) (nat_le 8 (count m m.way)) (λ _. refused_count es w i k o m d c q a l z)
        (λ _. leave_count (called i k o ∷ es) w.house pend i a (suc (size m.waiting m.way)) _ (asking_new es i k o w.pending c.used) (omega arith) z
        (kept_like (like_forward _) (kept_pack (suc (size m.waiting m.way)) (queued k o (begins sv kp m d).turn) (omega (arith, size_more (record { id = k; call = o }) m.waiting m.way))))))
    counted (ticks {es} {w} i m d hi t e) =
        let c = counted t in
        let k = counts_of w.pending i (w.house i) m d e (c.counts i) in
        let v = numbered sv kp ok all t in
        lands es i w w.pending m d Tick c.apart c.used k (λ j _. c.counts j)
        (leave_count es w.house w.pending i c.apart (size m.waiting m.way) _ c.used k (λ j _. c.counts j) (kept_tick v.made v.one i d.incarnation (size m.waiting m.way) (begins sv kp m d) (fit_of t i m d e) refl (omega arith)))
    counted (falls {es} {w} i m d hi t e) = let c = counted t in fall_count es w.house w.pending i c.apart d c.used c.counts
    counted (falls_rising {es} {w} i d f hi t e q) = let c = counted t in fall_count es w.house w.pending i c.apart f c.used c.counts
    counted (falls_doing {es} {w} i m d f p hi t e n to q) = let c = counted t in fall_count es w.house w.pending i c.apart f c.used c.counts
    counted (falls_asked {es} {w} i k o m d f hi t e u q) = let c = counted t in fall_count (called i k o ∷ es) w.house w.pending i c.apart f (asking_used es i k o w.pending c.used) c.counts
    counted (falls_ticking {es} {w} i m d f hi t e q) = let c = counted t in fall_count es w.house w.pending i c.apart f c.used c.counts

  module _ (fair : (a : sv.A) → sv.says a ≢ sv.busy) where
    -- what is told is no busy
    no_busy : (k : ℕ) (ts : List (Reply sv.A)) (acc : List (Out (Messages sv kp) R)) → (Memᴰ (Tell k sv.busy) acc → ⊥) → Memᴰ (Tell k sv.busy) (outs sv kp ts acc) → ⊥
    unfolding outs
    no_busy k [] acc f m = f m
    no_busy k (t ∷ ts) acc f m = no_busy k ts (Tell t.id (sv.says t.reply) ∷ acc) (λ n. elim (Memᴰ.cases_cons n) [ inl e ↦ fair t.reply (let z : sv.busy ≡ sv.says t.reply = cc in sym z) | inr l ↦ f l ]) m

    no_post : (k : ℕ) (r : R) (qs : List (Post (Messages sv kp))) → Memᴰ (Tell k r) (posted sv kp qs) → ⊥
    unfolding posted
    no_post k r [] m = Memᴰ.not-nil m
    no_post k r (q ∷ qs) m = elim (Memᴰ.cases_cons m) [ inl e ↦ let z : ◌≡◌ {A = ℕ} 0 1 = cc in absurd (omega arith) | inr n ↦ no_post k r qs n ]

    no_end : (k : ℕ) (w : Wholes sv kp) → Memᴰ (Tell k sv.busy) (finishes sv kp w).out → ⊥
    no_end k w = no_busy k w.turn.told (posted sv kp (posts sv kp w)) (no_post k sv.busy (posts sv kp w))

    busy_only : (ok : Guard sv kp) → PureBusy sv.busy (replicated sv kp ok)
    unfolding behaves acts
    busy_only ok all _ es w t i k m d x e = by_test (λ (z : Ended sv kp). Memᴰ (Tell k sv.busy) z.out → (o : O) × (x ≡ Ask k o) × (8 ≤ count_at i w.pending)) (ok x m d) (λ _. go x) (λ _ n. absurd (Memᴰ.not-nil n))
      where
        c : Counts w.pending i (on m d)
        c = counts_of w.pending i (w.house i) m d e ((counted ok all t).counts i)

        full : (l : ℕ) (o : O) → nat_le 8 (count m m.way) ≡ true → Memᴰ {A = Out (Messages sv kp) R} (Tell k sv.busy) (Tell l sv.busy ∷ []) → (p : O) × (◌≡◌ {A = In (Messages sv kp) O} (Ask l o) (Ask k p)) × (8 ≤ count_at i w.pending)
        full l o f y = elim (Memᴰ.cases_cons y) [
          | inl g ↦ (let z : k ≡ l = cc g in (o, ap {B = In (Messages sv kp) O} (λ (a : ℕ). Ask a o) (sym z), omega (arith, leb-true _ _ f, size_is m m.way, c)))
          | inr g ↦ absurd (Memᴰ.not-nil g)
        ]

        go : (x : In (Messages sv kp) O) → Memᴰ (Tell k sv.busy) (acts sv kp x m d).out → (o : O) × (x ≡ Ask k o) × (8 ≤ count_at i w.pending)
        go (Cluster.In.From r y) n = absurd (no_end k (got sv kp r y (begins sv kp m d)) n)
        go (Ask l o) n =
            by_test (λ (z : Ended sv kp). Memᴰ (Tell k sv.busy) z.out → (p : O) × (◌≡◌ {A = In (Messages sv kp) O} (Ask l o) (Ask k p)) × (8 ≤ count_at i w.pending)) (nat_le 8 (count m m.way)) (λ f y. full l o f y)
            (λ _ y. absurd (no_end k (House.on sv kp (λ z. forward (pack (queued l o z))) (begins sv kp m d)) y)) n
        go Tick n = absurd (no_end k (ticked sv kp (begins sv kp m d)) n)

pub busy : BusyOnly
busy O R sv kp ok laws = busy_only sv kp laws.unlike ok
