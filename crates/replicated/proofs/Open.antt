-- A call that is pending waits at its house, or is in the bundle under way.
use Rattle.std.specs.Prelude.{◌≡◌, ℕ, Bool, true, false, cond, not, ◌&&◌, List, [], ◌∷◌, nat_le, ◌==◌, eqb}
use Rattle.std.proofs.Common.{◌≢◌, ◌⊎◌, sym, refl, ap, ◌∙◌, subst, inl, inr, arith, eqb-true}
use mathlib.Core.List.Memᴰ
use mathlib.Core.List.{Memᴰ}
use native.Mathlib.Decide.{ℕ_discrete}
use borrow.Author.Tests.{eqb-false}
use Rattle.agreement.proofs.Base.{by_test, by_both}
use Rattle.disks.specs.Cluster.{In, Ask, Tick, Out, Tell, Seen, Asking, put, settled, away_from}
use Rattle.disks.specs.Cluster
use Rattle.compose.specs.Pure.{Stand, off, on, World, Trace, begin, rises, does, asked, ticks, falls, falls_rising, falls_doing, falls_asked, falls_ticking}
use Rattle.copies.specs.Service.{Service, Keeper}
use Rattle.copies.specs.Messages.{Item, Bundle, Reply, Session, Bundled, Done, Told, Asked, Given}
use Rattle.copies.specs.Copy.{Way, free, under, Memory, is_copy, is_free, is_nil, packed, pack, settle, settle_here, forward, goes_on, on_status, on_part, count, queued}
use Rattle.copies.specs.House.{Disks, Wholes, Messages, Ended, Guard, Turns, works, posts, posted, outs, disk_of, finishes, begins, got, ticked, acts, behaves, replicated}
use Rattle.copies.specs.House
use Rattle.replicated.proofs.Lists.{put_here, put_other, each}
use Rattle.replicated.proofs.Like.{Alike, Like, like_trans, like_forward, like_bundle, like_status, like_part, like_want, like_tick, like_works}
use Rattle.replicated.proofs.Fits.{Sound, OneEach, Fit, fit_status, fit_part, fit_tick, fit_works, MsgOk}
use Rattle.replicated.proofs.Numbered.{numbered, Ok}
use Rattle.replicated.proofs.Pending.{settled_in, away_in}
use Rattle.replicated.proofs.Runs.{settled_gone}

away_gone : (i : ℕ) (ps : List Asking) (a : Asking) → Memᴰ a (away_from i ps) → a.house ≢ i
unfolding away_from
away_gone i [] a m = absurd (Memᴰ.not-nil m)
away_gone i (b ∷ ps) a m = go (eqb i b.house) refl (away_gone i ps a) m
  where
    go : (t : Bool) → eqb i b.house ≡ t → (Memᴰ a (away_from i ps) → a.house ≢ i) → Memᴰ a (cond t (away_from i ps) (b ∷ away_from i ps)) → a.house ≢ i
    go true e f n = f n
    go false e f n = elim (Memᴰ.cases_cons n) [ inl z ↦ λ y. eqb-false _ _ e (sym y ∙ ap (λ (q : Asking). q.house) z) | inr z ↦ f z ]

-- a call of that number waits
abbrev pub Waiting : {O : Type 0} → ℕ → List (Item O) → Way O → Type 0
Waiting {O} k l y = ((b : Bundle O) × (y ≡ under b) × (x : Item O) × Memᴰ x b.calls × (x.id ≡ k)) ⊎ ((x : Item O) × Memᴰ x l × (x.id ≡ k))

-- if nothing is under way, nothing waits
abbrev pub Idle : {O : Type 0} → List (Item O) → Way O → Type 0
Idle l y = y ≡ free → l ≡ []

module _ {O R : Type 0} (sv : Service O R) (kp : Keeper sv) where
  abbrev Replied : ℕ → List (Reply sv.A) → Type 0
  Replied k ts = (q : Reply sv.A) × Memᴰ q ts × (q.id ≡ k)

  -- it waits, or is told now
  abbrev Kept : ℕ → List (Item O) → Way O → List (Reply sv.A) → Type 0
  Kept k l y ts = Waiting k l y ⊎ Replied k ts

  abbrev Safe : ℕ → Turns sv kp → Type 0
  Safe k t = Kept k t.memory.waiting t.memory.way t.told

  abbrev Idling : Turns sv kp → Type 0
  Idling t = Idle t.memory.waiting t.memory.way

  safe_like : {k : ℕ} {l l' : List (Item O)} {y y' : Way O} {ts ts' : List (Reply sv.A)} → Alike l l' y y' ts ts' → Kept k l y ts → Kept k l' y' ts'
  safe_like f (inl (inl z)) = inl (inl (z.0, f.way_is ∙ z.1, z.2, z.3, z.4))
  safe_like f (inl (inr z)) = inl (inr (z.0, subst (Memᴰ z.0) (sym f.wait_is) z.1, z.2))
  safe_like f (inr z) = inr (z.0, subst (Memᴰ z.0) (sym f.told_is) z.1, z.2)

  safe_pack : (k : ℕ) (t : Turns sv kp) → Safe k t → Safe k (pack t)
  unfolding pack
  safe_pack k t s = go t.memory.way refl
    where
      full : t.memory.way ≡ free → Safe k (packed t)
      full e = elim s [
        | inl y ↦ elim y [ inl z ↦ absurd (let q : under z.0 ≡ free = sym z.1 ∙ e in let j : ◌≡◌ {A = ℕ} 0 1 = cc in omega arith) | inr z ↦ inl (inl (_, refl, z.0, z.1, z.2)) ]
        | inr y ↦ inr y
      ]

      go : (w : Way O) → t.memory.way ≡ w → Safe k (cond (is_free w && not (is_nil t.memory.waiting)) (packed t) t)
      go free e = by_test (Safe k) (not (is_nil t.memory.waiting)) (λ _. full e) (λ _. s)
      go (under c) e = s

  idle_like : {l l' : List (Item O)} {y y' : Way O} {ts ts' : List (Reply sv.A)} → Alike l l' y y' ts ts' → Idle l y → Idle l' y'
  idle_like f p e = f.wait_is ∙ p (sym f.way_is ∙ e)

  idle_pack : (t : Turns sv kp) → Idling (pack t)
  unfolding pack
  idle_pack t = go t.memory.way t.memory.waiting refl refl
    where
      go : (w : Way O) (l : List (Item O)) → t.memory.way ≡ w → t.memory.waiting ≡ l → Idling (cond (is_free w && not (is_nil l)) (packed t) t)
      go free [] e f = λ _. f
      go free (x ∷ l) e f = λ g. absurd (let j : ◌≡◌ {A = ℕ} 0 1 = cc in omega arith)
      go (under c) l e f = λ g. absurd (let y : under c ≡ free = sym e ∙ g in let j : ◌≡◌ {A = ℕ} 0 1 = cc in omega arith)

  idle_goes : (t : Turns sv kp) → Idling (goes_on t)
  idle_goes t = idle_like (like_forward _) (idle_pack _)

  idle_got : (r : ℕ) (x : Messages sv kp) (w : Wholes sv kp) → Idling w.turn → Idling (got sv kp r x w).turn
  idle_got r (Bundled c) w p = idle_like (like_forward _) (idle_like (like_bundle c w.turn) p)
  idle_got r (Done s) w p = idle_like (like_forward _) (idle_pack _)
  idle_got r (Told x) w p = idle_goes _
  idle_got r (Asked q) w p = idle_like (like_want r q w.turn) p
  idle_got r (Given x) w p = idle_goes _

  module _ (made : List (Bundle O)) (one : OneEach made) (j i : ℕ) where
    -- each call of the bundle is answered
    replied : (t : Turns sv kp) → Fit made j i t → (s : Session sv.A) → Sound made j s → (b : Bundle O) → t.memory.way ≡ under b → b.incarnation ≡ s.incarnation → b.counter ≡ s.counter → (x : Item O) → Memᴰ x b.calls → Replied x.id s.replies
    replied t v s (inl z) b e p q x m = absurd (omega (arith, z, q, (v.recalls.way_is b e).2))
    replied t v s (inr f) b e p q x m =
        let w = v.recalls.way_is b e in
        let g : f.bundle ≡ b = one f.bundle b f.inside w.0 (f.house_is ∙ sym w.1) (f.incarnation_is ∙ sym p) (f.counter_is ∙ sym q) in
        f.answers x (subst (λ (z : Bundle O). Memᴰ x z.calls) (sym g) m)

    safe_settle : (k : ℕ) (t : Turns sv kp) → Fit made j i t → (s : Session sv.A) → Sound made j s → t.told ≡ [] → Safe k t → Safe k (settle s t.memory.way t)
    unfolding settle
    safe_settle k t v s h none sa = go t.memory.way refl
      where
        go : (u : Way O) → t.memory.way ≡ u → Safe k (settle s u t)
        go free e = sa
        go (under b) e =
            by_both (Safe k) (b.incarnation == s.incarnation) (b.counter == s.counter)
            (λ c d. elim sa [
              | inl w ↦ elim w [
                | inl z ↦ (let f : z.0 ≡ b = (let g : under z.0 ≡ under b = sym z.1 ∙ e in cc) in inr (subst (λ (n : ℕ). Replied n s.replies) z.4 (replied t v s h b e (eqb-true _ _ c) (eqb-true _ _ d) z.2 (subst (λ (y : Bundle O). Memᴰ z.2 y.calls) f z.3))))
                | inr z ↦ inl (inr z)
              ]
              | inr z ↦ absurd (Memᴰ.not-nil (subst (Memᴰ z.0) none z.1))
            ]) sa

    safe_on : (k : ℕ) (t : Turns sv kp) → Fit made j i t → t.told ≡ [] → Safe k t → Safe k (goes_on t)
    unfolding settle_here
    safe_on k t v none s =
        safe_like (like_forward _) (safe_pack k _ (by_test (Safe k) (is_copy t.memory.me)
        (λ _. safe_settle k t v (t.sessions t.memory.me) (subst (λ (h : ℕ). Sound made h (t.sessions t.memory.me)) v.recalls.me_is (v.sound t.memory.me)) none s) (λ _. s)))

    safe_got : (k r : ℕ) (x : Messages sv kp) (w : Wholes sv kp) → MsgOk sv kp made j x → Fit made j i w.turn → w.turn.told ≡ [] → Safe k w.turn → Safe k (got sv kp r x w).turn
    safe_got k r (Bundled b) w h v none s = safe_like (like_forward _) (safe_like (like_bundle b w.turn) s)
    safe_got k r (Done q) w h v none s = safe_like (like_forward _) (safe_pack k _ (safe_settle k w.turn v q h none s))
    safe_got k r (Told x) w h v none s =
        let f : Like w.turn (works sv kp (House.on sv kp (on_status r x) w)).turn = like_trans (like_status r x w.turn) (like_works sv kp (House.on sv kp (on_status r x) w)) in
        safe_on k _ (fit_works sv kp made j i _ (fit_status made j i r x w.turn h v)) (f.told_is ∙ none) (safe_like f s)
    safe_got k r (Asked q) w h v none s = safe_like (like_want r q w.turn) s
    safe_got k r (Given x) w h v none s =
        let f : Like w.turn (works sv kp (House.on sv kp (on_part r x) w)).turn = like_trans (like_part r x w.turn) (like_works sv kp (House.on sv kp (on_part r x) w)) in
        safe_on k _ (fit_works sv kp made j i _ (fit_part made j i r x w.turn h v)) (f.told_is ∙ none) (safe_like f s)

    safe_tick : (k : ℕ) (w : Wholes sv kp) → Fit made j i w.turn → w.turn.told ≡ [] → Safe k w.turn → Safe k (ticked sv kp w).turn
    safe_tick k w v none s = let f = like_tick w.turn in safe_on k _ (fit_tick made j i w.turn v) (f.told_is ∙ none) (safe_like f s)

  abbrev AtOpen : ℕ → Stand (Memory O) (Disks sv kp) → Type 0
  AtOpen k (off d) = ⊥
  AtOpen k (on m d) = Waiting k m.waiting m.way

  abbrev Well : Stand (Memory O) (Disks sv kp) → Type 0
  Well (off d) = Unit {0}
  Well (on m d) = Idle m.waiting m.way

  pub record Open (hs : ℕ → Stand (Memory O) (Disks sv kp)) (pend : List Asking) : Type 0 where
    pub waits : (a : Asking) → Memᴰ a pend → AtOpen a.id (hs a.house)
    pub well : (j : ℕ) → Well (hs j)

  outs_acc : (y : Out (Messages sv kp) R) (ts : List (Reply sv.A)) (acc : List (Out (Messages sv kp) R)) → Memᴰ y acc → Memᴰ y (outs sv kp ts acc)
  unfolding outs
  outs_acc y [] acc m = m
  outs_acc y (t ∷ ts) acc m = outs_acc y ts _ (Memᴰ.tail m)

  told_outs : (q : Reply sv.A) (ts : List (Reply sv.A)) (acc : List (Out (Messages sv kp) R)) → Memᴰ q ts → Memᴰ (Tell q.id (sv.says q.reply)) (outs sv kp ts acc)
  unfolding outs
  told_outs q [] acc m = absurd (Memᴰ.not-nil m)
  told_outs q (t ∷ ts) acc m = elim (Memᴰ.cases_cons m) [
    | inl e ↦ outs_acc _ ts _ (Memᴰ.head (ap (λ (z : Reply sv.A). Tell z.id (sv.says z.reply)) e))
    | inr n ↦ told_outs q ts _ n
  ]

  at_here : (k : ℕ) (i j : ℕ) (s : Stand (Memory O) (Disks sv kp)) (hs : ℕ → Stand (Memory O) (Disks sv kp)) → j ≡ i → AtOpen k s → AtOpen k (put i s hs j)
  at_here k i j s hs e w = subst (λ (n : ℕ). AtOpen k (put i s hs n)) (sym e) (subst (AtOpen k) (sym (put_here i s hs)) w)

  at_there : (k : ℕ) (i j : ℕ) (s : Stand (Memory O) (Disks sv kp)) (hs : ℕ → Stand (Memory O) (Disks sv kp)) → j ≢ i → AtOpen k (hs j) → AtOpen k (put i s hs j)
  at_there k i j s hs e w = subst (AtOpen k) (sym (put_other i s hs j e)) w

  lands_at : (hs : ℕ → Stand (Memory O) (Disks sv kp)) (pend : List Asking) (i : ℕ) (w : Wholes sv kp) → ((a : Asking) → Memᴰ a pend → a.house ≢ i → AtOpen a.id (hs a.house)) → ((a : Asking) → Memᴰ a pend → a.house ≡ i → Safe a.id w.turn) → ((j : ℕ) → Well (hs j)) → Idling w.turn →
      Open (put i (on (finishes sv kp w).mem (finishes sv kp w).stored) hs) (settled i (finishes sv kp w).out pend)
  lands_at hs pend i w f g h d =
      record {
        waits = λ a m. elim (ℕ_discrete a.house i) [
          | yes e ↦ elim (g a (settled_in i _ pend a m) e) [
            | inl y ↦ at_here a.id i a.house (on w.turn.memory (disk_of sv kp w)) hs e y
            | inr q ↦ absurd (settled_gone i q.0.id _ _ pend a (told_outs q.0 w.turn.told (posted sv kp (posts sv kp w)) q.1) e (sym q.2) m)
          ]
          | no n ↦ at_there a.id i a.house _ hs n (f a (settled_in i _ pend a m) n)
        ];
        well = each i (on w.turn.memory (disk_of sv kp w)) hs (λ j. Well) d (λ j _. h j);
      }

  falls_at : (hs : ℕ → Stand (Memory O) (Disks sv kp)) (pend : List Asking) (i : ℕ) (d : Disks sv kp) → Open hs pend → Open (put i (off d) hs) (away_from i pend)
  falls_at hs pend i d o = record { waits = λ a m. at_there a.id i a.house (off d) hs (away_gone i pend a m) (o.waits a (away_in i pend a m)); well = each i (off d) hs (λ j. Well) tt (λ j _. o.well j) }

  module _ (ok : Guard sv kp) (lets : (x : In (Messages sv kp) O) (m : Memory O) (d : Disks sv kp) → ok x m d ≡ true) (all : ℕ) where
    behaves_is : (x : In (Messages sv kp) O) (m : Memory O) (d : Disks sv kp) → behaves sv kp ok x m d ≡ acts sv kp x m d
    unfolding behaves
    behaves_is x m d = rw (lets x m d) refl

    abbrev Lands : (ℕ → Stand (Memory O) (Disks sv kp)) → List Asking → ℕ → Ended sv kp → Type 0
    Lands hs pend i z = Open (put i (on z.mem z.stored) hs) (settled i z.out pend)

    does_at : (hs : ℕ → Stand (Memory O) (Disks sv kp)) (pend : List Asking) (i : ℕ) (x : In (Messages sv kp) O) (m : Memory O) (d : Disks sv kp) → Lands hs pend i (acts sv kp x m d) → Lands hs pend i (behaves sv kp ok x m d)
    does_at hs pend i x m d o = subst (Lands hs pend i) (sym (behaves_is x m d)) o

    here_waits : (hs : ℕ → Stand (Memory O) (Disks sv kp)) (pend : List Asking) (i : ℕ) (m : Memory O) (d : Disks sv kp) → hs i ≡ on m d → Open hs pend → (a : Asking) → Memᴰ a pend → a.house ≡ i → Waiting a.id m.waiting m.way
    here_waits hs pend i m d e o a n f = subst (AtOpen a.id) (ap hs f ∙ e) (o.waits a n)

    here_well : (hs : ℕ → Stand (Memory O) (Disks sv kp)) (pend : List Asking) (i : ℕ) (m : Memory O) (d : Disks sv kp) → hs i ≡ on m d → Open hs pend → Idle m.waiting m.way
    here_well hs pend i m d e o = subst Well e (o.well i)

    asks_at : (hs : ℕ → Stand (Memory O) (Disks sv kp)) (pend : List Asking) (i k : ℕ) (o : O) (m : Memory O) (d : Disks sv kp) → hs i ≡ on m d → Open hs pend → Lands hs (record { house = i; id = k } ∷ pend) i (acts sv kp (Ask k o) m d)
    unfolding acts
    asks_at hs pend i k o m d e op =
        by_test (Lands hs (record { house = i; id = k } ∷ pend) i) (nat_le 8 (count m m.way))
        (λ _. record { waits = full; well = each i (on m d) hs (λ j. Well) (here_well hs pend i m d e op) (λ j _. op.well j) })
        (λ _. lands_at hs (record { house = i; id = k } ∷ pend) i (House.on sv kp (λ t. forward (pack (queued k o t))) (begins sv kp m d))
        (λ a n f. elim (Memᴰ.cases_cons n) [ inl z ↦ absurd (f (ap (λ (y : Asking). y.house) z)) | inr z ↦ op.waits a z ])
        (λ a n f. safe_like (like_forward _) (safe_pack a.id (queued k o (begins sv kp m d).turn) (new a n f)))
        op.well (idle_like (like_forward _) (idle_pack _)))
      where
        new : (a : Asking) → Memᴰ a (record { house = i; id = k } ∷ pend) → a.house ≡ i → Safe a.id (queued k o (begins sv kp m d).turn)
        new a n f = inl (elim (Memᴰ.cases_cons n) [
          | inl z ↦ inr (_, Memᴰ.append_right m.waiting (Memᴰ.head refl), ap (λ (y : Asking). y.id) (sym z))
          | inr z ↦ elim (here_waits hs pend i m d e op a z f) [ inl y ↦ inl y | inr y ↦ inr (y.0, Memᴰ.append_left _ y.1, y.2) ]
        ])

        full : (a : Asking) → Memᴰ a (settled {M = Messages sv kp} i (Tell k sv.busy ∷ []) (record { house = i; id = k } ∷ pend)) → AtOpen a.id (put i (on m d) hs a.house)
        full a n = elim (Memᴰ.cases_cons (settled_in {M = Messages sv kp} i (Tell k sv.busy ∷ []) _ a n)) [
          | inl z ↦ absurd (settled_gone {M = Messages sv kp} i k sv.busy (Tell k sv.busy ∷ []) _ a (Memᴰ.head refl) (ap (λ (y : Asking). y.house) z) (ap (λ (y : Asking). y.id) z) n)
          | inr z ↦ elim (ℕ_discrete a.house i) [ yes f ↦ at_here a.id i a.house (on m d) hs f (here_waits hs pend i m d e op a z f) | no f ↦ at_there a.id i a.house (on m d) hs f (op.waits a z) ]
        ]

    abbrev Worlds : Type 0
    Worlds = World (Memory O) (Disks sv kp) (Messages sv kp)

    fit_of : {es : List (Seen O R)} {w : Worlds} (t : Trace (replicated sv kp ok) all es w) (i : ℕ) (m : Memory O) (d : Disks sv kp) → w.house i ≡ on m d → Fit (numbered sv kp ok all t).made i d.incarnation (begins sv kp m d).turn
    fit_of t i m d e = subst (Ok sv kp (numbered sv kp ok all t).made i) e ((numbered sv kp ok all t).house i)

    pub opened : {es : List (Seen O R)} {w : Worlds} → Trace (replicated sv kp ok) all es w → Open w.house w.pending
    unfolding acts
    opened begin = record { waits = λ a m. absurd (Memᴰ.not-nil m); well = λ j. tt }
    opened (rises {es} {w} i d hi t e) = let o = opened t in
        record {
          waits = λ a m. elim (ℕ_discrete a.house i) [ yes f ↦ absurd (subst (AtOpen a.id) (ap w.house f ∙ e) (o.waits a m)) | no f ↦ at_there a.id i a.house _ w.house f (o.waits a m) ];
          well = each i _ w.house (λ j. Well) (λ _. refl) (λ j _. o.well j);
        }
    opened (does {es} {w} i m d p hi t e n to) = let o = opened t in let v = numbered sv kp ok all t in let g = here_well w.house w.pending i m d e o in
        does_at w.house w.pending i (Cluster.In.From p.from p.what) m d
        (lands_at w.house w.pending i (got sv kp p.from p.what (begins sv kp m d)) (λ a k _. o.waits a k)
        (λ a k f. safe_got v.made v.one i d.incarnation a.id p.from p.what (begins sv kp m d) (subst (λ (j : ℕ). MsgOk sv kp v.made j p.what) to (v.wire p n)) (fit_of t i m d e) refl (inl (here_waits w.house w.pending i m d e o a k f)))
        o.well (idle_got p.from p.what (begins sv kp m d) g))
    opened (asked {es} {w} i k o m d hi t e u) = does_at w.house (record { house = i; id = k } ∷ w.pending) i (Ask k o) m d (asks_at w.house w.pending i k o m d e (opened t))
    opened (ticks {es} {w} i m d hi t e) = let o = opened t in let v = numbered sv kp ok all t in
        does_at w.house w.pending i Tick m d
        (lands_at w.house w.pending i (ticked sv kp (begins sv kp m d)) (λ a k _. o.waits a k) (λ a k f. safe_tick v.made v.one i d.incarnation a.id (begins sv kp m d) (fit_of t i m d e) refl (inl (here_waits w.house w.pending i m d e o a k f)))
        o.well (idle_goes _))
    opened (falls {es} {w} i m d hi t e) = falls_at w.house w.pending i d (opened t)
    opened (falls_rising {es} {w} i d f hi t e q) = falls_at w.house w.pending i f (opened t)
    opened (falls_doing {es} {w} i m d f p hi t e n to q) = falls_at w.house w.pending i f (opened t)
    opened (falls_asked {es} {w} i k o m d f hi t e u q) = falls_at w.house w.pending i f (opened t)
    opened (falls_ticking {es} {w} i m d f hi t e q) = falls_at w.house w.pending i f (opened t)

    -- nothing is pending where nothing waits
    pub none_off : {es : List (Seen O R)} {w : Worlds} → Trace (replicated sv kp ok) all es w → (i : ℕ) (d : Disks sv kp) → w.house i ≡ off d → (a : Asking) → Memᴰ a w.pending → a.house ≢ i
    none_off {es} {w} t i d e a m f = subst (AtOpen a.id) (ap w.house f ∙ e) ((opened t).waits a m)

    pub none_free : {es : List (Seen O R)} {w : Worlds} → Trace (replicated sv kp ok) all es w → (i : ℕ) (m : Memory O) (d : Disks sv kp) → w.house i ≡ on m d → m.way ≡ free → (a : Asking) → Memᴰ a w.pending → a.house ≢ i
    none_free {es} {w} t i m d e q a n f = elim (here_waits w.house w.pending i m d e (opened t) a n f) [
      | inl z ↦ let y : under z.0 ≡ free = sym z.1 ∙ q in let j : ◌≡◌ {A = ℕ} 0 1 = cc in omega arith
      | inr z ↦ Memᴰ.not-nil (subst (Memᴰ z.0) (here_well w.house w.pending i m d e (opened t) q) z.1)
    ]
