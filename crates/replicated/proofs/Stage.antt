-- The bundle under way and the calls that wait, as events pass.
use Rattle.std.specs.Prelude.{◌≡◌, ℕ, suc, Bool, true, false, cond, ◌&&◌, not, List, [], ◌∷◌}
use Rattle.std.proofs.Common.{◌<◌, eqb, ◌≢◌, ◌⊎◌, sym, refl, ap, ◌∙◌, subst, inl, inr, arith}
use mathlib.Core.List.{Memᴰ}
use Rattle.std.proofs.lemmas.Bool.Decides.{nat_tests as tests}
use Rattle.agreement.proofs.Base.{by_test}
use Rattle.disks.specs.Cluster.{From, Tick}
use Rattle.copies.specs.Service.{Service, Keeper}
use Rattle.copies.specs.Messages.{Item, Bundle, Reply, Session, Bundled, Done, Told, Asked, Given}
use Rattle.copies.specs.Copy.{Way, free, under, Memory, Turn, is_free, is_nil, is_copy, is_new, remembered, with_memory, packed, pack, freed, settle, settle_here, is_open, forward, on_bundle, on_status, on_part, goes_on}
use Rattle.copies.specs.House.{Disks, Wholes, Messages, Ended, Guard, begins, got, ticked, acts, behaves, on as on_turn}
use Rattle.replicated.proofs.Like.{Alike, like_forward, like_bundle, like_status, like_part, like_want, like_tick, like_works}
use Rattle.replicated.proofs.Turns.{keeps_forward}

module _ {O : Type 0} (b : Bundle O) (ws : List (Item O)) where
  -- b is under way yet and ws wait, or what waited was sent, if anything
  abbrev pub Stage : Memory O → Type 0
  Stage m = ((m.way ≡ under b) × (m.waiting ≡ ws)) ⊎ ((m.waiting ≡ []) × (ws ≡ [] → m.way ≡ free))

  stage_like : {A : Type 0} {l l' : List (Item O)} {y y' : Way O} {ts ts' : List (Reply A)} → Alike l l' y y' ts ts' → ((y ≡ under b) × (l ≡ ws)) ⊎ ((l ≡ []) × (ws ≡ [] → y ≡ free)) → ((y' ≡ under b) × (l' ≡ ws)) ⊎ ((l' ≡ []) × (ws ≡ [] → y' ≡ free))
  stage_like f (inl e) = inl (f.way_is ∙ e.0, f.wait_is ∙ e.1)
  stage_like f (inr e) = inr (f.wait_is ∙ e.0, λ z. f.way_is ∙ e.1 z)

  abbrev Free : Memory O → Type 0
  Free m = Stage m ⊎ ((m.way ≡ free) × (m.waiting ≡ ws))

module _ {X B O A : Type 0} where
  pub settle_same : (b : Bundle O) (s : Session A) (t : Turn X B O A) → b.incarnation ≡ s.incarnation → b.counter ≡ s.counter → settle s (under b) t ≡ freed s t
  unfolding settle
  settle_same b s t p q = grind (arith, tests)

  pack_none : (t : Turn X B O A) → t.memory.waiting ≡ [] → pack t ≡ t
  unfolding pack
  pack_none t e = go t.memory.way t.memory.waiting e
    where
      go : (w : Way O) (l : List (Item O)) → l ≡ [] → cond (is_free w && not (is_nil l)) (packed t) t ≡ t
      go free [] e = refl
      go free (x ∷ l) e = absurd (let q : ◌≡◌ {A = ℕ} 0 1 = cc in omega arith)
      go (under c) l e = refl

  pack_some : (t : Turn X B O A) (x : Item O) (l : List (Item O)) → t.memory.way ≡ free → t.memory.waiting ≡ x ∷ l → pack t ≡ packed t
  unfolding pack
  pack_some t x l e f = go t.memory.way t.memory.waiting e f
    where
      go : (w : Way O) (k : List (Item O)) → w ≡ free → k ≡ x ∷ l → cond (is_free w && not (is_nil k)) (packed t) t ≡ packed t
      go free [] e f = absurd (let q : ◌≡◌ {A = ℕ} 0 1 = cc in omega arith)
      go free (y ∷ k) e f = refl
      go (under c) k e f = absurd (let q : ◌≡◌ {A = ℕ} 0 1 = cc in omega arith)

  module _ (b : Bundle O) (ws : List (Item O)) where
    stage_settle : (s : Session A) (t : Turn X B O A) → Stage b ws t.memory → Free b ws (settle s t.memory.way t).memory
    unfolding settle
    stage_settle s t g = go t.memory.way refl
      where
        go : (w : Way O) → t.memory.way ≡ w → Free b ws (settle s w t).memory
        go free e = inl g
        go (under c) e = by_test (λ (z : Turn X B O A). Free b ws z.memory) (eqb c.incarnation s.incarnation && eqb c.counter s.counter) (λ _. elim g [ inl z ↦ inr (refl, z.1) | inr z ↦ inl (inr (z.0, λ _. refl)) ]) (λ _. inl g)

    stage_pack : (t : Turn X B O A) → Free b ws t.memory → Stage b ws (pack t).memory
    unfolding pack
    stage_pack t g = go t.memory.way t.memory.waiting refl refl g
      where
        go : (w : Way O) (l : List (Item O)) → t.memory.way ≡ w → t.memory.waiting ≡ l → Free b ws t.memory → Stage b ws (cond (is_free w && not (is_nil l)) (packed t) t).memory
        go free [] e f (inl z) = z
        go free [] e f (inr z) = inr (f, λ _. e)
        go free (x ∷ l) e f (inl (inl z)) = absurd (let y : under b ≡ free = sym z.0 ∙ e in let q : ◌≡◌ {A = ℕ} 0 1 = cc in omega arith)
        go free (x ∷ l) e f (inl (inr z)) = absurd (let y : ◌≡◌ {A = List (Item O)} (x ∷ l) [] = sym f ∙ z.0 in let q : ◌≡◌ {A = ℕ} 0 1 = cc in omega arith)
        go free (x ∷ l) e f (inr z) = inr (refl, λ n. absurd (let y : ◌≡◌ {A = List (Item O)} (x ∷ l) [] = sym f ∙ z.1 ∙ n in let q : ◌≡◌ {A = ℕ} 0 1 = cc in omega arith))
        go (under c) l e f (inl z) = z
        go (under c) l e f (inr z) = absurd (let y : under c ≡ free = sym e ∙ z.0 in let q : ◌≡◌ {A = ℕ} 0 1 = cc in omega arith)

    stage_here : (t : Turn X B O A) → Stage b ws t.memory → Free b ws (settle_here t).memory
    unfolding settle_here
    stage_here t g = by_test (λ (z : Turn X B O A). Free b ws z.memory) (is_copy t.memory.me) (λ _. stage_settle _ t g) (λ _. inl g)

    stage_goes : (t : Turn X B O A) → Stage b ws t.memory → Stage b ws (goes_on t).memory
    stage_goes t g = stage_like b ws (like_forward (pack (settle_here t))) (stage_pack (settle_here t) (stage_here t g))

  -- a bundle is heard by a copy
  pub record Bundles (b : Bundle O) (t u : Turn X B O A) : Type 0 where
    pub still : t.memory.lead ≢ suc t.agreeing.promised → u.agreeing ≡ t.agreeing
    pub lead_is : u.memory.lead ≡ t.memory.lead
    pub sessions_is : u.sessions ≡ t.sessions
    pub has : Memᴰ b u.memory.heard ⊎ (is_new b u.sessions ≡ false)
    pub replies : is_new b t.sessions ≡ false → Memᴰ b.house u.sends.replies

  new_heard : (b : Bundle O) (t : Turn X B O A) → t.memory.me < 3 → is_new b t.sessions ≡ true → on_bundle b t ≡ with_memory (remembered b t.memory) t
  unfolding on_bundle
  new_heard b t l e = rw e (grind (arith, tests))

  old_heard : (b : Bundle O) (t : Turn X B O A) → t.memory.me < 3 → is_new b t.sessions ≡ false → on_bundle b t ≡ record t { sends = record t.sends { replies = b.house ∷ t.sends.replies } }
  unfolding on_bundle
  old_heard b t l e = rw e (grind (arith, tests))

  heard_same : (t : Turn X B O A) → (forward t).memory.heard ≡ t.memory.heard
  unfolding forward
  heard_same t = by_test (λ (z : Turn X B O A). z.memory.heard ≡ t.memory.heard) (is_open t) (λ _. refl) (λ _. refl)

  pub hears_bundle : (b : Bundle O) (t : Turn X B O A) → t.memory.me < 3 → Bundles b t (forward (on_bundle b t))
  hears_bundle b t l = go (is_new b t.sessions) refl
    where
      go : (n : Bool) → is_new b t.sessions ≡ n → Bundles b t (forward (on_bundle b t))
      go true e =
          subst (λ (z : Turn X B O A). Bundles b t (forward z)) (sym (new_heard b t l e))
          (let k = keeps_forward (with_memory (remembered b t.memory) t) in record { still = k.still; lead_is = k.lead_is; sessions_is = k.sessions_is; has = inl (subst (Memᴰ b) (sym (heard_same (with_memory (remembered b t.memory) t))) (Memᴰ.head refl)); replies = λ f. absurd (let z : ◌≡◌ {A = Bool} true false = sym e ∙ f in let q : ◌≡◌ {A = ℕ} 0 1 = cc in omega arith) })
      go false e =
          subst (λ (z : Turn X B O A). Bundles b t (forward z)) (sym (old_heard b t l e))
          (let k = keeps_forward (record t { sends = record t.sends { replies = b.house ∷ t.sends.replies } }) in record { still = k.still; lead_is = k.lead_is; sessions_is = k.sessions_is; has = inr (ap (is_new b) k.sessions_is ∙ e); replies = λ _. subst (Memᴰ b.house) (sym k.replies_is) (Memᴰ.head refl) })

module _ {O R : Type 0} (sv : Service O R) (kp : Keeper sv) where
  module _ (b : Bundle O) (ws : List (Item O)) where
    abbrev St : Wholes sv kp → Type 0
    St w = Stage b ws w.turn.memory

    stage_got : (r : ℕ) (x : Messages sv kp) (w : Wholes sv kp) → St w → St (got sv kp r x w)
    stage_got r (Bundled c) w g = stage_like b ws (like_forward _) (stage_like b ws (like_bundle c w.turn) g)
    stage_got r (Done s) w g = stage_like b ws (like_forward _) (stage_pack b ws _ (stage_settle b ws s w.turn g))
    stage_got r (Told x) w g = stage_goes b ws _ (stage_like b ws (like_works sv kp (on_turn sv kp (on_status r x) w)) (stage_like b ws (like_status r x w.turn) g))
    stage_got r (Asked q) w g = stage_like b ws (like_want r q w.turn) g
    stage_got r (Given x) w g = stage_goes b ws _ (stage_like b ws (like_works sv kp (on_turn sv kp (on_part r x) w)) (stage_like b ws (like_part r x w.turn) g))

    stage_tick : (w : Wholes sv kp) → St w → St (ticked sv kp w)
    stage_tick w g = stage_goes b ws _ (stage_like b ws (like_tick w.turn) g)

    abbrev pub Stages : Memory O → Type 0
    Stages m = Stage b ws m

    module _ (ok : Guard sv kp) where
      pub stage_does : (r : ℕ) (x : Messages sv kp) (m : Memory O) (d : Disks sv kp) → Stages m → Stages (behaves sv kp ok (From r x) m d).mem
      unfolding behaves acts
      stage_does r x m d g = by_test (λ (z : Ended sv kp). Stages z.mem) (ok (From r x) m d) (λ _. stage_got r x (begins sv kp m d) g) (λ _. g)

      pub stage_ticks : (m : Memory O) (d : Disks sv kp) → Stages m → Stages (behaves sv kp ok Tick m d).mem
      unfolding behaves acts
      stage_ticks m d g = by_test (λ (z : Ended sv kp). Stages z.mem) (ok Tick m d) (λ _. stage_tick (begins sv kp m d) g) (λ _. g)

    -- the bundle's replies come
    pub stage_done : (s : Session sv.A) (w : Wholes sv kp) (r : ℕ) → w.turn.memory.way ≡ under b → w.turn.memory.waiting ≡ ws → b.incarnation ≡ s.incarnation → b.counter ≡ s.counter → ((got sv kp r (Done s) w).turn.memory.waiting ≡ []) × (ws ≡ [] → (got sv kp r (Done s) w).turn.memory.way ≡ free)
    stage_done s w r e f p q =
        let h = like_forward (pack (settle s w.turn.memory.way w.turn)) in
        let g = subst (λ (z : Turn sv.Rest sv.Block O sv.A). After (pack z)) (sym (settled_is w.turn.memory.way e)) (packs w.turn.memory.waiting refl) in
        (h.wait_is ∙ g.0, λ z. h.way_is ∙ g.1 (f ∙ z))
      where
        After : Turn sv.Rest sv.Block O sv.A → Type 0
        After u = (u.memory.waiting ≡ []) × (w.turn.memory.waiting ≡ [] → u.memory.way ≡ free)

        settled_is : (v : Way O) → v ≡ under b → settle s v w.turn ≡ freed s w.turn
        settled_is v f = ap (λ (y : Way O). settle s y w.turn) f ∙ settle_same b s w.turn p q

        packs : (l : List (Item O)) → w.turn.memory.waiting ≡ l → After (pack (freed s w.turn))
        packs [] f = subst After (sym (pack_none (freed s w.turn) f)) (f, λ _. refl)
        packs (x ∷ l) f = subst After (sym (pack_some (freed s w.turn) x l refl f)) (refl, λ z. absurd (let y : ◌≡◌ {A = List (Item O)} (x ∷ l) [] = sym f ∙ z in let q : ◌≡◌ {A = ℕ} 0 1 = cc in omega arith))
