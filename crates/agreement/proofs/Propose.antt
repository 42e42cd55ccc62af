-- A ballot's owner proposes, with another that has promised the ballot: of the two votes the higher one's or one of its choice.
use Rattle.std.proofs.Common.{◌≡◌, ℕ, suc, ◌%◌, ◌<◌, ◌≤◌, ◌≢◌, ◌⊎◌, sym, refl, ap, ◌∙◌, subst, subst₂, inl, inr, arith}
use native.Mathlib.Decide.{ℕ_discrete}
use Rattle.agreement.specs.Copies.{Proposal, nothing, voted, Copy, World, put, rank, proposed}
use Rattle.agreement.proofs.Base.{Snap, Prop, Chosen, snap_new, snap_grows, prop_grows, prop_back}
use Rattle.agreement.proofs.Inv.{Inv, Beyond, AllBeyond, Second, Kept, Own, Hold, Uniq, Past, Two, Firm}
use Rattle.agreement.proofs.Calm.{left_behind}
use Rattle.agreement.proofs.Grow.{cur', low_prom', low_ver', own', hold', held', early', kept_grows, past_grows, second_grows, chosen_was, same_echo, tail_echo}

-- of what was proposed for place s under b or higher, there's command k
pub record Since {K : Type 0} (w : World K) (b s : ℕ) (k : K) : Type 0 where
  pub ballot : ℕ
  pub over : b ≤ ballot
  pub prop : Prop w ballot s k

-- a vote's ballot is promised
pub rank_low : {K : Type 0} (w : World K) → Inv w → (r : ℕ) (x : Copy K) → Snap w r x → rank x.proposal ≤ suc x.promised
rank_low {K} w v r x h = go x.proposal refl
  where
    go : (u : Proposal K) → x.proposal ≡ u → rank u ≤ suc x.promised
    go nothing e = omega arith
    go (voted b k) e = omega (arith, v.own r x b k h e)

module _ {K : Type 0} (w : World K) (v : Inv w) (i : ℕ) (hi : i < 3) (p : ℕ) (up : (w.copy i).promised ≤ p) (r : ℕ) (x : Copy K) (k : K) (here : Snap w r x) (ne : r ≢ i) (mine : p % 3 ≡ i) (promised : x.promised ≡ p) (behind : x.version ≤ (w.copy i).version)
    (open_yet : rank (w.copy i).proposal ≢ suc p) (follows : (b : ℕ) → (b < rank (w.copy i).proposal) ⊎ ((x.version ≡ (w.copy i).version) × (b < rank x.proposal)) → Since w b (w.copy i).version k) where
  abbrev c : Copy K
  c = proposed p k (w.copy i)

  up_ver : (w.copy i).version ≤ c.version
  up_ver = omega arith

  low_at : (m : ℕ) (y : Copy K) → Snap w m y → m ≡ i → (y.promised ≤ (w.copy i).promised) × (y.version ≤ (w.copy i).version)
  low_at m y h e = subst (λ (n : ℕ). (y.promised ≤ (w.copy n).promised) × (y.version ≤ (w.copy n).version)) e (v.low_prom m y h, v.low_ver m y h)

  absent : (k' : K) → Prop w p (w.copy i).version k' → ⊥
  absent k' q = omega (arith, v.hold p _ k' i q mine refl, rank_low w v i (w.copy i) (v.cur i hi))

  prop_new : (b s : ℕ) (k₁ : K) → Prop (put w i c) b s k₁ → Prop w b s k₁ ⊎ ((p ≡ b) × ((w.copy i).version ≡ s) × (k ≡ k₁))
  prop_new b s k₁ h = elim (prop_back w i c h) [ inl q ↦ inl q | inr e ↦ inr (cc e.0, e.1, cc e.0) ]

  -- an older vote of one of the two is followed
  covered : (b : ℕ) (k₁ : K) → Prop w b (w.copy i).version k₁ → b < p → (b % 3 ≡ i) ⊎ (b % 3 ≡ r) → Since w b (w.copy i).version k
  covered b k₁ q l (inl e) = follows b (inl (v.hold b _ k₁ i q e refl))
  covered b k₁ q l (inr e) = go (ℕ_discrete x.version (w.copy i).version)
    where
      go : Dec (x.version ≡ (w.copy i).version) → Since w b (w.copy i).version k
      go (yes level) = follows b (inr (level, v.held r x b _ k₁ here q e level (omega arith)))
      go (no n) = absurd (omega (arith, v.early r x b _ k₁ here q e (omega arith)))

  own_pro : Own (put w i c)
  own_pro = own' w v i hi c up up_ver (λ b k e. let t : p ≡ b = cc in (rw (sym t) mine, omega arith))

  hold_pro : Hold (put w i c)
  hold_pro = hold' w v i hi c up up_ver own_pro (λ b s k₁ h f _. elim (prop_new b s k₁ h) [
    | inl q ↦
        let o = v.own q.who q.at b k₁ q.snap q.votes in
        let t : q.at.promised ≤ (w.copy i).promised = (low_at q.who q.at q.snap (sym o.0 ∙ f)).0 in
        omega arith
    | inr e ↦ omega (arith, e.0)
  ])

  was : (b s : ℕ) (k : K) → Chosen (put w i c) b s k → Chosen w b s k
  was = chosen_was w v i c i (w.copy i) (v.cur i hi) refl refl refl

  uniq_pro : Uniq (put w i c)
  uniq_pro b s k₁ k₂ g h = go (prop_new b s k₁ g) (prop_new b s k₂ h)
    where
      go : Prop w b s k₁ ⊎ ((p ≡ b) × ((w.copy i).version ≡ s) × (k ≡ k₁)) → Prop w b s k₂ ⊎ ((p ≡ b) × ((w.copy i).version ≡ s) × (k ≡ k₂)) → k₁ ≡ k₂
      go (inl g₀) (inl h₀) = v.uniq b s k₁ k₂ g₀ h₀
      go (inl g₀) (inr e) = absurd (absent k₁ (rw (e.0, e.1) g₀))
      go (inr e) (inl h₀) = absurd (absent k₂ (rw (e.0, e.1) h₀))
      go (inr e) (inr f) = cc (e.2, f.2)

  -- a higher ballot has been proposed: two have promised it, and the owner of p hasn't
  past_above : (b : ℕ) (k₁ : K) (f : ℕ) → Prop w b (w.copy i).version k₁ → p < b → f < 3 → f ≢ i → Beyond (put w i c) f p (w.copy i).version
  past_above b k₁ f q l hf nf = go (ℕ_discrete f q.who)
    where
      o : (b % 3 ≡ q.who) × (b ≤ q.at.promised)
      o = v.own q.who q.at b k₁ q.snap q.votes

      t : Second w b
      t = v.two b _ k₁ q

      not_me : (m : ℕ) (y : Copy K) → Snap w m y → b ≤ y.promised → m ≢ i
      not_me m y h g e = omega (arith, low_at m y h e)

      go : Dec (f ≡ q.who) → Beyond (put w i c) f p (w.copy i).version
      go (yes e) = record { at = q.at; snap = snap_grows w i c (rw e q.snap); over = inl (omega (arith, o.1)) }
      go (no n) =
          let e : f ≡ t.who = omega (arith, t.other, t.snap.small, q.snap.small, o.0, not_me q.who q.at q.snap o.1, not_me t.who t.at t.snap t.over) in
          record { at = t.at; snap = snap_grows w i c (rw e t.snap); over = inl (omega (arith, t.over)) }

  -- an older proposal of another command: the two have promised p since; or one of the two voted for it and later for what is proposed now
  past_below : (b : ℕ) (k₁ : K) → Prop w b (w.copy i).version k₁ → b < p → (k₁ ≡ k) ⊎ AllBeyond (put w i c) b (w.copy i).version
  past_below b k₁ q l = go (ℕ_discrete (b % 3) i) (ℕ_discrete (b % 3) r)
    where
      by : Since w b (w.copy i).version k → (k₁ ≡ k) ⊎ AllBeyond (put w i c) b (w.copy i).version
      by u = again (ℕ_discrete b u.ballot)
        where
          again : Dec (b ≡ u.ballot) → (k₁ ≡ k) ⊎ AllBeyond (put w i c) b (w.copy i).version
          again (yes e) = inl (v.uniq b _ k₁ k q (subst (λ (z : ℕ). Prop w z (w.copy i).version k) (sym e) u.prop))
          again (no d) = past_grows w i c (v.past b u.ballot _ k₁ k q u.prop (omega (arith, u.over)))

      other : b % 3 ≢ i → b % 3 ≢ r → (f : ℕ) → f < 3 → f ≢ b % 3 → Dec (f ≡ i) → Beyond (put w i c) f b (w.copy i).version
      other ni nr f hf nf (yes e) = record { at = c; snap = rw e (snap_new w i c hi); over = inl l }
      other ni nr f hf nf (no m) = let e : f ≡ r = omega (arith, here.small) in record { at = x; snap = snap_grows w i c (rw e here); over = inl (omega arith) }

      go : Dec (b % 3 ≡ i) → Dec (b % 3 ≡ r) → (k₁ ≡ k) ⊎ AllBeyond (put w i c) b (w.copy i).version
      go (yes e) d = by (covered b k₁ q l (inl e))
      go (no ni) (yes e) = by (covered b k₁ q l (inr e))
      go (no ni) (no nr) = inr (λ f hf nf. other ni nr f hf nf (ℕ_discrete f i))

  past_pro : Past (put w i c)
  past_pro b b' s k₁ k₂ g h l = go (prop_new b s k₁ g) (prop_new b' s k₂ h)
    where
      go : Prop w b s k₁ ⊎ ((p ≡ b) × ((w.copy i).version ≡ s) × (k ≡ k₁)) → Prop w b' s k₂ ⊎ ((p ≡ b') × ((w.copy i).version ≡ s) × (k ≡ k₂)) → (k₁ ≡ k₂) ⊎ AllBeyond (put w i c) b s
      go (inl g₀) (inl h₀) = past_grows w i c (v.past b b' s k₁ k₂ g₀ h₀ l)
      go (inl g₀) (inr e) = subst₂ (λ (z : ℕ) (y : K). (k₁ ≡ y) ⊎ AllBeyond (put w i c) b z) e.1 e.2 (past_below b k₁ (rw e.1 g₀) (omega (arith, e.0)))
      go (inr e) (inl h₀) = inr (λ f hf nf. subst₂ (λ (y z : ℕ). Beyond (put w i c) f y z) e.0 e.1 (past_above b' k₂ f (rw e.1 h₀) (omega (arith, e.0)) hf (λ m. nf (m ∙ sym mine ∙ ap (λ (z : ℕ). z % 3) e.0))))
      go (inr e) (inr m) = absurd (omega (arith, e.0, m.0))

  two_pro : Two (put w i c)
  two_pro b s k₁ h = elim (prop_new b s k₁ h) [
    | inl q ↦ second_grows w i c (v.two b s k₁ q)
    | inr e ↦ record { who = r; at = x; snap = snap_grows w i c here; other = omega (arith, ap (λ (n : ℕ). n % 3) e.0); over = omega (arith, e.0) }
  ]

  -- what is chosen for this place under a lower ballot is what is proposed now: of the two that stand for it one is here
  firm_here : (b : ℕ) (k₁ : K) → Chosen w b (w.copy i).version k₁ → b ≤ p → k₁ ≡ k
  firm_here b k₁ h l = v.firm b u.ballot _ k₁ k h u.prop u.over
    where
      t : Kept w b (w.copy i).version
      t = v.keeps b _ k₁ h

      q : Prop w b (w.copy i).version k₁
      q = v.made b _ k₁ h

      not_p : b ≢ p
      not_p e = absent k₁ (rw (sym e) q)

      not_i : t.who ≢ i
      not_i e = omega (arith, t.ahead, low_at t.who t.at t.snap e)

      not_r : t.who ≢ r
      not_r e = let m : x.promised ≤ b = t.before x (rw e here) (omega arith) in omega (arith, not_p)

      which : Dec (b % 3 ≡ i) → (b % 3 ≡ i) ⊎ (b % 3 ≡ r)
      which (yes e) = inl e
      which (no n) = inr (omega (arith, t.other, t.snap.small, here.small, not_i, not_r))

      u : Since w b (w.copy i).version k
      u = covered b k₁ q (omega (arith, not_p)) (which (ℕ_discrete (b % 3) i))

  firm_pro : Firm (put w i c)
  firm_pro b b' s k₁ k₂ g h l = go (was b s k₁ g) (prop_new b' s k₂ h)
    where
      go : Chosen w b s k₁ → Prop w b' s k₂ ⊎ ((p ≡ b') × ((w.copy i).version ≡ s) × (k ≡ k₂)) → k₁ ≡ k₂
      go g₀ (inl h₀) = v.firm b b' s k₁ k₂ g₀ h₀ l
      go g₀ (inr e) = firm_here b k₁ (rw e.1 g₀) (omega (arith, e.0)) ∙ e.2

  pub propose : Inv (put w i c)
  propose =
      record {
        cur = cur' w v i hi c up up_ver;
        low_prom = low_prom' w v i hi c up up_ver;
        low_ver = low_ver' w v i hi c up up_ver;
        own = own_pro;
        uniq = uniq_pro;
        hold = hold_pro;
        held = held' w v i hi c up up_ver own_pro hold_pro (λ b k e. inr (let t : p ≡ b = cc in omega arith));
        early = early' w v i hi c up up_ver own_pro (λ b s k q f. left_behind w v i s b k q f) (λ b k e. inr (let t : p ≡ b = cc in omega arith));
        past = past_pro;
        two = two_pro;
        made = λ b s k h. prop_grows w i c (v.made b s k (was b s k h));
        firm = firm_pro;
        keeps = λ b s k h. kept_grows w v i hi c up up_ver (v.keeps b s k (was b s k h));
        same = same_echo w v i c i (w.copy i) (v.cur i hi) refl refl refl;
        tail = tail_echo w v i c i (w.copy i) (v.cur i hi) refl refl refl;
      }
