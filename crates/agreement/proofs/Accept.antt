-- A copy that follows applies what the ballot's owner proposed, and thereby decides.
use Rattle.std.proofs.Common.{◌≡◌, ℕ, suc, ◌%◌, ◌<◌, ◌≤◌, ◌≢◌, ◌⊎◌, ◌∷◌, sym, refl, ap, ◌∙◌, inl, inr, le_trans, arith}
use native.Mathlib.Decide.{ℕ_discrete, dec_le}
use Rattle.agreement.specs.Copies.{voted, Copy, World, put, applied}
use Rattle.agreement.proofs.Base.{Snap, Prop, Chosen, snap_new, snap_grows, snap_back, prop_grows, chosen_back}
use Rattle.agreement.proofs.Inv.{Inv, Beyond, AllBeyond, Below, Own, Hold, Made, Firm, Keeps, Same, Tail}
use Rattle.agreement.proofs.Grow.{all, cur', low_prom', low_ver', own', hold', held', early', kept_grows, below_grows, prop_was, uniq_quiet, past_quiet, two_quiet}
use Rattle.agreement.proofs.Calm.{no_vote, left_behind}

module _ {K : Type 0} (w : World K) (v : Inv w) (i : ℕ) (hi : i < 3) (p : ℕ) (up : (w.copy i).promised ≤ p) (r : ℕ) (x : Copy K) (k : K) (here : Snap w r x) (ne : r ≢ i) (votes : x.proposal ≡ voted p k) (level : x.version ≡ (w.copy i).version) where
  abbrev c : Copy K
  c = applied p p k (w.copy i)

  up_ver : (w.copy i).version ≤ c.version
  up_ver = omega arith

  quiet : (b : ℕ) (k : K) → c.proposal ≡ voted b k → Prop w b c.version k
  quiet b k e = no_vote e

  owner : p % 3 ≡ r
  owner = (v.own r x p k here votes).0

  voted_here : Prop w p (w.copy i).version k
  voted_here = record { who = r; at = x; snap = here; votes = votes; place = level }

  -- nothing else is proposed for this place under a ballot as high
  settled : (b : ℕ) (k' : K) → Prop w b (w.copy i).version k' → p ≤ b → k ≡ k'
  settled b k' q l = go (ℕ_discrete p b)
    where
      no_more : AllBeyond w p (w.copy i).version → ⊥
      no_more a =
          let y : Beyond w i p (w.copy i).version = a i hi (omega (arith, owner)) in
          omega (arith, y.over, v.low_prom i y.at y.snap, v.low_ver i y.at y.snap)

      go : Dec (p ≡ b) → k ≡ k'
      go (yes e) = v.uniq b (w.copy i).version k k' (rw e at voted_here) q
      go (no d) = elim (v.past p b (w.copy i).version k k' voted_here q (omega arith)) [ inl e ↦ e | inr a ↦ absurd (no_more a) ]

  -- a choice after the step is an old one, or this
  chosen_new : (b s : ℕ) (k₁ : K) → Chosen (put w i c) b s k₁ → Chosen w b s k₁ ⊎ ((p ≡ b) × ((w.copy i).version ≡ s) × (k ≡ k₁))
  chosen_new b s k₁ h = elim (chosen_back w i c h) [ inl q ↦ inl q | inr e ↦ inr (e.2, omega (arith, e.1), cc e.3) ]

  -- what was chosen for this place is this
  agreed : (b : ℕ) (k₁ : K) → Chosen w b (w.copy i).version k₁ → k ≡ k₁
  agreed b k₁ h = elim (dec_le p b) [ yes l ↦ settled b k₁ (v.made b _ k₁ h) l | no n ↦ sym (v.firm b p _ k₁ k h voted_here (omega arith)) ]

  own_acc : Own (put w i c)
  own_acc = own' w v i hi c up up_ver (λ b k e. no_vote e)

  hold_acc : Hold (put w i c)
  hold_acc = hold' w v i hi c up up_ver own_acc (λ b s k q f e. absurd (let t : s ≤ (w.copy i).version = left_behind w v i s b k (prop_was w v i c quiet b s k q) f in omega arith))

  made_acc : Made (put w i c)
  made_acc b s k₁ h = elim (chosen_new b s k₁ h) [
    | inl q ↦ prop_grows w i c (v.made b s k₁ q)
    | inr e ↦ record { who = r; at = x; snap = snap_grows w i c here; votes = votes ∙ cc (e.0, e.2); place = level ∙ e.1 }
  ]

  firm_acc : Firm (put w i c)
  firm_acc b b' s k₁ k' h q l = go (chosen_new b s k₁ h) (prop_was w v i c quiet b' s k' q)
    where
      go : Chosen w b s k₁ ⊎ ((p ≡ b) × ((w.copy i).version ≡ s) × (k ≡ k₁)) → Prop w b' s k' → k₁ ≡ k'
      go (inl h₀) q₀ = v.firm b b' s k₁ k' h₀ q₀ l
      go (inr e) q₀ = sym e.2 ∙ settled b' k' (rw (sym e.1) at q₀) (omega (arith, e.0))

  keeps_acc : Keeps (put w i c)
  keeps_acc b s k₁ h = elim (chosen_new b s k₁ h) [
    | inl q ↦ kept_grows w v i hi c up up_ver (v.keeps b s k₁ q)
    | inr e ↦
        record {
          who = i;
          at = c;
          snap = snap_new w i c hi;
          other = omega (arith, owner, ap (λ (n : ℕ). n % 3) e.0);
          ahead = omega (arith, e.1);
          before = λ y q. all w v i hi c up up_ver (λ n z. n ≡ i → z.version ≤ s → z.promised ≤ b) (λ _ l. omega (arith, e.1)) (λ n z q f l. let t : z.promised ≤ (w.copy i).promised = rw (sym f) (v.low_prom n z q) in omega (arith, e.0)) i y q refl;
        }
  ]

  -- one that is as far as c is now has the same history
  alike : (m : ℕ) (y : Copy K) → Snap w m y → suc (w.copy i).version ≡ y.version → k ∷ (w.copy i).history ≡ y.history
  alike m y h e =
      let t : Below w y (w.copy i).version = v.tail m y (w.copy i).version h (sym e) in
      let g : t.at.history ≡ (w.copy i).history = v.same _ _ _ _ t.snap (v.cur i hi) t.place in
      let q : k ≡ t.k = agreed y.last t.k (record { who = m; at = y; rest = t.at.history; snap = h; ahead = sym e; under = refl; has = t.has }) in
      cc (g, q, t.has)

  same_acc : Same (put w i c)
  same_acc n n' y z p q e = go (snap_back w i c p) (snap_back w i c q)
    where
      go : Snap w n y ⊎ ((n ≡ i) × (y ≡ c)) → Snap w n' z ⊎ ((n' ≡ i) × (z ≡ c)) → y.history ≡ z.history
      go (inl p₀) (inl q₀) = v.same n n' y z p₀ q₀ e
      go (inl p₀) (inr f) = sym (alike n y p₀ (sym (e ∙ ap (λ (a : Copy K). a.version) f.1))) ∙ cc f.1
      go (inr f) (inl q₀) = ap (λ (a : Copy K). a.history) f.1 ∙ alike n' z q₀ (sym (ap (λ (a : Copy K). a.version) f.1) ∙ e)
      go (inr f) (inr g) = cc (f.1, g.1)

  tail_acc : Tail (put w i c)
  tail_acc n y s p e = elim (snap_back w i c p) [
    | inl q ↦ below_grows w i c (v.tail n y s q e)
    | inr f ↦ record { k = k; who = i; at = w.copy i; snap = snap_grows w i c (v.cur i hi); place = omega (arith, ap (λ (a : Copy K). a.version) f.1); has = ap (λ (a : Copy K). a.history) f.1 }
  ]

  pub accept : Inv (put w i c)
  accept =
      record {
        cur = cur' w v i hi c up up_ver;
        low_prom = low_prom' w v i hi c up up_ver;
        low_ver = low_ver' w v i hi c up up_ver;
        own = own_acc;
        uniq = uniq_quiet w v i c quiet;
        hold = hold_acc;
        held = held' w v i hi c up up_ver own_acc hold_acc (λ b k e. no_vote e);
        early = early' w v i hi c up up_ver own_acc (λ b s k q f. le_trans (left_behind w v i s b k q f) up_ver) (λ b k e. no_vote e);
        past = past_quiet w v i c quiet;
        two = two_quiet w v i c quiet;
        made = made_acc;
        firm = firm_acc;
        keeps = keeps_acc;
        same = same_acc;
        tail = tail_acc;
      }
