-- What each part of the invariant asks of a step: copy i, in state a, comes to c.
use Rattle.std.proofs.Common.{◌≡◌, ℕ, ◌%◌, ◌<◌, ◌≤◌, ◌≢◌, ◌⊎◌, sym, refl, ap, ◌∙◌, subst, inl, inr, arith}
use Rattle.std.proofs.lemmas.Bool.Decides.{nat_tests}
use native.Mathlib.Decide.{ℕ_discrete}
use Rattle.agreement.specs.Copies.{voted, Copy, World, put, rank}
use Rattle.agreement.proofs.Base.{Snap, Prop, Chosen, copy_here, copy_other, snap_new, snap_grows, snap_back, prop_back, chosen_back}
use Rattle.agreement.proofs.Inv.{Beyond, Second, Kept, Below, Cur, LowProm, LowVer, Own, Uniq, Hold, Held, Early, AllBeyond, Past, Two, Same, Tail, Inv}

module _ {K : Type 0} (w : World K) (v : Inv w) (i : ℕ) (hi : i < 3) (c : Copy K) (up_prom : (w.copy i).promised ≤ c.promised) (up_ver : (w.copy i).version ≤ c.version) where
  -- a fact of every copy after the step: of i's new state, and of the others'
  pub each : (P : ℕ → Copy K → Type 0) → P i c → ((j : ℕ) → j ≢ i → P j (w.copy j)) → (j : ℕ) → P j ((put w i c).copy j)
  each P here other j = go (ℕ_discrete j i)
    where
      go : Dec (j ≡ i) → P j ((put w i c).copy j)
      go (yes e) = subst (λ (n : ℕ). P n ((put w i c).copy n)) (sym e) (subst (P i) (sym (copy_here w i c)) here)
      go (no ne) = subst (P j) (sym (copy_other w i c j ne)) (other j ne)

  pub cur' : Cur (put w i c)
  cur' j hj = each (λ n z. n < 3 → Snap (put w i c) n z) (λ h. snap_new w i c h) (λ n _ h. snap_grows w i c (v.cur n h)) j hj

  -- a fact of every snapshot after the step
  pub all : (P : ℕ → Copy K → Type 0) → P i c → ((r : ℕ) (x : Copy K) → Snap w r x → P r x) → (r : ℕ) (x : Copy K) → Snap (put w i c) r x → P r x
  all P here old r x h = elim (snap_back w i c h) [ inl q ↦ old r x q | inr e ↦ subst (λ (n : ℕ). P n x) (sym e.0) (subst (P i) (sym e.1) here) ]

  pub low_prom' : LowProm (put w i c)
  low_prom' r x h = let t = v.low_prom r x in let u = snap_back w i c h in grind (arith, nat_tests)

  pub low_ver' : LowVer (put w i c)
  low_ver' r x h = let t = v.low_ver r x in let u = snap_back w i c h in grind (arith, nat_tests)

  pub own' : ((b : ℕ) (k : K) → c.proposal ≡ voted b k → (b % 3 ≡ i) × (b ≤ c.promised)) → Own (put w i c)
  own' mine r x b k h e = let t = v.own r x b k in let u = snap_back w i c h in let n = mine b k in grind (arith, nat_tests)

  -- where a vote under b is new, its owner had promised no more
  pub held' : Own (put w i c) → Hold (put w i c) → ((b : ℕ) (k : K) → c.proposal ≡ voted b k → Prop w b c.version k ⊎ ((w.copy i).promised ≤ b)) → Held (put w i c)
  held' o hold' news r x b s k h p = all (λ n z. b % 3 ≡ n → z.version ≡ s → b < z.promised → b < rank z.proposal) (λ f e _. there f e) (λ r x q f e l. in_old q f e l (prop_back w i c p)) r x h
    where
      there : b % 3 ≡ i → c.version ≡ s → b < rank c.proposal
      there = simp copy_here at (hold' b s k i p)

      in_old : {r : ℕ} {x : Copy K} → Snap w r x → b % 3 ≡ r → x.version ≡ s → b < x.promised → Prop w b s k ⊎ ((c.proposal ≡ voted b k) × (c.version ≡ s)) → b < rank x.proposal
      in_old q f e l (inl p₀) = v.held _ _ _ _ _ q p₀ f e l
      in_old {r} {x} q f e l (inr n) = again (news b k n.0)
        where
          again : Prop w b c.version k ⊎ ((w.copy i).promised ≤ b) → b < rank x.proposal
          again (inl p₀) = v.held _ _ _ _ _ q (rw n.1 at p₀) f e l
          again (inr g) =
              let m : b % 3 ≡ i = (o i c b k (snap_new w i c hi) n.0).0 in
              let t : x.promised ≤ (w.copy i).promised = rw (sym m ∙ f) (v.low_prom _ _ q) in
              omega arith

  pub early' : Own (put w i c) → ((b s : ℕ) (k : K) → Prop w b s k → b % 3 ≡ i → s ≤ c.version) → ((b : ℕ) (k : K) → c.proposal ≡ voted b k → Prop w b c.version k ⊎ ((w.copy i).promised ≤ b)) → Early (put w i c)
  early' o left news r x b s k h p f l = go (snap_back w i c h) (prop_back w i c p)
    where
      there : Prop w b s k → r ≡ i → x ≡ c → x.promised ≤ b
      there q e z = absurd (omega (arith, left b s k q (f ∙ e), ap (λ (y : Copy K). y.version) z))

      go : Snap w r x ⊎ ((r ≡ i) × (x ≡ c)) → Prop w b s k ⊎ ((c.proposal ≡ voted b k) × (c.version ≡ s)) → x.promised ≤ b
      go (inl q) (inl p₀) = v.early r x b s k q p₀ f l
      go (inl q) (inr n) = again (news b k n.0)
        where
          again : Prop w b c.version k ⊎ ((w.copy i).promised ≤ b) → x.promised ≤ b
          again (inl p₀) = v.early r x b s k q (rw n.1 at p₀) f l
          again (inr g) =
              let m : b % 3 ≡ i = (o i c b k (snap_new w i c hi) n.0).0 in
              let t : x.promised ≤ (w.copy i).promised = rw (sym m ∙ f) (v.low_prom _ _ q) in
              omega arith
      go (inr e) (inl p₀) = there p₀ e.0 e.1
      go (inr e) (inr n) = absurd (omega (arith, n.1, ap (λ (y : Copy K). y.version) e.1))

  pub hold' : Own (put w i c) → ((b s : ℕ) (k : K) → Prop (put w i c) b s k → b % 3 ≡ i → c.version ≡ s → b < rank c.proposal) → Hold (put w i c)
  hold' o mine b s k r p = each (λ j z. b % 3 ≡ j → z.version ≡ s → b < rank z.proposal) (mine b s k p) (λ j ne f e. others j ne f e (prop_back w i c p)) r
    where
      others : (j : ℕ) → j ≢ i → b % 3 ≡ j → (w.copy j).version ≡ s → Prop w b s k ⊎ ((c.proposal ≡ voted b k) × (c.version ≡ s)) → b < rank (w.copy j).proposal
      others j ne f e (inl q) = v.hold b s k j q f e
      others j ne f e (inr n) = absurd (ne (sym f ∙ (o i c b k (snap_new w i c hi) n.0).0))

  before_grows : {b s : ℕ} (h : Kept w b s) (x : Copy K) → Snap (put w i c) h.who x → x.version ≤ s → x.promised ≤ b
  before_grows h x q l = let t = h.before x in let u = snap_back w i c q in let m = v.low_ver h.who h.at h.snap in grind (arith, nat_tests)

  pub kept_grows : {b s : ℕ} → Kept w b s → Kept (put w i c) b s
  kept_grows h = record { who = h.who; at = h.at; snap = snap_grows w i c h.snap; other = h.other; ahead = h.ahead; before = before_grows h }

module _ {K : Type 0} (w : World K) (i : ℕ) (c : Copy K) where
  pub beyond_grows : {f b s : ℕ} → Beyond w f b s → Beyond (put w i c) f b s
  beyond_grows h = search (snap_grows w i c)

  pub past_grows : {b s : ℕ} {k k' : K} → (k ≡ k') ⊎ AllBeyond w b s → (k ≡ k') ⊎ AllBeyond (put w i c) b s
  past_grows (inl e) = inl e
  past_grows (inr a) = inr (λ f hf nf. beyond_grows (a f hf nf))

  pub second_grows : {b : ℕ} → Second w b → Second (put w i c) b
  second_grows h = search (snap_grows w i c)

  pub below_grows : {z : Copy K} {s : ℕ} → Below w z s → Below (put w i c) z s
  below_grows h = search (snap_grows w i c)

-- the step proposes nothing new
module _ {K : Type 0} (w : World K) (v : Inv w) (i : ℕ) (c : Copy K) (quiet : (b : ℕ) (k : K) → c.proposal ≡ voted b k → Prop w b c.version k) where
  pub prop_was : (b s : ℕ) (k : K) → Prop (put w i c) b s k → Prop w b s k
  prop_was b s k p = elim (prop_back w i c p) [ inl q ↦ q | inr e ↦ rw e.1 at (quiet b k e.0) ]

  pub uniq_quiet : Uniq (put w i c)
  uniq_quiet b s k k' p q = v.uniq b s k k' (prop_was _ _ _ p) (prop_was _ _ _ q)

  pub past_quiet : Past (put w i c)
  past_quiet b b' s k k' p q l = past_grows w i c (v.past _ _ _ _ _ (prop_was _ _ _ p) (prop_was _ _ _ q) l)

  pub two_quiet : Two (put w i c)
  two_quiet b s k p = second_grows w i c (v.two _ _ _ (prop_was _ _ _ p))

-- the step decides nothing new: the history was another's
module _ {K : Type 0} (w : World K) (v : Inv w) (i : ℕ) (c : Copy K) (r : ℕ) (x : Copy K) (here : Snap w r x) (ver_is : c.version ≡ x.version) (last_is : c.last ≡ x.last) (hist_is : c.history ≡ x.history) where
  pub chosen_was : (b s : ℕ) (k : K) → Chosen (put w i c) b s k → Chosen w b s k
  chosen_was b s k p = elim (chosen_back w i c p) [
    | inl q ↦ q
    | inr e ↦ record { who = r; at = x; rest = e.0; snap = here; ahead = cc (ver_is, e.1); under = cc (last_is, e.2); has = cc (hist_is, e.3) }
  ]

  -- each snapshot has the place and the history of an old one
  was : {n : ℕ} {z : Copy K} → Snap (put w i c) n z → (m : ℕ) × (y : Copy K) × Snap w m y × (z.version ≡ y.version) × (z.history ≡ y.history)
  was {n} {z} h = elim (snap_back w i c h) [
    | inl q ↦ (n, z, q, refl, refl)
    | inr e ↦ (r, x, here, ap (λ (a : Copy K). a.version) e.1 ∙ ver_is, ap (λ (a : Copy K). a.history) e.1 ∙ hist_is)
  ]

  pub same_echo : Same (put w i c)
  same_echo r r' x y p q e =
      let f = was p in
      let g = was q in
      let t : f.1.history ≡ g.1.history = v.same _ _ _ _ f.2 g.2 (sym f.3 ∙ e ∙ g.3) in
      f.4 ∙ t ∙ sym g.4

  pub tail_echo : Tail (put w i c)
  tail_echo r x s p e =
      let f = was p in
      let t : Below w f.1 s = v.tail _ _ s f.2 (sym f.3 ∙ e) in
      record { k = t.k; who = t.who; at = t.at; snap = snap_grows w i c t.snap; place = t.place; has = f.4 ∙ t.has }
