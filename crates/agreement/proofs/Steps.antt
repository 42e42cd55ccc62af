-- The start; what follows of two snapshots.
use Rattle.std.proofs.Common.{◌≡◌, ℕ, zero, suc, ◌+◌, ◌<◌, ◌≤◌, List, [], ◌∷◌, ◌++◌, sym, refl, ap, ◌∙◌, inl, inr, arith}
use Rattle.agreement.specs.Copies.{nothing, voted, Copy, World, fresh, start, applied, adopted}
use Rattle.agreement.proofs.Base.{Snap, Prop, Chosen}
use Rattle.agreement.proofs.Inv.{Inv, Below}
use Rattle.agreement.proofs.Calm.{no_vote}

module _ {K : Type 0} (w : World K) (v : Inv w) (i r : ℕ) (x : Copy K) (hi : i < 3) (h : Snap w r x) (p : ℕ) (up : (w.copy i).promised ≤ p) where
  -- what I voted for is what the sender applied
  pub learned : x.version ≡ suc (w.copy i).version → (vb : ℕ) (vk : K) → (w.copy i).proposal ≡ voted vb vk → x.last ≤ vb → adopted p x ≡ applied p x.last vk (w.copy i)
  learned e vb vk f l =
      let t : Below w x (w.copy i).version = v.tail r x _ h e in
      let g : t.at.history ≡ (w.copy i).history = v.same _ _ _ _ t.snap (v.cur i hi) t.place in
      let q : t.k ≡ vk = v.firm x.last vb (w.copy i).version _ _ (record { who = r; at = x; rest = t.at.history; snap = h; ahead = e; under = refl; has = t.has }) (record { who = i; at = w.copy i; snap = v.cur i hi; votes = f; place = refl }) l in
      let z : x.history ≡ vk ∷ (w.copy i).history = cc (g, q, t.has) in
      λ j. record { promised = p; version = e j; last = x.last; proposal = nothing; history = z j }

module _ {K : Type 0} (w : World K) (v : Inv w) (i r : ℕ) (x : Copy K) (hi : i < 3) (h : Snap w r x) (p : ℕ) where
  -- what a snapshot applied last is what I lack
  pub fetched : (k : K) (rest : List K) → x.version ≡ suc (w.copy i).version → x.history ≡ k ∷ rest → adopted p x ≡ applied p x.last k (w.copy i)
  fetched k rest e f =
      let t : Below w x (w.copy i).version = v.tail r x _ h e in
      let g : t.at.history ≡ (w.copy i).history = v.same _ _ _ _ t.snap (v.cur i hi) t.place in
      let z : x.history ≡ k ∷ (w.copy i).history = cc (g, f, t.has) in
      λ j. record { promised = p; version = e j; last = x.last; proposal = nothing; history = z j }

pub at_start : {K : Type 0} {r : ℕ} {x : Copy K} → Snap (start {K = K}) r x → x ≡ fresh
at_start {K} h = elim h.seen [ inl m ↦ absurd (elim m [ ]) | inr e ↦ e ]

no_prop : {K : Type 0} {b s : ℕ} {k : K} {A : Type 0} → Prop (start {K = K}) b s k → A
no_prop {K} h = no_vote (sym (ap (λ (z : Copy K). z.proposal) (at_start h.snap)) ∙ h.votes)

no_choice : {K : Type 0} {b s : ℕ} {k : K} {A : Type 0} → Chosen (start {K = K}) b s k → A
no_choice {K} h = absurd (omega (arith, ap (λ (z : Copy K). z.version) (at_start h.snap), h.ahead))

pub inv_start : {K : Type 0} → Inv (start {K = K})
inv_start {K} =
    record {
      cur = λ i h. record { small = h; seen = inr refl };
      low_prom = λ r x h. omega (arith, ap (λ (z : Copy K). z.promised) (at_start h));
      low_ver = λ r x h. omega (arith, ap (λ (z : Copy K). z.version) (at_start h));
      own = λ r x b k h e. no_vote (sym (ap (λ (z : Copy K). z.proposal) (at_start h)) ∙ e);
      uniq = λ b s k k' p. no_prop p;
      hold = λ b s k r p. no_prop p;
      held = λ r x b s k h p. no_prop p;
      early = λ r x b s k h p. no_prop p;
      past = λ b b' s k k' p. no_prop p;
      two = λ b s k p. no_prop p;
      made = λ b s k p. no_choice p;
      firm = λ b b' s k k' p. no_choice p;
      keeps = λ b s k p. no_choice p;
      same = λ r r' x y p q e. ap (λ (z : Copy K). z.history) (at_start p ∙ sym (at_start q));
      tail = λ r x s h e. absurd (omega (arith, ap (λ (z : Copy K). z.version) (at_start h)));
    }

module _ {K : Type 0} (w : World K) (v : Inv w) where
  pub first : (n r m : ℕ) (x y : Copy K) → Snap w r x → Snap w m y → y.version ≡ n + x.version → (newer : List K) × (y.history ≡ newer ++ x.history)
  first zero r m x y h g e = ([], v.same m r y x g h (omega arith))
  first (suc n) r m x y h g e =
      let t = v.tail m y (n + x.version) g (omega arith) in
      let u = first n r t.who x t.at h t.snap t.place in
      (t.k ∷ u.0, cc (t.has, u.1))
