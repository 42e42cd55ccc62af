-- Steps that neither propose nor decide: a higher promise; what another has applied already.
use Rattle.std.proofs.Common.{◌≡◌, ℕ, ◌%◌, ◌<◌, ◌≤◌, sym, refl, ◌∙◌, inl, le_trans, arith}
use Rattle.agreement.specs.Copies.{nothing, voted, Copy, World, put, rank, raised, adopted}
use Rattle.agreement.proofs.Base.{Snap, Prop, Chosen, prop_grows}
use Rattle.agreement.proofs.Inv.{Inv, Own, Hold}
use Rattle.agreement.proofs.Grow.{cur', low_prom', low_ver', own', hold', held', early', kept_grows, prop_was, uniq_quiet, past_quiet, two_quiet, chosen_was, same_echo, tail_echo}

pub no_vote : {K : Type 0} {b : ℕ} {k : K} {A : Type 0} → nothing ≡ voted b k → A
no_vote e = let z : ◌≡◌ {A = ℕ} 0 1 = cc in absurd (omega arith)

module _ {K : Type 0} (w : World K) (v : Inv w) (i : ℕ) where
  -- one that applies something forgets its vote: it was for a place that it is past now
  pub left_behind : (s b : ℕ) (k : K) → Prop w b s k → b % 3 ≡ i → s ≤ (w.copy i).version
  left_behind s b k q f =
      let o : b % 3 ≡ q.who = (v.own q.who q.at b k q.snap q.votes).0 in
      let t : q.at.version ≤ (w.copy i).version = rw (sym f ∙ o) (v.low_ver q.who q.at q.snap) in
      omega (arith, q.place)

module _ {K : Type 0} (w : World K) (v : Inv w) (i : ℕ) (hi : i < 3) (c : Copy K) (up_prom : (w.copy i).promised ≤ c.promised) (up_ver : (w.copy i).version ≤ c.version) (quiet : (b : ℕ) (k : K) → c.proposal ≡ voted b k → Prop w b c.version k)
    (mine : (b : ℕ) (k : K) → c.proposal ≡ voted b k → (b % 3 ≡ i) × (b ≤ c.promised)) (holds : (b s : ℕ) (k : K) → Prop w b s k → b % 3 ≡ i → c.version ≡ s → b < rank c.proposal)
    (r : ℕ) (x : Copy K) (here : Snap w r x) (ver_is : c.version ≡ x.version) (last_is : c.last ≡ x.last) (hist_is : c.history ≡ x.history) where
  own_calm : Own (put w i c)
  own_calm = own' w v i hi c up_prom up_ver mine

  hold_calm : Hold (put w i c)
  hold_calm = hold' w v i hi c up_prom up_ver own_calm (λ b s k p. holds b s k (prop_was w v i c quiet b s k p))

  calm : Inv (put w i c)
  calm =
      record {
        cur = cur' w v i hi c up_prom up_ver;
        low_prom = low_prom' w v i hi c up_prom up_ver;
        low_ver = low_ver' w v i hi c up_prom up_ver;
        own = own_calm;
        uniq = uniq_quiet w v i c quiet;
        hold = hold_calm;
        held = held' w v i hi c up_prom up_ver own_calm hold_calm (λ b k e. inl (quiet b k e));
        early = early' w v i hi c up_prom up_ver own_calm (λ b s k q f. le_trans (left_behind w v i s b k q f) up_ver) (λ b k e. inl (quiet b k e));
        past = past_quiet w v i c quiet;
        two = two_quiet w v i c quiet;
        made = λ b s k p. prop_grows w i c (v.made b s k (was b s k p));
        firm = λ b b' s k k' p q l. v.firm b b' s k k' (was b s k p) (prop_was w v i c quiet b' s k' q) l;
        keeps = λ b s k p. kept_grows w v i hi c up_prom up_ver (v.keeps b s k (was b s k p));
        same = same_echo w v i c r x here ver_is last_is hist_is;
        tail = tail_echo w v i c r x here ver_is last_is hist_is;
      }
    where
      was : (b s : ℕ) (k : K) → Chosen (put w i c) b s k → Chosen w b s k
      was = chosen_was w v i c r x here ver_is last_is hist_is

module _ {K : Type 0} (w : World K) (v : Inv w) (i : ℕ) (hi : i < 3) (p : ℕ) (up : (w.copy i).promised ≤ p) where
  pub raise : Inv (put w i (raised p (w.copy i)))
  raise =
      calm w v i hi (raised p (w.copy i)) up (omega arith) (λ b k e. record { who = i; at = w.copy i; snap = v.cur i hi; votes = e; place = refl })
      (λ b k e. let t = v.own i (w.copy i) b k (v.cur i hi) e in (t.0, omega arith)) (λ b s k q f e. v.hold b s k i q f e) i (w.copy i) (v.cur i hi) refl refl refl

  pub catch_up : (r : ℕ) (x : Copy K) → Snap w r x → (w.copy i).version < x.version → Inv (put w i (adopted p x))
  catch_up r x h l =
      calm w v i hi (adopted p x) up (omega arith) (λ b k e. no_vote e) (λ b k e. no_vote e)
      (λ b s k q f e. absurd (let t : s ≤ (w.copy i).version = left_behind w v i s b k q f in omega arith)) r x h refl refl refl
