-- What is known of a copy that recovers: the two others are no less far, and two never recover at once.
use Rattle.std.proofs.Common.{◌≡◌, ℕ, zero, suc, ◌%◌, ◌<◌, ◌≤◌, ◌≢◌, sym, refl, ap, ◌∙◌, subst, arith}
use native.Mathlib.Decide.{ℕ_discrete}
use Rattle.std.specs.Prelude.{false, ◌&&◌, nat_le, ◌==◌}
use Rattle.std.proofs.lemmas.Bool.Decides.{nat_tests}
use Rattle.agreement.specs.Copies.{nothing, voted, Copy, World, put, rank, raised}
use Rattle.agreement.proofs.Base.{Snap, Prop, Chosen, copy_here, copy_other, snap_grows}
use Rattle.agreement.proofs.Inv.{Inv, Kept, Below}

-- Copy m heard a snapshot that is ahead, and couldn't learn from it: it's ahead by more than one, or what m proposed is of a lower ballot.
pub record Behind {K : Type 0} (w : World K) (m : ℕ) : Type 0 where
  pub small : m < 3
  pub who : ℕ
  pub at : Copy K
  pub snap : Snap w who at
  pub ahead : (w.copy m).version < at.version
  pub votes : at.version ≡ suc (w.copy m).version → rank (w.copy m).proposal ≤ at.last

-- how it starts
module _ {K : Type 0} (w : World K) (m : ℕ) (hm : m < 3) (r : ℕ) (x : Copy K) (h : Snap w r x) (l : (w.copy m).version < x.version) where
  pub behind_starts : (x.version ≡ suc (w.copy m).version → rank (w.copy m).proposal ≤ x.last) → Behind w m
  behind_starts f = record { small = hm; who = r; at = x; snap = h; ahead = l; votes = f }

  pub behind_nothing : (w.copy m).proposal ≡ nothing → Behind w m
  behind_nothing e = behind_starts (λ _. let t : rank (w.copy m).proposal ≡ 0 = ap rank e in omega arith)

  pub behind_voted : (vb : ℕ) (vk : K) → (w.copy m).proposal ≡ voted vb vk → (x.version ≡ suc (w.copy m).version → vb < x.last) → Behind w m
  behind_voted vb vk e f = behind_starts (λ g. let t : rank (w.copy m).proposal ≡ suc vb = ap rank e in omega (arith, f g))

  -- by the test that it couldn't learn from it
  pub behind_test : (vb : ℕ) (vk : K) → (w.copy m).proposal ≡ voted vb vk → (x.version == suc (w.copy m).version && nat_le x.last vb) ≡ false → Behind w m
  behind_test vb vk e f = behind_voted vb vk e (λ g. grind (arith, nat_tests))

-- and how it goes on
module _ {K : Type 0} (w : World K) (m : ℕ) (b : Behind w m) where
  -- the version and the proposal stay
  pub behind_put : (i : ℕ) (c : Copy K) → ((put w i c).copy m).version ≡ (w.copy m).version → ((put w i c).copy m).proposal ≡ (w.copy m).proposal → Behind (put w i c) m
  behind_put i c e f =
      record { small = b.small; who = b.who; at = b.at; snap = snap_grows w i c b.snap; ahead = omega (arith, e, b.ahead); votes = λ g. let t : rank ((put w i c).copy m).proposal ≡ rank (w.copy m).proposal = ap rank f in omega (arith, b.votes (omega (arith, g, e))) }

  pub behind_other : (i : ℕ) (c : Copy K) → i ≢ m → Behind (put w i c) m
  behind_other i c ne = let e = copy_other w i c m (λ f. ne (sym f)) in behind_put i c (ap (λ (z : Copy K). z.version) e) (ap (λ (z : Copy K). z.proposal) e)

  pub behind_raised : (p : ℕ) → Behind (put w m (raised p (w.copy m))) m
  behind_raised p = let e = copy_here w m (raised p (w.copy m)) in behind_put m (raised p (w.copy m)) (ap (λ (z : Copy K). z.version) e) (ap (λ (z : Copy K). z.proposal) e)

-- A place from m's on was decided without m: one of the two others proposed, the other applied.
pub record Without {K : Type 0} (w : World K) (m : ℕ) (b : Behind w m) : Type 0 where
  pub place : ℕ
  pub next : b.at.version ≡ suc place
  pub command : K
  pub prop : Prop w b.at.last place command
  pub owns : b.at.last % 3 ≡ prop.who
  pub not_owner : prop.who ≢ m
  pub kept : Kept w b.at.last place
  pub not_kept : kept.who ≢ m

module _ {K : Type 0} (w : World K) (v : Inv w) where
  -- a copy's version, seen from a snapshot
  at_least : (r : ℕ) (x : Copy K) → Snap w r x → (j : ℕ) → r ≡ j → x.version ≤ (w.copy j).version
  at_least r x h j e = subst (λ (n : ℕ). x.version ≤ (w.copy n).version) e (v.low_ver r x h)

  pub without : (m : ℕ) (b : Behind w m) → Without w m b
  without m b = go b.at.version refl
    where
      go : (n : ℕ) → b.at.version ≡ n → Without w m b
      go zero e = absurd (omega (arith, b.ahead))
      go (suc s) e = record { place = s; next = e; command = t.k; prop = q; owns = o; not_owner = not_q; kept = p; not_kept = λ f. omega (arith, at_least p.who p.at p.snap m f, p.ahead, b.ahead) }
        where
          t : Below w b.at s
          t = v.tail b.who b.at s b.snap e

          h : Chosen w b.at.last s t.k
          h = record { who = b.who; at = b.at; rest = t.at.history; snap = b.snap; ahead = e; under = refl; has = t.has }

          q : Prop w b.at.last s t.k
          q = v.made b.at.last s t.k h

          p : Kept w b.at.last s
          p = v.keeps b.at.last s t.k h

          o : b.at.last % 3 ≡ q.who
          o = (v.own q.who q.at b.at.last t.k q.snap q.votes).0

          -- else it would be its own proposal, and the ballot no lower than the snapshot's
          not_q : q.who ≢ m
          not_q f =
              let l : q.at.version ≤ (w.copy m).version = at_least q.who q.at q.snap m f in
              let g : (w.copy m).version ≡ s = omega (arith, q.place, b.ahead) in
              omega (arith, v.hold b.at.last s t.k m q (o ∙ f) g, b.votes (omega arith))

  pub no_less : (m : ℕ) → Behind w m → (j : ℕ) → j < 3 → j ≢ m → (w.copy m).version ≤ (w.copy j).version
  no_less m b j hj ne = go (ℕ_discrete t.prop.who j)
    where
      t : Without w m b
      t = without m b

      go : Dec (t.prop.who ≡ j) → (w.copy m).version ≤ (w.copy j).version
      go (yes e) = omega (arith, at_least t.prop.who t.prop.at t.prop.snap j e, t.prop.place, t.next, b.ahead)
      go (no d) =
          let e : t.kept.who ≡ j = omega (arith, t.kept.other, t.not_kept, t.not_owner, t.owns, t.kept.snap.small, t.prop.snap.small, b.small) in
          omega (arith, at_least t.kept.who t.kept.at t.kept.snap j e, t.kept.ahead, t.next, b.ahead)

  -- n is as far as m, so it is n that proposed, and holds to it
  holds : (m n : ℕ) → Behind w m → n < 3 → m ≢ n → (w.copy n).version ≤ (w.copy m).version → rank (w.copy m).proposal < rank (w.copy n).proposal
  holds m n b hn ne l =
      let t : Without w m b = without m b in
      let f : t.kept.who ≢ n = λ e. omega (arith, at_least t.kept.who t.kept.at t.kept.snap n e, t.kept.ahead, t.next, b.ahead) in
      let e : t.prop.who ≡ n = omega (arith, f, t.kept.other, t.not_kept, t.not_owner, t.owns, t.kept.snap.small, t.prop.snap.small, b.small) in
      let g : (w.copy n).version ≡ t.place = omega (arith, at_least t.prop.who t.prop.at t.prop.snap n e, t.prop.place, t.next, b.ahead) in
      omega (arith, v.hold b.at.last t.place t.command n t.prop (t.owns ∙ e) g, b.votes (omega (arith, t.next, b.ahead)))

  pub not_two : (m n : ℕ) → Behind w m → Behind w n → m ≢ n → ⊥
  not_two m n a b ne =
      let d : n ≢ m = λ e. ne (sym e) in
      let f : (w.copy m).version ≤ (w.copy n).version = no_less m a n b.small d in
      let g : (w.copy n).version ≤ (w.copy m).version = no_less n b m a.small ne in
      omega (arith, holds m n a b.small ne g, holds n m b a.small d f)
