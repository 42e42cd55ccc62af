-- Calls are done, and told, in a line of what is seen.
use Rattle.std.proofs.Common.{◌≡◌, ℕ, ◌≢◌, List, [], ◌∷◌, ◌++◌, sym, refl, ap, ◌∙◌, subst, inl, inr}
use mathlib.Core.List.Memᴰ
use mathlib.Core.List.{Memᴰ}
use Rattle.disks.specs.Cluster.{Seen, Waiting, Ready, Linear, is_done}
use Rattle.copies.specs.Service.{Service}
use Rattle.copies.specs.Messages.{Item, Reply}
use Rattle.copies.specs.Promise.{Place, left_by, plain, leaves, replies}
use Rattle.replicated.proofs.Lists.{Cut, cut, Apart}

abbrev pub waits : {O : Type 0} → ℕ → Item O → Waiting O
waits h x = record { house = h; id = x.id; call = x.call }

abbrev pub ready : {O R : Type 0} (sv : Service O R) → ℕ → Reply sv.A → Ready R
ready sv h q = record { house = h; id = q.id; reply = sv.says q.reply }

module _ {O R : Type 0} (sv : Service O R) (es : List (Seen O R)) (f h : ℕ) where
  pub record Ran (xs : List (Item O)) (s : Place sv) (ws : List (Waiting O)) (rs : List (Ready R)) : Type 0 where
    pub ws' : List (Waiting O)
    pub rs' : List (Ready R)
    pub line : Linear (plain sv) es (leaves sv xs s) ws' rs' f 0
    pub keeps : (y : Waiting O) → Memᴰ y ws → ((x : Item O) → Memᴰ x xs → y.id ≢ x.id) → Memᴰ y ws'
    pub fresh : (q : Reply sv.A) → Memᴰ q (replies sv xs s) → Memᴰ (ready sv h q) rs'
    pub more : (r : Ready R) → Memᴰ r rs → Memᴰ r rs'

  pub run_calls : (xs : List (Item O)) (s : Place sv) (ws : List (Waiting O)) (rs : List (Ready R)) → Apart (λ (x : Item O). x.id) xs → ((x : Item O) → Memᴰ x xs → Memᴰ (waits h x) ws) → Linear (plain sv) es s ws rs f 0 → Ran xs s ws rs
  unfolding leaves replies
  run_calls [] s ws rs a w l = record { ws' = ws; rs' = rs; line = l; keeps = λ y m _. m; fresh = λ q m. absurd (Memᴰ.not-nil m); more = λ r m. m }
  run_calls (x ∷ xs) s ws rs a w l = go (run_calls xs (left_by sv x.call s) (c.before ++ c.behind) (ready sv h r ∷ rs) a.1 below (is_done c.before c.behind h x.id x.call (subst (λ (z : List (Waiting O)). Linear (plain sv) es s z rs f 0) c.is l) (refl, refl)))
    where
      r : Reply sv.A
      r = record { id = x.id; reply = sv.reply x.call s.rest s.blocks }

      c : Cut (waits h x) ws
      c = cut ws (w x (Memᴰ.head refl))

      below : (y : Item O) → Memᴰ y xs → Memᴰ (waits h y) (c.before ++ c.behind)
      below y m = c.still (waits h y) (w y (Memᴰ.tail m)) (λ e. a.0 y m (ap (λ (z : Waiting O). z.id) e))

      go : Ran xs (left_by sv x.call s) (c.before ++ c.behind) (ready sv h r ∷ rs) → Ran (x ∷ xs) s ws rs
      go t =
          record {
            ws' = t.ws';
            rs' = t.rs';
            line = t.line;
            keeps = λ y m n. t.keeps y (c.still y m (λ e. n x (Memᴰ.head refl) (ap (λ (z : Waiting O). z.id) e))) (λ z k. n z (Memᴰ.tail k));
            fresh = λ q m. elim (Memᴰ.cases_cons m) [ inl e ↦ t.more (ready sv h q) (Memᴰ.head (ap (ready sv h) e)) | inr m' ↦ t.fresh q m' ];
            more = λ z m. t.more z (Memᴰ.tail m);
          }

  -- replies' numbers are the calls'
  pub replies_apart : (xs : List (Item O)) (s : Place sv) → Apart (λ (x : Item O). x.id) xs → Apart (λ (q : Reply sv.A). q.id) (replies sv xs s)
  unfolding replies
  replies_apart [] s a = tt
  replies_apart (x ∷ xs) s a = (λ q m k. let u = from xs (left_by sv x.call s) q m in a.0 u.0 u.1 (sym u.2 ∙ k), replies_apart xs (left_by sv x.call s) a.1)
    where
      from : (ys : List (Item O)) (t : Place sv) (q : Reply sv.A) → Memᴰ q (replies sv ys t) → (y : Item O) × Memᴰ y ys × (q.id ≡ y.id)
      from [] t q m = absurd (Memᴰ.not-nil m)
      from (y ∷ ys) t q m = elim (Memᴰ.cases_cons m) [ inl e ↦ (y, Memᴰ.head refl, ap (λ (z : Reply sv.A). z.id) e) | inr m' ↦ let u = from ys (left_by sv y.call t) q m' in (u.0, Memᴰ.tail u.1, u.2) ]
