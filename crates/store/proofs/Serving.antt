-- What a call comes to: its change is of the sector that it needs.
use Rattle.std.proofs.Common.{◌≡◌, ℕ, ◌+◌, Bool, true, false, not, ◌&&◌, ◌||◌, List, [], ◌∷◌, length, eqb, ltb, leb, Ok, Err, Result, refl, sym, ◌∙◌, subst, nat_lt, nat_le}
use Rattle.std.specs.Prelude.{IfOk}
use Rattle.agreement.proofs.Base.{by_test}
use Rattle.disks.specs.Disks.{No, find, all_zero, Call, Make, Attach, Read, Write, Sync, Picture', Copy, Drop, DropPicture}
use Rattle.wire.specs.Calls.{Decoded, is_refused}
use Rattle.wire.specs.Answers.{answer_bytes}
use Rattle.volumes.specs.declared.head.Head.{Head}
use Rattle.volumes.specs.Service.{Service, Served, is_head, attaches_head, held, serves}
use Rattle.volumes.specs.Simulation.{read_at, needed}
use Rattle.pieces.specs.Replaces.{Held}
use Rattle.served.specs.Served.{decoded_call}
use Rattle.store.specs.declared.store.Unserved.{Unserved}
use Rattle.store.specs.Stores.{Stored, sector_of, served, reply, next, after, IsOld, DoesServe}

module _ (room : ℕ) (r : Service) (h : Held) where
  abbrev Fine : List ℕ → Served → Type 0
  Fine b s = IsOld s.change h b

  on_held : (b : List ℕ) (t : ℕ) (hs : List Head) (F : Head → Served) → ((x : Head) → Fine b (F x)) → Fine b (held t hs F r)
  on_held b t [] F f = tt
  on_held b t (x ∷ hs) F f = by_test (Fine b) (eqb t 0 || not (eqb t x.token.0)) (λ _. tt) (λ _. f x)

  on_attach : (b : List ℕ) (v : ℕ) (hs : List Head) → Fine b (attaches_head v hs r)
  on_attach b v [] = tt
  on_attach b v (x ∷ hs) = by_test (Fine b) (nat_le 4611686018427387903 x.token.0) (λ _. tt) (λ _. tt)

  pub old_of : (c : Call) → IsOld (serves room c (read_at (needed c) (sector_of h)) r).change h (read_at (needed c) (sector_of h))
  unfolding serves
  old_of (Make z) =
      by_test (Fine (read_at (needed (Make z)) (sector_of h))) (eqb z 0 || nat_lt 1099511627776 z) (λ _. tt)
      (λ _. by_test (Fine (read_at (needed (Make z)) (sector_of h))) (nat_le 4096 (length r.heads) || nat_le 4611686018427387904 r.next) (λ _. tt)
      (λ _. by_test (Fine (read_at (needed (Make z)) (sector_of h))) (nat_lt room (r.weight + 64)) (λ _. tt) (λ _. tt)))
  old_of (Attach v) = on_attach _ v (find (is_head v) r.heads)
  old_of (Read v t n) = on_held _ t _ _ (λ x. by_test (Fine (sector_of h v n)) (nat_lt n x.size.0) (λ _. tt) (λ _. tt))
  old_of (Write v t n b) =
      on_held _ t _ _
      (λ x. by_test (Fine (sector_of h v n)) (nat_lt n x.size.0) (λ _. by_test (Fine (sector_of h v n)) (all_zero (sector_of h v n) && not (all_zero b) && nat_lt room (r.weight + 1)) (λ _. tt) (λ _. refl)) (λ _. tt))
  old_of (Sync v t) = on_held _ t _ _ (λ x. tt)
  old_of (Picture' v t) = tt
  old_of (Copy p) = tt
  old_of (Drop v t) = on_held _ t _ _ (λ x. tt)
  old_of (DropPicture p) = tt

  -- so for what was read and what is served of it
  pub old_here : (c : Call) (b : List ℕ) (g : Served) → b ≡ read_at (needed c) (sector_of h) → g ≡ serves room c b r → IsOld g.change h b
  old_here c b g e q = subst (λ (x : Served). IsOld x.change h b) (sym q) (subst (λ (x : List ℕ). IsOld (serves room c x r).change h x) (sym e) (old_of c))

-- bytes that were answered were as the service says
pub as_said : (o : List ℕ) (d : Decoded) (s t : Stored) (r : Result (List ℕ) Unserved) → d ≡ decoded_call o → DoesServe d s r t → IfOk r (λ a. (a ≡ reply o s) × (t ≡ next o s))
unfolding reply next
as_said o d s t (Ok a) e f = subst (λ (x : Decoded). DoesServe x s (Ok a) t) e f
as_said o d s t (Err x) e f = tt

-- a refusal changes nothing
pub refused_said : (o : List ℕ) (n : ℕ) (s : Stored) (a b : List ℕ) → is_refused n ≡ decoded_call o → a ≡ b → b ≡ answer_bytes (No n) → (a ≡ reply o s) × (s ≡ next o s)
unfolding reply next
refused_said o n s a b e f g = subst (λ (x : Decoded). (a ≡ answer_bytes (served x s).reply) × (s ≡ after (served x s) s)) e (f ∙ g, refl)
