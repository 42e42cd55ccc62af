-- Old tokens do nothing. A volume's number is never given again, and its token only grows; so once a token was given, what is found under
-- the number has at least that token, and a call under an older one is refused.
use Rattle.std.specs.Prelude.{◌≡◌, refl, ◌⊎◌, ◌&&◌, ◌||◌, not, ℕ, ◌+◌, ◌<◌, ◌≤◌, eqb, leb, length}
use Rattle.std.proofs.Common.{ap, inl, inr, arith}
use mathlib.Core.List.{List, [], ◌∷◌}
use Rattle.disks.specs.Device.{all_bytes}
use Rattle.disks.specs.Disks.{Volume, State, blank, find, Attach, Token, Out, no, attaches, holding, does}
use Rattle.disks.specs.Promise.{Run, OldTokensNothing, Refused, OldTokensRefused}
use Rattle.disks.proofs.Steps.{nothing, made, changed, dropped, taken, thrown, Move, called, shortened, along, on_cond}
use Rattle.disks.proofs.Found.{Head, at, weaken, head_num, head_change, head_changed, head_append, head_keep, head_cut}

low_step : {s u : State} → ((v : ℕ) → Head (λ (x : Volume). v < s.next) (at v s)) → Move s u → (v : ℕ) → Head (λ (x : Volume). v < u.next) (at v u)
low_step h (called nothing) v = h v
low_step {s} h (called (made x e)) v = head_append (λ (x : Volume). v < s.next + 1) v x (λ q. omega arith) s.volumes (weaken _ _ (at v s) (λ x l. omega arith) (h v))
low_step {s} h (called (changed w f nums toks)) v = head_change (λ (x : Volume). v < s.next) v w f nums (λ x l. l) s.volumes (h v)
low_step {s} h (called (dropped w)) v = head_keep (λ (x : Volume). v < s.next) v w s.volumes (h v)
low_step {s} h (called (taken p e)) v = weaken _ _ (at v s) (λ x l. omega arith) (h v)
low_step h (called (thrown f)) v = h v
low_step {s} h (shortened ws x) v = head_cut (λ (x : Volume). v < s.next) (λ (x : Volume). v < s.next) v (λ x l. l) (λ x d a l. l) x (h v)

-- its number is never given again, and its token only grows
record Past (v k : ℕ) (s : State) : Type 0 where
  below : v < s.next
  token : Head (λ (x : Volume). k ≤ x.token) (at v s)

past_step : (v k : ℕ) {s u : State} → Past v k s → Move s u → Past v k u
past_step v k h (called nothing) = h
past_step v k {s} h (called (made x e)) = record { below = omega (arith, h.below); token = head_append (λ (x : Volume). k ≤ x.token) v x (λ q. absurd (omega (arith, h.below))) s.volumes h.token }
past_step v k {s} h (called (changed w f nums toks)) = record { below = h.below; token = head_change (λ (x : Volume). k ≤ x.token) v w f nums (λ x l. omega (arith, toks x)) s.volumes h.token }
past_step v k {s} h (called (dropped w)) = record { below = h.below; token = head_keep (λ (x : Volume). k ≤ x.token) v w s.volumes h.token }
past_step v k h (called (taken p e)) = record { below = omega (arith, h.below); token = h.token }
past_step v k h (called (thrown f)) = record { below = h.below; token = h.token }
past_step v k h (shortened ws x) = record { below = h.below; token = head_cut (λ (x : Volume). k ≤ x.token) (λ (x : Volume). k ≤ x.token) v (λ x l. l) (λ x d a l. omega arith) x h.token }

-- what an attaching leaves
past_attach : (v k z : ℕ) (s : State) (l : List Volume) → at v s ≡ l → Head (λ (x : Volume). v < s.next) l → Head (λ (x : Volume). v ≡ x.num) l → (attaches l s).reply ≡ Token k z → Past v k (attaches l s).state
unfolding attaches
past_attach v k z s [] p h n e = absurd (cc e)
past_attach v k z s (x ∷ xs) p h n e =
    on_cond (λ (o : Out). o.reply ≡ Token k z → Past v k o.state) (leb 4611686018427387903 x.token) (λ _ e. absurd (cc e))
    (λ _ e. let q : k ≡ x.token + 1 = cc e in record { below = h; token = rw (← n) (head_changed (λ (y : Volume). k ≤ y.token) v _ (λ y. refl) s.volumes (rw p (omega (arith, q)))) }) e

-- what is found under the number of a volume that was attached has a token above an older one
newer : (s t : State) → Run blank s → (v k z : ℕ) → (does (Attach v) s).reply ≡ Token k z → Run (does (Attach v) s).state t → (o : ℕ) → o < k → Head (λ (x : Volume). o < x.token) (at v t)
unfolding does
newer s t r v k z e u o lt = weaken _ _ (at v t) (λ x l. omega arith) (along (Past v k) (λ s u. past_step v k) u (past_attach v k z s (at v s) refl (low v) (head_num v s.volumes) e)).token
  where
    low : (w : ℕ) → Head (λ (x : Volume). w < s.next) (at w s)
    low = along (λ (s : State). (w : ℕ) → Head (λ (x : Volume). w < s.next) (at w s)) (λ s u. low_step) r (λ w. unfold find in tt)

refused-holding : (o : ℕ) (l : List Volume) (f : Volume → Out) (s : State) → Head (λ (x : Volume). o < x.token) l → Refused (holding o l f s) s
unfolding holding
refused-holding o [] f s h = inr refl
refused-holding o (x ∷ xs) f s h = on_cond (λ (r : Out). Refused r s) (eqb o 0 || not (eqb o x.token)) (λ u. inl refl) (λ u. absurd (grind arith))

pub old_tokens_refused : OldTokensRefused
unfolding does
old_tokens_refused s t r v k z n b e u o lt =
    (refused-holding o (at v t) _ t h, on_cond (λ (r : Out). Refused r t ⊎ (r ≡ no 1 t)) (not (eqb (length b) 512 && all_bytes b)) (λ u. inr refl) (λ u. inl (refused-holding o (at v t) _ t h)), refused-holding o (at v t) _ t h, refused-holding o (at v t) _ t h, refused-holding o (at v t) _ t h)
  where
    h : Head (λ (x : Volume). o < x.token) (at v t)
    h = newer s t r v k z e u o lt

-- what is refused changes nothing
unchanged : {o : Out} {s : State} → Refused o s → o.state ≡ s
unchanged (inl e) = ap (λ (r : Out). r.state) e
unchanged (inr e) = ap (λ (r : Out). r.state) e

pub old_tokens_nothing : OldTokensNothing
old_tokens_nothing s t r v k z n b e u o lt =
    let (reads, writes, syncs, drops, takes) = old_tokens_refused s t r v k z n b e u o lt in
    (elim writes [ inl x ↦ unchanged x | inr x ↦ ap (λ (r : Out). r.state) x ], unchanged syncs, unchanged drops, unchanged takes)
