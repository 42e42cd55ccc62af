-- What is found under a number: if anything, then one of which Q holds. Each change of the list of volumes keeps that, or brings it about.
use Rattle.std.specs.Prelude.{◌≡◌, Bool, true, false, cond, ◌||◌, not, ℕ, eqb, T}
use Rattle.std.proofs.Common.{sym, subst, eqb→eq, arith}
use mathlib.Core.List.{List, [], ◌∷◌, ◌++◌}
use Rattle.disks.specs.Device.{Device, AfterCut}
use Rattle.disks.specs.Disks.{Volume, State, keep, find, change, Out, no, is_volume, holding, cut_to, CutVolumes, no_more, left, is_cut}
use Rattle.disks.proofs.Steps.{on_cond}
use Rattle.std.proofs.Math.Facts.{T_not}

abbrev pub Head : {A : Type 0} → (A → Type 0) → List A → Type 0
Head Q [] = Unit {0}
Head Q (x ∷ xs) = Q x

abbrev pub at : ℕ → State → List Volume
at v s = find (is_volume v) s.volumes

pub weaken : {A : Type 0} (P Q : A → Type 0) (l : List A) → ((x : A) → P x → Q x) → Head P l → Head Q l
weaken P Q [] f h = tt
weaken P Q (x ∷ xs) f h = f x h

pub all_heads : {A : Type 0} (Q : A → Type 0) (l : List A) → ((x : A) → Q x) → Head Q l
all_heads Q [] f = tt
all_heads Q (x ∷ xs) f = f x

-- what is found is the first or is found in the rest, on both sides
pub head_cond : {A : Type 0} (P Q : A → Type 0) (b : Bool) {x y : A} (xs ys : List A) → (T b → P x → Q y) → (T (not b) → Head P xs → Head Q ys) → Head P (cond b (x ∷ []) xs) → Head Q (cond b (y ∷ []) ys)
head_cond P Q true xs ys f g h = f tt h
head_cond P Q false xs ys f g h = g tt h

pub head_num : (v : ℕ) (vs : List Volume) → Head (λ (x : Volume). v ≡ x.num) (find (is_volume v) vs)
unfolding find
head_num v [] = tt
head_num v (x ∷ xs) = on_cond (Head (λ (x : Volume). v ≡ x.num)) (eqb v x.num) (λ u. eqb→eq v x.num u) (λ u. head_num v xs)

-- a cut, where P of a volume gives Q of what is left of it
pub head_cut : (P Q : Volume → Type 0) (v : ℕ) → ((x : Volume) → P x → Q x) → ((x : Volume) (d : Device) → AfterCut x.disk d → P x → Q (cut_to d x)) → {vs ws : List Volume} → CutVolumes vs ws → Head P (find (is_volume v) vs) → Head Q (find (is_volume v) ws)
unfolding find
head_cut P Q v stays goes no_more h = tt
head_cut P Q v stays goes (left x y) h = head_cond P Q (eqb v x.num) _ _ (λ _. stays x) (λ _. head_cut P Q v stays goes y) h
head_cut P Q v stays goes (is_cut x d a y) h = head_cond P Q (eqb v x.num) _ _ (λ _. goes x d a) (λ _. head_cut P Q v stays goes y) h

module _ (Q : Volume → Type 0) (v : ℕ) where
  abbrev Finds : List Volume → Type 0
  Finds vs = Head Q (find (is_volume v) vs)

  pub head_change : (w : ℕ) (f : Volume → Volume) → ((x : Volume) → (f x).num ≡ x.num) → ((x : Volume) → Q x → Q (f x)) → (vs : List Volume) → Finds vs → Finds (change (is_volume w) f vs)
  unfolding find change
  head_change w f nums goes [] h = tt
  head_change w f nums goes (x ∷ xs) h =
      on_cond Finds (eqb w x.num) (λ _. subst (λ (n : ℕ). Head Q (cond (eqb v n) (f x ∷ []) (find (is_volume v) xs))) (sym (nums x)) (head_cond Q Q (eqb v x.num) _ _ (λ _. goes x) (λ _ k. k) h))
      (λ _. head_cond Q Q (eqb v x.num) _ _ (λ _ q. q) (λ _. head_change w f nums goes xs) h)

  -- the one that is found is the one that is changed
  pub head_changed : (f : Volume → Volume) → ((x : Volume) → (f x).num ≡ x.num) → (vs : List Volume) → Head (λ (x : Volume). Q (f x)) (find (is_volume v) vs) → Finds (change (is_volume v) f vs)
  unfolding find change
  head_changed f nums [] h = tt
  head_changed f nums (x ∷ xs) h =
      on_cond Finds (eqb v x.num) (λ u. subst (λ (n : ℕ). Head Q (cond (eqb v n) (f x ∷ []) (find (is_volume v) xs))) (sym (nums x)) (head_cond (λ (y : Volume). Q (f y)) Q (eqb v x.num) _ _ (λ _ q. q) (λ n. absurd (T_not _ u n)) h))
      (λ n. head_cond (λ (y : Volume). Q (f y)) Q (eqb v x.num) _ _ (λ u. absurd (T_not _ u n)) (λ _. head_changed f nums xs) h)

  pub head_append : (y : Volume) → (v ≡ y.num → Q y) → (vs : List Volume) → Finds vs → Finds (vs ++ (y ∷ []))
  unfolding find
  head_append y new [] h = on_cond (Head Q) (eqb v y.num) (λ u. new (eqb→eq v y.num u)) (λ u. tt)
  head_append y new (x ∷ xs) h = head_cond Q Q (eqb v x.num) _ _ (λ _ q. q) (λ _. head_append y new xs) h

  gone : (w : ℕ) → w ≡ v → (vs : List Volume) → Finds (keep (λ (y : Volume). not (is_volume w y)) vs)
  unfolding find keep
  gone w e [] = tt
  gone w e (x ∷ xs) = on_cond Finds (not (eqb w x.num)) (λ n. on_cond (Head Q) (eqb v x.num) (λ u. absurd (T_not _ u (rw e at n))) (λ _. gone w e xs)) (λ _. gone w e xs)

  pub head_keep : (w : ℕ) (vs : List Volume) → Finds vs → Finds (keep (λ (y : Volume). not (is_volume w y)) vs)
  unfolding find keep
  head_keep w [] h = tt
  head_keep w (x ∷ xs) h =
      on_cond Finds (not (eqb w x.num)) (λ _. head_cond Q Q (eqb v x.num) _ _ (λ _ q. q) (λ _. head_keep w xs) h)
      (λ n. on_cond (λ (ys : List Volume). Head Q ys → Finds (keep (λ (y : Volume). not (is_volume w y)) xs)) (eqb v x.num) (λ u _. gone w (grind arith) xs) (λ _. head_keep w xs) h)

-- holding, with what is known of the one that is found
pub on_found : (P : Out → Type 0) (Q : Volume → Type 0) (t : ℕ) (l : List Volume) (f : Volume → Out) (s : State) → P (no 2 s) → P (no 4 s) → Head Q l → ((x : Volume) → Q x → P (f x)) → P (holding t l f s)
unfolding holding
on_found P Q t [] f s a b h c = a
on_found P Q t (x ∷ xs) f s a b h c = on_cond P (eqb t 0 || not (eqb t x.token)) (λ u. b) (λ u. c x h)
