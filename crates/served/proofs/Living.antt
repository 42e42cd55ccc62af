-- What is gone stays gone.
use Rattle.std.proofs.Common.{◌≡◌, ℕ, ◌+◌, Bool, true, false, cond, not, ◌&&◌, ◌||◌, List, [], ◌∷◌, ◌++◌, eqb, leb, sym, refl, ap, ◌∙◌, arith}
use Rattle.std.specs.List.{list_any}
use Rattle.std.proofs.lemmas.Bool.Decides.{nat_tests}
use Rattle.agreement.proofs.Base.{by_test}
use Rattle.disks.specs.Disks.{find, change}
use Rattle.volumes.specs.declared.head.Head.{Head}
use Rattle.volumes.specs.Service.{Service, Served, is_head, is_living, without}
use Rattle.served.specs.Blocks.{Block, volume_of}
use Rattle.served.specs.Room.{is_gone}
use Rattle.served.proofs.Steps.{Leaves, stays, reads, makes, attaches, writes, drops}

pub never : {A : Type 0} → ◌≡◌ {A = Bool} true false → A
never e = let z : ◌≡◌ {A = ℕ} 0 1 = cc in absurd (omega arith)

any_pushed : {A : Type 0} (p : A → Bool) (xs : List A) (y : A) → list_any p (xs ++ y ∷ []) ≡ (list_any p xs || p y)
any_pushed p [] y = go (p y)
  where
    go : (b : Bool) → (b || false) ≡ b
    go true = refl
    go false = refl
any_pushed p (x ∷ xs) y = go (p x) (any_pushed p xs y)
  where
    go : (b : Bool) → list_any p (xs ++ y ∷ []) ≡ (list_any p xs || p y) → (b || list_any p (xs ++ y ∷ [])) ≡ ((b || list_any p xs) || p y)
    go true ih = refl
    go false ih = ih

any_changed : (w v : ℕ) (j : Head → Head) (hs : List Head) → ((h : Head) → (j h).number.0 ≡ h.number.0) → list_any (is_head w) (change (is_head v) j hs) ≡ list_any (is_head w) hs
unfolding change
any_changed w v j [] e = refl
any_changed w v j (h ∷ hs) e =
    by_test (λ (ks : List Head). list_any (is_head w) ks ≡ list_any (is_head w) (h ∷ hs)) (is_head v h) (λ _. ap (λ (n : ℕ). eqb w n || list_any (is_head w) hs) (e h))
    (λ _. ap (λ (b : Bool). is_head w h || b) (any_changed w v j hs e))

or_right : (a b : Bool) → b ≡ true → (a || b) ≡ true
or_right true b e = refl
or_right false b e = e

or_more : (a b c : Bool) → (b ≡ true → c ≡ true) → (a || b) ≡ true → (a || c) ≡ true
or_more true b c f e = refl
or_more false b c f e = f e

and_more : (a b c : Bool) → (b ≡ true → c ≡ true) → (a && b) ≡ true → (a && c) ≡ true
and_more true b c f e = f e
and_more false b c f e = e

any_without : {A : Type 0} (p q : A → Bool) (xs : List A) → list_any p (without q xs) ≡ true → list_any p xs ≡ true
unfolding without
any_without p q [] = λ e. e
any_without p q (x ∷ xs) =
    by_test (λ ks. list_any p ks ≡ true → list_any p (x ∷ xs) ≡ true) (q x) (λ _. or_right (p x) (list_any p xs))
    (λ _. or_more (p x) (list_any p (without q xs)) (list_any p xs) (any_without p q xs))

-- of a head that is found
pub any_found : (v : ℕ) (hs : List Head) (h : Head) → find (is_head v) hs ≡ h ∷ [] → list_any (is_head v) hs ≡ true
unfolding find
any_found v [] h e = let z : ◌≡◌ {A = ℕ} 0 1 = cc in absurd (omega arith)
any_found v (x ∷ hs) h e = go (is_head v x) (any_found v hs h) e
  where
    go : (b : Bool) → (find (is_head v) hs ≡ h ∷ [] → list_any (is_head v) hs ≡ true) → cond b (x ∷ []) (find (is_head v) hs) ≡ h ∷ [] → (b || list_any (is_head v) hs) ≡ true
    go true ih f = refl
    go false ih f = ih f

living_made : (n w : ℕ) (x : Bool) → (not (eqb w 0) && (leb (n + 1) w || (x || eqb w n))) ≡ true → (not (eqb w 0) && (leb n w || x)) ≡ true
living_made n w true e = grind (arith, nat_tests)
living_made n w false e = grind (arith, nat_tests)

-- a volume that lives afterwards lived before
pub lived : (room : ℕ) (r : Service) (f : ℕ → Block) (s : Served) → Leaves room r f s → (w : ℕ) → is_living s.service.next s.service.heads w ≡ true → is_living r.next r.heads w ≡ true
lived room r f s (stays a c) w e = e
lived room r f s (reads v n h g l) w e = e
lived room r f s (makes z l i j m) w e =
    living_made r.next w (list_any (is_head w) r.heads) (and_more (not (eqb w 0)) _ (leb (r.next + 1) w || (list_any (is_head w) r.heads || eqb w r.next)) (or_more (leb (r.next + 1) w) _ _ (λ g. sym (any_pushed (is_head w) r.heads _) ∙ g)) e)
lived room r f s (attaches v h g l) w e = and_more (not (eqb w 0)) _ (leb r.next w || list_any (is_head w) r.heads) (or_more (leb r.next w) _ _ (λ g. sym (any_changed w v _ r.heads (λ k. refl)) ∙ g)) e
lived room r f s (writes v n b h g l k x) w e = and_more (not (eqb w 0)) _ (leb r.next w || list_any (is_head w) r.heads) (or_more (leb r.next w) _ _ (λ g. sym (any_changed w v _ r.heads (λ k. refl)) ∙ g)) e
lived room r f s (drops v h g) w e = and_more (not (eqb w 0)) _ (leb r.next w || list_any (is_head w) r.heads) (or_more (leb r.next w) _ _ (any_without (is_head w) (is_head v) r.heads)) e

turned : (b c : Bool) → (b ≡ true → c ≡ true) → not c ≡ true → not b ≡ true
turned true c f e = sym (ap not (f refl)) ∙ e
turned false c f e = refl

pub gone-stays : (room : ℕ) (r : Service) (f : ℕ → Block) (s : Served) → Leaves room r f s → (k : ℕ) → is_gone r k ≡ true → is_gone s.service k ≡ true
gone-stays room r f s q k = turned _ _ (lived room r f s q (volume_of k))
