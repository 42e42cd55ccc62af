-- What places hold when one is put: that place what is put, the others what they held.
use Rattle.std.proofs.Common.{◌≡◌, ℕ, suc, ◌+◌, Bool, true, false, cond, not, T, List, [], ◌∷◌, length, eqb, ltb, Some, None, Option, refl, sym, ap, ◌∙◌, subst, ◌==◌, eqb-true, arith}
use mathlib.Core.Path.{fun_ext}
use Rattle.std.specs.List.{position, position_or_len}
use Rattle.std.specs.Option.{option_map}
use Rattle.std.proofs.lemmas.Bool.{eq-eqb}
use Rattle.std.proofs.lemmas.Bool.Decides.{nat_tests}
use Rattle.disks.specs.Device.{zeros}
use Rattle.pieces.specs.declared.filled.Written.{Written}
use Rattle.pieces.specs.Meaning.{stored_at}
use Rattle.store.specs.Known.{is_at, written_at, bytes_in, bytes_at, known, put_in, put_at}

abbrev shifted : Bool → Option ℕ → Option ℕ
shifted true o = Some 0
shifted false o = option_map suc o

below_next : (p n : ℕ) → ltb (1 + p) (suc n) ≡ ltb p n
below_next p n = go (ltb p n) refl
  where
    go : (b : Bool) → ltb p n ≡ b → ltb (1 + p) (suc n) ≡ b
    go true e = grind (arith, nat_tests)
    go false e = grind (arith, nat_tests)

position_cons : {X : Type 0} (f : X → Bool) (x : X) (xs : List X) → position f (x ∷ xs) ≡ shifted (f x) (position f xs)
position_cons f x xs = go (f x)
  where
    by : (c : Bool) → cond c (Some (1 + position_or_len f xs)) None ≡ option_map suc (cond c (Some (position_or_len f xs)) None)
    by true = ap Some (omega arith)
    by false = refl

    go : (b : Bool) → cond (ltb (cond (not b) (1 + position_or_len f xs) 0) (suc (length xs))) (Some (cond (not b) (1 + position_or_len f xs) 0)) None ≡ shifted b (position f xs)
    go true = ap (λ (c : Bool). cond c (Some 0) None) (let z : ltb 0 (suc (length xs)) ≡ true = grind (arith, nat_tests) in z)
    go false = ap (λ (c : Bool). cond c (Some (1 + position_or_len f xs)) None) (below_next (position_or_len f xs) (length xs)) ∙ by (ltb (position_or_len f xs) (length xs))

bytes_cons : (w : Written) (ws : List Written) (p : ℕ) (o : List ℕ) → bytes_at (w ∷ ws) p o ≡ cond (is_at p w) w.bytes (bytes_at ws p o)
bytes_cons w ws p o = ap (λ x. bytes_in x (w ∷ ws) o) (position_cons (is_at p) w ws) ∙ go (is_at p w) (position (is_at p) ws)
  where
    go : (b : Bool) (x : Option ℕ) → bytes_in (shifted b x) (w ∷ ws) o ≡ cond b w.bytes (bytes_in x ws o)
    go true x = refl
    go false None = refl
    go false (Some i) = refl

put_cons : (w : Written) (ws : List Written) (p : ℕ) (bs : List ℕ) → put_at p bs (w ∷ ws) ≡ cond (is_at p w) (written_at w.place bs ∷ ws) (w ∷ put_at p bs ws)
put_cons w ws p bs = ap (λ x. put_in x p bs (w ∷ ws)) (position_cons (is_at p) w ws) ∙ go (is_at p w) (position (is_at p) ws)
  where
    go : (b : Bool) (x : Option ℕ) → put_in (shifted b x) p bs (w ∷ ws) ≡ cond b (written_at w.place bs ∷ ws) (w ∷ put_in x p bs ws)
    go true x = refl
    go false None = refl
    go false (Some i) = refl

-- of three numbers: where two are one, the third is both or none of them
eq_left : (a b c : ℕ) → (a == b) ≡ true → (a == c) ≡ (c == b)
eq_left a b c e = go (eqb c b) refl
  where
    go : (t : Bool) → eqb c b ≡ t → eqb a c ≡ t
    go true t = eq-eqb a c (eqb-true a b e ∙ sym (eqb-true c b t))
    go false t = grind (arith, nat_tests, eqb-true a b e)

eq_right : (a b c : ℕ) → (a == b) ≡ false → (a == c) ≡ true → (c == b) ≡ false
eq_right a b c n e = grind (arith, nat_tests, eqb-true a c e)

choose : {A : Type 0} (wp wq qp : Bool) (new old other there : A) → (wp ≡ true → wq ≡ qp) → (wp ≡ false → wq ≡ true → qp ≡ false) → there ≡ cond qp new other →
    cond wp (cond wq new other) (cond wq old there) ≡ cond qp new (cond wq old other)
choose true wq qp new old other there f g e = go wq qp (f refl)
  where
    go : (wq qp : Bool) → wq ≡ qp → cond wq new other ≡ cond qp new (cond wq old other)
    go true true e = refl
    go false false e = refl
    go true false e = absurd (subst T e tt)
    go false true e = absurd (subst T (sym e) tt)
choose false true qp new old other there f g e = ap (λ (b : Bool). cond b new old) (sym (g refl refl))
choose false false qp new old other there f g e = e

put_there : (ws : List Written) (p q : ℕ) (bs o : List ℕ) → bytes_at (put_at p bs ws) q o ≡ cond (q == p) bs (bytes_at ws q o)
put_there [] p q bs o = bytes_cons (written_at p bs) [] q o ∙ ap (λ (b : Bool). cond b bs o) (eq_left p p q (eq-eqb p p refl))
put_there (w ∷ ws) p q bs o = ap (λ (x : List Written). bytes_at x q o) (put_cons w ws p bs) ∙ go (is_at p w) ∙ choose (is_at p w) (is_at q w) (q == p) bs w.bytes (bytes_at ws q o) (bytes_at (put_at p bs ws) q o) (eq_left w.place p q) (eq_right w.place p q) (put_there ws p q bs o)
    ∙ ap (λ (x : List ℕ). cond (q == p) bs x) (sym (bytes_cons w ws q o))
  where
    go : (b : Bool) → bytes_at (cond b (written_at w.place bs ∷ ws) (w ∷ put_at p bs ws)) q o ≡ cond b (cond (is_at q w) bs (bytes_at ws q o)) (cond (is_at q w) w.bytes (bytes_at (put_at p bs ws) q o))
    go true = bytes_cons (written_at w.place bs) ws q o
    go false = bytes_cons w (put_at p bs ws) q o

-- A place that is put holds that, the others what they held.
pub known_put : (rs ws us : List Written) (p : ℕ) (bs : List ℕ) → us ≡ put_at p bs ws → known rs us ≡ stored_at (Some p) bs (known rs ws)
known_put rs ws us p bs e = ap (known rs) e ∙ fun_ext (λ q. put_there ws p q bs (bytes_at rs q (zeros 512)))
