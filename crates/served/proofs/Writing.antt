-- What sectors hold when one of a block is written.
use Rattle.std.proofs.Common.{◌≡◌, ℕ, ◌%◌, ◌<◌, Bool, true, false, cond, ◌&&◌, ◌≢◌, List, length, get_or, set, eqb, sym, refl, ap, ◌∙◌, arith, eqb-true, eq-eqb, length-set}
use borrow.Author.Tests.{eqb-false}
use Rattle.std.proofs.lemmas.List.{get_or-set_same, get_or-set_other}
use Rattle.std.proofs.lemmas.List.Elements.{All-set}
use Rattle.agreement.proofs.Base.{by_test}
use Rattle.disks.specs.Device.{zeros}
use Rattle.served.specs.Blocks.{Block, key_at, sector_in, with_sector}
use Rattle.served.specs.Room.{IsBlock}
use Rattle.served.proofs.Living.{never}

-- a block with a sector written, under its key
abbrev pub over : (ℕ → Block) → (volume sector : ℕ) → List ℕ → ℕ → Block
over g v n b k = cond (eqb k (key_at v n)) (with_sector n b (g (key_at v n))) (g k)

pub on_both : {A : Type 0} (P : A → Type 0) (a c : Bool) {x y : A} → (a ≡ true → c ≡ true → P x) → ((a ≡ true → c ≡ true → ⊥) → P y) → P (cond (a && c) x y)
on_both P true true f g = f refl refl
on_both P true false f g = g (λ _ q. never (sym q))
on_both P false c f g = g (λ q _. never (sym q))

pub sector-over : (g : ℕ → Block) (v n w m : ℕ) (b : List ℕ) → n < 1099511627776 → m < 1099511627776 → length (g (key_at v n)) ≡ 8 → sector_in (over g v n b) w m ≡ cond (eqb w v && eqb m n) b (sector_in g w m)
sector-over g v n w m b l k e = by_test (λ (x : Block). get_or x (m % 8) (zeros 512) ≡ cond (eqb w v && eqb m n) b (sector_in g w m)) (eqb (key_at w m) (key_at v n)) inside outside
  where
    inside : eqb (key_at w m) (key_at v n) ≡ true → get_or (set (g (key_at v n)) (n % 8) b) (m % 8) (zeros 512) ≡ cond (eqb w v && eqb m n) b (sector_in g w m)
    inside t =
        let key : key_at w m ≡ key_at v n = eqb-true (key_at w m) (key_at v n) t in
        on_both (λ (x : List ℕ). get_or (set (g (key_at v n)) (n % 8) b) (m % 8) (zeros 512) ≡ x) (eqb w v) (eqb m n)
        (λ _ q. ap (λ (i : ℕ). get_or (set (g (key_at v n)) (n % 8) b) (i % 8) (zeros 512)) (eqb-true m n q) ∙ get_or-set_same (g (key_at v n)) (n % 8) b (zeros 512) (omega (arith, e)))
        (λ apart. get_or-set_other (g (key_at v n)) (n % 8) (m % 8) b (zeros 512) (λ i. apart (eq-eqb w v (omega (arith, key))) (eq-eqb m n (omega (arith, key, i)))) ∙ ap (λ (x : ℕ). get_or (g x) (m % 8) (zeros 512)) (sym key))

    outside : eqb (key_at w m) (key_at v n) ≡ false → sector_in g w m ≡ cond (eqb w v && eqb m n) b (sector_in g w m)
    outside t =
        let other : key_at w m ≢ key_at v n = eqb-false (key_at w m) (key_at v n) t in
        on_both (λ (x : List ℕ). sector_in g w m ≡ x) (eqb w v) (eqb m n) (λ p q. absurd (other (omega (arith, eqb-true w v p, eqb-true m n q)))) (λ _. refl)

-- the same where the sector held that already
pub sector-held : (g : ℕ → Block) (v n w m : ℕ) (b : List ℕ) → sector_in g v n ≡ b → sector_in g w m ≡ cond (eqb w v && eqb m n) b (sector_in g w m)
sector-held g v n w m b e =
    on_both (λ (x : List ℕ). sector_in g w m ≡ x) (eqb w v) (eqb m n) (λ p q. ap (λ (x : ℕ). sector_in g x m) (eqb-true w v p) ∙ ap (λ (x : ℕ). sector_in g v x) (eqb-true m n q) ∙ e) (λ _. refl)

-- whole sectors stay whole
pub block-over : (n : ℕ) (b : List ℕ) (x : Block) → length b ≡ 512 → IsBlock x → IsBlock (with_sector n b x)
block-over n b x e p = record { eight = length-set x (n % 8) b ∙ p.eight; whole = All-set (λ (s : List ℕ). length s ≡ 512) x (n % 8) b e p.whole }
