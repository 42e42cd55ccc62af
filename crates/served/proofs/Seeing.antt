-- What is seen of blocks, by whether they are gone.
use Rattle.std.proofs.Common.{◌≡◌, ℕ, Bool, true, false, cond, ◌⊎◌, sym, ap, ◌∙◌, inl, inr}
use mathlib.Core.Path.{fun_ext}
use Rattle.volumes.specs.Service.{Service}
use Rattle.served.specs.Blocks.{Block, empty_block}
use Rattle.served.specs.Room.{is_gone}
use Rattle.served.specs.Served.{seen}

pub seen-living : (r : Service) (f : ℕ → Block) (k : ℕ) → is_gone r k ≡ false → seen r f k ≡ f k
unfolding seen
seen-living r f k e = ap (λ (b : Bool). cond b empty_block (f k)) e

pub seen-gone : (r : Service) (f : ℕ → Block) (k : ℕ) → is_gone r k ≡ true → seen r f k ≡ empty_block
unfolding seen
seen-gone r f k e = ap (λ (b : Bool). cond b empty_block (f k)) e

-- what differs in what is gone alone is seen the same
pub seen-same : (r : Service) (f g : ℕ → Block) → ((k : ℕ) → (is_gone r k ≡ true) ⊎ (f k ≡ g k)) → seen r f ≡ seen r g
unfolding seen
seen-same r f g e = fun_ext (λ k. one k (e k))
  where
    one : (k : ℕ) → (is_gone r k ≡ true) ⊎ (f k ≡ g k) → seen r f k ≡ seen r g k
    one k (inl d) = seen-gone r f k d ∙ sym (seen-gone r g k d)
    one k (inr d) = ap (λ (b : Block). cond (is_gone r k) empty_block b) d
