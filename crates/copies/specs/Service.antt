-- The service that is replicated, and how a house keeps its blocks.
-- Assumes nothing.
use Rattle.std.specs.Prelude.{◌≡◌, ◌⊎◌, ℕ, ◌<◌, ◌≤◌, max, Bool, true, false, cond, ◌&&◌, List, [], ◌∷◌, Option, Some, None, nat_lt, nat_le, ◌==◌}

-- a block that changes
pub record Change (B : Type 0) : Type 0 where
  pub key : ℕ
  pub block : B

-- A deterministic service. Its state is blocks under keys, and a rest that is small. Replies are kept and sent as they are, and shown to
-- customers by `says`, so that none is busy.
pub record Service (O R : Type 0) : Type 1 where
  pub Rest : Type 0
  pub Block : Type 0
  pub A : Type 0
  pub first : Rest
  pub empty : Block
  -- of a call, at a rest and blocks: the reply, the rest afterwards, and which blocks change
  pub reply : O → Rest → (ℕ → Block) → A
  pub next : O → Rest → (ℕ → Block) → Rest
  pub changes : O → Rest → (ℕ → Block) → List (Change Block)
  -- a block that no call will ask for again
  pub gone : Rest → ℕ → Bool
  -- what there is room for: no call leaves more
  pub HasRoom : Rest → (ℕ → Block) → Type 0
  pub says : A → R
  pub busy : R

-- a block as it is kept: with the version at which it last changed
pub record Stamped (B : Type 0) : Type 0 where
  pub key : ℕ
  pub stamp : ℕ
  pub block : B

-- blocks from a key on, up to another key, or to the end
pub record Portion (B : Type 0) : Type 0 where
  pub next : Option ℕ
  pub blocks : List (Stamped B)

-- How a house keeps blocks. A block that is empty may be forgotten with its stamp; the floor is no lower than any stamp so forgotten.
pub record Keeper {O R : Type 0} (sv : Service O R) : Type 1 where
  pub Kept : Type 0
  pub none : Kept
  pub look : Kept → ℕ → sv.Block
  pub stamp : Kept → ℕ → ℕ
  pub floor : Kept → ℕ
  -- blocks change at a version
  pub write : sv.Rest → (version : ℕ) → List (Change sv.Block) → Kept → Kept
  -- the blocks from a key on with a stamp above the base, or all, as many as go into one packet
  pub portion : sv.Rest → (whole : Bool) → (base key : ℕ) → Kept → Portion sv.Block
  -- a portion is taken over: what stands in its range and isn't in it stays, or goes if it is whole; none, if there is no place for it
  pub take : sv.Rest → (whole : Bool) → (key : ℕ) → (next : Option ℕ) → (floor : ℕ) → List (Stamped sv.Block) → Kept → Option Kept

-- is the key in the range that begins there?
abbrev pub in_range : ℕ → Option ℕ → ℕ → Bool
in_range key None k = nat_le key k
in_range key (Some n) k = nat_le key k && nat_lt k n

module _ {B : Type 0} where
  unfoldable pub overwritten : List (Change B) → (ℕ → B) → ℕ → B
  overwritten [] f = f
  overwritten (c ∷ cs) f = overwritten cs (λ k. cond (k == c.key) c.block (f k))

  unfoldable pub lookup : ℕ → List (Stamped B) → Option (Stamped B)
  lookup k [] = None
  lookup k (b ∷ bs) = cond (k == b.key) (Some b) (lookup k bs)

-- What a service must be: gone stays gone, and no call asks for what is gone; there is room for what calls leave.
pub record Lawful {O R : Type 0} (sv : Service O R) : Type 0 where
  pub gone_stays : (o : O) (r : sv.Rest) (f : ℕ → sv.Block) (k : ℕ) → sv.gone r k ≡ true → sv.gone (sv.next o r f) k ≡ true
  pub agrees : (o : O) (r : sv.Rest) (f g : ℕ → sv.Block) → ((k : ℕ) → (sv.gone r k ≡ true) ⊎ (f k ≡ g k)) →
      (sv.reply o r f ≡ sv.reply o r g) × (sv.next o r f ≡ sv.next o r g) × (sv.changes o r f ≡ sv.changes o r g)
  pub room_first : sv.HasRoom sv.first (λ k. sv.empty)
  pub room_stays : (o : O) (r : sv.Rest) (f : ℕ → sv.Block) → sv.HasRoom r f → sv.HasRoom (sv.next o r f) (overwritten (sv.changes o r f) f)
  pub room_same : (r : sv.Rest) (f g : ℕ → sv.Block) → ((k : ℕ) → (sv.gone r k ≡ true) ⊎ (f k ≡ g k)) → sv.HasRoom r f → sv.HasRoom r g
  pub unlike : (a : sv.A) → sv.says a ≡ sv.busy → ⊥

module _ {O R : Type 0} (sv : Service O R) (kp : Keeper sv) where
  -- no stamp that was ever forgotten is above it
  abbrev pub age : kp.Kept → ℕ → ℕ
  age s k = max (kp.stamp s k) (kp.floor s)

  -- what a portion says of a key in its range
  abbrev pub Portioned : (whole : Bool) (base : ℕ) → kp.Kept → ℕ → Option (Stamped sv.Block) → Type 0
  Portioned whole base s k (Some b) = (b.block ≡ kp.look s k) × (b.stamp ≡ kp.stamp s k)
  Portioned true base s k None = (kp.look s k ≡ sv.empty) × (kp.stamp s k ≤ kp.floor s)
  Portioned false base s k None = kp.stamp s k ≤ base

  -- what a key in its range is when it was taken over
  abbrev pub Taken : (whole : Bool) (floor : ℕ) → kp.Kept → kp.Kept → ℕ → Option (Stamped sv.Block) → Type 0
  Taken whole floor s t k (Some b) = (kp.look t k ≡ b.block) × (b.stamp ≤ age t k)
  Taken true floor s t k None = kp.look t k ≡ sv.empty
  Taken false floor s t k None = (kp.look t k ≡ kp.look s k) × (age s k ≤ age t k)

  -- What a keeper must be, of all keys that aren't gone. It need write no more than there is room for.
  pub record Keeps : Type 1 where
    pub none_empty : (k : ℕ) → kp.look kp.none k ≡ sv.empty
    pub write_look : (r : sv.Rest) (v : ℕ) (cs : List (Change sv.Block)) (s : kp.Kept) (k : ℕ) → sv.HasRoom r (overwritten cs (kp.look s)) → sv.gone r k ≡ false → kp.look (kp.write r v cs s) k ≡ overwritten cs (kp.look s) k
    -- a block has the version as its stamp, or is what it was
    pub write_age : (r : sv.Rest) (v : ℕ) (cs : List (Change sv.Block)) (s : kp.Kept) (k : ℕ) → sv.HasRoom r (overwritten cs (kp.look s)) → sv.gone r k ≡ false →
        (v ≤ age (kp.write r v cs s) k) ⊎ ((overwritten cs (kp.look s) k ≡ kp.look s k) × (age s k ≤ age (kp.write r v cs s) k))
    pub portion_is : (r : sv.Rest) (whole : Bool) (base key : ℕ) (s : kp.Kept) (k : ℕ) → sv.gone r k ≡ false → in_range key (kp.portion r whole base key s).next k ≡ true →
        Portioned whole base s k (lookup k (kp.portion r whole base key s).blocks)
    pub take_in : (r : sv.Rest) (whole : Bool) (key : ℕ) (next : Option ℕ) (floor : ℕ) (bs : List (Stamped sv.Block)) (s t : kp.Kept) (k : ℕ) → kp.take r whole key next floor bs s ≡ Some t → sv.gone r k ≡ false → in_range key next k ≡ true → Taken whole floor s t k (lookup k bs)
    pub take_out : (r : sv.Rest) (whole : Bool) (key : ℕ) (next : Option ℕ) (floor : ℕ) (bs : List (Stamped sv.Block)) (s t : kp.Kept) (k : ℕ) → kp.take r whole key next floor bs s ≡ Some t → sv.gone r k ≡ false → in_range key next k ≡ false → (kp.look t k ≡ kp.look s k) × (age s k ≤ age t k)
    pub take_floor : (r : sv.Rest) (whole : Bool) (key : ℕ) (next : Option ℕ) (floor : ℕ) (bs : List (Stamped sv.Block)) (s t : kp.Kept) → kp.take r whole key next floor bs s ≡ Some t → floor ≤ kp.floor t
    -- a pass comes to its end
    pub left : kp.Kept → ℕ → ℕ
    pub most : ℕ
    pub left_most : (s : kp.Kept) (k : ℕ) → left s k ≤ most
    pub left_falls : (r : sv.Rest) (whole : Bool) (base key n : ℕ) (s : kp.Kept) → (kp.portion r whole base key s).next ≡ Some n → left s n < left s key
    -- from nothing, what another has is taken over whole
    pub Fit : sv.Rest → kp.Kept → kp.Kept → Type 0
    pub fit_none : (r : sv.Rest) (s : kp.Kept) → Fit r s kp.none
    pub fit_take : (r q : sv.Rest) (whole : Bool) (base key : ℕ) (s t : kp.Kept) → Fit r s t →
        (u : kp.Kept) × (kp.take q whole key (kp.portion r whole base key s).next (kp.floor s) (kp.portion r whole base key s).blocks t ≡ Some u) × Fit r s u
