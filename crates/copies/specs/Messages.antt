-- What is agreed on, what a house keeps of it, and what houses say to each other.
-- Assumes nothing.
use Rattle.std.specs.Prelude.{ℕ, Bool, true, false, ◌&&◌, ◌||◌, List, [], Option, Some, None, nat_lt, ◌==◌}
use Rattle.agreement.specs.Copies.{Proposal}
use Rattle.copies.specs.Service.{Stamped}

-- a customer's call
pub record Item (O : Type 0) : Type 0 where
  pub id : ℕ
  pub call : O

-- The calls that a house sends together. Its number is the house's incarnation and a counter.
pub record Bundle (O : Type 0) : Type 0 where
  pub house : ℕ
  pub incarnation : ℕ
  pub counter : ℕ
  pub calls : List (Item O)

abbrev pub Command : Type 0 → Type 0
Command O = List (Bundle O)

pub record Reply (A : Type 0) : Type 0 where
  pub id : ℕ
  pub reply : A

-- the last bundle of a house that was done: its number, and the replies
pub record Session (A : Type 0) : Type 0 where
  pub incarnation : ℕ
  pub counter : ℕ
  pub replies : List (Reply A)

-- A copy that recovers has each block as of some version from base to top.
pub data Recovery : Type 0 where
  level : Recovery
  recovers : (base top : ℕ) → Recovery

abbrev pub is_level : Recovery → Bool
is_level level = true
is_level (recovers a t) = false

-- What a copy stores of the agreement. promised: the highest ballot that it has seen; version: how many commands it has applied; last:
-- the ballot under which the last was decided, as far as it was told; proposal: what it proposes itself for the next place.
pub record Agreeing (O : Type 0) : Type 0 where
  pub promised : ℕ
  pub version : ℕ
  pub last : ℕ
  pub proposal : Proposal (Command O)
  pub recovery : Recovery

-- what a copy says of itself
pub record Status (O : Type 0) : Type 0 where
  pub promised : ℕ
  pub version : ℕ
  pub last : ℕ
  pub proposal : Proposal (Command O)
  pub recovering : Bool

-- blocks are asked for, from a key on, by a copy that recovers
pub record Want : Type 0 where
  pub base : ℕ
  pub top : ℕ
  pub key : ℕ

-- How a part ends: the rest of the blocks is to be asked for from a key on, or it was the last, and the state's rest comes with it.
pub data Tail (X A : Type 0) : Type 0 where
  more : (key : ℕ) → Tail X A
  ends : X → (ℕ → Session A) → Tail X A

-- The blocks that were asked for, as they are at a version. Whole: what stands in the range and isn't among them is empty.
pub record Part (X B A : Type 0) : Type 0 where
  pub asked : Want
  pub promised : ℕ
  pub version : ℕ
  pub last : ℕ
  pub whole : Bool
  pub floor : ℕ
  pub blocks : List (Stamped B)
  pub tail : Tail X A

-- where its range ends
abbrev pub next_key : {X A : Type 0} → Tail X A → Option ℕ
next_key (more k) = Some k
next_key (ends x done) = None

pub data Message (X B O A : Type 0) : Type 0 where
  Bundled : Bundle O → Message X B O A
  Done : Session A → Message X B O A
  Told : Status O → Message X B O A
  Asked : Want → Message X B O A
  Given : Part X B A → Message X B O A

-- is number (i, c) above (j, d)?
abbrev pub above : (i c j d : ℕ) → Bool
above i c j d = nat_lt j i || (j == i && nat_lt d c)

abbrev pub unused : {A : Type 0} → Session A
unused = record { incarnation = 0; counter = 0; replies = [] }
