-- What the code says of a whole event.
-- Assumes nothing.
use Rattle.std.specs.Prelude.{◌≡◌, ℕ, Bool, true, false, ◌&&◌, [], nat_le}
use Rattle.copies.specs.Messages.{Session, Message, Bundled, Done, Told, Asked, Given}
use Rattle.copies.specs.Copy.{Turn, rests, silent, count, pack, settle, forward, on_bundle, on_status, on_want, on_part}
use Rattle.copies.specs.Admits.{is_ready, is_house}
use Rattle.copies.specs.Views.{the_agreeing, the_sessions, the_memory, the_turn}
use Rattle.copies.specs.declared.number.HouseNumber.{HouseNumber}
use Rattle.copies.specs.declared.turn.House.{House}
use Rattle.copies.specs.declared.turn.Turn.{Turn as TurnHad}
use Rattle.copies.specs.declared.event.Heard.{Heard}
use Rattle.copies.specs.declared.event.Heard.TheVariants.{Passed, Begun}
use Rattle.copies.specs.declared.event.Called.{Called}
use Rattle.copies.specs.declared.event.Called.TheVariants as called

module _ {X B C A : Type 0} where
  -- an event begins
  abbrev pub begun : House C A → Turn X B C A
  begun h = record { agreeing = the_agreeing h.agreeing; sessions = the_sessions h.sessions; memory = the_memory h.memory; told = []; sends = silent; work = rests }

  -- replies of the bundle under way
  abbrev pub settles : Session A → Turn X B C A → Turn X B C A
  settles s t = forward (pack (settle s t.memory.way t))

  -- a message comes from house r
  abbrev pub hearing : ℕ → Message X B C A → Turn X B C A → Turn X B C A
  hearing r (Bundled b) t = forward (on_bundle b t)
  hearing r (Done s) t = settles s t
  hearing r (Told x) t = on_status r x t
  hearing r (Asked w) t = on_want r w t
  hearing r (Given x) t = on_part r x t

  -- an event that is admitted does f to the house, and one that isn't leaves it as it was
  abbrev pub Hears : Bool → (Turn X B C A → Turn X B C A) → House C A → Heard X B C A → Type 0
  Hears ok f h (Passed g) = (ok ≡ false) × (g ≡ h)
  Hears ok f h (Begun t) = (ok ≡ true) × (the_turn t ≡ f (begun h))

  -- so with a call, which is refused where eight wait
  abbrev pub Calls : Bool → (full : Bool) → (Turn X B C A → Turn X B C A) → House C A → Called X B C A → Type 0
  Calls ok full f h (called.Passed g) = (ok ≡ false) × (g ≡ h)
  Calls ok full f h (called.Busy g) = (ok ≡ true) × (full ≡ true) × (g ≡ h)
  Calls ok full f h (called.Begun t) = (ok ≡ true) × (full ≡ false) × (the_turn t ≡ f (begun h))

  -- what isn't named for storing is as it was
  abbrev pub Kept : House C A → TurnHad X B C A → Type 0
  Kept h t = (t.stores.agreeing ≡ false → the_agreeing t.house.agreeing ≡ the_agreeing h.agreeing) × (t.stores.sessions ≡ false → the_sessions t.house.sessions ≡ the_sessions h.sessions)

  abbrev pub KeptSince : TurnHad X B C A → TurnHad X B C A → Type 0
  KeptSince s t =
      (t.stores.agreeing ≡ false → (s.stores.agreeing ≡ false) × (the_agreeing t.house.agreeing ≡ the_agreeing s.house.agreeing)) ×
      (t.stores.sessions ≡ false → (s.stores.sessions ≡ false) × (the_sessions t.house.sessions ≡ the_sessions s.house.sessions))

  abbrev pub HearsKept : House C A → Heard X B C A → Type 0
  HearsKept h (Passed g) = Unit {0}
  HearsKept h (Begun t) = Kept h t

  abbrev pub CallsKept : House C A → Called X B C A → Type 0
  CallsKept h (called.Passed g) = Unit {0}
  CallsKept h (called.Busy g) = Unit {0}
  CallsKept h (called.Begun t) = Kept h t

module _ {C A : Type 0} where
  -- the house's own numbers leave room
  abbrev pub house_ready : House C A → Bool
  house_ready h = is_ready (the_agreeing h.agreeing) (the_memory h.memory)

  abbrev pub admits_from : House C A → HouseNumber → Bool
  admits_from h r = house_ready h && is_house r.0

  abbrev pub is_full : House C A → Bool
  is_full h = nat_le 8 (count (the_memory h.memory) (the_memory h.memory).way)
