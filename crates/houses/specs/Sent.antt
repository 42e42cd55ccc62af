-- What a house sends and answers, as bytes.
-- Assumes nothing.
use Rattle.std.specs.Prelude.{ℕ, List, vec_items}
use Rattle.houses.specs.declared.event.Output.{Output}
use Rattle.houses.specs.declared.event.Output.TheVariants.{Packet, Answer}

pub data Sent : Type 0 where
  -- to a house
  packet : ℕ → List ℕ → Sent
  -- to whom made a call
  answer : ℕ → List ℕ → Sent

abbrev pub the_output : Output → Sent
the_output (Packet h v) = packet h.0 (vec_items v)
the_output (Answer n v) = answer n.0 (vec_items v)
