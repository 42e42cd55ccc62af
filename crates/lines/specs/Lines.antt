-- The lines that drive a house.
-- Assumes nothing.
use Rattle.std.specs.Prelude.{ℕ, cond, ◌&&◌, List, [], ◌∷◌, Some, None, vec_items, codes, Option, ◌==◌, nat_lt}
use Rattle.std.specs.Borrow.{Bor}
use Rattle.std.specs.Str.{bytes_eq}
use Rattle.lines.specs.declared.line.Line.{Line}
use Rattle.lines.specs.declared.line.Line.TheVariants as typed
use Rattle.lines.specs.Decimals.{decimal_of}
use Rattle.lines.specs.Hexes.{bytes_in}

-- two parts of a text
pub record Parts : Type 0 where
  pub front : List ℕ
  pub back : List ℕ

abbrev pub with_front : ℕ → Option Parts → Option Parts
with_front b None = None
with_front b (Some p) = Some (record { front = b ∷ p.front; back = p.back })

-- what stands before the first space, and what behind it
abbrev pub cut_at : List ℕ → Option Parts
cut_at [] = None
cut_at (b ∷ bs) = cond (b == 32) (Some (record { front = []; back = bs })) (with_front b (cut_at bs))

abbrev pub the_parts : (Bor (List ℕ)) × (Bor (List ℕ)) → Parts
the_parts p = record { front = p.0.now; back = p.1.now }

-- what a house is told
pub data Told : Type 0 where
  ask : (customer : ℕ) (call : List ℕ) → Told
  from : (house : ℕ) (packet : List ℕ) → Told
  tick : Told

abbrev pub the_line : Line → Told
the_line (typed.Ask n b) = ask n.0 (vec_items b)
the_line (typed.From j b) = from j.0 (vec_items b)
the_line typed.Tick = tick

-- a command with its number and its bytes; a house's number is below how many there are
abbrev pub told_by : (houses : ℕ) → List ℕ → Option ℕ → Option (List ℕ) → Option Told
told_by h word (Some n) (Some bs) = cond (bytes_eq word (codes "ask")) (Some (ask n bs)) (cond (bytes_eq word (codes "from") && nat_lt n h) (Some (from n bs)) None)
told_by h word (Some n) None = None
told_by h word None bs = None

abbrev pub argued : (houses : ℕ) → List ℕ → Option Parts → Option Told
argued h word None = None
argued h word (Some p) = told_by h word (decimal_of p.front) (bytes_in p.back)

abbrev pub commanded : (houses : ℕ) → Option Parts → Option Told
commanded h None = None
commanded h (Some p) = argued h p.front (cut_at p.back)

-- what a line tells: none where it is no such line
abbrev pub line_of : (houses : ℕ) → List ℕ → Option Told
line_of h text = cond (bytes_eq text (codes "tick")) (Some tick) (commanded h (cut_at text))
