-- Which house a program runs.
-- Assumes nothing.
use Rattle.std.specs.Prelude.{ℕ, cond, ◌||◌, Some, None, Option, nat_le, nat_lt}
use Rattle.house.specs.declared.Place.{Place}

-- 3 to 49 houses, and a number below that
abbrev pub place_of : (me houses : ℕ) → Option Place
place_of me houses = cond (nat_lt houses 3 || nat_lt 49 houses || nat_le houses me) None (Some (record { me = record { 0 = me }; houses = houses }))
