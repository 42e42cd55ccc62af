-- What volumes weigh: 64 each, and one for each sector that holds anything but zeros.
-- Assumes nothing.
use Rattle.std.specs.Prelude.{ℕ, ◌+◌, List, [], ◌∷◌}
use Rattle.volumes.specs.declared.head.Head.{Head}

abbrev pub weighs : List Head → ℕ
weighs [] = 0
weighs (h ∷ hs) = 64 + h.used + weighs hs
