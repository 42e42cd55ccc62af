-- The kinds of calls with their numbers, and which are built.
-- Assumes nothing.
use Rattle.std.specs.Prelude.{ℕ, Bool, true, false, cond, List, [], ◌∷◌, Some, None, Option, ◌==◌}
use Rattle.wire.specs.declared.kind.Kind.{Kind}
use Rattle.wire.specs.declared.kind.Kind.TheVariants.{Make, Attach, Read, Write, Sync, Picture, Copy, Drop, DropPicture}

abbrev pub number_of : Kind → ℕ
number_of Make = 1
number_of Attach = 2
number_of Read = 3
number_of Write = 4
number_of Sync = 5
number_of Picture = 6
number_of Copy = 7
number_of Drop = 8
number_of DropPicture = 9

abbrev pub kind_of : ℕ → Option Kind
kind_of n =
    cond (n == 1) (Some Make)
    (cond (n == 2) (Some Attach)
    (cond (n == 3) (Some Read)
    (cond (n == 4) (Some Write)
    (cond (n == 5) (Some Sync) (cond (n == 6) (Some Picture) (cond (n == 7) (Some Copy) (cond (n == 8) (Some Drop) (cond (n == 9) (Some DropPicture) None))))))))

-- the kind of a call's bytes: the first says it
abbrev pub kind_in : List ℕ → Option Kind
kind_in [] = None
kind_in (b ∷ bs) = kind_of b

-- what is built so far
abbrev pub is_built : Kind → Bool
is_built Make = true
is_built Attach = true
is_built Read = true
is_built Write = true
is_built Sync = true
is_built Picture = false
is_built Copy = false
is_built Drop = true
is_built DropPicture = false
