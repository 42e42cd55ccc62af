-- A test that holds, as an equation.
use Rattle.std.proofs.Common.{◌≡◌, Bool, true, false, T, refl}

pub is_so : (b : Bool) → T b → b ≡ true
is_so true h = refl
is_so false h = absurd h
