-- A range was taken over, and the directory is still as it was then.
use Rattle.std.proofs.Common.{◌≡◌, ◌∙◌, Option, subst, sym}
use Rattle.pieces.specs.Kept.{Kept, the_kept}
use Rattle.pieces.specs.Replaces.{Held}
use Rattle.pieces.specs.Replacing.{Comes}
use Rattle.pieces.specs.declared.filled.Replaced.{Replaced}
use Rattle.pieces.specs.declared.state.Pieces.{Pieces}

pub still_comes : (f : Held → Option Held) (k : Kept) (r : Replaced) (first second third : Pieces) → third ≡ second → second ≡ first → Comes f k (the_kept first) r → Comes f k (the_kept third) r
still_comes f k r first second third last next done = subst (λ (p : Pieces). Comes f k (the_kept p) r) (sym (last ∙ next)) done
