use Rattle.std.proofs.Common.{◌≡◌, sym, subst, inr, rules, arith}
use Rattle.std.specs.Io.KnownBytes.{Consumes}
use Rattle.std.specs.Io.BufRead.{FillKeeps, DropsConsumable}
use Rattle.std.proofs.BufReadLemmas.{Consumes_shown}
use Rattle.house.proofs.Pieces.{goes_on, goes_no_further, stopped, part_more, part_ends, part_none}
use Rattle.house.proofs.input.add_part.Goals.{then-added-gt0, else-added-gt0}
use Rattle.house.proofs.input.add_part.Goals as goal

pub returns-clause-more : goal.returns-clause-more
returns-clause-more g c = λ done. elim c.if-added-gt0.branch [
  | then-added-gt0 w ↦ part_more c.in-Ok.part.now _ c.in_ok-added.added c.in_ok-added.ensures.taken c.in_ok-added.ensures.within w.if-added-gt0.true (goes_on _ _ w.goes_on-is done) c.add.ensures.stops
  | else-added-gt0 w ↦ absurd (stopped _ _ w.goes_on-is w.if-added-gt0.false done)
]

pub returns-clause-ends : goal.returns-clause-ends
returns-clause-ends g c = λ done.
    let rested = c.fill_buf.follows.lender-at-none in
    let filled = subst (FillKeeps _ (g.R.Read.remaining rested) (g.R.BufRead.consumable_len rested)) c.in-Ok.is c.fill_buf.follows.holds-at-none in
    let same : c.if-added-gt0.input ≡ rested = search rules in
    let drops = subst (λ r. DropsConsumable (g.R.Read.remaining r) (g.R.Read.remaining c.consume.new.self) (g.R.BufRead.consumable_len r) c.in_ok-added.added) same c.consume.ensures.bytes in
    let moved = Consumes_shown _ _ _ _ c.in-Ok.part.now c.in_ok-added.added c.in_ok-added.ensures.within c.in-Ok.ensures.front c.in-Ok.ensures.end filled.0 filled.1 drops in
    elim c.if-added-gt0.branch [
      | then-added-gt0 w ↦ inr (part_ends _ _ c.in-Ok.part.now _ c.in_ok-added.added c.in_ok-added.ensures.taken c.in_ok-added.ensures.within w.if-added-gt0.true (goes_no_further _ _ w.goes_on-is done))
      | else-added-gt0 w ↦ part_none _ _ c.in-Ok.part.now _ c.in_ok-added.added _ _ c.in_ok-added.ensures.taken (omega (arith, w.if-added-gt0.false)) c.in_ok-added.ensures.none moved.1
    ]

pub returns-clause-taken : goal.returns-clause-taken
returns-clause-taken g c =
    let rested = c.fill_buf.follows.lender-at-none in
    let filled = subst (FillKeeps _ (g.R.Read.remaining rested) (g.R.BufRead.consumable_len rested)) c.in-Ok.is c.fill_buf.follows.holds-at-none in
    let same : c.if-added-gt0.input ≡ rested = search rules in
    let drops = subst (λ r. DropsConsumable (g.R.Read.remaining r) (g.R.Read.remaining c.consume.new.self) (g.R.BufRead.consumable_len r) c.in_ok-added.added) same c.consume.ensures.bytes in
    let moved = Consumes_shown _ _ _ _ c.in-Ok.part.now c.in_ok-added.added c.in_ok-added.ensures.within c.in-Ok.ensures.front c.in-Ok.ensures.end filled.0 filled.1 drops in
    subst (Consumes _ _) (sym c.in_ok-added.ensures.taken) moved.0
