-- Nothing is stored, or something is.
use Rattle.std.proofs.Common.{◌≡◌, ◌≢◌, ◌∷◌, List, [], length, Ok, Result, refl, arith}
use Rattle.journal.specs.Programs.{Put', put_io}
use Rattle.journal.specs.declared.state.Journal.{Journal}
use Rattle.journal.specs.declared.state.Write.{Write}
use Rattle.device.specs.Does.{Act, Does, ends}
use Rattle.houses.specs.Stores.{store_io}

pub stores_none : {S E : Type 0} {did : S → Act → S → Type 0} (j : Journal) (ws : List Write) {s : S} → length ws ≡ 0 → Does {E = E} did (store_io j ws) s (Ok (record { outcome = Ok tt; journal = j })) s
unfolding store_io
stores_none j [] l = ends
stores_none j (w ∷ ws) l = absurd (omega (arith, l))

pub stores_some : {S E : Type 0} {did : S → Act → S → Type 0} (j : Journal) (ws : List Write) {r : Result Put' E} {s t : S} → length ws ≢ 0 → Does did (put_io j ws) s r t → Does did (store_io j ws) s r t
unfolding store_io
stores_some j [] l h = absurd (l refl)
stores_some j (w ∷ ws) l h = h

pub ruleset storing = (stores_none, stores_some)
