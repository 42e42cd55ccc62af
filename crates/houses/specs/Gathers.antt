-- Sectors are read one after the other.
-- Assumes nothing.
use Rattle.std.specs.Prelude.{ℕ, zero, suc, ◌+◌, List, [], ◌∷◌, ◌++◌, map}
use Rattle.disks.specs.Device.{Io, answer, read, then'}
use Rattle.journal.specs.declared.Place.{Place}

-- one more behind those that were read
abbrev pub gather_io : (place : ℕ) → List (List ℕ) → Io (List (List ℕ))
gather_io p acc = read p (λ b. answer (acc ++ b ∷ []))

unfoldable pub gathers : (places : List ℕ) → List (List ℕ) → Io (List (List ℕ))
gathers [] acc = answer acc
gathers (p ∷ ps) acc = then' (gather_io p acc) (gathers ps)

-- so many places from one on
unfoldable pub places_from : (first count : ℕ) → List ℕ
places_from first zero = []
places_from first (suc n) = first ∷ places_from (first + 1) n

abbrev pub the_places : List Place → List ℕ
the_places ps = map (λ (p : Place). p.0) ps
