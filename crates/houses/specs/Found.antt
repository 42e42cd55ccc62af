-- What a house finds in its tables when it comes up.
-- Assumes nothing.
use Rattle.std.specs.Prelude.{◌≡◌, ℕ, ◌-◌, List, [], ◌∷◌, take, drop, Result, Ok}
use Rattle.packets.specs.declared.area.Area.{Area}
use Rattle.packets.specs.declared.fault.Fault.{Fault}
use Rattle.packets.specs.declared.identity.Identity.{Identity as IdentityHad}
use Rattle.packets.specs.Codecs.{◌>>=◌, whole}
use Rattle.packets.specs.Formats.{Identity, identity}
use Rattle.packets.specs.Areas.{from_sectors, identity_area}
use Rattle.packets.specs.Seen.{see_identity}
use Rattle.houses.specs.declared.house.Setup.{Setup}

-- a table's sectors, of those of all tables, which begin with the identity
abbrev pub sectors_of : Area → List (List ℕ) → List (List ℕ)
sectors_of a ss = take a.count (drop (a.first - identity_area.first) ss)

-- a house that has never come up
abbrev pub new_identity : Setup → Identity
new_identity s = record { house = s.me.0; houses = s.houses; size = s.size; incarnation = 0 }

-- nothing was ever written where there are no bytes
abbrev pub identity_in : Setup → List ℕ → Result Identity Fault
identity_in s [] = Ok (new_identity s)
identity_in s (b ∷ bs) = whole identity (b ∷ bs)

-- who the house is; only the incarnation may differ from a new one's
abbrev pub FindsIdentity : Setup → List (List ℕ) → IdentityHad → Type 0
FindsIdentity s ss i = (from_sectors (sectors_of identity_area ss) >>= identity_in s ≡ Ok (see_identity i)) × (see_identity i ≡ record (new_identity s) { incarnation = i.incarnation })
