-- How a byte string lies on sectors, and where a house's tables are on its device.
-- Assumes nothing.
use Rattle.std.specs.Prelude.{◌≡◌, ℕ, zero, suc, ◌+◌, ◌-◌, ◌*◌, ◌/◌, ◌^◌, ◌<◌, ◌≤◌, T, [], ◌∷◌, ◌++◌, length, take, drop, Result, Ok, ◌==◌}
use Rattle.std.specs.List.{flat_map, list_all}
use Rattle.disks.specs.Device.{zeros}
use Rattle.octets.specs.Numbers.{bytes_of}
use Rattle.packets.specs.declared.fault.Fault.{Fault}
use Rattle.packets.specs.declared.area.Area.{Area}
use Rattle.packets.specs.Codecs.{◌>>=◌, Codec, number_at, text_at}
use Rattle.packets.specs.Formats.{Bytes, Sectors, identity, directory, agreeing, session, rest}

-- ON SECTORS
-- how many sectors so many bytes take
abbrev pub sectors_for : ℕ → ℕ
sectors_for n = (n + 511) / 512

-- filled with zeros to a whole sector
abbrev pub padded : Bytes → Bytes
padded s = s ++ zeros (512 - length s)

unfoldable pub cut : ℕ → Bytes → Sectors
cut zero bs = []
cut (suc n) bs = padded (take 512 bs) ∷ cut n (drop 512 bs)

-- the length in 8 bytes, and the bytes
abbrev pub with_length : Bytes → Bytes
with_length bs = bytes_of 8 (length bs) ++ bs

abbrev pub to_sectors : Bytes → Sectors
to_sectors bs = cut (sectors_for (length (with_length bs))) (with_length bs)

abbrev pub from_sectors : Sectors → Result Bytes Fault
from_sectors ss = number_at 8 (flat_map (λ s. s) ss) >>= λ n. text_at n.0 n.1 >>= λ b. Ok b.0

-- What was laid on sectors is found again, whatever sectors follow; each has 512 bytes, and they are as many as the bytes take.
pub record SectorsSound : Type 0 where
  pub back : (bs : Bytes) (more : Sectors) → length bs < 2 ^ 64 → from_sectors (to_sectors bs ++ more) ≡ Ok bs
  pub whole : (bs : Bytes) → T (list_all (λ s. length s == 512) (to_sectors bs))
  pub count : (bs : Bytes) → length (to_sectors bs) ≡ sectors_for (8 + length bs)

-- WHERE
abbrev pub area : (first count : ℕ) → Area
area f n = record { first = f; count = n }

abbrev pub journal_area : Area
journal_area = area 0 6400

abbrev pub identity_area : Area
identity_area = area 6400 1

abbrev pub agreeing_area : Area
agreeing_area = area 6401 430

-- of a house
abbrev pub session_area : ℕ → Area
session_area h = area (6831 + 10 * h) 10

abbrev pub rest_area : Area
rest_area = area 7321 257

abbrev pub kept_area : Area
kept_area = area 7578 1

abbrev pub end_of : Area → ℕ
end_of a = a.first + a.count

-- each of the areas begins where the one before it ended, and all end where the tables do
pub record AreasApart : Type 0 where
  pub identity_after : end_of journal_area ≡ identity_area.first
  pub agreeing_after : end_of identity_area ≡ agreeing_area.first
  pub sessions_after : end_of agreeing_area ≡ (session_area 0).first
  pub session_after : (h : ℕ) → end_of (session_area h) ≡ (session_area (suc h)).first
  pub rest_after : end_of (session_area 48) ≡ rest_area.first
  pub kept_after : end_of rest_area ≡ kept_area.first
  pub within : end_of kept_area ≤ 16384

-- whatever has bytes finds room in its area
abbrev pub FindsRoom : {A : Type 0} → Codec A → Area → Type 0
FindsRoom {A = A} c a = (x : A) → T (c.fits x) → length (to_sectors (c.bytes x)) ≤ a.count

pub record AreasHold : Type 0 where
  pub identities : FindsRoom identity identity_area
  pub agreeings : FindsRoom agreeing agreeing_area
  pub sessions : (h : ℕ) → FindsRoom session (session_area h)
  pub rests : FindsRoom rest rest_area
  pub directories : FindsRoom directory kept_area
