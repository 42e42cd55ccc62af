-- How a device is divided.
-- Assumes nothing.
use Rattle.std.specs.Prelude.{ℕ, ◌+◌, ◌-◌, ◌*◌, ◌/◌, ◌^◌, ◌<◌, ◌≤◌, Bool, ◌&&◌, nat_le}

-- the sizes that a device can have
abbrev pub is_size : ℕ → Bool
is_size size = nat_le 65536 size && nat_le size 1099511627776

-- sectors for data: twice the room
abbrev pub places_of : ℕ → ℕ
places_of size = 2 * ((size - 2048) / 4)

-- seven entries to a sector, as many entries as places, rounded up
abbrev pub directory_sectors_of : ℕ → ℕ
directory_sectors_of size = (places_of size + 6) / 7

abbrev pub entries_of : ℕ → ℕ
entries_of size = 7 * directory_sectors_of size

-- behind the fixed sectors the directory, and behind it data
abbrev pub fixed : ℕ
fixed = 16384

abbrev pub directory_place : ℕ → ℕ
directory_place entry = fixed + entry / 7

abbrev pub data_place : (size place : ℕ) → ℕ
data_place size place = fixed + directory_sectors_of size + (place - 1)

-- each entry and each place lies on the device, behind what is fixed, and no sector of the directory is one of data
pub record FitsDevices : Type 0 where
  pub enough : (size : ℕ) → places_of size ≤ entries_of size
  pub entry : (size e : ℕ) → 65536 ≤ size → e < entries_of size → (fixed ≤ directory_place e) × (directory_place e < fixed + directory_sectors_of size)
  pub data_apart : (size p : ℕ) → 65536 ≤ size → 1 ≤ p → p ≤ places_of size → fixed + directory_sectors_of size ≤ data_place size p
  pub data_within : (size p : ℕ) → 65536 ≤ size → 1 ≤ p → p ≤ places_of size → data_place size p < size
  -- five bytes have room for a place
  pub small : (size p : ℕ) → size ≤ 2 ^ 40 → p ≤ places_of size → p < 2 ^ 40
