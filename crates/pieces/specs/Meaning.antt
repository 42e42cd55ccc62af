-- What the directory means, and when it is sound.
-- Assumes nothing.
use Rattle.std.specs.Prelude.{◌≡◌, ◌≢◌, ℕ, zero, suc, ◌/◌, ◌<◌, ◌≤◌, max, Bool, true, false, cond, List, length, ◌==◌, nat_lt, Some, None, Option, slice_index_or}
use Rattle.std.specs.List.{sum_by, count_by, list_all}
use Rattle.disks.specs.Device.{zeros}
use Rattle.pieces.specs.declared.entry.Entry.{Entry}
use Rattle.pieces.specs.Entries.{is_block, free_entry}
use Rattle.pieces.specs.Layouts.{places_of, entries_of}
use Rattle.pieces.specs.Kept.{Kept, blank_kept, index_of, entry_at, place_of, stamp_of, WasSet, sets, forgotten}

-- is this place used?
abbrev pub use_of : (place : ℕ) → ℕ → ℕ
use_of p q = cond (q == p) 1 0

-- how often a place is used, in an entry and in all
abbrev pub uses_in : ℕ → Entry → ℕ
uses_in p e = sum_by (use_of p) e.places

abbrev pub uses : ℕ → List Entry → ℕ
uses p es = sum_by (uses_in p) es

-- how many sectors hold anything
abbrev pub full : ℕ → ℕ
full q = cond (q == 0) 0 1

abbrev pub held_in : Entry → ℕ
held_in e = sum_by full e.places

abbrev pub held : List Entry → ℕ
held es = sum_by held_in es

abbrev pub one : Bool → ℕ
one b = cond b 1 0

abbrev pub is_taken : ℕ → List Bool → Bool
is_taken p ts = slice_index_or ts p false

-- A directory on a device of this size. No place is used twice, those that are used are taken and no others, and a block has one entry.
pub record Sound (size : ℕ) (k : Kept) : Type 0 where
  pub entries : length k.entries ≡ entries_of size
  pub taken : length k.taken ≡ suc (places_of size)
  pub none : is_taken 0 k.taken ≡ true
  pub eight : (i : ℕ) → length (entry_at i k).places ≡ 8
  pub apart : (p : ℕ) → uses (suc p) k.entries ≡ one (is_taken (suc p) k.taken)
  pub total : sum_by one k.taken ≡ suc (held k.entries)
  pub single : (v b : ℕ) → count_by (is_block (suc v) b) k.entries ≤ 1

-- the entry of a block; one that isn't used, if it has none
abbrev pub look_in : Option ℕ → List Entry → Entry
look_in None es = free_entry
look_in (Some i) es = slice_index_or es i free_entry

abbrev pub look : (volume block : ℕ) → List Entry → Entry
look v b es = look_in (index_of v b es) es

-- no stamp that was ever given up is above it
abbrev pub age_of : (volume block : ℕ) → Kept → ℕ
age_of v b k = max (stamp_of v b k) k.floor

-- what a place holds, by what the places of data hold: zeros where there is none
abbrev pub content : (ℕ → List ℕ) → ℕ → List ℕ
content data' zero = zeros 512
content data' (suc p) = data' (suc p)

-- THE MEANING: what each sector of each volume holds
abbrev pub shown : (ℕ → List ℕ) → Kept → (volume sector : ℕ) → List ℕ
shown data' k v n = content data' (place_of v n k)

-- what the places hold when a sector was written
abbrev pub stored_at : Option ℕ → List ℕ → (ℕ → List ℕ) → ℕ → List ℕ
stored_at None bs data' = data'
stored_at (Some p) bs data' = λ q. cond (q == p) bs (data' q)

-- A sector is set: it holds that, all others hold what they held; its block has that stamp, and no other is younger than it was.
pub record SetsOne (size v n : ℕ) (blank : Bool) (w : ℕ) (k : Kept) (r : WasSet) : Type 0 where
  pub sound : Sound size r.kept
  pub found : (bs : List ℕ) (d : ℕ → List ℕ) → shown (stored_at r.writes.place bs d) r.kept (suc v) n ≡ cond blank (zeros 512) bs
  pub others : (bs : List ℕ) (d : ℕ → List ℕ) (u m : ℕ) → ((u ≡ v) × (m ≡ n) → ⊥) → shown (stored_at r.writes.place bs d) r.kept (suc u) m ≡ shown d k (suc u) m
  pub stamped : w ≤ age_of (suc v) (n / 8) r.kept
  pub aged : (u b : ℕ) → ((u ≡ v) × (b ≡ n / 8) → ⊥) → age_of (suc u) b k ≤ age_of (suc u) b r.kept
  -- what is to be written is all that changed
  pub elsewhere : (j : ℕ) → (r.writes.entry ≡ Some j → ⊥) → entry_at j r.kept ≡ entry_at j k
  pub risen : r.writes.floor ≡ false → r.kept.floor ≡ k.floor

abbrev pub SetMeans : Type 0
SetMeans = (size v n w : ℕ) (blank : Bool) (k : Kept) (r : WasSet) → Sound size k → sets (suc v) n blank w k ≡ Some r → SetsOne size v n blank w k r

-- there is always room while no more sectors hold anything than there are places
abbrev pub AlwaysRoom : Type 0
AlwaysRoom = (size v n w : ℕ) (blank : Bool) (k : Kept) → Sound size k → held k.entries < places_of size → (r : WasSet) × (sets v n blank w k ≡ Some r)

-- and zeros need none
abbrev pub ZerosNeedNone : Type 0
ZerosNeedNone = (v n w : ℕ) (k : Kept) → (r : WasSet) × (sets v n true w k ≡ Some r)

-- a volume is forgotten: its sectors are zeros, and all others hold what they held, with their stamps
pub record Forgets (size v : ℕ) (k m : Kept) : Type 0 where
  pub sound : Sound size m
  pub gone : (d : ℕ → List ℕ) (n : ℕ) → shown d m (suc v) n ≡ zeros 512
  pub others : (d : ℕ → List ℕ) (u n : ℕ) → u ≢ v → shown d m (suc u) n ≡ shown d k (suc u) n
  pub aged : (u b : ℕ) → u ≢ v → age_of (suc u) b m ≡ age_of (suc u) b k
  pub fewer : held m.entries ≤ held k.entries

abbrev pub ForgetMeans : Type 0
ForgetMeans = (size v : ℕ) (k : Kept) → Sound size k → Forgets size v k (forgotten (suc v) (length k.entries) k)

-- a new directory is sound, and all is zeros
pub record BlankMeans : Type 0 where
  pub sound : (size : ℕ) → 65536 ≤ size → Sound size (blank_kept size)
  pub blank : (size v n : ℕ) (d : ℕ → List ℕ) → shown d (blank_kept size) (suc v) n ≡ zeros 512

-- Where things lie: no two sectors have one place, and each place is on the device and fits its five bytes.
pub record PlacesApart : Type 0 where
  pub one_sector : (size : ℕ) (k : Kept) → Sound size k → (p u m v n : ℕ) → place_of (suc u) m k ≡ suc p → place_of (suc v) n k ≡ suc p → (u ≡ v) × (m ≡ n)
  pub within : (size v n : ℕ) (k : Kept) → Sound size k → place_of v n k ≤ places_of size
  pub small : (size i : ℕ) (k : Kept) → Sound size k → size ≤ 1099511627776 → list_all (λ p. nat_lt p 1099511627776) (entry_at i k).places ≡ true
