-- What is kept with what the places hold: a range of blocks that another copy's take the place of, and entries that are given up by a test.
-- Assumes nothing.
use Rattle.std.specs.Prelude.{◌≡◌, ℕ, zero, suc, ◌+◌, ◌*◌, ◌/◌, ◌<◌, ◌≤◌, Bool, true, false, cond, not, ◌&&◌, List, [], ◌∷◌, length, ◌==◌, nat_lt, Some, None, Option, slice_index_or}
use Rattle.std.specs.List.{count_by, find}
use Rattle.std.specs.Option.{option_map}
use Rattle.disks.specs.Device.{zeros}
use Rattle.disks.specs.Disks.{all_zero}
use Rattle.volumes.specs.declared.head.Head.{Head}
use Rattle.volumes.specs.Service.{is_living}
use Rattle.pieces.specs.declared.entry.Entry.{Entry}
use Rattle.pieces.specs.declared.changed.Key.{Key}
use Rattle.pieces.specs.Entries.{free_entry}
use Rattle.pieces.specs.Kept.{Kept, WasSet, entry_at, raised, sets, vacated}
use Rattle.pieces.specs.Meaning.{Sound, look, shown, age_of, held, stored_at}
use Rattle.pieces.specs.Changes.{key_of, is_before, is_below}
use Rattle.pieces.specs.Ranges.{is_within}

-- what is kept, with what the places of data hold
pub record Held : Type 0 where
  pub kept : Kept
  pub data' : ℕ → List ℕ

-- a block as another copy has it
pub record Filled : Type 0 where
  pub volume : ℕ
  pub block : ℕ
  pub stamp : ℕ
  pub sectors : List (List ℕ)

-- A SECTOR IS SET, and its place holds its bytes.
abbrev pub was_stored : List ℕ → (ℕ → List ℕ) → WasSet → Held
was_stored bs d r = record { kept = r.kept; data' = stored_at r.writes.place bs d }

abbrev pub set_of : List ℕ → (ℕ → List ℕ) → Option WasSet → Option Held
set_of bs d None = None
set_of bs d (Some r) = Some (was_stored bs d r)

unfoldable pub sets_held : (volume sector : ℕ) → List ℕ → (stamp : ℕ) → Held → Option Held
sets_held v n bs w h = set_of bs h.data' (sets v n (all_zero bs) w h.kept)

abbrev pub then_held : (Held → Option Held) → Option Held → Option Held
then_held f None = None
then_held f (Some h) = f h

-- the sectors of a block, from a slot on
unfoldable pub fills_slots : (volume block stamp slot : ℕ) → List (List ℕ) → Held → Option Held
fills_slots v b w s [] h = Some h
fills_slots v b w s (bs ∷ more) h = then_held (fills_slots v b w (suc s) more) (sets_held v (8 * b + s) bs w h)

abbrev pub fills : Filled → Held → Option Held
fills b h = fills_slots b.volume b.block b.stamp 0 b.sectors h

unfoldable pub fills_all : List Filled → Held → Option Held
fills_all [] h = Some h
fills_all (b ∷ bs) h = then_held (fills_all bs) (fills b h)

-- ENTRIES ARE GIVEN UP that a test holds of.
unfoldable pub vacates_at : (Entry → Bool) → (index : ℕ) → Kept → Kept
vacates_at f i k = cond (f (entry_at i k)) (vacated i k) k

unfoldable pub vacates_where : (Entry → Bool) → (entries : ℕ) → Kept → Kept
vacates_where f zero k = k
vacates_where f (suc i) k = vacates_at f i (vacates_where f i k)

abbrev pub emptied : Key → Option Key → Held → Held
emptied from next h = record { kept = vacates_where (is_within from next) (length h.kept.entries) h.kept; data' = h.data' }

abbrev pub floor_raised : ℕ → Held → Held
floor_raised w h = record { kept = raised w h.kept; data' = h.data' }

-- A RANGE IS TAKEN OVER. Where it is the whole of it, what was there goes first, unless these are more than may be written.
unfoldable pub replaces : Key → Option Key → (whole : Bool) → (most floor : ℕ) → List Filled → Held → Option Held
replaces from next false most floor bs h = option_map (floor_raised floor) (fills_all bs h)
replaces from next true most floor bs h = cond (nat_lt most (count_by (is_within from next) h.kept.entries)) None (option_map (floor_raised floor) (fills_all bs (emptied from next h)))

-- VOLUMES ARE GONE: their entries are free.
abbrev pub is_gone : (next : ℕ) → List Head → Entry → Bool
is_gone next hs e = not (e.volume.0 == 0) && not (is_living next hs e.volume.0)

abbrev pub tidied : (next : ℕ) → List Head → Kept → Kept
tidied next hs k = vacates_where (is_gone next hs) (length k.entries) k

-- WHAT GIVING UP MEANS: these entries are free, and all others as they were; their blocks are zeros, and all others hold what they held.
pub record Vacates (size : ℕ) (f : Entry → Bool) (k m : Kept) : Type 0 where
  pub sound : Sound size m
  pub free : (j : ℕ) → f (entry_at j k) ≡ true → entry_at j m ≡ free_entry
  pub same : (j : ℕ) → f (entry_at j k) ≡ false → entry_at j m ≡ entry_at j k
  pub gone : (d : ℕ → List ℕ) (v n : ℕ) → f (look (suc v) (n / 8) k.entries) ≡ true → shown d m (suc v) n ≡ zeros 512
  pub others : (d : ℕ → List ℕ) (v n : ℕ) → f (look (suc v) (n / 8) k.entries) ≡ false → shown d m (suc v) n ≡ shown d k (suc v) n
  pub looked : (v b : ℕ) → f (look (suc v) b k.entries) ≡ false → look (suc v) b m.entries ≡ look (suc v) b k.entries
  pub aged : (v b : ℕ) → f (look (suc v) b k.entries) ≡ false → age_of (suc v) b m ≡ age_of (suc v) b k
  pub fewer : held m.entries ≤ held k.entries
  pub floor : m.floor ≡ k.floor

abbrev pub VacateMeans : Type 0
VacateMeans = (size : ℕ) (f : Entry → Bool) (k : Kept) → Sound size k → Vacates size f k (vacates_where f (length k.entries) k)

-- and when all volumes are given up that aren't living, none of their entries is left
pub record Tidies (size next : ℕ) (hs : List Head) (k m : Kept) : Type 0 where
  pub sound : Sound size m
  pub free : (j : ℕ) → is_gone next hs (entry_at j k) ≡ true → entry_at j m ≡ free_entry
  pub same : (j : ℕ) → is_gone next hs (entry_at j k) ≡ false → entry_at j m ≡ entry_at j k
  pub living : (j : ℕ) → is_gone next hs (entry_at j m) ≡ false
  pub gone : (d : ℕ → List ℕ) (v n : ℕ) → is_living next hs (suc v) ≡ false → shown d m (suc v) n ≡ zeros 512
  pub others : (d : ℕ → List ℕ) (v n : ℕ) → is_living next hs (suc v) ≡ true → shown d m (suc v) n ≡ shown d k (suc v) n
  pub aged : (v b : ℕ) → is_living next hs (suc v) ≡ true → age_of (suc v) b m ≡ age_of (suc v) b k
  pub fewer : held m.entries ≤ held k.entries
  pub floor : m.floor ≡ k.floor

abbrev pub TidyMeans : Type 0
TidyMeans = (size next : ℕ) (hs : List Head) (k : Kept) → Sound size k → Tidies size next hs k (tidied next hs k)

-- WHAT TAKING OVER MEANS. The blocks that are listed are of volumes, have eight sectors, lie in the range, and none comes twice.
abbrev pub is_filled : (volume block : ℕ) → Filled → Bool
is_filled v b x = x.volume == v && x.block == b

abbrev pub is_in : Key → Option Key → (volume block : ℕ) → Bool
is_in from next v b = not (is_before (key_of v b) from) && is_below (key_of v b) next

pub record IsWhole (from : Key) (next : Option Key) (x : Filled) : Type 0 where
  pub volume : 1 ≤ x.volume
  pub eight : length x.sectors ≡ 8
  pub long : (i : ℕ) → i < 8 → length (slice_index_or x.sectors i []) ≡ 512
  pub within : is_in from next x.volume x.block ≡ true

abbrev pub AreWhole : Key → Option Key → List Filled → Type 0
AreWhole from next [] = Unit
AreWhole from next (x ∷ xs) = IsWhole from next x × (find (is_filled x.volume x.block) xs ≡ None) × AreWhole from next xs

-- a block holds what it held, and is no younger
pub record Stays (v b : ℕ) (h m : Held) : Type 0 where
  pub shown_same : (i : ℕ) → i < 8 → shown m.data' m.kept v (8 * b + i) ≡ shown h.data' h.kept v (8 * b + i)
  pub aged : age_of v b h.kept ≤ age_of v b m.kept

-- a block that is listed holds that; another of the range is zeros, if the list is the whole of it; all others are as they were
pub record Replaced (size : ℕ) (from : Key) (next : Option Key) (whole : Bool) (floor : ℕ) (bs : List Filled) (h m : Held) : Type 0 where
  pub sound : Sound size m.kept
  pub listed : (v b : ℕ) (x : Filled) → find (is_filled (suc v) b) bs ≡ Some x → (i : ℕ) → i < 8 → shown m.data' m.kept (suc v) (8 * b + i) ≡ slice_index_or x.sectors i []
  pub stamped : (v b : ℕ) (x : Filled) → find (is_filled (suc v) b) bs ≡ Some x → x.stamp ≤ age_of (suc v) b m.kept
  pub unlisted_whole : (v b : ℕ) → whole ≡ true → is_in from next (suc v) b ≡ true → find (is_filled (suc v) b) bs ≡ None → (i : ℕ) → i < 8 → shown m.data' m.kept (suc v) (8 * b + i) ≡ zeros 512
  pub unlisted : (v b : ℕ) → whole ≡ false → find (is_filled (suc v) b) bs ≡ None → Stays (suc v) b h m
  pub outside : (v b : ℕ) → is_in from next (suc v) b ≡ false → Stays (suc v) b h m
  pub floor_risen : floor ≤ m.kept.floor

abbrev pub ReplaceMeans : Type 0
ReplaceMeans = (size : ℕ) (from : Key) (next : Option Key) (whole : Bool) (most floor : ℕ) (bs : List Filled) (h m : Held) →
    Sound size h.kept → AreWhole from next bs → replaces from next whole most floor bs h ≡ Some m → Replaced size from next whole floor bs h m
