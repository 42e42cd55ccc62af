-- What loading a directory gives.
-- Assumes nothing.
use Rattle.std.specs.Prelude.{◌≡◌, ◌⊎◌, ℕ, suc, ◌+◌, ◌*◌, ◌^◌, ◌<◌, ◌≤◌, Bool, true, false, cond, List, ◌∷◌, ◌++◌, take, drop, replicate, length, Some, slice_index_or}
use Rattle.disks.specs.Device.{zeros}
use Rattle.pieces.specs.declared.entry.Entry.{Entry}
use Rattle.pieces.specs.Entries.{free_entry, is_block_number, FitsBytes}
use Rattle.pieces.specs.Layouts.{entries_of}
use Rattle.pieces.specs.Kept.{Kept, blank_kept, entry_at, stamp_of, WasSet, forgotten, raised, sets, vacated}
use Rattle.pieces.specs.Loads.{load_entries, then_load, sector_bytes, sector_entries, directory_entries}
use Rattle.pieces.specs.Meaning.{Sound, SetsOne, shown}

-- an entry as it is loaded when these volumes live
abbrev pub living : (ℕ → Bool) → Entry → Entry
living lives e = cond (lives e.volume.0) e free_entry

-- What is on the device is what is kept, but for entries of volumes that don't live: of these some may be on the device that are free here.
abbrev pub OnDevice : (ℕ → Bool) → List Entry → Kept → Type 0
OnDevice lives es k = (length es ≡ length k.entries) × ((j : ℕ) → living lives (slice_index_or es j free_entry) ≡ living lives (entry_at j k))

-- each entry is of a block that a volume can have
abbrev pub BlocksInRange : Kept → Type 0
BlocksInRange k = (i : ℕ) → is_block_number (entry_at i k).block.0 ≡ true

-- an entry that isn't used is free
abbrev pub Clean : Kept → Type 0
Clean k = (i : ℕ) → (entry_at i k).volume.0 ≡ 0 → entry_at i k ≡ free_entry

-- an entry of a volume that doesn't live is free
abbrev pub Tidy : (ℕ → Bool) → Kept → Type 0
Tidy lives k = (i : ℕ) → lives (entry_at i k).volume.0 ≡ false → entry_at i k ≡ free_entry

-- of volumes that live all is as it was, others are zeros
pub record Loaded (size : ℕ) (lives : ℕ → Bool) (floor : ℕ) (k m : Kept) : Type 0 where
  pub sound : Sound size m
  pub shown_same : (d : ℕ → List ℕ) (v n : ℕ) → lives (suc v) ≡ true → shown d m (suc v) n ≡ shown d k (suc v) n
  pub stamp_same : (v b : ℕ) → lives (suc v) ≡ true → stamp_of (suc v) b m ≡ stamp_of (suc v) b k
  pub gone : (d : ℕ → List ℕ) (v n : ℕ) → lives (suc v) ≡ false → shown d m (suc v) n ≡ zeros 512
  pub floor_as : m.floor ≡ floor

-- What was sound is loaded, and means the same; nothing lives under the number 0.
abbrev pub LoadMeans : Type 0
LoadMeans =
    (size floor : ℕ) (lives : ℕ → Bool) (k : Kept) (es : List Entry) → Sound size k → BlocksInRange k → lives 0 ≡ false → OnDevice lives es k →
    (m : Kept) × (load_entries lives 0 es (raised floor (blank_kept size)) ≡ Some m) × Loaded size lives floor k m

-- What was tidy too is loaded exactly as it was kept, places and all.
pub record LoadSame : Type 0 where
  pub same : (size floor : ℕ) (lives : ℕ → Bool) (k : Kept) (es : List Entry) → Sound size k → BlocksInRange k → lives 0 ≡ false → Tidy lives k → length es ≡ length k.entries →
      ((j : ℕ) → living lives (slice_index_or es j free_entry) ≡ entry_at j k) → load_entries lives 0 es (raised floor (blank_kept size)) ≡ Some (record k { floor = floor })
  -- of what is tidy the device has each entry itself, and what is tidy is clean
  pub exact : (lives : ℕ → Bool) (k : Kept) (es : List Entry) → Tidy lives k → OnDevice lives es k → (j : ℕ) → living lives (slice_index_or es j free_entry) ≡ entry_at j k
  pub on_device : (lives : ℕ → Bool) (k : Kept) (es : List Entry) → Tidy lives k → length es ≡ length k.entries → ((j : ℕ) → living lives (slice_index_or es j free_entry) ≡ entry_at j k) → OnDevice lives es k
  pub clean : (lives : ℕ → Bool) (k : Kept) → lives 0 ≡ false → Tidy lives k → Clean k

-- Sector by sector, and each as it was written under its generation; under another it is free entries, and these load nothing.
pub record LoadsSectors : Type 0 where
  pub append : (lives : ℕ → Bool) (i : ℕ) (xs ys : List Entry) (k : Kept) → load_entries lives i (xs ++ ys) k ≡ then_load (load_entries lives (i + length xs) ys) (load_entries lives i xs k)
  pub seven : (g : ℕ) (bs : List ℕ) → length (sector_entries g bs) ≡ 7
  pub sector : (g j : ℕ) (k : Kept) → g < 2 ^ 64 → ((i : ℕ) → FitsBytes (entry_at i k)) → 7 * j + 7 ≤ length k.entries → sector_entries g (sector_bytes g j k) ≡ take 7 (drop (7 * j) k.entries)
  pub other : (g h j : ℕ) (k : Kept) → g < 2 ^ 64 → (g ≡ h → ⊥) → sector_entries h (sector_bytes g j k) ≡ replicate 7 free_entry
  pub blank : (g : ℕ) → sector_entries g (zeros 512) ≡ replicate 7 free_entry
  -- the entries of all sectors are theirs, one sector behind the other, and are loaded so
  pub entry : (g j i : ℕ) (bss : List (List ℕ)) → i < 7 → slice_index_or (directory_entries g bss) (7 * j + i) free_entry ≡ slice_index_or (sector_entries g (slice_index_or bss j (zeros 512))) i free_entry
  pub more : (lives : ℕ → Bool) (g i : ℕ) (bs : List ℕ) (bss : List (List ℕ)) (k : Kept) → load_entries lives i (directory_entries g (bs ∷ bss)) k ≡ then_load (load_entries lives (i + 7) (directory_entries g bss)) (load_entries lives i (sector_entries g bs) k)
  pub free : (lives : ℕ → Bool) (i n : ℕ) (k : Kept) → lives 0 ≡ false → load_entries lives i (replicate n free_entry) k ≡ Some k

-- Entries stay of blocks that a volume can have: what is loaded is refused else, and what is set is of a sector that a volume can have.
pub record StaysInRange : Type 0 where
  pub blank : (size : ℕ) → BlocksInRange (blank_kept size)
  pub loaded : (lives : ℕ → Bool) (i : ℕ) (es : List Entry) (k m : Kept) → BlocksInRange k → load_entries lives i es k ≡ Some m → BlocksInRange m
  pub set : (v n w : ℕ) (blank : Bool) (k : Kept) (r : WasSet) → n < 1099511627776 → BlocksInRange k → sets v n blank w k ≡ Some r → BlocksInRange r.kept
  pub vacated : (i : ℕ) (k : Kept) → BlocksInRange k → BlocksInRange (vacated i k)

-- What is on the device stays what is kept: when a sector was set and its entry's sector written, when a volume is gone, when fewer live, and
-- when all begins again, under a generation of which no sector is.
pub record StaysOnDevice : Type 0 where
  pub set_written : (size v n w : ℕ) (blank : Bool) (lives : ℕ → Bool) (k : Kept) (r : WasSet) (es fs : List Entry) → SetsOne size v n blank w k r → Sound size k → OnDevice lives es k → length fs ≡ length es →
      ((j : ℕ) → (slice_index_or fs j free_entry ≡ entry_at j r.kept) ⊎ ((slice_index_or fs j free_entry ≡ slice_index_or es j free_entry) × (r.writes.entry ≡ Some j → ⊥))) → OnDevice lives fs r.kept
  pub forgotten_unwritten : (size v : ℕ) (lives : ℕ → Bool) (k : Kept) (es : List Entry) → Sound size k → lives (suc v) ≡ false → OnDevice lives es k → OnDevice lives es (forgotten (suc v) (length k.entries) k)
  pub fewer_live : (lives fewer : ℕ → Bool) (k : Kept) (es : List Entry) → ((v : ℕ) → fewer v ≡ true → lives v ≡ true) → OnDevice lives es k → OnDevice fewer es k
  pub begun_again : (size : ℕ) (lives : ℕ → Bool) → OnDevice lives (replicate (entries_of size) free_entry) (blank_kept size)
