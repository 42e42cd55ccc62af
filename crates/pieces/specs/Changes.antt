-- Blocks in the order of (volume, block): those that changed after a version, from a key on.
-- Assumes nothing.
use Rattle.std.specs.Prelude.{◌≡◌, ℕ, zero, suc, ◌+◌, ◌<◌, ◌≤◌, Bool, true, false, cond, not, ◌&&◌, ◌||◌, List, [], ◌∷◌, ◌==◌, nat_lt, Some, None, Option}
use Rattle.std.specs.List.{fold, find, count_by}
use Rattle.pieces.specs.declared.entry.Stamp.{Stamp}
use Rattle.pieces.specs.declared.entry.Entry.{Entry}
use Rattle.pieces.specs.declared.changed.Key.{Key}
use Rattle.pieces.specs.Entries.{is_block, free_entry}
use Rattle.pieces.specs.Kept.{Kept, entry_at, stamp_of}
use Rattle.pieces.specs.Meaning.{look, Sound}

abbrev pub key_of : (volume block : ℕ) → Key
key_of v b = record { volume = record { 0 = v }; block = record { 0 = b } }

abbrev pub entry_key : Entry → Key
entry_key e = record { volume = e.volume; block = e.block }

unfoldable pub is_before : Key → Key → Bool
is_before a b = nat_lt a.volume.0 b.volume.0 || (a.volume.0 == b.volume.0 && nat_lt a.block.0 b.block.0)

-- after this version; any, if none is said
abbrev pub is_newer : Option Stamp → ℕ → Bool
is_newer None s = true
is_newer (Some base) s = nat_lt base.0 s

-- an entry in use, at or behind the key, that changed after the version
unfoldable pub is_wanted : Option Stamp → Key → Entry → Bool
is_wanted since from e = not (e.volume.0 == 0) && (not (is_before (entry_key e) from) && is_newer since e.stamp.0)

abbrev pub is_nearer : Entry → Option Entry → Bool
is_nearer e None = true
is_nearer e (Some f) = is_before (entry_key e) (entry_key f)

-- the one with the least key of those that are wanted
abbrev pub nearest_of : Option Stamp → Key → Option Entry → Entry → Option Entry
nearest_of since from best e = cond (is_wanted since from e && is_nearer e best) (Some e) best

unfoldable pub nearest : Option Stamp → Key → List Entry → Option Entry
nearest since from es = fold (nearest_of since from) None es

abbrev pub next_number : ℕ → ℕ
next_number b = cond (nat_lt b 18446744073709551615) (b + 1) b

-- the next key behind an entry's
abbrev pub key_behind : Entry → Key
key_behind e = record { volume = e.volume; block = record { 0 = next_number e.block.0 } }

-- so many of them, and the key to go on from
pub record Listed : Type 0 where
  pub blocks : List Entry
  pub next : Option Key

abbrev pub with_block : Entry → Listed → Listed
with_block e l = record { blocks = e ∷ l.blocks; next = l.next }

abbrev pub listed_on : Option Entry → (Key → Listed) → Listed
listed_on None f = record { blocks = []; next = None }
listed_on (Some e) f = with_block e (f (key_behind e))

unfoldable pub listed : ℕ → Option Stamp → Key → List Entry → Listed
listed zero since from es = record { blocks = []; next = Some from }
listed (suc n) since from es = listed_on (nearest since from es) (λ k. listed n since k es)

-- a key from one on, up to another
abbrev pub is_below : Key → Option Key → Bool
is_below k None = true
is_below k (Some n) = is_before k n

-- what the list says of a block: the entry that it has, or that it has none, or that it didn't change
abbrev pub Says : Option Stamp → Kept → (volume block : ℕ) → Option Entry → Type 0
Says since k v b (Some e) = e ≡ look v b k.entries
Says None k v b None = look v b k.entries ≡ free_entry
Says (Some base) k v b None = stamp_of v b k ≤ base.0

-- Of each block in its range the list says what it is: none that changed is missing. Blocks' numbers are below the last of 64 bits.
abbrev pub ListMeans : Type 0
ListMeans =
    (size n : ℕ) (since : Option Stamp) (from : Key) (k : Kept) (v b : ℕ) → Sound size k → ((i : ℕ) → (entry_at i k).block.0 < 18446744073709551615) →
    is_before (key_of (suc v) b) from ≡ false → is_below (key_of (suc v) b) (listed n since from k.entries).next ≡ true → Says since k (suc v) b (find (is_block (suc v) b) (listed n since from k.entries).blocks)

-- how many entries are in use at or behind a key
unfoldable pub is_left : Key → Entry → Bool
is_left from e = not (e.volume.0 == 0) && not (is_before (entry_key e) from)

abbrev pub left : Kept → Key → ℕ
left k from = count_by (is_left from) k.entries

-- A list of at least one that isn't the last leaves fewer, so that a pass comes to its end.
abbrev pub ListEnds : Type 0
ListEnds =
    (n : ℕ) (since : Option Stamp) (from to : Key) (k : Kept) → ((i : ℕ) → (entry_at i k).block.0 < 18446744073709551615) → (listed (suc n) since from k.entries).next ≡ Some to → left k to < left k from
