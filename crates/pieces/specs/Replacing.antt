-- What is to be written when a range is taken over.
-- Assumes nothing.
use Rattle.std.specs.Prelude.{◌≡◌, ℕ, zero, suc, Bool, true, false, cond, List, [], ◌∷◌, ◌++◌, map, vec_items, ◌==◌, nat_lt, Some, None, Ok, Err, Option, Result, slice_index_or}
use Rattle.std.specs.List.{list_any, count_by}
use Rattle.pieces.specs.declared.entry.Entry.{Entry}
use Rattle.pieces.specs.declared.changed.Key.{Key}
use Rattle.pieces.specs.declared.set.Unset.{Unset}
use Rattle.pieces.specs.declared.set.Unset.TheVariants.{NoRoom, NoMemory}
use Rattle.pieces.specs.declared.filled.Filled as typed
use Rattle.pieces.specs.declared.filled.Written.{Written}
use Rattle.pieces.specs.declared.filled.Replaced.{Replaced}
use Rattle.pieces.specs.Entries.{free_entry}
use Rattle.pieces.specs.Kept.{Kept, entry_at}
use Rattle.pieces.specs.Meaning.{stored_at}
use Rattle.pieces.specs.Ranges.{is_within}
use Rattle.pieces.specs.Replaces.{Held, Filled, emptied}

-- the block that the code's value stands for
abbrev pub the_filled : typed.Filled → Filled
the_filled f = record { volume = f.volume.0; block = f.block.0; stamp = f.stamp.0; sectors = vec_items f.sectors }

-- what the places hold when these were written, one after the other
unfoldable pub overlaid : List Written → (ℕ → List ℕ) → ℕ → List ℕ
overlaid [] d = d
overlaid (w ∷ ws) d = overlaid ws (stored_at (Some w.place) w.bytes d)

abbrev pub is_listed : (index : ℕ) → List ℕ → Bool
is_listed j is = list_any (λ i. i == j) is

-- the indices of the first so many entries that a test holds of
unfoldable pub indices_where : (Entry → Bool) → (entries : ℕ) → List Entry → List ℕ
indices_where f zero es = []
indices_where f (suc i) es = cond (f (slice_index_or es i free_entry)) (indices_where f i es ++ i ∷ []) (indices_where f i es)

-- what is listed when a sector's is too
abbrev pub with_entry : Option ℕ → List ℕ → List ℕ
with_entry None is = is
with_entry (Some i) is = is ++ i ∷ []

abbrev pub with_sector : Option ℕ → List ℕ → List Written → List Written
with_sector None bs ws = ws
with_sector (Some p) bs ws = ws ++ record { place = p; bytes = bs } ∷ []

-- what is held when that is written
abbrev pub with_written : Kept → Replaced → (ℕ → List ℕ) → Held
with_written k r d = record { kept = k; data' = overlaid (vec_items r.sectors) d }

-- Whatever the places hold, a change comes to this; all entries that changed are listed.
pub record Goes (f : Held → Option Held) (k : Kept) (r : Replaced) (m : Kept) (t : Replaced) : Type 0 where
  pub held : (d : ℕ → List ℕ) → f (with_written k r d) ≡ Some (with_written m t d)
  pub entries : (j : ℕ) → is_listed j (vec_items t.entries) ≡ false → (is_listed j (vec_items r.entries) ≡ false) × (entry_at j m ≡ entry_at j k)

-- Where there is no room the change comes to none; where there is no memory nothing is said.
abbrev pub DoesHeld : (Held → Option Held) → Kept → Replaced → Result Unit Unset → Kept → Replaced → Type 0
DoesHeld f k r (Ok u) m t = Goes f k r m t
DoesHeld f k r (Err NoRoom) m t = (d : ℕ → List ℕ) → f (with_written k r d) ≡ None
DoesHeld f k r (Err NoMemory) m t = Unit

-- so from nothing to be written
pub record Comes (f : Held → Option Held) (k m : Kept) (r : Replaced) : Type 0 where
  pub held : (d : ℕ → List ℕ) → f (record { kept = k; data' = d }) ≡ Some (with_written m r d)
  pub entries : (j : ℕ) → is_listed j (vec_items r.entries) ≡ false → entry_at j m ≡ entry_at j k

abbrev pub DoesAll : (Held → Option Held) → Kept → Result Replaced Unset → Kept → Type 0
DoesAll f k (Ok r) m = Comes f k m r
DoesAll f k (Err NoRoom) m = (d : ℕ → List ℕ) → f (record { kept = k; data' = d }) ≡ None
DoesAll f k (Err NoMemory) m = Unit

-- a range is given up, if that isn't more than may be written; only the whole of it is
abbrev pub gives_up : Key → Option Key → (most : ℕ) → Held → Option Held
gives_up from next most h = cond (nat_lt most (count_by (is_within from next) h.kept.entries)) None (Some (emptied from next h))

abbrev pub begins : Key → Option Key → (whole : Bool) → (most : ℕ) → Held → Option Held
begins from next false most h = Some h
begins from next true most h = gives_up from next most h

abbrev pub the_blocks : List typed.Filled → List Filled
the_blocks bs = map the_filled bs
