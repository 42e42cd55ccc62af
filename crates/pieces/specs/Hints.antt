-- Where a search may begin: nothing that it looks for stands before.
-- Assumes nothing.
use Rattle.std.specs.Prelude.{◌≡◌, ℕ, ◌<◌, Bool, true, false, List, slice_index_or}
use Rattle.pieces.specs.declared.entry.Entry.{Entry}
use Rattle.pieces.specs.Entries.{is_free, free_entry}

-- all places below are taken
abbrev pub AllTaken : ℕ → List Bool → Type 0
AllTaken n ts = (p : ℕ) → p < n → slice_index_or ts p false ≡ true

-- no entry below is free
abbrev pub NoneFree : ℕ → List Entry → Type 0
NoneFree n es = (i : ℕ) → i < n → is_free (slice_index_or es i free_entry) ≡ false
