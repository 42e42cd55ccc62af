-- Where the first that passes a test stands, in a list in which one element is changed.
use Rattle.std.proofs.Common.{◌≡◌, ℕ, ◌<◌, Bool, List, length, Some, None, Option, refl, ◌∙◌}
use Rattle.std.specs.List.{position}
use Rattle.std.proofs.lemmas.List.Quantifiers.{position-Some}
use Rattle.pieces.specs.declared.entry.Entry.{Entry}
use Rattle.pieces.specs.Entries.{is_block, is_free, is_empty, free_entry}
use Rattle.pieces.specs.Kept.{index_of, or_else, vacant}

pub index_in : (v b : ℕ) (es : List Entry) (i : ℕ) → index_of v b es ≡ Some i → i < length es
index_in v b es i e = (position-Some (is_block v b) es i free_entry e).0

pub vacant_in : (es : List Entry) (i : ℕ) → vacant es ≡ Some i → i < length es
vacant_in es i e = go (position is_free es) refl e
  where
    go : (o : Option ℕ) → position is_free es ≡ o → or_else o (position is_empty es) ≡ Some i → i < length es
    go None q r = (position-Some is_empty es i free_entry r).0
    go (Some j) q r = (position-Some is_free es i free_entry (q ∙ r)).0

pub ruleset in_range = (index_in, vacant_in)

pub first_in : (f : Entry → Bool) (es : List Entry) (i : ℕ) → position f es ≡ Some i → i < length es
first_in f es i e = (position-Some f es i free_entry e).0
