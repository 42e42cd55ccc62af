-- Two words of an iterator, read as two values.
-- Assumes nothing.
use Rattle.std.specs.Prelude.{◌⊎◌, ℕ, List, Option, Some, None, Result, Ok, Err, String, string_bytes}
use Rattle.std.specs.Global.{Global}

module _ {I A B E F : Type 0} (steps : I → Option (String Global) → I → Type 0) (reads : List ℕ → Result A E → Type 0) (reads_next : List ℕ → Result B F → Type 0) where
  -- both words are there and both are read; or there is none, or one, or one of the two isn't read
  abbrev pub ReadsTwo : I → Option (A × B) → I → Type 0
  ReadsTwo s (Some p) u = (a : String Global) × (b : String Global) × (t : I) × steps s (Some a) t × steps t (Some b) u × reads (string_bytes a) (Ok p.0) × reads_next (string_bytes b) (Ok p.1)
  ReadsTwo s None u = steps s None u ⊎ ((a : String Global) × (t : I) × steps s (Some a) t × (steps t None u
      ⊎ ((b : String Global) × steps t (Some b) u × (((e : E) × reads (string_bytes a) (Err e)) ⊎ ((e : F) × reads_next (string_bytes b) (Err e))))))
