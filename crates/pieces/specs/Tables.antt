-- The table of pieces as a map from blocks to words.
-- Assumes nothing.
use Rattle.std.specs.Prelude.{◌≡◌, ℕ, ◌/◌, ◌%◌, Bool, cond, ◌&&◌, List, [], ◌∷◌, ◌==◌, vec_items, slice_index_or}
use Rattle.pieces.specs.declared.piece.Piece.{Piece}

abbrev pub is_piece : (volume number : ℕ) → Piece → Bool
is_piece v n p = p.volume.0 == v && p.number == n

abbrev pub word_of : (block : ℕ) → Piece → ℕ
word_of b p = slice_index_or (vec_items p.words) (b % 1024) 0

-- the word of a block, in the first of its pieces; 0, if there is none
unfoldable pub slot_in : List Piece → (volume block : ℕ) → ℕ
slot_in [] v b = 0
slot_in (p ∷ ps) v b = cond (is_piece v (b / 1024) p) (word_of b p) (slot_in ps v b)

abbrev pub is_same : (v b u c : ℕ) → Bool
is_same v b u c = v == u && b == c

-- one block has another word, all others those that they had
abbrev pub SlotPut : (volume block word : ℕ) → List Piece → List Piece → Type 0
SlotPut v b w ps qs = (u c : ℕ) → slot_in qs u c ≡ cond (is_same v b u c) w (slot_in ps u c)

abbrev pub SlotsSame : List Piece → List Piece → Type 0
SlotsSame ps qs = (u c : ℕ) → slot_in qs u c ≡ slot_in ps u c
