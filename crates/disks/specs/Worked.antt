-- Worked cases as rows of one table: a call, and what it is to be answered where all before it were made.
-- Assumes nothing.
use Rattle.std.specs.Prelude.{◌≡◌, List, [], ◌∷◌, map, ℕ, replicate, take}
use Rattle.disks.specs.Disks.{Volume, State, blank, find, is_volume, Call, Make, Attach, Read, Write, Picture', Copy, Reply, No, Yes, Num, Token, Sector, does}

pub record Row : Type 0 where
  pub call : Call
  pub reply : Reply

abbrev row : Call → Reply → Row
row c r = record { call = c; reply = r }

-- a sector of one byte
abbrev pub filled : ℕ → List ℕ
filled b = replicate 512 b

abbrev pub worked : List Row
worked =
    -- A write is read before any sync.
    row (Make 100) (Num 1) ∷ row (Attach 1) (Token 1 100) ∷ row (Write 1 1 5 (filled 7)) Yes ∷ row (Read 1 1 5) (Sector (filled 7))
    -- Attached again elsewhere: a write under the old token does nothing.
    ∷ row (Attach 1) (Token 2 100) ∷ row (Write 1 1 5 (filled 8)) (No 4) ∷ row (Read 1 2 5) (Sector (filled 7))
    -- A picture, then a write: a copy of the picture reads as the volume did, and is a volume of its own.
    ∷ row (Picture' 1 2) (Num 2) ∷ row (Write 1 2 5 (filled 9)) Yes ∷ row (Copy 2) (Num 3) ∷ row (Attach 3) (Token 1 100) ∷ row (Read 3 1 5) (Sector (filled 7))
    ∷ row (Write 3 1 5 (filled 6)) Yes ∷ row (Read 1 2 5) (Sector (filled 9)) ∷ row (Read 3 1 5) (Sector (filled 6))
    -- A sector beyond the size; no such volume.
    ∷ row (Read 1 2 100) (No 1) ∷ row (Read 9 2 0) (No 2) ∷ []

-- what calls answer, one after the other
unfoldable pub replies : List Call → State → List Reply
replies [] s = []
replies (c ∷ cs) s = (does c s).reply ∷ replies cs (does c s).state

abbrev pub WorkedCases : Type 0
WorkedCases = replies (map (λ (r : Row). r.call) worked) blank ≡ map (λ (r : Row). r.reply) worked

unfoldable pub leaves : List Call → State → State
leaves [] s = s
leaves (c ∷ cs) s = leaves cs (does c s).state

-- The copy, which is volume 3 after ten of these calls, is all synced.
abbrev pub CopySynced : Type 0
CopySynced = (n : ℕ) → map (λ (v : Volume). v.disk.since n) (find (is_volume 3) (leaves (take 10 (map (λ (r : Row). r.call) worked)) blank).volumes) ≡ [] ∷ []
