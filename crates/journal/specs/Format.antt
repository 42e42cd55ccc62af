-- Sectors of the journal.
-- Assumes nothing.
use Rattle.std.specs.Prelude.{ℕ, ◌%◌, Bool, cond, ◌&&◌, List, [], ◌∷◌, ◌++◌, take, drop, replicate, ◌==◌, nat_le, nat_lt, Some, None, Option, Ok, Err, Result}
use Rattle.octets.specs.Numbers.{field, numbers_bytes}
use Rattle.journal.specs.declared.part.Part.{Part}
use Rattle.journal.specs.declared.part.Foreign.{Foreign}

-- "kindovas"
abbrev pub mark : ℕ
mark = 7739838812258722163

-- the most writes of a transaction
abbrev pub most_writes : ℕ
most_writes = 1600

-- how many sectors a slot has: two for each write
abbrev pub slot_sectors : ℕ
slot_sectors = 3200

-- the first sector that the journal guards: behind two slots
abbrev pub guarded : ℕ
guarded = 6400

-- numbers of records are below this
abbrev pub numbers_end : ℕ
numbers_end = 4611686018427387904

-- mark, record's number, index in the record, record's length, target: 8 bytes each; half of the target's bytes; zeros
unfoldable pub part_bytes : Part → List ℕ → List ℕ
part_bytes p half = numbers_bytes (mark ∷ p.number ∷ p.index ∷ p.length ∷ p.target.0 ∷ []) ++ (half ++ replicate 216 0)

abbrev pub part_of : List ℕ → Part
part_of b = record { number = field 1 b; index = field 2 b; length = field 3 b; target = record { 0 = field 4 b } }

abbrev pub half_of : List ℕ → List ℕ
half_of b = take 256 (drop 40 b)

-- a part that can stand at this index of a slot, on a device of so many sectors
unfoldable pub is_sound : ℕ → ℕ → Part → Bool
is_sound size i p =
    (nat_le 1 p.number && nat_lt p.number numbers_end) && p.index == i && (nat_lt i p.length && nat_le p.length slot_sectors && p.length % 2 == 0) && (nat_le guarded p.target.0 && nat_lt p.target.0 size)

-- what a sector is found to be: blank, a part, or foreign
abbrev pub Found : Type 0
Found = Result (Option Part) Foreign

abbrev pub foreign : Foreign
foreign = record {}

unfoldable pub found : ℕ → ℕ → List ℕ → Found
found size i b = cond (field 0 b == 0) (Ok None) (cond (field 0 b == mark && is_sound size i (part_of b)) (Ok (Some (part_of b))) (Err foreign))
