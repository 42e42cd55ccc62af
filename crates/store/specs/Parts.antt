-- Blocks that another copy is given, and blocks that it gives.
-- Assumes nothing.
use Rattle.std.specs.Prelude.{◌≡◌, ℕ, zero, suc, Bool, true, false, not, ◌&&◌, ◌||◌, cond, IsTrue, Some, None, List, [], ◌∷◌, ◌++◌, map, ◌==◌, nat_lt, nat_le, Option, vec_items}
use Rattle.std.specs.List.{list_all}
use Rattle.std.specs.Option.{option_map}
use Rattle.copies.specs.Service.{Stamped, in_range}
use Rattle.volumes.specs.Service.{Service}
use Rattle.pieces.specs.Replaces.{Held, Filled, replaces}
use Rattle.served.specs.Room.{is_gone}
use Rattle.copies.specs.declared.number.Key.{Key}
use Rattle.copies.specs.declared.message.Stamped.{Stamped as StampedHad}
use Rattle.copies.specs.declared.message.Tail.{Tail as TailHad}
use Rattle.copies.specs.declared.message.Tail.TheVariants.{More, Ends}
use Rattle.copies.specs.declared.message.Part.{Part as PartHad}
use Rattle.copies.specs.declared.message.Message.{Message as MessageHad}
use Rattle.copies.specs.declared.message.Message.TheVariants as messages
use Rattle.packets.specs.declared.rest.Rest.{Rest}
use Rattle.packets.specs.declared.block.Block.{Block as BlockHad}
use Rattle.pieces.specs.declared.entry.Entry.{Entry}
use Rattle.pieces.specs.Kept.{Kept}
use Rattle.pieces.specs.Meaning.{content}
use Rattle.pieces.specs.Changes as changes
use Rattle.pieces.specs.Counts.{number_of}
use Rattle.served.specs.Blocks.{Block, volume_of}
use Rattle.keeping.specs.Keeping.{most_listed, since_of, key_at, filled_with, filled_of, most_emptied}
use Rattle.store.specs.declared.parts.Portion.{Portion}

-- keys of volumes whose number has 64 bits
abbrev pub is_key : ℕ → Bool
is_key k = nat_le (volume_of k) 18446744073709551615

-- all are given, where the base is below the floor, or the top above the version
abbrev pub is_all : (base top floor version : ℕ) → Bool
is_all base top floor version = nat_lt base floor || nat_lt version top

abbrev pub key_number : Option Key → Option ℕ
key_number o = option_map (λ k. k.0) o

-- which entries a portion has, and where it goes on
abbrev pub portion_listed : (all : Bool) → (base key : ℕ) → Kept → changes.Listed
portion_listed all base key k = changes.listed most_listed (since_of all base) (key_at key) k.entries

pub record Lists (all : Bool) (base key : ℕ) (k : Kept) (p : Portion) : Type 0 where
  pub whole : p.whole ≡ all
  pub entries : vec_items p.entries ≡ (portion_listed all base key k).blocks
  pub next : key_number p.next ≡ option_map number_of (portion_listed all base key k).next

-- the places that entries have
abbrev pub place_in : ℕ → List ℕ
place_in p = cond (p == 0) [] (p ∷ [])

unfoldable pub places_in : List ℕ → List ℕ
places_in [] = []
places_in (p ∷ ps) = place_in p ++ places_in ps

unfoldable pub places_with : Entry → List ℕ
places_with e = places_in e.places

unfoldable pub places_of : List Entry → List ℕ
places_of [] = []
places_of (e ∷ es) = places_with e ++ places_of es

-- a block that is given, and what the code's value stands for
abbrev pub given : (ℕ → List ℕ) → Entry → Stamped Block
given d e = record { key = number_of (changes.entry_key e); stamp = e.stamp.0; block = map (content d) e.places }

abbrev pub the_stamped : StampedHad BlockHad → Stamped Block
the_stamped b = record { key = b.key.0; stamp = b.stamp.0; block = vec_items b.block.sectors }

-- PARTS OF ANOTHER COPY. All their keys are keys of volumes whose number has 64 bits.
abbrev pub AreKeys : List (StampedHad BlockHad) → Type 0
AreKeys [] = Unit
AreKeys (b ∷ bs) = IsTrue (is_key b.key.0) × AreKeys bs

abbrev pub AreNext : Option Key → Type 0
AreNext None = Unit
AreNext (Some k) = IsTrue (is_key k.0)

pub record FitKeys (from : Key) (next : Option Key) (bs : List (StampedHad BlockHad)) : Type 0 where
  pub from_key : IsTrue (is_key from.0)
  pub next_key : AreNext next
  pub keys : AreKeys bs

-- keys rise within the range
unfoldable pub ordered : (key : ℕ) → (next : Option ℕ) → List (Stamped Block) → Bool
ordered key next [] = true
ordered key next (b ∷ bs) = in_range key next b.key && ordered (suc b.key) next bs

-- a block of a volume that isn't gone, as it is filled in
abbrev pub filled_one : Service → Stamped Block → List Filled
filled_one r b = cond (is_gone r b.key) [] (filled_with b ∷ [])

-- what taking over comes to; blocks of the code's values are whole
unfoldable pub takes_held : Service → (whole : Bool) → (key : ℕ) → (next : Option ℕ) → (floor : ℕ) → List (Stamped Block) → Held → Option Held
takes_held r whole key next floor bs h = cond (ordered key next bs) (replaces (key_at key) (option_map key_at next) whole most_emptied floor (filled_of r bs) h) None

abbrev pub Took : Bool → Option Held → Held → Type 0
Took true o m = o ≡ Some m
Took false o m = o ≡ None

-- WHICH MESSAGES ARE HEARD: those whose keys are such keys.
abbrev pub tail_fits : TailHad Rest (List ℕ) → Bool
tail_fits (More k) = is_key k.0
tail_fits (Ends x done) = true

abbrev pub part_fits : PartHad Rest BlockHad (List ℕ) → Bool
part_fits x = tail_fits x.tail && list_all (λ b. is_key b.key.0) (vec_items x.blocks)

abbrev pub is_heard : MessageHad Rest BlockHad (List ℕ) (List ℕ) → Bool
is_heard (messages.Bundle b) = true
is_heard (messages.Replies s) = true
is_heard (messages.Status x) = true
is_heard (messages.Want w) = is_key w.key.0
is_heard (messages.Part x) = part_fits x

abbrev pub tail_key : TailHad Rest (List ℕ) → Option Key
tail_key (More k) = Some k
tail_key (Ends x done) = None

-- the keys of a part that is heard are what taking over needs
pub record HeardFit : Type 0 where
  pub next : (x : PartHad Rest BlockHad (List ℕ)) → part_fits x ≡ true → AreNext (tail_key x.tail)
  pub keys : (x : PartHad Rest BlockHad (List ℕ)) → part_fits x ≡ true → AreKeys (vec_items x.blocks)
