-- What a house has of volumes in memory, and what a call does to it.
-- Assumes nothing.
use Rattle.std.specs.Prelude.{◌≡◌, ℕ, suc, ◌≤◌, true, false, cond, List, [], ◌∷◌, ◌++◌, length, vec_items, bytes_eq, Some, None, Option, Result, MatchResult}
use Rattle.disks.specs.Device.{zeros}
use Rattle.disks.specs.Disks.{No}
use Rattle.wire.specs.Calls.{Decoded, is_call, is_refused}
use Rattle.wire.specs.Answers.{answer_bytes}
use Rattle.volumes.specs.Service.{Service, the_service, Changed, keeps, puts, forgets, Served, says, serves}
use Rattle.volumes.specs.Simulation.{Place, read_at, needed, room_left}
use Rattle.volumes.specs.Restored.{is_right}
use Rattle.copies.specs.declared.message.Item.{Item}
use Rattle.copies.specs.declared.message.Bundle.{Bundle}
use Rattle.pieces.specs.Layouts.{places_of}
use Rattle.pieces.specs.Kept.{Kept, the_kept, found, place_of, forgotten}
use Rattle.pieces.specs.Meaning.{shown}
use Rattle.pieces.specs.Replaces.{Held, sets_held}
use Rattle.served.specs.Served.{decoded_call}
use Rattle.keeping.specs.Keeping.{none_held, or_held, tidied_held}
use Rattle.store.specs.Known.{the_data}
use Rattle.store.specs.declared.store.Store.{Store}
use Rattle.store.specs.declared.store.Unserved.{Unserved}
use Rattle.store.specs.declared.store.Unserved.TheVariants as unserved
use Rattle.pieces.specs.declared.set.Unset.{Unset}
use Rattle.pieces.specs.declared.set.Unset.TheVariants as unset

-- the heads, the directory with what its places hold, and the version at which blocks change
pub record Stored : Type 0 where
  pub room : ℕ
  pub version : ℕ
  pub rest : Service
  pub held : Held

-- what the code's value stands for
abbrev pub the_held : Store → Held
the_held s = record { kept = the_kept s.pieces; data' = the_data s.known }

abbrev pub the_stored : Store → Stored
the_stored s = record { room = s.volumes.room; version = s.version.0; rest = the_service s.volumes; held = the_held s }

-- what a sector of a volume holds
abbrev pub sector_of : Held → (volume sector : ℕ) → List ℕ
sector_of h v n = shown h.data' h.kept v n

-- WHAT BECOMES OF BLOCKS. A sector is written, if it isn't that already; none, where there is no room.
unfoldable pub puts_held : (volume sector : ℕ) → List ℕ → (version : ℕ) → Held → Option Held
puts_held v n bs w h = cond (bytes_eq bs (sector_of h v n)) (Some h) (sets_held v n bs w h)

abbrev pub forgets_held : (volume : ℕ) → Held → Held
forgets_held v h = record { kept = forgotten v (length h.kept.entries) h.kept; data' = h.data' }

abbrev pub changes_held : Changed → (version : ℕ) → Held → Option Held
changes_held keeps w h = Some h
changes_held (puts v n bs) w h = puts_held v n bs w h
changes_held (forgets v) w h = Some (forgets_held v h)

-- what bytes that are decoded are answered, and what becomes of volumes
abbrev pub served : Decoded → Stored → Served
served (is_call c) s = serves s.room c (read_at (needed c) (sector_of s.held)) s.rest
served (is_refused n) s = says (No n) s.rest

-- where there is no room blocks are as they were: the code says so, and goes no further
abbrev pub after : Served → Stored → Stored
after r s = record { room = s.room; version = s.version; rest = r.service; held = or_held (changes_held r.change s.version s.held) s.held }

-- THE SERVICE
unfoldable pub reply : (call : List ℕ) → Stored → List ℕ
reply o s = answer_bytes (served (decoded_call o) s).reply

unfoldable pub next : (call : List ℕ) → Stored → Stored
next o s = after (served (decoded_call o) s) s

-- WHAT THE CODE DOES. No room is that there is no place or no entry.
abbrev pub no_place : Unset → Unserved
no_place unset.NoRoom = unserved.NoRoom
no_place unset.NoMemory = unserved.NoMemory

-- A change was done, or comes to none since there is no room; where there is no memory nothing is said.
abbrev pub DoesHeld : (Held → Option Held) → Held → Result Unit Unserved → Held → Type 0
DoesHeld f h r m = MatchResult r (λ u. f h ≡ Some m) (λ e. e ≡ unserved.NoRoom → f h ≡ None)

-- the sector that a change is of held that
abbrev pub IsOld : Changed → Held → List ℕ → Type 0
IsOld keeps h bs = Unit
IsOld (puts v n now) h bs = bs ≡ sector_of h v n
IsOld (forgets v) h bs = Unit

-- what no change of blocks changes
pub record SameBut (s t : Store) : Type 0 where
  pub volumes : t.volumes ≡ s.volumes
  pub layout : t.pieces.layout ≡ s.pieces.layout
  pub generation : t.generation ≡ s.generation
  pub version : t.version ≡ s.version
  pub size : t.size ≡ s.size

-- Bytes were answered, or there is no room for what they change.
abbrev pub DoesServe : Decoded → Stored → Result (List ℕ) Unserved → Stored → Type 0
DoesServe d s r t = MatchResult r (λ a. (a ≡ answer_bytes (served d s).reply) × (t ≡ after (served d s) s)) (λ e. e ≡ unserved.NoRoom → changes_held (served d s).change s.version s.held ≡ None)

-- WHAT A CALL NEEDS: the place where its sector lies, if it has one.
abbrev pub place_at : Option Place → Kept → Option ℕ
place_at None k = None
place_at (Some p) k = found (place_of p.volume p.sector k)

abbrev pub place_needed : Decoded → Kept → Option ℕ
place_needed (is_call c) k = place_at (needed c) k
place_needed (is_refused n) k = None

-- the places that the calls of a bundle need, and those of a command
abbrev pub listed_place : Option ℕ → List ℕ
listed_place None = []
listed_place (Some p) = p ∷ []

unfoldable pub place_of_item : Kept → Item (List ℕ) → List ℕ
place_of_item k i = listed_place (place_needed (decoded_call i.call) k)

unfoldable pub places_of_items : Kept → List (Item (List ℕ)) → List ℕ
places_of_items k [] = []
places_of_items k (i ∷ is) = place_of_item k i ++ places_of_items k is

unfoldable pub places_of_bundle : Kept → Bundle (List ℕ) → List ℕ
places_of_bundle k b = places_of_items k (vec_items b.calls)

unfoldable pub places_of_command : Kept → List (Bundle (List ℕ)) → List ℕ
places_of_command k [] = []
places_of_command k (b ∷ bs) = places_of_bundle k b ++ places_of_command k bs

-- AN EVENT BEGINS: nothing is known of places, and nothing to be written.
abbrev pub Clear : Store → Type 0
Clear s = (vec_items s.known.read ≡ []) × (vec_items s.known.written ≡ []) × (vec_items s.entries ≡ []) × (s.rest ≡ false) × (s.directory ≡ false)

-- nothing is known of places
abbrev pub unknown : Kept → Held
unknown k = record { kept = k; data' = λ p. zeros 512 }

-- WHOLE STATES. The heads are another copy's; none, where they contradict themselves.
abbrev pub with_rest : (size : ℕ) → Service → Stored → Stored
with_rest size r s = record { room = room_left size; version = s.version; rest = r; held = tidied_held r s.held }

abbrev pub DoesReplace : Service → Store → Result Unit Unserved → Store → Type 0
DoesReplace r s q t =
    MatchResult q (λ u. (is_right (room_left s.size) r.weight r.heads ≡ true) × (the_stored t ≡ with_rest s.size r (the_stored s)) × (t.rest ≡ true)) (λ e. e ≡ unserved.Broken → is_right (room_left s.size) r.weight r.heads ≡ false)

-- All blocks are forgotten, and so is what was to be written of them; the generation is the next.
abbrev pub wiped : (size : ℕ) → Stored → Stored
wiped size s = record { room = s.room; version = s.version; rest = s.rest; held = none_held size }

pub record Wipes (s t : Store) : Type 0 where
  pub stored : the_stored t ≡ wiped s.pieces.layout.size (the_stored s)
  pub layout : t.pieces.layout ≡ s.pieces.layout
  pub generation : t.generation.0 ≡ suc s.generation.0
  pub written : (vec_items t.known.written ≡ []) × (vec_items t.entries ≡ [])
  pub directory : t.directory ≡ true
  pub heads : t.rest ≡ s.rest

-- what is there of the device for a place
abbrev pub IsPlace : (size place : ℕ) → Type 0
IsPlace size p = (1 ≤ p) × (p ≤ places_of size)
