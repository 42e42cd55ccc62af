-- The service is the volumes in one place, with their sectors; and so it is the meaning, in bytes.
-- Assumes nothing.
use Rattle.std.specs.Prelude.{◌≡◌, ℕ, ◌<◌, true, List}
use Rattle.disks.specs.Disks.{State, blank, Reply, No, Answers, Cut, core}
use Rattle.disks.specs.Cluster.{Seen, Plain, Waiting, Ready, Linear}
use Rattle.wire.specs.Calls.{Decoded, is_call, is_refused}
use Rattle.wire.specs.Answers.{answer_bytes}
use Rattle.volumes.specs.Service.{Service, blank_service, is_living}
use Rattle.volumes.specs.Simulation.{Store, blank_store, served_at, store_after, Same}
use Rattle.copies.specs.Service.{overwritten}
use Rattle.copies.specs.Promise.{Place, plain}
use Rattle.served.specs.Blocks.{Block, empty_block, sector_in}
use Rattle.served.specs.Room.{HasRoom}
use Rattle.served.specs.Served.{decoded_call, reply_to, next_after, changes_by, busy_bytes, volume_service}

-- the same heads, and sectors of volumes that live hold the same
pub record Alike (r : Service) (f : ℕ → Block) (t : Store) : Type 0 where
  pub service : r ≡ t.service
  pub sectors : (v n : ℕ) → n < 1099511627776 → is_living r.next r.heads v ≡ true → sector_in f v n ≡ t.sector v n

-- what the one place answers, and what it leaves
abbrev pub answer_at : (room : ℕ) → Decoded → Store → List ℕ
answer_at room (is_call c) t = answer_bytes (served_at room c t).reply
answer_at room (is_refused n) t = answer_bytes (No n)

abbrev pub left_at : (room : ℕ) → Decoded → Store → Store
left_at room (is_call c) t = store_after room c t
left_at room (is_refused n) t = t

-- Any bytes are answered as in one place.
pub record AsOnePlace : Type 0 where
  pub begins : Alike blank_service (λ k. empty_block) blank_store
  pub steps : (room : ℕ) (o : List ℕ) (r : Service) (f : ℕ → Block) (t : Store) → HasRoom room r f → Alike r f t →
      (reply_to room o r f ≡ answer_at room (decoded_call o) t) × Alike (next_after room o r f) (overwritten (changes_by room o r f) f) (left_at room (decoded_call o) t)

-- THE MEANING. A state of it and one of the service.
pub record Means (s : State) (r : Service) (f : ℕ → Block) : Type 0 where
  pub store : Store
  pub same : Same s store
  pub alike : Alike r f store

-- an answer in bytes that the meaning allows, and what it leaves
abbrev pub Allowed : (room : ℕ) → Decoded → State → (answer : List ℕ) → State → Type 0
Allowed room (is_call c) s a u = (b : Reply) × (a ≡ answer_bytes b) × Answers core room c s b u
Allowed room (is_refused n) s a u = (a ≡ answer_bytes (No n)) × (u ≡ s)

-- Any bytes are answered as the meaning allows.
pub record AsTheMeaning : Type 0 where
  pub begins : Means blank blank_service (λ k. empty_block)
  pub steps : (room : ℕ) (o : List ℕ) (s : State) (r : Service) (f : ℕ → Block) → HasRoom room r f → Means s r f →
      (u : State) × Allowed room (decoded_call o) s (reply_to room o r f) u × Means u (next_after room o r f) (overwritten (changes_by room o r f) f)

-- volumes in one place, whose calls and answers are bytes
abbrev pub meaning : (room : ℕ) → Plain (List ℕ) (List ℕ)
meaning room = record { State = State; start = blank; Answers = λ o s a u. Allowed room (decoded_call o) s a u; Cut = Cut; busy = busy_bytes }

-- What may be seen of the service may be seen of them, with the same calls waiting, answers ready, falls and cuts.
abbrev pub SeenAsTheMeaning : Type 0
SeenAsTheMeaning =
    (room : ℕ) (es : List (Seen (List ℕ) (List ℕ))) (x : Place (volume_service room)) (ws : List (Waiting (List ℕ))) (rs : List (Ready (List ℕ))) (f c : ℕ) → Linear (plain (volume_service room)) es x ws rs f c →
    (s : State) × Means s x.rest x.blocks × Linear (meaning room) es s ws rs f c
