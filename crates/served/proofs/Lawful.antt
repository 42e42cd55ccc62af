-- The service is lawful. Replies, heads and changes go by what is seen, and what is seen doesn't depend on what is gone. A call leaves one of
-- five states, and each has room.
use Rattle.std.proofs.Common.{◌≡◌, ℕ, Bool, true, false, cond, ◌≢◌, ◌⊎◌, List, [], ◌∷◌, length, slice_index_or, eqb, sym, refl, ap, ◌∙◌, inl, inr, arith}
use Rattle.std.specs.Prelude.{bytes_eq}
use Rattle.std.proofs.lemmas.Slice.Eq.{bytes_eq-Decides}
use Rattle.std.proofs.lemmas.List.Elements.{All-replicate}
use Rattle.agreement.proofs.Base.{by_test}
use Rattle.disks.specs.Device.{zeros}
use Rattle.disks.specs.Disks.{Reply, No, Yes, Num, Token, Sector, Full}
use Rattle.wire.specs.Answers.{answer_bytes}
use Rattle.volumes.specs.Service.{Service, Served, blank_service}
use Rattle.copies.specs.Service.{Change, overwritten}
use Rattle.served.specs.Blocks.{Block, empty_block}
use Rattle.served.specs.Room.{is_gone, IsBlock, HasRoom}
use Rattle.served.specs.Served.{seen, serves_decoded, decoded_call, serves_bytes, changes_of, reply_to, next_after, changes_by, busy_bytes, told, IsLawful, NeverBusy}
use Rattle.served.proofs.Seeing.{seen-living, seen-same}
use Rattle.served.proofs.Steps.{Calm, Leaves, stays, reads, makes, attaches, writes, drops, leaves}
use Rattle.served.proofs.Living.{never, gone-stays}
use Rattle.served.proofs.Rooms.{room_same, left_room}

-- WHAT IS GONE
pub gone_stays : (room : ℕ) (o : List ℕ) (r : Service) (f : ℕ → Block) (k : ℕ) → is_gone r k ≡ true → is_gone (next_after room o r f) k ≡ true
unfolding serves_bytes
gone_stays room o r f k = gone-stays room r (seen r f) _ (leaves room r (seen r f) o) k

agrees : (room : ℕ) (o : List ℕ) (r : Service) (f g : ℕ → Block) → ((k : ℕ) → (is_gone r k ≡ true) ⊎ (f k ≡ g k)) →
    (reply_to room o r f ≡ reply_to room o r g) × (next_after room o r f ≡ next_after room o r g) × (changes_by room o r f ≡ changes_by room o r g)
unfolding serves_bytes
agrees room o r f g e =
    let same : seen r f ≡ seen r g = seen-same r f g e in (
      ap (λ (h : ℕ → Block). answer_bytes (serves_decoded room (decoded_call o) r h).reply) same,
      ap (λ (h : ℕ → Block). (serves_decoded room (decoded_call o) r h).service) same,
      ap (λ (h : ℕ → Block). changes_of (serves_decoded room (decoded_call o) r h).change h) same,
    )

-- ROOM
pub blank_block : IsBlock empty_block
unfolding zeros
blank_block = record { eight = refl; whole = All-replicate (λ (s : List ℕ). length s ≡ 512) 8 (zeros 512) refl }

room_first : (room : ℕ) → HasRoom room blank_service (λ k. empty_block)
room_first room = record { few = omega arith; limited = omega arith; rising = omega arith; counts = tt; weight = refl; within = omega arith; blocks = λ k e. blank_block; fresh = λ k l. refl }

pub either : (r : Service) (f g : ℕ → Block) (k : ℕ) → (is_gone r k ≡ false → f k ≡ g k) → (is_gone r k ≡ true) ⊎ (f k ≡ g k)
either r f g k c = go (is_gone r k) c
  where
    go : (b : Bool) → (b ≡ false → f k ≡ g k) → (b ≡ true) ⊎ (f k ≡ g k)
    go true d = inl refl
    go false d = inr (d refl)

-- what agrees at a key agrees after changes
pub overwritten_same : (cs : List (Change Block)) (f g : ℕ → Block) (k : ℕ) → f k ≡ g k → overwritten cs f k ≡ overwritten cs g k
unfolding overwritten
overwritten_same [] f g k e = e
overwritten_same (c ∷ cs) f g k e = overwritten_same cs _ _ k (ap (λ (b : Block). cond (eqb k c.key) c.block b) e)

room_stays : (room : ℕ) (o : List ℕ) (r : Service) (f : ℕ → Block) → HasRoom room r f → HasRoom room (next_after room o r f) (overwritten (changes_by room o r f) f)
unfolding serves_bytes
room_stays room o r f p = room_same room (next_after room o r f) (overwritten (changes_by room o r f) (seen r f)) _ back after
  where
    after : HasRoom room (next_after room o r f) (overwritten (changes_by room o r f) (seen r f))
    after = left_room room r (seen r f) (room_same room r f (seen r f) (λ k. either r f (seen r f) k (λ e. sym (seen-living r f k e))) p) _ (leaves room r (seen r f) o)

    back : (k : ℕ) → (is_gone (next_after room o r f) k ≡ true) ⊎ (overwritten (changes_by room o r f) (seen r f) k ≡ overwritten (changes_by room o r f) f k)
    back k = go (is_gone r k) refl
      where
        go : (b : Bool) → is_gone r k ≡ b → (is_gone (next_after room o r f) k ≡ true) ⊎ (overwritten (changes_by room o r f) (seen r f) k ≡ overwritten (changes_by room o r f) f k)
        go true e = inl (gone_stays room o r f k e)
        go false e = inr (overwritten_same (changes_by room o r f) (seen r f) f k (seen-living r f k e))

-- BUSY
other_bytes : (n : ℕ) → n ≢ 11 → answer_bytes (No n) ≢ busy_bytes
other_bytes n c e = c (ap (λ (bs : List ℕ). slice_index_or bs 1 0) e)

calm_bytes : (a : Reply) → Calm a → answer_bytes a ≢ busy_bytes
calm_bytes (No n) c e = other_bytes n c.0 e
calm_bytes Yes c e = cc
calm_bytes (Num n) c e = c
calm_bytes (Token t z) c e = c
calm_bytes (Sector b) c e = c
calm_bytes Full c e = cc

left_bytes : (room : ℕ) (r : Service) (f : ℕ → Block) (s : Served) → Leaves room r f s → answer_bytes s.reply ≢ busy_bytes
left_bytes room r f s (stays a c) e = calm_bytes a c e
left_bytes room r f s (reads v n h d l) e = cc
left_bytes room r f s (makes z l x y m) e = cc
left_bytes room r f s (attaches v h d l) e = cc
left_bytes room r f s (writes v n b h d l w x) e = cc
left_bytes room r f s (drops v h d) e = cc

not_busy : (room : ℕ) (o : List ℕ) (r : Service) (f : ℕ → Block) → reply_to room o r f ≢ busy_bytes
unfolding serves_bytes
not_busy room o r f = left_bytes room r (seen r f) _ (leaves room r (seen r f) o)

pub never_busy : NeverBusy
unfolding told
never_busy room o r f = (
  not_busy room o r f,
  by_test (λ (bs : List ℕ). bs ≡ reply_to room o r f) (bytes_eq (reply_to room o r f) busy_bytes) (λ t. absurd (not_busy room o r f ((bytes_eq-Decides (reply_to room o r f) busy_bytes).0 t))) (λ _. refl),
)

unlike : (a : List ℕ) → told a ≡ busy_bytes → ⊥
unfolding told
unlike a = by_test (λ (bs : List ℕ). bs ≡ busy_bytes → ⊥) (bytes_eq a busy_bytes) (λ _. other_bytes 1 (λ x. omega arith)) (λ t e. never (sym ((bytes_eq-Decides a busy_bytes).1 e) ∙ t))

pub lawful : IsLawful
lawful room = record { gone_stays = gone_stays room; agrees = agrees room; room_first = room_first room; room_stays = room_stays room; room_same = room_same room; unlike = unlike }
