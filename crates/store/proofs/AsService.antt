-- A call is served as the service that is replicated says: that is as in one place, and the directory shows what is in the place.
use Rattle.std.proofs.Common.{◌≡◌, ℕ, zero, suc, ◌+◌, ◌*◌, ◌/◌, ◌%◌, ◌<◌, List, slice_index_or, refl, sym, ap, ◌∙◌, arith}
use Rattle.disks.specs.Device.{zeros}
use Rattle.wire.specs.Calls.{Decoded, is_call, is_refused}
use Rattle.wire.specs.Answers.{answer_bytes}
use Rattle.volumes.specs.Simulation.{Store}
use Rattle.pieces.specs.Kept.{Kept}
use Rattle.pieces.specs.Meaning.{shown}
use Rattle.pieces.specs.Replaces.{Held}
use Rattle.pieces.specs.Counts.{block_shown}
use Rattle.served.specs.Blocks.{volume_of, block_of, key_at, sector_in}
use Rattle.served.specs.Room.{HasRoom}
use Rattle.served.specs.Served.{decoded_call, reply_to, next_after}
use Rattle.served.specs.OnePlace.{Alike, answer_at, left_at}
use Rattle.served.proofs.Keys.{volume_of-key_of, block_of-key_of}
use Rattle.served.proofs.OnePlace.{as_one_place}
use Rattle.keeping.specs.Keeping.{look_held}
use Rattle.store.specs.Stores.{Stored, sector_of, served, after, reply, next}
use Rattle.store.specs.Serving.{AsTheService}

slot_shown : (d : ℕ → List ℕ) (k : Kept) (v b i : ℕ) → i < 8 → slice_index_or (block_shown d k v b) i (zeros 512) ≡ shown d k v (8 * b + i)
slot_shown d k v b zero l = refl
slot_shown d k v b (suc zero) l = refl
slot_shown d k v b (suc (suc zero)) l = refl
slot_shown d k v b (suc (suc (suc zero))) l = refl
slot_shown d k v b (suc (suc (suc (suc zero)))) l = refl
slot_shown d k v b (suc (suc (suc (suc (suc zero))))) l = refl
slot_shown d k v b (suc (suc (suc (suc (suc (suc zero)))))) l = refl
slot_shown d k v b (suc (suc (suc (suc (suc (suc (suc zero))))))) l = refl
slot_shown d k v b (suc (suc (suc (suc (suc (suc (suc (suc i)))))))) l = absurd (omega (arith, l))

-- what the directory shows of a sector
pub look_sector : (h : Held) (v n : ℕ) → n < 1099511627776 → sector_in (look_held h) v n ≡ sector_of h v n
unfolding look_held
look_sector h v n l =
    let small : n / 8 < 137438953472 = omega (arith, l) in
    let within : n % 8 < 8 = omega arith in
    let back : 8 * (n / 8) + n % 8 ≡ n = omega arith in
    ap (λ (w : ℕ). slice_index_or (block_shown h.data' h.kept w (block_of (key_at v n))) (n % 8) (zeros 512)) (volume_of-key_of v (n / 8) small)
    ∙ ap (λ (b : ℕ). slice_index_or (block_shown h.data' h.kept v b) (n % 8) (zeros 512)) (block_of-key_of v (n / 8) small)
    ∙ slot_shown h.data' h.kept v (n / 8) (n % 8) within
    ∙ ap (shown h.data' h.kept v) back

module _ (o : List ℕ) (s : Stored) (p : HasRoom s.room s.rest (look_held s.held)) where
  abbrev there : Store
  there = record { service = s.rest; sector = sector_of s.held }

  alike : Alike s.rest (look_held s.held) there
  alike = record { service = refl; sectors = λ v n l e. look_sector s.held v n l }

  said : (d : Decoded) → answer_at s.room d there ≡ answer_bytes (served d s).reply
  said (is_call c) = refl
  said (is_refused n) = refl

  left : (d : Decoded) → (left_at s.room d there).service ≡ (served d s).service
  left (is_call c) = refl
  left (is_refused n) = refl

  same_reply : reply o s ≡ reply_to s.room o s.rest (look_held s.held)
  unfolding reply
  same_reply = sym ((as_one_place.steps s.room o s.rest (look_held s.held) there p alike).0 ∙ said (decoded_call o))

  same_rest : (next o s).rest ≡ next_after s.room o s.rest (look_held s.held)
  unfolding next
  same_rest = sym ((as_one_place.steps s.room o s.rest (look_held s.held) there p alike).1.service ∙ left (decoded_call o))

pub as_the_service : AsTheService
as_the_service = record { replies = same_reply; rests = same_rest }
