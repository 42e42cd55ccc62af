-- Each reply has a spelling, since numbers and tokens are below 2^62, and sectors are whole.
use Rattle.std.proofs.Common.{ℕ, ◌+◌, ◌^◌, ◌<◌, ◌≤◌, true, T, [], ◌∷◌, length, ltb, sym, arith, lt→ltb}
use Rattle.disks.specs.Disks.{Reply, No, Yes, Num, Token, Sector, Full}
use Rattle.octets.specs.Numbers.{small}
use Rattle.octets.proofs.Numbers.{join}
use Rattle.octets.proofs.Fields.{length-numbers}
use Rattle.wire.specs.Answers.{answer_bytes}
use Rattle.wire.specs.Promises.{Said}
use Rattle.volumes.specs.Service.{Service, Served, is_head}
use Rattle.served.specs.Blocks.{Block}
use Rattle.served.specs.Room.{HasRoom}
use Rattle.served.specs.Served.{seen, serves_bytes, RepliesFit}
use Rattle.served.proofs.Seeing.{seen-living}
use Rattle.served.proofs.Steps.{Calm, Leaves, stays, reads, makes, attaches, writes, drops, leaves}
use Rattle.served.proofs.Heads.{count_found}
use Rattle.served.proofs.Rooms.{room_same, held_whole}
use Rattle.served.proofs.Lawful.{either}

small_one : (n : ℕ) → n < 2 ^ 64 → T (small (n ∷ []))
unfolding small
small_one n l = join (ltb n (2 ^ 64)) true (lt→ltb n (2 ^ 64) l) tt

small_two : (n m : ℕ) → n < 2 ^ 64 → m < 2 ^ 64 → T (small (n ∷ m ∷ []))
unfolding small
small_two n m l k = join (ltb n (2 ^ 64)) (small (m ∷ [])) (lt→ltb n (2 ^ 64) l) (small_one m k)

calm_said : (a : Reply) → Calm a → Said a
calm_said (No n) c = c.1
calm_said Yes c = tt
calm_said (Num n) c = absurd c
calm_said (Token t z) c = absurd c
calm_said (Sector b) c = absurd c
calm_said Full c = tt

said_left : (room : ℕ) (r : Service) (f : ℕ → Block) → HasRoom room r f → (s : Served) → Leaves room r f s → Said s.reply
said_left room r f p s (stays a c) = calm_said a c
said_left room r f p s (reads v n h e l) = held_whole room r f p v n h e l
said_left room r f p s (makes z l x y m) = small_one r.next (omega (arith, y))
said_left room r f p s (attaches v h e l) = small_two (h.token.0 + 1) h.size.0 (omega (arith, l)) (omega (arith, (count_found f (is_head v) r.heads h e p.counts).size))
said_left room r f p s (writes v n b h e l w x) = tt
said_left room r f p s (drops v h e) = tt

said_short : (a : Reply) → Said a → length (answer_bytes a) ≤ 513
said_short (No n) s = omega arith
said_short Yes s = omega arith
said_short (Num n) s = omega (arith, length-numbers (n ∷ []))
said_short (Token t z) s = omega (arith, length-numbers (t ∷ z ∷ []))
said_short (Sector b) s = omega (arith, s)
said_short Full s = omega arith

pub replies_fit : RepliesFit
unfolding serves_bytes
replies_fit room o r f p =
    let q : HasRoom room r (seen r f) = room_same room r f (seen r f) (λ k. either r f (seen r f) k (λ e. sym (seen-living r f k e))) p in
    let s = said_left room r (seen r f) q _ (leaves room r (seen r f) o) in
    (s, said_short _ s)
