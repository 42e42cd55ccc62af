-- What is done where one call changes at most one sector, as calls on volumes do.
-- Assumes nothing.
use Rattle.std.specs.Prelude.{◌≡◌, ℕ, ◌<◌, false, List, [], ◌∷◌, length, bytes_eq}
use Rattle.volumes.specs.Service.{Service}
use Rattle.pieces.specs.Replaces.{Held, sets_held}
use Rattle.served.specs.Blocks as blocks
use Rattle.served.specs.Room as room
use Rattle.keeping.specs.Keeping.{look_held, or_held, tidied_held, write_held, Good, NoneGone}

pub record WritesOne : Type 0 where
  -- no sector: what is gone goes
  pub none : (r : Service) (version : ℕ) (h : Held) → write_held r version [] h ≡ tidied_held r h
  -- one that holds something else: it is set, where that has room
  pub one : (size : ℕ) (r : Service) (version v n : ℕ) (bs : List ℕ) (h : Held) → Good size h → n < 1099511627776 → room.is_gone r (blocks.key_at v n) ≡ false → length bs ≡ 512 → bytes_eq (blocks.sector_in (look_held h) v n) bs ≡ false →
      write_held r version (record { key = blocks.key_at v n; block = blocks.with_sector n bs (look_held h (blocks.key_at v n)) } ∷ []) h ≡ or_held (sets_held v n bs version (tidied_held r h)) (tidied_held r h)
  -- where no entry is of a volume that is gone, none goes
  pub tidy : (r : Service) (h : Held) → NoneGone r h → tidied_held r h ≡ h
