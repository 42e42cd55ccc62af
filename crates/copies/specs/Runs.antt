-- What a command's calls reply and leave, of any service that replies and goes on by its state.
-- Assumes nothing.
use Rattle.std.specs.Prelude.{ℕ, ◌&&◌, cond, List, [], ◌∷◌}
use Rattle.disks.specs.Cluster.{put}
use Rattle.copies.specs.Messages.{Item, Bundle, Command, Reply, Session}
use Rattle.copies.specs.Copy.{is_new}
use Rattle.copies.specs.Admits.{is_house}

unfoldable pub left : {O S : Type 0} (next : O → S → S) → List (Item O) → S → S
left next [] s = s
left next (x ∷ xs) s = left next xs (next x.call s)

unfoldable pub replied : {O A S : Type 0} (reply : O → S → A) (next : O → S → S) → List (Item O) → S → List (Reply A)
replied reply next [] s = []
replied reply next (x ∷ xs) s = record { id = x.id; reply = reply x.call s } ∷ replied reply next xs (next x.call s)

pub record Ran (A S : Type 0) : Type 0 where
  pub sessions : ℕ → Session A
  pub state : S

module _ {O A S : Type 0} (reply : O → S → A) (next : O → S → S) where
  abbrev pub fulfilled : Bundle O → Ran A S → Ran A S
  fulfilled b z = record { sessions = put b.house (record { incarnation = b.incarnation; counter = b.counter; replies = replied reply next b.calls z.state }) z.sessions; state = left next b.calls z.state }

  -- a bundle that is not above the last one of its house is passed over, and so is one of no house
  abbrev pub bundle_run : Bundle O → Ran A S → Ran A S
  bundle_run b z = cond (is_house b.house && is_new b z.sessions) (fulfilled b z) z

  unfoldable pub command_run : Command O → Ran A S → Ran A S
  command_run [] z = z
  command_run (b ∷ k) z = command_run k (bundle_run b z)

abbrev pub ran : {A S : Type 0} → (ℕ → Session A) → S → Ran A S
ran done s = record { sessions = done; state = s }
