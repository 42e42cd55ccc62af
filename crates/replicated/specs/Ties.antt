-- What the code of a house computes part by part is what the definition of a whole house says.
-- Assumes nothing.
use Rattle.std.specs.Prelude.{◌≡◌, ℕ, Bool, true, ◌&&◌, [], ◌∷◌, ◌++◌, List}
use Rattle.copies.specs.Service.{Service, Keeper}
use Rattle.copies.specs.Messages.{Command, Status}
use Rattle.copies.specs.Copy.{on_status, on_part}
use Rattle.copies.specs.Admits.{is_house}
use Rattle.copies.specs.House.{Wholes, Messages, Parts, Post, State, on, works, posts, part_posts, command_done}
use Rattle.copies.specs.Posts.{posts_of}
use Rattle.copies.specs.Runs.{Ran, command_run, ran}

-- What is sent is what the event's posts are, and behind them the part that another copy wants.
abbrev pub PostsRendered : Type 1
PostsRendered =
    (O R : Type 0) (sv : Service O R) (kp : Keeper sv) (w : Wholes sv kp) → posts sv kp w ≡ posts_of w.turn ++ part_posts sv kp w w.turn.sends.serves

-- WHAT A COMMAND LEAVES. The code does its calls on a service whose state is the rest and the blocks; the version is that of the command.
module _ {O R : Type 0} (sv : Service O R) (kp : Keeper sv) where
  pub record Blocks : Type 0 where
    pub rest : sv.Rest
    pub kept : kp.Kept

  abbrev pub reply_on : O → Blocks → sv.A
  reply_on o z = sv.reply o z.rest (kp.look z.kept)

  abbrev pub next_on : (version : ℕ) → O → Blocks → Blocks
  next_on v o z = record { rest = sv.next o z.rest (kp.look z.kept); kept = kp.write (sv.next o z.rest (kp.look z.kept)) v (sv.changes o z.rest (kp.look z.kept)) z.kept }

  abbrev pub ran_of : State sv kp → Ran sv.A Blocks
  ran_of z = ran z.sessions (record { rest = z.rest; kept = z.kept })

-- where each bundle is one of a house
unfoldable pub of_houses : {O : Type 0} → Command O → Bool
of_houses [] = true
of_houses (b ∷ k) = is_house b.house && of_houses k

abbrev pub CommandsRun : Type 1
CommandsRun =
    (O R : Type 0) (sv : Service O R) (kp : Keeper sv) (v : ℕ) (k : Command O) (z : State sv kp) → of_houses k ≡ true →
    command_run (reply_on sv kp) (next_on sv kp v) k (ran_of sv kp z) ≡ ran_of sv kp (command_done sv kp v k z)

-- A STATUS OR A PART, and the work that it brings, make no bundle: the counter is what it was. So where the event was admitted, the counter
-- fits when the code goes on.
abbrev pub CounterStays : Type 1
CounterStays =
    (O R : Type 0) (sv : Service O R) (kp : Keeper sv) (r : ℕ) (w : Wholes sv kp) →
    ((x : Status O) → (works sv kp (on sv kp (on_status r x) w)).turn.memory.counter ≡ w.turn.memory.counter) ×
    ((x : Parts sv kp) → (works sv kp (on sv kp (on_part r x) w)).turn.memory.counter ≡ w.turn.memory.counter)
