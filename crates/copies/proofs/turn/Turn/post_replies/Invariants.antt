use Rattle.std.proofs.Common.{◌≡◌, ◌++◌, take, map}
use Rattle.copies.specs.Posts.{the_posts, reply_to}
use Rattle.copies.specs.Views.{the_sessions, the_house}
use Rattle.copies.proofs.turn.Turn.post_replies.Given as goal

abbrev pub invariant-loop-to : goal.invariant-loop-to
invariant-loop-to g l = the_posts l.posts.items ≡ the_posts l.initial.posts.items ++ map (reply_to (the_sessions l.self.house.sessions)) (map the_house (take l.to-index l.to-items))
