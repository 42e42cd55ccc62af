use Rattle.std.proofs.Common.{◌≡◌, ◌++◌, take, map}
use Rattle.copies.specs.Messages.{Told}
use Rattle.copies.specs.Posts.{the_posts, to_all, status_of}
use Rattle.copies.specs.Views.{the_agreeing, the_house}
use Rattle.copies.proofs.turn.Turn.post_status.Given as goal

abbrev pub invariant-loop-to : goal.invariant-loop-to
invariant-loop-to g l = the_posts l.posts.items ≡ the_posts l.initial.posts.items ++ to_all (Told (status_of (the_agreeing l.self.house.agreeing))) (map the_house (take l.to-index l.to-items))
