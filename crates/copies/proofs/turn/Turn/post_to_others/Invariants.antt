use Rattle.std.proofs.Common.{◌≡◌, ◌++◌, take, map}
use Rattle.copies.specs.Messages.{Bundled}
use Rattle.copies.specs.Posts.{the_posts, to_all}
use Rattle.copies.specs.Views.{the_bundle, the_house}
use Rattle.copies.proofs.turn.Turn.post_to_others.Given as goal

abbrev pub invariant-loop-to : goal.invariant-loop-to
invariant-loop-to g l = the_posts l.posts.items ≡ the_posts l.initial.posts.items ++ to_all (Bundled (the_bundle l.bundle)) (map the_house (take l.to-index l.to-items))
