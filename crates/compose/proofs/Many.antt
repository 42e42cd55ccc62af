use Rattle.std.specs.Prelude.{◌≡◌}
use mathlib.Core.List.{List, [], ◌∷◌, ◌++◌, Memᴰ}
use Rattle.disks.specs.Cluster.{is_done}
use Rattle.compose.specs.Many.{ManyAtOnce, AnyWaiting}
use Rattle.compose.proofs.Sets.{take_split, mem_takes}

pub many_at_once : ManyAtOnce
many_at_once O R p x es [] ws s rs f c l = l
many_at_once O R p x es (d ∷ ds) ws s rs f c l = many_at_once O R p x es ds ws (x.state d.call s) _ f c (is_done [] (ds ++ ws) d.house d.id d.call l (x.allowed d.call s))

-- where an element stands
pub split : {A : Type 0} {x : A} {xs : List A} → Memᴰ x xs → (before : List A) × (behind : List A) × (xs ≡ before ++ x ∷ behind)
split m = let (before, behind, e, _) = take_split (mem_takes m).1 in (before, behind, e)

pub any_waiting : AnyWaiting
any_waiting O R p es w ws s t r rs f c l m a =
    let (before, behind, e) = split m in
    (before, behind, e, is_done before behind w.house w.id w.call (rw e at l) a)
