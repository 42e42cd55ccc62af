-- A group of houses: each of it is one of all houses.
use Rattle.std.specs.Prelude.{ℕ, ◌<◌, T, ltb}
use mathlib.Core.List.{List, [], ◌∷◌, Memᴰ}
use Rattle.std.proofs.Common.{ltb→lt}
use Rattle.std.proofs.Math.Facts.{and_yes}
use Rattle.disks.specs.Cluster.{inside}

pub in_group : (all : ℕ) (group : List ℕ) {i : ℕ} → T (inside all group) → Memᴰ i group → i < all
unfolding inside
in_group all [] t m = elim m [ ]
in_group all (k ∷ group) t (Memᴰ.head e) = rw e (ltb→lt k all (and_yes (ltb k all) _ t).0)
in_group all (k ∷ group) t (Memᴰ.tail m) = in_group all group (and_yes (ltb k all) _ t).1 m
