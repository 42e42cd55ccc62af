-- The places that calls need, by the first of a list and the others.
use Rattle.std.proofs.Common.{◌≡◌, ℕ, List, [], ◌∷◌, ◌++◌, refl}
use Rattle.copies.specs.declared.message.Item.{Item}
use Rattle.copies.specs.declared.message.Bundle.{Bundle}
use Rattle.pieces.specs.Kept.{Kept}
use Rattle.store.specs.Stores.{place_of_item, places_of_items, places_of_bundle, places_of_command}

module _ (k : Kept) where
  pub items_none : places_of_items k [] ≡ []
  unfolding places_of_items
  items_none = refl

  pub items_cons : (i : Item (List ℕ)) (is : List (Item (List ℕ))) → places_of_items k (i ∷ is) ≡ place_of_item k i ++ places_of_items k is
  unfolding places_of_items
  items_cons i is = refl

  pub bundles_none : places_of_command k [] ≡ []
  unfolding places_of_command
  bundles_none = refl

  pub bundles_cons : (b : Bundle (List ℕ)) (bs : List (Bundle (List ℕ))) → places_of_command k (b ∷ bs) ≡ places_of_bundle k b ++ places_of_command k bs
  unfolding places_of_command
  bundles_cons b bs = refl
