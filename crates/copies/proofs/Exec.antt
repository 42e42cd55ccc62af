-- A command's bundles and a bundle's calls, one after the other.
use Rattle.std.proofs.Common.{◌≡◌, ℕ, zero, suc, ◌+◌, ◌<◌, List, [], ◌∷◌, ◌++◌, length, take, get_or, sym, ap, add-one, arith}
use Rattle.copies.specs.Messages.{Reply}
use Rattle.copies.specs.Runs.{left, replied, Ran, bundle_run, command_run}
use Rattle.copies.specs.Views.{the_items, the_bundle, the_bundles}
use Rattle.copies.specs.declared.message.Bundle.{Bundle}
use Rattle.copies.specs.declared.message.Item.{Item as ItemHad}

module _ {C S : Type 0} (next : C → S → S) where
  left_suc : (is : List (ItemHad C)) (i : ℕ) (x : ItemHad C) (s : S) → i < length is → x ≡ get_or is i x → left next (the_items (take (suc i) is)) s ≡ next x.call (left next (the_items (take i is)) s)
  unfolding left
  left_suc [] i x s l e = absurd (omega arith)
  left_suc (y ∷ is) zero x s l e = ap (λ (z : ItemHad C). next z.call s) (sym e)
  left_suc (y ∷ is) (suc i) x s l e = left_suc is i x (next y.call s) (omega arith) e

  pub left_next : (is : List (ItemHad C)) (i : ℕ) (x : ItemHad C) (s : S) → i < length is → x ≡ get_or is i x → left next (the_items (take (i + 1) is)) s ≡ next x.call (left next (the_items (take i is)) s)
  left_next is i x s l e = rw add-one (left_suc is i x s l e)

module _ {C A S : Type 0} (reply : C → S → A) (next : C → S → S) where
  replied_suc : (is : List (ItemHad C)) (i : ℕ) (x : ItemHad C) (s : S) → i < length is → x ≡ get_or is i x → replied reply next (the_items (take (suc i) is)) s ≡ replied reply next (the_items (take i is)) s ++ record { id = x.id.0; reply = reply x.call (left next (the_items (take i is)) s) } ∷ []
  unfolding replied left
  replied_suc [] i x s l e = absurd (omega arith)
  replied_suc (y ∷ is) zero x s l e = ap (λ (z : ItemHad C). let r : Reply A = record { id = z.id.0; reply = reply z.call s } in r ∷ []) (sym e)
  replied_suc (y ∷ is) (suc i) x s l e = ap (λ (rs : List (Reply A)). let r : Reply A = record { id = y.id.0; reply = reply y.call s } in r ∷ rs) (replied_suc is i x (next y.call s) (omega arith) e)

  pub replied_next : (is : List (ItemHad C)) (i : ℕ) (x : ItemHad C) (s : S) → i < length is → x ≡ get_or is i x → replied reply next (the_items (take (i + 1) is)) s ≡ replied reply next (the_items (take i is)) s ++ record { id = x.id.0; reply = reply x.call (left next (the_items (take i is)) s) } ∷ []
  replied_next is i x s l e = rw add-one (replied_suc is i x s l e)

  run_suc : (bs : List (Bundle C)) (i : ℕ) (b : Bundle C) (z : Ran A S) → i < length bs → b ≡ get_or bs i b → command_run reply next (the_bundles (take (suc i) bs)) z ≡ bundle_run reply next (the_bundle b) (command_run reply next (the_bundles (take i bs)) z)
  unfolding command_run
  run_suc [] i b z l e = absurd (omega arith)
  run_suc (x ∷ bs) zero b z l e = ap (λ (y : Bundle C). bundle_run reply next (the_bundle y) z) (sym e)
  run_suc (x ∷ bs) (suc i) b z l e = run_suc bs i b (bundle_run reply next (the_bundle x) z) (omega arith) e

  pub run_next : (bs : List (Bundle C)) (i : ℕ) (b : Bundle C) (z : Ran A S) → i < length bs → b ≡ get_or bs i b → command_run reply next (the_bundles (take (i + 1) bs)) z ≡ bundle_run reply next (the_bundle b) (command_run reply next (the_bundles (take i bs)) z)
  run_next bs i b z l e = rw add-one (run_suc bs i b z l e)
