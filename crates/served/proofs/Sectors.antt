-- What each sector holds after a call: what the volumes in one place leave.
use Rattle.std.proofs.Common.{◌≡◌, ℕ, ◌<◌, Bool, true, false, cond, not, ◌&&◌, ◌||◌, List, [], ◌∷◌, eqb, leb, refl, ap, ◌∙◌, arith, eqb-true}
use Rattle.std.proofs.lemmas.Bool.Decides.{nat_tests}
use Rattle.std.proofs.lemmas.Slice.Eq.{bytes_eq-Decides}
use Rattle.std.specs.Prelude.{bytes_eq}
use Rattle.std.specs.List.{list_any}
use Rattle.agreement.proofs.Base.{by_test}
use Rattle.disks.specs.Device.{zeros}
use Rattle.disks.specs.Disks.{find}
use Rattle.volumes.specs.declared.head.Head.{Head}
use Rattle.volumes.specs.Service.{Service, Served, Changed, keeps, puts, forgets, is_head, is_living, without}
use Rattle.volumes.specs.Simulation.{Sectors, changed_by}
use Rattle.copies.specs.Service.{Change, overwritten}
use Rattle.served.specs.Blocks.{Block, key_at, sector_in}
use Rattle.served.specs.Room.{HasRoom}
use Rattle.served.specs.Served.{changes_of}
use Rattle.served.proofs.Steps.{Leaves, stays, reads, makes, attaches, writes, drops}
use Rattle.served.proofs.Heads.{none_without}
use Rattle.served.proofs.Writing.{sector-over, sector-held}
use Rattle.served.proofs.Rooms.{held_below, held_between, held_lives}

-- changed alike where they hold the same
pub changed_same : (c : Changed) (f g : Sectors) (v n : ℕ) → f v n ≡ g v n → changed_by c f v n ≡ changed_by c g v n
changed_same keeps f g v n e = e
changed_same (puts w m b) f g v n e = ap (λ (s : List ℕ). cond (eqb v w && eqb n m) b s) e
changed_same (forgets w) f g v n e = ap (λ (s : List ℕ). cond (eqb v w) (zeros 512) s) e

not_living : (next v : ℕ) (a b : Bool) → v < next → b ≡ false → (a && (leb next v || b)) ≡ true → ⊥
not_living next v a b l e q = grind (arith, nat_tests)

module _ (room : ℕ) (r : Service) (f : ℕ → Block) (p : HasRoom room r f) where
  wrote_sector : (v n : ℕ) (b : List ℕ) (h : Head) → find (is_head v) r.heads ≡ h ∷ [] → n < h.size.0 → (w m : ℕ) → m < 1099511627776 → sector_in (overwritten (changes_of (puts v n b) f) f) w m ≡ cond (eqb w v && eqb m n) b (sector_in f w m)
  unfolding changes_of overwritten
  wrote_sector v n b h e l w m k =
      by_test (λ (cs : List (Change Block)). sector_in (overwritten cs f) w m ≡ cond (eqb w v && eqb m n) b (sector_in f w m)) (bytes_eq (sector_in f v n) b)
      (λ t. sector-held f v n w m b ((bytes_eq-Decides (sector_in f v n) b).0 t))
      (λ _. sector-over f v n w m b (held_below room r f p v n h e l) k (p.blocks (key_at v n) (held_lives room r f p v n h e l)).eight)

  -- of volumes that live afterwards
  pub left_sector : (s : Served) → Leaves room r f s → (w m : ℕ) → m < 1099511627776 → is_living s.service.next s.service.heads w ≡ true → sector_in (overwritten (changes_of s.change f) f) w m ≡ changed_by s.change (sector_in f) w m
  unfolding changes_of overwritten
  left_sector s (stays a c) w m k q = refl
  left_sector s (reads v n h e l) w m k q = refl
  left_sector s (makes z i j x y) w m k q = refl
  left_sector s (attaches v h e l) w m k q = refl
  left_sector s (writes v n b h e l i x) w m k q = wrote_sector v n b h e l w m k
  left_sector s (drops v h e) w m k q = by_test (λ (x : List ℕ). sector_in f w m ≡ x) (eqb w v) (λ t. absurd (gone (eqb-true w v t))) (λ _. refl)
    where
      gone : w ≡ v → ⊥
      gone same = not_living r.next w (not (eqb w 0)) (list_any (is_head w) (without (is_head v) r.heads)) (omega (arith, same, (held_between room r f p v h e).2)) (ap (λ (u : ℕ). list_any (is_head u) (without (is_head v) r.heads)) same ∙ none_without v 1 r.next r.heads p.rising) q
