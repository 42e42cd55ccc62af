-- The service is the volumes in one place. Both do the same to heads, if what they read is the same: that is read only within a head's
-- size, where it lives.
use Rattle.std.proofs.Common.{◌≡◌, ℕ, ◌/◌, ◌%◌, ◌<◌, ◌≤◌, Bool, true, false, cond, not, ◌&&◌, ◌||◌, List, [], ◌∷◌, slice_index_or, eqb, leb, ltb, sym, refl, ap, ◌∙◌, arith}
use Rattle.std.specs.List.{list_any}
use Rattle.std.proofs.lemmas.Bool.Decides.{nat_tests}
use Rattle.disks.specs.Device.{zeros}
use Rattle.disks.specs.Disks.{find, Call, Make, Attach, Read, Write, Sync, Picture', Copy, Drop, DropPicture, No, Sector}
use Rattle.wire.specs.Calls.{Decoded, is_call, is_refused}
use Rattle.wire.specs.Answers.{answer_bytes}
use Rattle.volumes.specs.declared.head.Head.{Head}
use Rattle.volumes.specs.Service.{Service, blank_service, Served, says, is_head, is_living, held, within, writes_head, serves}
use Rattle.volumes.specs.Simulation.{Sectors, Store, blank_store, changed_by, read_at, needed, served_at}
use Rattle.volumes.proofs.Lists.{found_one}
use Rattle.copies.specs.Service.{overwritten}
use Rattle.served.specs.Blocks.{Block, empty_block, key_at, sector_in}
use Rattle.served.specs.Room.{is_gone, HasRoom}
use Rattle.served.specs.Served.{decoded_call, seen, serves_decoded, serves_bytes, changes_of, reply_to, next_after, changes_by}
use Rattle.served.specs.OnePlace.{Alike, answer_at, left_at, AsOnePlace}
use Rattle.served.proofs.Keys.{volume_of-key_of}
use Rattle.served.proofs.Seeing.{seen-living}
use Rattle.served.proofs.Steps.{Leaves, leaves}
use Rattle.served.proofs.Living.{any_found, lived}
use Rattle.served.proofs.Rooms.{room_same, empty_zeros, held_below, held_between, held_lives}
use Rattle.served.proofs.Lawful.{either, overwritten_same}
use Rattle.served.proofs.Sectors.{changed_same, left_sector}

-- WHAT IS READ
otherwise : (b : Bool) (x : Served) {y z : Served} → y ≡ z → cond b x y ≡ cond b x z
otherwise b x e = ap (cond b x) e

module _ (r : Service) where
  held_same : (v t : ℕ) (F G : Head → Served) → ((h : Head) → find (is_head v) r.heads ≡ h ∷ [] → F h ≡ G h) → held t (find (is_head v) r.heads) F r ≡ held t (find (is_head v) r.heads) G r
  held_same v t F G e = go (find (is_head v) r.heads) refl
    where
      go : (hs : List Head) → find (is_head v) r.heads ≡ hs → held t hs F r ≡ held t hs G r
      go [] q = refl
      go (h ∷ hs) q = otherwise (eqb t 0 || not (eqb t h.token.0)) _ (e h (q ∙ ap (λ (ks : List Head). h ∷ ks) (found_one (is_head v) r.heads h hs q).0))

  within_same : (n : ℕ) (h : Head) (s s' : Served) → (n < h.size.0 → s ≡ s') → within n h s r ≡ within n h s' r
  within_same n h s s' e = go (ltb n h.size.0) refl
    where
      go : (b : Bool) → ltb n h.size.0 ≡ b → cond b s (says (No 1) r) ≡ cond b s' (says (No 1) r)
      go true q = e (grind (arith, nat_tests))
      go false q = refl

  -- what a call reads counts only where it lies in a volume
  read_same : (room : ℕ) (c : Call) (f g : Sectors) → ((v n : ℕ) (h : Head) → find (is_head v) r.heads ≡ h ∷ [] → n < h.size.0 → f v n ≡ g v n) → serves room c (read_at (needed c) f) r ≡ serves room c (read_at (needed c) g) r
  unfolding serves
  read_same room (Make z) f g e = refl
  read_same room (Attach v) f g e = refl
  read_same room (Read v t n) f g e = held_same v t _ _ (λ h q. within_same n h _ _ (λ l. ap (λ (b : List ℕ). says (Sector b) r) (e v n h q l)))
  read_same room (Write v t n b) f g e = held_same v t _ _ (λ h q. within_same n h _ _ (λ l. ap (λ (a : List ℕ). writes_head room v n a b h r) (e v n h q l)))
  read_same room (Sync v t) f g e = refl
  read_same room (Picture' v t) f g e = refl
  read_same room (Copy p) f g e = refl
  read_same room (Drop v t) f g e = refl
  read_same room (DropPicture p) f g e = refl

-- a volume that lives has blocks that aren't gone
living_key : (r : Service) (v n : ℕ) → n < 1099511627776 → is_living r.next r.heads v ≡ true → is_gone r (key_at v n) ≡ false
living_key r v n l e = ap (λ (w : ℕ). not (is_living r.next r.heads w)) (volume_of-key_of v (n / 8) (omega arith)) ∙ ap not e

living_found : (r : Service) (v : ℕ) (h : Head) → find (is_head v) r.heads ≡ h ∷ [] → 1 ≤ v → is_living r.next r.heads v ≡ true
living_found r v h e l = go (list_any (is_head v) r.heads) (any_found v r.heads h e)
  where
    go : (b : Bool) → b ≡ true → (not (eqb v 0) && (leb r.next v || b)) ≡ true
    go b q = grind (arith, nat_tests)

-- ONE CALL
module _ (room : ℕ) (r : Service) (f : ℕ → Block) (t : Store) (p : HasRoom room r f) (a : Alike r f t) where
  abbrev g : ℕ → Block
  g = seen r f

  room_seen : HasRoom room r g
  room_seen = room_same room r f g (λ k. either r f g k (λ e. sym (seen-living r f k e))) p

  seen_at : (v n : ℕ) → is_gone r (key_at v n) ≡ false → sector_in g v n ≡ sector_in f v n
  seen_at v n e = ap (λ (b : Block). slice_index_or b (n % 8) (zeros 512)) (seen-living r f (key_at v n) e)

  seen_alike : (v n : ℕ) → n < 1099511627776 → is_living r.next r.heads v ≡ true → sector_in g v n ≡ t.sector v n
  seen_alike v n l e = seen_at v n (living_key r v n l e) ∙ a.sectors v n l e

  -- what is served there
  unfoldable served_there : Decoded → Served
  served_there (is_call c) = served_at room c t
  served_there (is_refused n) = says (No n) t.service

  same_served : (d : Decoded) → serves_decoded room d r g ≡ served_there d
  unfolding serves_decoded served_there
  same_served (is_call c) =
      read_same r room c (sector_in g) t.sector (λ v n h e l. seen_at v n (held_lives room r f p v n h e l) ∙ a.sectors v n (held_below room r f p v n h e l) (living_found r v h e (held_between room r f p v h e).1)) ∙
      ap (λ (x : Service). serves room c (read_at (needed c) t.sector) x) a.service
  same_served (is_refused n) = ap (λ (x : Service). says (No n) x) a.service

  after : (s s' : Served) → Leaves room r g s → s ≡ s' → Alike s.service (overwritten (changes_of s.change g) f) (record { service = s'.service; sector = changed_by s'.change t.sector })
  after s s' q e = record { service = ap (λ (x : Served). x.service) e; sectors = sectors }
    where
      sectors : (v n : ℕ) → n < 1099511627776 → is_living s.service.next s.service.heads v ≡ true → sector_in (overwritten (changes_of s.change g) f) v n ≡ changed_by s'.change t.sector v n
      sectors v n l y =
          let before : is_living r.next r.heads v ≡ true = lived room r g s q v y in
          ap (λ (b : Block). slice_index_or b (n % 8) (zeros 512)) (sym (overwritten_same (changes_of s.change g) g f (key_at v n) (seen-living r f (key_at v n) (living_key r v n l before)))) ∙
          left_sector room r g room_seen s q v n l y ∙ changed_same s.change (sector_in g) t.sector v n (seen_alike v n l before) ∙ ap (λ (x : Served). changed_by x.change t.sector v n) e

  pub step : (d : Decoded) → Leaves room r g (serves_decoded room d r g) → (answer_bytes (serves_decoded room d r g).reply ≡ answer_at room d t) × Alike (serves_decoded room d r g).service (overwritten (changes_of (serves_decoded room d r g).change g) f) (left_at room d t)
  unfolding served_there
  step (is_call c) q = (ap (λ (x : Served). answer_bytes x.reply) (same_served (is_call c)), after _ (served_at room c t) q (same_served (is_call c)))
  step (is_refused n) q = (ap (λ (x : Served). answer_bytes x.reply) (same_served (is_refused n)), after _ (says (No n) t.service) q (same_served (is_refused n)))

-- THE ONE PLACE
pub begins : Alike blank_service (λ k. empty_block) blank_store
begins = record { service = refl; sectors = λ v n l e. empty_zeros (n % 8) (omega arith) }

pub steps : (room : ℕ) (o : List ℕ) (r : Service) (f : ℕ → Block) (t : Store) → HasRoom room r f → Alike r f t →
    (reply_to room o r f ≡ answer_at room (decoded_call o) t) × Alike (next_after room o r f) (overwritten (changes_by room o r f) f) (left_at room (decoded_call o) t)
unfolding serves_bytes
steps room o r f t p a = step room r f t p a (decoded_call o) (leaves room r (seen r f) o)

pub as_one_place : AsOnePlace
as_one_place = record { begins = begins; steps = steps }
