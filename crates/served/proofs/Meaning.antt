-- The service is the meaning in bytes, since it is the volumes in one place, and these are the meaning. A run of the one is then one of
-- the other.
use Rattle.std.proofs.Common.{◌≡◌, ℕ, T, List, [], ◌∷◌, length, drop, sym, refl, ◌∙◌, subst, arith, length-drop}
use Rattle.disks.specs.Device.{all_bytes}
use Rattle.disks.specs.Disks.{Volume, State, CutVolumes, no_more, left, cut}
use Rattle.octets.proofs.Fields.{bytes_drop}
use Rattle.wire.specs.declared.kind.Kind.{Kind}
use Rattle.wire.specs.declared.kind.Kind.TheVariants as kinds
use Rattle.wire.specs.Calls.{Decoded, is_call, is_refused, length_for, call_of}
use Rattle.volumes.specs.Service.{Service}
use Rattle.volumes.specs.Simulation.{Store, blank_store, served_at, store_after, Same, WholeSector}
use Rattle.volumes.proofs.Alike.{serves_the_meaning}
use Rattle.compose.specs.Along.{Follows}
use Rattle.compose.proofs.Along.{linear_along}
use Rattle.copies.specs.Promise.{Place, plain}
use Rattle.copies.specs.Service.{overwritten}
use Rattle.served.specs.Blocks.{Block}
use Rattle.served.specs.Room.{HasRoom}
use Rattle.served.specs.Served.{decoded_call, reply_to, next_after, changes_by, volume_service}
use Rattle.served.specs.OnePlace.{Alike, answer_at, left_at, Means, Allowed, AsTheMeaning, meaning, SeenAsTheMeaning}
use Rattle.served.proofs.Decoding.{on_decoded}
use Rattle.served.proofs.Lawful.{lawful, never_busy}
use Rattle.served.proofs.OnePlace.{begins, steps}

whole_sector : (k : Kind) (bs : List ℕ) → T (all_bytes bs) → length bs ≡ length_for k → WholeSector (call_of k bs)
whole_sector kinds.Make bs h e = tt
whole_sector kinds.Attach bs h e = tt
whole_sector kinds.Read bs h e = tt
whole_sector kinds.Write bs h e = (rw length-drop (omega (arith, e)), bytes_drop 24 bs h)
whole_sector kinds.Sync bs h e = tt
whole_sector kinds.Picture bs h e = tt
whole_sector kinds.Copy bs h e = tt
whole_sector kinds.Drop bs h e = tt
whole_sector kinds.DropPicture bs h e = tt

abbrev Whole : Decoded → Type 0
Whole (is_call c) = WholeSector c
Whole (is_refused n) = Unit {0}

-- as it is of what one place answers and leaves
met : (room : ℕ) (d : Decoded) → Whole d → (s : State) (t : Store) → Same s t → (answer : List ℕ) (r : Service) (f : ℕ → Block) → answer ≡ answer_at room d t → Alike r f (left_at room d t) → (u : State) × Allowed room d s answer u × Means u r f
met room (is_call c) w s t q answer r f e a =
    let x = serves_the_meaning.steps room s t q c w in
    (x.0, ((served_at room c t).reply, e, x.1), record { store = store_after room c t; same = x.2; alike = a })
met room (is_refused n) w s t q answer r f e a = (s, (e, refl), record { store = t; same = q; alike = a })

pub means_steps : (room : ℕ) (o : List ℕ) (s : State) (r : Service) (f : ℕ → Block) → HasRoom room r f → Means s r f →
    (u : State) × Allowed room (decoded_call o) s (reply_to room o r f) u × Means u (next_after room o r f) (overwritten (changes_by room o r f) f)
means_steps room o s r f p m =
    let x = steps room o r f m.store p m.alike in
    met room (decoded_call o) (on_decoded Whole o tt tt (λ k h e. whole_sector k (drop 1 o) (bytes_drop 1 o h) e)) s m.store m.same (reply_to room o r f) _ _ x.0 x.1

pub as_the_meaning : AsTheMeaning
as_the_meaning = record { begins = record { store = blank_store; same = serves_the_meaning.begins; alike = begins }; steps = means_steps }

-- WHAT IS SEEN
-- a cut may leave all as it is
pub uncut : (vs : List Volume) → CutVolumes vs vs
uncut [] = no_more
uncut (v ∷ vs) = left v (uncut vs)

abbrev pub follows : (room : ℕ) → Follows (plain (volume_service room)) (meaning room)
follows room =
    record {
      Rel = λ x s. HasRoom room x.rest x.blocks × Means s x.rest x.blocks;
      begins = ((lawful room).room_first, as_the_meaning.begins);
      busy = refl;
      answers = answers;
      cuts = λ x y s q e. (s, cut s s.volumes (uncut s.volumes), subst (λ (z : Place (volume_service room)). HasRoom room z.rest z.blocks × Means s z.rest z.blocks) e q);
    }
  where
    answers : (o a : List ℕ) (x y : Place (volume_service room)) (s : State) → HasRoom room x.rest x.blocks × Means s x.rest x.blocks → (plain (volume_service room)).Answers o x a y → (u : State) × Allowed room (decoded_call o) s a u × (HasRoom room y.rest y.blocks × Means u y.rest y.blocks)
    answers o a x y s q e =
        let z = means_steps room o s x.rest x.blocks q.0 q.1 in (
          z.0,
          subst (λ (b : List ℕ). Allowed room (decoded_call o) s b z.0) (sym (never_busy room o x.rest x.blocks).1 ∙ e.0) z.1,
          subst (λ (w : Place (volume_service room)). HasRoom room w.rest w.blocks × Means z.0 w.rest w.blocks) e.1 ((lawful room).room_stays o x.rest x.blocks q.0, z.2),
        )

pub seen_as_the_meaning : SeenAsTheMeaning
seen_as_the_meaning room es x ws rs f c l =
    let z = linear_along (List ℕ) (List ℕ) (plain (volume_service room)) (meaning room) (follows room) es x ws rs f c l in
    (z.0, z.1.1, z.2)
