-- A part of another copy's blocks: that its keys rise, and what is filled in, block by block.
use Rattle.std.proofs.Common.{◌≡◌, ℕ, zero, suc, ◌+◌, ◌<◌, ◌≤◌, Bool, true, false, cond, ◌&&◌, List, [], ◌∷◌, ◌++◌, length, map, drop, get_or, Some, None, Option, Ok, Err, Result, refl, sym, ap, ◌∙◌, subst, append_assoc, append-nil, arith}
use Rattle.std.specs.Prelude.{IsTrue, IfOk}
use Rattle.std.specs.Option.{option_map}
use Rattle.std.proofs.lemmas.List.{drop_more, drop_all}
use Rattle.volumes.specs.Service.{Service}
use Rattle.copies.specs.Service.{Stamped, in_range}
use Rattle.copies.specs.declared.number.Key.{Key}
use Rattle.copies.specs.declared.message.Stamped.{Stamped as StampedHad}
use Rattle.packets.specs.declared.block.Block.{Block as BlockHad}
use Rattle.pieces.specs.declared.filled.Written.{Written}
use Rattle.pieces.specs.Meaning.{stored_at}
use Rattle.pieces.specs.Replaces.{Filled, Held, replaces}
use Rattle.pieces.specs.Replacing.{overlaid}
use Rattle.served.specs.Blocks.{Block}
use Rattle.served.specs.Room.{is_gone}
use Rattle.keeping.specs.Keeping.{key_at, filled_with, filled_of, most_emptied}
use Rattle.pieces.specs.declared.changed.Key.{Key as PiecesKey}
use Rattle.store.specs.declared.store.Unserved.{Unserved}
use Rattle.store.specs.Parts.{Took, is_key, key_number, AreKeys, FitKeys, ordered, filled_one, takes_held, the_stamped}

-- DATA that is written, one after the other
pub overlaid_more : (ws : List Written) (i : ℕ) (o : Written) (d e all : ℕ → List ℕ) → i < length ws → e ≡ stored_at (Some (get_or ws i o).place) (get_or ws i o).bytes d → overlaid (drop i ws) d ≡ all → overlaid (drop (i + 1) ws) e ≡ all
unfolding overlaid
overlaid_more ws i o d e all l q was = ap (λ (x : ℕ → List ℕ). overlaid (drop (i + 1) ws) x) q ∙ sym (ap (λ (x : List Written). overlaid x d) (drop_more ws i o l)) ∙ was

pub overlaid_end : (ws : List Written) (i : ℕ) (d all : ℕ → List ℕ) → length ws ≤ i → overlaid (drop i ws) d ≡ all → d ≡ all
unfolding overlaid
overlaid_end ws i d all past was = sym (ap (λ (x : List Written). overlaid x d) (drop_all i ws past)) ∙ was

-- BLOCKS that are filled in
filled_cons : (r : Service) (b : Stamped Block) (bs : List (Stamped Block)) → filled_of r (b ∷ bs) ≡ filled_one r b ++ filled_of r bs
unfolding filled_of
filled_cons r b bs = go (is_gone r b.key)
  where
    go : (t : Bool) → cond t (filled_of r bs) (filled_with b ∷ filled_of r bs) ≡ cond t [] (filled_with b ∷ []) ++ filled_of r bs
    go true = refl
    go false = refl

filled_none : (r : Service) → filled_of r [] ≡ []
unfolding filled_of
filled_none r = refl

pub filled_step : (r : Service) (x : StampedHad BlockHad) (xs old : List (StampedHad BlockHad)) (us vs all : List Filled) → old ≡ x ∷ xs → (IsTrue (is_key x.key.0) → vs ≡ us ++ filled_one r (the_stamped x)) → AreKeys old × (us ++ filled_of r (map the_stamped old) ≡ all) →
    AreKeys xs × (vs ++ filled_of r (map the_stamped xs) ≡ all)
filled_step r x xs old us vs all e f was =
    let keys : IsTrue (is_key x.key.0) × AreKeys xs = subst AreKeys e was.0 in
    let rest = filled_of r (map the_stamped xs) in (
      keys.1,
      ap (λ (z : List Filled). z ++ rest) (f keys.0)
          ∙ append_assoc us (filled_one r (the_stamped x)) rest
          ∙ ap (λ (z : List Filled). us ++ z) (sym (filled_cons r (the_stamped x) (map the_stamped xs)))
          ∙ sym (ap (λ (z : List (StampedHad BlockHad)). us ++ filled_of r (map the_stamped z)) e)
          ∙ was.1,
    )

pub filled_end : (r : Service) (xs : List (StampedHad BlockHad)) (us all : List Filled) → xs ≡ [] → us ++ filled_of r (map the_stamped xs) ≡ all → us ≡ all
filled_end r xs us all e was = sym (append-nil us) ∙ sym (ap (λ (z : List (StampedHad BlockHad)). us ++ filled_of r (map the_stamped z)) e ∙ ap (λ (z : List Filled). us ++ z) (filled_none r)) ∙ was

-- KEYS that rise
pub key_there : (bs : List (StampedHad BlockHad)) (i : ℕ) (d : StampedHad BlockHad) → AreKeys bs → i < length bs → IsTrue (is_key (get_or bs i d).key.0)
key_there [] i d k l = absurd (omega (arith, l))
key_there (b ∷ bs) zero d k l = k.0
key_there (b ∷ bs) (suc i) d k l = key_there bs i d k.1 (omega (arith, l))

ordered_cons : (least : ℕ) (next : Option ℕ) (bs : List (StampedHad BlockHad)) (i : ℕ) (d : StampedHad BlockHad) → i < length bs → ordered least next (map the_stamped (drop i bs)) ≡ (in_range least next (get_or bs i d).key.0 && ordered (suc (get_or bs i d).key.0) next (map the_stamped (drop (i + 1) bs)))
unfolding ordered
ordered_cons least next bs i d l = ap (λ (x : List (StampedHad BlockHad)). ordered least next (map the_stamped x)) (drop_more bs i d l)

pub ordered_step : (least after : ℕ) (next : Option ℕ) (bs : List (StampedHad BlockHad)) (i : ℕ) (d x : StampedHad BlockHad) (all : Bool) → AreKeys bs → i < length bs → x ≡ get_or bs i d → true ≡ in_range least next x.key.0 → (IsTrue (is_key x.key.0) → after ≡ suc x.key.0) →
    ordered least next (map the_stamped (drop i bs)) ≡ all → ordered after next (map the_stamped (drop (i + 1) bs)) ≡ all
ordered_step least after next bs i d x all k l e t a was =
    ap (λ (n : ℕ). ordered n next (map the_stamped (drop (i + 1) bs))) (a (subst (λ (z : StampedHad BlockHad). IsTrue (is_key z.key.0)) (sym e) (key_there bs i d k l)))
    ∙ ap (λ (b : Bool). b && ordered (suc x.key.0) next (map the_stamped (drop (i + 1) bs))) t
    ∙ ap (λ (z : StampedHad BlockHad). in_range least next z.key.0 && ordered (suc z.key.0) next (map the_stamped (drop (i + 1) bs))) e
    ∙ sym (ordered_cons least next bs i d l)
    ∙ was

pub ordered_not : (least : ℕ) (next : Option ℕ) (bs : List (StampedHad BlockHad)) (i : ℕ) (d x : StampedHad BlockHad) (all : Bool) → i < length bs → x ≡ get_or bs i d → false ≡ in_range least next x.key.0 → ordered least next (map the_stamped (drop i bs)) ≡ all → false ≡ all
ordered_not least next bs i d x all l e t was =
    ap (λ (b : Bool). b && ordered (suc x.key.0) next (map the_stamped (drop (i + 1) bs))) t
    ∙ ap (λ (z : StampedHad BlockHad). in_range least next z.key.0 && ordered (suc z.key.0) next (map the_stamped (drop (i + 1) bs))) e
    ∙ sym (ordered_cons least next bs i d l)
    ∙ was

pub ordered_end : (least : ℕ) (next : Option ℕ) (bs : List (StampedHad BlockHad)) (i : ℕ) (all : Bool) → length bs ≤ i → ordered least next (map the_stamped (drop i bs)) ≡ all → true ≡ all
unfolding ordered
ordered_end least next bs i all past was = sym (ap (λ (x : List (StampedHad BlockHad)). ordered least next (map the_stamped x)) (drop_all i bs past)) ∙ was

-- WHAT TAKING OVER COMES TO
pub takes_none : (r : Service) (whole : Bool) (key : ℕ) (next : Option ℕ) (floor : ℕ) (bs : List (Stamped Block)) (h : Held) → false ≡ ordered key next bs → takes_held r whole key next floor bs h ≡ None
unfolding takes_held
takes_none r whole key next floor bs h e = ap (λ (b : Bool). cond b (replaces (key_at key) (option_map key_at next) whole most_emptied floor (filled_of r bs) h) None) (sym e)

pub takes_some : (r : Service) (whole : Bool) (key : ℕ) (next : Option ℕ) (floor : ℕ) (bs : List (Stamped Block)) (h : Held) → true ≡ ordered key next bs → takes_held r whole key next floor bs h ≡ replaces (key_at key) (option_map key_at next) whole most_emptied floor (filled_of r bs) h
unfolding takes_held
takes_some r whole key next floor bs h e = ap (λ (b : Bool). cond b (replaces (key_at key) (option_map key_at next) whole most_emptied floor (filled_of r bs) h) None) (sym e)

pub length-zero : {A : Type 0} (xs : List A) → length xs ≡ 0 → xs ≡ []
length-zero [] e = refl
length-zero (x ∷ xs) e = absurd (omega (arith, e))

-- as it is filled in, from what was read off a part
pub took_one : (r : Service) (whole : Bool) (key : ℕ) (next : Option ℕ) (floor : ℕ) (bs : List (Stamped Block)) (h m : Held) (fs : List Filled) (at : PiecesKey) (to : Option PiecesKey) (b : Bool) → true ≡ ordered key next bs →
    at ≡ key_at key → to ≡ option_map key_at next → fs ≡ filled_of r bs → Took b (replaces at to whole most_emptied floor fs h) m → Took b (takes_held r whole key next floor bs h) m
took_one r whole key next floor bs h m fs at to b o p q f t =
    subst (λ (x : Option Held). Took b x m) (ap (λ (z : List Filled). replaces at to whole most_emptied floor z h) f ∙ ap (λ (z : PiecesKey). replaces z to whole most_emptied floor (filled_of r bs) h) p ∙ ap (λ (z : Option PiecesKey). replaces (key_at key) z whole most_emptied floor (filled_of r bs) h) q ∙ sym (takes_some r whole key next floor bs h o)) t

pub took_all : (r : Service) (whole : Bool) (key : ℕ) (next : Option ℕ) (floor : ℕ) (bs : List (Stamped Block)) (h m : Held) (fs : List Filled) (at : PiecesKey) (to : Option PiecesKey) (x : Result Bool Unserved) → true ≡ ordered key next bs →
    at ≡ key_at key → to ≡ option_map key_at next → fs ≡ filled_of r bs → IfOk x (λ b. Took b (replaces at to whole most_emptied floor fs h) m) → IfOk x (λ b. Took b (takes_held r whole key next floor bs h) m)
took_all r whole key next floor bs h m fs at to (Ok b) o p q f t = took_one r whole key next floor bs h m fs at to b o p q f t
took_all r whole key next floor bs h m fs at to (Err e) o p q f t = tt
