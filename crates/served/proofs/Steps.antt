-- What a call can leave: each call answers and leaves all as it is, or it is one of four that succeed.
use Rattle.std.proofs.Common.{◌≡◌, ℕ, ◌+◌, ◌-◌, ◌<◌, ◌≤◌, true, false, not, ◌&&◌, ◌||◌, ◌≢◌, List, [], ◌∷◌, ◌++◌, length, drop, is_some, eqb, ltb, leb, refl, ap, ◌∙◌, arith, length-drop}
use Rattle.std.proofs.lemmas.Bool.Decides.{nat_tests}
use Rattle.agreement.proofs.Base.{by_test}
use Rattle.disks.specs.Disks.{find, change, all_zero, Call, Make, Attach, Read, Write, Sync, Picture', Copy, Drop, DropPicture, Reply, No, Yes, Num, Token, Sector, Full}
use Rattle.wire.specs.declared.kind.Kind.{Kind}
use Rattle.wire.specs.declared.kind.Kind.TheVariants as kinds
use Rattle.wire.specs.Refusals.{refusal_of}
use Rattle.wire.specs.Calls.{Decoded, length_for, call_of}
use Rattle.volumes.specs.declared.head.Head.{Head}
use Rattle.volumes.specs.Service.{Service, keeps, puts, forgets, Served, says, is_head, with_token, with_used, new_head, recount, without, attaches_head, held, within, serves}
use Rattle.volumes.specs.Simulation.{read_at, needed}
use Rattle.volumes.proofs.Lists.{found_one}
use Rattle.served.specs.Blocks.{Block, sector_in}
use Rattle.served.specs.Served.{serves_decoded, decoded_call}
use Rattle.served.proofs.Decoding.{on_decoded}

-- what is said where nothing changes: a refusal, but not busy, that it is full, or yes
abbrev pub Calm : Reply → Type 0
Calm (No n) = (n ≢ 11) × (is_some (refusal_of n) ≡ true)
Calm Yes = Unit {0}
Calm (Num n) = ⊥
Calm (Token t z) = ⊥
Calm (Sector b) = ⊥
Calm Full = Unit {0}

module _ (room : ℕ) (r : Service) (f : ℕ → Block) where
  abbrev pub made : (size : ℕ) → Served
  made z = record { reply = Num r.next; service = record { next = r.next + 1; heads = r.heads ++ new_head r.next z ∷ []; weight = r.weight + 64 }; change = keeps }

  abbrev pub attached : (volume : ℕ) → Head → Served
  attached v h = record { reply = Token (h.token.0 + 1) h.size.0; service = record { next = r.next; heads = change (is_head v) (with_token (h.token.0 + 1)) r.heads; weight = r.weight }; change = keeps }

  abbrev pub counts : (was now : List ℕ) → Head → ℕ
  counts a b h = recount (all_zero a) (all_zero b) h.used

  abbrev pub wrote : (volume sector : ℕ) → (was now : List ℕ) → Head → Served
  wrote v n a b h = record { reply = Yes; service = record { next = r.next; heads = change (is_head v) (with_used (counts a b h)) r.heads; weight = r.weight - h.used + counts a b h }; change = puts v n b }

  abbrev pub dropped : (volume : ℕ) → Head → Served
  dropped v h = record { reply = Yes; service = record { next = r.next; heads = without (is_head v) r.heads; weight = r.weight - (64 + h.used) }; change = forgets v }

  pub data Leaves : Served → Type 0 where
    stays : (a : Reply) → Calm a → Leaves (says a r)
    reads : (v n : ℕ) (h : Head) → find (is_head v) r.heads ≡ h ∷ [] → n < h.size.0 → Leaves (says (Sector (sector_in f v n)) r)
    makes : (z : ℕ) → z ≤ 1099511627776 → length r.heads < 4096 → r.next < 4611686018427387904 → r.weight + 64 ≤ room → Leaves (made z)
    attaches : (v : ℕ) (h : Head) → find (is_head v) r.heads ≡ h ∷ [] → h.token.0 < 4611686018427387903 → Leaves (attached v h)
    writes : (v n : ℕ) (b : List ℕ) (h : Head) → find (is_head v) r.heads ≡ h ∷ [] → n < h.size.0 → length b ≡ 512 → (all_zero (sector_in f v n) && not (all_zero b) && ltb room (r.weight + 1)) ≡ false → Leaves (wrote v n (sector_in f v n) b h)
    drops : (v : ℕ) (h : Head) → find (is_head v) r.heads ≡ h ∷ [] → Leaves (dropped v h)

  refused : (n : ℕ) → (n ≢ 11) × (is_some (refusal_of n) ≡ true) → Leaves (says (No n) r)
  refused n e = stays (No n) e

  on_held : (v t : ℕ) (F : Head → Served) → ((h : Head) → find (is_head v) r.heads ≡ h ∷ [] → Leaves (F h)) → Leaves (held t (find (is_head v) r.heads) F r)
  on_held v t F c = go (find (is_head v) r.heads) refl
    where
      go : (hs : List Head) → find (is_head v) r.heads ≡ hs → Leaves (held t hs F r)
      go [] e = refused 2 ((λ x. omega arith), refl)
      go (h ∷ hs) e = by_test Leaves (eqb t 0 || not (eqb t h.token.0)) (λ _. refused 4 ((λ x. omega arith), refl)) (λ _. c h (e ∙ ap (λ (ks : List Head). h ∷ ks) (found_one (is_head v) r.heads h hs e).0))

  on_within : (n : ℕ) (h : Head) (s : Served) → (n < h.size.0 → Leaves s) → Leaves (within n h s r)
  on_within n h s c = by_test Leaves (ltb n h.size.0) (λ e. c (grind (arith, nat_tests))) (λ _. refused 1 ((λ x. omega arith), refl))

  -- a write has a whole sector
  abbrev pub Whole : Call → Type 0
  Whole (Make z) = Unit {0}
  Whole (Attach v) = Unit {0}
  Whole (Read v t n) = Unit {0}
  Whole (Write v t n b) = length b ≡ 512
  Whole (Sync v t) = Unit {0}
  Whole (Picture' v t) = Unit {0}
  Whole (Copy p) = Unit {0}
  Whole (Drop v t) = Unit {0}
  Whole (DropPicture p) = Unit {0}

  on_call : (c : Call) → Whole c → Leaves (serves room c (read_at (needed c) (sector_in f)) r)
  unfolding serves
  on_call (Make z) w =
      by_test Leaves (eqb z 0 || ltb 1099511627776 z) (λ _. refused 1 ((λ x. omega arith), refl))
      (λ a. by_test Leaves (leb 4096 (length r.heads) || leb 4611686018427387904 r.next) (λ _. refused 8 ((λ x. omega arith), refl))
      (λ b. by_test Leaves (ltb room (r.weight + 64)) (λ _. stays Full tt) (λ c. makes z (grind (arith, nat_tests)) (grind (arith, nat_tests)) (grind (arith, nat_tests)) (grind (arith, nat_tests)))))
  on_call (Attach v) w = go (find (is_head v) r.heads) refl
    where
      go : (hs : List Head) → find (is_head v) r.heads ≡ hs → Leaves (attaches_head v hs r)
      go [] e = refused 2 ((λ x. omega arith), refl)
      go (h ∷ hs) e = by_test Leaves (leb 4611686018427387903 h.token.0) (λ _. refused 8 ((λ x. omega arith), refl)) (λ x. attaches v h (e ∙ ap (λ (ks : List Head). h ∷ ks) (found_one (is_head v) r.heads h hs e).0) (grind (arith, nat_tests)))
  on_call (Read v t n) w = on_held v t _ (λ h e. on_within n h _ (λ l. reads v n h e l))
  on_call (Write v t n b) w = on_held v t _ (λ h e. on_within n h _ (λ l. by_test Leaves (all_zero (sector_in f v n) && not (all_zero b) && ltb room (r.weight + 1)) (λ _. stays Full tt) (λ x. writes v n b h e l w x)))
  on_call (Sync v t) w = on_held v t _ (λ h e. stays Yes tt)
  on_call (Picture' v t) w = refused 12 ((λ x. omega arith), refl)
  on_call (Copy p) w = refused 12 ((λ x. omega arith), refl)
  on_call (Drop v t) w = on_held v t _ (λ h e. drops v h e)
  on_call (DropPicture p) w = refused 12 ((λ x. omega arith), refl)

  whole : (k : Kind) (bs : List ℕ) → length bs ≡ length_for k → Whole (call_of k bs)
  whole kinds.Make bs e = tt
  whole kinds.Attach bs e = tt
  whole kinds.Read bs e = tt
  whole kinds.Write bs e = rw length-drop (omega (arith, e))
  whole kinds.Sync bs e = tt
  whole kinds.Picture bs e = tt
  whole kinds.Copy bs e = tt
  whole kinds.Drop bs e = tt
  whole kinds.DropPicture bs e = tt

  pub leaves : (o : List ℕ) → Leaves (serves_decoded room (decoded_call o) r f)
  unfolding serves_decoded
  leaves o = on_decoded (λ (d : Decoded). Leaves (serves_decoded room d r f)) o (refused 1 ((λ x. omega arith), refl)) (refused 12 ((λ x. omega arith), refl)) (λ k t e. on_call (call_of k (drop 1 o)) (whole k (drop 1 o) e))
