-- What each call answers and changes, over heads; sectors are handed in and out. Refusals are tested in the order of the meaning.
-- Assumes nothing.
use Rattle.std.specs.Prelude.{◌≡◌, ℕ, ◌+◌, ◌-◌, ◌<◌, Bool, cond, not, ◌&&◌, ◌||◌, List, [], ◌∷◌, ◌++◌, length, Some, None, Ok, Err, Option, Result, vec_items, ◌==◌, nat_le, nat_lt, slice_index_or, slice_set}
use Rattle.disks.specs.Disks.{find, change, all_zero, one, Call, Make, Attach, Read, Write, Sync, Picture', Copy, Drop, DropPicture, Reply, No, Yes, Num, Token, Sector, Full}
use Rattle.std.specs.List.{remove, list_any}
use Rattle.wire.specs.Answers.{the_reply}
use Rattle.wire.specs.declared.answer.Answer.TheVariants.{Refused}
use Rattle.wire.specs.declared.refusal.Refusal.{Refusal}
use Rattle.volumes.specs.declared.head.Head.{Head}
use Rattle.volumes.specs.declared.outcome.Change.{Change}
use Rattle.volumes.specs.declared.outcome.Change.TheVariants as typed
use Rattle.volumes.specs.declared.outcome.Outcome.{Outcome}
use Rattle.volumes.specs.declared.volumes.Volumes.{Volumes}

pub record Service : Type 0 where
  pub next : ℕ
  pub heads : List Head
  pub weight : ℕ

-- what becomes of sectors
pub data Changed : Type 0 where
  keeps : Changed
  puts : (volume sector : ℕ) → List ℕ → Changed
  forgets : (volume : ℕ) → Changed

pub record Served : Type 0 where
  pub reply : Reply
  pub service : Service
  pub change : Changed

abbrev pub blank_service : Service
blank_service = record { next = 1; heads = []; weight = 0 }

-- an answer that changes nothing
abbrev pub says : Reply → Service → Served
says r s = record { reply = r; service = s; change = keeps }

abbrev pub is_head : ℕ → Head → Bool
is_head n h = n == h.number.0

-- May a call still ask for sectors of this volume? It has a head, or its number isn't given yet; no volume has the number 0.
abbrev pub is_living : (next : ℕ) → List Head → (volume : ℕ) → Bool
is_living next hs v = not (v == 0) && (nat_le next v || list_any (is_head v) hs)

-- the first of that number taken out
unfoldable pub without : {A : Type 0} → (A → Bool) → List A → List A
without f [] = []
without f (x ∷ xs) = cond (f x) xs (x ∷ without f xs)

-- where the first of that number stands
pub record First {A : Type 0} (f : A → Bool) (xs : List A) (i : ℕ) (x : A) : Type 0 where
  pub at : i < length xs
  pub here : slice_index_or xs i x ≡ x
  pub found : find f xs ≡ x ∷ []
  pub changed : (g : A → A) → change f g xs ≡ slice_set xs i (g x)
  pub removing : without f xs ≡ remove xs i

abbrev pub with_token : ℕ → Head → Head
with_token t h = record { number = h.number; size = h.size; token = record { 0 = t }; used = h.used }

abbrev pub with_used : ℕ → Head → Head
with_used u h = record { number = h.number; size = h.size; token = h.token; used = u }

abbrev pub new_head : (number size : ℕ) → Head
new_head n z = record { number = record { 0 = n }; size = record { 0 = z }; token = record { 0 = 0 }; used = 0 }

abbrev pub makes_head : (room size : ℕ) → Service → Served
makes_head room z s =
    cond (z == 0 || nat_lt 1099511627776 z) (says (No 1) s)
    (cond (nat_le 4096 (length s.heads) || nat_le 4611686018427387904 s.next) (says (No 8) s)
    (cond (nat_lt room (s.weight + 64)) (says Full s)
    (record { reply = Num s.next; service = record { next = s.next + 1; heads = s.heads ++ new_head s.next z ∷ []; weight = s.weight + 64 }; change = keeps })))

abbrev pub attaches_head : ℕ → List Head → Service → Served
attaches_head v [] s = says (No 2) s
attaches_head v (h ∷ hs) s =
    cond (nat_le 4611686018427387903 h.token.0) (says (No 8) s)
    (record { reply = Token (h.token.0 + 1) h.size.0; service = record { next = s.next; heads = change (is_head v) (with_token (h.token.0 + 1)) s.heads; weight = s.weight }; change = keeps })

-- under its token only, the last one given
abbrev pub held : (token : ℕ) → List Head → (Head → Served) → Service → Served
held t [] f s = says (No 2) s
held t (h ∷ hs) f s = cond (t == 0 || not (t == h.token.0)) (says (No 4) s) (f h)

abbrev pub within : ℕ → Head → Served → Service → Served
within n h r s = cond (nat_lt n h.size.0) r (says (No 1) s)

-- one less or one more sector that holds something
abbrev pub recount : (was now : Bool) → ℕ → ℕ
recount was now n = n + one (not now) - one (not was)

-- a write: was, what the sector held
abbrev pub writes_head : (room volume sector : ℕ) (was now : List ℕ) → Head → Service → Served
writes_head room v n was now h s =
    cond (all_zero was && not (all_zero now) && nat_lt room (s.weight + 1)) (says Full s)
    (record {
      reply = Yes;
      service = record { next = s.next; heads = change (is_head v) (with_used (recount (all_zero was) (all_zero now) h.used)) s.heads; weight = s.weight - h.used + recount (all_zero was) (all_zero now) h.used };
      change = puts v n now;
    })

abbrev pub drops_head : ℕ → Head → Service → Served
drops_head v h s = record { reply = Yes; service = record { next = s.next; heads = without (is_head v) s.heads; weight = s.weight - (64 + h.used) }; change = forgets v }

abbrev pub attaches_volume : ℕ → Service → Served
attaches_volume v s = attaches_head v (find (is_head v) s.heads) s

abbrev pub reads_volume : (volume token sector : ℕ) (read : List ℕ) → Service → Served
reads_volume v t n b s = held t (find (is_head v) s.heads) (λ (h : Head). within n h (says (Sector b) s) s) s

abbrev pub writes_volume : (room volume token sector : ℕ) (was now : List ℕ) → Service → Served
writes_volume room v t n b c s = held t (find (is_head v) s.heads) (λ (h : Head). within n h (writes_head room v n b c h s) s) s

abbrev pub syncs_volume : (volume token : ℕ) → Service → Served
syncs_volume v t s = held t (find (is_head v) s.heads) (λ (h : Head). says Yes s) s

abbrev pub drops_volume : (volume token : ℕ) → Service → Served
drops_volume v t s = held t (find (is_head v) s.heads) (λ (h : Head). drops_head v h s) s

-- what isn't built yet
abbrev pub lacks_call : Service → Served
lacks_call s = says (No 12) s

-- read: what the sector holds that the call needs
unfoldable pub serves : (room : ℕ) → Call → (read : List ℕ) → Service → Served
serves room (Make z) b s = makes_head room z s
serves room (Attach v) b s = attaches_volume v s
serves room (Read v t n) b s = reads_volume v t n b s
serves room (Write v t n c) b s = writes_volume room v t n b c s
serves room (Sync v t) b s = syncs_volume v t s
serves room (Picture' v t) b s = lacks_call s
serves room (Copy p) b s = lacks_call s
serves room (Drop v t) b s = drops_volume v t s
serves room (DropPicture p) b s = lacks_call s

-- what the code's values stand for
abbrev pub the_service : Volumes → Service
the_service v = record { next = v.next; heads = vec_items v.heads; weight = v.weight }

abbrev pub the_change : Option Change → Changed
the_change None = keeps
the_change (Some (typed.Put a b)) = puts a.volume.0 a.sector.0 b.now
the_change (Some (typed.Forget v)) = forgets v.0

abbrev pub the_served : Outcome → Volumes → Served
the_served o v = record { reply = the_reply o.answer; service = the_service v; change = the_change o.change }

-- who holds a volume: where its head stands, and what is done then
pub record Holds (v t : ℕ) (hs : List Head) (i : ℕ) (h : Head) : Type 0 where
  pub first : First (is_head v) hs i h
  pub done : (f : Head → Served) (s : Service) → held t (find (is_head v) hs) f s ≡ f h

abbrev pub HeldBack : (v t : ℕ) → List Head → ℕ → Type 0
HeldBack v t hs n = (f : Head → Served) (s : Service) → held t (find (is_head v) hs) f s ≡ says (No n) s

-- a refusal is an answer that changes nothing
abbrev pub or_refused : Result Outcome Refusal → Outcome
or_refused (Ok o) = o
or_refused (Err e) = record { answer = Refused e; change = None }

-- the code did what f says, and left the room as it was
abbrev pub DoesAs : (Service → Served) → Volumes → Result Outcome Refusal → Volumes → Type 0
DoesAs f v r w = (the_served (or_refused r) w ≡ f (the_service v)) × (w.room ≡ v.room)
