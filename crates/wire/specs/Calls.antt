-- A call's bytes: its kind, its numbers of 8 bytes each, and the sector of a write.
-- Assumes nothing.
use Rattle.std.specs.Prelude.{ℕ, Bool, cond, List, [], ◌∷◌, ◌++◌, length, drop, Some, None, Ok, Err, Option, Result, ◌==◌}
use Rattle.disks.specs.Disks.{Call, Make, Attach, Read, Write, Sync, Picture', Copy, Drop, DropPicture}
use Rattle.wire.specs.declared.kind.Kind.{Kind}
use Rattle.wire.specs.declared.kind.Kind.TheVariants as kinds
use Rattle.wire.specs.declared.call.Call.{Call as Typed}
use Rattle.wire.specs.declared.call.Call.TheVariants as typed
use Rattle.wire.specs.declared.refusal.Refusal.{Refusal}
use Rattle.octets.specs.Numbers.{field, numbers_bytes}
use Rattle.wire.specs.Kinds.{number_of, kind_in}
use Rattle.wire.specs.Refusals.{refusal_number}

-- the call of the meaning that the code's value stands for
abbrev pub the_call : Typed → Call
the_call (typed.Make z) = Make z.0
the_call (typed.Attach v) = Attach v.0
the_call (typed.Read h n) = Read h.volume.0 h.token.0 n.0
the_call (typed.Write h n b) = Write h.volume.0 h.token.0 n.0 b.now
the_call (typed.Sync h) = Sync h.volume.0 h.token.0
the_call (typed.Picture h) = Picture' h.volume.0 h.token.0
the_call (typed.Copy p) = Copy p.0
the_call (typed.Drop h) = Drop h.volume.0 h.token.0
the_call (typed.DropPicture p) = DropPicture p.0

abbrev pub kind_for : Call → Kind
kind_for (Make z) = kinds.Make
kind_for (Attach v) = kinds.Attach
kind_for (Read v t n) = kinds.Read
kind_for (Write v t n b) = kinds.Write
kind_for (Sync v t) = kinds.Sync
kind_for (Picture' v t) = kinds.Picture
kind_for (Copy p) = kinds.Copy
kind_for (Drop v t) = kinds.Drop
kind_for (DropPicture p) = kinds.DropPicture

abbrev pub numbers_in : Call → List ℕ
numbers_in (Make z) = z ∷ []
numbers_in (Attach v) = v ∷ []
numbers_in (Read v t n) = v ∷ t ∷ n ∷ []
numbers_in (Write v t n b) = v ∷ t ∷ n ∷ []
numbers_in (Sync v t) = v ∷ t ∷ []
numbers_in (Picture' v t) = v ∷ t ∷ []
numbers_in (Copy p) = p ∷ []
numbers_in (Drop v t) = v ∷ t ∷ []
numbers_in (DropPicture p) = p ∷ []

abbrev pub content_of : Call → List ℕ
content_of (Make z) = []
content_of (Attach v) = []
content_of (Read v t n) = []
content_of (Write v t n b) = b
content_of (Sync v t) = []
content_of (Picture' v t) = []
content_of (Copy p) = []
content_of (Drop v t) = []
content_of (DropPicture p) = []

abbrev pub call_bytes : Call → List ℕ
call_bytes c = number_of (kind_for c) ∷ numbers_bytes (numbers_in c) ++ content_of c

-- how many bytes follow a kind
abbrev pub length_for : Kind → ℕ
length_for kinds.Make = 8
length_for kinds.Attach = 8
length_for kinds.Read = 24
length_for kinds.Write = 536
length_for kinds.Sync = 16
length_for kinds.Picture = 16
length_for kinds.Copy = 8
length_for kinds.Drop = 16
length_for kinds.DropPicture = 8

-- the call that as many bytes behind its kind spell
abbrev pub call_of : Kind → List ℕ → Call
call_of kinds.Make bs = Make (field 0 bs)
call_of kinds.Attach bs = Attach (field 0 bs)
call_of kinds.Read bs = Read (field 0 bs) (field 1 bs) (field 2 bs)
call_of kinds.Write bs = Write (field 0 bs) (field 1 bs) (field 2 bs) (drop 24 bs)
call_of kinds.Sync bs = Sync (field 0 bs) (field 1 bs)
call_of kinds.Picture bs = Picture' (field 0 bs) (field 1 bs)
call_of kinds.Copy bs = Copy (field 0 bs)
call_of kinds.Drop bs = Drop (field 0 bs) (field 1 bs)
call_of kinds.DropPicture bs = DropPicture (field 0 bs)

abbrev pub parsed_as : Kind → List ℕ → Option Call
parsed_as k bs = cond (length bs == length_for k) (Some (call_of k bs)) None

abbrev pub parsed : Option Typed → Option Call
parsed None = None
parsed (Some c) = Some (the_call c)

-- what bytes come to: a call, or a refusal by its number
pub data Decoded : Type 0 where
  is_call : Call → Decoded
  is_refused : ℕ → Decoded

abbrev pub outcome : Result Typed Refusal → Decoded
outcome (Ok c) = is_call (the_call c)
outcome (Err e) = is_refused (refusal_number e)

abbrev pub or_malformed : Option Call → Decoded
or_malformed None = is_refused 1
or_malformed (Some c) = is_call c

abbrev pub decoded_as : (Kind → Bool) → Option Kind → List ℕ → Decoded
decoded_as can None bs = is_refused 1
decoded_as can (Some k) bs = cond (can k) (or_malformed (parsed_as k bs)) (is_refused 12)

-- 12 for a kind that isn't built, then 1 for bytes that are no call
abbrev pub decoded : (Kind → Bool) → List ℕ → Decoded
decoded can bs = decoded_as can (kind_in bs) (drop 1 bs)
