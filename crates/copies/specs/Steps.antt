-- Parts of events that the code has as functions of their own.
-- Assumes nothing.
use Rattle.std.specs.Prelude.{ℕ, suc, Bool, true, false, cond, ◌&&◌, List, [], nat_le, ◌==◌}
use Rattle.agreement.specs.Copies.{Proposal, nothing, voted, rank}
use Rattle.copies.specs.Messages.{Command, Reply, Session, Recovery, level, is_level, Agreeing, Status}
use Rattle.copies.specs.Copy.{Way, free, under, unseen, Memory, Turn, is_copy, saying_to, ended, adopted, Work, rests, applies, takes, replaces}

-- all of what a copy agrees on but the command that it proposes
pub record Marks : Type 0 where
  pub promised : ℕ
  pub version : ℕ
  pub last : ℕ
  pub ballot : ℕ
  pub recovery : Recovery

module _ {O : Type 0} where
  -- is the sender ahead by one, and did it apply what is proposed here?
  abbrev pub learns : Status O → Proposal (Command O) → Agreeing O → Bool
  learns x nothing a = false
  learns x (voted b k) a = x.version == suc a.version && nat_le x.last b

  abbrev pub marks : Agreeing O → Marks
  marks a = record { promised = a.promised; version = a.version; last = a.last; ballot = rank a.proposal; recovery = a.recovery }

  -- a copy that agreed on nothing yet
  abbrev pub fresh : Agreeing O
  fresh = record { promised = 0; version = 0; last = 0; proposal = nothing; recovery = level }

  -- what a house remembers when it comes up
  abbrev pub woken : (me incarnation : ℕ) → Memory O
  woken me i = record { me = me; incarnation = i; counter = 0; lead = 0; quiet = 0; waiting = []; way = free; heard = []; pass = record { key = 0; span = unseen; asked = false } }

  -- is it the number of the bundle under way?
  abbrev pub is_way : (incarnation counter : ℕ) → Way O → Bool
  is_way i c free = false
  is_way i c (under b) = b.incarnation == i && b.counter == c

module _ {X B O A : Type 0} where
  -- the bundle under way is done, and these are its replies
  abbrev pub freed_by : List (Reply A) → Turn X B O A → Turn X B O A
  freed_by rs t = record t { memory = record t.memory { way = free }; told = rs }

  -- does it lead, with nothing proposed?
  abbrev pub is_idle : Turn X B O A → Bool
  is_idle t = is_copy t.memory.me && (is_level t.agreeing.recovery && (t.memory.lead == suc t.agreeing.promised && rank t.agreeing.proposal == 0))

  -- is the state's rest to be replaced, or a command to be applied?
  abbrev pub is_replaced : Work X B O A → Bool
  is_replaced rests = false
  is_replaced (applies k) = false
  is_replaced (takes r x) = false
  is_replaced (replaces x) = true

  abbrev pub is_applied : Work X B O A → Bool
  is_applied rests = false
  is_applied (applies k) = true
  is_applied (takes r x) = false
  is_applied (replaces x) = false

-- a pass ended at one version, which is the copy's from now on
abbrev pub levelled : {X B O A : Type 0} → (r p version last : ℕ) → X → (ℕ → Session A) → Turn X B O A → Turn X B O A
levelled r p v b rest done t =
    record (saying_to r t) { agreeing = cond (v == t.agreeing.version) (ended p t.agreeing) (adopted p v b t.agreeing); sessions = done; work = replaces rest }
