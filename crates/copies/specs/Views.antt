-- What the code's values stand for.
-- Assumes nothing.
use Rattle.std.specs.Prelude.{ℕ, zero, suc, ◌%◌, slice_index_or, List, [], ◌∷◌, Option, Some, None, map, vec_items}
use Rattle.agreement.specs.Copies.{Proposal, nothing, voted}
use Rattle.copies.specs.Service.{Stamped}
use Rattle.copies.specs.Messages.{Item, Bundle, Command, Reply, Session, Recovery, level, recovers, Agreeing, Status, Want, Part, Tail, more, ends, Message, Bundled, Done, Told, Asked, Given, unused}
use Rattle.copies.specs.Copy.{Way, free, under, Span, unseen, from_to, Pass, Memory, Whom, nobody, one, others, Serve, Sends, Work, rests, applies, takes, replaces, Turn}
use Rattle.copies.specs.Steps.{Marks}
use Rattle.copies.specs.declared.number.HouseNumber.{HouseNumber}
use Rattle.copies.specs.declared.number.Ballot.{Ballot}
use Rattle.copies.specs.declared.message.Item.{Item as ItemHad}
use Rattle.copies.specs.declared.message.Bundle.{Bundle as BundleHad}
use Rattle.copies.specs.declared.message.Reply.{Reply as ReplyHad}
use Rattle.copies.specs.declared.message.Session.{Session as SessionHad}
use Rattle.copies.specs.declared.message.Status.{Status as StatusHad}
use Rattle.copies.specs.declared.message.Want.{Want as WantHad}
use Rattle.copies.specs.declared.message.Stamped.{Stamped as StampedHad}
use Rattle.copies.specs.declared.message.Tail.{Tail as TailHad}
use Rattle.copies.specs.declared.message.Tail.TheVariants.{More, Ends}
use Rattle.copies.specs.declared.message.Part.{Part as PartHad}
use Rattle.copies.specs.declared.message.Message.{Message as MessageHad}
use Rattle.copies.specs.declared.message.Message.TheVariants as said
use Rattle.copies.specs.declared.sessions.Sessions.{Sessions as SessionsHad}
use Rattle.copies.specs.declared.agreeing.Command.{Command as CommandHad}
use Rattle.copies.specs.declared.agreeing.Proposal.{Proposal as ProposalHad}
use Rattle.copies.specs.declared.agreeing.Recovery.{Recovery as RecoveryHad}
use Rattle.copies.specs.declared.agreeing.Recovery.TheVariants.{Level, Recovers}
use Rattle.copies.specs.declared.agreeing.Agreeing.{Agreeing as AgreeingHad}
use Rattle.copies.specs.declared.agreeing.Marks.{Marks as MarksHad}
use Rattle.copies.specs.declared.memory.Span.{Span as SpanHad}
use Rattle.copies.specs.declared.memory.Pass.{Pass as PassHad}
use Rattle.copies.specs.declared.memory.Memory.{Memory as MemoryHad}
use Rattle.copies.specs.declared.turn.Whom.{Whom as WhomHad}
use Rattle.copies.specs.declared.turn.Whom.TheVariants.{Nobody, One, Others}
use Rattle.copies.specs.declared.turn.Serve.{Serve as ServeHad}
use Rattle.copies.specs.declared.turn.Sends.{Sends as SendsHad}
use Rattle.copies.specs.declared.turn.Work.{Work as WorkHad}
use Rattle.copies.specs.declared.turn.Work.TheVariants.{Rests, Applies, Takes, Replaces}
use Rattle.copies.specs.declared.turn.Turn.{Turn as TurnHad}

-- NUMBERS
abbrev pub the_house : HouseNumber → ℕ
the_house h = h.0

-- the houses of the copies
abbrev pub the_first : List HouseNumber
the_first = record { 0 = 0 } ∷ record { 0 = 1 } ∷ record { 0 = 2 } ∷ []

-- to whom a ballot belongs
abbrev pub copy_of : ℕ → List HouseNumber → HouseNumber
copy_of b hs = slice_index_or hs (b % 3) (record { 0 = 0 })

-- 0 for none, or the ballot that is led and one
abbrev pub the_lead : Option Ballot → ℕ
the_lead None = 0
the_lead (Some b) = suc b.0

-- CALLS AND REPLIES
module _ {C : Type 0} where
  abbrev pub the_item : ItemHad C → Item C
  the_item i = record { id = i.id.0; call = i.call }

  abbrev pub the_items : List (ItemHad C) → List (Item C)
  the_items is = map the_item is

  abbrev pub the_bundle : BundleHad C → Bundle C
  the_bundle b = record { house = b.house.0; incarnation = b.number.incarnation; counter = b.number.counter; calls = the_items (vec_items b.calls) }

  abbrev pub the_bundles : List (BundleHad C) → List (Bundle C)
  the_bundles bs = map the_bundle bs

  abbrev pub the_command : CommandHad C → Command C
  the_command k = the_bundles (vec_items k.0)

  abbrev pub the_proposal : Option (ProposalHad C) → Proposal (Command C)
  the_proposal None = nothing
  the_proposal (Some v) = voted v.ballot.0 (the_command v.command)

  abbrev pub the_status : StatusHad C → Status C
  the_status x = record { promised = x.promised.0; version = x.version.0; last = x.last.0; proposal = the_proposal x.proposal; recovering = x.recovering }

  abbrev pub the_way : Option (BundleHad C) → Way C
  the_way None = free
  the_way (Some b) = under (the_bundle b)

abbrev pub the_recovery : RecoveryHad → Recovery
the_recovery Level = level
the_recovery (Recovers a t) = recovers a.0 t.0

module _ {C : Type 0} where
  abbrev pub the_agreeing : AgreeingHad C → Agreeing C
  the_agreeing a = record { promised = a.promised.0; version = a.version.0; last = a.last.0; proposal = the_proposal a.proposal; recovery = the_recovery a.recovery }

abbrev pub the_marks : MarksHad → Marks
the_marks m = record { promised = m.promised.0; version = m.version.0; last = m.last.0; ballot = the_lead m.ballot; recovery = the_recovery m.recovery }

module _ {A : Type 0} where
  abbrev pub the_reply : ReplyHad A → Reply A
  the_reply r = record { id = r.id.0; reply = r.reply }

  abbrev pub the_replies : List (ReplyHad A) → List (Reply A)
  the_replies rs = map the_reply rs

  abbrev pub the_session : SessionHad A → Session A
  the_session s = record { incarnation = s.number.incarnation; counter = s.number.counter; replies = the_replies (vec_items s.replies) }

  -- by the house's number
  unfoldable pub session_of : List (SessionHad A) → ℕ → Session A
  session_of [] h = unused
  session_of (s ∷ ss) zero = the_session s
  session_of (s ∷ ss) (suc h) = session_of ss h

  abbrev pub the_sessions : SessionsHad A → ℕ → Session A
  the_sessions s = session_of (vec_items s.each)

-- BLOCKS
abbrev pub the_want : WantHad → Want
the_want w = record { base = w.base.0; top = w.top.0; key = w.key.0 }

abbrev pub the_stamped : {B : Type 0} → StampedHad B → Stamped B
the_stamped b = record { key = b.key.0; stamp = b.stamp.0; block = b.block }

abbrev pub the_tail : {X A : Type 0} → TailHad X A → Tail X A
the_tail (More k) = more k.0
the_tail (Ends x done) = ends x (the_sessions done)

abbrev pub the_part : {X B A : Type 0} → PartHad X B A → Part X B A
the_part x =
    record {
      asked = the_want x.asked;
      promised = x.promised.0;
      version = x.version.0;
      last = x.last.0;
      whole = x.whole;
      floor = x.floor.0;
      blocks = map the_stamped (vec_items x.blocks);
      tail = the_tail x.tail;
    }

abbrev pub the_message : {X B C A : Type 0} → MessageHad X B C A → Message X B C A
the_message (said.Bundle b) = Bundled (the_bundle b)
the_message (said.Replies s) = Done (the_session s)
the_message (said.Status x) = Told (the_status x)
the_message (said.Want w) = Asked (the_want w)
the_message (said.Part x) = Given (the_part x)

-- WHAT A HOUSE REMEMBERS
abbrev pub the_span : Option SpanHad → Span
the_span None = unseen
the_span (Some s) = from_to s.low.0 s.high.0

abbrev pub the_pass : PassHad → Pass
the_pass p = record { key = p.key.0; span = the_span p.span; asked = p.asked }

abbrev pub the_memory : {C : Type 0} → MemoryHad C → Memory C
the_memory m =
    record {
      me = m.me.0;
      incarnation = m.number.incarnation;
      counter = m.number.counter;
      lead = the_lead m.lead;
      quiet = m.quiet;
      waiting = the_items (vec_items m.waiting);
      way = the_way m.way;
      heard = the_bundles (vec_items m.heard);
      pass = the_pass m.pass;
    }

-- AN EVENT
abbrev pub the_whom : WhomHad → Whom
the_whom Nobody = nobody
the_whom (One h) = one h.0
the_whom Others = others

abbrev pub the_wants : Option HouseNumber → Option ℕ
the_wants None = None
the_wants (Some h) = Some h.0

abbrev pub the_serves : Option ServeHad → Option Serve
the_serves None = None
the_serves (Some s) = Some (record { to = s.to.0; want = the_want s.want })

abbrev pub the_sends : SendsHad → Sends
the_sends s = record { status = the_whom s.status; bundle = s.bundle; replies = map the_house (vec_items s.replies); wants = the_wants s.wants; serves = the_serves s.serves }

module _ {X B C A : Type 0} where
  abbrev pub the_work : WorkHad X B C A → Work X B C A
  the_work Rests = rests
  the_work (Applies k) = applies (the_command k)
  the_work (Takes h x) = takes h.0 (the_part x)
  the_work (Replaces x) = replaces x

  abbrev pub the_turn : TurnHad X B C A → Turn X B C A
  the_turn t =
      record {
        agreeing = the_agreeing t.house.agreeing;
        sessions = the_sessions t.house.sessions;
        memory = the_memory t.house.memory;
        told = the_replies (vec_items t.told);
        sends = the_sends t.sends;
        work = the_work t.work;
      }
