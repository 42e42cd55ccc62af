-- What the code's values stand for.
-- Assumes nothing.
use Rattle.std.specs.Prelude.{ℕ, zero, suc, List, [], ◌∷◌, ◌++◌, map, vec_items}
use Rattle.volumes.specs.Service.{Service}
use Rattle.copies.specs.Views.{the_bundle, the_session, the_status, the_want, the_sessions}
use Rattle.copies.specs.declared.message.Tail.{Tail as TailHad}
use Rattle.copies.specs.declared.message.Tail.TheVariants.{More, Ends}
use Rattle.copies.specs.declared.message.Part.{Part as PartHad}
use Rattle.copies.specs.declared.message.Message.{Message as MessageHad}
use Rattle.copies.specs.declared.message.Message.TheVariants as messages
use Rattle.copies.specs.declared.sessions.Sessions.{Sessions as SessionsHad}
use Rattle.copies.specs.declared.message.Stamped.{Stamped as StampedHad}
use Rattle.packets.specs.declared.block.Block.{Block}
use Rattle.packets.specs.declared.rest.Rest.{Rest}
use Rattle.packets.specs.declared.identity.Identity.{Identity as IdentityHad}
use Rattle.packets.specs.declared.directory.Directory.{Directory as DirectoryHad}
use Rattle.packets.specs.Formats.{Bytes, AnswerSession, Sectors, StampedBlock, PartEnd, more_from, with_rest, PartSaid, Said, bundled, replied, told, asked, given, Identity, Directory}

abbrev pub see_block : Block → Sectors
see_block b = vec_items b.sectors

abbrev pub see_stamped : StampedHad Block → StampedBlock
see_stamped b = record { key = b.key.0; stamp = b.stamp.0; block = see_block b.block }

abbrev pub see_rest : Rest → Service
see_rest r = record { next = r.next; heads = vec_items r.heads; weight = r.weight }

-- what the first so many numbers have, in their order
unfoldable pub table : {A : Type 0} → ℕ → (ℕ → A) → List A
table zero f = []
table (suc n) f = table n f ++ f n ∷ []

abbrev pub see_sessions : SessionsHad Bytes → List AnswerSession
see_sessions s = table 49 (the_sessions s)

abbrev pub see_end : TailHad Rest Bytes → PartEnd
see_end (More k) = more_from k.0
see_end (Ends x done) = with_rest (see_rest x) (see_sessions done)

abbrev pub see_part : PartHad Rest Block Bytes → PartSaid
see_part x =
    record {
      asked = the_want x.asked;
      promised = x.promised.0;
      version = x.version.0;
      last = x.last.0;
      whole = x.whole;
      floor = x.floor.0;
      blocks = map see_stamped (vec_items x.blocks);
      tail = see_end x.tail;
    }

abbrev pub see_message : MessageHad Rest Block Bytes Bytes → Said
see_message (messages.Bundle b) = bundled (the_bundle b)
see_message (messages.Replies s) = replied (the_session s)
see_message (messages.Status x) = told (the_status x)
see_message (messages.Want w) = asked (the_want w)
see_message (messages.Part x) = given (see_part x)

abbrev pub see_identity : IdentityHad → Identity
see_identity i = record { house = i.house.0; houses = i.houses; size = i.size; incarnation = i.incarnation }

abbrev pub see_directory : DirectoryHad → Directory
see_directory d = record { generation = d.generation; floor = d.floor }
