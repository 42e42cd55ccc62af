-- Which events a house admits: its own numbers and those that it hears leave room to count on, and bundles and commands are no larger than
-- they may be.
-- Assumes nothing.
use Rattle.std.specs.Prelude.{ℕ, Bool, true, ◌&&◌, length, count_by, nat_lt, nat_le, ◌==◌}
use Rattle.std.specs.List.{list_all}
use Rattle.disks.specs.Cluster.{From, Ask, Tick}
use Rattle.agreement.specs.Copies.{Proposal, nothing, voted}
use Rattle.copies.specs.Service.{Service, Keeper}
use Rattle.copies.specs.Messages.{Bundle, Command, Session, Agreeing, Status, Want, Part, Message, Bundled, Done, Told, Asked, Given}
use Rattle.copies.specs.Copy.{Memory}
use Rattle.copies.specs.House.{Messages, Guard}

-- a number below 2^62
abbrev pub fits : ℕ → Bool
fits n = nat_lt n 4611686018427387904

-- there are at most 49 houses
abbrev pub is_house : ℕ → Bool
is_house h = nat_lt h 49

module _ {O : Type 0} where
  -- from 1 to 8 calls
  abbrev pub bundle_fits : Bundle O → Bool
  bundle_fits b = is_house b.house && fits b.incarnation && fits b.counter && nat_le 1 (length b.calls) && nat_le (length b.calls) 8

  -- the only one of its house
  abbrev pub is_only : Command O → Bundle O → Bool
  is_only k b = count_by (λ c. c.house == b.house) k == 1

  abbrev pub command_fits : Command O → Bool
  command_fits k = list_all (λ b. bundle_fits b && is_only k b) k

  abbrev pub proposal_fits : Proposal (Command O) → Bool
  proposal_fits nothing = true
  proposal_fits (voted b k) = fits b && command_fits k

  abbrev pub status_fits : Status O → Bool
  status_fits x = fits x.promised && fits x.version && fits x.last && proposal_fits x.proposal

  -- of the house itself: the numbers that it may raise
  abbrev pub is_ready : Agreeing O → Memory O → Bool
  is_ready a m = is_house m.me && fits a.promised && fits a.version && fits m.counter && fits m.quiet

abbrev pub session_fits : {A : Type 0} → Session A → Bool
session_fits s = fits s.incarnation && fits s.counter && nat_le (length s.replies) 8

abbrev pub want_fits : Want → Bool
want_fits w = fits w.base && fits w.top

abbrev pub part_fits : {X B A : Type 0} → Part X B A → Bool
part_fits x = want_fits x.asked && fits x.promised && fits x.version && fits x.last

abbrev pub packet_fits : {X B O A : Type 0} → Message X B O A → Bool
packet_fits (Bundled b) = bundle_fits b
packet_fits (Done s) = session_fits s
packet_fits (Told x) = status_fits x
packet_fits (Asked w) = want_fits w
packet_fits (Given x) = part_fits x

module _ {O R : Type 0} (sv : Service O R) (kp : Keeper sv) where
  abbrev pub message_fits : Messages sv kp → Bool
  message_fits x = packet_fits x

  abbrev pub admits : Guard sv kp
  admits (From r x) m d = is_ready d.agreeing m && is_house r && message_fits x
  admits (Ask k o) m d = is_ready d.agreeing m
  admits Tick m d = is_ready d.agreeing m
