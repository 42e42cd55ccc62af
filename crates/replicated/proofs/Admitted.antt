-- Every event that happens in fewer than 2^58 steps is admitted: a house's own numbers and those that it hears are below 2^62 by then.
use Rattle.std.specs.Prelude.{◌≡◌, ◌<◌, ◌≤◌, ℕ, ◌*◌, Bool, true, false, ◌&&◌, List, [], ◌∷◌, length, nat_lt}
use Rattle.std.specs.List.{list_all}
use Rattle.std.proofs.Common.{refl, subst, arith, lt-ltb, le-leb, eq-eqb}
use mathlib.Core.List.{Memᴰ}
use Rattle.agreement.specs.Copies.{Proposal, nothing, voted}
use Rattle.disks.specs.Cluster.{In, Ask, Tick, Seen, Packet}
use Rattle.disks.specs.Cluster
use Rattle.compose.specs.Pure.{on, World, Trace, steps_of}
use Rattle.copies.specs.Service.{Service, Keeper}
use Rattle.copies.specs.Messages.{Bundle, Command, Session, Status, Want, Part, Bundled, Done, Told, Asked, Given}
use Rattle.copies.specs.Copy.{Memory}
use Rattle.copies.specs.House.{Disks, Messages, Guard, replicated}
use Rattle.copies.specs.Admits.{fits, bundle_fits, is_only, command_fits, proposal_fits, status_fits, is_ready, session_fits, want_fits, part_fits, message_fits, admits}
use Rattle.replicated.proofs.Small.{SmallBundle, SmallCommand, SmallProposal, SmallStatus, SmallSession, SmallWant, SmallPart, counted}
use Rattle.replicated.proofs.SmallEvents.{SmallMessage}
use Rattle.replicated.proofs.SmallWorlds.{SmallOn, SmallStand, all_small}

both : (a b : Bool) → a ≡ true → b ≡ true → (a && b) ≡ true
both true b e f = f
both false b e f = e

all_true : {X : Type 0} (f : X → Bool) (xs : List X) → ((x : X) → Memᴰ x xs → f x ≡ true) → list_all f xs ≡ true
all_true f [] h = refl
all_true f (x ∷ xs) h = both (f x) (list_all f xs) (h x (Memᴰ.head refl)) (all_true f xs (λ y i. h y (Memᴰ.tail i)))

below : (l n a : ℕ) → n < l → a ≤ n → nat_lt a l ≡ true
below l n a f g = lt-ltb a l (omega (arith, f, g))

module _ (n : ℕ) (l : n < 4611686018427387904) where
  fit : (a : ℕ) → a ≤ n → fits a ≡ true
  fit a f = below _ n a l f

  want_ok : (q : Want) → SmallWant n q → want_fits q ≡ true
  want_ok q s = both (fits q.base) (fits q.top) (fit q.base s.base) (fit q.top s.top)

  session_ok : {A : Type 0} (s : Session A) → SmallSession n s → session_fits s ≡ true
  session_ok s f = both _ _ (both _ _ (fit s.incarnation f.incarnation) (fit s.counter f.counter)) (le-leb (length s.replies) 8 f.few)

  part_ok : {X B A : Type 0} (x : Part X B A) → SmallPart n x → part_fits x ≡ true
  part_ok x s = both _ _ (both _ _ (both _ _ (want_ok x.asked s.asked) (fit x.promised s.promised)) (fit x.version s.version)) (fit x.last s.last)

  module _ {O : Type 0} where
    bundle_ok : (b : Bundle O) → SmallBundle n b → bundle_fits b ≡ true
    bundle_ok b s =
        both _ _ (both _ _ (both _ _ (both _ _ (lt-ltb b.house 49 s.house) (fit b.incarnation s.incarnation)) (fit b.counter s.counter)) (le-leb 1 (length b.calls) s.some)) (le-leb (length b.calls) 8 s.few)

    command_ok : (k : Command O) → SmallCommand n k → command_fits k ≡ true
    command_ok k s = all_true (λ b. bundle_fits b && is_only k b) k (λ b i. both (bundle_fits b) (is_only k b) (bundle_ok b (s.bundles b i)) (eq-eqb _ 1 (omega (arith, s.one b.house, counted b k i))))

    proposal_ok : (u : Proposal (Command O)) → SmallProposal n u → proposal_fits u ≡ true
    proposal_ok nothing s = refl
    proposal_ok (voted b k) s = both (fits b) (command_fits k) (fit b s.0) (command_ok k s.1)

    status_ok : (x : Status O) → SmallStatus n x → status_fits x ≡ true
    status_ok x s = both _ _ (both _ _ (both _ _ (fit x.promised s.promised) (fit x.version s.version)) (fit x.last s.last)) (proposal_ok x.proposal s.proposal)

  module _ {O R : Type 0} (sv : Service O R) (kp : Keeper sv) where
    message_ok : (x : Messages sv kp) → SmallMessage sv kp n x → message_fits sv kp x ≡ true
    message_ok (Bundled b) s = bundle_ok b s
    message_ok (Done z) s = session_ok z s
    message_ok (Told x) s = status_ok x s
    message_ok (Asked q) s = want_ok q s
    message_ok (Given x) s = part_ok x s

    module _ (m : Memory O) (d : Disks sv kp) (v : SmallOn sv kp n m d) where
      ready : is_ready d.agreeing m ≡ true
      ready =
          both _ _
          (both _ _ (both _ _ (both _ _ (lt-ltb m.me 49 v.turn.memory.house) (fit d.agreeing.promised v.turn.agreeing.promised)) (fit d.agreeing.version v.turn.agreeing.version)) (fit m.counter v.turn.memory.counter_low))
          (fit m.quiet v.turn.memory.quiet_low)

      comes : (r : ℕ) (x : Messages sv kp) → r < 49 → SmallMessage sv kp n x → admits sv kp (Cluster.In.From r x) m d ≡ true
      comes r x h s = both _ _ (both _ _ ready (lt-ltb r 49 h)) (message_ok x s)

room : (s : ℕ) → s < 288230376151711744 → 8 * s < 4611686018427387904
room s l = omega (arith, l)

module _ {O R : Type 0} (sv : Service O R) (kp : Keeper sv) where
  -- of what a house remembers and stores: every event that may happen to it is admitted
  pub record Admitted (ps : List (Packet (Messages sv kp))) (m : Memory O) (d : Disks sv kp) : Type 0 where
    pub tick : admits sv kp Tick m d ≡ true
    pub from : (p : Packet (Messages sv kp)) → Memᴰ p ps → admits sv kp (Cluster.In.From p.from p.what) m d ≡ true
    pub ask : (k : ℕ) (o : O) → admits sv kp (Ask k o) m d ≡ true

  pub admitted : (ok : Guard sv kp) (all : ℕ) → all ≤ 49 → {es : List (Seen O R)} {w : World (Memory O) (Disks sv kp) (Messages sv kp)} (t : Trace (replicated sv kp ok) all es w) → steps_of t < 288230376151711744 →
      (i : ℕ) (m : Memory O) (d : Disks sv kp) → w.house i ≡ on m d → Admitted w.wire m d
  admitted ok all few {w = w} t l i m d e =
      let v = all_small sv kp ok all few t in
      let h : SmallOn sv kp (8 * steps_of t) m d = subst (SmallStand sv kp (8 * steps_of t)) e (v.house i) in
      record {
        tick = ready _ (room _ l) sv kp m d h;
        from = λ p k. comes _ (room _ l) sv kp m d h p.from p.what (v.from_house p k) (v.wire p k);
        ask = λ k o. ready _ (room _ l) sv kp m d h;
      }
