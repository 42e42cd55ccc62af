-- What is promised of the houses together: they are as one place, and their copies agree.
-- Assumes nothing.
use Rattle.std.specs.Prelude.{◌≡◌, ◌⊎◌, ℕ, ◌+◌, ◌*◌, ◌<◌, ◌≤◌, true, cond, List, [], ◌∷◌, ◌++◌, length}
use mathlib.Core.List.{Memᴰ}
use Rattle.disks.specs.Cluster.{In, Plain, Seen, Packet, put}
use Rattle.compose.specs.Pure.{Pure, Stand, off, on, World, Trace, begin, rises, does, asked, ticks, falls, falls_rising, falls_doing, falls_asked, falls_ticking, PureAsOne, PureBusy, PureAnswers}
use Rattle.copies.specs.Service.{Service, Keeper, Lawful, Keeps, overwritten}
use Rattle.copies.specs.Messages.{Item, Bundle, Command, Reply, Session, Recovery, level, recovers, Told, unused, Status}
use Rattle.copies.specs.Copy.{is_new, Memory}
use Rattle.copies.specs.House.{Disks, Messages, Guard, replicated, status_now}

module _ {O R : Type 0} (sv : Service O R) where
  -- ONE PLACE. The service's state, and what a call leaves.
  pub record Place : Type 0 where
    pub rest : sv.Rest
    pub blocks : ℕ → sv.Block

  abbrev pub blank_place : Place
  blank_place = record { rest = sv.first; blocks = λ k. sv.empty }

  abbrev pub left_by : O → Place → Place
  left_by o s = record { rest = sv.next o s.rest s.blocks; blocks = overwritten (sv.changes o s.rest s.blocks) s.blocks }

  abbrev pub plain : Plain O R
  plain = record { State = Place; start = blank_place; Answers = λ o s r t. (sv.says (sv.reply o s.rest s.blocks) ≡ r) × (left_by o s ≡ t); Cut = λ s t. s ≡ t; busy = sv.busy }

  -- COMMANDS, played from the start; the latest stands first.
  pub record Played : Type 0 where
    pub sessions : ℕ → Session sv.A
    pub place : Place

  unfoldable pub leaves : List (Item O) → Place → Place
  leaves [] s = s
  leaves (x ∷ xs) s = leaves xs (left_by x.call s)

  unfoldable pub replies : List (Item O) → Place → List (Reply sv.A)
  replies [] s = []
  replies (x ∷ xs) s = record { id = x.id; reply = sv.reply x.call s.rest s.blocks } ∷ replies xs (left_by x.call s)

  abbrev pub fulfils : Bundle O → Played → Played
  fulfils b v = record { sessions = put b.house (record { incarnation = b.incarnation; counter = b.counter; replies = replies b.calls v.place }) v.sessions; place = leaves b.calls v.place }

  unfoldable pub bundle_played : Bundle O → Played → Played
  bundle_played b v = cond (is_new b v.sessions) (fulfils b v) v

  unfoldable pub command_played : Command O → Played → Played
  command_played [] v = v
  command_played (b ∷ k) v = command_played k (bundle_played b v)

  unfoldable pub replay : List (Command O) → Played
  replay [] = record { sessions = λ h. unused; place = blank_place }
  replay (k ∷ h) = command_played k (replay h)

-- the worlds that a trace came through
unfoldable pub Passed : {M O R : Type 0} {h : Pure M O R} {all : ℕ} {es : List (Seen O R)} {w : World h.Mem h.D M} → Trace h all es w → World h.Mem h.D M → Type 0
Passed {w = w} begin u = u ≡ w
Passed {w = w} (rises i d l t e) u = (u ≡ w) ⊎ Passed t u
Passed {w = w} (does i m d p l t e n to) u = (u ≡ w) ⊎ Passed t u
Passed {w = w} (asked i k o m d l t e n) u = (u ≡ w) ⊎ Passed t u
Passed {w = w} (ticks i m d l t e) u = (u ≡ w) ⊎ Passed t u
Passed {w = w} (falls i m d l t e) u = (u ≡ w) ⊎ Passed t u
Passed {w = w} (falls_rising i d f l t e c) u = (u ≡ w) ⊎ Passed t u
Passed {w = w} (falls_doing i m d f p l t e n to c) u = (u ≡ w) ⊎ Passed t u
Passed {w = w} (falls_asked i k o m d f l t e n c) u = (u ≡ w) ⊎ Passed t u
Passed {w = w} (falls_ticking i m d f l t e c) u = (u ≡ w) ⊎ Passed t u

-- what a house stores, whether its power is on or not
abbrev pub stored_at : {Mem D : Type 0} → Stand Mem D → D
stored_at (off d) = d
stored_at (on m d) = d

module _ {O R : Type 0} (sv : Service O R) (kp : Keeper sv) where
  -- what a copy's disk shows of a key after so many commands, if it isn't gone
  abbrev pub ShowsKey : kp.Kept → List (Command O) → ℕ → Type 0
  ShowsKey s h k = (sv.gone (replay sv h).place.rest k ≡ true) ⊎ (kp.look s k ≡ (replay sv h).place.blocks k)

  -- of a sequence of commands, the first so many
  pub record First (ks : List (Command O)) (n : ℕ) : Type 0 where
    pub newer : List (Command O)
    pub older : List (Command O)
    pub parts : ks ≡ newer ++ older
    pub long : length older ≡ n

  -- each block as it was after so many commands, from base to top
  abbrev pub Between : List (Command O) → kp.Kept → (base top : ℕ) → Type 0
  Between ks s a b = (k : ℕ) → (n : ℕ) × (a ≤ n) × (n ≤ b) × (f : First ks n) × ShowsKey s f.older k

  abbrev pub HasBlocks : List (Command O) → List (Command O) → kp.Kept → Recovery → Type 0
  HasBlocks ks h s level = (k : ℕ) → ShowsKey s h k
  HasBlocks ks h s (recovers a b) = Between ks s a b

  -- a copy has the state after the first commands of the sequence, as many as its version says; while it recovers, its blocks are of
  -- versions from its base to its top
  pub record Agrees (ks : List (Command O)) (d : Disks sv kp) : Type 0 where
    pub first : First ks d.agreeing.version
    pub sessions : d.sessions ≡ (replay sv first.older).sessions
    pub rest : d.rest ≡ (replay sv first.older).place.rest
    pub blocks : HasBlocks ks first.older d.kept d.agreeing.recovery

-- Copies never disagree: there is one sequence of commands, and each copy has, whenever it is looked at, the state after the first of them.
abbrev pub Agreement : Type 1
Agreement =
    (O R : Type 0) (sv : Service O R) (kp : Keeper sv) (ok : Guard sv kp) → Lawful sv → Keeps sv kp → (all : ℕ) → (es : List (Seen O R)) (w : World (Memory O) (Disks sv kp) (Messages sv kp)) (t : Trace (replicated sv kp ok) all es w) →
    (ks : List (Command O)) × ((u : World (Memory O) (Disks sv kp) (Messages sv kp)) → Passed t u → (i : ℕ) → i < 3 → Agrees sv kp ks (stored_at (u.house i)))

-- A copy that is level has exactly the state after its version's commands, also one that has recovered; what one that recovers has is,
-- block by block, that of some version from its base to its top.
abbrev pub CaughtUp : Type 1
CaughtUp =
    (O R : Type 0) (sv : Service O R) (kp : Keeper sv) (ok : Guard sv kp) → Lawful sv → Keeps sv kp → (all : ℕ) → (es : List (Seen O R)) (w : World (Memory O) (Disks sv kp) (Messages sv kp)) (t : Trace (replicated sv kp ok) all es w) →
    (ks : List (Command O)) × ((u : World (Memory O) (Disks sv kp) (Messages sv kp)) → Passed t u → (i : ℕ) → i < 3 →
    ((stored_at (u.house i)).agreeing.recovery ≡ level → (f : First sv kp ks (stored_at (u.house i)).agreeing.version) × ((stored_at (u.house i)).sessions ≡ (replay sv f.older).sessions) × ((stored_at (u.house i)).rest ≡ (replay sv f.older).place.rest) × ((k : ℕ) → ShowsKey sv kp (stored_at (u.house i)).kept f.older k)) ×
    ((base top : ℕ) → (stored_at (u.house i)).agreeing.recovery ≡ recovers base top → Between sv kp ks (stored_at (u.house i)).kept base top))

-- Each status was what its sender stored, before it was sent.
abbrev pub StoredFirst : Type 1
StoredFirst =
    (O R : Type 0) (sv : Service O R) (kp : Keeper sv) (ok : Guard sv kp) (all : ℕ) → (es : List (Seen O R)) (w : World (Memory O) (Disks sv kp) (Messages sv kp)) (t : Trace (replicated sv kp ok) all es w) →
    (p : Packet (Messages sv kp)) (x : Status O) → Memᴰ p w.wire → p.what ≡ Told x → (u : World (Memory O) (Disks sv kp) (Messages sv kp)) × Passed t u × (status_now sv kp (stored_at (u.house p.from)).agreeing ≡ x)

-- as one place, and nothing is ever cut
abbrev pub Replicated : Type 1
Replicated = (O R : Type 0) (sv : Service O R) (kp : Keeper sv) (ok : Guard sv kp) → Lawful sv → Keeps sv kp → PureAsOne (plain sv) (replicated sv kp ok)

-- busy is said only at once, and only where eight wait, whatever packet comes
abbrev pub BusyOnly : Type 1
BusyOnly = (O R : Type 0) (sv : Service O R) (kp : Keeper sv) (ok : Guard sv kp) → Lawful sv → PureBusy sv.busy (replicated sv kp ok)

-- How many steps answering takes, where a pass of catching up has at most so many parts after its first: each of 49 houses may send two bundles.
abbrev pub steps_for : (most : ℕ) → ℕ
steps_for most = 98 * (24 * most + 66)

-- With any one house out, all calls that wait at the others can be answered.
abbrev pub ReplicatedAnswers : Type 1
ReplicatedAnswers =
    (O R : Type 0) (sv : Service O R) (kp : Keeper sv) (ok : Guard sv kp) → Lawful sv → (keeps : Keeps sv kp) → ((x : In (Messages sv kp) O) (m : Memory O) (d : Disks sv kp) → ok x m d ≡ true) → PureAnswers (steps_for keeps.most) (replicated sv kp ok)
