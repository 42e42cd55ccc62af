-- What comes of an event, from what came of its parts.
use Rattle.std.proofs.Common.{◌≡◌, ◌≢◌, ℕ, Bool, true, false, cond, nat_lt, is_err, ◌∷◌, List, [], Ok, Err, Result, sym, ◌∙◌, refl, subst, arith}
use mathlib.Core.Bool.{false≢true}
use Rattle.disks.specs.Device.{Io, answer, read, write, sync, then'}
use Rattle.journal.specs.Programs.{Put', put_io, transact_io, after_put, allowed}
use Rattle.journal.specs.Format.{numbers_end}
use Rattle.journal.specs.declared.state.Journal.{Journal}
use Rattle.journal.specs.declared.state.Write.{Write}
use Rattle.journal.specs.declared.state.Refused.{Refused as Refusal}
use Rattle.journal.specs.declared.state.Refused.TheVariants.{OutOfRange, NumbersUsedUp}
use Rattle.device.specs.Does.{Act, Does, ends, stops, idles, reads, writes, syncs, Cut}
use Rattle.device.specs.Told.{told, leaving}
use Rattle.device.specs.declared.disk.Fault.{Fault}
use Rattle.device.specs.declared.disk.Failed.{Failed}
use Rattle.device.specs.declared.disk.Failed.TheVariants.{Disk, Refused}
use Rattle.device.proofs.Steps.{after_call, cut-call}
use Rattle.houses.specs.declared.house.Stopped.{Stopped}
use Rattle.houses.specs.declared.house.Stopped.TheVariants.{NoMemory, Broken}
use Rattle.houses.specs.Gathers.{gathers}
use Rattle.houses.specs.Stores.{store_io}
use Rattle.houses.specs.Stops.{GivesUp, broken}
use Rattle.houses.specs.Acts.{event_io, Stored, Goes}

-- whatever a device gives, a program's answers are such
unfoldable Answers : {A : Type 0} → (A → Type 0) → Io A → Type 0
Answers P (answer a) = P a
Answers P (read n k) = (b : List ℕ) → Answers P (k b)
Answers P (write n b p) = Answers P p
Answers P (sync p) = Answers P p

answered : {S E A : Type 0} {did : S → Act → S → Type 0} (P : A → Type 0) {p : Io A} {r : A} {s t : S} → Does {E = E} did p s (Ok r) t → Answers P p → P r
unfolding Answers
answered P ends a = a
answered P (idles d i) a = answered P i a
answered P (reads {b} d i) a = answered P i (a b)
answered P (writes d i) a = answered P i a
answered P (syncs d i) a = answered P i a

answers_then : {A B : Type 0} (P : B → Type 0) (p : Io A) (x : B) → P x → Answers P (then' p (λ a. answer x))
unfolding Answers then'
answers_then P (answer a) x h = h
answers_then P (read n k) x h = λ b. answers_then P (k b) x h
answers_then P (write n b p) x h = answers_then P p x h
answers_then P (sync p) x h = answers_then P p x h

-- what only answers may answer anything
quiet : {S E A B : Type 0} {did : S → Act → S → Type 0} {x r : A} {s t : S} (y : B) → Does {E = E} did (answer x) s (Ok r) t → Does {E = E} did (answer y) s (Ok y) t
quiet y ends = ends
quiet y (idles d i) = idles d (quiet y i)

quiet_after : {S E A B : Type 0} {did : S → Act → S → Type 0} {p : Io A} {a : A} {x : B} {s m t : S} → Does {E = E} did p s (Ok a) m → Does {E = E} did (answer x) m (Ok x) t → Does {E = E} did p s (Ok a) t
quiet_after ends h = quiet _ h
quiet_after (idles d i) h = idles d (quiet_after i h)
quiet_after (reads d i) h = reads d (quiet_after i h)
quiet_after (writes d i) h = writes d (quiet_after i h)
quiet_after (syncs d i) h = syncs d (quiet_after i h)

-- A journal that refuses has asked for nothing.
put_refused : {S E : Type 0} {did : S → Act → S → Type 0} (j k : Journal) (ws : List Write) (e : Refusal) {s t : S} →
    Does {E = E} did (put_io j ws) s (Ok (record { outcome = Err e; journal = k })) t → Does {E = E} did (answer (tt {0})) s (Ok (tt {0})) t
unfolding put_io
put_refused {E} {did} j k ws e {s} {t} h = go (allowed j.size ws) (nat_lt j.next numbers_end) h
  where
    go : (a b : Bool) → Does {E = E} did {A = Put'}
        (cond a (cond b (then' (transact_io j ws) (λ _. answer (record { outcome = Ok tt; journal = after_put j }))) (answer (record { outcome = Err NumbersUsedUp; journal = j }))) (answer (record { outcome = Err OutOfRange; journal = j })))
        s (Ok (record { outcome = Err e; journal = k })) t → Does {E = E} did (answer (tt {0})) s (Ok (tt {0})) t
    go true true h = absurd (false≢true (sym (answered (λ (p : Put'). is_err p.outcome ≡ false) h (answers_then (λ (p : Put'). is_err p.outcome ≡ false) (transact_io j ws) _ refl))))
    go true false h = quiet tt h
    go false b h = quiet tt h

store_refused : {S E : Type 0} {did : S → Act → S → Type 0} (j k : Journal) (ws : List Write) (e : Refusal) {s t : S} →
    Does {E = E} did (store_io j ws) s (Ok (record { outcome = Err e; journal = k })) t → Does {E = E} did (answer (tt {0})) s (Ok (tt {0})) t
unfolding store_io
store_refused j k [] e h = quiet tt h
store_refused j k (w ∷ ws) e h = put_refused j k (w ∷ ws) e h

cut_of : {S E A : Type 0} {did : S → Act → S → Type 0} {p : Io A} {e : E} {s t : S} → Does did p s (Err e) t → Cut did p s t
cut_of (stops d) = stops d
cut_of (idles d i) = idles d (cut_of i)
cut_of (reads d i) = reads d (cut_of i)
cut_of (writes d i) = writes d (cut_of i)
cut_of (syncs d i) = syncs d (cut_of i)

not_memory : ◌≢◌ {A = Stopped} Broken NoMemory
not_memory e = let z : ◌≡◌ {A = ℕ} 0 1 = cc in absurd (omega arith)

-- what was stored, by what the transaction told
pub stored_well : {S : Type 0} {did : S → Act → S → Type 0} (j k : Journal) (ws : List Write) {x : Result (Unit {0}) (Failed Refusal)} {u : Unit {0}} {s t : S} → x ≡ Ok u →
    Does {E = Fault} did (store_io j ws) s (leaving (told x) k) t → Stored did j ws s (Ok k) t
unfolding Stored
stored_well {did} j k ws {s} {t} e h = subst (λ (x : Result (Unit {0}) (Failed Refusal)). Does {E = Fault} did (store_io j ws) s (leaving (told x) k) t) e h

stored_not : {S : Type 0} {did : S → Act → S → Type 0} (j k : Journal) (ws : List Write) (e : Failed Refusal) {s t : S} →
    Does {E = Fault} did (store_io j ws) s (leaving {E = Fault} (told {A = Unit {0}} (Err e)) k) t → Stored did j ws s (Err (broken e)) t
unfolding Stored
stored_not j k ws (Disk f) h = cut_of h
stored_not j k ws (Refused r) h = (not_memory, store_refused j k ws r h)

pub stored_ill : {S : Type 0} {did : S → Act → S → Type 0} (j k : Journal) (ws : List Write) {x : Result (Unit {0}) (Failed Refusal)} {e : Failed Refusal} {y : Failed Stopped} {s t : S} → x ≡ Err e →
    Does {E = Fault} did (store_io j ws) s (leaving (told x) k) t → y ≡ broken e → Stored did j ws s (Err y) t
stored_ill {did} j k ws {e} {s} {t} i h b =
    subst (λ (y : Failed Stopped). Stored did j ws s (Err y) t) (sym b) (stored_not j k ws e (subst (λ (x : Result (Unit {0}) (Failed Refusal)). Does {E = Fault} did (store_io j ws) s (leaving (told x) k) t) i h))

-- reading failed
pub read_failed : {S : Type 0} {did : S → Act → S → Type 0} (j : Journal) (ps : List ℕ) (f : Fault) {s t : S} → Does did (gathers ps []) s (Err f) t → Goes did j s (Err (Disk f)) t
unfolding event_io Goes
read_failed j ps f h = (ps, [], cut-call (gathers ps []) (λ ss. store_io j []) h)

-- sectors were read, and then all was stored, or not
pub then_stored : {S : Type 0} (did : S → Act → S → Type 0) (s m t : S) (j : Journal) (ps : List ℕ) (ss : List (List ℕ)) (ws : List Write) (r : Result Journal (Failed Stopped)) →
    Does {E = Fault} did (gathers ps []) s (Ok ss) m → Stored did j ws m r t → Goes did j s r t
unfolding event_io Goes Stored
then_stored did s m t j ps ss ws (Ok k) g h = (ps, ws, after_call (gathers ps []) (λ ss. store_io j ws) g h)
then_stored did s m t j ps ss ws (Err (Disk f)) g h = (ps, ws, after_call (gathers ps []) (λ ss. store_io j ws) g h)
then_stored did s m t j ps ss ws (Err (Refused e)) g h = (h.0, ps, ss, quiet_after g h.1)

gave_up : {S : Type 0} (did : S → Act → S → Type 0) (s t : S) (j : Journal) (e : Stopped) (r : Failed Stopped) → GivesUp did s e r t → Stored did j [] s (Err r) t
unfolding Stored GivesUp
gave_up did s t j e (Disk f) g = stops g.1
gave_up did s t j e (Refused x) g =
    (λ i. g.0 (sym g.1 ∙ i), subst (λ (t : _). Does {E = Fault} did (answer (tt {0})) s (Ok (tt {0})) t) (sym g.2) ends)

-- the house stops when sectors were read, or before
pub then_stops : {S : Type 0} (did : S → Act → S → Type 0) (s m t : S) (j : Journal) (ps : List ℕ) (ss : List (List ℕ)) (e : Stopped) (r : Failed Stopped) →
    Does {E = Fault} did (gathers ps []) s (Ok ss) m → GivesUp did m e r t → Goes did j s (Err r) t
then_stops did s m t j ps ss e r g h = then_stored did s m t j ps ss [] (Err r) g (gave_up did m t j e r h)

pub only_stops : {S : Type 0} (did : S → Act → S → Type 0) (s t : S) (j : Journal) (e : Stopped) (r : Failed Stopped) → GivesUp did s e r t → Goes did j s (Err r) t
unfolding gathers
only_stops did s t j e r h = then_stops did s s t j [] [] e r ends h

pub over_at_once : {S : Type 0} (did : S → Act → S → Type 0) (s : S) (j : Journal) → Goes did j s (Ok j) s
unfolding gathers store_io Stored
over_at_once did s j = then_stored did s s s j [] [] [] (Ok j) ends ends

pub ruleset acting = (stored_well, stored_ill, read_failed, then_stored, then_stops, only_stops, over_at_once)
