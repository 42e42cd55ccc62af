-- What code that uses a disk did, step by step, against a program of the mathematics.
use Rattle.std.specs.Prelude.{ℕ, List, Ok, Err, Result}
use Rattle.disks.specs.Device.{Io, answer, read, write, sync}

-- one thing that a disk was seen to do
pub data Act : Type 0 where
  -- nothing that the device would notice
  idle : Act
  -- it gave these bytes of a sector
  gave : ℕ → List ℕ → Act
  -- it took these bytes for a sector
  took : ℕ → List ℕ → Act
  settled : Act
  -- it gave up: the power failed
  broke : Act

-- From the disk s to the disk t exactly the requests of a program were made, in order, with the answers that the disk gave, and the outcome is the
-- program's; at an Err the requests of a front part of the program.
pub data Does {S E : Type 0} (did : S → Act → S → Type 0) {A : Type 0} : Io A → S → Result A E → S → Type 0 where
  ends : {a : A} {s : S} → Does did (answer a) s (Ok a) s
  stops : {p : Io A} {e : E} {s t : S} → did s broke t → Does did p s (Err e) t
  idles : {p : Io A} {r : Result A E} {s m t : S} → did s idle m → Does did p m r t → Does did p s r t
  reads : {n : ℕ} {b : List ℕ} {k : List ℕ → Io A} {r : Result A E} {s m t : S} → did s (gave n b) m → Does did (k b) m r t → Does did (read n k) s r t
  writes : {n : ℕ} {b : List ℕ} {p : Io A} {r : Result A E} {s m t : S} → did s (took n b) m → Does did p m r t → Does did (write n b p) s r t
  syncs : {p : Io A} {r : Result A E} {s m t : S} → did s settled m → Does did p m r t → Does did (sync p) s r t

-- the program was cut, whatever the error
abbrev pub Cut : {S A : Type 0} → (S → Act → S → Type 0) → Io A → S → S → Type 0
Cut did p s t = Does {E = Unit {0}} did p s (Err tt) t

-- Of the program p, begun at s, the program q is left at m: whatever comes of q, comes of p. For the invariant of a loop.
abbrev pub Left : {S A : Type 0} → (E : Type 0) → (S → Act → S → Type 0) → Io A → S → Io A → S → Type 0
Left {S} {A} E did p s q m = (r : Result A E) (t : S) → Does did q m r t → Does did p s r t

-- the programs of one request
abbrev pub read_io : ℕ → Io (List ℕ)
read_io n = read n (λ b. answer b)

abbrev pub write_io : ℕ → List ℕ → Io (Unit {0})
write_io n b = write n b (answer tt)

abbrev pub sync_io : Io (Unit {0})
sync_io = sync (answer tt)

-- an outcome with the value put in that the code left behind a reference
abbrev pub giving : {A B E : Type 0} → Result A E → B → Result B E
giving (Ok a) b = Ok b
giving (Err e) b = Err e

-- an outcome in the words of the mathematics: the code's value by a function of it
abbrev pub over : {A B E : Type 0} → (A → B) → Result A E → Result B E
over f (Ok a) = Ok (f a)
over f (Err e) = Err e
