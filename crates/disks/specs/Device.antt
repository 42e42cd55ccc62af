-- A block device and what a power cut leaves of it; programs that use one, request by request; and what it is for a part of the
-- code to keep to a judge, which is a description of what it may answer. Volumes are such devices too, so this is said once.
-- Assumes nothing.
use Rattle.std.specs.Prelude.{◌≡◌, ◌⊎◌, Bool, true, cond, ◌&&◌, ℕ, zero, suc, ◌<◌, ◌≤◌, eqb, ltb, T, length}
use mathlib.Core.List.{List, [], ◌∷◌, Memᴰ}

-- Sectors of 512 bytes. kept: what a sector held when the device last answered a sync; since: what was written to it since then, the latest first.
pub record Device : Type 0 where
  pub kept : ℕ → List ℕ
  pub since : ℕ → List (List ℕ)

unfoldable pub zeros : ℕ → List ℕ
zeros zero = []
zeros (suc n) = 0 ∷ zeros n

-- all zero at first
abbrev pub blank_device : Device
blank_device = record { kept = λ s. zeros 512; since = λ s. [] }

unfoldable pub latest : List ℕ → List (List ℕ) → List ℕ
latest old [] = old
latest old (b ∷ bs) = b

-- a sector reads as what was last written to it
abbrev pub shown : Device → ℕ → List ℕ
shown d s = latest (d.kept s) (d.since s)

abbrev pub written : ℕ → List ℕ → Device → Device
written s b d = record { kept = d.kept; since = λ t. cond (eqb t s) (b ∷ d.since s) (d.since t) }

-- a sync makes what was written stand
abbrev pub synced : Device → Device
synced d = record { kept = shown d; since = λ s. [] }

-- After a cut each sector, for itself, holds what it held at the last sync, or anything that was written to it since, whole.
pub record AfterCut (d e : Device) : Type 0 where
  pub each : (s : ℕ) → (e.kept s ≡ d.kept s) ⊎ Memᴰ (e.kept s) (d.since s)
  pub nothing : (s : ℕ) → e.since s ≡ []

-- What a program asks of its device between a call and its answer, one thing after the other; then it answers.
pub data Io (A : Type 0) : Type 0 where
  answer : A → Io A
  read : ℕ → (List ℕ → Io A) → Io A
  write : ℕ → List ℕ → Io A → Io A
  sync : Io A → Io A

pub record Ran (A : Type 0) : Type 0 where
  pub value : A
  pub device : Device

unfoldable pub run : {A : Type 0} → Io A → Device → Ran A
run (answer a) d = record { value = a; device = d }
run (read s k) d = run (k (shown d s)) d
run (write s b p) d = run p (written s b d)
run (sync p) d = run p (synced d)

-- Where a program may be cut: the device as it is then.
pub data Upto {A : Type 0} : Io A → Device → Device → Type 0 where
  here : {p : Io A} {d : Device} → Upto p d d
  reads : {s : ℕ} {k : List ℕ → Io A} {d e : Device} → Upto (k (shown d s)) d e → Upto (read s k) d e
  writes : {s : ℕ} {b : List ℕ} {p : Io A} {d e : Device} → Upto p (written s b d) e → Upto (write s b p) d e
  syncs : {p : Io A} {d e : Device} → Upto p (synced d) e → Upto (sync p) d e

unfoldable pub all_bytes : List ℕ → Bool
all_bytes [] = true
all_bytes (b ∷ bs) = ltb b 256 && all_bytes bs

-- A program that stays within a device of that size: it reads and writes its sectors only, and writes whole ones, of bytes.
pub data Fair (size : ℕ) {A : Type 0} : Io A → Device → Type 0 where
  ends : (a : A) (d : Device) → Fair size (answer a) d
  reads : {s : ℕ} {k : List ℕ → Io A} {d : Device} → s < size → Fair size (k (shown d s)) d → Fair size (read s k) d
  writes : {s : ℕ} {b : List ℕ} {p : Io A} {d : Device} → s < size → length b ≡ 512 → T (all_bytes b) → Fair size p (written s b d) → Fair size (write s b p) d
  syncs : {p : Io A} {d : Device} → Fair size p (synced d) → Fair size (sync p) d

-- A part of the code: what it keeps between calls, how it comes up on a device of so many sectors, what it does at a call.
pub record Machine (C R : Type 0) : Type 1 where
  pub Mem : Type 0
  pub opens : ℕ → Io Mem
  pub does : C → Mem → Io (record { reply : R; mem : Mem })

pub data Event (C R : Type 0) : Type 0 where
  called : C → R → Event C R
  -- the power fails in the midst of a call, between calls, while it comes up
  cut_in : C → Event C R
  cut_between : Event C R
  cut_opening : Event C R

pub data World {C R : Type 0} (e : Machine C R) : Type 0 where
  off : Device → World e
  on : e.Mem → Device → World e

-- whatever can happen, the latest first
pub data Trace {C R : Type 0} (e : Machine C R) (size : ℕ) : List (Event C R) → World e → Type 0 where
  begin : Trace e size [] (off blank_device)
  opened : {es : List (Event C R)} {d : Device} → Trace e size es (off d) → Trace e size es (on (run (e.opens size) d).value (run (e.opens size) d).device)
  opening_cut : {es : List (Event C R)} {d f g : Device} → Trace e size es (off d) → Upto (e.opens size) d f → AfterCut f g → Trace e size (cut_opening ∷ es) (off g)
  answered : {es : List (Event C R)} {m : e.Mem} {d : Device} (c : C) → Trace e size es (on m d) →
      Trace e size (called c (run (e.does c m) d).value.reply ∷ es) (on (run (e.does c m) d).value.mem (run (e.does c m) d).device)
  call_cut : {es : List (Event C R)} {m : e.Mem} {d f g : Device} (c : C) → Trace e size es (on m d) → Upto (e.does c m) d f → AfterCut f g → Trace e size (cut_in c ∷ es) (off g)
  between_cut : {es : List (Event C R)} {m : e.Mem} {d g : Device} → Trace e size es (on m d) → AfterCut d g → Trace e size (cut_between ∷ es) (off g)

-- A judge says what a part is to be: its states, what a call may answer and leave, and what is left of a state when the power fails.
pub record Judge (C R : Type 0) : Type 1 where
  pub State : Type 0
  pub start : State
  pub Answers : C → State → R → State → Type 0
  pub Down : State → State → Type 0

-- What a judge allows to be seen: a call that was cut either never was, or was done. Lists of events have any length.
pub data Allowed {C R : Type 0} (j : Judge C R) : List (Event C R) → j.State → Type 0 where
  at_start : Allowed j [] j.start
  answers : {es : List (Event C R)} {s t : j.State} {k : C} {r : R} → Allowed j es s → j.Answers k s r t → Allowed j (called k r ∷ es) t
  was_lost : {es : List (Event C R)} {s u : j.State} {k : C} → Allowed j es s → j.Down s u → Allowed j (cut_in k ∷ es) u
  was_done : {es : List (Event C R)} {s t u : j.State} {k : C} {r : R} → Allowed j es s → j.Answers k s r t → j.Down t u → Allowed j (cut_in k ∷ es) u
  came_between : {es : List (Event C R)} {s u : j.State} → Allowed j es s → j.Down s u → Allowed j (cut_between ∷ es) u
  came_opening : {es : List (Event C R)} {s u : j.State} → Allowed j es s → j.Down s u → Allowed j (cut_opening ∷ es) u

-- on any device of 2 MiB to 512 TiB: everything that is ever seen is allowed
abbrev pub Keeps : {C R : Type 0} → (ℕ → Judge C R) → Machine C R → Type 0
Keeps {C} {R} j e = (size : ℕ) → 4096 ≤ size → size ≤ 1099511627776 → (es : List (Event C R)) (w : World e) → Trace e size es w → (s : (j size).State) × Allowed (j size) es s

-- and nothing is touched but the device
abbrev pub Within : {C R : Type 0} → Machine C R → Type 0
Within {C} {R} e =
    (size : ℕ) → 4096 ≤ size → size ≤ 1099511627776 →
    ((es : List (Event C R)) (d : Device) → Trace e size es (off d) → Fair size (e.opens size) d) × ((es : List (Event C R)) (m : e.Mem) (d : Device) → Trace e size es (on m d) → (c : C) → Fair size (e.does c m) d)

-- LAYERS. A layer above asks the one below, call by call; nothing else.
pub data Plan (C R A : Type 0) : Type 0 where
  gives : A → Plan C R A
  asks : C → (R → Plan C R A) → Plan C R A

pub record Layer (C R C' R' : Type 0) : Type 1 where
  pub Mem : Type 0
  pub comes_up : ℕ → Plan C R Mem
  pub answers : C' → Mem → Plan C R (record { reply : R'; mem : Mem })

unfoldable pub then' : {A B : Type 0} → Io A → (A → Io B) → Io B
then' (answer a) f = f a
then' (read s k) f = read s (λ b. then' (k b) f)
then' (write s b p) f = write s b (then' p f)
then' (sync p) f = sync (then' p f)

-- a plan done by a machine below
unfoldable pub through : {C R A : Type 0} → (e : Machine C R) → Plan C R A → e.Mem → Io (record { value : A; below : e.Mem })
through e (gives a) m = answer (record { value = a; below = m })
through e (asks c k) m = then' (e.does c m) (λ x. through e (k x.reply) x.mem)

-- the machine of a layer on a machine
abbrev pub over : {C R C' R' : Type 0} → Machine C R → Layer C R C' R' → Machine C' R'
over {C} {R} {C'} {R'} e l =
    record {
      Mem = record { below : e.Mem; above : l.Mem };
      opens = λ size. then' (e.opens size) (λ m. then' (through e (l.comes_up size) m) (λ x. answer (record { below = x.below; above = x.value })));
      does = λ c m. then' (through e (l.answers c m.above) m.below) (λ x. answer (record { reply = x.value.reply; mem = record { below = x.below; above = x.value.mem } }));
    }

-- what a plan may come to, if all that it asks is answered as a judge allows; and where it may be cut
pub data Comes {C R A : Type 0} (j : Judge C R) : Plan C R A → j.State → A → j.State → Type 0 where
  ends : {a : A} {s : j.State} → Comes j (gives a) s a s
  goes_on : {c : C} {k : R → Plan C R A} {r : R} {a : A} {s t u : j.State} → j.Answers c s r t → Comes j (k r) t a u → Comes j (asks c k) s a u

pub data CutShort {C R A : Type 0} (j : Judge C R) : Plan C R A → j.State → j.State → Type 0 where
  at_once : {p : Plan C R A} {s u : j.State} → j.Down s u → CutShort j p s u
  in_call : {c : C} {k : R → Plan C R A} {r : R} {s t u : j.State} → j.Answers c s r t → j.Down t u → CutShort j (asks c k) s u
  later : {c : C} {k : R → Plan C R A} {r : R} {s t u : j.State} → j.Answers c s r t → CutShort j (k r) t u → CutShort j (asks c k) s u

pub data Stand {C R C' R' : Type 0} (j : Judge C R) (l : Layer C R C' R') : Type 0 where
  down : j.State → Stand j l
  up : l.Mem → j.State → Stand j l

-- whatever can happen to a layer above a part that keeps to its judge
pub data Above {C R C' R' : Type 0} (j : Judge C R) (l : Layer C R C' R') (size : ℕ) : List (Event C' R') → Stand j l → Type 0 where
  first : Above j l size [] (down j.start)
  rises : {es : List (Event C' R')} {m : l.Mem} {s t : j.State} → Above j l size es (down s) → Comes j (l.comes_up size) s m t → Above j l size es (up m t)
  rise_cut : {es : List (Event C' R')} {s u : j.State} → Above j l size es (down s) → CutShort j (l.comes_up size) s u → Above j l size (cut_opening ∷ es) (down u)
  does : {es : List (Event C' R')} {m : l.Mem} {s t : j.State} (c : C') (x : record { reply : R'; mem : l.Mem }) → Above j l size es (up m s) → Comes j (l.answers c m) s x t → Above j l size (called c x.reply ∷ es) (up x.mem t)
  does_cut : {es : List (Event C' R')} {m : l.Mem} {s u : j.State} (c : C') → Above j l size es (up m s) → CutShort j (l.answers c m) s u → Above j l size (cut_in c ∷ es) (down u)
  cut : {es : List (Event C' R')} {m : l.Mem} {s u : j.State} → Above j l size es (up m s) → j.Down s u → Above j l size (cut_between ∷ es) (down u)

abbrev pub KeepsAbove : {C R C' R' : Type 0} → (ℕ → Judge C R) → (ℕ → Judge C' R') → Layer C R C' R' → Type 0
KeepsAbove {C} {R} {C'} {R'} j j' l =
    (size : ℕ) → 4096 ≤ size → size ≤ 1099511627776 → (es : List (Event C' R')) (w : Stand (j size) l) → Above (j size) l size es w → (s : (j' size).State) × Allowed (j' size) es s

-- LAYERS COMPOSE: a layer that is right above a judge is right above every machine that keeps to it.
abbrev pub LayersCompose : Type 1
LayersCompose =
    (C R C' R' : Type 0) (j : ℕ → Judge C R) (j' : ℕ → Judge C' R') (e : Machine C R) (l : Layer C R C' R') → Keeps j e → KeepsAbove j j' l → Keeps j' (over e l)

abbrev pub WithinOver : Type 1
WithinOver = (C R C' R' : Type 0) (e : Machine C R) (l : Layer C R C' R') → Within e → Within (over e l)
