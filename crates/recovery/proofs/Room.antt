-- A device with room for the journal is opened by its slots. One that is too small is refused, and nothing is asked of it.
use Rattle.std.proofs.Common.{◌≡◌, ℕ, ◌<◌, ◌≤◌, List, ◌∷◌, sym, refl, ap, subst, le-leb, Err}
use Rattle.std.proofs.lemmas.Bool.{lt-leb}
use Rattle.disks.specs.Device.{Device, zeros, Io, answer, run, Ran, Fair, Event, called, World, off, on, Trace, begin, opened, opening_cut, answered, call_cut, between_cut, Allowed, at_start, was_lost, came_between, came_opening}
use Rattle.journal.specs.Format.{guarded, foreign}
use Rattle.journal.specs.Programs.{slots_io, open_io, Opened}
use Rattle.recovery.specs.Machines.{Call, Get, Put, Reply, No, call_io, journal, Array, later, too_small, falls, array}

pub open_large : (size : ℕ) → guarded ≤ size → open_io size ≡ slots_io size
unfolding open_io
open_large size l = rw (le-leb guarded size l)

pub open_small : (size : ℕ) → size < guarded → open_io size ≡ answer (Err foreign)
unfolding open_io
open_small size l = rw (lt-leb guarded size l)

-- TOO SMALL: every call is refused
abbrev Step : Type 0
Step = record { reply : Reply; mem : Opened }

refuses : (c : Call) → call_io c (Err foreign) ≡ answer (record { reply = No 16; mem = Err foreign })
unfolding call_io
refuses (Get p) = refl
refuses (Put ws) = refl

module _ (size : ℕ) (small : size < guarded) where
  abbrev pub Refused : World journal → Type 0
  Refused (off d) = Unit {0}
  Refused (on m d) = m ≡ Err foreign

  abbrev pub Kept : List (Event Call Reply) → World journal → Type 0
  Kept es w = (a : Array) × Allowed (array size) es a × Refused w

  opened_small : (d : Device) → (run (open_io size) d).value ≡ Err foreign
  unfolding run
  opened_small d = ap (λ (p : Io Opened). (run p d).value) (open_small size small)

  stepped : (c : Call) (d : Device) → run (call_io c (Err foreign)) d ≡ record { value = record { reply = No 16; mem = Err foreign }; device = d }
  unfolding run
  stepped c d = ap (λ (p : Io Step). run p d) (refuses c)

  pub kept : {es : List (Event Call Reply)} {w : World journal} → Trace journal size es w → Kept es w
  kept begin = (record { sector = λ s. zeros 512; steps = 0 }, at_start, tt)
  kept (opened {es} {d} tr) = let (a, al, u) = kept tr in (a, al, opened_small d)
  kept (opening_cut tr up cut) = let (a, al, u) = kept tr in (later a, came_opening al (falls a), tt)
  kept (answered {es} {m} {d} c tr) = called_on m (kept tr)
    where
      called_on : (m : Opened) → (a : Array) × Allowed (array size) es a × (m ≡ Err foreign) → Kept (called c (run (call_io c m) d).value.reply ∷ es) (on (run (call_io c m) d).value.mem (run (call_io c m) d).device)
      called_on m (a, al, e) =
          subst (λ (x : Opened). Kept (called c (run (call_io c x) d).value.reply ∷ es) (on (run (call_io c x) d).value.mem (run (call_io c x) d).device)) (sym e)
          (subst (λ (r : Ran Step). Kept (called c r.value.reply ∷ es) (on r.value.mem r.device)) (sym (stepped c d)) (later a, Allowed.answers al (too_small c a small), refl))
  kept (call_cut c tr up cut) = let (a, al, e) = kept tr in (later a, was_lost al (falls a), tt)
  kept (between_cut tr cut) = let (a, al, e) = kept tr in (later a, came_between al (falls a), tt)

  -- and it touches nothing
  pub fair_open_small : (d : Device) → Fair size (open_io size) d
  fair_open_small d = subst (λ (p : Io Opened). Fair size p d) (sym (open_small size small)) (Fair.ends _ _)

  pub fair_call_small : (c : Call) (m : Opened) (d : Device) → m ≡ Err foreign → Fair size (call_io c m) d
  fair_call_small c m d e = subst (λ (x : Opened). Fair size (call_io c x) d) (sym e) (subst (λ (p : Io Step). Fair size p d) (sym (refuses c)) (Fair.ends _ _))
