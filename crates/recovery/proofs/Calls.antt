-- Calls on a journal that is on: what each answers and leaves, and what is left where it is cut.
use Rattle.std.proofs.Common.{◌≡◌, ℕ, ◌+◌, ◌<◌, ◌≤◌, Bool, true, false, cond, ◌&&◌, T, ltb, leb, ◌⊎◌, List, length, refl, ap, ◌∙◌, subst, inl, inr, arith, ltb-true, leb-true, Ok, Err}
use Rattle.disks.specs.Device.{Device, Io, answer, read, sync, run, Ran, Upto, here, reads, syncs, synced, then', AfterCut}
use Rattle.compose.proofs.Compose.{run_then, upto_then, upto_map}
use Rattle.journal.specs.Format.{most_writes}
use Rattle.journal.specs.Programs.{base, in_area, all_in_area, apart, allowed, write_all_io, record_of, transact_io, put_io, Put', get_io, after_put}
use Rattle.recovery.specs.Machines.{last, whole_sectors}
use Rattle.journal.specs.declared.Place.{Place}
use Rattle.journal.specs.declared.state.Write.{Write}
use Rattle.journal.specs.declared.state.Journal.{Journal}
use Rattle.journal.specs.declared.state.Refused.TheVariants.{OutOfRange, NumbersUsedUp}
use Rattle.recovery.proofs.Writing.{all_upto}
use Rattle.recovery.proofs.Inv.{Off, On}
use Rattle.recovery.proofs.Cutting.{rest-cut, record_cut, placed, put_on}
use Rattle.octets.proofs.Numbers.{both}
use Rattle.recovery.proofs.Tests.{is_so}

pub record Fine (size : ℕ) (ws : List Write) : Type 0 where
  pub one : 1 ≤ length ws
  pub few : length ws ≤ most_writes
  pub area : T (all_in_area size ws)

pub fine : (size : ℕ) (ws : List Write) → T (allowed size ws) → Fine size ws
fine size ws t =
    let a = both ((leb 1 (length ws) && leb (length ws) most_writes) && all_in_area size ws) (apart ws) t in
    let b = both (leb 1 (length ws) && leb (length ws) most_writes) (all_in_area size ws) a.0 in
    let c = both (leb 1 (length ws)) (leb (length ws) most_writes) b.0 in
    record { one = leb-true 1 (length ws) (is_so (leb 1 (length ws)) c.0); few = leb-true (length ws) most_writes (is_so (leb (length ws) most_writes) c.1); area = b.1 }

module _ (size n : ℕ) (array : ℕ → List ℕ) (j : Journal) (d : Device) (on : On size n array j d) where
  -- GET
  pub get_run : (p : Place) → T (in_area size p.0) → run (get_io j p) d ≡ record { value = Ok (array p.0); device = d }
  unfolding get_io run
  get_run p t =
      let e : in_area j.size p.0 ≡ true = ap (λ (z : ℕ). in_area z p.0) on.safe.size_is ∙ is_so (in_area size p.0) t in
      rw e (ap (λ (b : List ℕ). record { value = Ok b; device = d }) (on.shows p.0 t))

  pub get_refused : (p : Place) → in_area size p.0 ≡ false → run (get_io j p) d ≡ record { value = Err OutOfRange; device = d }
  unfolding get_io run
  get_refused p t =
      let e : in_area j.size p.0 ≡ false = ap (λ (z : ℕ). in_area z p.0) on.safe.size_is ∙ t in
      rw e

  pub get_upto : (p : Place) (e : Device) → Upto (get_io j p) d e → e ≡ d
  unfolding get_io
  get_upto p e u = go (in_area j.size p.0) e u
    where
      go : (b : Bool) (e : Device) → Upto (cond b (read p.0 (λ b. answer (Ok b))) (answer (Err OutOfRange))) d e → e ≡ d
      go true e here = refl
      go true e (reads here) = refl
      go false e here = refl

  -- PUT
  module _ (fits : size ≤ 1099511627776) (ws : List Write) (sectors : T (whole_sectors ws)) where
    pub put_refused : allowed size ws ≡ false → run (put_io j ws) d ≡ record { value = record { outcome = Err OutOfRange; journal = j }; device = d }
    unfolding put_io run
    put_refused t =
        let e : allowed j.size ws ≡ false = ap (λ (z : ℕ). allowed z ws) on.safe.size_is ∙ t in
        rw e

    is_allowed : T (allowed size ws) → allowed j.size ws ≡ true
    is_allowed t = ap (λ (z : ℕ). allowed z ws) on.safe.size_is ∙ is_so (allowed size ws) t

    pub put-used-up : T (allowed size ws) → ltb j.next 4611686018427387904 ≡ false → run (put_io j ws) d ≡ record { value = record { outcome = Err NumbersUsedUp; journal = j }; device = d }
    unfolding put_io run
    put-used-up t l = rw (is_allowed t, l)

    -- the transaction
    module _ (t : T (allowed size ws)) (l : ltb j.next 4611686018427387904 ≡ true) where
      left : j.next < 4611686018427387904
      left = ltb-true j.next 4611686018427387904 l

      abbrev recorded : Device
      recorded = synced (run (write_all_io (record_of (base j.slot) j.next ws)) d).device

      transact_run : run (transact_io j ws) d ≡ run (write_all_io ws) recorded
      unfolding transact_io run
      transact_run = run_then (write_all_io (record_of (base j.slot) j.next ws)) (λ _. sync (write_all_io ws)) d

      put_is : put_io j ws ≡ then' (transact_io j ws) (λ _. answer (record { outcome = Ok tt; journal = after_put j }))
      unfolding put_io
      put_is = rw (is_allowed t, l)

      pub put_run : run (put_io j ws) d ≡ record { value = record { outcome = Ok tt; journal = after_put j }; device = (run (write_all_io ws) recorded).device }
      unfolding run
      put_run =
          ap (λ (p : Io Put'). run p d) put_is ∙ run_then (transact_io j ws) (λ _. answer (record { outcome = Ok tt; journal = after_put j })) d
          ∙ ap (λ (r : Ran (Unit {0})). record { value = record { outcome = Ok tt; journal = after_put j }; device = r.device }) transact_run

      pub put-after : On size (n + 1) (λ s. last ws (array s) s) (after_put j) (run (write_all_io ws) recorded).device
      put-after = let f = fine size ws t in put_on size n array j d on.safe on.shows ws f.one f.few f.area sectors fits left

      pub put-cut : (e f : Device) → Upto (put_io j ws) d e → AfterCut e f → Off size (n + 1) array f ⊎ Off size (n + 1) (λ s. last ws (array s) s) f
      unfolding transact_io
      put-cut e f u c = by (upto_map (transact_io j ws) (λ _. record { outcome = Ok tt; journal = after_put j }) d e (subst (λ (p : Io Put'). Upto p d e) put_is u))
        where
          x : Fine size ws
          x = fine size ws t

          behind : (y z : Device) → AfterCut z f → Upto (sync (write_all_io ws)) (run (write_all_io (record_of (base j.slot) j.next ws)) d).device z → Off size (n + 1) array f ⊎ Off size (n + 1) (λ s. last ws (array s) s) f
          behind y z c here = record_cut size n array j d on.safe on.shows ws x.one x.few x.area sectors fits left z f (all_upto (record_of (base j.slot) j.next ws) d) c
          behind y z c (syncs v) = inr (rest-cut size (n + 1) (n + 1) (λ s. last ws (array s) s) (after_put j) z f (omega arith) (placed size n array j d on.safe on.shows ws x.one x.few x.area sectors fits left z v) c)

          by : Upto (transact_io j ws) d e → Off size (n + 1) array f ⊎ Off size (n + 1) (λ s. last ws (array s) s) f
          by v =
              elim (upto_then (write_all_io (record_of (base j.slot) j.next ws)) (λ _. sync (write_all_io ws)) d e v) [
                | inl w ↦ record_cut size n array j d on.safe on.shows ws x.one x.few x.area sectors fits left e f w c
                | inr w ↦ behind e e c w
              ]

    -- refused: nothing is touched
    pub put-still : (T (allowed size ws && ltb j.next 4611686018427387904) → ⊥) → (e : Device) → Upto (put_io j ws) d e → e ≡ d
    unfolding put_io
    put-still no' e u = go (allowed j.size ws) (ltb j.next 4611686018427387904) (ap (λ (z : ℕ). allowed z ws) on.safe.size_is) refl e u
      where
        go : (a b : Bool) → a ≡ allowed size ws → b ≡ ltb j.next 4611686018427387904 → (e : Device) →
            Upto {A = Put'} (cond a (cond b (then' (transact_io j ws) (λ _. answer (record { outcome = Ok tt; journal = after_put j }))) (answer (record { outcome = Err NumbersUsedUp; journal = j }))) (answer (record { outcome = Err OutOfRange; journal = j }))) d e → e ≡ d
        go true true p q e u = absurd (no' (subst (λ (z : Bool). T (z && ltb j.next 4611686018427387904)) p (subst T q tt)))
        go true false p q e here = refl
        go false b p q e here = refl
