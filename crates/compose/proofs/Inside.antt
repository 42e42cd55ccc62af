use Rattle.std.specs.Prelude.{ℕ}
use mathlib.Core.List.{List, ◌∷◌}
use Rattle.std.proofs.Common.{le_trans, lit≤}
use Rattle.disks.specs.Device.{Device, Io, answer, read, write, sync, run, Fair, Machine, Event, called, off, on, Trace, opened, answered, Judge, Plan, gives, asks, then', through, WithinOver, shown, written, synced}
use Rattle.compose.specs.Inside.{HousesWithin}
use Rattle.compose.proofs.Compose.{sim}
use Rattle.compose.proofs.Houses

pub fair_then : {A B : Type 0} (size : ℕ) (p : Io A) (f : A → Io B) (d : Device) → Fair size p d → Fair size (f (run p d).value) (run p d).device → Fair size (then' p f) d
unfolding run then'
fair_then size (answer a) f d x y = y
fair_then size (read s k) f d (Fair.reads lt x) y = Fair.reads lt (fair_then size (k (shown d s)) f d x y)
fair_then size (write s b p) f d (Fair.writes lt l t x) y = Fair.writes lt l t (fair_then size p f (written s b d) x y)
fair_then size (sync p) f d (Fair.syncs x) y = Fair.syncs (fair_then size p f (synced d) x y)

-- any judge does
anything : (C R : Type 0) → Judge C R
anything C R = record { State = Unit {0}; start = tt; Answers = λ c s r t. Unit {0}; Down = λ s t. Unit {0} }

module _ {C R : Type 0} (e : Machine C R) (size : ℕ) (opens : (es : List (Event C R)) (d : Device) → Trace e size es (off d) → Fair size (e.opens size) d) (does : (es : List (Event C R)) (m : e.Mem) (d : Device) → Trace e size es (on m d) → (c : C) → Fair size (e.does c m) d) where
  fair_plan : {A B : Type 0} (p : Plan C R A) (f : record { value : A; below : e.Mem } → B) (m : e.Mem) (d : Device) (gs : List (Event C R)) → Trace e size gs (on m d) → Fair size (then' (through e p m) (λ x. answer (f x))) d
  unfolding through
  fair_plan p f m d gs tr = fair_then size (through e p m) (λ x. answer (f x)) d (plan p m d gs tr) (Fair.ends _ _)
    where
      plan : {A : Type 0} (p : Plan C R A) (m : e.Mem) (d : Device) (gs : List (Event C R)) → Trace e size gs (on m d) → Fair size (through e p m) d
      plan (gives a) m d gs tr = Fair.ends _ _
      plan (asks c k) m d gs tr = fair_then size (e.does c m) _ d (does gs m d tr c) (plan (k (run (e.does c m) d).value.reply) _ _ (called c (run (e.does c m) d).value.reply ∷ gs) (answered c tr))

  fair_opening : {A B : Type 0} (p : Plan C R A) (f : record { value : A; below : e.Mem } → B) (d : Device) (gs : List (Event C R)) → Trace e size gs (off d) → Fair size (then' (e.opens size) (λ m. then' (through e p m) (λ x. answer (f x)))) d
  fair_opening p f d gs tr = fair_then size (e.opens size) _ d (opens gs d tr) (fair_plan p f _ _ gs (opened tr))

pub within-over : WithinOver
within-over C R C' R' e l within size lo hi =
    let (opens, does) = within size lo hi in (
      (λ es d tr. let (gs, tr', x) = sim (anything C R) e l size tr in fair_opening e size opens does (l.comes_up size) _ d gs tr'),
      λ es m d tr c. let (gs, tr', x) = sim (anything C R) e l size tr in fair_plan e size opens does (l.answers c m.above) _ m.below d gs tr',
    )

pub houses_within : HousesWithin
houses_within C R M O Q e h within all size a b lo hi n es w lt tr i il =
    let (gs, trs, back) = Houses.sim (λ k. anything C R) e h all size tr in
    let (opens, does) = within size (le_trans (lit≤ tt) lo) hi in (
      (λ d was. fair_opening e size opens does (h.opens i all size) _ d (gs i) (rw was at (trs i))),
      λ m d x was. fair_plan e size opens does (h.does x m.above) _ m.below d (gs i) (rw was at (trs i)),
    )
