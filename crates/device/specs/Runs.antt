-- Code that does what a program does leaves a device as the program does.
use Rattle.std.specs.Prelude.{ℕ, List, Ok, Err, Result, refl}
use Rattle.std.proofs.Common.{subst}
use Rattle.disks.specs.Device.{Device, Io, read, write, sync, run, here, reads as upto-reads, writes as upto-writes, syncs as upto-syncs, shown, written, synced}
use Rattle.device.specs.Does.{Act, Does, ends, stops, idles, reads, writes, syncs}
use Rattle.device.specs.Tied.{Models, Outcome, DoesRuns}

upon_read : {S A E : Type 0} (holds : S → Device → Type 0) (n : ℕ) (k : List ℕ → Io A) (r : Result A E) (t : S) (d : Device) →
    Outcome holds (k (shown d n)) d r t → Outcome holds (read n k) d r t
unfolding run
upon_read holds n k (Ok v) t d o = o
upon_read holds n k (Err e) t d o = (o.0, upto-reads o.1, o.2)

upon_write : {S A E : Type 0} (holds : S → Device → Type 0) (n : ℕ) (b : List ℕ) (p : Io A) (r : Result A E) (t : S) (d : Device) →
    Outcome holds p (written n b d) r t → Outcome holds (write n b p) d r t
unfolding run
upon_write holds n b p (Ok v) t d o = o
upon_write holds n b p (Err e) t d o = (o.0, upto-writes o.1, o.2)

upon_sync : {S A E : Type 0} (holds : S → Device → Type 0) (p : Io A) (r : Result A E) (t : S) (d : Device) →
    Outcome holds p (synced d) r t → Outcome holds (sync p) d r t
unfolding run
upon_sync holds p (Ok v) t d o = o
upon_sync holds p (Err e) t d o = (o.0, upto-syncs o.1, o.2)

pub does_runs : {S A E : Type 0} {did : S → Act → S → Type 0} {holds : S → Device → Type 0} → Models did holds →
    {p : Io A} {s t : S} {r : Result A E} (d : Device) → Does did p s r t → holds s d → Outcome holds p d r t
unfolding run
does_runs m d ends h = (refl, h)
does_runs m d (stops {s} {t} i) h = (d, here, m.breaks s t d i h)
does_runs m d (idles {s} {m = u} i k) h = does_runs m d k (m.idles s u d i h)
does_runs {holds} m d (reads {n} {b} {k} {r} {s} {m = u} {t} i j) h =
    let g = m.gives s u n b d i h in
    upon_read holds n k r t d (subst (λ (x : List ℕ). Outcome holds (k x) d r t) g.0 (does_runs m d j g.1))
does_runs {holds} m d (writes {n} {b} {p} {r} {s} {m = u} {t} i j) h = upon_write holds n b p r t d (does_runs m (written n b d) j (m.takes s u n b d i h))
does_runs {holds} m d (syncs {p} {r} {s} {m = u} {t} i j) h = upon_sync holds p r t d (does_runs m (synced d) j (m.settles s u d i h))

pub all_run : DoesRuns
all_run S A E did holds m p s t r d i h = does_runs m d i h
