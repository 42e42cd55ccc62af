-- How what code did is put together from what its calls did.
-- after-X: the request X was answered, and the rest of the program is done; cut-X: it failed.
use Rattle.std.proofs.Common.{◌≡◌, ℕ, Bool, true, false, cond, eqb, List, is_err, Ok, Err, Result, subst, eq-eqb, ne_eqb}
use mathlib.Core.Bool.{false≢true}
use Rattle.disks.specs.Device.{Io, answer, read, write, sync, then'}
use Rattle.device.specs.Does.{Act, gave, took, settled, broke, Does, ends, stops, idles, reads, writes, syncs, Cut, over, giving, read_io, write_io, sync_io}

-- a program that ended well, and then another
pub after_call : {S E F A B : Type 0} {did : S → Act → S → Type 0} (p : Io A) (f : A → Io B) {a : A} {r : Result B E} {s m t : S} →
    Does {E = F} did p s (Ok a) m → Does did (f a) m r t → Does did (then' p f) s r t
unfolding then'
after_call p f ends h = h
after_call p f (idles d i) h = idles d (after_call p f i h)
after_call (read n k) f (reads {b} d i) h = reads d (after_call (k b) f i h)
after_call (write n b p) f (writes d i) h = writes d (after_call p f i h)
after_call (sync p) f (syncs d i) h = syncs d (after_call p f i h)

-- a program that was cut in a call
pub cut-call : {S F A B : Type 0} {did : S → Act → S → Type 0} (p : Io A) (f : A → Io B) {d : F} {s t : S} →
    Does did p s (Err d) t → Cut did (then' p f) s t
unfolding then'
cut-call p f (stops d) = stops d
cut-call p f (idles d i) = idles d (cut-call p f i)
cut-call (read n k) f (reads {b} d i) = reads d (cut-call (k b) f i)
cut-call (write n b p) f (writes d i) = writes d (cut-call p f i)
cut-call (sync p) f (syncs d i) = syncs d (cut-call p f i)

-- the same where the call's program is written out
pub cut_in : {S A B : Type 0} {did : S → Act → S → Type 0} (p : Io A) (f : A → Io B) {s t : S} → Cut did p s t → Cut did (then' p f) s t
cut_in p f h = cut-call p f h

-- the code gave up where the program was cut
with_error : {S E A : Type 0} {did : S → Act → S → Type 0} {p : Io A} {e : E} {s t : S} → Cut did p s t → Does did p s (Err e) t
with_error (stops d) = stops d
with_error (idles d i) = idles d (with_error i)
with_error (reads d i) = reads d (with_error i)
with_error (writes d i) = writes d (with_error i)
with_error (syncs d i) = syncs d (with_error i)

pub failed : {S E A : Type 0} {did : S → Act → S → Type 0} {p : Io A} {r : Result A E} {s t : S} → is_err r ≡ true → Cut did p s t → Does did p s r t
failed {r = Err e} h i = with_error i
failed {r = Ok a} h i = elim (false≢true h) [ ]

pub over_err : {A B E : Type 0} (f : A → B) (r : Result A E) → is_err r ≡ true → is_err (over f r) ≡ true
over_err f (Ok a) h = h
over_err f (Err e) h = h

-- a read that failed gave nothing
pub giving_err : {A B E : Type 0} (r : Result A E) (b : B) → is_err r ≡ true → is_err (giving r b) ≡ true
giving_err (Ok a) b h = h
giving_err (Err e) b h = h

-- the program's answer is the code's
pub done : {S E A : Type 0} {did : S → Act → S → Type 0} {a b : A} {s : S} → a ≡ b → Does {E = E} did (answer a) s (Ok b) s
done {E} {did} {a} {s} e = subst (λ (x : _). Does {E = E} did (answer a) s (Ok x) s) e ends

-- one request, in programs that are written out
pub after_read : {S E F B : Type 0} {did : S → Act → S → Type 0} {n : ℕ} {k : List ℕ → Io B} {b : List ℕ} {r : Result B E} {s m t : S} →
    Does {E = F} did (read_io n) s (Ok b) m → Does did (k b) m r t → Does did (read n k) s r t
unfolding then'
after_read {n} {k} i h = after_call (read_io n) k i h

pub after_write : {S E F B : Type 0} {did : S → Act → S → Type 0} {n : ℕ} {b : List ℕ} {p : Io B} {u : Unit {0}} {r : Result B E} {s m t : S} →
    Does {E = F} did (write_io n b) s (Ok u) m → Does did p m r t → Does did (write n b p) s r t
unfolding then'
after_write {n} {b} {p} i h = after_call (write_io n b) (λ _. p) i h

pub after-sync : {S E F B : Type 0} {did : S → Act → S → Type 0} {p : Io B} {u : Unit {0}} {r : Result B E} {s m t : S} →
    Does {E = F} did sync_io s (Ok u) m → Does did p m r t → Does did (sync p) s r t
unfolding then'
after-sync {p} i h = after_call sync_io (λ _. p) i h

pub cut-read : {S F B : Type 0} {did : S → Act → S → Type 0} {n : ℕ} {k : List ℕ → Io B} {d : F} {s t : S} →
    Does did (read_io n) s (Err d) t → Cut did (read n k) s t
unfolding then'
cut-read {n} {k} i = cut-call (read_io n) k i

pub cut-write : {S F B : Type 0} {did : S → Act → S → Type 0} {n : ℕ} {b : List ℕ} {p : Io B} {d : F} {s t : S} →
    Does did (write_io n b) s (Err d) t → Cut did (write n b p) s t
unfolding then'
cut-write {n} {b} {p} i = cut-call (write_io n b) (λ _. p) i

pub cut-sync : {S F B : Type 0} {did : S → Act → S → Type 0} {p : Io B} {d : F} {s t : S} →
    Does did sync_io s (Err d) t → Cut did (sync p) s t
unfolding then'
cut-sync {p} i = cut-call sync_io (λ _. p) i

-- the same where the code's sector and bytes are the program's by an equation
pub after_read_as : {S E F B : Type 0} {did : S → Act → S → Type 0} {n n' : ℕ} {k : List ℕ → Io B} {b : List ℕ} {r : Result B E} {s m t : S} →
    Does {E = F} did (read_io n') s (Ok b) m → n' ≡ n → Does did (k b) m r t → Does did (read n k) s r t
after_read_as {F} {did} {b} {s} {m} i e h = after_read (subst (λ (x : ℕ). Does {E = F} did (read_io x) s (Ok b) m) e i) h

pub after_write_as : {S E F B : Type 0} {did : S → Act → S → Type 0} {n n' : ℕ} {b b' : List ℕ} {p : Io B} {u : Unit {0}} {r : Result B E} {s m t : S} →
    Does {E = F} did (write_io n' b') s (Ok u) m → n' ≡ n → b' ≡ b → Does did p m r t → Does did (write n b p) s r t
after_write_as {F} {did} {n'} {b} {u} {s} {m} i e f h =
    after_write (subst (λ (x : ℕ). Does {E = F} did (write_io x b) s (Ok u) m) e (subst (λ (x : List ℕ). Does {E = F} did (write_io n' x) s (Ok u) m) f i)) h

pub cut_read_as : {S F B : Type 0} {did : S → Act → S → Type 0} {n n' : ℕ} {k : List ℕ → Io B} {d : F} {s t : S} →
    Does did (read_io n') s (Err d) t → n' ≡ n → Cut did (read n k) s t
cut_read_as {did} {d} {s} {t} i e = cut-read (subst (λ (x : ℕ). Does did (read_io x) s (Err d) t) e i)

pub cut_write_as : {S F B : Type 0} {did : S → Act → S → Type 0} {n n' : ℕ} {b b' : List ℕ} {p : Io B} {d : F} {s t : S} →
    Does did (write_io n' b') s (Err d) t → n' ≡ n → b' ≡ b → Cut did (write n b p) s t
cut_write_as {did} {n'} {b} {d} {s} {t} i e f =
    cut-write (subst (λ (x : ℕ). Does did (write_io x b) s (Err d) t) e (subst (λ (x : List ℕ). Does did (write_io n' x) s (Err d) t) f i))

-- a program that branches on a test of numbers
pub if_eq : {S E B : Type 0} {did : S → Act → S → Type 0} (m n : ℕ) (p q : Io B) {r : Result B E} {s t : S} →
    m ≡ n → Does did p s r t → Does did (cond (eqb m n) p q) s r t
if_eq m n p q e h = rw (eq-eqb m n e) h

pub if_ne : {S E B : Type 0} {did : S → Act → S → Type 0} (m n : ℕ) (p q : Io B) {r : Result B E} {s t : S} →
    (m ≡ n → ⊥) → Does did q s r t → Does did (cond (eqb m n) p q) s r t
if_ne m n p q e h = rw (ne_eqb m n e) h

-- a program that branches on any test
pub if_true : {S E B : Type 0} {did : S → Act → S → Type 0} (b : Bool) (p q : Io B) {r : Result B E} {s t : S} →
    b ≡ true → Does did p s r t → Does did (cond b p q) s r t
if_true b p q e h = rw e h

pub if_false : {S E B : Type 0} {did : S → Act → S → Type 0} (b : Bool) (p q : Io B) {r : Result B E} {s t : S} →
    b ≡ false → Does did q s r t → Does did (cond b p q) s r t
if_false b p q e h = rw e h

pub ruleset does = (after_read, after_write, after-sync, after_call, cut-read, cut-write, cut-sync, cut-call, cut_in, failed, over_err, done, if_eq, if_ne, if_true, if_false, after_read_as, after_write_as, cut_read_as, cut_write_as)

-- for the author of a disk: what one request did
pub it_gave : {S E : Type 0} {did : S → Act → S → Type 0} {n : ℕ} {b : List ℕ} {s t : S} → did s (gave n b) t → Does {E = E} did (read_io n) s (Ok b) t
it_gave d = reads d ends

pub it_took : {S E : Type 0} {did : S → Act → S → Type 0} {n : ℕ} {b : List ℕ} {s t : S} → did s (took n b) t → Does {E = E} did (write_io n b) s (Ok tt) t
it_took d = writes d ends

pub it_settled : {S E : Type 0} {did : S → Act → S → Type 0} {s t : S} → did s settled t → Does {E = E} did sync_io s (Ok tt) t
it_settled d = syncs d ends

pub it_broke : {S E A : Type 0} {did : S → Act → S → Type 0} {p : Io A} {e : E} {s t : S} → did s broke t → Does did p s (Err e) t
it_broke d = stops d

pub ruleset disks = (it_gave, it_took, it_settled, it_broke)
