-- What is left of a program that goes through a list or a slot, at each turn of the code's loop.
-- X-more: one turn, and what is left then; X-all: nothing is left.
use Rattle.std.proofs.Common.{◌≡◌, ℕ, suc, Bool, true, false, cond, ltb, ◌+◌, ◌-◌, ◌*◌, ◌/◌, ◌%◌, ◌<◌, ◌≤◌, List, ◌++◌, length, get_or, take, drop, Ok, Result, sym, refl, subst, arith}
use Rattle.std.proofs.lemmas.List.{drop_more, drop_all}
use Rattle.disks.specs.Device.{Io, answer, read, write, then'}
use Rattle.journal.specs.Format.{slot_sectors, part_bytes, part_of, half_of}
use Rattle.journal.specs.Programs.{no_write, write_all_io, record_sector, record_from, scan_from, replay_from, Opened, ready, redo_io, recover_io, in_order}
use Rattle.journal.specs.Scans.{Scanned, scan_on, number_or_none}
use Rattle.journal.specs.declared.scan.Scan.{Scan}
use Rattle.journal.specs.declared.state.Write.{Write}
use Rattle.journal.specs.declared.state.InOrder.{InOrder}
use Rattle.journal.specs.declared.state.Slot.TheVariants.{First, Second}
use Rattle.device.specs.Does.{Act, Does, ends}

-- the writes of a list from the i-th on
pub write_more : {S E : Type 0} {did : S → Act → S → Type 0} (ws : List Write) (i : ℕ) {r : Result (Unit {0}) E} {s t : S} → i < length ws →
    Does did (write (get_or ws i no_write).target.0 (get_or ws i no_write).bytes (write_all_io (drop (i + 1) ws))) s r t → Does did (write_all_io (drop i ws)) s r t
unfolding write_all_io
write_more {did} ws i {r} {s} {t} l h = subst (λ (x : List Write). Does did (write_all_io x) s r t) (sym (drop_more ws i no_write l)) h

pub write_all : {S E : Type 0} {did : S → Act → S → Type 0} (ws : List Write) (i : ℕ) {s : S} → length ws ≤ i → Does {E = E} did (write_all_io (drop i ws)) s (Ok tt) s
unfolding write_all_io
write_all {E} {did} ws i {s} l = subst (λ (x : List Write). Does {E = E} did (write_all_io x) s (Ok tt) s) (sym (drop_all i ws l)) ends

-- the record of the writes from the i-th on: each has two sectors
first-sector : (number : ℕ) (ws : List Write) (i : ℕ) →
    record_sector number ws (2 * i) ≡ part_bytes (record { number = number; index = 2 * i; length = 2 * length ws; target = (get_or ws i no_write).target }) (take 256 (get_or ws i no_write).bytes)
unfolding record_sector
first-sector number ws i =
    let h : (2 * i) / 2 ≡ i = omega arith in
    let m : (2 * i) % 2 ≡ 0 = omega arith in
    rw (h, m) refl

second-sector : (number : ℕ) (ws : List Write) (i : ℕ) →
    record_sector number ws (2 * i + 1) ≡ part_bytes (record { number = number; index = 2 * i + 1; length = 2 * length ws; target = (get_or ws i no_write).target }) (drop 256 (get_or ws i no_write).bytes)
unfolding record_sector
second-sector number ws i =
    let h : (2 * i + 1) / 2 ≡ i = omega arith in
    let m : (2 * i + 1) % 2 ≡ 1 = omega arith in
    rw (h, m) refl

pub record_more : {S E : Type 0} {did : S → Act → S → Type 0} (at number : ℕ) (ws : List Write) (i : ℕ) {r : Result (Unit {0}) E} {s t : S} → i < length ws →
    Does did
    (write (at + 2 * i) (part_bytes (record { number = number; index = 2 * i; length = 2 * length ws; target = (get_or ws i no_write).target }) (take 256 (get_or ws i no_write).bytes))
    (write (at + (2 * i + 1)) (part_bytes (record { number = number; index = 2 * i + 1; length = 2 * length ws; target = (get_or ws i no_write).target }) (drop 256 (get_or ws i no_write).bytes))
    (write_all_io (record_from at number ws (2 * (i + 1)) (2 * (length ws - (i + 1))))))) s r t →
    Does did (write_all_io (record_from at number ws (2 * i) (2 * (length ws - i)))) s r t
unfolding write_all_io record_from
record_more at number ws i l h =
    let n : 2 * (length ws - i) ≡ suc (suc (2 * (length ws - (i + 1)))) = omega arith in
    let j : 2 * i + 1 + 1 ≡ 2 * (i + 1) = omega arith in
    rw (n, j, first-sector number ws i, second-sector number ws i) h

pub record_all : {S E : Type 0} {did : S → Act → S → Type 0} (at number : ℕ) (ws : List Write) (i : ℕ) {s : S} → length ws ≤ i →
    Does {E = E} did (write_all_io (record_from at number ws (2 * i) (2 * (length ws - i)))) s (Ok tt) s
unfolding write_all_io record_from
record_all at number ws i l = let n : 2 * (length ws - i) ≡ 0 = omega arith in rw n ends

pub ruleset writing = (write_more, write_all, record_more, record_all)

-- a slot's sectors from the i-th on
pub scan_more : {S E : Type 0} {did : S → Act → S → Type 0} (size at i : ℕ) (a : Scanned) {r : Result Scanned E} {s t : S} → i < slot_sectors →
    Does did (read (at + i) (λ b. scan_from size at (i + 1) (slot_sectors - (i + 1)) (scan_on size i b a))) s r t → Does did (scan_from size at i (slot_sectors - i) a) s r t
unfolding scan_from
scan_more size at i a l h = let n : slot_sectors - i ≡ suc (slot_sectors - (i + 1)) = omega arith in rw n h

pub scan_all : {S E : Type 0} {did : S → Act → S → Type 0} (size at i : ℕ) (a : Scanned) {s : S} → slot_sectors ≤ i → Does {E = E} did (scan_from size at i (slot_sectors - i) a) s (Ok a) s
unfolding scan_from
scan_all size at i a l = let n : slot_sectors - i ≡ 0 = omega arith in rw n ends

-- the code's slot and first knowledge are the program's by equations
pub scan_as : {S E : Type 0} {did : S → Act → S → Type 0} (size i k : ℕ) {at at' : ℕ} {a a' : Scanned} {r : Result Scanned E} {s t : S} → at ≡ at' → a ≡ a' →
    Does did (scan_from size at i k a) s r t → Does did (scan_from size at' i k a') s r t
scan_as {did} size i k {at} {a'} {r} {s} {t} e f h =
    subst (λ (x : ℕ). Does did (scan_from size x i k a') s r t) e (subst (λ (x : Scanned). Does did (scan_from size at i k x) s r t) f h)

pub ruleset scanning = (scan_more, scan_all, scan_as)

-- a record's writes from the i-th on
pub replay_more : {S E : Type 0} {did : S → Act → S → Type 0} (at i count : ℕ) {r : Result (Unit {0}) E} {s t : S} → i < count →
    Does did (read (at + 2 * i) (λ a. read (at + (2 * i + 1)) (λ b. write (part_of a).target.0 (half_of a ++ half_of b) (replay_from at (i + 1) (count - (i + 1)))))) s r t →
    Does did (replay_from at i (count - i)) s r t
unfolding replay_from
replay_more at i count l h = let n : count - i ≡ suc (count - (i + 1)) = omega arith in rw n h

pub replay_all : {S E : Type 0} {did : S → Act → S → Type 0} (at i count : ℕ) {s : S} → count ≤ i → Does {E = E} did (replay_from at i (count - i)) s (Ok tt) s
unfolding replay_from
replay_all at i count l = let n : count - i ≡ 0 = omega arith in rw n ends

pub ruleset replaying = (replay_more, replay_all)

-- both records, in the order that the code found first
pub redo_in_order : {S E : Type 0} {did : S → Act → S → Type 0} (size : ℕ) (a b : Scan) (o : InOrder) {r : Result Opened E} {s t : S} → o ≡ in_order a b →
    Does did (then' (redo_io o.older o.a o.b) (λ _. answer (Ok (ready size o.older o.a o.b)))) s r t →
    Does did (recover_io size (Ok a) (Ok b)) s r t
unfolding recover_io
redo_in_order {E} {did} size a b o {r} {s} {t} e h = go (ltb (number_or_none b) (number_or_none a)) (subst (λ (o : InOrder). Does {E = E} did (after o) s r t) e h)
  where
    after : InOrder → Io Opened
    after o = then' (redo_io o.older o.a o.b) (λ _. answer (Ok (ready size o.older o.a o.b)))

    go : (x : Bool) → Does {E = E} did (after (cond x (record { older = Second; a = b; b = a }) (record { older = First; a = a; b = b }))) s r t →
        Does did (cond x (then' (redo_io Second b a) (λ _. answer (Ok (ready size Second b a)))) (then' (redo_io First a b) (λ _. answer (Ok (ready size First a b))))) s r t
    go true h = h
    go false h = h
