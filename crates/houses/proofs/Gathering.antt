-- What is left to be read, at each turn of the code's loop.
-- X-more: one turn, and what is left then; X-all: nothing is left.
use Rattle.std.proofs.Common.{◌≡◌, ℕ, suc, ◌+◌, ◌-◌, ◌<◌, ◌≤◌, List, length, get_or, drop, Ok, Err, Result, sym, subst, arith}
use Rattle.std.proofs.lemmas.List.{drop_more, drop_all}
use Rattle.disks.specs.Device.{then'}
use Rattle.journal.specs.declared.Place.{Place}
use Rattle.device.specs.Does.{Act, broke, Does, ends, stops, giving, read_io}
use Rattle.device.proofs.Steps.{after_read}
use Rattle.houses.specs.Gathers.{gather_io, gathers, places_from, the_places}

abbrev pub no_place : Place
no_place = record { 0 = 0 }

pub all_more : {S E : Type 0} {did : S → Act → S → Type 0} (ps : List Place) (i : ℕ) (acc : List (List ℕ)) {r : Result (List (List ℕ)) E} {s t : S} → i < length ps →
    Does did (then' (gather_io (get_or ps i no_place).0 acc) (gathers (the_places (drop (i + 1) ps)))) s r t → Does did (gathers (the_places (drop i ps)) acc) s r t
unfolding gathers
all_more {did} ps i acc {r} {s} {t} l h = subst (λ (x : List Place). Does did (gathers (the_places x) acc) s r t) (sym (drop_more ps i no_place l)) h

pub all_all : {S E : Type 0} {did : S → Act → S → Type 0} (ps : List Place) (i : ℕ) (acc : List (List ℕ)) {s : S} → length ps ≤ i → Does {E = E} did (gathers (the_places (drop i ps)) acc) s (Ok acc) s
unfolding gathers
all_all {E} {did} ps i acc {s} l = subst (λ (x : List Place). Does {E = E} did (gathers (the_places x) acc) s (Ok acc) s) (sym (drop_all i ps l)) ends

pub range_more : {S E : Type 0} {did : S → Act → S → Type 0} (first count i : ℕ) (acc : List (List ℕ)) {r : Result (List (List ℕ)) E} {s t : S} → i < count →
    Does did (then' (gather_io (first + i) acc) (gathers (places_from (first + (i + 1)) (count - (i + 1))))) s r t → Does did (gathers (places_from (first + i) (count - i)) acc) s r t
unfolding gathers places_from
range_more first count i acc l h =
    let n : count - i ≡ suc (count - (i + 1)) = omega arith in
    let j : first + i + 1 ≡ first + (i + 1) = omega arith in
    rw (n, j) h

pub range_all : {S E : Type 0} {did : S → Act → S → Type 0} (first count i : ℕ) (acc : List (List ℕ)) {s : S} → count ≤ i → Does {E = E} did (gathers (places_from (first + i) (count - i)) acc) s (Ok acc) s
unfolding gathers places_from
range_all first count i acc l = let n : count - i ≡ 0 = omega arith in rw n ends

-- the sector was read, and then the code gave up
pub read_cut : {S E A F : Type 0} {did : S → Act → S → Type 0} (n : ℕ) (acc : List (List ℕ)) (q : Result A F) (b : List ℕ) {a : A} {e : E} {s m t : S} → q ≡ Ok a →
    Does {E = F} did (read_io n) s (giving q b) m → did m broke t → Does did (gather_io n acc) s (Err e) t
read_cut {F} {did} n acc q b {s} {m} i h d = after_read (subst (λ x. Does {E = F} did (read_io n) s (giving x b) m) i h) (stops d)

pub ruleset gathering = (all_more, all_all, range_more, range_all)
