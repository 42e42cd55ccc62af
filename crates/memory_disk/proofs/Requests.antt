-- What one request does to the disk, from what its parts did.
use Rattle.std.proofs.Common.{◌≡◌, ℕ, ◌<◌, Bool, true, false, cond, eqb, ltb, ◌⊎◌, List, [], ◌∷◌, ◌++◌, vec_items, sym, refl, ap, ◌∙◌, subst, inl, inr, ltb-true, lt-ltb, eqb-true}
use Rattle.std.proofs.lemmas.Bool.{and_parts}
use mathlib.Core.List.{Memᴰ}
use Rattle.journal.specs.declared.state.Write.{Write}
use Rattle.disks.specs.Device.{Device, latest, written}
use Rattle.device.specs.Does.{gave, took, settled}
use Rattle.memory_disk.specs.Contents.{kept_at, shown_at, since_in, Settled, Lost}
use Rattle.memory_disk.specs.Disks.{device_of, Same, answers, Unmoved, Counted, Noted, Broke, MemoryDid, Cuts}
use Rattle.memory_disk.specs.declared.MemoryDisk.{MemoryDisk}
use Rattle.memory_disk.proofs.Logs.{since_one}
use Rattle.memory_disk.proofs.Ghosts.{settled_is}

unmoved_same : (s t : MemoryDisk) → Unmoved s t → Same (device_of t) (device_of s)
unmoved_same s t u n = (ap (λ x. kept_at x.written n) u.sectors, ap (λ x. since_in (vec_items x) n) u.log)

pub broke_noting : (s m u t : MemoryDisk) (within r : Bool) → Counted s within r m → Noted m (vec_items m.log) u → Broke u t → Broke s t
broke_noting s m u t within r k w b = record {
  left = b.left;
  size = b.size ∙ w.size ∙ k.rest.size;
  device = λ n. (
    (b.device n).0 ∙ w.kept n ∙ (unmoved_same s m k.rest n).0,
    (b.device n).1 ∙ ap (λ (xs : List Write). since_in xs n) w.log ∙ (unmoved_same s m k.rest n).1,
  );
}

pub it_gives : (s m : MemoryDisk) (n : ℕ) (b : List ℕ) → Counted s (ltb n s.size) true m → b ≡ shown_at m.sectors.written n → MemoryDid s (gave n b) m
it_gives s m n b k e =
    let q = and_parts (ltb n s.size) (answers s.left) (sym k.value) in
    let d = unmoved_same s m k.rest in (
      ltb-true n s.size q.0,
      e ∙ m.shows n ∙ ap (λ (x : List ℕ). latest x ((device_of m).since n)) (d n).0 ∙ ap (latest ((device_of s).kept n)) (d n).1,
      record { was = q.1; left = k.left; size = k.rest.size; device = d },
    )

pub it_takes : (s m t : MemoryDisk) (n : ℕ) (b : List ℕ) → Counted s (ltb n s.size) true m →
    Noted m (vec_items m.log ++ record { target = record { 0 = n }; bytes = b } ∷ []) t → MemoryDid s (took n b) t
it_takes s m t n b k w =
    let q = and_parts (ltb n s.size) (answers s.left) (sym k.value) in
    let d = unmoved_same s m k.rest in (
      ltb-true n s.size q.0,
      record { was = q.1; left = w.left ∙ k.left; size = w.size ∙ k.rest.size; device = λ j. (w.kept j ∙ (d j).0, since j) },
    )
  where
    since : (j : ℕ) → (device_of t).since j ≡ (written n b (device_of s)).since j
    since j =
        ap (λ (xs : List Write). since_in xs j) w.log ∙ since_one (vec_items m.log) (record { target = record { 0 = n }; bytes = b }) j ∙
        ap (λ (xs : List Write). cond (eqb j n) (b ∷ since_in xs j) (since_in xs j)) (ap vec_items k.rest.log) ∙ go (eqb j n) (eqb-true j n)
      where
        go : (c : Bool) → (c ≡ true → j ≡ n) → cond c (b ∷ (device_of s).since j) ((device_of s).since j) ≡ cond c (b ∷ (device_of s).since n) ((device_of s).since j)
        go true f = ap (λ (i : ℕ). b ∷ (device_of s).since i) (f refl)
        go false f = refl

pub it_settles : (s m t : MemoryDisk) (ws : List Write) → Counted s true true m → ws ≡ vec_items m.log → Settled ws m.sectors.written t.sectors.written →
    vec_items t.log ≡ [] → t.size ≡ m.size → t.left ≡ m.left → MemoryDid s settled t
it_settles s m t ws k e h l z f =
    let d = unmoved_same s m k.rest in
    let h' = subst (λ (xs : List Write). Settled xs m.sectors.written t.sectors.written) e h in
    record {
      was = sym k.value;
      left = f ∙ k.left;
      size = z ∙ k.rest.size;
      device = λ n. (
        settled_is m.sectors.written t.sectors.written (vec_items m.log) m.shows h' n ∙ ap (λ (x : List ℕ). latest x ((device_of m).since n)) (d n).0 ∙ ap (latest ((device_of s).kept n)) (d n).1,
        ap (λ (xs : List Write). since_in xs n) l,
      );
    }

-- what a cut leaves
left-device : MemoryDisk → Device → Device
left-device t d = record { kept = λ n. cond (ltb n t.size) (kept_at t.sectors.written n) (d.kept n); since = λ n. [] }

pub it_cuts : (s t : MemoryDisk) (ws : List Write) → ws ≡ vec_items s.log → Lost ws s.sectors.written t.sectors.written → vec_items t.log ≡ [] → t.size ≡ s.size → Cuts s t
unfolding left-device
it_cuts s t ws e h l z d a = (
  left-device t d,
  record { each = λ n. each n (ltb n t.size) (λ q. a n (subst (λ (x : ℕ). n < x) z (ltb-true n t.size q))); nothing = λ n. refl },
  (λ n k. (rw (lt-ltb n t.size k), sym (ap (λ (xs : List Write). since_in xs n) l))),
)
  where
    each : (n : ℕ) (b : Bool) → (b ≡ true → (d.kept n ≡ (device_of s).kept n) × (d.since n ≡ (device_of s).since n)) →
        (cond b (kept_at t.sectors.written n) (d.kept n) ≡ d.kept n) ⊎ Memᴰ (cond b (kept_at t.sectors.written n) (d.kept n)) (d.since n)
    each n true f =
        elim (h.kept n) [
          | inl q ↦ inl (q ∙ sym (f refl).0)
          | inr q ↦ inr (subst (λ (xs : List (List ℕ)). Memᴰ (kept_at t.sectors.written n) xs) (ap (λ (x : List Write). since_in x n) e ∙ sym (f refl).1) q)
        ]
    each n false f = inl refl
