-- What holds of a device and a journal's memory, with the power off and on. The array is what the guarded sectors are to show.
-- Off: doing the complete records again, the older first, gives the array. Safe: wherever the device is cut, doing again the newer record alone, or
-- both, gives the array; so the older one's slot may be written over. On: and the device shows the array.
use Rattle.std.proofs.Common.{◌≡◌, ℕ, ◌+◌, ◌<◌, ◌≤◌, Bool, true, false, cond, T, ltb, ◌⊎◌, List, [], ◌∷◌, ◌++◌, length, refl, ap, ◌∙◌, subst, inl, inr, append-nil, arith, le-ltb, lt-ltb, Ok, Some, None, Option, unwrap_or}
use mathlib.Core.List.Memᴰ
use mathlib.Core.List.{Memᴰ}
use Rattle.disks.specs.Device.{Device, shown, latest, AfterCut, all_bytes}
use Rattle.journal.specs.Format.{slot_sectors, found}
use Rattle.journal.specs.Scans.{number_of, number_or_none, redo_count, writes_from}
use Rattle.journal.specs.Programs.{base, other, in_area}
use Rattle.recovery.specs.Machines.{last}
use Rattle.journal.specs.declared.part.Part.{Part}
use Rattle.journal.specs.declared.scan.Record.{Record}
use Rattle.journal.specs.declared.state.Write.{Write}
use Rattle.journal.specs.declared.state.Slot.{Slot}
use Rattle.journal.specs.declared.state.Slot.TheVariants.{First, Second}
use Rattle.journal.specs.declared.state.Journal.{Journal}
use Rattle.recovery.proofs.Sound.{found_is}
use Rattle.recovery.proofs.Scanning.{Ours, whole_found, scan_cong, gathered}
use Rattle.recovery.proofs.Records.{writes_cong}
use Rattle.recovery.proofs.Mixing.{number_in, writes_in, none-writes}
use Rattle.recovery.proofs.Redoing.{slot_of, redo_few}

-- what a sector may hold after a cut
abbrev pub Can : Device → ℕ → List ℕ → Type 0
Can d s x = (x ≡ d.kept s) ⊎ Memᴰ x (d.since s)

-- a sector's bytes
abbrev pub IsSector : List ℕ → Type 0
IsSector b = (length b ≡ 512) × T (all_bytes b)

-- what two slots would have done again
abbrev pub redone_with : ℕ → (Slot → ℕ → List ℕ) → List Write
redone_with size g = cond (ltb (number_in size (g Second)) (number_in size (g First))) (writes_in size (g Second) ++ writes_in size (g First)) (writes_in size (g First) ++ writes_in size (g Second))

pub record Off (size n : ℕ) (array : ℕ → List ℕ) (d : Device) : Type 0 where
  pub clean : (s : ℕ) → d.since s ≡ []
  pub ours : (slot : Slot) (i : ℕ) → i < slot_sectors → Ours size n i (slot_of d slot i)
  pub bytes : (slot : Slot) (i : ℕ) → i < slot_sectors → IsSector (slot_of d slot i)
  pub differ : number_in size (slot_of d First) ≡ number_in size (slot_of d Second) → number_in size (slot_of d First) ≡ 0
  pub holds : (s : ℕ) → T (in_area size s) → last (redone_with size (slot_of d)) (shown d s) s ≡ array s

pub record Safe (size n : ℕ) (array : ℕ → List ℕ) (j : Journal) (d : Device) : Type 0 where
  pub size_is : j.size ≡ size
  pub most : ℕ
  pub above : most < j.next
  pub low : j.next ≤ n + 1
  pub quiet : (slot : Slot) (i : ℕ) → i < slot_sectors → d.since (base slot + i) ≡ []
  pub ours : (slot : Slot) (i : ℕ) → i < slot_sectors → Ours size most i (slot_of d slot i)
  pub bytes : (slot : Slot) (i : ℕ) → i < slot_sectors → IsSector (slot_of d slot i)
  pub by-new : (s : ℕ) (x : List ℕ) → T (in_area size s) → Can d s x → last (writes_in size (slot_of d (other j.slot))) x s ≡ array s
  pub by_both : (s : ℕ) (x : List ℕ) → T (in_area size s) → Can d s x → last (writes_in size (slot_of d j.slot) ++ writes_in size (slot_of d (other j.slot))) x s ≡ array s
  pub order : (number_in size (slot_of d j.slot) < number_in size (slot_of d (other j.slot))) ⊎ (number_in size (slot_of d j.slot) ≡ 0)

pub record On (size n : ℕ) (array : ℕ → List ℕ) (j : Journal) (d : Device) : Type 0 where
  pub safe : Safe size n array j d
  pub shows : (s : ℕ) → T (in_area size s) → shown d s ≡ array s

-- LAWS of slots
pub other_other : (slot : Slot) → other (other slot) ≡ slot
other_other First = refl
other_other Second = refl

pub ours_more : (size m n i : ℕ) (b : List ℕ) → m ≤ n → Ours size m i b → Ours size n i b
ours_more size m n i b l (inl e) = inl e
ours_more size m n i b l (inr q) = let (p, e, k) = q in inr (p, e, omega arith)

pub number_cong : (size : ℕ) (g h : ℕ → List ℕ) → ((i : ℕ) → i < slot_sectors → g i ≡ h i) → number_in size g ≡ number_in size h
number_cong size g h e = ap number_or_none (scan_cong size g h slot_sectors e)

pub writes_in_cong : (size : ℕ) (g h : ℕ → List ℕ) → ((i : ℕ) → i < slot_sectors → g i ≡ h i) → writes_in size g ≡ writes_in size h
writes_in_cong size g h e = let c = redo_few (gathered size g slot_sectors) in writes_cong g h 0 (redo_count (gathered size g slot_sectors)) (λ q l. e q (omega arith)) ∙ ap (λ k. writes_from h 0 (redo_count k)) (scan_cong size g h slot_sectors e)

-- of sectors that are ours: the number is no higher than any; and no number means no writes
module _ (size most : ℕ) (g : ℕ → List ℕ) (ours : (i : ℕ) → i < slot_sectors → Ours size most i (g i)) where
  is_some : (r : Record) → (gathered size g slot_sectors).whole ≡ Some r → (1 ≤ r.number) × (r.number ≤ most)
  is_some r e =
      let w = whole_found size g most ours r e in
      let (p, f, a, b) = w.each 0 w.some in
      let s = (found_is size 0 (g 0) p f).1 in
      (omega (arith, s.some), go p f a (ours 0 (omega arith)))
    where
      go : (p : Part) → found size 0 (g 0) ≡ Ok (Some p) → p.number ≡ r.number → Ours size most 0 (g 0) → r.number ≤ most
      go p f a (inl b) = let z : ◌≡◌ {A = ℕ} 0 1 = cc in absurd (omega arith)
      go p f a (inr q) = let (p', f', l) = q in let same : p' ≡ p = cc in omega (arith, ap (λ (x : Part). x.number) same)

  pub number-low : number_in size g ≤ most
  number-low = go (gathered size g slot_sectors).whole refl
    where
      go : (x : Option Record) → (gathered size g slot_sectors).whole ≡ x → unwrap_or (number_of x) 0 ≤ most
      go (Some r) e = (is_some r e).1
      go None e = omega arith

  pub no_writes : number_in size g ≡ 0 → writes_in size g ≡ []
  no_writes z = go (gathered size g slot_sectors).whole refl z
    where
      go : (x : Option Record) → (gathered size g slot_sectors).whole ≡ x → unwrap_or (number_of x) 0 ≡ 0 → writes_in size g ≡ []
      go (Some r) e q = absurd (omega (arith, (is_some r e).0))
      go None e q = none-writes size g e

-- the order of doing again
pub redone-by : (size : ℕ) (g : Slot → ℕ → List ℕ) (older : Slot) → number_in size (g older) < number_in size (g (other older)) → redone_with size g ≡ writes_in size (g older) ++ writes_in size (g (other older))
redone-by size g First l = let k : number_in size (g First) ≤ number_in size (g Second) = omega arith in rw (le-ltb (number_in size (g Second)) (number_in size (g First)) k)
redone-by size g Second l = rw (lt-ltb (number_in size (g Second)) (number_in size (g First)) l)

pub redone_one : (size : ℕ) (g : Slot → ℕ → List ℕ) (older : Slot) → writes_in size (g older) ≡ [] → redone_with size g ≡ writes_in size (g (other older))
redone_one size g First e = go (ltb (number_in size (g Second)) (number_in size (g First)))
  where
    go : (x : Bool) → cond x (writes_in size (g Second) ++ writes_in size (g First)) (writes_in size (g First) ++ writes_in size (g Second)) ≡ writes_in size (g Second)
    go true = rw (e, append-nil)
    go false = rw e
redone_one size g Second e = go (ltb (number_in size (g Second)) (number_in size (g First)))
  where
    go : (x : Bool) → cond x (writes_in size (g Second) ++ writes_in size (g First)) (writes_in size (g First) ++ writes_in size (g Second)) ≡ writes_in size (g First)
    go true = rw e
    go false = rw (e, append-nil)

-- what a cut leaves
pub can-cut : (d e : Device) (s : ℕ) → AfterCut d e → Can d s (shown e s)
unfolding latest
can-cut d e s c = rw (c.nothing s) (c.each s)

pub can_shown : (d : Device) (s : ℕ) → Can d s (shown d s)
unfolding latest
can_shown d s = go (d.since s)
  where
    go : (xs : List (List ℕ)) → (latest (d.kept s) xs ≡ d.kept s) ⊎ Memᴰ (latest (d.kept s) xs) xs
    go [] = inl refl
    go (x ∷ xs) = inr (Memᴰ.head refl)

pub can-quiet : (d : Device) (s : ℕ) (x : List ℕ) → d.since s ≡ [] → Can d s x → x ≡ shown d s
unfolding latest
can-quiet d s x e (inl h) = rw e h
can-quiet d s x e (inr m) = absurd (Memᴰ.not-nil (subst (Memᴰ x) e m))
