-- A slot into which a record was being written when the power failed: it has the new record whole, or the old one, or none. Each sector
-- is as it was or as the new record has it; numbers are never used again, so sectors of two records are told apart.
use Rattle.std.proofs.Common.{◌-◌, ◌≡◌, ℕ, ◌*◌, ◌/◌, ◌<◌, ◌≤◌, Bool, true, false, T, eqb, ◌≢◌, ◌⊎◌, List, [], length, sym, refl, ap, ◌∙◌, subst, inl, inr, arith, eqb-true, le-leb, Ok, Some, None, Option}
use borrow.Author.Tests.{eqb-false}
use Rattle.journal.specs.Format.{most_writes, slot_sectors, found}
use Rattle.journal.specs.Scans.{number_or_none, redo_count, writes_from}
use Rattle.journal.specs.Programs.{record_sector, all_in_area}
use Rattle.recovery.specs.Machines.{whole_sectors}
use Rattle.journal.specs.declared.part.Part.{Part}
use Rattle.journal.specs.declared.scan.Record.{Record}
use Rattle.journal.specs.declared.state.Write.{Write}
use Rattle.recovery.proofs.Records.{part, sector_found, writes_back, writes_cong}
use Rattle.recovery.proofs.Scanning.{Ours, Has, Whole, found_whole, whole_found, gathered}

-- the number and the writes of the record that a slot would have done again
abbrev pub number_in : ℕ → (ℕ → List ℕ) → ℕ
number_in size g = number_or_none (gathered size g slot_sectors)

abbrev pub writes_in : ℕ → (ℕ → List ℕ) → List Write
writes_in size g = writes_from g 0 (redo_count (gathered size g slot_sectors))

-- of a record that is all there
pub whole-number : (size : ℕ) (g : ℕ → List ℕ) (n len : ℕ) → Whole size g n len → number_in size g ≡ n
whole-number size g n len w = rw (found_whole size g n len w (slot_sectors - 1))

pub whole-count : (size : ℕ) (g : ℕ → List ℕ) (n len : ℕ) → Whole size g n len → redo_count (gathered size g slot_sectors) ≡ len / 2
whole-count size g n len w =
    rw (found_whole size g n len w (slot_sectors - 1), le-leb len slot_sectors w.short)

-- of a slot with none
pub none_number : (size : ℕ) (g : ℕ → List ℕ) → (gathered size g slot_sectors).whole ≡ None → number_in size g ≡ 0
none_number size g e = rw e

pub none-writes : (size : ℕ) (g : ℕ → List ℕ) → (gathered size g slot_sectors).whole ≡ None → writes_in size g ≡ []
unfolding writes_from
none-writes size g e = rw e

module _ (size n : ℕ) (ws : List Write) (some : 1 ≤ n) (below : n < 4611686018427387904) (one : 1 ≤ length ws) (few : length ws ≤ most_writes) (area : T (all_in_area size ws)) (sectors : T (whole_sectors ws)) (fits : size ≤ 1099511627776) where
  is_found : (j : ℕ) → j < 2 * length ws → found size j (record_sector n ws j) ≡ Ok (Some (part size n ws some below few area sectors fits j))
  is_found = sector_found size n ws some below few area sectors fits

  -- the record is there
  pub there : (h : ℕ → List ℕ) → ((i : ℕ) → i < 2 * length ws → h i ≡ record_sector n ws i) → (number_in size h ≡ n) × (writes_in size h ≡ ws)
  there h e =
      let w : Whole size h n (2 * length ws) = record { some = omega arith; short = omega arith; each = λ i l. (part size n ws some below few area sectors fits i, ap (found size i) (e i l) ∙ is_found i l, refl, refl) } in
      let c : redo_count (gathered size h slot_sectors) ≡ length ws = whole-count size h n (2 * length ws) w ∙ omega arith in
      (whole-number size h n (2 * length ws) w, ap (writes_from h 0) c ∙ writes_back size n ws some below few area sectors fits h 0 (length ws) (omega arith) e)

  module _ (g h : ℕ → List ℕ) (most : ℕ) (old : most < n) (ours : (i : ℕ) → i < slot_sectors → Ours size most i (g i)) (mixed : (i : ℕ) → i < slot_sectors → (h i ≡ g i) ⊎ ((i < 2 * length ws) × (h i ≡ record_sector n ws i))) where
    -- its sectors are ours again
    pub mixed-ours : (i : ℕ) → i < slot_sectors → Ours size n i (h i)
    mixed-ours i l = go (mixed i l) (ours i l)
      where
        go : (h i ≡ g i) ⊎ ((i < 2 * length ws) × (h i ≡ record_sector n ws i)) → Ours size most i (g i) → Ours size n i (h i)
        go (inl e) (inl b) = inl (ap (found size i) e ∙ b)
        go (inl e) (inr q) = let (p, f, m) = q in inr (p, ap (found size i) e ∙ f, omega arith)
        go (inr q) o = let (k, e) = q in inr (part size n ws some below few area sectors fits i, ap (found size i) e ∙ is_found i k, omega arith)

    -- a sector that carries a number: the new one's, and then it is the new record's; or another, and then it is as it was
    carries : (m len i : ℕ) → i < slot_sectors → Has size h m len i → (m ≡ n → (i < 2 * length ws) × (h i ≡ record_sector n ws i) × (len ≡ 2 * length ws)) × (m ≢ n → h i ≡ g i)
    carries m len i l x = go (mixed i l) (ours i l) x
      where
        go : (h i ≡ g i) ⊎ ((i < 2 * length ws) × (h i ≡ record_sector n ws i)) → Ours size most i (g i) → Has size h m len i → (m ≡ n → (i < 2 * length ws) × (h i ≡ record_sector n ws i) × (len ≡ 2 * length ws)) × (m ≢ n → h i ≡ g i)
        go (inl e) (inl b) (p, f, a, c) = let u = sym (ap (found size i) e) ∙ f in let z : ◌≡◌ {A = ℕ} 0 1 = cc in absurd (omega arith)
        go (inl e) (inr q) (p, f, a, c) = let (p', f', k) = q in let u = sym (ap (found size i) e) ∙ f in let same : p' ≡ p = cc in let w : p'.number ≡ m = ap (λ (y : Part). y.number) same ∙ a in (λ s. absurd (omega arith), λ s. e)
        go (inr q) o (p, f, a, c) =
            let (k, e) = q in
            let u = sym (ap (found size i) e ∙ is_found i k) ∙ f in
            let same : part size n ws some below few area sectors fits i ≡ p = cc in
            let v : n ≡ m = ap (λ (y : Part). y.number) same ∙ a in
            let w : 2 * length ws ≡ len = ap (λ (y : Part). y.length) same ∙ c in
            (λ s. (k, e, sym w), λ s. absurd (s (sym v)))

    -- what such a slot would have done again
    pub data Outcome : Type 0 where
      new : number_in size h ≡ n → writes_in size h ≡ ws → Outcome
      as_before : number_in size h ≡ number_in size g → writes_in size h ≡ writes_in size g → Outcome
      none : number_in size h ≡ 0 → writes_in size h ≡ [] → Outcome

    pub outcome : Outcome
    outcome = go (gathered size h slot_sectors).whole refl
      where
        is_whole : (r : Record) → (gathered size h slot_sectors).whole ≡ Some r → (x : Bool) → eqb r.number n ≡ x → Outcome
        is_whole r e true q =
            let w = whole_found size h n mixed-ours r e in
            let same = eqb-true r.number n q in
            let first = (carries r.number r.length 0 (omega arith) (w.each 0 w.some)).0 same in
            let t = there h (λ i l. ((carries r.number r.length i (omega arith) (w.each i (omega (arith, first.2)))).0 same).1) in
            new t.0 t.1
        is_whole r e false q =
            let w = whole_found size h n mixed-ours r e in
            let m = r.number in
            let len = r.length in
            let back = λ (i : ℕ) (l : i < len). (carries m len i (omega (arith, w.short)) (w.each i l)).1 (eqb-false m n q) in
            let was : Whole size g m len = record { some = w.some; short = w.short; each = λ i l. subst (λ (b : List ℕ). (p : Part) × (found size i b ≡ Ok (Some p)) × (p.number ≡ m) × (p.length ≡ len)) (back i l) (w.each i l) } in
            as_before (whole-number size h m len w ∙ sym (whole-number size g m len was))
            (ap (writes_from h 0) (whole-count size h m len w) ∙ writes_cong h g 0 (len / 2) (λ i l. back i (omega arith)) ∙ ap (writes_from g 0) (sym (whole-count size g m len was)))

        go : (x : Option Record) → (gathered size h slot_sectors).whole ≡ x → Outcome
        go (Some r) e = is_whole r e (eqb r.number n) refl
        go None e = none (none_number size h e) (none-writes size h e)
