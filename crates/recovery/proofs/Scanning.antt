-- What a scan of a slot comes to: it finds a record exactly where each of the record's sectors carries its number and length.
use Rattle.std.proofs.Common.{◌≡◌, ℕ, zero, suc, ◌<◌, ◌≤◌, Bool, true, false, cond, ◌&&◌, ◌||◌, eqb, ltb, leb, ◌≢◌, ◌⊎◌, List, sym, refl, ap, ◌∙◌, subst, inl, inr, arith, ltb-false, ltb-true, eq-eqb, ne_eqb, eqb-true, le-leb, leb-false, leb-true, Some, None, Option, Ok, Err}
use borrow.Author.Tests.{eqb-false}
use Rattle.std.proofs.lemmas.Bool.{and_parts, cond_both}
use Rattle.journal.specs.Format.{slot_sectors, Found, found, foreign}
use Rattle.journal.specs.Scans.{Scanned, scan_start, higher, still, scan_part, scan_blank, scan_found, scan_on, scanned}
use Rattle.journal.specs.declared.part.Part.{Part}
use Rattle.journal.specs.declared.part.Foreign.{Foreign}
use Rattle.journal.specs.declared.scan.Record.{Record}
use Rattle.journal.specs.declared.scan.Scan.{Scan}
use Rattle.recovery.proofs.Sound.{found_is}

-- a sector is blank, or a part of a record whose number is no higher than this
abbrev pub Ours : (size most i : ℕ) → List ℕ → Type 0
Ours size most i b = (found size i b ≡ Ok None) ⊎ ((p : Part) × (found size i b ≡ Ok (Some p)) × (p.number ≤ most))

-- a sector of this record
abbrev pub Has : (size : ℕ) → (ℕ → List ℕ) → (n len i : ℕ) → Type 0
Has size g n len i = (p : Part) × (found size i (g i) ≡ Ok (Some p)) × (p.number ≡ n) × (p.length ≡ len)

-- a record that is all there
pub record Whole (size : ℕ) (g : ℕ → List ℕ) (n len : ℕ) : Type 0 where
  pub some : 0 < len
  pub short : len ≤ slot_sectors
  pub each : (i : ℕ) → i < len → Has size g n len i

clash : {A : Type 0} {p : Part} → ◌≡◌ {A = Found} (Ok None) (Ok (Some p)) → A
clash q = let c : ◌≡◌ {A = ℕ} 0 1 = cc in absurd (omega arith)

no-record : {A : Type 0} {r : Record} → ◌≡◌ {A = Option Record} None (Some r) → A
no-record q = let c : ◌≡◌ {A = ℕ} 0 1 = cc in absurd (omega arith)

-- the higher of two numbers
pub high_left : (a b : ℕ) → a ≤ higher a b
high_left a b = cond_both (ltb a b) b a (λ x. a ≤ x) (λ q. omega (arith, ltb-true a b q)) (λ q. omega arith)

pub high_right : (a b : ℕ) → b ≤ higher a b
high_right a b = cond_both (ltb a b) b a (λ x. b ≤ x) (λ q. omega arith) (λ q. omega (arith, ltb-false a b q))

pub high_most : (a b m : ℕ) → a ≤ m → b ≤ m → higher a b ≤ m
high_most a b m h k = cond_both (ltb a b) b a (λ x. x ≤ m) (λ q. k) (λ q. h)

-- what a scan keeps of a slot in which nothing is foreign
unfoldable pub gathered_one : ℕ → Found → Scan → Scan
gathered_one i (Ok None) s = scan_blank i s
gathered_one i (Ok (Some p)) s = scan_part i p s
gathered_one i (Err e) s = s

unfoldable pub gathered : ℕ → (ℕ → List ℕ) → ℕ → Scan
gathered size g zero = scan_start
gathered size g (suc k) = gathered_one k (found size k (g k)) (gathered size g k)

pub scanned_is : (size : ℕ) (g : ℕ → List ℕ) (k : ℕ) → ((i : ℕ) → i < k → found size i (g i) ≢ Err foreign) → scanned size g k ≡ Ok (gathered size g k)
unfolding scanned scan_found gathered gathered_one
scanned_is size g zero o = refl
scanned_is size g (suc k) o = ap (λ (r : Scanned). scan_on size k (g k) r) (scanned_is size g k (λ i l. o i (omega arith))) ∙ go (found size k (g k)) (o k (omega arith))
  where
    go : (x : Found) → x ≢ Err foreign → scan_found k x (gathered size g k) ≡ Ok (gathered_one k x (gathered size g k))
    go (Ok None) ne = refl
    go (Ok (Some p)) ne = refl
    go (Err e) ne = absurd (ne refl)

pub not_foreign : (size most i : ℕ) (b : List ℕ) → Ours size most i b → found size i b ≢ Err foreign
not_foreign size most i b (inl e) f = let c : ◌≡◌ {A = ℕ} 0 1 = cc in omega arith
not_foreign size most i b (inr q) f = let (p, e, l) = q in let c : ◌≡◌ {A = ℕ} 0 1 = cc in omega arith

module _ (size : ℕ) (g : ℕ → List ℕ) where
  -- one more sector, by what it is found to be
  next-blank : (k : ℕ) → found size k (g k) ≡ Ok None → gathered size g (suc k) ≡ scan_blank k (gathered size g k)
  unfolding gathered gathered_one
  next-blank k e = rw e

  next-part : (k : ℕ) (p : Part) → found size k (g k) ≡ Ok (Some p) → gathered size g (suc k) ≡ scan_part k p (gathered size g k)
  unfolding gathered gathered_one
  next-part k p e = rw e

  next_foreign : (k : ℕ) (f : Foreign) → found size k (g k) ≡ Err f → gathered size g (suc k) ≡ gathered size g k
  unfolding gathered gathered_one
  next_foreign k f e = rw e

  -- what stays while a record goes on
  abbrev pub Holding : (n len : ℕ) → Scan → Type 0
  Holding n len s = s.whole ≡ Some (record { number = n; length = len })

  by-blank : (k n len : ℕ) (s : Scan) → Holding n len s → len ≤ k → Holding n len (scan_blank k s)
  unfolding scan_blank
  by-blank k n len s h l = rw (h, le-leb len k l)

  by_part : (k n len : ℕ) (p : Part) (s : Scan) → 1 ≤ k → Holding n len s → (len ≤ k) ⊎ ((p.number ≡ n) × (p.length ≡ len)) → Holding n len (scan_part k p s)
  unfolding scan_part
  by_part k n len p s some h o = let ne : k ≢ 0 = omega arith in rw (ne_eqb k 0 ne, h, fits o)
    where
      fits : (len ≤ k) ⊎ ((p.number ≡ n) × (p.length ≡ len)) → leb len k || (eqb p.number n && eqb p.length len) ≡ true
      fits (inl l) = rw (le-leb len k l)
      fits (inr q) = go (leb len k)
        where
          go : (b : Bool) → b || (eqb p.number n && eqb p.length len) ≡ true
          go true = refl
          go false = rw (eq-eqb p.number n q.0, eq-eqb p.length len q.1)

  first_part : (n len : ℕ) (p : Part) → p.number ≡ n → p.length ≡ len → Holding n len (scan_part 0 p scan_start)
  unfolding scan_part
  first_part n len p a b = rw (a, b)

  -- a record that is all there is found
  pub found_whole : (n len : ℕ) → Whole size g n len → (k : ℕ) → Holding n len (gathered size g (suc k))
  unfolding gathered gathered_one
  found_whole n len w zero =
      let (p, e, a, b) = w.each 0 w.some in
      subst (Holding n len) (sym (next-part 0 p e)) (go p a b)
    where
      go : (p : Part) → p.number ≡ n → p.length ≡ len → Holding n len (scan_part 0 p (gathered size g 0))
      go p a b = first_part n len p a b
  found_whole n len w (suc k) = go (found size (suc k) (g (suc k))) refl (found_whole n len w k)
    where
      go : (x : Found) → found size (suc k) (g (suc k)) ≡ x → Holding n len (gathered size g (suc k)) → Holding n len (gathered size g (suc (suc k)))
      go (Ok None) e h = subst (Holding n len) (sym (next-blank (suc k) e)) (by-blank (suc k) n len (gathered size g (suc k)) h (far (leb len (suc k)) refl))
        where
          far : (b : Bool) → leb len (suc k) ≡ b → len ≤ suc k
          far true q = leb-true len (suc k) q
          far false q = let (p, f, a, b) = w.each (suc k) (omega (arith, leb-false len (suc k) q)) in clash (sym e ∙ f)
      go (Ok (Some p)) e h = subst (Holding n len) (sym (next-part (suc k) p e)) (by_part (suc k) n len p (gathered size g (suc k)) (omega arith) h (far (leb len (suc k)) refl))
        where
          far : (b : Bool) → leb len (suc k) ≡ b → (len ≤ suc k) ⊎ ((p.number ≡ n) × (p.length ≡ len))
          far true q = inl (leb-true len (suc k) q)
          far false q = let (p', f, a, b) = w.each (suc k) (omega (arith, leb-false len (suc k) q)) in let same : p' ≡ p = cc in inr (ap (λ (x : Part). x.number) (sym same) ∙ a, ap (λ (x : Part). x.length) (sym same) ∙ b)
      go (Err f) e h = subst (Holding n len) (sym (next_foreign (suc k) f e)) h

  -- a record that passed a test
  passed : (f : Record → Bool) (o : Option Record) (r : Record) → still f o ≡ Some r → (o ≡ Some r) × (f r ≡ true)
  passed f None r h = no-record h
  passed f (Some q) r h = go (f q) refl h
    where
      go : (b : Bool) → f q ≡ b → cond b (Some q) None ≡ Some r → (Some q ≡ Some r) × (f r ≡ true)
      go true e h = let same : q ≡ r = cc in (h, ap f (sym same) ∙ e)
      go false e h = no-record h

  -- what was found so far, where the scan says that it is whole
  pub record SoFar (k : ℕ) (r : Record) : Type 0 where
    pub some : 0 < r.length
    pub short : r.length ≤ slot_sectors
    pub each : (i : ℕ) → i < k → i < r.length → Has size g r.number r.length i

  so_blank : (k : ℕ) (s : Scan) (r : Record) → ((r : Record) → s.whole ≡ Some r → SoFar k r) → (scan_blank k s).whole ≡ Some r → SoFar (suc k) r
  unfolding scan_blank
  so_blank k s r before h =
      let w = passed (λ (r : Record). leb r.length k) s.whole r h in
      let f = before r w.0 in
      let l = leb-true r.length k w.1 in
      record { some = f.some; short = f.short; each = λ i a b. f.each i (omega arith) b }

  abbrev begun : Part → Scan → Scan
  begun p s = record { whole = Some (record { number = p.number; length = p.length }); highest = p.number }

  abbrev is_of : ℕ → Part → Record → Bool
  is_of k p r = leb r.length k || (eqb p.number r.number && eqb p.length r.length)

  abbrev more : ℕ → Part → Scan → Scan
  more k p s = record { whole = still (is_of k p) s.whole; highest = higher s.highest p.number }

  so_part : (k : ℕ) (p : Part) (s : Scan) (r : Record) → found size k (g k) ≡ Ok (Some p) → ((r : Record) → s.whole ≡ Some r → SoFar k r) → (scan_part k p s).whole ≡ Some r → SoFar (suc k) r
  unfolding scan_part
  so_part k p s r e before h = go (eqb k 0) refl h
    where
      go : (z : Bool) → eqb k 0 ≡ z → (cond {A = Scan} z (begun p s) (more k p s)).whole ≡ Some r → SoFar (suc k) r
      go true q h =
          let z = eqb-true k 0 q in
          let f = (found_is size k (g k) p e).1 in
          let same : ◌≡◌ {A = Record} (record { number = p.number; length = p.length }) r = cc in
          subst (SoFar (suc k)) same (record { some = omega (arith, f.inside); short = f.short; each = λ i a b. let same : i ≡ k = omega arith in subst (Has size g p.number p.length) (sym same) (p, e, refl, refl) })
      go false q h =
          let w = passed (is_of k p) s.whole r h in
          let f = before r w.0 in
          record { some = f.some; short = f.short; each = λ i a b. pick i a b w.1 f (eqb i k) refl }
        where
          alike : (x : Bool) → leb r.length k ≡ x → x || (eqb p.number r.number && eqb p.length r.length) ≡ true → k < r.length → (p.number ≡ r.number) × (p.length ≡ r.length)
          alike true a b c = absurd (omega (arith, leb-true r.length k a))
          alike false a b c = let t = and_parts (eqb p.number r.number) (eqb p.length r.length) b in (eqb-true p.number r.number t.0, eqb-true p.length r.length t.1)

          pick : (i : ℕ) → i < suc k → i < r.length → is_of k p r ≡ true → SoFar k r → (x : Bool) → eqb i k ≡ x → Has size g r.number r.length i
          pick i a b c f true q = let same = eqb-true i k q in let t = alike (leb r.length k) refl c (omega arith) in subst (Has size g r.number r.length) (sym same) (p, e, t.0, t.1)
          pick i a b c f false q = f.each i (omega (arith, eqb-false i k q)) b

  pub so_far : (most k : ℕ) (r : Record) → ((i : ℕ) → i < k → Ours size most i (g i)) → (gathered size g k).whole ≡ Some r → SoFar k r
  unfolding gathered
  so_far most zero r o h = no-record h
  so_far most (suc k) r o h = go (o k (omega arith)) (λ q. so_far most k q (λ i l. o i (omega arith)))
    where
      go : Ours size most k (g k) → ((q : Record) → (gathered size g k).whole ≡ Some q → SoFar k q) → SoFar (suc k) r
      go (inl e) before = so_blank k (gathered size g k) r before (subst (λ (s : Scan). s.whole ≡ Some r) (next-blank k e) h)
      go (inr q) before = let (p, e, l) = q in so_part k p (gathered size g k) r e before (subst (λ (s : Scan). s.whole ≡ Some r) (next-part k p e) h)

  -- a record that is found is all there
  pub whole_found : (most : ℕ) → ((i : ℕ) → i < slot_sectors → Ours size most i (g i)) → (r : Record) → (gathered size g slot_sectors).whole ≡ Some r → Whole size g r.number r.length
  whole_found most o r h = let f = so_far most slot_sectors r o h in record { some = f.some; short = f.short; each = λ i l. f.each i (omega (arith, f.short)) l }

  -- what a scan has seen: the highest number
  pub record Seen (most k : ℕ) (s : Scan) : Type 0 where
    pub below : s.highest ≤ most
    pub above : (i : ℕ) (p : Part) → i < k → found size i (g i) ≡ Ok (Some p) → p.number ≤ s.highest

  seen-blank : (most k : ℕ) (s : Scan) → found size k (g k) ≡ Ok None → Seen most k s → Seen most (suc k) (scan_blank k s)
  unfolding scan_blank
  seen-blank most k s e h = record { below = h.below; above = λ i p l f. go i p l f (eqb i k) refl }
    where
      go : (i : ℕ) (p : Part) → i < suc k → found size i (g i) ≡ Ok (Some p) → (x : Bool) → eqb i k ≡ x → p.number ≤ s.highest
      go i p l f true q = clash (sym e ∙ subst (λ (j : ℕ). found size j (g j) ≡ Ok (Some p)) (eqb-true i k q) f)
      go i p l f false q = h.above i p (omega (arith, eqb-false i k q)) f

  seen-part : (most k : ℕ) (p : Part) (s : Scan) → found size k (g k) ≡ Ok (Some p) → p.number ≤ most → Seen most k s → Seen most (suc k) (scan_part k p s)
  unfolding scan_part
  seen-part most k p s e l h = go (eqb k 0) refl
    where
      here : (i : ℕ) (q : Part) → eqb i k ≡ true → found size i (g i) ≡ Ok (Some q) → q.number ≡ p.number
      here i q z f = let u = subst (λ (j : ℕ). found size j (g j) ≡ Ok (Some q)) (eqb-true i k z) f in let same : q ≡ p = cc in ap (λ (x : Part). x.number) same

      go : (z : Bool) → eqb k 0 ≡ z → Seen most (suc k) (cond z (begun p s) (more k p s))
      go true z = record { below = l; above = λ i q a f. let same = here i q (eq-eqb i k (omega (arith, eqb-true k 0 z))) f in omega arith }
      go false z = record { below = high_most s.highest p.number most h.below l; above = λ i q a f. pick i q a f (eqb i k) refl }
        where
          pick : (i : ℕ) (q : Part) → i < suc k → found size i (g i) ≡ Ok (Some q) → (x : Bool) → eqb i k ≡ x → q.number ≤ higher s.highest p.number
          pick i q a f true x = omega (arith, here i q x f, high_right s.highest p.number)
          pick i q a f false x = omega (arith, h.above i q (omega (arith, eqb-false i k x)) f, high_left s.highest p.number)

  pub seen : (most k : ℕ) → ((i : ℕ) → i < k → Ours size most i (g i)) → Seen most k (gathered size g k)
  unfolding gathered
  seen most zero o = record { below = omega arith; above = λ i p l. absurd (omega arith) }
  seen most (suc k) o = go (o k (omega arith)) (seen most k (λ i l. o i (omega arith)))
    where
      go : Ours size most k (g k) → Seen most k (gathered size g k) → Seen most (suc k) (gathered size g (suc k))
      go (inl e) h = subst (Seen most (suc k)) (sym (next-blank k e)) (seen-blank most k (gathered size g k) e h)
      go (inr q) h = let (p, e, l) = q in subst (Seen most (suc k)) (sym (next-part k p e)) (seen-part most k p (gathered size g k) e l h)

-- a scan goes by what the sectors hold
pub scan_cong : (size : ℕ) (g h : ℕ → List ℕ) (k : ℕ) → ((i : ℕ) → i < k → g i ≡ h i) → gathered size g k ≡ gathered size h k
unfolding gathered
scan_cong size g h zero e = refl
scan_cong size g h (suc k) e = ap (λ (x : List ℕ). gathered_one k (found size k x) (gathered size g k)) (e k (omega arith)) ∙ ap (λ (s : Scan). gathered_one k (found size k (h k)) s) (scan_cong size g h k (λ i l. e i (omega arith)))
