-- What forgetting a volume means, and giving up all that are gone: a test of the entry's volume.
use Rattle.std.proofs.Common.{◌≡◌, ◌≢◌, ◌⊎◌, inl, inr, ℕ, zero, suc, ◌/◌, Bool, true, false, not, ◌&&◌, ◌==◌, List, length, refl, sym, ap, ◌∙◌, subst, arith}
use Rattle.std.proofs.lemmas.Bool.{eqb-true, eq-eqb, ne_eqb}
use Rattle.disks.specs.Device.{zeros}
use Rattle.volumes.specs.Service.{is_living}
use Rattle.pieces.specs.declared.entry.Entry.{Entry}
use Rattle.pieces.specs.Entries.{is_block, free_entry}
use Rattle.pieces.specs.Kept.{Kept, forgets_at, forgotten, entry_at}
use Rattle.pieces.specs.Meaning.{look, Sound, shown, age_of, Forgets}
use Rattle.pieces.specs.Replaces.{vacates_at, vacates_where, is_gone, tidied, Vacates, TidyMeans}
use Rattle.pieces.proofs.Bytes.{both_true}
use Rattle.pieces.proofs.Looking.{no_volume}
use Rattle.pieces.proofs.Vacating.{vacates, shown_free, look_own}

-- A test of volumes that doesn't hold of none.
module _ (size : ℕ) (g : ℕ → Bool) (none : g 0 ≡ false) (k : Kept) (x : Sound size k) where
  abbrev f : Entry → Bool
  f e = g e.volume.0

  w : Vacates size (λ e. g e.volume.0) k (vacates_where (λ e. g e.volume.0) (length k.entries) k)
  w = vacates size (λ e. g e.volume.0) k x

  decided : (v b : ℕ) (t : Bool) → g (suc v) ≡ t → (look (suc v) b k.entries ≡ free_entry) ⊎ (f (look (suc v) b k.entries) ≡ t)
  decided v b t e = go (look_own (suc v) b k.entries)
    where
      go : (look (suc v) b k.entries ≡ free_entry) ⊎ (is_block (suc v) b (look (suc v) b k.entries) ≡ true) → (look (suc v) b k.entries ≡ free_entry) ⊎ (f (look (suc v) b k.entries) ≡ t)
      go (inl q) = inl q
      go (inr q) = inr (ap g (eqb-true (look (suc v) b k.entries).volume.0 (suc v) (both_true ((look (suc v) b k.entries).volume.0 == suc v) ((look (suc v) b k.entries).block.0 == b) q).0) ∙ e)

  pub volume_gone : (d : ℕ → List ℕ) (v n : ℕ) → g (suc v) ≡ true → shown d (vacates_where (λ e. g e.volume.0) (length k.entries) k) (suc v) n ≡ zeros 512
  volume_gone d v n e = go (decided v (n / 8) true e)
    where
      go : (look (suc v) (n / 8) k.entries ≡ free_entry) ⊎ (f (look (suc v) (n / 8) k.entries) ≡ true) → shown d (vacates_where f (length k.entries) k) (suc v) n ≡ zeros 512
      go (inl q) = w.others d v n (ap f q ∙ none) ∙ shown_free d k (suc v) n q
      go (inr q) = w.gone d v n q

  stays : (v b : ℕ) → g (suc v) ≡ false → f (look (suc v) b k.entries) ≡ false
  stays v b e = go (decided v b false e)
    where
      go : (look (suc v) b k.entries ≡ free_entry) ⊎ (f (look (suc v) b k.entries) ≡ false) → f (look (suc v) b k.entries) ≡ false
      go (inl q) = ap f q ∙ none
      go (inr q) = q

  pub volume_stays : (d : ℕ → List ℕ) (v n : ℕ) → g (suc v) ≡ false → shown d (vacates_where (λ e. g e.volume.0) (length k.entries) k) (suc v) n ≡ shown d k (suc v) n
  volume_stays d v n e = w.others d v n (stays v (n / 8) e)

  pub volume_aged : (v b : ℕ) → g (suc v) ≡ false → age_of (suc v) b (vacates_where (λ e. g e.volume.0) (length k.entries) k) ≡ age_of (suc v) b k
  volume_aged v b e = w.aged v b (stays v b e)

-- A volume is forgotten.
forgotten_where : (v n : ℕ) (k : Kept) → forgotten v n k ≡ vacates_where (λ e. e.volume.0 == v) n k
unfolding forgotten forgets_at vacates_where vacates_at
forgotten_where v zero k = refl
forgotten_where v (suc n) k = ap (vacates_at (λ e. e.volume.0 == v) n) (forgotten_where v n k)

module _ (size v : ℕ) (k : Kept) (x : Sound size k) where
  abbrev is : ℕ → Bool
  is u = u == suc v

  same : forgotten (suc v) (length k.entries) k ≡ vacates_where (λ e. e.volume.0 == suc v) (length k.entries) k
  same = forgotten_where (suc v) (length k.entries) k

  given_up : Vacates size (λ e. e.volume.0 == suc v) k (forgotten (suc v) (length k.entries) k)
  given_up = subst (λ (z : Kept). Vacates size (λ e. e.volume.0 == suc v) k z) (sym same) (vacates size (λ e. e.volume.0 == suc v) k x)

  pub entry_forgotten : (j : ℕ) → (entry_at j k).volume.0 ≡ suc v → entry_at j (forgotten (suc v) (length k.entries) k) ≡ free_entry
  entry_forgotten j e = given_up.free j (eq-eqb (entry_at j k).volume.0 (suc v) e)

  pub entry_stays : (j : ℕ) → (entry_at j k).volume.0 ≢ suc v → entry_at j (forgotten (suc v) (length k.entries) k) ≡ entry_at j k
  entry_stays j e = given_up.same j (ne_eqb (entry_at j k).volume.0 (suc v) e)

  pub forget_means : Forgets size v k (forgotten (suc v) (length k.entries) k)
  forget_means = record {
    sound = given_up.sound;
    gone = λ d n. ap (λ (z : Kept). shown d z (suc v) n) same ∙ volume_gone size is (no_volume v) k x d v n (eq-eqb (suc v) (suc v) refl);
    others = λ d u n o. ap (λ (z : Kept). shown d z (suc u) n) same ∙ volume_stays size is (no_volume v) k x d u n (other u o);
    aged = λ u b o. ap (age_of (suc u) b) same ∙ volume_aged size is (no_volume v) k x u b (other u o);
    fewer = given_up.fewer;
  }
    where
      other : (u : ℕ) → u ≢ v → is (suc u) ≡ false
      other u o = ne_eqb (suc u) (suc v) (λ e. o (omega (arith, e)))

-- All are that aren't living.
pub tidy_means : TidyMeans
tidy_means size next hs k x = record {
  sound = w.sound;
  free = w.free;
  same = w.same;
  living = λ j. go j (is_gone next hs (entry_at j k)) refl;
  gone = λ d v n e. volume_gone size is refl k x d v n (test v false e);
  others = λ d v n e. volume_stays size is refl k x d v n (test v true e);
  aged = λ v b e. volume_aged size is refl k x v b (test v true e);
  fewer = w.fewer;
  floor = w.floor;
}
  where
    is : ℕ → Bool
    is v = not (v == 0) && not (is_living next hs v)

    w : Vacates size (is_gone next hs) k (tidied next hs k)
    w = vacates size (is_gone next hs) k x

    go : (j : ℕ) (t : Bool) → is_gone next hs (entry_at j k) ≡ t → is_gone next hs (entry_at j (tidied next hs k)) ≡ false
    go j true e = ap (is_gone next hs) (w.free j e)
    go j false e = ap (is_gone next hs) (w.same j e) ∙ e

    test : (v : ℕ) (t : Bool) → is_living next hs (suc v) ≡ t → is (suc v) ≡ not t
    test v t e = ap (λ (z : Bool). not z && not (is_living next hs (suc v))) (ne_eqb (suc v) 0 (λ z. absurd (omega arith))) ∙ ap not e

-- what a test of the volume gives up is forgotten
pub forgotten_of : (v n : ℕ) (k m : Kept) → m ≡ vacates_where (λ e. e.volume.0 == v) n k → m ≡ forgotten v n k
forgotten_of v n k m e = e ∙ sym (forgotten_where v n k)
