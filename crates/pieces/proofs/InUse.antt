-- Blocks that have entries: which have one after entries were given up, or after a sector was set; and how many do of a range.
use Rattle.std.proofs.Common.{◌≡◌, ◌⊎◌, inl, inr, ℕ, suc, ◌/◌, ◌≤◌, Bool, true, false, cond, not, ◌&&◌, ◌==◌, Some, None, Option, refl, sym, ap, ◌∙◌, subst, arith}
use Rattle.std.specs.List.{count_by}
use Rattle.std.proofs.lemmas.Bool.{cases_eq, eq-eqb, and_left}
use Rattle.pieces.specs.declared.entry.Entry.{Entry}
use Rattle.pieces.specs.declared.changed.Key.{Key}
use Rattle.pieces.specs.Entries.{is_block, free_entry}
use Rattle.pieces.specs.Kept.{Kept, WasSet, index_of, entry_at, sets}
use Rattle.pieces.specs.Changes.{key_of, entry_key, is_before, is_below}
use Rattle.pieces.specs.Meaning.{look, look_in, one, Sound, SetsOne}
use Rattle.pieces.specs.Ranges.{is_within}
use Rattle.pieces.specs.Counts.{Thinned}
use Rattle.pieces.specs.Fits.{HasEntry, EntriesWithin, FewerInRange}
use Rattle.pieces.proofs.Counting.{none_of}
use Rattle.pieces.proofs.Looking.{no_block}
use Rattle.pieces.proofs.Putting.{its_own}
use Rattle.pieces.proofs.ListMeaning.{same_key}
use Rattle.pieces.proofs.SetMeaning.{set_means}
use Rattle.pieces.proofs.Thinning.{block_inside}
use Rattle.pieces.proofs.SetClean.{set_stays_clean}
use Rattle.pieces.proofs.Holding.{weighs_no_more}

clash : {A : Type 0} → false ≡ true → A
clash e = let z : ◌≡◌ {A = ℕ} 0 1 = cc in absurd (omega arith)

-- who has an entry, and that it is its own
pub entry_of_block : (v b : ℕ) (k : Kept) → HasEntry v b k → (i : ℕ) × (index_of v b k.entries ≡ Some i) × (is_block v b (entry_at i k) ≡ true)
entry_of_block v b k h = go (index_of v b k.entries) refl
  where
    go : (o : Option ℕ) → index_of v b k.entries ≡ o → (i : ℕ) × (index_of v b k.entries ≡ Some i) × (is_block v b (entry_at i k) ≡ true)
    go None e = absurd (h e)
    go (Some i) e = (i, e, its_own v b i k.entries e)

pub has_entry : (v b i : ℕ) (k : Kept) → is_block (suc v) b (entry_at i k) ≡ true → HasEntry (suc v) b k
has_entry v b i k t e = clash (sym (none_of (is_block (suc v) b) k.entries free_entry e i (block_inside v b i k.entries t)) ∙ t)

pub entries_thinned : (s k m : Kept) → Thinned k m → EntriesWithin s k → EntriesWithin s m
entries_thinned s k m thin h v b has = go (entry_of_block (suc v) b m has)
  where
    go : (i : ℕ) × (index_of (suc v) b m.entries ≡ Some i) × (is_block (suc v) b (entry_at i m) ≡ true) → HasEntry (suc v) b s
    go f = by (thin f.0)
      where
        by : (entry_at f.0 m ≡ free_entry) ⊎ (entry_at f.0 m ≡ entry_at f.0 k) → HasEntry (suc v) b s
        by (inl e) = clash (sym (no_block v b) ∙ sym (ap (is_block (suc v) b) e) ∙ f.2)
        by (inr e) = h v b (has_entry v b f.0 k (ap (is_block (suc v) b) (sym e) ∙ f.2))

-- after a sector was set its block has one, and others had it before
pub entries_set : (size v n w : ℕ) (blank : Bool) (s k : Kept) (r : WasSet) → Sound size k → sets (suc v) n blank w k ≡ Some r → HasEntry (suc v) (n / 8) s → EntriesWithin s k → EntriesWithin s r.kept
entries_set size v n w blank s k r x e mine h u b has = go (entry_of_block (suc u) b r.kept has)
  where
    means : SetsOne size v n blank w k r
    means = set_means size v n w blank k r x e

    go : (i : ℕ) × (index_of (suc u) b r.kept.entries ≡ Some i) × (is_block (suc u) b (entry_at i r.kept) ≡ true) → HasEntry (suc u) b s
    go f = by r.writes.entry refl
      where
        was : (r.writes.entry ≡ Some f.0 → ⊥) → HasEntry (suc u) b s
        was o = h u b (has_entry u b f.0 k (ap (is_block (suc u) b) (sym (means.elsewhere f.0 o)) ∙ f.2))

        by : (o : Option ℕ) → r.writes.entry ≡ o → HasEntry (suc u) b s
        by None q = was (λ z. let y : None ≡ Some f.0 = sym q ∙ z in let zero_one : ◌≡◌ {A = ℕ} 0 1 = cc in absurd (omega arith))
        by (Some j) q = at (cases_eq j f.0)
          where
            at : (j ≡ f.0) ⊎ (j ≡ f.0 → ⊥) → HasEntry (suc u) b s
            at (inl same) =
                let key : key_of (suc v) (n / 8) ≡ key_of (suc u) b = sym (set_stays_clean.entry size v n w f.0 blank k r x e (q ∙ ap (λ (i : ℕ). Some i) same)) ∙ same_key (suc u) b (entry_at f.0 r.kept) f.2 in
                subst (λ (z : Key). HasEntry z.volume.0 z.block.0 s) key mine
            at (inr o) = was (λ z. let y : Some j ≡ Some f.0 = sym q ∙ z in let same : j ≡ f.0 = cc in absurd (o same))

-- OF A RANGE. Whether an entry is in it goes by its key.
module _ (from : Key) (next : Option Key) where
  none_free : one (is_within from next free_entry) ≡ 0
  unfolding is_within
  none_free = refl

  none_unused : (e : Entry) → e.volume.0 ≡ 0 → one (is_within from next e) ≡ 0
  unfolding is_within
  none_unused e q = ap one (and_left (not (e.volume.0 == 0)) (not (is_before (entry_key e) from) && is_below (entry_key e) next) (ap not (eq-eqb e.volume.0 0 q)))

  by_key : (e f : Entry) → entry_key e ≡ entry_key f → is_within from next e ≡ is_within from next f
  unfolding is_within
  by_key e f q = ap (λ (k : Key). not (k.volume.0 == 0) && (not (is_before k from) && is_below k next)) q

  in_both : (s t : Kept) → EntriesWithin s t → (v b : ℕ) → one (is_within from next (look (suc v) b t.entries)) ≤ one (is_within from next (look (suc v) b s.entries))
  in_both s t h v b = go (index_of (suc v) b t.entries) refl
    where
      go : (o : Option ℕ) → index_of (suc v) b t.entries ≡ o → one (is_within from next (look_in o t.entries)) ≤ one (is_within from next (look (suc v) b s.entries))
      go None e = omega (arith, none_free)
      go (Some i) e =
          let f = entry_of_block (suc v) b s (h v b (λ z. let y : None ≡ Some i = sym z ∙ e in let zero_one : ◌≡◌ {A = ℕ} 0 1 = cc in absurd (omega arith))) in
          let keys : entry_key (entry_at i t) ≡ entry_key (entry_at f.0 s) = same_key (suc v) b (entry_at i t) (its_own (suc v) b i t.entries e) ∙ sym (same_key (suc v) b (entry_at f.0 s) f.2) in
          omega (arith, ap one (by_key (entry_at i t) (entry_at f.0 s) keys), ap (λ (o : Option ℕ). one (is_within from next (look_in o s.entries))) f.1)

  fewer : (size : ℕ) (s t : Kept) → Sound size t → EntriesWithin s t → count_by (is_within from next) t.entries ≤ count_by (is_within from next) s.entries
  fewer size s t x h = weighs_no_more (λ (e : Entry). cond (is_within from next e) 1 0) none_free t.entries s.entries x.single (λ i q. none_unused (entry_at i t) q) (in_both s t h)

pub fewer_in_range : FewerInRange
fewer_in_range size from next s t x h = fewer from next size s t x h
