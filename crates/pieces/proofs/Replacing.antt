-- What is listed to be written, step by step: what places hold then, and that no entry that changed is missing.
use Rattle.std.proofs.Common.{◌≡◌, ◌⊎◌, inl, inr, ℕ, zero, suc, ◌+◌, ◌*◌, ◌/◌, ◌%◌, ◌<◌, ◌≤◌, Bool, true, false, cond, ◌||◌, ◌==◌, List, [], ◌∷◌, ◌++◌, drop, length, get_or, Some, None, Err, Option, Result, refl, sym, ap, ◌∙◌, subst, arith, add-one, nat_lt, vec_items}
use Rattle.std.specs.List.{count_by}
use Rattle.std.specs.Option.{option_map}
use Rattle.std.proofs.lemmas.List.{get_or-set_other, get_or_default, drop_more, at_drop_all}
use Rattle.std.proofs.lemmas.Bool.{ltb-true, eq-eqb, cases_eq}
use Rattle.disks.specs.Disks.{all_zero}
use Rattle.pieces.specs.declared.entry.Entry.{Entry}
use Rattle.pieces.specs.declared.set.Writes.{Writes}
use Rattle.pieces.specs.declared.set.Unset.{Unset}
use Rattle.pieces.specs.declared.set.Unset.TheVariants.{NoRoom, NoMemory}
use Rattle.pieces.specs.declared.filled.Written.{Written}
use Rattle.pieces.specs.declared.filled.Replaced.{Replaced}
use Rattle.pieces.specs.declared.changed.Key.{Key}
use Rattle.pieces.specs.Entries.{free_entry}
use Rattle.pieces.specs.Ranges.{is_within}
use Rattle.pieces.specs.Kept.{Kept, Claim, WasSet, claimed, was_set, entry_at, index_of, vacant, raised, is_risen, frees_place, puts_place, cleared, vacated, claims, claims_of, claims_new, claims_entry, sets, sets_blank, sets_bytes, place_for}
use Rattle.pieces.specs.Meaning.{stored_at}
use Rattle.pieces.specs.Replaces.{Held, Filled, set_of, sets_held, then_held, fills_slots, fills, fills_all, vacates_at, vacates_where, emptied, floor_raised, replaces}
use Rattle.pieces.specs.Replacing.{overlaid, is_listed, indices_where, with_entry, with_sector, with_written, gives_up, begins, Goes, DoesHeld, Comes, DoesAll}

clash : {A : Type 0} → true ≡ false → A
clash e = let z : ◌≡◌ {A = ℕ} 0 1 = cc in absurd (omega arith)

-- the last that is written is there
overlaid_last : (ws : List Written) (p : ℕ) (bs : List ℕ) (d : ℕ → List ℕ) → overlaid (ws ++ record { place = p; bytes = bs } ∷ []) d ≡ stored_at (Some p) bs (overlaid ws d)
unfolding overlaid
overlaid_last [] p bs d = refl
overlaid_last (w ∷ ws) p bs d = overlaid_last ws p bs (stored_at (Some w.place) w.bytes d)

overlaid_with : (o : Option ℕ) (bs : List ℕ) (ws : List Written) (d : ℕ → List ℕ) → overlaid (with_sector o bs ws) d ≡ stored_at o bs (overlaid ws d)
overlaid_with None bs ws d = refl
overlaid_with (Some p) bs ws d = overlaid_last ws p bs d

listed_last : (j i : ℕ) (is : List ℕ) → is_listed j (is ++ i ∷ []) ≡ false → (is_listed j is ≡ false) × (i ≡ j → ⊥)
listed_last j i [] e = (refl, λ q. go (i == j) (eq-eqb i j q) e)
  where
    go : (b : Bool) → b ≡ true → b || false ≡ false → ⊥
    go true t f = clash f
    go false t f = clash (sym t)
listed_last j i (h ∷ is) e = go (h == j) e (listed_last j i is)
  where
    go : (b : Bool) → b || is_listed j (is ++ i ∷ []) ≡ false → (is_listed j (is ++ i ∷ []) ≡ false → (is_listed j is ≡ false) × (i ≡ j → ⊥)) → (b || is_listed j is ≡ false) × (i ≡ j → ⊥)
    go true f g = clash f
    go false f g = g f

listed_with : (o : Option ℕ) (j : ℕ) (is : List ℕ) → is_listed j (with_entry o is) ≡ false → (is_listed j is ≡ false) × (o ≡ Some j → ⊥)
listed_with None j is e = (e, λ q. let z : ◌≡◌ {A = ℕ} 0 1 = cc in absurd (omega arith))
listed_with (Some i) j is e =
    let f = listed_last j i is e in
    (f.0, λ q. f.1 (let s : i ≡ j = cc in s))

-- claiming changes the entry that it gives only
claim_elsewhere : (v b w j : ℕ) (k : Kept) (c : Claim) → claims v b w k ≡ Some c → (c.index ≡ j → ⊥) → entry_at j c.kept ≡ entry_at j k
unfolding claims claims_entry
claim_elsewhere v b w j k c e o = go (index_of v b k.entries) e
  where
    new : (u : Option ℕ) → claims_new v b w u k ≡ Some c → entry_at j c.kept ≡ entry_at j k
    new None q = let z : ◌≡◌ {A = ℕ} 0 1 = cc in absurd (omega arith)
    new (Some i) q =
        let same : claimed i (claims_entry v b w i k) ≡ c = cc in
        ap (λ (z : Claim). entry_at j z.kept) (sym same) ∙ get_or-set_other k.entries i j _ free_entry (λ (z : j ≡ i). o (sym (ap (λ (y : Claim). y.index) same) ∙ sym z))

    go : (i : Option ℕ) → claims_of v b w i k ≡ Some c → entry_at j c.kept ≡ entry_at j k
    go (Some i) q = let same : claimed i k ≡ c = cc in ap (λ (z : Claim). entry_at j z.kept) (sym same)
    go None q = new (vacant k.entries) q

frees_elsewhere : (i s w j : ℕ) (k : Kept) → (i ≡ j → ⊥) → entry_at j (frees_place i s w k) ≡ entry_at j k
unfolding frees_place
frees_elsewhere i s w j k o = get_or-set_other k.entries i j _ free_entry (λ (z : j ≡ i). o (sym z))

puts_elsewhere : (i s p w j : ℕ) (k : Kept) → (i ≡ j → ⊥) → entry_at j (puts_place i s p w k) ≡ entry_at j k
unfolding puts_place
puts_elsewhere i s p w j k o = get_or-set_other k.entries i j _ free_entry (λ (z : j ≡ i). o (sym z))

-- so does setting, whether or not the directory is sound
sets_elsewhere : (v n w j : ℕ) (blank : Bool) (k : Kept) (r : WasSet) → sets v n blank w k ≡ Some r → (r.writes.entry ≡ Some j → ⊥) → entry_at j r.kept ≡ entry_at j k
unfolding sets
sets_elsewhere v n w j true k r e o = go (claims v (n / 8) w k) refl e
  where
    go : (c : Option Claim) → claims v (n / 8) w k ≡ c → sets_blank (n % 8) w c k ≡ Some r → entry_at j r.kept ≡ entry_at j k
    go None q f =
        let same : was_set (record { place = None; entry = None; floor = is_risen k (raised w k) }) (raised w k) ≡ r = cc in
        ap (λ (z : WasSet). entry_at j z.kept) (sym same)
    go (Some c) q f =
        let same : was_set (record { place = None; entry = Some c.index; floor = is_risen k c.kept }) (frees_place c.index (n % 8) w c.kept) ≡ r = cc in
        let other : c.index ≡ j → ⊥ = λ z. o (sym (ap (λ (y : WasSet). y.writes.entry) same) ∙ ap (λ (i : ℕ). Some i) z) in
        ap (λ (z : WasSet). entry_at j z.kept) (sym same) ∙ frees_elsewhere c.index (n % 8) w j c.kept other ∙ claim_elsewhere v (n / 8) w j k c q other
sets_elsewhere v n w j false k r e o = go (place_for v n k) (claims v (n / 8) w k) refl e
  where
    go : (p : Option ℕ) (c : Option Claim) → claims v (n / 8) w k ≡ c → sets_bytes (n % 8) w p c k ≡ Some r → entry_at j r.kept ≡ entry_at j k
    go None c q f = let z : ◌≡◌ {A = ℕ} 0 1 = cc in absurd (omega arith)
    go (Some p) None q f = let z : ◌≡◌ {A = ℕ} 0 1 = cc in absurd (omega arith)
    go (Some p) (Some c) q f =
        let same : was_set (record { place = Some p; entry = Some c.index; floor = is_risen k c.kept }) (puts_place c.index (n % 8) p w c.kept) ≡ r = cc in
        let other : c.index ≡ j → ⊥ = λ z. o (sym (ap (λ (y : WasSet). y.writes.entry) same) ∙ ap (λ (i : ℕ). Some i) z) in
        ap (λ (z : WasSet). entry_at j z.kept) (sym same) ∙ puts_elsewhere c.index (n % 8) p w j c.kept other ∙ claim_elsewhere v (n / 8) w j k c q other

-- a sector that is set
pub set_goes : (v n w : ℕ) (bs : List ℕ) (k m : Kept) (x : Writes) (r t : Replaced) → sets v n (all_zero bs) w k ≡ Some (was_set x m) → vec_items t.entries ≡ with_entry x.entry (vec_items r.entries) → vec_items t.sectors ≡ with_sector x.place bs (vec_items r.sectors) → Goes (sets_held v n bs w) k r m t
unfolding sets_held
set_goes v n w bs k m x r t e f g = record {
  held = λ d. ap (set_of bs (overlaid (vec_items r.sectors) d)) e ∙ ap (λ (z : ℕ → List ℕ). Some (record { kept = m; data' = z })) (sym (ap (λ (ws : List Written). overlaid ws d) g ∙ overlaid_with x.place bs (vec_items r.sectors) d));
  entries = λ j l.
      let y = listed_with x.entry j (vec_items r.entries) (sym (ap (is_listed j) f) ∙ l) in
      (y.0, sets_elsewhere v n w j (all_zero bs) k (was_set x m) e y.1);
}

-- A change of which one part is done, and the rest is still to do.
pub record Left (f g : Held → Option Held) (k : Kept) (r : Replaced) (m : Kept) (t : Replaced) : Type 0 where
  pub held : (d : ℕ → List ℕ) → f (with_written k r d) ≡ g (with_written m t d)
  pub entries : (j : ℕ) → is_listed j (vec_items t.entries) ≡ false → (is_listed j (vec_items r.entries) ≡ false) × (entry_at j m ≡ entry_at j k)

pub left_all : (f : Held → Option Held) (k : Kept) (r : Replaced) → Left f f k r k r
left_all f k r = record { held = λ d. refl; entries = λ j l. (l, refl) }

pub left_one : (f g p q : Held → Option Held) (k m o : Kept) (r t u : Replaced) → ((h : Held) → g h ≡ then_held q (p h)) → Left f g k r m t → Goes p m t o u → Left f q k r o u
left_one f g p q k m o r t u same x y = record {
  held = λ d. x.held d ∙ same (with_written m t d) ∙ ap (then_held q) (y.held d);
  entries = λ j l. let a = y.entries j l in let b = x.entries j a.0 in (b.0, a.1 ∙ b.1);
}

pub left_stuck : (f g p q : Held → Option Held) (k m : Kept) (r t : Replaced) → ((h : Held) → g h ≡ then_held q (p h)) → Left f g k r m t → ((d : ℕ → List ℕ) → p (with_written m t d) ≡ None) → (d : ℕ → List ℕ) → f (with_written k r d) ≡ None
left_stuck f g p q k m r t same x e d = x.held d ∙ same (with_written m t d) ∙ ap (then_held q) (e d)

pub left_none : (f g : Held → Option Held) (k m : Kept) (r t : Replaced) → ((h : Held) → g h ≡ Some h) → Left f g k r m t → Goes f k r m t
left_none f g k m r t same x = record { held = λ d. x.held d ∙ same (with_written m t d); entries = x.entries }

-- A block's sectors, one after the other.
fill_more : (v b w s : ℕ) (xs : List (List ℕ)) (x : List ℕ) (h : Held) → s < length xs → get_or xs s x ≡ x → fills_slots v b w s (drop s xs) h ≡ then_held (fills_slots v b w (s + 1) (drop (s + 1) xs)) (sets_held v (8 * b + s) x w h)
unfolding fills_slots
fill_more v b w s xs x h l e =
    ap (λ (z : List (List ℕ)). fills_slots v b w s z h) (drop_more xs s x l) ∙ ap (λ (z : ℕ). then_held (fills_slots v b w z (drop (s + 1) xs)) (sets_held v (8 * b + s) (get_or xs s x) w h)) (sym (add-one s)) ∙
    ap (λ (z : List ℕ). then_held (fills_slots v b w (s + 1) (drop (s + 1) xs)) (sets_held v (8 * b + s) z w h)) e

fill_end : (v b w s : ℕ) (xs : List (List ℕ)) (h : Held) → length xs ≤ s → fills_slots v b w s (drop s xs) h ≡ Some h
unfolding fills_slots
fill_end v b w s xs h l = at_drop_all (λ (z : List (List ℕ)). fills_slots v b w s z h) xs s l

pub slots_one : (v b w s : ℕ) (xs : List (List ℕ)) (x : List ℕ) (f : Held → Option Held) (k m o : Kept) (r t u : Replaced) → s < length xs → get_or xs s x ≡ x → Left f (fills_slots v b w s (drop s xs)) k r m t → Goes (sets_held v (8 * b + s) x w) m t o u →
    Left f (fills_slots v b w (s + 1) (drop (s + 1) xs)) k r o u
slots_one v b w s xs x f k m o r t u l e y z = left_one f (fills_slots v b w s (drop s xs)) (sets_held v (8 * b + s) x w) (fills_slots v b w (s + 1) (drop (s + 1) xs)) k m o r t u (λ h. fill_more v b w s xs x h l e) y z

slots_stuck : (v b w s : ℕ) (xs : List (List ℕ)) (x : List ℕ) (f : Held → Option Held) (k m : Kept) (r t : Replaced) → s < length xs → get_or xs s x ≡ x → Left f (fills_slots v b w s (drop s xs)) k r m t → ((d : ℕ → List ℕ) → sets_held v (8 * b + s) x w (with_written m t d) ≡ None) →
    (d : ℕ → List ℕ) → f (with_written k r d) ≡ None
slots_stuck v b w s xs x f k m r t l e y z = left_stuck f (fills_slots v b w s (drop s xs)) (sets_held v (8 * b + s) x w) (fills_slots v b w (s + 1) (drop (s + 1) xs)) k m r t (λ h. fill_more v b w s xs x h l e) y z

pub slots_done : (v b w s : ℕ) (xs : List (List ℕ)) (f : Held → Option Held) (k m : Kept) (r t : Replaced) → length xs ≤ s → Left f (fills_slots v b w s (drop s xs)) k r m t → Goes f k r m t
slots_done v b w s xs f k m r t l x = left_none f (fills_slots v b w s (drop s xs)) k m r t (λ h. fill_end v b w s xs h l) x

-- Blocks, one after the other.
blocks_more : (i : ℕ) (xs : List Filled) (x : Filled) (h : Held) → i < length xs → get_or xs i x ≡ x → fills_all (drop i xs) h ≡ then_held (fills_all (drop (i + 1) xs)) (fills x h)
unfolding fills_all
blocks_more i xs x h l e = ap (λ (z : List Filled). fills_all z h) (drop_more xs i x l) ∙ ap (λ (z : Filled). then_held (fills_all (drop (i + 1) xs)) (fills z h)) e

blocks_end : (i : ℕ) (xs : List Filled) (h : Held) → length xs ≤ i → fills_all (drop i xs) h ≡ Some h
unfolding fills_all
blocks_end i xs h l = at_drop_all (λ (z : List Filled). fills_all z h) xs i l

pub blocks_one : (i : ℕ) (xs : List Filled) (x : Filled) (f : Held → Option Held) (k m o : Kept) (r t u : Replaced) → i < length xs → get_or xs i x ≡ x → Left f (fills_all (drop i xs)) k r m t → Goes (fills x) m t o u → Left f (fills_all (drop (i + 1) xs)) k r o u
blocks_one i xs x f k m o r t u l e y z = left_one f (fills_all (drop i xs)) (fills x) (fills_all (drop (i + 1) xs)) k m o r t u (λ h. blocks_more i xs x h l e) y z

pub blocks_stuck : (i : ℕ) (xs : List Filled) (x : Filled) (f : Held → Option Held) (k m : Kept) (r t : Replaced) → i < length xs → get_or xs i x ≡ x → Left f (fills_all (drop i xs)) k r m t → ((d : ℕ → List ℕ) → fills x (with_written m t d) ≡ None) → (d : ℕ → List ℕ) → f (with_written k r d) ≡ None
blocks_stuck i xs x f k m r t l e y z = left_stuck f (fills_all (drop i xs)) (fills x) (fills_all (drop (i + 1) xs)) k m r t (λ h. blocks_more i xs x h l e) y z

pub blocks_done : (i : ℕ) (xs : List Filled) (f : Held → Option Held) (k m : Kept) (r t : Replaced) → length xs ≤ i → Left f (fills_all (drop i xs)) k r m t → Goes f k r m t
blocks_done i xs f k m r t l x = left_none f (fills_all (drop i xs)) k m r t (λ h. blocks_end i xs h l) x

-- What doesn't go ends the whole.
pub slots_fail : (v b w s : ℕ) (xs : List (List ℕ)) (x : List ℕ) (f : Held → Option Held) (k m o p : Kept) (r t u q : Replaced) (e : Unset) → s < length xs → get_or xs s x ≡ x → Left f (fills_slots v b w s (drop s xs)) k r m t → DoesHeld (sets_held v (8 * b + s) x w) m t (Err e) o u → DoesHeld f k r (Err e) p q
slots_fail v b w s xs x f k m o p r t u q NoRoom l e y z = slots_stuck v b w s xs x f k m r t l e y z
slots_fail v b w s xs x f k m o p r t u q NoMemory l e y z = tt

pub blocks_fail : (i : ℕ) (xs : List Filled) (x : Filled) (f : Held → Option Held) (k m o p : Kept) (r t u q : Replaced) (e : Unset) → i < length xs → get_or xs i x ≡ x → Left f (fills_all (drop i xs)) k r m t → DoesHeld (fills x) m t (Err e) o u → DoesHeld f k r (Err e) p q
blocks_fail i xs x f k m o p r t u q NoRoom l s y z = blocks_stuck i xs x f k m r t l s y z
blocks_fail i xs x f k m o p r t u q NoMemory l s y z = tt

-- The indices of those that are chosen.
pub indices_none : (f : Entry → Bool) (es : List Entry) → [] ≡ indices_where f 0 es
unfolding indices_where
indices_none f es = refl

pub indices_more : (f : Entry → Bool) (i : ℕ) (es : List Entry) (d : Entry) (is js : List ℕ) → i < length es → is ≡ indices_where f i es → f (get_or es i d) ≡ true → js ≡ is ++ i ∷ [] → js ≡ indices_where f (i + 1) es
unfolding indices_where
indices_more f i es d is js l e t g = let t2 : f (get_or es i free_entry) ≡ true = ap f (get_or_default es i free_entry d l) ∙ t in rw (add-one, t2, g, e) refl

pub indices_same : (f : Entry → Bool) (i : ℕ) (es : List Entry) (d : Entry) (is js : List ℕ) → i < length es → is ≡ indices_where f i es → f (get_or es i d) ≡ false → js ≡ is → js ≡ indices_where f (i + 1) es
unfolding indices_where
indices_same f i es d is js l e t g = let t2 : f (get_or es i free_entry) ≡ false = ap f (get_or_default es i free_entry d l) ∙ t in rw (add-one, t2, g, e) refl

listed_here : (i : ℕ) (is : List ℕ) → is_listed i (is ++ i ∷ []) ≡ true
listed_here i [] = rw (eq-eqb i i refl) refl
listed_here i (h ∷ is) = go (h == i) (listed_here i is)
  where
    go : (b : Bool) → is_listed i (is ++ i ∷ []) ≡ true → b || is_listed i (is ++ i ∷ []) ≡ true
    go true e = refl
    go false e = e

-- one that isn't listed isn't chosen
unchosen : (f : Entry → Bool) (n j : ℕ) (es : List Entry) → is_listed j (indices_where f n es) ≡ false → j < n → f (get_or es j free_entry) ≡ false
unfolding indices_where
unchosen f zero j es e l = absurd (omega arith)
unchosen f (suc n) j es e l = go (f (get_or es n free_entry)) refl e (cases_eq j n) (unchosen f n j es)
  where
    go : (b : Bool) → f (get_or es n free_entry) ≡ b → is_listed j (cond b (indices_where f n es ++ n ∷ []) (indices_where f n es)) ≡ false → (j ≡ n) ⊎ (j ≡ n → ⊥) → (is_listed j (indices_where f n es) ≡ false → j < n → f (get_or es j free_entry) ≡ false) → f (get_or es j free_entry) ≡ false
    go true t q (inl s) h = clash (sym (listed_here j (indices_where f n es)) ∙ ap (λ (i : ℕ). is_listed j (indices_where f n es ++ i ∷ [])) s ∙ q)
    go true t q (inr o) h = h (listed_last j n (indices_where f n es) q).0 (omega arith)
    go false t q (inl s) h = ap (λ (i : ℕ). f (get_or es i free_entry)) s ∙ t
    go false t q (inr o) h = h q (omega arith)

-- giving up changes no other
cleared_elsewhere : (i s j : ℕ) (k : Kept) → (i ≡ j → ⊥) → entry_at j (cleared i s k) ≡ entry_at j k
unfolding cleared
cleared_elsewhere i zero j k o = refl
cleared_elsewhere i (suc s) j k o = frees_elsewhere i s 0 j (cleared i s k) o ∙ cleared_elsewhere i s j k o

vacated_elsewhere : (i j : ℕ) (k : Kept) → (i ≡ j → ⊥) → entry_at j (vacated i k) ≡ entry_at j k
unfolding vacated
vacated_elsewhere i j k o = get_or-set_other (cleared i 8 k).entries i j free_entry free_entry (λ (z : j ≡ i). o (sym z)) ∙ cleared_elsewhere i 8 j k o

where_elsewhere : (f : Entry → Bool) (n j : ℕ) (k : Kept) → (j < n → f (entry_at j k) ≡ false) → entry_at j (vacates_where f n k) ≡ entry_at j k
unfolding vacates_where vacates_at
where_elsewhere f zero j k h = refl
where_elsewhere f (suc n) j k h = go (f (entry_at n (vacates_where f n k))) refl (cases_eq j n) (where_elsewhere f n j k (λ l. h (omega arith)))
  where
    go : (b : Bool) → f (entry_at n (vacates_where f n k)) ≡ b → (j ≡ n) ⊎ (j ≡ n → ⊥) → entry_at j (vacates_where f n k) ≡ entry_at j k → entry_at j (cond b (vacated n (vacates_where f n k)) (vacates_where f n k)) ≡ entry_at j k
    go false t c e = e
    go true t (inr o) e = vacated_elsewhere n j (vacates_where f n k) (λ z. o (sym z)) ∙ e
    go true t (inl s) e = clash (sym t ∙ ap (λ (i : ℕ). f (entry_at i (vacates_where f n k))) (sym s) ∙ ap f e ∙ h (omega arith))

-- a range that is given up
pub given_up : (from : Key) (next : Option Key) (most : ℕ) (k m : Kept) (r : Replaced) → count_by (is_within from next) k.entries ≤ most → m ≡ vacates_where (is_within from next) (length k.entries) k →
    vec_items r.entries ≡ indices_where (is_within from next) (length k.entries) k.entries → vec_items r.sectors ≡ [] → Comes (gives_up from next most) k m r
unfolding overlaid
given_up from next most k m r few e f none = record {
  held = λ d.
      ap (λ (b : Bool). cond b None (Some (emptied from next (record { kept = k; data' = d })))) (no_more (nat_lt most (count_by (is_within from next) k.entries)) refl) ∙ ap (λ (z : Kept). Some (record { kept = z; data' = d })) (sym e) ∙
      ap (λ (ws : List Written). Some (record { kept = m; data' = overlaid ws d })) (sym none);
  entries = λ j l. ap (entry_at j) e ∙ where_elsewhere (is_within from next) (length k.entries) j k (λ q. unchosen (is_within from next) (length k.entries) j k.entries (sym (ap (is_listed j) f) ∙ l) q);
}
  where
    no_more : (b : Bool) → nat_lt most (count_by (is_within from next) k.entries) ≡ b → nat_lt most (count_by (is_within from next) k.entries) ≡ false
    no_more true t = absurd (omega (arith, few, ltb-true most (count_by (is_within from next) k.entries) t))
    no_more false t = t

-- nothing is to be written yet
pub begun : (from : Key) (next : Option Key) (whole : Bool) (most : ℕ) (k : Kept) (r : Replaced) → whole ≡ false → vec_items r.sectors ≡ [] → Comes (begins from next whole most) k k r
unfolding overlaid
begun from next whole most k r part e =
    subst (λ (b : Bool). Comes (begins from next b most) k k r) (sym part) (record { held = λ d. ap (λ (ws : List Written). Some (record { kept = k; data' = overlaid ws d })) (sym e); entries = λ j l. refl })

-- The whole: what goes first, what is set, and the floor.
replaced_as : (from : Key) (next : Option Key) (whole : Bool) (most floor : ℕ) (bs : List Filled) (h : Held) → replaces from next whole most floor bs h ≡ option_map (floor_raised floor) (then_held (fills_all bs) (begins from next whole most h))
unfolding replaces
replaced_as from next false most floor bs h = refl
replaced_as from next true most floor bs h = go (nat_lt most (count_by (is_within from next) h.kept.entries))
  where
    go : (b : Bool) → cond b None (option_map (floor_raised floor) (fills_all bs (emptied from next h))) ≡ option_map (floor_raised floor) (then_held (fills_all bs) (cond b None (Some (emptied from next h))))
    go true = refl
    go false = refl

pub replaced_all : (from : Key) (next : Option Key) (whole : Bool) (most floor : ℕ) (bs : List Filled) (k m o p : Kept) (r t : Replaced) → Comes (begins from next whole most) k m r → Goes (fills_all bs) m r o t → p ≡ raised floor o → Comes (replaces from next whole most floor bs) k p t
replaced_all from next whole most floor bs k m o p r t x y e = record {
  held = λ d. replaced_as from next whole most floor bs (record { kept = k; data' = d }) ∙ ap (λ (z : Option Held). option_map (floor_raised floor) (then_held (fills_all bs) z)) (x.held d) ∙ ap (option_map (floor_raised floor)) (y.held d) ∙
      ap (λ (z : Kept). Some (with_written z t d)) (sym e);
  entries = λ j l. let a = y.entries j l in ap (entry_at j) e ∙ a.1 ∙ x.entries j a.0;
}

pub begin_fails : (from : Key) (next : Option Key) (whole : Bool) (most floor : ℕ) (bs : List Filled) (k m p : Kept) (e : Unset) → DoesAll (begins from next whole most) k (Err e) m → DoesAll (replaces from next whole most floor bs) k (Err e) p
begin_fails from next whole most floor bs k m p NoRoom x = λ d. replaced_as from next whole most floor bs (record { kept = k; data' = d }) ∙ ap (λ (z : Option Held). option_map (floor_raised floor) (then_held (fills_all bs) z)) (x d)
begin_fails from next whole most floor bs k m p NoMemory x = tt

pub fill_fails : (from : Key) (next : Option Key) (whole : Bool) (most floor : ℕ) (bs : List Filled) (k m o p : Kept) (r t : Replaced) (e : Unset) → Comes (begins from next whole most) k m r → DoesHeld (fills_all bs) m r (Err e) o t → DoesAll (replaces from next whole most floor bs) k (Err e) p
fill_fails from next whole most floor bs k m o p r t NoRoom x y = λ d.
    replaced_as from next whole most floor bs (record { kept = k; data' = d }) ∙ ap (λ (z : Option Held). option_map (floor_raised floor) (then_held (fills_all bs) z)) (x.held d) ∙ ap (option_map (floor_raised floor)) (y d)
fill_fails from next whole most floor bs k m o p r t NoMemory x y = tt

-- the error that is handed on
pub handed_on : (f : Held → Option Held) (k m : Kept) (r t : Replaced) (q : Result Unit Unset) (e : Unset) → q ≡ Err e → DoesHeld f k r (Err e) m t → DoesHeld f k r q m t
handed_on f k m r t q e same x = subst (λ (z : Result Unit Unset). DoesHeld f k r z m t) (sym same) x

pub all_handed_on : (f : Held → Option Held) (k m : Kept) (q : Result Replaced Unset) (e : Unset) → q ≡ Err e → DoesAll f k (Err e) m → DoesAll f k q m
all_handed_on f k m q e same x = subst (λ (z : Result Replaced Unset). DoesAll f k z m) (sym same) x
