-- A sector of the directory as bytes: its generation, zeros, and entry behind entry. What it was written as is what is read under its
-- generation; under another it has free entries.
use Rattle.std.proofs.Common.{◌≡◌, ℕ, zero, suc, ◌+◌, ◌*◌, ◌^◌, ◌<◌, ◌≤◌, Bool, true, false, cond, ◌==◌, List, [], ◌∷◌, ◌++◌, length, get_or, take, drop, replicate, Some, refl, sym, ap, ◌∙◌, subst, append_assoc, append-nil, arith, length-append, length-take, length-drop}
use borrow.Rule.Slice.PartMut.{put_mid}
use Rattle.std.specs.List.{flat_map}
use Rattle.std.proofs.lemmas.List.{take_at, drop_at, take_more, get_or-take, get_or-drop, flat_map_more, length-replicate, get_or_append_left, get_or-append-add}
use Rattle.std.proofs.lemmas.Bool.{eq-eqb, ne_eqb}
use Rattle.disks.specs.Device.{zeros}
use Rattle.octets.specs.Numbers.{big, bytes_of, field, numbers_bytes}
use Rattle.octets.proofs.Numbers.{length-bytes_of}
use Rattle.octets.proofs.Fields.{length-numbers, big_eight}
use Rattle.pieces.specs.declared.entry.Entry.{Entry}
use Rattle.pieces.specs.Entries.{entry_bytes, entry_of, five_bytes, free_entry, FitsBytes}
use Rattle.pieces.specs.Kept.{Kept, entry_at}
use Rattle.pieces.specs.Loads.{entries_in, sector_bytes, sector_entries, directory_entries, then_load, load_entries}
use Rattle.pieces.proofs.Blank.{defaults}
use Rattle.pieces.proofs.Bytes.{laid_on, read_back}
use Rattle.pieces.proofs.LoadSteps.{long_entries, load_append, load_free}

-- IT IS WRITTEN
-- the generation, onto zeros
pub front_laid : (g : ℕ) (y : List ℕ) → y ≡ bytes_of 8 g → take 64 (put_mid 0 8 (replicate 512 0) y) ≡ (bytes_of 8 g ++ zeros 56) ++ []
unfolding zeros
front_laid g y e =
    ap (λ (z : List ℕ). take 64 (z ++ drop 8 (replicate 512 0))) e ∙ ap (take 64) (sym (append_assoc (bytes_of 8 g) (replicate 56 0) (replicate 448 0)))
    ∙ take_at (bytes_of 8 g ++ replicate 56 0) (replicate 448 0) 64 (omega (arith, length-append (bytes_of 8 g) (replicate 56 0), length-bytes_of 8 g, length-replicate {A = ℕ} 56 0)) ∙ sym (append-nil (bytes_of 8 g ++ zeros 56))

-- IT IS READ BACK
long_five : (ps : List ℕ) → length (flat_map five_bytes ps) ≡ 5 * length ps
long_five [] = refl
long_five (p ∷ ps) = omega (arith, length-append (five_bytes p) (flat_map five_bytes ps), length-bytes_of 5 p, long_five ps)

pub long_entry : (e : Entry) → length e.places ≡ 8 → length (entry_bytes e) ≡ 64
unfolding entry_bytes
long_entry e eight =
    let ns : List ℕ = e.volume.0 ∷ e.block.0 ∷ e.stamp.0 ∷ [] in
    omega (arith, length-append (numbers_bytes ns) (flat_map five_bytes e.places), length-numbers ns, long_five e.places, eight)

-- one entry more is written
pub entry_laid : (i j k : ℕ) (front : List ℕ) (e : Entry) (es : List Entry) (out y : List ℕ) → take (64 + 64 * i) out ≡ front ++ flat_map entry_bytes (take i (drop j es)) → length out ≡ 512 → i < 7 → j + i < length es → e ≡ get_or es (j + i) free_entry → length y ≡ k → k ≡ 64 →
    y ≡ entry_bytes e → take (64 + 64 * (i + 1)) (put_mid (64 + 64 * i) k out y) ≡ front ++ flat_map entry_bytes (take (i + 1) (drop j es))
entry_laid i j k front e es out y held long few inside at whole w same =
    let mine : get_or (drop j es) i free_entry ≡ e = get_or-drop j es i free_entry ∙ sym at in
    laid_on (64 + 64 * i) (64 + 64 * (i + 1)) k (front ++ flat_map entry_bytes (take i (drop j es))) out y (entry_bytes e) held (omega arith) same (sym (ap length same) ∙ whole) (omega arith)
    ∙ flat_map_more entry_bytes front (take i (drop j es)) e ∙ ap (λ (x : Entry). front ++ flat_map entry_bytes (take i (drop j es) ++ x ∷ [])) (sym mine)
    ∙ ap (λ (xs : List Entry). front ++ flat_map entry_bytes xs) (sym (take_more (drop j es) i free_entry (omega (arith, length-drop j es))))

entries_back : (es : List Entry) → ((i : ℕ) → i < length es → FitsBytes (get_or es i free_entry)) → entries_in (length es) (flat_map entry_bytes es) ≡ es
unfolding entries_in
entries_back [] h = refl
entries_back (e ∷ es) h =
    let f = h 0 (omega arith) in
    let long : length (entry_bytes e) ≡ 64 = long_entry e f.eight in
    let first : take 64 (entry_bytes e ++ flat_map entry_bytes es) ≡ entry_bytes e = take_at (entry_bytes e) (flat_map entry_bytes es) 64 long in
    let rest : drop 64 (entry_bytes e ++ flat_map entry_bytes es) ≡ flat_map entry_bytes es = drop_at (entry_bytes e) (flat_map entry_bytes es) 64 long in
    rw (first, rest, read_back e f, entries_back es (λ i l. h (suc i) (omega arith))) refl

-- the generation off the front, and what is behind
front_long : (g : ℕ) → length (bytes_of 8 g ++ zeros 56) ≡ 64
unfolding zeros
front_long g = omega (arith, length-append (bytes_of 8 g) (zeros 56), length-bytes_of 8 g, length-replicate {A = ℕ} 56 0)

front_read : (g : ℕ) (bs : List ℕ) → g < 2 ^ 64 → field 0 (bytes_of 8 g ++ zeros 56 ++ bs) ≡ g
front_read g bs few = ap (field 0) (append_assoc (bytes_of 8 g) (zeros 56) bs) ∙ ap big (take_at (bytes_of 8 g) (zeros 56 ++ bs) 8 (length-bytes_of 8 g)) ∙ big_eight g few

behind_front : (g : ℕ) (bs : List ℕ) → drop 64 (bytes_of 8 g ++ zeros 56 ++ bs) ≡ bs
behind_front g bs = drop_at (bytes_of 8 g ++ zeros 56) bs 64 (front_long g)

pub sector_back : (g j : ℕ) (k : Kept) → g < 2 ^ 64 → ((i : ℕ) → FitsBytes (entry_at i k)) → 7 * j + 7 ≤ length k.entries → sector_entries g (sector_bytes g j k) ≡ take 7 (drop (7 * j) k.entries)
sector_back g j k few h inside =
    let es : List Entry = take 7 (drop (7 * j) k.entries) in
    let seven : length (take 7 (drop (7 * j) k.entries)) ≡ 7 = simp (length-take, length-drop) (omega arith) in
    ap (λ (b : Bool). cond b (entries_in 7 (drop 64 (sector_bytes g j k))) (replicate 7 free_entry)) (eq-eqb (field 0 (sector_bytes g j k)) g (front_read g (flat_map entry_bytes (take 7 (drop (7 * j) k.entries))) few))
    ∙ ap (entries_in 7) (behind_front g (flat_map entry_bytes (take 7 (drop (7 * j) k.entries)))) ∙ ap (λ (n : ℕ). entries_in n (flat_map entry_bytes (take 7 (drop (7 * j) k.entries)))) (sym seven)
    ∙ entries_back (take 7 (drop (7 * j) k.entries)) (λ i l. subst FitsBytes (sym (get_or-take 7 (drop (7 * j) k.entries) i free_entry (omega (arith, seven)) ∙ get_or-drop (7 * j) k.entries i free_entry)) (h (7 * j + i)))

pub sector_other : (g h j : ℕ) (k : Kept) → g < 2 ^ 64 → (g ≡ h → ⊥) → sector_entries h (sector_bytes g j k) ≡ replicate 7 free_entry
sector_other g h j k few other =
    let read : field 0 (sector_bytes g j k) ≡ g = front_read g (flat_map entry_bytes (take 7 (drop (7 * j) k.entries))) few in
    ap (λ (b : Bool). cond b (entries_in 7 (drop 64 (sector_bytes g j k))) (replicate 7 free_entry)) (ne_eqb (field 0 (sector_bytes g j k)) h (λ e. other (sym read ∙ e)))

-- a sector of zeros has free entries under each
pub sector_blank : (g : ℕ) → sector_entries g (zeros 512) ≡ replicate 7 free_entry
unfolding zeros entries_in entry_of
sector_blank g = go (0 == g)
  where
    go : (b : Bool) → cond b (entries_in 7 (zeros 448)) (replicate 7 free_entry) ≡ replicate 7 free_entry
    go true = refl
    go false = refl

pub loads_other : (lives : ℕ → Bool) (i g : ℕ) (bs : List ℕ) (k : Kept) → lives 0 ≡ false → (field 0 bs == g) ≡ false → load_entries lives i (sector_entries g bs) k ≡ Some k
loads_other lives i g bs k nobody e = ap (λ (b : Bool). load_entries lives i (cond b (entries_in 7 (drop 64 bs)) (replicate 7 free_entry)) k) e ∙ load_free lives i 7 k nobody

pub seven_entries : (g : ℕ) (bs : List ℕ) → length (sector_entries g bs) ≡ 7
seven_entries g bs = go (field 0 bs == g)
  where
    go : (b : Bool) → length (cond b (entries_in 7 (drop 64 bs)) (replicate 7 free_entry)) ≡ 7
    go true = long_entries 7 (drop 64 bs)
    go false = refl

-- ALL SECTORS
pub sector_entry : (g j i : ℕ) (bss : List (List ℕ)) → i < 7 → get_or (directory_entries g bss) (7 * j + i) free_entry ≡ get_or (sector_entries g (get_or bss j (zeros 512))) i free_entry
sector_entry g j i [] l = sym (ap (λ (es : List Entry). get_or es i free_entry) (sector_blank g) ∙ defaults 7 free_entry i)
sector_entry g zero i (bs ∷ bss) l =
    let first : 7 * 0 + i ≡ i = omega arith in
    ap (λ (n : ℕ). get_or (directory_entries g (bs ∷ bss)) n free_entry) first ∙ get_or_append_left (sector_entries g bs) (directory_entries g bss) free_entry i (omega (arith, seven_entries g bs))
sector_entry g (suc j) i (bs ∷ bss) l =
    let further : 7 * suc j + i ≡ length (sector_entries g bs) + (7 * j + i) = omega (arith, seven_entries g bs) in
    ap (λ (n : ℕ). get_or (directory_entries g (bs ∷ bss)) n free_entry) further ∙ get_or-append-add (sector_entries g bs) (directory_entries g bss) (7 * j + i) free_entry ∙ sector_entry g j i bss l

pub sectors_more : (lives : ℕ → Bool) (g i : ℕ) (bs : List ℕ) (bss : List (List ℕ)) (k : Kept) → load_entries lives i (directory_entries g (bs ∷ bss)) k ≡ then_load (load_entries lives (i + 7) (directory_entries g bss)) (load_entries lives i (sector_entries g bs) k)
sectors_more lives g i bs bss k =
    load_append lives i (sector_entries g bs) (directory_entries g bss) k ∙ ap (λ (n : ℕ). then_load (load_entries lives (i + n) (directory_entries g bss)) (load_entries lives i (sector_entries g bs) k)) (seven_entries g bs)
