-- Values read and put one after the other, as loops do.
use Rattle.std.proofs.Common.{◌≡◌, ℕ, suc, ◌-◌, ◌+◌, ◌≤◌, ◌<◌, Bool, true, false, ◌&&◌, T, eqb, List, [], ◌∷◌, ◌++◌, length, map, take, get_or, Result, Ok, Err, refl, sym, ap, ◌∙◌, subst, append_assoc, append-nil, arith}
use Rattle.std.specs.List.{flat_map, list_all}
use Rattle.std.proofs.lemmas.List.{take_all, length-map}
use Rattle.std.proofs.lemmas.List.Folds.{flat_map-map, list_all-map, list_all_at}
use Rattle.std.proofs.lemmas.Bool.Decides.{nat_tests}
use Rattle.octets.proofs.Numbers.{join}
use Rattle.packets.specs.declared.fault.Fault.{Fault}
use Rattle.packets.specs.declared.fault.Unread.{Unread}
use Rattle.packets.specs.declared.fault.Unread.TheVariants as unread
use Rattle.packets.specs.declared.fault.Unsent.{Unsent}
use Rattle.packets.specs.declared.fault.Unsent.TheVariants as unsent
use Rattle.packets.specs.Codecs.{◌>>=◌, Codec, many_at, many, Fails, Unfit}

-- what was read before, and what is still read
abbrev pub with_front : {A : Type 0} → List A → Result (List A × List ℕ) Fault → Result (List A × List ℕ) Fault
with_front front read = read >>= λ x. Ok (front ++ x.0, x.1)

pub front_nil : {A : Type 0} (read : Result (List A × List ℕ) Fault) → with_front [] read ≡ read
front_nil (Ok x) = refl
front_nil (Err f) = refl

pub regroup : {A : Type 0} (front : List A) (n : A) (read : Result (List A × List ℕ) Fault) → with_front front (read >>= λ x. Ok (n ∷ x.0, x.1)) ≡ with_front (front ++ n ∷ []) read
regroup {A = A} front n (Ok x) = ap (λ (ns : List A). Ok (ns, x.1)) (simp append_assoc)
regroup front n (Err f) = refl

module _ {A : Type 0} (c : Codec A) where
  pub goes_on : (front : List A) (count i : ℕ) (bytes : List ℕ) (n : A) (after : List ℕ) (total : Result (List A × List ℕ) Fault) → i < count → c.read bytes ≡ Ok (n, after)
      → with_front front (many_at c (count - i) bytes) ≡ total → with_front (front ++ n ∷ []) (many_at c (count - (i + 1)) after) ≡ total
  unfolding many_at
  goes_on front count i bytes n after total lt h so_far =
      let k : count - i ≡ suc (count - (i + 1)) = omega arith in
      let one : with_front front (many_at c (count - i) bytes) ≡ with_front (front ++ n ∷ []) (many_at c (count - (i + 1)) after) = rw (k, h) (regroup front n (many_at c (count - (i + 1)) after)) in
      sym one ∙ so_far

  pub ends : (e : Unread) (front : List A) (count i : ℕ) (bytes : List ℕ) (total : Result (List A × List ℕ) Fault) → i < count → Fails e (c.read bytes)
      → with_front front (many_at c (count - i) bytes) ≡ total → Fails e total
  unfolding many_at
  ends unread.Memory front count i bytes total lt h so_far = tt
  ends (unread.Fault f) front count i bytes total lt h so_far =
      let k : count - i ≡ suc (count - (i + 1)) = omega arith in
      let one : with_front front (many_at c (count - i) bytes) ≡ Err f = rw (k, h) refl in
      sym so_far ∙ one

  pub is_done : (front : List A) (count i : ℕ) (bytes : List ℕ) (total : Result (List A × List ℕ) Fault) → count ≤ i → with_front front (many_at c (count - i) bytes) ≡ total → total ≡ Ok (front, bytes)
  unfolding many_at
  is_done front count i bytes total le so_far =
      let k : count - i ≡ 0 = omega arith in
      let one : with_front front (many_at c (count - i) bytes) ≡ Ok (front, bytes) = rw k (ap (λ (ns : List A). Ok (ns, bytes)) (append-nil front)) in
      sym so_far ∙ one

-- ---- putting

module _ {A X : Type 0} (c : Codec A) (view : X → A) where
  pub all_put : (xs : List X) (i : ℕ) (old out : List ℕ) → length xs ≤ i → out ≡ old ++ flat_map (λ (x : X). c.bytes (view x)) (take i xs) → T (list_all (λ (x : X). c.fits (view x)) (take i xs))
      → (out ≡ old ++ flat_map c.bytes (map view xs)) × T (eqb (length (map view xs)) (length xs) && list_all c.fits (map view xs))
  all_put xs i old out le e f =
      let all : take i xs ≡ xs = take_all i xs le in
      let long : T (eqb (length (map view xs)) (length xs)) = rw length-map (same (length xs)) in
      (rw flat_map-map (e ∙ ap (λ (ys : List X). old ++ flat_map (λ (x : X). c.bytes (view x)) ys) all), join _ _ long (rw list_all-map (subst (λ (ys : List X). T (list_all (λ (x : X). c.fits (view x)) ys)) all f)))
    where
      same : (n : ℕ) → T (eqb n n)
      same n = grind (arith, nat_tests)

  pub not_put : (e : Unsent) (n i : ℕ) (xs : List X) (x : X) → i < length xs → x ≡ get_or xs i x → Unfit c (view x) e → Unfit (many c n) (map view xs) e
  not_put unsent.Memory n i xs x lt is h = tt
  not_put unsent.TooMuch n i xs x lt is h =
      let one : c.fits (view (get_or xs i x)) ≡ false = ap (λ (y : X). c.fits (view y)) (sym is) ∙ h in
      let none : list_all c.fits (map view xs) ≡ false = list_all-map c.fits view xs ∙ list_all_at (λ (y : X). c.fits (view y)) xs i x lt one in
      rw none (no (eqb (length (map view xs)) n))
    where
      no : (b : Bool) → (b && false) ≡ false
      no true = refl
      no false = refl
