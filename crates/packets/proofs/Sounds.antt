-- Each way of putting codecs together keeps them sound.
use Rattle.std.proofs.Common.{◌≡◌, ℕ, zero, suc, ◌^◌, ◌<◌, ◌≤◌, Bool, true, false, cond, ◌&&◌, T, ltb, leb, eqb, List, [], ◌∷◌, ◌++◌, length, take, drop, Result, Ok, Err, ◌⊎◌, inl, inr, sym, refl, ap, ◌∙◌, subst, append_assoc, append-nil, arith, length-append, length-take, take-append-drop, ltb→lt, lt→ltb, eqb→eq}
use Rattle.std.proofs.lemmas.List.{take_at, drop_at, nil_from_length}
use Rattle.std.proofs.lemmas.Bool.{le-ltb, ltb-false}
use Rattle.std.proofs.lemmas.Bool.Decides.{nat_tests}
use Rattle.std.specs.List.{flat_map, list_all}
use Rattle.disks.specs.Device.{all_bytes}
use Rattle.octets.specs.Numbers.{big, bytes_of}
use Rattle.octets.proofs.Numbers.{length-bytes_of, big-bytes_of, both, join, first_byte}
use Rattle.octets.proofs.Fields.{bytes-front, front_below}
use Rattle.packets.specs.declared.fault.Fault.{Fault}
use Rattle.packets.specs.declared.fault.Fault.TheVariants.{Short, Range, Left}
use Rattle.packets.specs.Codecs.{◌>>=◌, Codec, Sound, number, number_at, text_at, ◌then◌, shaped, many, many_at, listed, exactly, empty, constant, Kinds, SoundKinds, only, or_kind, of_kinds, whole, SoundWhole}

-- the value of a step that did not fail
pub bind_ok : {A B : Type 0} (r : Result A Fault) (f : A → Result B Fault) (y : B) → (r >>= f) ≡ Ok y → (x : A) × (r ≡ Ok x) × (f x ≡ Ok y)
bind_ok (Ok x) f y e = (x, refl, e)
bind_ok (Err d) f y e = absurd cc

-- a test that did not fail, and one that had to hold
pub guard_ok : {A : Type 0} (b : Bool) (d : Fault) (y : Result A Fault) (z : A) → cond b (Err d) y ≡ Ok z → (b ≡ false) × (y ≡ Ok z)
guard_ok true d y z e = absurd cc
guard_ok false d y z e = (refl, e)

pub test_ok : {A : Type 0} (b : Bool) (d : Fault) (y : Result A Fault) (z : A) → cond b y (Err d) ≡ Ok z → T b × (y ≡ Ok z)
test_ok true d y z e = (tt, e)
test_ok false d y z e = absurd cc

abbrev pub done : {A : Type 0} → A → Result A Fault
done x = Ok x

pub ok_is : {A : Type 0} (x y : A) → done x ≡ done y → x ≡ y
ok_is x y e = cc

-- what follows is bytes, too
behind : (xs rest : List ℕ) → T (all_bytes (xs ++ rest)) → T (all_bytes rest)
behind [] rest h = h
behind (x ∷ xs) rest h = behind xs rest (first_byte x (xs ++ rest) h).1

pub rest_bytes : (xs rest bs : List ℕ) → xs ++ rest ≡ bs → T (all_bytes bs) → T (all_bytes rest)
rest_bytes xs rest bs e h = behind xs rest (subst (λ (ys : List ℕ). T (all_bytes ys)) (sym e) h)

pub number_sound : (w : ℕ) → Sound (number w)
number_sound w = record {
  back = λ n rest h.
      let long : ltb (length (bytes_of w n ++ rest)) w ≡ false = le-ltb _ _ (rw length-append (omega (arith, length-bytes_of w n))) in
      let fits : n < 256 ^ w = ltb→lt n (256 ^ w) h in
      let is : big (bytes_of w n) ≡ n = big-bytes_of 0 w n fits ∙ omega arith in
      rw (long, take_at (bytes_of w n) rest w (length-bytes_of w n), drop_at (bytes_of w n) rest w (length-bytes_of w n), is) refl;
  spelling = λ bs n rest h e.
      let g = guard_ok (ltb (length bs) w) Short (done (big (take w bs), drop w bs)) (n, rest) e in
      let long : w ≤ length bs = ltb-false (length bs) w g.0 in
      subst (λ (x : ℕ × List ℕ). (bytes_of w x.0 ++ x.1 ≡ bs) × T (ltb x.0 (256 ^ w))) (ok_is (big (take w bs), drop w bs) (n, rest) g.1)
      (ap (λ (xs : List ℕ). xs ++ drop w bs) (bytes-front w bs h long) ∙ take-append-drop w bs, lt→ltb _ _ (front_below w bs h long));
}

-- ---- so many bytes

pub text_back : (xs rest : List ℕ) (n : ℕ) → length xs ≡ n → text_at n (xs ++ rest) ≡ Ok (xs, rest)
text_back xs rest n l =
    let long : ltb (length (xs ++ rest)) n ≡ false = le-ltb _ _ (rw length-append (omega arith)) in
    rw (long, take_at xs rest n l, drop_at xs rest n l) refl

pub text_takes : (n : ℕ) (bs xs rest : List ℕ) → text_at n bs ≡ Ok (xs, rest) → (xs ++ rest ≡ bs) × (length xs ≡ n)
text_takes n bs xs rest e =
    let g = guard_ok (ltb (length bs) n) Short (done (take n bs, drop n bs)) (xs, rest) e in
    let long : n ≤ length bs = ltb-false (length bs) n g.0 in
    subst (λ (x : List ℕ × List ℕ). (x.0 ++ x.1 ≡ bs) × (length x.0 ≡ n)) (ok_is (take n bs, drop n bs) (xs, rest) g.1) (take-append-drop n bs, omega (arith, length-take n bs))

-- ---- one behind the other, and the same for another value

pub then_sound : {A B : Type 0} (c : Codec A) (d : Codec B) → Sound c → Sound d → Sound (c then d)
then_sound {A = A} {B = B} c d s t = record {
  back = λ p rest h.
      let k = both (c.fits p.0) (d.fits p.1) h in
      rw (append_assoc (c.bytes p.0) (d.bytes p.1) rest, s.back p.0 (d.bytes p.1 ++ rest) k.0, t.back p.1 rest k.1) refl;
  spelling = λ bs p rest h e.
      let a = bind_ok (c.read bs) (λ x. d.read x.1 >>= λ y. Ok ((x.0, y.0), y.1)) (p, rest) e in
      let b = bind_ok (d.read a.0.1) (λ y. Ok ((a.0.0, y.0), y.1)) (p, rest) a.2 in
      let first = s.spelling bs a.0.0 a.0.1 h a.1 in
      let second = t.spelling a.0.1 b.0.0 b.0.1 (rest_bytes (c.bytes a.0.0) a.0.1 bs first.0 h) b.1 in
      subst (λ (z : (A × B) × List ℕ). ((c.bytes z.0.0 ++ d.bytes z.0.1) ++ z.1 ≡ bs) × T (c.fits z.0.0 && d.fits z.0.1)) (ok_is ((a.0.0, b.0.0), b.0.1) (p, rest) b.2)
      (append_assoc (c.bytes a.0.0) (d.bytes b.0.0) b.0.1 ∙ ap (λ (xs : List ℕ). c.bytes a.0.0 ++ xs) second.0 ∙ first.0, join _ _ first.1 second.1);
}

pub shaped_sound : {A B : Type 0} (to : A → B) (from : B → A) (c : Codec A) → ((y : B) → to (from y) ≡ y) → ((x : A) → from (to x) ≡ x) → Sound c → Sound (shaped to from c)
shaped_sound {A = A} {B = B} to from c there back_again s = record {
  back = λ y rest h. rw (s.back (from y) rest h) (ap (λ (z : B). done (z, rest)) (there y));
  spelling = λ bs y rest h e.
      let a = bind_ok (c.read bs) (λ x. Ok (to x.0, x.1)) (y, rest) e in
      let first = s.spelling bs a.0.0 a.0.1 h a.1 in
      subst (λ (z : B × List ℕ). (c.bytes (from z.0) ++ z.1 ≡ bs) × T (c.fits (from z.0))) (ok_is (to a.0.0, a.0.1) (y, rest) a.2)
      (subst (λ (x : A). (c.bytes x ++ a.0.1 ≡ bs) × T (c.fits x)) (sym (back_again a.0.0)) first);
}

-- ---- several

module _ {A : Type 0} (c : Codec A) (s : Sound c) where
  pub many_back : (xs : List A) (rest : List ℕ) → T (list_all c.fits xs) → many_at c (length xs) (flat_map c.bytes xs ++ rest) ≡ Ok (xs, rest)
  unfolding many_at
  many_back [] rest h = refl
  many_back (x ∷ xs) rest h =
      let k = both (c.fits x) (list_all c.fits xs) h in
      rw (append_assoc (c.bytes x) (flat_map c.bytes xs) rest, s.back x (flat_map c.bytes xs ++ rest) k.0, many_back xs rest k.1) refl

  pub many_takes : (n : ℕ) (bs : List ℕ) (xs : List A) (rest : List ℕ) → T (all_bytes bs) → many_at c n bs ≡ Ok (xs, rest) → (flat_map c.bytes xs ++ rest ≡ bs) × (length xs ≡ n) × T (list_all c.fits xs)
  unfolding many_at
  many_takes zero bs xs rest h e =
      subst (λ (z : List A × List ℕ). (flat_map c.bytes z.0 ++ z.1 ≡ bs) × (length z.0 ≡ 0) × T (list_all c.fits z.0)) (ok_is ([], bs) (xs, rest) e) (refl, refl, tt)
  many_takes (suc n) bs xs rest h e =
      let a = bind_ok (c.read bs) (λ x. many_at c n x.1 >>= λ ys. Ok (x.0 ∷ ys.0, ys.1)) (xs, rest) e in
      let b = bind_ok (many_at c n a.0.1) (λ ys. Ok (a.0.0 ∷ ys.0, ys.1)) (xs, rest) a.2 in
      let first = s.spelling bs a.0.0 a.0.1 h a.1 in
      let others = many_takes n a.0.1 b.0.0 b.0.1 (rest_bytes (c.bytes a.0.0) a.0.1 bs first.0 h) b.1 in
      subst (λ (z : List A × List ℕ). (flat_map c.bytes z.0 ++ z.1 ≡ bs) × (length z.0 ≡ suc n) × T (list_all c.fits z.0)) (ok_is (a.0.0 ∷ b.0.0, b.0.1) (xs, rest) b.2)
      (append_assoc (c.bytes a.0.0) (flat_map c.bytes b.0.0) b.0.1 ∙ ap (λ (ys : List ℕ). c.bytes a.0.0 ++ ys) others.0 ∙ first.0, ap suc others.1, join _ _ first.1 others.2)

  same_length : (n m : ℕ) → n ≡ m → T (eqb n m)
  same_length n m e = subst (λ (k : ℕ). T (eqb n k)) e (is-eqb n)
    where
      is-eqb : (k : ℕ) → T (eqb k k)
      is-eqb k = grind (arith, nat_tests)

  pub many_sound : (n : ℕ) → Sound (many c n)
  many_sound n = record {
    back = λ xs rest h.
        let k = both (eqb (length xs) n) (list_all c.fits xs) h in
        subst (λ (m : ℕ). many_at c m (flat_map c.bytes xs ++ rest) ≡ Ok (xs, rest)) (eqb→eq (length xs) n k.0) (many_back xs rest k.1);
    spelling = λ bs xs rest h e. let t = many_takes n bs xs rest h e in (t.0, join _ _ (same_length (length xs) n t.1) t.2);
  }

  pub listed_sound : (w most : ℕ) → most < 256 ^ w → Sound (listed w most c)
  listed_sound w most small = record {
    back = λ xs rest h.
        let k = both (leb (length xs) most) (list_all c.fits xs) h in
        let within : length xs ≤ most = at_most (length xs) most k.0 in
        let within_test : ltb most (length xs) ≡ false = le-ltb _ _ within in
        rw (append_assoc (bytes_of w (length xs)) (flat_map c.bytes xs) rest, (number_sound w).back (length xs) (flat_map c.bytes xs ++ rest) (lt→ltb _ _ (omega arith)), within_test) (many_back xs rest k.1);
    spelling = λ bs xs rest h e.
        let a = bind_ok (number_at w bs) (λ n. cond (ltb most n.0) (Err Range) (many_at c n.0 n.1)) (xs, rest) e in
        let g = guard_ok (ltb most a.0.0) Range (many_at c a.0.0 a.0.1) (xs, rest) a.2 in
        let first = (number_sound w).spelling bs a.0.0 a.0.1 h a.1 in
        let others = many_takes a.0.0 a.0.1 xs rest (rest_bytes (bytes_of w a.0.0) a.0.1 bs first.0 h) g.1 in
        (append_assoc (bytes_of w (length xs)) (flat_map c.bytes xs) rest ∙ ap (λ (ys : List ℕ). bytes_of w (length xs) ++ ys) others.0 ∙ ap (λ (k : ℕ). bytes_of w k ++ a.0.1) others.1 ∙ first.0, join _ _ (is_most (length xs) most (omega (arith, others.1, ltb-false most a.0.0 g.0))) others.2);
  }
    where
      at_most : (n m : ℕ) → T (leb n m) → n ≤ m
      at_most n m h = grind (arith, nat_tests)

      is_most : (n m : ℕ) → n ≤ m → T (leb n m)
      is_most n m h = grind (arith, nat_tests)

  pub exactly_sound : (n : ℕ) → n < 256 → Sound (exactly n c)
  exactly_sound n small = record {
    back = λ xs rest h.
        let k = both (eqb (length xs) n) (list_all c.fits xs) h in
        let same : eqb n n ≡ true = grind (arith, nat_tests) in
        rw (append_assoc (bytes_of 1 n) (flat_map c.bytes xs) rest, (number_sound 1).back n (flat_map c.bytes xs ++ rest) (lt→ltb _ _ small), same) ((many_sound n).back xs rest h);
    spelling = λ bs xs rest h e.
        let a = bind_ok (number_at 1 bs) (λ m. cond (eqb m.0 n) (many_at c n m.1) (Err Range)) (xs, rest) e in
        let g = test_ok (eqb a.0.0 n) Range (many_at c n a.0.1) (xs, rest) a.2 in
        let first = (number_sound 1).spelling bs a.0.0 a.0.1 h a.1 in
        let others = (many_sound n).spelling a.0.1 xs rest (rest_bytes (bytes_of 1 a.0.0) a.0.1 bs first.0 h) g.1 in
        (append_assoc (bytes_of 1 n) (flat_map c.bytes xs) rest ∙ ap (λ (ys : List ℕ). bytes_of 1 n ++ ys) others.0 ∙ ap (λ (k : ℕ). bytes_of 1 k ++ a.0.1) (sym (eqb→eq a.0.0 n g.0)) ∙ first.0, others.1);
  }

-- ---- kinds

pub empty_sound : Sound empty
empty_sound = record { back = λ u rest h. refl; spelling = λ bs u rest h e. (ap (λ (x : Unit {0} × List ℕ). x.1) (sym (ok_is (tt, bs) (u, rest) e)), tt) }

pub constant_sound : (w k : ℕ) → k < 256 ^ w → Sound (constant w k)
constant_sound w k small = record {
  back = λ u rest h. let same : eqb k k ≡ true = grind (arith, nat_tests) in rw ((number_sound w).back k rest (lt→ltb _ _ small), same) refl;
  spelling = λ bs u rest h e.
      let a = bind_ok (number_at w bs) (λ n. cond (eqb n.0 k) (Ok (tt, n.1)) (Err Range)) (u, rest) e in
      let g = test_ok (eqb a.0.0 k) Range (done {A = Unit {0} × List ℕ} (tt, a.0.1)) (u, rest) a.2 in
      let first = (number_sound w).spelling bs a.0.0 a.0.1 h a.1 in
      let same : a.0.1 ≡ rest = ap (λ (x : Unit {0} × List ℕ). x.1) (ok_is (tt, a.0.1) (u, rest) g.1) in
      (ap (λ (k' : ℕ). bytes_of w k' ++ rest) (sym (eqb→eq a.0.0 k g.0)) ∙ ap (λ (xs : List ℕ). bytes_of w a.0.0 ++ xs) (sym same) ∙ first.0, tt);
}

pub only_sound : {A : Type 0} (k : ℕ) (c : Codec A) → k < 256 → Sound c → SoundKinds (only k c)
only_sound k c small s = record {
  small = λ x. small;
  back = λ x rest h. let same : eqb k k ≡ true = grind (arith, nat_tests) in rw same (s.back x rest h);
  spelling = λ n bs x rest h e.
      let g = test_ok (eqb n k) Range (c.read bs) (x, rest) e in
      let t = s.spelling bs x rest h g.1 in
      (sym (eqb→eq n k g.0), t.0, t.1);
}

pub or_kind_sound : {A B : Type 0} (k : ℕ) (c : Codec A) (d : Kinds B) → k < 256 → ((y : B) → eqb (d.kind y) k ≡ false) → Sound c → SoundKinds d → SoundKinds (or_kind k c d)
or_kind_sound {A = A} {B = B} k c d small apart s t = record { small = smalls; back = backs; spelling = spellings }
  where
    left : A × List ℕ → Result ((A ⊎ B) × List ℕ) Fault
    left x = Ok (inl x.0, x.1)

    right : B × List ℕ → Result ((A ⊎ B) × List ℕ) Fault
    right y = Ok (inr y.0, y.1)

    smalls : (z : A ⊎ B) → (or_kind k c d).kind z < 256
    smalls (inl x) = small
    smalls (inr y) = t.small y

    backs : (z : A ⊎ B) (rest : List ℕ) → T ((or_kind k c d).fits z) → (or_kind k c d).read_as ((or_kind k c d).kind z) ((or_kind k c d).body z ++ rest) ≡ Ok (z, rest)
    backs (inl x) rest h = let same : eqb k k ≡ true = grind (arith, nat_tests) in rw (same, s.back x rest h) refl
    backs (inr y) rest h = rw (apart y, t.back y rest h) refl

    spellings : (n : ℕ) (bs : List ℕ) (z : A ⊎ B) (rest : List ℕ) → T (all_bytes bs) → (or_kind k c d).read_as n bs ≡ Ok (z, rest) → ((or_kind k c d).kind z ≡ n) × ((or_kind k c d).body z ++ rest ≡ bs) × T ((or_kind k c d).fits z)
    spellings n bs z rest h e = go (eqb n k) (eqb→eq n k) e
      where
        go : (b : Bool) → (T b → n ≡ k) → cond b (c.read bs >>= left) (d.read_as n bs >>= right) ≡ Ok (z, rest) → ((or_kind k c d).kind z ≡ n) × ((or_kind k c d).body z ++ rest ≡ bs) × T ((or_kind k c d).fits z)
        go true is f =
            let a = bind_ok (c.read bs) left (z, rest) f in
            let first = s.spelling bs a.0.0 a.0.1 h a.1 in
            subst (λ (q : (A ⊎ B) × List ℕ). ((or_kind k c d).kind q.0 ≡ n) × ((or_kind k c d).body q.0 ++ q.1 ≡ bs) × T ((or_kind k c d).fits q.0)) (ok_is (inl a.0.0, a.0.1) (z, rest) a.2) (sym (is tt), first.0, first.1)
        go false is f =
            let a = bind_ok (d.read_as n bs) right (z, rest) f in
            subst (λ (q : (A ⊎ B) × List ℕ). ((or_kind k c d).kind q.0 ≡ n) × ((or_kind k c d).body q.0 ++ q.1 ≡ bs) × T ((or_kind k c d).fits q.0)) (ok_is (inr a.0.0, a.0.1) (z, rest) a.2) (t.spelling n bs a.0.0 a.0.1 h a.1)

pub of_kinds_sound : {A : Type 0} (d : Kinds A) → SoundKinds d → Sound (of_kinds d)
of_kinds_sound d t = record {
  back = λ x rest h.
      rw (append_assoc (bytes_of 1 (d.kind x)) (d.body x) rest, (number_sound 1).back (d.kind x) (d.body x ++ rest) (lt→ltb _ _ (t.small x))) (t.back x rest h);
  spelling = λ bs x rest h e.
      let a = bind_ok (number_at 1 bs) (λ n. d.read_as n.0 n.1) (x, rest) e in
      let first = (number_sound 1).spelling bs a.0.0 a.0.1 h a.1 in
      let second = t.spelling a.0.0 a.0.1 x rest (rest_bytes (bytes_of 1 a.0.0) a.0.1 bs first.0 h) a.2 in
      (append_assoc (bytes_of 1 (d.kind x)) (d.body x) rest ∙ ap (λ (ys : List ℕ). bytes_of 1 (d.kind x) ++ ys) second.1 ∙ ap (λ (k : ℕ). bytes_of 1 k ++ a.0.1) second.0 ∙ first.0, second.2);
}

-- ---- all of the bytes

pub whole_sound : {A : Type 0} (c : Codec A) → Sound c → SoundWhole c
whole_sound {A = A} c s = record { back = backs; spelling = spellings; refusals = λ bs f e x h g. never (sym (backs x h) ∙ ap (whole c) g ∙ e) }
  where
    never : {x : A} {f : Fault} → done x ≡ Err f → ⊥
    never e = absurd cc

    backs : (x : A) → T (c.fits x) → whole c (c.bytes x) ≡ Ok x
    backs x h = ap (whole c) (sym (append-nil (c.bytes x))) ∙ rw (s.back x [] h) refl

    spellings : (bs : List ℕ) (x : A) → T (all_bytes bs) → whole c bs ≡ Ok x → (c.bytes x ≡ bs) × T (c.fits x)
    spellings bs x h e =
        let a = bind_ok (c.read bs) (λ y. cond (eqb (length y.1) 0) (Ok y.0) (Err Left)) x e in
        let g = test_ok (eqb (length a.0.1) 0) Left (done a.0.0) x a.2 in
        let first = s.spelling bs a.0.0 a.0.1 h a.1 in
        let none : a.0.1 ≡ [] = nil_from_length a.0.1 (eqb→eq (length a.0.1) 0 g.0) in
        subst (λ (y : A). (c.bytes y ≡ bs) × T (c.fits y)) (ok_is a.0.0 x g.1) (sym (append-nil (c.bytes a.0.0)) ∙ ap (λ (ys : List ℕ). c.bytes a.0.0 ++ ys) (sym none) ∙ first.0, first.1)
