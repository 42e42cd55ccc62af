-- Calls as bytes and back. The fields of a call's bytes are its numbers, so parsing what a call encodes to gives the call; and
-- numbers that were read off bytes spell those bytes, so what parses encodes to the same bytes. A refusal by 1 is then of bytes
-- that no call has, since decoding a call's bytes gives the call or 12.
use Rattle.std.proofs.Common.{◌≡◌, ℕ, Bool, true, false, cond, T, eqb, ◌⊎◌, List, [], ◌∷◌, ◌++◌, length, drop, Some, None, Option, sym, refl, ap, ◌∙◌, subst, inl, inr, arith, eqb→eq, length-append, length-drop}
use Rattle.std.proofs.lemmas.List.{drop_at}
use Rattle.std.proofs.lemmas.Bool.Decides.{nat_tests}
use Rattle.disks.specs.Device.{all_bytes}
use Rattle.disks.specs.Disks.{Call, Make, Attach, Read, Write, Sync, Picture', Copy, Drop, DropPicture, core}
use Rattle.wire.specs.declared.kind.Kind.{Kind}
use Rattle.wire.specs.declared.kind.Kind.TheVariants as kinds
use Rattle.octets.specs.Numbers.{numbers_bytes, small}
use Rattle.wire.specs.Kinds.{number_of, kind_of, kind_in}
use Rattle.wire.specs.Calls.{kind_for, numbers_in, content_of, call_bytes, length_for, call_of, parsed_as, Decoded, is_call, is_refused, or_malformed, decoded_as, decoded}
use Rattle.wire.specs.Promises.{Spelled, RoundTrip, OneSpelling, Refuses, BuiltIsCore, CallBytesSound}
use Rattle.octets.proofs.Numbers.{first_byte}
use Rattle.octets.proofs.Fields.{length-numbers, field_at, fields_spell, fields-small, exact}

-- what follows the kind
abbrev tail : Call → List ℕ
tail c = numbers_bytes (numbers_in c) ++ content_of c

length-tail : (c : Call) → Spelled c → length (tail c) ≡ length_for (kind_for c)
length-tail c s = rw length-append (omega (arith, length-numbers (numbers_in c), s.long))

call_back : (c : Call) → T (small (numbers_in c)) → call_of (kind_for c) (tail c) ≡ c
call_back (Make z) s = ap Make (field_at 0 (z ∷ []) [] s (omega arith))
call_back (Attach v) s = ap Attach (field_at 0 (v ∷ []) [] s (omega arith))
call_back (Read v t n) s = let ns = v ∷ t ∷ n ∷ [] in rw (field_at 0 ns [] s (omega arith), field_at 1 ns [] s (omega arith), field_at 2 ns [] s (omega arith))
call_back (Write v t n b) s =
    let ns = v ∷ t ∷ n ∷ [] in
    rw (field_at 0 ns b s (omega arith), field_at 1 ns b s (omega arith), field_at 2 ns b s (omega arith), drop_at (numbers_bytes ns) b 24 (length-numbers ns))
call_back (Sync v t) s = let ns = v ∷ t ∷ [] in rw (field_at 0 ns [] s (omega arith), field_at 1 ns [] s (omega arith))
call_back (Picture' v t) s = let ns = v ∷ t ∷ [] in rw (field_at 0 ns [] s (omega arith), field_at 1 ns [] s (omega arith))
call_back (Copy p) s = ap Copy (field_at 0 (p ∷ []) [] s (omega arith))
call_back (Drop v t) s = let ns = v ∷ t ∷ [] in rw (field_at 0 ns [] s (omega arith), field_at 1 ns [] s (omega arith))
call_back (DropPicture p) s = ap DropPicture (field_at 0 (p ∷ []) [] s (omega arith))

same : (n : ℕ) → eqb n n ≡ true
same n = grind (arith, nat_tests)

parse_back : (c : Call) → Spelled c → parsed_as (kind_for c) (tail c) ≡ Some c
parse_back c s = rw (length-tail c s, same (length_for (kind_for c)), call_back c s.fits)

kind_back : (k : Kind) → kind_of (number_of k) ≡ Some k
kind_back kinds.Make = refl
kind_back kinds.Attach = refl
kind_back kinds.Read = refl
kind_back kinds.Write = refl
kind_back kinds.Sync = refl
kind_back kinds.Picture = refl
kind_back kinds.Copy = refl
kind_back kinds.Drop = refl
kind_back kinds.DropPicture = refl

pub round_trip : RoundTrip
round_trip can c s = rw (kind_back (kind_for c), parse_back c s)

-- the number of a kind that was found is the byte that it was found by
number_back : (n : ℕ) (k : Kind) → kind_of n ≡ Some k → number_of k ≡ n
number_back n k e = grind (arith, nat_tests)

kind_of_call : (k : Kind) (bs : List ℕ) → kind_for (call_of k bs) ≡ k
kind_of_call kinds.Make bs = refl
kind_of_call kinds.Attach bs = refl
kind_of_call kinds.Read bs = refl
kind_of_call kinds.Write bs = refl
kind_of_call kinds.Sync bs = refl
kind_of_call kinds.Picture bs = refl
kind_of_call kinds.Copy bs = refl
kind_of_call kinds.Drop bs = refl
kind_of_call kinds.DropPicture bs = refl

tail_back : (k : Kind) (bs : List ℕ) → T (all_bytes bs) → length bs ≡ length_for k → tail (call_of k bs) ≡ bs
tail_back kinds.Make bs h l = exact 1 bs h l
tail_back kinds.Attach bs h l = exact 1 bs h l
tail_back kinds.Read bs h l = exact 3 bs h l
tail_back kinds.Write bs h l = fields_spell 3 bs h (omega arith)
tail_back kinds.Sync bs h l = exact 2 bs h l
tail_back kinds.Picture bs h l = exact 2 bs h l
tail_back kinds.Copy bs h l = exact 1 bs h l
tail_back kinds.Drop bs h l = exact 2 bs h l
tail_back kinds.DropPicture bs h l = exact 1 bs h l

spelled : (k : Kind) (bs : List ℕ) → T (all_bytes bs) → length bs ≡ length_for k → Spelled (call_of k bs)
spelled kinds.Make bs h l = record { fits = fields-small 1 bs h (omega arith); long = refl }
spelled kinds.Attach bs h l = record { fits = fields-small 1 bs h (omega arith); long = refl }
spelled kinds.Read bs h l = record { fits = fields-small 3 bs h (omega arith); long = refl }
spelled kinds.Write bs h l = record { fits = fields-small 3 bs h (omega arith); long = rw length-drop (omega arith) }
spelled kinds.Sync bs h l = record { fits = fields-small 2 bs h (omega arith); long = refl }
spelled kinds.Picture bs h l = record { fits = fields-small 2 bs h (omega arith); long = refl }
spelled kinds.Copy bs h l = record { fits = fields-small 1 bs h (omega arith); long = refl }
spelled kinds.Drop bs h l = record { fits = fields-small 2 bs h (omega arith); long = refl }
spelled kinds.DropPicture bs h l = record { fits = fields-small 1 bs h (omega arith); long = refl }

-- what a kind and the bytes behind it decode to
data Way (can : Kind → Bool) (k : Kind) (bs : List ℕ) : Decoded → Type 0 where
  calls : length bs ≡ length_for k → Way can k bs (is_call (call_of k bs))
  malformed : Way can k bs (is_refused 1)
  not_built : can k ≡ false → Way can k bs (is_refused 12)

ways : (can : Kind → Bool) (k : Kind) (bs : List ℕ) → Way can k bs (decoded_as can (Some k) bs)
ways can k bs = go (can k) refl (eqb (length bs) (length_for k)) (eqb→eq (length bs) (length_for k))
  where
    go : (b : Bool) → can k ≡ b → (d : Bool) → (T d → length bs ≡ length_for k) → Way can k bs (cond b (or_malformed (cond d (Some (call_of k bs)) None)) (is_refused 12))
    go true e true l = calls (l tt)
    go true e false l = malformed
    go false e d l = not_built e

call_not_refused : (c : Call) (n : ℕ) → is_call c ≡ is_refused n → ⊥
call_not_refused c n e = let z : ◌≡◌ {A = ℕ} 0 1 = cc in omega arith

-- the call that bytes spell, spelled again
spelled-again : (b : ℕ) (bs : List ℕ) (k : Kind) → T (all_bytes bs) → kind_of b ≡ Some k → length bs ≡ length_for k → call_bytes (call_of k bs) ≡ b ∷ bs
spelled-again b bs k h e l =
    ap (λ (j : Kind). number_of j ∷ tail (call_of k bs)) (kind_of_call k bs) ∙ ap (λ (n : ℕ). n ∷ tail (call_of k bs)) (number_back b k e) ∙ ap (λ (xs : List ℕ). b ∷ xs) (tail_back k bs h l)

pub one_spelling : OneSpelling
one_spelling can [] c h e = absurd (call_not_refused c 1 (sym e))
one_spelling can (b ∷ bs) c h e = found (kind_of b) refl e
  where
    bytes : T (all_bytes bs)
    bytes = (first_byte b bs h).1

    by_way : (k : Kind) (d : Decoded) → kind_of b ≡ Some k → Way can k bs d → d ≡ is_call c → (call_bytes c ≡ b ∷ bs) × Spelled c
    by_way k d f (calls l) g =
        let same_call : call_of k bs ≡ c = cc in
        subst (λ (x : Call). (call_bytes x ≡ b ∷ bs) × Spelled x) same_call (spelled-again b bs k bytes f l, spelled k bs bytes l)
    by_way k d f malformed g = absurd (call_not_refused c 1 (sym g))
    by_way k d f (not_built x) g = absurd (call_not_refused c 12 (sym g))

    found : (o : Option Kind) → kind_of b ≡ o → decoded_as can o bs ≡ is_call c → (call_bytes c ≡ b ∷ bs) × Spelled c
    found None f g = absurd (call_not_refused c 1 (sym g))
    found (Some k) f g = by_way k _ f (ways can k bs) g

-- bytes that are refused by 1 are no call's
no_call : (can : Kind → Bool) (bs : List ℕ) (c : Call) → decoded can bs ≡ is_refused 1 → Spelled c → call_bytes c ≡ bs → ⊥
no_call can bs c e s f = go (can (kind_for c)) (sym (round_trip can c s) ∙ ap (decoded can) f ∙ e)
  where
    go : (b : Bool) → cond b (is_call c) (is_refused 12) ≡ is_refused 1 → ⊥
    go true g = call_not_refused c 1 g
    go false g = let z : ◌≡◌ {A = ℕ} 12 1 = cc in omega arith

pub refuses : Refuses
refuses can bs n e = found (kind_in bs) refl e
  where
    Is : Type 0
    Is = ((n ≡ 12) × ((k : Kind) × (kind_in bs ≡ Some k) × (can k ≡ false))) ⊎ ((n ≡ 1) × ((c : Call) → Spelled c → call_bytes c ≡ bs → ⊥))

    bad : n ≡ 1 → Is
    bad g = inr (g, λ c s f. no_call can bs c (subst (λ (m : ℕ). decoded can bs ≡ is_refused m) g e) s f)

    by_way : (k : Kind) (d : Decoded) → kind_in bs ≡ Some k → Way can k (drop 1 bs) d → d ≡ is_refused n → Is
    by_way k d f (calls l) g = absurd (call_not_refused _ n g)
    by_way k d f malformed g = bad (cc)
    by_way k d f (not_built x) g = inl ((cc), (k, f, x))

    found : (o : Option Kind) → kind_in bs ≡ o → decoded_as can o (drop 1 bs) ≡ is_refused n → Is
    found None f g = bad (cc)
    found (Some k) f g = by_way k _ f (ways can k (drop 1 bs)) g

pub built_is_core : BuiltIsCore
unfolding core
built_is_core (Make z) = refl
built_is_core (Attach v) = refl
built_is_core (Read v t n) = refl
built_is_core (Write v t n b) = refl
built_is_core (Sync v t) = refl
built_is_core (Picture' v t) = refl
built_is_core (Copy p) = refl
built_is_core (Drop v t) = refl
built_is_core (DropPicture p) = refl

pub calls_sound : CallBytesSound
calls_sound = record { back = round_trip; spelling = one_spelling; refusals = refuses; built = built_is_core }
