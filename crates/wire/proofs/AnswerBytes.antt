-- Answers as bytes and back: each case by itself, its numbers by the laws of fields.
use Rattle.std.proofs.Common.{◌≡◌, ℕ, zero, suc, ◌<◌, Bool, true, false, cond, T, eqb, List, [], ◌∷◌, length, get_or, is_some, Some, None, Option, sym, refl, ap, ◌∙◌, subst, append-nil, arith, eqb→eq}
use Rattle.std.proofs.lemmas.List.{nil_from_length}
use Rattle.std.proofs.lemmas.Bool.Decides.{nat_tests}
use Rattle.std.specs.Option.{option_map}
use Rattle.disks.specs.Device.{all_bytes}
use Rattle.disks.specs.Disks.{Reply, No, Yes, Num, Token, Sector, Full}
use Rattle.wire.specs.declared.case.Case.{Case}
use Rattle.wire.specs.declared.refusal.Refusal.{Refusal}
use Rattle.octets.specs.Numbers.{field, numbers_bytes, small}
use Rattle.wire.specs.Cases.{case_number, case_of}
use Rattle.wire.specs.Refusals.{refusal_number, refusal_of}
use Rattle.wire.specs.Answers.{answer_bytes, answered_as, refused_by, of_length}
use Rattle.wire.specs.Promises.{Said, AnswerRoundTrip, AnswerOneSpelling, AnswerBytesSound}
use Rattle.octets.proofs.Numbers.{first_byte}
use Rattle.octets.proofs.Fields.{length-numbers, field_at, fields-small, exact}

-- the number of a refusal that was found is the number that it was found by
number_back : (n : ℕ) (e : Refusal) → refusal_of n ≡ Some e → refusal_number e ≡ n
number_back n e h = grind (arith, nat_tests)

-- and the number of a case that was found likewise
pub case_back : (n : ℕ) (c : Case) → case_of n ≡ Some c → case_number c ≡ n
case_back n c h = grind (arith, nat_tests)

-- a number without a case answers nothing
pub caseless : (n : ℕ) (bs : List ℕ) → case_of n ≡ None → answered_as n bs ≡ None
caseless n bs h = grind (arith, nat_tests)

field_alone : (i : ℕ) (ns : List ℕ) → T (small ns) → i < length ns → field i (numbers_bytes ns) ≡ get_or ns i 0
field_alone i ns h l = ap (field i) (sym (append-nil (numbers_bytes ns))) ∙ field_at i ns [] h l

refusal_back : (k : ℕ) → is_some (refusal_of k) ≡ true → option_map (λ (e : Refusal). No (refusal_number e)) (refusal_of k) ≡ Some (No k)
refusal_back k h = go (refusal_of k) refl h
  where
    go : (o : Option Refusal) → refusal_of k ≡ o → is_some o ≡ true → option_map (λ (e : Refusal). No (refusal_number e)) o ≡ Some (No k)
    go None f g = let z : ◌≡◌ {A = ℕ} 0 1 = cc in absurd (omega arith)
    go (Some e) f g = ap (λ (n : ℕ). Some (No n)) (number_back k e f)

pub answer_round_trip : AnswerRoundTrip
answer_round_trip (No k) h = refusal_back k h
answer_round_trip Yes h = refl
answer_round_trip (Num n) h = rw (length-numbers (n ∷ []), field_alone 0 (n ∷ []) h (omega arith))
answer_round_trip (Token t z) h = let ns = t ∷ z ∷ [] in rw (length-numbers ns, field_alone 0 ns h (omega arith), field_alone 1 ns h (omega arith))
answer_round_trip (Sector b) h = rw h
answer_round_trip Full h = refl

of_length_lem : (n : ℕ) (bs : List ℕ) (q r : Reply) → of_length n bs q ≡ Some r → (q ≡ r) × (length bs ≡ n)
of_length_lem n bs q r e = go (eqb (length bs) n) (eqb→eq (length bs) n) e
  where
    go : (b : Bool) → (T b → length bs ≡ n) → cond b (Some q) None ≡ Some r → (q ≡ r) × (length bs ≡ n)
    go true l f = ((cc), l tt)
    go false l f = let z : ◌≡◌ {A = ℕ} 0 1 = cc in absurd (omega arith)

nothing_said : (r : Reply) → ◌≡◌ {A = Option Reply} None (Some r) → ⊥
nothing_said r e = let z : ◌≡◌ {A = ℕ} 0 1 = cc in omega arith

-- bytes that spell r, behind the number of its case
abbrev Spells : ℕ → List ℕ → Reply → Type 0
Spells n bs r = (answer_bytes r ≡ n ∷ bs) × Said r

refusal-spells : (bs : List ℕ) (r : Reply) → refused_by bs ≡ Some r → Spells 0 bs r
refusal-spells [] r e = absurd (nothing_said r e)
refusal-spells (k ∷ []) r e = go (refusal_of k) refl e
  where
    go : (o : Option Refusal) → refusal_of k ≡ o → option_map (λ (x : Refusal). No (refusal_number x)) o ≡ Some r → Spells 0 (k ∷ []) r
    go None f g = absurd (nothing_said r g)
    go (Some x) f g =
        let is : No k ≡ r = ap No (sym (number_back k x f)) ∙ (cc) in
        subst (Spells 0 (k ∷ [])) is (refl, ap is_some f)
refusal-spells (k ∷ b ∷ bs) r e = absurd (nothing_said r e)

-- there is no case above 5
beyond : (n : ℕ) (bs : List ℕ) → 5 < n → answered_as n bs ≡ None
beyond n bs h = grind (arith, nat_tests)

spells : (n : ℕ) (bs : List ℕ) (r : Reply) → T (all_bytes bs) → answered_as n bs ≡ Some r → Spells n bs r
spells zero bs r h e = refusal-spells bs r e
spells (suc zero) bs r h e =
    let p = of_length_lem 0 bs Yes r e in
    subst (Spells 1 bs) p.0 (ap (λ (xs : List ℕ). 1 ∷ xs) (sym (nil_from_length bs p.1)), tt)
spells (suc (suc zero)) bs r h e =
    let p = of_length_lem 8 bs (Num (field 0 bs)) r e in
    subst (Spells 2 bs) p.0 (ap (λ (xs : List ℕ). 2 ∷ xs) (sym (append-nil _) ∙ exact 1 bs h p.1), fields-small 1 bs h (omega (arith, p.1)))
spells (suc (suc (suc zero))) bs r h e =
    let p = of_length_lem 16 bs (Token (field 0 bs) (field 1 bs)) r e in
    subst (Spells 3 bs) p.0 (ap (λ (xs : List ℕ). 3 ∷ xs) (sym (append-nil _) ∙ exact 2 bs h p.1), fields-small 2 bs h (omega (arith, p.1)))
spells (suc (suc (suc (suc zero)))) bs r h e =
    let p = of_length_lem 512 bs (Sector bs) r e in
    subst (Spells 4 bs) p.0 (refl, p.1)
spells (suc (suc (suc (suc (suc zero))))) bs r h e =
    let p = of_length_lem 0 bs Full r e in
    subst (Spells 5 bs) p.0 (ap (λ (xs : List ℕ). 5 ∷ xs) (sym (nil_from_length bs p.1)), tt)
spells (suc (suc (suc (suc (suc (suc n)))))) bs r h e = absurd (nothing_said r (sym (beyond (suc (suc (suc (suc (suc (suc n)))))) bs (omega arith)) ∙ e))

pub answer_one_spelling : AnswerOneSpelling
answer_one_spelling [] r h e = absurd (nothing_said r e)
answer_one_spelling (n ∷ bs) r h e = spells n bs r (first_byte n bs h).1 e

pub answers_sound : AnswerBytesSound
answers_sound = record { back = answer_round_trip; spelling = answer_one_spelling }
