-- An answer's bytes: the number of its case, then its values.
-- Assumes nothing.
use Rattle.std.specs.Prelude.{ℕ, cond, List, [], ◌∷◌, length, Some, None, Option, ◌==◌}
use Rattle.std.specs.Option.{option_map}
use Rattle.disks.specs.Disks.{Reply, No, Yes, Num, Token, Sector, Full}
use Rattle.wire.specs.declared.answer.Answer.{Answer}
use Rattle.wire.specs.declared.answer.Answer.TheVariants as typed
use Rattle.wire.specs.declared.case.Case.{Case}
use Rattle.wire.specs.declared.case.Case.TheVariants as cases
use Rattle.wire.specs.declared.refusal.Refusal.{Refusal}
use Rattle.octets.specs.Numbers.{field, numbers_bytes}
use Rattle.wire.specs.Cases.{case_number}
use Rattle.wire.specs.Refusals.{refusal_number, refusal_of}

-- the reply of the meaning that the code's value stands for
abbrev pub the_reply : Answer → Reply
the_reply (typed.Refused e) = No (refusal_number e)
the_reply typed.Yes = Yes
the_reply (typed.Number n) = Num n
the_reply (typed.Token t z) = Token t.0 z.0
the_reply (typed.Sector b) = Sector b.now
the_reply typed.Full = Full

abbrev pub case_for : Reply → Case
case_for (No k) = cases.Refused
case_for Yes = cases.Yes
case_for (Num n) = cases.Number
case_for (Token t z) = cases.Token
case_for (Sector b) = cases.Sector
case_for Full = cases.Full

-- the number of each case
abbrev pub answer_number : Reply → ℕ
answer_number r = case_number (case_for r)

-- and the bytes of its values
abbrev pub values_of : Reply → List ℕ
values_of (No k) = k ∷ []
values_of Yes = []
values_of (Num n) = numbers_bytes (n ∷ [])
values_of (Token t z) = numbers_bytes (t ∷ z ∷ [])
values_of (Sector b) = b
values_of Full = []

abbrev pub answer_bytes : Reply → List ℕ
answer_bytes r = answer_number r ∷ values_of r

-- a refusal by a number that has a meaning
abbrev pub refused_by : List ℕ → Option Reply
refused_by [] = None
refused_by (k ∷ []) = option_map (λ (e : Refusal). No (refusal_number e)) (refusal_of k)
refused_by (k ∷ b ∷ bs) = None

abbrev pub of_length : ℕ → List ℕ → Reply → Option Reply
of_length n bs r = cond (length bs == n) (Some r) None

abbrev pub answered_as : ℕ → List ℕ → Option Reply
answered_as n bs =
    cond (n == 0) (refused_by bs)
    (cond (n == 1) (of_length 0 bs Yes)
    (cond (n == 2) (of_length 8 bs (Num (field 0 bs)))
    (cond (n == 3) (of_length 16 bs (Token (field 0 bs) (field 1 bs))) (cond (n == 4) (of_length 512 bs (Sector bs)) (cond (n == 5) (of_length 0 bs Full) None)))))

-- what bytes answer, if they are an answer's
abbrev pub answered_by : List ℕ → Option Reply
answered_by [] = None
answered_by (n ∷ bs) = answered_as n bs
