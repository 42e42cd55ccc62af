-- What the `ok` of a parsed text tells of the text.
use Rattle.std.proofs.Common.{◌≡◌, ℕ, List, Some, None, Ok, Err, Result, subst}
use Rattle.std.specs.Result.{result_ok}

pub fails : {A E : Type 0} (reads : List ℕ → Result A E → Type 0) (word text : List ℕ) (r : Result A E) → text ≡ word → reads text r → result_ok r ≡ None → (e : E) × reads word (Err e)
fails reads word text (Ok a) is read none = absurd (cc none)
fails reads word text (Err e) is read none = (e, subst (λ l. reads l (Err e)) is read)

pub gives : {A E : Type 0} (reads : List ℕ → Result A E → Type 0) (word text : List ℕ) (r : Result A E) (a : A) → text ≡ word → reads text r → result_ok r ≡ Some a → reads word (Ok a)
gives reads word text (Ok b) a is read some =
    let same : b ≡ a = cc some in
    subst (λ l. reads l (Ok a)) is (subst (λ x. reads text (Ok x)) same read)
gives reads word text (Err e) a is read some = absurd (cc some)
