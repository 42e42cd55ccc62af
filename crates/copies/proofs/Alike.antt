-- Sessions that are the same one by one are the same by their houses.
use Rattle.std.proofs.Common.{◌≡◌, ℕ, zero, suc, List, [], ◌∷◌, map, refl, sym, ap, ◌∙◌, ◌≤◌, length, take}
use Rattle.std.proofs.lemmas.List.{take_all}
use Rattle.copies.specs.Messages.{Session, unused}
use Rattle.copies.specs.Views.{the_session, session_of}
use Rattle.copies.specs.declared.message.Session.{Session as SessionHad}

-- by the list of what they stand for
of_list : {A : Type 0} → List (Session A) → ℕ → Session A
of_list [] h = unused
of_list (s ∷ ss) zero = s
of_list (s ∷ ss) (suc h) = of_list ss h

listed : {A : Type 0} (ss : List (SessionHad A)) (h : ℕ) → session_of ss h ≡ of_list (map the_session ss) h
unfolding session_of of_list
listed [] h = refl
listed (s ∷ ss) zero = refl
listed (s ∷ ss) (suc h) = listed ss h

alike : {A : Type 0} (ss ts : List (SessionHad A)) (h : ℕ) → map the_session ss ≡ map the_session ts → session_of ss h ≡ session_of ts h
alike ss ts h e = listed ss h ∙ ap (λ l. of_list l h) e ∙ sym (listed ts h)

pub alike_taken : {A : Type 0} (i : ℕ) (ss ts : List (SessionHad A)) → length ts ≤ i → map the_session ss ≡ map the_session (take i ts) → (h : ℕ) → session_of ss h ≡ session_of ts h
alike_taken i ss ts l e h = alike ss ts h (e ∙ ap (λ xs. map the_session xs) (take_all i ts l))
