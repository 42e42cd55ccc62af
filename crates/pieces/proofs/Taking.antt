-- Places are taken one after the other.
use Rattle.std.proofs.Common.{◌≡◌, ℕ, ◌+◌, ◌<◌, ◌≤◌, Bool, List, length, get_or, drop, Some, None, Option, sym, ap, ◌∙◌}
use Rattle.std.proofs.lemmas.List.{drop_more, drop_all}
use Rattle.std.specs.Prelude.{OnErr, Result, Ok, Err}
use Rattle.pieces.specs.Loads.{take_new, taking, take_all}

pub take_more : (ps : List ℕ) (i p : ℕ) (ts us : List Bool) (r : Option (List Bool)) → i < length ps → p ≡ get_or ps i 0 → take_new p ts ≡ Some us → take_all (drop i ps) ts ≡ r → take_all (drop (i + 1) ps) us ≡ r
unfolding take_all
take_more ps i p ts us r inside at e held =
    let first : take_all (drop i ps) ts ≡ taking (take_all (drop (i + 1) ps)) (take_new (get_or ps i 0) ts) = ap (λ (qs : List ℕ). take_all qs ts) (drop_more ps i 0 inside) in
    sym (ap (λ (o : Option (List Bool)). taking (take_all (drop (i + 1) ps)) o) (ap (λ (q : ℕ). take_new q ts) (sym at) ∙ e)) ∙ sym first ∙ held

pub take_end : (ps : List ℕ) (i : ℕ) (ts : List Bool) (r : Option (List Bool)) → length ps ≤ i → take_all (drop i ps) ts ≡ r → r ≡ Some ts
unfolding take_all
take_end ps i ts r past held = sym held ∙ ap (λ (qs : List ℕ). take_all qs ts) (drop_all i ps past)

pub take_broken : (ps : List ℕ) (i p : ℕ) (ts : List Bool) (r : Option (List Bool)) → i < length ps → p ≡ get_or ps i 0 → take_new p ts ≡ None → take_all (drop i ps) ts ≡ r → r ≡ None
unfolding take_all
take_broken ps i p ts r inside at e held =
    let first : take_all (drop i ps) ts ≡ taking (take_all (drop (i + 1) ps)) (take_new (get_or ps i 0) ts) = ap (λ (qs : List ℕ). take_all qs ts) (drop_more ps i 0 inside) in
    sym held ∙ first ∙ ap (λ (o : Option (List Bool)). taking (take_all (drop (i + 1) ps)) o) (ap (λ (q : ℕ). take_new q ts) (sym at) ∙ e)

pub on_err : {A E : Type 0} (r : Result A E) {Q : Type 0} → Q → OnErr r Q
on_err (Ok a) q = tt
on_err (Err e) q = q
