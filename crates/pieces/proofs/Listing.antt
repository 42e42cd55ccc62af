-- A list of blocks, block by block.
use Rattle.std.proofs.Common.{◌≡◌, ℕ, suc, List, [], ◌∷◌, ◌++◌, Some, None, Option, refl, sym, ap, ◌∙◌, subst, append_assoc, append-nil}
use Rattle.pieces.specs.declared.entry.Stamp.{Stamp}
use Rattle.pieces.specs.declared.entry.Entry.{Entry}
use Rattle.pieces.specs.declared.changed.Key.{Key}
use Rattle.pieces.specs.Changes.{Listed, listed, listed_on, nearest, key_behind}

listed_zero : (n : ℕ) (since : Option Stamp) (at : Key) (es : List Entry) → n ≡ 0 → ◌≡◌ {A = Listed} (listed n since at es) (record { blocks = []; next = Some at })
unfolding listed
listed_zero n since at es e = rw e refl

listed_more : (n m : ℕ) (since : Option Stamp) (at : Key) (es : List Entry) (o : Option Entry) → n ≡ suc m → nearest since at es ≡ o → listed n since at es ≡ listed_on o (λ k. listed m since k es)
unfolding listed
listed_more n m since at es o e q = rw (e, q) refl

-- what is listed so far, and what is still to be listed
pub record Along (all : Listed) (blocks : List Entry) (n : ℕ) (since : Option Stamp) (at : Key) (es : List Entry) : Type 0 where
  pub blocks_are : all.blocks ≡ blocks ++ (listed n since at es).blocks
  pub next_is : all.next ≡ (listed n since at es).next

pub along_more : (all : Listed) (blocks now : List Entry) (n m : ℕ) (since : Option Stamp) (at to : Key) (es : List Entry) (e : Entry) → Along all blocks n since at es → n ≡ suc m → nearest since at es ≡ Some e → now ≡ blocks ++ e ∷ [] → to ≡ key_behind e → Along all now m since to es
along_more all blocks now n m since at to es e a f q b t =
    let l = listed_more n m since at es (Some e) f q in
    subst (λ (k : Key). Along all now m since k es) (sym t) (record {
      blocks_are = a.blocks_are ∙ ap (λ (x : Listed). blocks ++ x.blocks) l ∙ sym (append_assoc blocks (e ∷ []) (listed m since (key_behind e) es).blocks) ∙ ap (λ (x : List Entry). x ++ (listed m since (key_behind e) es).blocks) (sym b);
      next_is = a.next_is ∙ ap (λ (x : Listed). x.next) l;
    })

pub along_end : (all : Listed) (blocks : List Entry) (n m : ℕ) (since : Option Stamp) (at : Key) (es : List Entry) → Along all blocks n since at es → n ≡ suc m → nearest since at es ≡ None → (blocks ≡ all.blocks) × (None ≡ all.next)
along_end all blocks n m since at es a f q =
    let l = listed_more n m since at es None f q in
    (sym (a.blocks_are ∙ ap (λ (x : Listed). blocks ++ x.blocks) l ∙ append-nil blocks), sym (a.next_is ∙ ap (λ (x : Listed). x.next) l))

pub along_all : (all : Listed) (blocks : List Entry) (n : ℕ) (since : Option Stamp) (at : Key) (es : List Entry) → Along all blocks n since at es → n ≡ 0 → (blocks ≡ all.blocks) × (Some at ≡ all.next)
along_all all blocks n since at es a f =
    let l = listed_zero n since at es f in
    (sym (a.blocks_are ∙ ap (λ (x : Listed). blocks ++ x.blocks) l ∙ append-nil blocks), sym (a.next_is ∙ ap (λ (x : Listed). x.next) l))
