use Rattle.std.proofs.Common.{◌≡◌, ℕ, ◌+◌, List, [], ◌++◌, length, ap, ◌∙◌, append_assoc, arith}
use Rattle.octets.specs.Numbers.{bytes_of}
use Rattle.wire.specs.Frames.{frame_bytes}
use Rattle.std.proofs.lemmas.Grind.{common_steps}
use Rattle.wire.proofs.frame.Frame.encode.Goals as goal

-- three parts put one behind the other, the first the length of the others
in_three : (n z : ℕ) (body ws xs ys zs : List ℕ) → z ≡ 8 + length body → ws ≡ [] → xs ≡ ws ++ bytes_of 4 z → ys ≡ xs ++ bytes_of 8 n → zs ≡ ys ++ body → zs ≡ frame_bytes n body
in_three n z body ws xs ys zs e f g h k =
    k ∙ ap (λ (s : List ℕ). s ++ body) (h ∙ ap (λ (s : List ℕ). s ++ bytes_of 8 n) (g ∙ ap (λ (s : List ℕ). s ++ bytes_of 4 z) f ∙ ap (bytes_of 4) e)) ∙ append_assoc (bytes_of 4 (8 + length body)) (bytes_of 8 n) body

pub returns : goal.returns
returns c =
    in_three c.args.self.now.customer.0 c.in_ok-length-2.length c.args.self.now.body.now _ _ _ _ (grind (arith, common_steps, c.in_ok-length.ensures.cases, c.in_ok-length-2.ensures.value)) c.new-out.ensures.items c.in_ok-put.ensures
    c.in_ok-put-2.ensures c.in_ok-extend_from_slice.ensures.items
