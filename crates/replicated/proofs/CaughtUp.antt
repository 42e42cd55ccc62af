-- What a copy has, level or not, is part of how copies agree.
use Rattle.std.proofs.Common.{◌≡◌, List, subst}
use Rattle.copies.specs.Service.{Service, Keeper}
use Rattle.copies.specs.Messages.{Command, Recovery}
use Rattle.copies.specs.Promise.{HasBlocks, CaughtUp}
use Rattle.replicated.proofs.Agreement.{agreement}

-- what blocks are, by what the copy says of itself
by_recovery : {O R : Type 0} (sv : Service O R) (kp : Keeper sv) (ks h : List (Command O)) (s : kp.Kept) {q p : Recovery} → q ≡ p → HasBlocks sv kp ks h s q → HasBlocks sv kp ks h s p
by_recovery sv kp ks h s e b = subst (HasBlocks sv kp ks h s) e b

pub caught_up : CaughtUp
caught_up O R sv kp ok laws keeps all es w t =
    let (ks, f) = agreement O R sv kp ok laws keeps all es w t in
    (ks, λ u p i l. let a = f u p i l in (λ e. (a.first, a.sessions, a.rest, by_recovery sv kp ks a.first.older _ e a.blocks), λ base top e. by_recovery sv kp ks a.first.older _ e a.blocks))
