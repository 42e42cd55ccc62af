-- Copies never disagree.
use Rattle.std.proofs.Common.{◌≡◌, ℕ, ◌≤◌, List, sym, ◌∙◌, inl, inr}
use Rattle.agreement.specs.Copies.{Copy}
use Rattle.agreement.specs.Copies
use Rattle.agreement.proofs.Base.{Snap}
use Rattle.agreement.proofs.Inv.{Inv}
use Rattle.copies.specs.Service.{Service, Keeper}
use Rattle.copies.specs.Messages.{Command, Recovery, level, recovers}
use Rattle.copies.specs.House.{Disks}
use Rattle.copies.specs.Promise.{ShowsKey, First, HasBlocks, Agrees, Agreement}
use Rattle.replicated.proofs.Caught.{long, joined, Right}
use Rattle.replicated.proofs.Good.{Blocks}
use Rattle.replicated.proofs.Events.{Was, reached}

module _ {O R : Type 0} (sv : Service O R) (kp : Keeper sv) (g : Copies.World (Command O)) (inv : Inv g) (r : ℕ) (top : Copy (Command O)) (n : Snap g r top) (highest : (j : ℕ) (x : Copy (Command O)) → Snap g j x → x.version ≤ top.version) where
  -- what a snapshot has is the first of what the furthest has
  abbrev first_of : (j : ℕ) (x : Copy (Command O)) → Snap g j x → (m : ℕ) → m ≡ x.version → First sv kp top.history m
  first_of j x h m e = let u = joined g inv j r x top h n (highest j x h) in record { newer = u.0; older = x.history; parts = u.1; long = long g inv j x h ∙ sym e }

  shows_key : (s : kp.Kept) (h : List (Command O)) (k : ℕ) → Right sv kp s h k → ShowsKey sv kp s h k
  shows_key s h k (inl e) = inl e
  shows_key s h k (inr e) = inr e.0

  has_blocks : (x : Copy (Command O)) (s : kp.Kept) (m : Recovery) → Blocks sv kp g x s m → HasBlocks sv kp top.history x.history s m
  has_blocks x s level h = λ k. shows_key s x.history k (h k)
  has_blocks x s (recovers b t) h = λ k. let y = h k in (y.at.version, y.low, y.high, first_of y.who y.at y.snap y.at.version (λ _. y.at.version), shows_key s y.at.history k y.right)

  pub agrees : (j : ℕ) (d : Disks sv kp) → Was sv kp g j d → Agrees sv kp top.history d
  agrees j d h =
      record { first = first_of j h.at h.snap d.agreeing.version h.is.version_is; sessions = h.is.sessions_is; rest = h.is.rest_is; blocks = has_blocks h.at d.kept d.agreeing.recovery h.is.blocks_is }

pub agreement : Agreement
agreement O R sv kp ok laws keeps all es w t =
    let s = reached sv kp ok laws keeps all t in
    let v = s.fine in
    (v.top.at.history, λ u p i h. agrees sv kp v.g v.inv v.top.who v.top.at v.top.snap v.top.highest i _ (s.was u p i h))
