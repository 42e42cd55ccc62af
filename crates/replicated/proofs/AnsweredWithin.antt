-- Houses that admit only what fits them answer, too. For fewer than 2^58 steps they do what houses do that admit everything, since all that happens
-- is admitted: so their traces are traces of those, and a way of answering of those is one of theirs.
use Rattle.std.specs.Prelude.{◌≡◌, ◌⊎◌, ◌<◌, ◌≤◌, ℕ, suc, ◌+◌, true, T, List, ◌∷◌, ◌++◌}
use Rattle.std.proofs.Common.{refl, sym, ap, ◌∙◌, subst, inl, inr, arith}
use mathlib.Core.List.Memᴰ
use mathlib.Core.List.{Memᴰ}
use Rattle.disks.specs.Cluster.{In, Ask, Tick, Seen, called, fell, Packet, tells, inside}
use Rattle.disks.specs.Cluster
use Rattle.compose.specs.Pure.{World, Trace, begin, rises, does, asked, ticks, falls, falls_rising, falls_doing, falls_asked, falls_ticking, after, asking, steps_of, PureHelped, still, rising, doing, ticking}
use Rattle.copies.specs.Service.{Service, Keeper}
use Rattle.copies.specs.Copy.{Memory}
use Rattle.copies.specs.House.{Disks, Messages, Ended, Guard, behaves, replicated}
use Rattle.copies.specs.Admits.{admits}
use Rattle.copies.specs.Guarded.{ReplicatedAnswersWithin}
use Rattle.replicated.proofs.Admitted.{admitted}
use Rattle.replicated.proofs.Answered.{answers}
use Rattle.replicated.proofs.Runs.{inside_low}

module _ {O R : Type 0} (sv : Service O R) (kp : Keeper sv) where
  abbrev pub free_guard : Guard sv kp
  free_guard x m d = true

  abbrev pub Wor : Type 0
  Wor = World (Memory O) (Disks sv kp) (Messages sv kp)

  -- what is admitted is done
  same : (x : In (Messages sv kp) O) (m : Memory O) (d : Disks sv kp) → admits sv kp x m d ≡ true → behaves sv kp free_guard x m d ≡ behaves sv kp (admits sv kp) x m d
  unfolding behaves
  same x m d e = rw e refl

  module _ (all : ℕ) (few : all ≤ 49) where
    -- a trace of houses that admit everything
    abbrev pub Free : ℕ → List (Seen O R) → Wor → Type 0
    Free k es w = (f : Trace (replicated sv kp free_guard) all es w) × (steps_of f ≡ k)

    abbrev Ends : (k i : ℕ) → List (Seen O R) → Wor → Ended sv kp → Type 0
    Ends k i es w z = Free k (tells i z.out ++ es) (after (replicated sv kp free_guard) i z w)

    -- what a fall leaves
    left : (f d : Disks sv kp) (x : In (Messages sv kp) O) (m : Memory O) (e : Disks sv kp) → admits sv kp x m e ≡ true → (f ≡ d) ⊎ (f ≡ (behaves sv kp (admits sv kp) x m e).stored) → (f ≡ d) ⊎ (f ≡ (behaves sv kp free_guard x m e).stored)
    left f d x m e a (inl q) = inl q
    left f d x m e a (inr q) = inr (q ∙ ap (λ (z : Ended sv kp). z.stored) (sym (same x m e a)))

    pub freed : {es : List (Seen O R)} {w : Wor} (t : Trace (replicated sv kp (admits sv kp)) all es w) → steps_of t < 288230376151711744 → Free (steps_of t) es w
    unfolding steps_of
    freed begin l = (begin, refl)
    freed (rises i d h t e) l = let y = freed t (omega (arith, l)) in (rises i d h y.0 e, ap suc y.1)
    freed (does {es} {w} i m d p h t e n to) l =
        let s : steps_of t < 288230376151711744 = omega (arith, l) in let y = freed t s in
        subst (Ends (suc (steps_of t)) i es w) (same (Cluster.In.From p.from p.what) m d ((admitted sv kp (admits sv kp) all few t s i m d e).from p n)) (does i m d p h y.0 e n to, ap suc y.1)
    freed (asked {es} {w} i k o m d h t e u) l =
        let s : steps_of t < 288230376151711744 = omega (arith, l) in let y = freed t s in
        subst (Ends (suc (steps_of t)) i (called i k o ∷ es) (asking i k w)) (same (Ask k o) m d ((admitted sv kp (admits sv kp) all few t s i m d e).ask k o)) (asked i k o m d h y.0 e u, ap suc y.1)
    freed (ticks {es} {w} i m d h t e) l =
        let s : steps_of t < 288230376151711744 = omega (arith, l) in let y = freed t s in
        subst (Ends (suc (steps_of t)) i es w) (same Tick m d (admitted sv kp (admits sv kp) all few t s i m d e).tick) (ticks i m d h y.0 e, ap suc y.1)
    freed (falls i m d h t e) l = let y = freed t (omega (arith, l)) in (falls i m d h y.0 e, ap suc y.1)
    freed (falls_rising i d f h t e q) l = let y = freed t (omega (arith, l)) in (falls_rising i d f h y.0 e q, ap suc y.1)
    freed (falls_doing i m d f p h t e n to q) l =
        let s : steps_of t < 288230376151711744 = omega (arith, l) in let y = freed t s in
        (falls_doing i m d f p h y.0 e n to (left f d (Cluster.In.From p.from p.what) m d ((admitted sv kp (admits sv kp) all few t s i m d e).from p n) q), ap suc y.1)
    freed (falls_asked i k o m d f h t e u q) l =
        let s : steps_of t < 288230376151711744 = omega (arith, l) in let y = freed t s in
        (falls_asked i k o m d f h y.0 e u (left f d (Ask k o) m d ((admitted sv kp (admits sv kp) all few t s i m d e).ask k o) q), ap suc y.1)
    freed (falls_ticking i m d f h t e q) l =
        let s : steps_of t < 288230376151711744 = omega (arith, l) in let y = freed t s in
        (falls_ticking i m d f h y.0 e (left f d Tick m d (admitted sv kp (admits sv kp) all few t s i m d e).tick q), ap suc y.1)

    -- HELP for houses that admit everything is help for those that admit what fits
    module _ (group : List ℕ) (ins : T (inside all group)) (n : ℕ) (es : List (Seen O R)) (w : Wor) (start : Free n es w) where
      abbrev pub Helps : ℕ → List (Seen O R) → Wor → Type 0
      Helps steps fs v = PureHelped (replicated sv kp (admits sv kp)) all group steps es w fs v

      abbrev pub Goes : ℕ → List (Seen O R) → Wor → Type 0
      Goes steps fs v = Helps steps fs v × Free (steps + n) fs v

      pub guarded : {steps : ℕ} {fs : List (Seen O R)} {v : Wor} → PureHelped (replicated sv kp free_guard) all group steps es w fs v → steps + n < 288230376151711744 → Goes steps fs v
      unfolding steps_of
      guarded still l = (still, (start.0, omega (arith, start.1)))
      guarded (rising i d g he e) l = let (y, z) = guarded he (omega (arith, l)) in (rising i d g y e, (rises i d (inside_low all group ins i g) z.0 e, omega (arith, z.1)))
      guarded (doing {steps} {fs} {v} i m d p news g from he e wires new to) l =
          let (y, f) = guarded he (omega (arith, l)) in
          let on_wire : Memᴰ p v.wire = subst (Memᴰ p) (sym wires) (Memᴰ.append_left w.wire new) in
          let a = (admitted sv kp free_guard all few f.0 (omega (arith, f.1, l)) i m d e).from p on_wire in (
            subst (λ (z : Ended sv kp). Helps (suc steps) (tells i z.out ++ fs) (after (replicated sv kp free_guard) i z v)) (sym (same (Cluster.In.From p.from p.what) m d a)) (doing i m d p news g from y e wires new to),
            (does i m d p (inside_low all group ins i g) f.0 e on_wire to, omega (arith, f.1)),
          )
      guarded (ticking {steps} {fs} {v} i m d g he e) l =
          let (y, f) = guarded he (omega (arith, l)) in
          let a = (admitted sv kp free_guard all few f.0 (omega (arith, f.1, l)) i m d e).tick in (
            subst (λ (z : Ended sv kp). Helps (suc steps) (tells i z.out ++ fs) (after (replicated sv kp free_guard) i z v)) (sym (same Tick m d a)) (ticking i m d g y e),
            (ticks i m d (inside_low all group ins i g) f.0 e, omega (arith, f.1)),
          )

pub answers_within : ReplicatedAnswersWithin
answers_within O R sv kp laws keeps low all three few es w t lt group di ins long =
    let f = freed sv kp all few t (omega (arith, lt)) in
    let (fs, v, steps, c, he, told) = answers O R sv kp (free_guard sv kp) laws keeps (λ x m d. refl) all three few es w f.0 group di ins long in
    (fs, v, steps, c, (guarded sv kp all few group ins (steps_of t) es w f he (omega (arith, c, low, lt))).0, told)
