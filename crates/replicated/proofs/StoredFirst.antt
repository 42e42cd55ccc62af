-- Each status is what its sender stored at the end of the very event in which it was sent.
use Rattle.std.specs.Prelude.{◌≡◌, ◌⊎◌, ℕ, List, ◌++◌, nat_le}
use Rattle.std.proofs.Common.{refl, sym, ◌∙◌, ap, inl, inr, arith}
use mathlib.Core.List.Memᴰ
use mathlib.Core.List.{Memᴰ}
use Rattle.agreement.proofs.Base.{by_test}
use Rattle.disks.specs.Cluster.{In, Ask, Tick, Seen, Packet, packets, put}
use Rattle.disks.specs.Cluster
use Rattle.compose.specs.Pure.{Stand, World, Trace, begin, rises, does, asked, ticks, falls, falls_rising, falls_doing, falls_asked, falls_ticking}
use Rattle.copies.specs.Service.{Service, Keeper}
use Rattle.copies.specs.Messages.{Status, Told}
use Rattle.copies.specs.Copy.{Memory, forward, pack, queued, count}
use Rattle.copies.specs.House.{Disks, Wholes, Messages, Ended, Guard, status_now, begins, on, got, ticked, finishes, acts, behaves, replicated}
use Rattle.copies.specs.Promise.{Passed, stored_at, StoredFirst}
use Rattle.replicated.proofs.Lists.{put_here}
use Rattle.replicated.proofs.Sent.{each_post, from_posts}

module _ {O R : Type 0} (sv : Service O R) (kp : Keeper sv) where
  -- a message that is a status is this one
  abbrev IsStatus : Status O → Messages sv kp → Type 0
  IsStatus y m = (x : Status O) → m ≡ Told x → y ≡ x

  no_status : {A : Type 0} → ◌≡◌ {A = ℕ} 0 1 → A
  no_status e = absurd (omega arith)

  -- each status of what i gives is what it stores
  abbrev Stores : ℕ → Ended sv kp → Type 0
  Stores i e = (p : Packet (Messages sv kp)) (x : Status O) → Memᴰ p (packets i e.out) → p.what ≡ Told x → (p.from ≡ i) × (status_now sv kp e.stored.agreeing ≡ x)

  finish_stores : (i : ℕ) (w : Wholes sv kp) → Stores i (finishes sv kp w)
  finish_stores i w p x n e =
      let f = from_posts sv kp i w p n in
      let g = each_post sv kp (λ r m. IsStatus (status_now sv kp w.turn.agreeing) m) w (λ r y h. cc) (λ c _ r y h. no_status cc) (λ r y h. no_status cc) (λ b t _ r y h. no_status cc) (λ z _ y h. no_status cc) f.post f.inside in
      (ap (λ (q : Packet (Messages sv kp)). q.from) f.is, g x (ap (λ (q : Packet (Messages sv kp)). q.what) (sym f.is) ∙ e))

  module _ (ok : Guard sv kp) (all : ℕ) where
    does_stores : (i : ℕ) (x : In (Messages sv kp) O) (m : Memory O) (d : Disks sv kp) → Stores i (behaves sv kp ok x m d)
    unfolding behaves acts packets
    does_stores i x m d = by_test (Stores i) (ok x m d) (λ _. go x) (λ _ p y n e. absurd (Memᴰ.not-nil n))
      where
        go : (x : In (Messages sv kp) O) → Stores i (acts sv kp x m d)
        go (Cluster.In.From r y) = finish_stores i (got sv kp r y (begins sv kp m d))
        go (Ask k o) = by_test (Stores i) (nat_le 8 (count m m.way)) (λ _ p y n e. absurd (Memᴰ.not-nil n)) (λ _. finish_stores i (on sv kp (λ t. forward (pack (queued k o t))) (begins sv kp m d)))
        go Tick = finish_stores i (ticked sv kp (begins sv kp m d))

    abbrev Worlds : Type 0
    Worlds = World (Memory O) (Disks sv kp) (Messages sv kp)

    abbrev First : {es : List (Seen O R)} {w : Worlds} → Trace (replicated sv kp ok) all es w → Packet (Messages sv kp) → Status O → Type 0
    First t p x = (u : Worlds) × Passed t u × (status_now sv kp (stored_at (u.house p.from)).agreeing ≡ x)

    module _ {es : List (Seen O R)} {w : Worlds} (t : Trace (replicated sv kp ok) all es w) (p : Packet (Messages sv kp)) (x : Status O) where
      abbrev Next : Worlds → Type 0
      Next v = (u : Worlds) × ((u ≡ v) ⊎ Passed t u) × (status_now sv kp (stored_at (u.house p.from)).agreeing ≡ x)

      later : (v : Worlds) → First t p x → Next v
      later v f = (f.0, inr f.1, f.2)

      -- house i gives something
      gives : (i : ℕ) (z : Ended sv kp) (v : Worlds) → Stores i z → v.house i ≡ Rattle.compose.specs.Pure.on z.mem z.stored → Memᴰ p (packets i z.out ++ w.wire) → p.what ≡ Told x → (Memᴰ p w.wire → First t p x) → Next v
      gives i z v h e n f old = elim (Memᴰ.append_cases (packets i z.out) n) [
        | inl k ↦ (let g = h p x k f in (v, inl refl, ap (λ (j : ℕ). status_now sv kp (stored_at (v.house j)).agreeing) g.0 ∙ ap (λ (s : Stand (Memory O) (Disks sv kp)). status_now sv kp (stored_at s).agreeing) e ∙ g.1))
        | inr k ↦ later v (old k)
      ]

    first : {es : List (Seen O R)} {w : Worlds} (t : Trace (replicated sv kp ok) all es w) (p : Packet (Messages sv kp)) (x : Status O) → Memᴰ p w.wire → p.what ≡ Told x → First t p x
    unfolding Passed
    first begin p x n e = absurd (Memᴰ.not-nil n)
    first (rises {es} {w} i d l t h) p x n e = later t p x _ (first t p x n e)
    first (does {es} {w} i m d q l t h k to) p x n e = gives t p x i (behaves sv kp ok (Cluster.In.From q.from q.what) m d) _ (does_stores i (Cluster.In.From q.from q.what) m d) (put_here i _ w.house) n e (λ o. first t p x o e)
    first (asked {es} {w} i k o m d l t h u) p x n e = gives t p x i (behaves sv kp ok (Ask k o) m d) _ (does_stores i (Ask k o) m d) (put_here i _ w.house) n e (λ o. first t p x o e)
    first (ticks {es} {w} i m d l t h) p x n e = gives t p x i (behaves sv kp ok Tick m d) _ (does_stores i Tick m d) (put_here i _ w.house) n e (λ o. first t p x o e)
    first (falls {es} {w} i m d l t h) p x n e = later t p x _ (first t p x n e)
    first (falls_rising {es} {w} i d f l t h c) p x n e = later t p x _ (first t p x n e)
    first (falls_doing {es} {w} i m d f q l t h k to c) p x n e = later t p x _ (first t p x n e)
    first (falls_asked {es} {w} i k o m d f l t h u c) p x n e = later t p x _ (first t p x n e)
    first (falls_ticking {es} {w} i m d f l t h c) p x n e = later t p x _ (first t p x n e)

pub stored_first : StoredFirst
stored_first O R sv kp ok all es w t p x n e = first sv kp ok all t p x n e
