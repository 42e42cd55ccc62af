-- One-place histories along a simulation: where each answer that one service allows is one that another allows, from related states to
-- related states, what may be seen of the one may be seen of the other, with the same calls waiting, ready, falls and cuts.
-- Assumes nothing.
use Rattle.std.specs.Prelude.{◌≡◌, List, ℕ}
use Rattle.disks.specs.Cluster.{Seen, Plain, Waiting, Ready, Linear}

pub record Follows {O R : Type 0} (p q : Plain O R) : Type 1 where
  pub Rel : p.State → q.State → Type 0
  pub begins : Rel p.start q.start
  pub busy : p.busy ≡ q.busy
  pub answers : (o : O) (r : R) (s s' : p.State) (t : q.State) → Rel s t → p.Answers o s r s' → (t' : q.State) × q.Answers o t r t' × Rel s' t'
  pub cuts : (s s' : p.State) (t : q.State) → Rel s t → p.Cut s s' → (t' : q.State) × q.Cut t t' × Rel s' t'

abbrev pub LinearAlong : Type 1
LinearAlong =
    (O R : Type 0) (p q : Plain O R) (sim : Follows p q) (es : List (Seen O R)) (s : p.State) (ws : List (Waiting O)) (rs : List (Ready R)) (f c : ℕ) → Linear p es s ws rs f c → (t : q.State) × sim.Rel s t × Linear q es t ws rs f c
