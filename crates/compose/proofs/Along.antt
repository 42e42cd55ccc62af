use Rattle.std.specs.Prelude.{List, ℕ}
use Rattle.disks.specs.Cluster.{Seen, Waiting, Ready, Linear, at_first, makes, is_done, is_told, is_busy, has_fallen, is_cut}
use Rattle.compose.specs.Along.{LinearAlong}

pub linear_along : LinearAlong
linear_along O R p q sim es s ws rs f c l = go l
  where
    go : {es : List (Seen O R)} {s : p.State} {ws : List (Waiting O)} {rs : List (Ready R)} {f c : ℕ} → Linear p es s ws rs f c → (t : q.State) × sim.Rel s t × Linear q es t ws rs f c
    go at_first = (q.start, sim.begins, at_first)
    go (makes i k o l) = let x = go l in (x.0, x.1, makes i k o x.2)
    go (is_done {s = s} {t = t} {r = r} before behind i k o l a) =
        let x = go l in
        let y = sim.answers o r s t x.0 x.1 a in
        (y.0, y.2, is_done before behind i k o x.2 y.1)
    go (is_told before behind i k r l) = let x = go l in (x.0, x.1, is_told before behind i k r x.2)
    go (is_busy {es = es} {s = s} {rs = rs} {f = f} {c = c} before behind i k o l) =
        let x = go l in
        (x.0, x.1, rw sim.busy (is_busy before behind i k o x.2))
    go (has_fallen i l) = let x = go l in (x.0, x.1, has_fallen i x.2)
    go (is_cut {s = s} {t = t} l h a) =
        let x = go l in
        let y = sim.cuts s t x.0 x.1 a in
        (y.0, y.2, is_cut x.2 h y.1)
