-- Whoever has a volume has a device: along its calls, what is found under its number has the device that these calls make.
use Rattle.std.specs.Prelude.{◌≡◌, refl, ◌⊎◌, ◌&&◌, not, ℕ, eqb, ltb, leb, length}
use Rattle.std.proofs.Common.{ap, subst, inl, inr}
use mathlib.Core.List.{List, [], ◌∷◌}
use Rattle.disks.specs.Device.{Device, shown, written, synced, all_bytes, AfterCut}
use Rattle.disks.specs.Disks.{Volume, State, Yes, Sector, Out, with_disk, in_volume, attaches, does, cut}
use Rattle.disks.specs.Promise.{Uses, IsADevice, CutAsADevice}
use Rattle.disks.proofs.Steps.{on_cond}
use Rattle.disks.proofs.Found.{Head, at, all_heads, head_change, head_changed, head_cut, on_found}

abbrev pub Shows : ℕ → Device → State → Type 0
Shows v d s = Head (λ (x : Volume). x.disk ≡ d) (at v s)

-- the device of the one that is found changes
changed : (g : Device → Device) (v : ℕ) (s : State) {d e : Device} → e ≡ d → Shows v (g d) (in_volume v (with_disk (g e)) s)
changed g v s {d} q = head_changed (λ (w : Volume). w.disk ≡ g d) v _ (λ w. refl) s.volumes (all_heads _ (at v s) (λ y. ap g q))

pub shows : {v t z : ℕ} {s : State} {d : Device} → Uses v t z s d → Shows v d s
unfolding does attaches
shows {v} (Uses.attached s x r p e) = go (at v s)
  where
    go : (l : List Volume) → Shows v x.disk (attaches l s).state
    go [] = rw p refl
    go (y ∷ ys) = on_cond (λ (o : Out). Shows v x.disk o.state) (leb 4611686018427387903 y.token) (λ u. rw p refl) (λ u. head_change (λ (w : Volume). w.disk ≡ x.disk) v y.num _ (λ w. refl) (λ w q. q) s.volumes (rw p refl))
shows {v} {t} (Uses.writes {s = s} {d = d} n b u e) =
    on_cond P (not (eqb (length b) 512 && all_bytes b)) (λ _ e. absurd (cc e)) (λ _. on_found P (λ (x : Volume). x.disk ≡ d) t (at v s) _ s (λ e. absurd (cc e)) (λ e. absurd (cc e)) (shows u) (λ x q. on_cond P (ltb n x.size) (λ _ e. changed (written n b) v s q) (λ _ e. absurd (cc e)))) e
  where
    P : Out → Type 0
    P o = o.reply ≡ Yes → Shows v (written n b d) o.state
shows {v} {t} (Uses.syncs {s = s} {d = d} u e) = on_found P (λ (x : Volume). x.disk ≡ d) t (at v s) _ s (λ e. absurd (cc e)) (λ e. absurd (cc e)) (shows u) (λ x q e. changed synced v s q) e
  where
    P : Out → Type 0
    P o = o.reply ≡ Yes → Shows v (synced d) o.state
shows (Uses.cuts u x e) = rw e (shows u)
shows (Uses.others c u e) = rw e (shows u)

pub is_a_device : IsADevice
unfolding does
is_a_device v t z n s d b u e =
    on_found P (λ (x : Volume). x.disk ≡ d) t (at v s) _ s (λ e. absurd (cc e)) (λ e. absurd (cc e)) (shows u) (λ x q. on_cond P (ltb n x.size) (λ _ e. cc (e, ap (λ (f : Device). shown f n) q)) (λ _ e. absurd (cc e))) e
  where
    P : Out → Type 0
    P o = o.reply ≡ Sector b → b ≡ shown d n

pub cut_as_a_device : CutAsADevice
cut_as_a_device v t z s u d x use' (cut s' ws y) e = subst (Head (λ (x : Volume). (x.disk ≡ d) ⊎ AfterCut d x.disk)) e (head_cut (λ (x : Volume). x.disk ≡ d) _ v (λ x q. inl q) (λ x f a q. inr (subst (λ (g : Device). AfterCut g f) q a)) y (shows use'))
