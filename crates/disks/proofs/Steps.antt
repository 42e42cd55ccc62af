-- What a call leaves, whichever it is: one of six outcomes. Each promise over runs then goes by these, and by what a cut leaves.
use Rattle.std.specs.Prelude.{◌≡◌, refl, Bool, true, false, cond, ◌&&◌, ◌||◌, not, ℕ, ◌+◌, ◌≤◌, eqb, ltb, leb, T, length}
use Rattle.std.proofs.Common.{arith, le_refl}
use mathlib.Core.List.{List, [], ◌∷◌, ◌++◌}
use Rattle.disks.specs.Device.{all_bytes}
use Rattle.disks.specs.Disks.{Volume, Picture, State, keep, find, Call, Make, Attach, Read, Write, Sync, Picture', Copy, Drop, DropPicture, Out, no, is_volume, is_picture, with_volumes, in_volume, makes, attaches, holding, copies, drops_picture, does, CutVolumes, cut}
use Rattle.disks.specs.Promise.{Run, still, onward, was_cut}

-- the library's `cond_both`, for a test that holds or fails as the statements say it
pub on_cond : {A : Type 0} (P : A → Type 0) (b : Bool) {x y : A} → (T b → P x) → (T (not b) → P y) → P (cond b x y)
on_cond P true f g = f tt
on_cond P false f g = g tt

pub on_holding : (P : Out → Type 0) (t : ℕ) (l : List Volume) (f : Volume → Out) (s : State) → P (no 2 s) → P (no 4 s) → ((x : Volume) → P (f x)) → P (holding t l f s)
unfolding holding
on_holding P t [] f s a b c = a
on_holding P t (x ∷ xs) f s a b c = on_cond P (eqb t 0 || not (eqb t x.token)) (λ u. b) (λ u. c x)

pub data Step (s : State) : State → Type 0 where
  nothing : Step s s
  made : (x : Volume) → x.num ≡ s.next → Step s (record { next = s.next + 1; volumes = s.volumes ++ (x ∷ []); pictures = s.pictures })
  changed : (w : ℕ) (f : Volume → Volume) → ((x : Volume) → (f x).num ≡ x.num) → ((x : Volume) → x.token ≤ (f x).token) → Step s (in_volume w f s)
  dropped : (w : ℕ) → Step s (with_volumes (keep (λ (y : Volume). not (is_volume w y)) s.volumes) s)
  taken : (p : Picture) → p.num ≡ s.next → Step s (record { next = s.next + 1; volumes = s.volumes; pictures = s.pictures ++ (p ∷ []) })
  thrown : (f : Picture → Bool) → Step s (record { next = s.next; volumes = s.volumes; pictures = keep f s.pictures })

abbrev To : State → Out → Type 0
To s o = Step s o.state

makes_step : (z : ℕ) (f : ℕ → List ℕ) (s : State) → To s (makes z f s)
makes_step z f s = on_cond (To s) (leb 4096 (length s.volumes) || leb 4611686018427387904 s.next) (λ u. nothing) (λ u. made _ refl)

attaches_step : (l : List Volume) (s : State) → To s (attaches l s)
unfolding attaches
attaches_step [] s = nothing
attaches_step (v ∷ vs) s = on_cond (To s) (leb 4611686018427387903 v.token) (λ u. nothing) (λ u. changed v.num _ (λ x. refl) (λ x. omega arith))

copies_step : (l : List Picture) (s : State) → To s (copies l s)
unfolding copies
copies_step [] s = nothing
copies_step (p ∷ ps) s = makes_step p.size p.sector s

throws_step : (l : List Picture) (s : State) → To s (drops_picture l s)
unfolding drops_picture
throws_step [] s = nothing
throws_step (p ∷ ps) s = thrown _

pub step : (c : Call) (s : State) → To s (does c s)
unfolding does
step (Make z) s = on_cond (To s) (eqb z 0 || ltb 1099511627776 z) (λ u. nothing) (λ u. makes_step z _ s)
step (Attach v) s = attaches_step (find (is_volume v) s.volumes) s
step (Read v t n) s = on_holding (To s) t (find (is_volume v) s.volumes) _ s nothing nothing (λ x. on_cond (To s) (ltb n x.size) (λ u. nothing) (λ u. nothing))
step (Write v t n b) s = on_cond (To s) (not (eqb (length b) 512 && all_bytes b)) (λ u. nothing) (λ u. on_holding (To s) t (find (is_volume v) s.volumes) _ s nothing nothing (λ x. on_cond (To s) (ltb n x.size) (λ u. changed v _ (λ y. refl) (λ y. le_refl _)) (λ u. nothing)))
step (Sync v t) s = on_holding (To s) t (find (is_volume v) s.volumes) _ s nothing nothing (λ x. changed v _ (λ y. refl) (λ y. le_refl _))
step (Picture' v t) s = on_holding (To s) t (find (is_volume v) s.volumes) _ s nothing nothing (λ x. on_cond (To s) (leb 4096 (length s.pictures) || leb 4611686018427387904 s.next) (λ u. nothing) (λ u. taken _ refl))
step (Copy p) s = copies_step (find (is_picture p) s.pictures) s
step (Drop v t) s = on_holding (To s) t (find (is_volume v) s.volumes) _ s nothing nothing (λ x. dropped v)
step (DropPicture p) s = throws_step (find (is_picture p) s.pictures) s

pub data Move (s : State) : State → Type 0 where
  called : {u : State} → Step s u → Move s u
  shortened : (ws : List Volume) → CutVolumes s.volumes ws → Move s (with_volumes ws s)

-- what each call and each cut keeps holds along a run
pub along : (P : State → Type 0) → ((s u : State) → P s → Move s u → P u) → {s t : State} → Run s t → P s → P t
along P goes still h = h
along P goes (onward {t = t} c r) h = goes t _ (along P goes r h) (called (step c t))
along P goes (was_cut r (cut s ws x)) h = goes s _ (along P goes r h) (shortened ws x)
