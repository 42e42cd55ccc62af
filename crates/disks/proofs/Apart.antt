-- Volumes are apart: what is called of one leaves what is found under another's number.
use Rattle.std.specs.Prelude.{◌≡◌, refl, Bool, cond, ◌&&◌, ◌||◌, not, ℕ, eqb, ltb, leb, T, length}
use Rattle.std.proofs.Common.{ap, sym, ◌∙◌, eqb→eq, arith}
use mathlib.Core.List.{List, [], ◌∷◌, Memᴰ}
use Rattle.disks.specs.Device.{all_bytes}
use Rattle.disks.specs.Disks.{Volume, Picture, State, blank, keep, find, change, Call, Make, Attach, Read, Write, Sync, Picture', Copy, Drop, DropPicture, Reply, No, Yes, Num, Token, Sector, Full, Out, no, is_volume, is_picture, with_volumes, with_disk, in_volume, device_of, makes, attaches, holding, inside, takes_picture, copies, drops_picture, does, cut_to, CutVolumes, no_more, left, is_cut, Cut, cut}
use Rattle.disks.specs.Promise.{Apart, ApartAll}
use Rattle.disks.proofs.Steps.{on_cond, on_holding}
use Rattle.std.proofs.Math.Facts.{T_not, T_not-not}
use Rattle.disks.proofs.Found.{Head, at, head_num}

change-others : {A : Type 0} (f : A → Bool) (g : A → A) {w : A} {xs : List A} → Memᴰ w xs → T (not (f w)) → Memᴰ w (change f g xs)
unfolding change
change-others f g {w} (Memᴰ.head {x = x} {xs = xs} e) t = on_cond (Memᴰ w) (f x) (λ u. absurd (T_not (f x) u (rw e at t))) (λ u. Memᴰ.head e)
change-others f g {w} (Memᴰ.tail {x = x} {xs = xs} m) t = on_cond (Memᴰ w) (f x) (λ u. Memᴰ.tail m) (λ u. Memᴰ.tail (change-others f g m t))

pub apart : Apart
unfolding does
apart s v t n b w mem other = ((writes.0, syncs.0), (writes.1, syncs.1))
  where
    P : Out → Type 0
    P o = Memᴰ w o.state.volumes × (o.state.pictures ≡ s.pictures)

    writes : P (does (Write v t n b) s)
    writes = on_cond P (not (eqb (length b) 512 && all_bytes b)) (λ u. (mem, refl)) (λ u. on_holding P t (find (is_volume v) s.volumes) _ s (mem, refl) (mem, refl) (λ x. on_cond P (ltb n x.size) (λ u. (change-others (is_volume v) _ mem other, refl)) (λ u. (mem, refl))))

    syncs : P (does (Sync v t) s)
    syncs = on_holding P t (find (is_volume v) s.volumes) _ s (mem, refl) (mem, refl) (λ x. (change-others (is_volume v) _ mem other, refl))

module _ (u v : ℕ) (other : u ≡ v → ⊥) where
  passed_over : (y : Volume) (ys : List Volume) → v ≡ y.num → find (is_volume u) (y ∷ ys) ≡ find (is_volume u) ys
  unfolding find
  passed_over y ys e = on_cond (λ zs. zs ≡ find (is_volume u) ys) (eqb u y.num) (λ t. absurd (other (grind arith))) (λ _. refl)

  find-change : (f : Volume → Volume) → ((x : Volume) → (f x).num ≡ x.num) → (vs : List Volume) → find (is_volume u) (change (is_volume v) f vs) ≡ find (is_volume u) vs
  unfolding find change
  find-change f nums [] = refl
  find-change f nums (x ∷ xs) =
      on_cond (λ zs. find (is_volume u) zs ≡ find (is_volume u) (x ∷ xs)) (eqb v x.num) (λ t. let e = eqb→eq v x.num t in passed_over (f x) xs (e ∙ sym (nums x)) ∙ sym (passed_over x xs e))
      (λ _. ap (cond (eqb u x.num) (x ∷ [])) (find-change f nums xs))

  find-keep : (vs : List Volume) → find (is_volume u) (keep (λ (y : Volume). not (is_volume v y)) vs) ≡ find (is_volume u) vs
  unfolding find keep
  find-keep [] = refl
  find-keep (x ∷ xs) =
      on_cond (λ zs. find (is_volume u) zs ≡ find (is_volume u) (x ∷ xs)) (not (eqb v x.num)) (λ _. ap (cond (eqb u x.num) (x ∷ [])) (find-keep xs))
      (λ t. find-keep xs ∙ sym (passed_over x xs (eqb→eq v x.num (T_not-not _ t))))

pub apart_all : ApartAll
unfolding does attaches
apart_all s v u t n b other = (attaching (at v s) (head_num v s.volumes), writing, held _ (λ x. find-change u v other _ (λ y. refl) s.volumes), held _ (λ x. find-keep u v other s.volumes), held _ (λ x. on_cond P (leb 4096 (length s.pictures) || leb 4611686018427387904 s.next) (λ _. refl) (λ _. refl)))
  where
    P : Out → Type 0
    P o = find (is_volume u) o.state.volumes ≡ find (is_volume u) s.volumes

    held : (f : Volume → Out) → ((x : Volume) → P (f x)) → P (Rattle.disks.specs.Disks.holding t (at v s) f s)
    held f h = on_holding P t (at v s) f s refl refl h

    writing : P (does (Write v t n b) s)
    writing = on_cond P (not (eqb (length b) 512 && all_bytes b)) (λ _. refl) (λ _. held _ (λ x. on_cond P (ltb n x.size) (λ _. find-change u v other _ (λ y. refl) s.volumes) (λ _. refl)))

    attaching : (l : List Volume) → Head (λ (x : Volume). v ≡ x.num) l → P (attaches l s)
    attaching [] h = refl
    attaching (x ∷ xs) h = on_cond P (leb 4611686018427387903 x.token) (λ _. refl) (λ _. find-change u x.num (λ e. other (e ∙ sym h)) _ (λ y. refl) s.volumes)
