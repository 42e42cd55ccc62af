-- The service is the meaning. Both go through the same tests, so it is enough to relate what stands at the end of each way: an answer that
-- is the same with states that are the same, or full, where the meaning would weigh more than before and more than the room.
use Rattle.std.proofs.Common.{◌≡◌, ℕ, ◌+◌, ◌-◌, ◌<◌, ◌≤◌, Bool, true, false, cond, not, ◌&&◌, ◌||◌, T, eqb, ltb, leb, ◌≢◌, ◌⊎◌, List, [], ◌∷◌, ◌++◌, length, sym, refl, ap, ◌∙◌, subst, ap₂, inl, inr, arith, eq-eqb, ne_eqb, eqb-true}
use Rattle.std.proofs.lemmas.Bool.Decides.{nat_tests}
use Rattle.disks.specs.Device.{zeros, shown, written, synced, latest, all_bytes}
use Rattle.disks.specs.Disks.{Volume, State, find, change, Call, Make, Attach, Read, Write, Sync, Picture', Copy, Drop, DropPicture, Reply, No, Yes, Num, Token, Sector, Full, Out, no, is_volume, with_disk, in_volume, device_of, attaches, holding, inside, does, one, all_zero, used, pictures_used, weight, Answers, says_so, not_yet, full, core}
use Rattle.volumes.specs.declared.head.Head.{Head}
use Rattle.volumes.specs.Weights.{weighs}
use Rattle.volumes.specs.Service.{keeps, puts, forgets, Served, says, is_head, with_token, with_used, new_head, recount, makes_head, attaches_head, held, within, writes_head, drops_head, serves}
use Rattle.volumes.specs.Simulation.{Sectors, Store, changed_by, served_at, store_after, SameVolume, SameVolumes, none, both, Same, WholeSector, ServesTheMeaning}
use Rattle.volumes.proofs.Counts.{used-blank, shown_written, recounted, cond_other}
use Rattle.volumes.proofs.Lists.{same_length, same_weight, same_found, same_changed, same_dropped, same_pushed, rising_pushed, rising-changed, rising_kept, rising-below, found_one}
use Rattle.volumes.proofs.Weighing.{weighs_push, weighs-changed, weighs-without}

-- tests that are the same on both sides
both_cond : {A B : Type 0} (P : A → B → Type 0) (a b : Bool) {x y : A} {z w : B} → a ≡ b → (a ≡ true → P x z) → (a ≡ false → P y w) → P (cond a x y) (cond b z w)
both_cond P true true e f g = f refl
both_cond P true false e f g = let z : ◌≡◌ {A = ℕ} 0 1 = cc in absurd (omega arith)
both_cond P false true e f g = let z : ◌≡◌ {A = ℕ} 0 1 = cc in absurd (omega arith)
both_cond P false false e f g = g refl

unchanged : {A : Type 0} (f : A → Bool) (xs : List A) → change f (λ (x : A). x) xs ≡ xs
unfolding change
unchanged f [] = refl
unchanged f (x ∷ xs) = go (f x) (unchanged f xs)
  where
    go : (b : Bool) → change f (λ (y : _). y) xs ≡ xs → cond b (x ∷ xs) (x ∷ change f (λ (y : _). y) xs) ≡ x ∷ xs
    go true ih = refl
    go false ih = ap (λ (ys : List _). x ∷ ys) ih

-- all weighs what the heads do
weight_is : (s : State) {f : Sectors} {hs : List Head} → s.pictures ≡ [] → SameVolumes f s.volumes hs → weight s ≡ weighs hs
unfolding pictures_used
weight_is s e q = omega (arith, same_weight q, ap pictures_used e)

module _ (room : ℕ) (s : State) (t : Store) (p : Same s t) where
  -- what a way of the meaning and one of the service come to
  abbrev Like : Out → Served → Type 0
  Like o r = (o.reply ≡ r.reply) × Same o.state (record { service = r.service; sector = changed_by r.change t.sector })

  abbrev Fulls : Out → Served → Type 0
  Fulls o r = (r ≡ says Full t.service) × (weight s < weight o.state) × (room < weight o.state)

  abbrev Fits : Out → Served → Type 0
  Fits o r = Like o r ⊎ Fulls o r

  refuses : (k : ℕ) → Fits (no k s) (says (No k) t.service)
  refuses k = inl (refl, p)

  weight_same : weight s ≡ t.service.weight
  weight_same = weight_is s p.pictures p.volumes ∙ sym p.counted

  -- what is found under a number
  on_held : (n tk : ℕ) (F : Volume → Out) (G : Head → Served) → ((v : Volume) (h : Head) → SameVolume t.sector v h → find (is_volume n) s.volumes ≡ v ∷ [] → find (is_head n) t.service.heads ≡ h ∷ [] → Fits (F v) (G h)) → Fits (holding tk (find (is_volume n) s.volumes) F s) (held tk (find (is_head n) t.service.heads) G t.service)
  unfolding holding
  on_held n tk F G c = go (find (is_volume n) s.volumes) (find (is_head n) t.service.heads) refl refl (same_found n p.volumes)
    where
      go : (vs : List Volume) (hs : List Head) → find (is_volume n) s.volumes ≡ vs → find (is_head n) t.service.heads ≡ hs → SameVolumes t.sector vs hs → Fits (holding tk vs F s) (held tk hs G t.service)
      go vs hs ev eh none = refuses 2
      go vs hs ev eh (both {vs = vs'} {hs = hs'} v h q r) =
          both_cond Fits (eqb tk 0 || not (eqb tk v.token)) (eqb tk 0 || not (eqb tk h.token.0)) (ap (λ (k : ℕ). eqb tk 0 || not (eqb tk k)) q.token) (λ _. refuses 4)
          (λ _. c v h q (ev ∙ ap (λ (ws : List Volume). v ∷ ws) (found_one (is_volume n) s.volumes v vs' ev).0) (eh ∙ ap (λ (ks : List Head). h ∷ ks) (found_one (is_head n) t.service.heads h hs' eh).0))

  -- MAKE
  module _ (z : ℕ) where
    abbrev made : State
    made = record { next = s.next + 1; volumes = s.volumes ++ (record { num = s.next; size = z; token = 0; disk = device_of (λ n. zeros 512) } ∷ []); pictures = s.pictures }

    abbrev made_store : Store
    made_store = record { service = record { next = t.service.next + 1; heads = t.service.heads ++ new_head t.service.next z ∷ []; weight = t.service.weight + 64 }; sector = t.sector }

    made_same : Same made made_store
    unfolding latest
    made_same =
        record {
          next = ap (λ (k : ℕ). k + 1) p.next;
          pictures = p.pictures;
          volumes = same_pushed _ _ (record { number = p.next; size = refl; token = refl; count = used-blank z; sector = λ n. sym (p.fresh s.next n (omega arith)) }) p.volumes;
          counted = omega (arith, p.counted, weighs_push t.service.heads (new_head t.service.next z));
          rising = rising_pushed 0 s.next s.volumes _ refl p.rising;
          fresh = λ v n l. p.fresh v n (omega arith);
        }

    made-weight : weight made ≡ t.service.weight + 64
    made-weight = weight_is made made_same.pictures made_same.volumes ∙ sym made_same.counted

    on_make : Fits (does (Make z) s) (makes_head room z t.service)
    unfolding does
    on_make =
        both_cond Fits (eqb z 0 || ltb 1099511627776 z) (eqb z 0 || ltb 1099511627776 z) refl (λ _. refuses 1)
        (λ _. both_cond Fits (leb 4096 (length s.volumes) || leb 4611686018427387904 s.next) (leb 4096 (length t.service.heads) || leb 4611686018427387904 t.service.next) tests (λ _. refuses 8) (λ _. ways (ltb room (t.service.weight + 64)) refl))
      where
        tests : (leb 4096 (length s.volumes) || leb 4611686018427387904 s.next) ≡ (leb 4096 (length t.service.heads) || leb 4611686018427387904 t.service.next)
        tests = ap (λ (k : ℕ). leb 4096 k || leb 4611686018427387904 s.next) (same_length p.volumes) ∙ ap (λ (k : ℕ). leb 4096 (length t.service.heads) || leb 4611686018427387904 k) p.next

        ways : (b : Bool) → ltb room (t.service.weight + 64) ≡ b → Fits (record { reply = Num s.next; state = made }) (cond b (says Full t.service) (record { reply = Num t.service.next; service = made_store.service; change = keeps }))
        ways true e = inr (refl, omega (arith, made-weight, weight_same), over)
          where
            over : room < weight made
            over = let l : room < t.service.weight + 64 = grind (arith, nat_tests) in omega (arith, made-weight)
        ways false e = inl (ap Num p.next, made_same)

  -- one volume and its head changed, the sectors of no other
  module _ (n : ℕ) (x : Volume) (h : Head) (fv : find (is_volume n) s.volumes ≡ x ∷ []) (fh : find (is_head n) t.service.heads ≡ h ∷ []) where
    number_is : n ≡ x.num
    number_is = eqb-true n x.num (found_one (is_volume n) s.volumes x [] fv).1

    low : n < s.next
    low = rising-below n 0 s.next s.volumes x p.rising fv

    changed_same : (g : Sectors) (k : Volume → Volume) (j : Head → Head) (w : ℕ) → ((v m : ℕ) → v ≢ n → t.sector v m ≡ g v m) → ((v : Volume) → (k v).num ≡ v.num) → SameVolume g (k x) (j h) → w + h.used ≡ t.service.weight + (j h).used →
        Same (in_volume n k s) (record { service = record { next = t.service.next; heads = change (is_head n) j t.service.heads; weight = w }; sector = g })
    changed_same g k j w others nums q e =
        record {
          next = p.next;
          pictures = p.pictures;
          volumes = same_changed g n 0 s.next k j x h others q p.rising p.volumes fv fh;
          counted = omega (arith, p.counted, weighs-changed n j t.service.heads h fh);
          rising = rising-changed n 0 s.next k s.volumes nums p.rising;
          fresh = λ v m l. sym (others v m (omega (arith, low))) ∙ p.fresh v m l;
        }

  -- ATTACH
  abbrev raise : Volume → Volume
  raise y = record { num = y.num; size = y.size; token = y.token + 1; disk = y.disk }

  on_attach : (n : ℕ) → Fits (does (Attach n) s) (attaches_head n (find (is_head n) t.service.heads) t.service)
  unfolding does attaches
  on_attach n = go (find (is_volume n) s.volumes) (find (is_head n) t.service.heads) refl refl (same_found n p.volumes)
    where
      state : (x : Volume) (h : Head) → SameVolume t.sector x h → find (is_volume n) s.volumes ≡ x ∷ [] → find (is_head n) t.service.heads ≡ h ∷ [] →
          Same (in_volume x.num raise s) (record { service = record { next = t.service.next; heads = change (is_head n) (with_token (h.token.0 + 1)) t.service.heads; weight = t.service.weight }; sector = t.sector })
      state x h q fv fh =
          subst (λ (m : ℕ). Same (in_volume m raise s) (record { service = record { next = t.service.next; heads = change (is_head n) (with_token (h.token.0 + 1)) t.service.heads; weight = t.service.weight }; sector = t.sector })) (number_is n x h fv fh)
          (changed_same n x h fv fh t.sector raise (with_token (h.token.0 + 1)) t.service.weight (λ v m e. refl) (λ v. refl) (record { number = q.number; size = q.size; token = ap (λ (k : ℕ). k + 1) q.token; count = q.count; sector = q.sector }) refl)

      go : (vs : List Volume) (hs : List Head) → find (is_volume n) s.volumes ≡ vs → find (is_head n) t.service.heads ≡ hs → SameVolumes t.sector vs hs → Fits (attaches vs s) (attaches_head n hs t.service)
      go vs hs ev eh none = refuses 2
      go vs hs ev eh (both {vs = vs'} {hs = hs'} x h q r) =
          both_cond Fits (leb 4611686018427387903 x.token) (leb 4611686018427387903 h.token.0) (ap (leb 4611686018427387903) q.token) (λ _. refuses 8)
          (λ _. inl (ap₂ (λ (a b : ℕ). Token (a + 1) b) q.token q.size, state x h q (ev ∙ ap (λ (ws : List Volume). x ∷ ws) (found_one (is_volume n) s.volumes x vs' ev).0) (eh ∙ ap (λ (ks : List Head). h ∷ ks) (found_one (is_head n) t.service.heads h hs' eh).0)))

  -- READ, SYNC AND DROP
  on_inside : (n : ℕ) (v : Volume) (h : Head) → SameVolume t.sector v h → (o : Out) (r : Served) → (n < v.size → Fits o r) → Fits (inside n v s o) (within n h r t.service)
  on_inside n v h q o r c = both_cond Fits (ltb n v.size) (ltb n h.size.0) (ap (ltb n) q.size) (λ e. c (less e)) (λ _. refuses 1)
    where
      less : ltb n v.size ≡ true → n < v.size
      less e = grind (arith, nat_tests)

  on_read : (n tk m : ℕ) → Fits (does (Read n tk m) s) (held tk (find (is_head n) t.service.heads) (λ (h : Head). within m h (says (Sector (t.sector n m)) t.service) t.service) t.service)
  unfolding does
  on_read n tk m = on_held n tk _ _ (λ v h q fv fh. on_inside m v h q _ _ (λ l. inl (ap Sector (q.sector m ∙ ap (λ (k : ℕ). t.sector k m) (sym (number_is n v h fv fh))), p)))

  on_sync : (n tk : ℕ) → Fits (does (Sync n tk) s) (held tk (find (is_head n) t.service.heads) (λ (h : Head). says Yes t.service) t.service)
  unfolding does latest
  on_sync n tk =
      on_held n tk _ _
      (λ v h q fv fh. inl (
        refl,
        subst (λ (hs : List Head). Same (in_volume n (with_disk (synced v.disk)) s) (record { service = record { next = t.service.next; heads = hs; weight = t.service.weight }; sector = t.sector })) (unchanged (is_head n) t.service.heads)
            (changed_same n v h fv fh t.sector (with_disk (synced v.disk)) (λ (k : Head). k) t.service.weight (λ w m e. refl) (λ w. refl) (record { number = q.number; size = q.size; token = q.token; count = q.count; sector = q.sector }) refl),
      ))

  on_drop : (n tk : ℕ) → Fits (does (Drop n tk) s) (held tk (find (is_head n) t.service.heads) (λ (h : Head). drops_head n h t.service) t.service)
  unfolding does
  on_drop n tk =
      on_held n tk _ _
      (λ v h q fv fh. inl (
        refl,
        record {
          next = p.next;
          pictures = p.pictures;
          volumes = same_dropped (changed_by (forgets n) t.sector) n 0 s.next (λ w m e. sym (cond_other w n (zeros 512) (t.sector w m) e)) p.rising p.volumes;
          counted = omega (arith, p.counted, weighs-without n t.service.heads h fh);
          rising = rising_kept n 0 s.next s.volumes p.rising;
          fresh = λ w m l. either (eqb w n) (t.sector w m) (p.fresh w m l);
        },
      ))
    where
      either : (b : Bool) (y : List ℕ) → y ≡ zeros 512 → cond b (zeros 512) y ≡ zeros 512
      either true y e = refl
      either false y e = e

  -- WRITE
  module _ (n m : ℕ) (b : List ℕ) (x : Volume) (h : Head) (q : SameVolume t.sector x h) (fv : find (is_volume n) s.volumes ≡ x ∷ []) (fh : find (is_head n) t.service.heads ≡ h ∷ []) (l : m < x.size) where
    abbrev was : List ℕ
    was = t.sector n m

    abbrev counts : ℕ
    counts = recount (all_zero was) (all_zero b) h.used

    abbrev after : Sectors
    after = changed_by (puts n m b) t.sector

    abbrev wrote : State
    wrote = in_volume n (with_disk (written m b x.disk)) s

    abbrev wrote_store : Store
    wrote_store = record { service = record { next = t.service.next; heads = change (is_head n) (with_used counts) t.service.heads; weight = t.service.weight - h.used + counts }; sector = after }

    held_was : shown x.disk m ≡ was
    held_was = q.sector m ∙ ap (λ (k : ℕ). t.sector k m) (sym (number_is n x h fv fh))

    counted_so : used x.size (shown (written m b x.disk)) ≡ counts
    counted_so = recounted x.size m b (shown x.disk) (shown (written m b x.disk)) l (shown_written m b x.disk) ∙ ap₂ (λ (z : List ℕ) (k : ℕ). recount (all_zero z) (all_zero b) k) held_was q.count

    shows_so : (k : ℕ) → shown (written m b x.disk) k ≡ after x.num k
    shows_so k = shown_written m b x.disk k ∙ ap (λ (y : List ℕ). cond (eqb k m) b y) (q.sector k) ∙ ap (λ (c : Bool). cond (c && eqb k m) b (t.sector x.num k)) (sym (eq-eqb x.num n (sym (number_is n x h fv fh))))

    others_so : (w k : ℕ) → w ≢ n → t.sector w k ≡ after w k
    others_so w k e = ap (λ (c : Bool). cond (c && eqb k m) b (t.sector w k)) (sym (ne_eqb w n e))

    used-within : h.used ≤ t.service.weight
    used-within = omega (arith, p.counted, weighs-without n t.service.heads h fh)

    wrote_same : Same wrote wrote_store
    wrote_same = changed_same n x h fv fh after (with_disk (written m b x.disk)) (with_used counts) (t.service.weight - h.used + counts) others_so (λ v. refl) (record { number = q.number; size = q.size; token = q.token; count = counted_so; sector = shows_so }) (omega (arith, used-within))

    wrote-weight : weight wrote ≡ t.service.weight - h.used + counts
    wrote-weight = weight_is wrote wrote_same.pictures wrote_same.volumes ∙ sym wrote_same.counted

    -- full exactly where a blank sector would come to hold something above the room
    write-fits : Fits (record { reply = Yes; state = wrote }) (writes_head room n m was b h t.service)
    unfolding one
    write-fits = go (all_zero was) refl (all_zero b) refl (ltb room (t.service.weight + 1)) refl
      where
        fine : Like (record { reply = Yes; state = wrote }) (record { reply = Yes; service = wrote_store.service; change = puts n m b })
        fine = (refl, wrote_same)

        go : (a : Bool) → all_zero was ≡ a → (c : Bool) → all_zero b ≡ c → (d : Bool) → ltb room (t.service.weight + 1) ≡ d → Fits (record { reply = Yes; state = wrote }) (cond (a && not c && d) (says Full t.service) (record { reply = Yes; service = wrote_store.service; change = puts n m b }))
        go true ea false ec true ed = inr (refl, omega (arith, heavier, weight_same), omega (arith, heavier, over))
          where
            heavier : weight wrote ≡ t.service.weight + 1
            heavier = wrote-weight ∙ ap₂ (λ (u v : Bool). t.service.weight - h.used + recount u v h.used) ea ec ∙ omega (arith, used-within)

            over : room < t.service.weight + 1
            over = grind (arith, nat_tests)
        go true ea false ec false ed = inl fine
        go true ea true ec d ed = inl fine
        go false ea c ec d ed = inl fine

  on_write : (n tk m : ℕ) (b : List ℕ) → length b ≡ 512 → T (all_bytes b) → Fits (does (Write n tk m b) s) (held tk (find (is_head n) t.service.heads) (λ (h : Head). within m h (writes_head room n m (t.sector n m) b h t.service) t.service) t.service)
  unfolding does
  on_write n tk m b e f = subst (λ (c : Bool). Fits (cond (not c) (no 1 s) (holding tk (find (is_volume n) s.volumes) (λ (x : Volume). inside m x s (record { reply = Yes; state = in_volume n (with_disk (written m b x.disk)) s })) s)) (held tk (find (is_head n) t.service.heads) (λ (h : Head). within m h (writes_head room n m (t.sector n m) b h t.service) t.service) t.service)) (sym (whole (eqb (length b) 512) (all_bytes b) (eq-eqb (length b) 512 e) f))
      (on_held n tk _ _ (λ x h q fv fh. on_inside m x h q _ _ (λ l. write-fits n m b x h q fv fh l)))
    where
      whole : (a c : Bool) → a ≡ true → T c → (a && c) ≡ true
      whole a true g k = rw g
      whole a false g k = absurd k

  -- what fits is allowed
  allowed : (c : Call) → T (core c) → Fits (does c s) (served_at room c t) → (u : State) × Answers core room c s (served_at room c t).reply u × Same u (store_after room c t)
  allowed c k (inl q) = ((does c s).state, subst (λ (r : Reply). Answers core room c s r (does c s).state) q.0 (says_so c s k), q.1)
  allowed c k (inr q) = (s, subst (λ (r : Served). Answers core room c s r.reply s) (sym q.0) (full c s k q.1 q.2), subst (λ (r : Served). Same s (record { service = r.service; sector = changed_by r.change t.sector })) (sym q.0) p)

  alike : (c : Call) → WholeSector c → (u : State) × Answers core room c s (served_at room c t).reply u × Same u (store_after room c t)
  unfolding serves core
  alike (Make z) w = allowed (Make z) tt (on_make z)
  alike (Attach v) w = allowed (Attach v) tt (on_attach v)
  alike (Read v k n) w = allowed (Read v k n) tt (on_read v k n)
  alike (Write v k n b) w = allowed (Write v k n b) tt (on_write v k n b w.0 w.1)
  alike (Sync v k) w = allowed (Sync v k) tt (on_sync v k)
  alike (Picture' v k) w = (s, not_yet (Picture' v k) s (λ f. f), p)
  alike (Copy q) w = (s, not_yet (Copy q) s (λ f. f), p)
  alike (Drop v k) w = allowed (Drop v k) tt (on_drop v k)
  alike (DropPicture q) w = (s, not_yet (DropPicture q) s (λ f. f), p)

pub serves_the_meaning : ServesTheMeaning
serves_the_meaning = record { begins = record { next = refl; pictures = refl; volumes = none; counted = refl; rising = omega arith; fresh = λ v n l. refl }; steps = λ room s t p c w. alike room s t p c w }
