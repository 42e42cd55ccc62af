use mathlib.Core.List.Memᴰ
use mathlib.Core.List.{List, [], ◌∷◌, ◌++◌, map, Memᴰ}
use Rattle.std.specs.Prelude.{ℕ}
use Rattle.disks.specs.Cluster.{Seen, Plain, Waiting, Ready, Linear}
use Rattle.compose.specs.Sets.{Takes, here, there, Perm, nil, ins, ready}
use Rattle.compose.specs.Past.{Since, passes, Late, at_first, makes, is_done, was_done, is_told, is_busy, has_fallen, is_cut, InsertedIntoThePast, OneInserted}
use Rattle.compose.proofs.Sets.{takes-behind, takes-before, takes_middle, perm_take, perm_put, taken_done, taken-told, taken-busy}

module _ {O R : Type 0} (p : Plain O R) where
  -- of calls that wait, those that go on waiting, and the answers of those that were done in the past
  data Chosen : List (Since p) → List (Waiting O) → List (Ready R) → Type 0 where
    none : Chosen [] [] []
    stays : {w : Since p} {ws : List (Since p)} {ls : List (Waiting O)} {ys : List (Ready R)} → Chosen ws ls ys → Chosen (w ∷ ws) (w.waiting ∷ ls) ys
    reads : {w : Since p} {ws : List (Since p)} {ls : List (Waiting O)} {ys : List (Ready R)} {x : p.State} {r : R} → Memᴰ x w.passed → p.Answers w.waiting.call x r x → Chosen ws ls ys → Chosen (w ∷ ws) ls (ready w.waiting r ∷ ys)

  all_stay : (ws : List (Since p)) → Chosen ws (map (λ w. w.waiting) ws) []
  all_stay [] = none
  all_stay (w ∷ ws) = stays (all_stay ws)

  -- a choice for one call more: it waits, or it was done
  one_stays : {w : Since p} {ws ws' : List (Since p)} {ls : List (Waiting O)} {ys : List (Ready R)} → Takes w ws ws' → Chosen ws' ls ys → (ls' : List (Waiting O)) × Takes w.waiting ls' ls × Chosen ws ls' ys
  one_stays here ch = (_, here, stays ch)
  one_stays (there t) (stays ch) = let (ls', u, ch') = one_stays t ch in (_, there u, stays ch')
  one_stays (there t) (reads m a ch) = let (ls', u, ch') = one_stays t ch in (ls', u, reads m a ch')

  one_reads : {w : Since p} {ws ws' : List (Since p)} {ls : List (Waiting O)} {ys : List (Ready R)} {x : p.State} {r : R} → Memᴰ x w.passed → p.Answers w.waiting.call x r x → Takes w ws ws' → Chosen ws' ls ys →
      (ys' : List (Ready R)) × Takes (ready w.waiting r) ys' ys × Chosen ws ls ys'
  one_reads m a here ch = (_, here, reads m a ch)
  one_reads m a (there t) (stays ch) = let (ys', u, ch') = one_reads m a t ch in (ys', u, stays ch')
  one_reads m a (there t) (reads m' a' ch) = let (ys', u, ch') = one_reads m a t ch in (_, there u, reads m' a' ch')

  -- calls done one after another at a state that stays as it is
  data Now (t : p.State) : List (Waiting O) → List (Ready R) → List (Waiting O) → List (Ready R) → Type 0 where
    no_more : {ls : List (Waiting O)} {ys : List (Ready R)} → Now t ls ys ls ys
    and_then : {w : Waiting O} {ls ls' ls'' : List (Waiting O)} {ys ys' ys'' : List (Ready R)} {r : R} → Takes w ls ls' → Takes (ready w r) ys' ys → p.Answers w.call t r t → Now t ls' ys' ls'' ys'' → Now t ls ys ls'' ys''

  beside-call : {t : p.State} {ls ls' : List (Waiting O)} {ys ys' : List (Ready R)} (w : Waiting O) → Now t ls ys ls' ys' → Now t (w ∷ ls) ys (w ∷ ls') ys'
  beside-call w no_more = no_more
  beside-call w (and_then m n a next) = and_then (there m) n a (beside-call w next)

  beside-answer : {t : p.State} {ls ls' : List (Waiting O)} {ys ys' : List (Ready R)} (y : Ready R) → Now t ls ys ls' ys' → Now t ls (y ∷ ys) ls' (y ∷ ys')
  beside-answer y no_more = no_more
  beside-answer y (and_then m n a next) = and_then m (there n) a (beside-answer y next)

  -- of a choice at a new state, what was chosen before it came, and what is done there now
  now_or_earlier : (t : p.State) (ws : List (Since p)) {ls : List (Waiting O)} {ys : List (Ready R)} → Chosen (passes t ws) ls ys → (ls' : List (Waiting O)) × (ys' : List (Ready R)) × Chosen ws ls' ys' × Now t ls' ys' ls ys
  now_or_earlier t [] none = ([], [], none, no_more)
  now_or_earlier t (w ∷ ws) (stays ch) = let (ls', ys', ch', now) = now_or_earlier t ws ch in (w.waiting ∷ ls', ys', stays ch', beside-call w.waiting now)
  now_or_earlier t (w ∷ ws) (reads {r = r} (Memᴰ.head e) a ch) =
      let (ls', ys', ch', now) = now_or_earlier t ws ch in
      (w.waiting ∷ ls', ys', stays ch', and_then here here (rw e at a) (beside-answer (ready w.waiting r) now))
  now_or_earlier t (w ∷ ws) (reads {r = r} (Memᴰ.tail m) a ch) =
      let (ls', ys', ch', now) = now_or_earlier t ws ch in
      (ls', ready w.waiting r ∷ ys', reads m a ch', beside-answer (ready w.waiting r) now)

  -- an ordinary history with these waiting, and these ready in some order
  abbrev Ordinary : List (Seen O R) → p.State → List (Waiting O) → List (Ready R) → ℕ → ℕ → Type 0
  Ordinary es s ls rs f c = (rs' : List (Ready R)) × Perm rs rs' × Linear p es s ls rs' f c

  done_now : {es : List (Seen O R)} {t : p.State} {ls ls' : List (Waiting O)} {ys ys' : List (Ready R)} (rs : List (Ready R)) {f c : ℕ} → Now t ls ys ls' ys' → Ordinary es t ls (ys ++ rs) f c → Ordinary es t ls' (ys' ++ rs) f c
  done_now rs no_more l = l
  done_now rs (and_then m n a next) (rs', q, l) = done_now rs next (_, perm_put (takes-before rs n) here q, taken_done O R p _ _ _ _ _ _ _ rs' _ _ l m a)

  for_every_choice : {es : List (Seen O R)} {s : p.State} {ws : List (Since p)} {rs : List (Ready R)} {f c : ℕ} {ls : List (Waiting O)} {ys : List (Ready R)} → Late p es s ws rs f c → Chosen ws ls ys → Ordinary es s ls (ys ++ rs) f c
  for_every_choice at_first none = ([], nil, Linear.at_first)
  for_every_choice (makes i k o h) (stays ch) = let (rs', q, l) = for_every_choice h ch in (rs', q, Linear.makes i k o l)
  for_every_choice (makes {s = s} i k o h) (reads {ls = ls} {r = r} m a ch) =
      let (rs', q, l) = for_every_choice h ch in
      (_, ins here q, Linear.is_done [] ls i k o (Linear.makes i k o l) (rw (Memᴰ.eq_of_singleton m) at a))
  for_every_choice (is_done {t = t} {w = w} {ws' = ws'} {rs = rs} {r = r} h m a) ch =
      let (ls', ys', ch', now) = now_or_earlier t ws' ch in
      let (ls'', m', ch'') = one_stays m ch' in
      let (rs', q, l) = for_every_choice h ch'' in
      done_now (ready w.waiting r ∷ rs) now (_, perm_put (takes_middle ys' rs) here q, taken_done O R p _ _ _ _ _ _ _ rs' _ _ l m' a)
  for_every_choice {ys = ys} (was_done {rs = rs} h m past a) ch =
      let (ys', n, ch') = one_reads past a m ch in
      let (rs', q, l) = for_every_choice h ch' in
      let (rs'', n', q') = perm_take q (takes-before rs n) in
      (rs', perm_put (takes_middle ys rs) n' q', l)
  for_every_choice {ys = ys} (is_told h n) ch =
      let (rs', q, l) = for_every_choice h ch in
      let (rs'', n', q') = perm_take q (takes-behind ys n) in
      (rs'', q', taken-told O R p _ _ _ _ _ _ _ _ l n')
  for_every_choice (is_busy h m) ch =
      let (ls', m', ch') = one_stays m ch in
      let (rs', q, l) = for_every_choice h ch' in
      (rs', q, taken-busy O R p _ _ _ _ _ _ _ _ l m')
  for_every_choice (has_fallen i h) ch = let (rs', q, l) = for_every_choice h ch in (rs', q, Linear.has_fallen i l)
  for_every_choice (is_cut {t = t} {ws = ws} {rs = rs} h lt a) ch =
      let (ls', ys', ch', now) = now_or_earlier t ws ch in
      let (rs', q, l) = for_every_choice h ch' in
      done_now rs now (rs', q, Linear.is_cut l lt a)

pub inserted_into_the_past : InsertedIntoThePast
inserted_into_the_past O R p es s ws rs f c h = for_every_choice p h (all_stay p ws)

pub one_inserted : OneInserted
one_inserted O R p es s x w ws ws' r rs f c h m n a = inserted_into_the_past O R p es s ws' (ready w.waiting r ∷ rs) f c (was_done h m n a)
