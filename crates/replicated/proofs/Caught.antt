-- What a copy's blocks show, also while it recovers, and what a part says of them.
use Rattle.std.proofs.Common.{◌≡◌, ℕ, zero, suc, ◌-◌, ◌≤◌, min, max, Bool, true, false, cond, eqb, ◌⊎◌, List, [], ◌∷◌, ◌++◌, length, Option, Some, None, sym, refl, ap, ◌∙◌, subst, inl, inr, arith, ltb-false, leb-true, leb-false}
use Rattle.std.specs.Prelude.{nat_le}
use Rattle.std.proofs.lemmas.Bool.{or_parts}
use Rattle.std.proofs.lemmas.List.{length-append}
use Rattle.agreement.specs.Copies
use Rattle.agreement.specs.Copies.{Copy, fresh}
use Rattle.agreement.proofs.Base.{Snap, by_test, snap_grows}
use Rattle.agreement.proofs.Inv.{Inv}
use Rattle.agreement.proofs.Steps.{first}
use Rattle.disks.specs.Cluster.{put}
use Rattle.copies.specs.Service.{Change, Service, Stamped, Keeper, in_range, lookup, overwritten, Lawful, age, Portioned, Taken, Keeps}
use Rattle.copies.specs.Messages.{Item, Bundle, Command, Reply, Session, Want, Part, ends, next_key}
use Rattle.copies.specs.Copy.{is_new}
use Rattle.copies.specs.House.{State, Ran, Wholes, runs, fulfilled, bundle_done, command_done, is_whole, tail_of, part_of}
use Rattle.copies.specs.Promise.{Place, Played, left_by, leaves, replies, fulfils, bundle_played, command_played, replay}

-- TESTS AND LISTS
pub never : {A : Type 0} → true ≡ false → A
never e = let z : ◌≡◌ {A = ℕ} 0 1 = cc in absurd (omega arith)

-- a test is one or the other
pub known : {A : Type 0} (b : Bool) → (b ≡ true → A) → (b ≡ false → A) → A
known true f g = f refl
known false f g = g refl

-- of two ends of one list, the longer has the shorter
inner : {A : Type 0} (n o m q : List A) → n ++ o ≡ m ++ q → length q ≤ length o → (l : List A) × (o ≡ l ++ q)
inner [] o m q e l = (m, e)
inner (x ∷ n) o [] q e l = absurd (omega (arith, ap length e, length-append n o))
inner {A} (x ∷ n) o (y ∷ m) q e l = let z : n ++ o ≡ m ++ q = cc in inner n o m q z l

-- an end that is as long as the list is the list
whole_end : {A : Type 0} (n o : List A) → length (n ++ o) ≤ length o → n ++ o ≡ o
whole_end [] o l = refl
whole_end (x ∷ n) o l = absurd (omega (arith, l, length-append n o))

-- THE AGREEMENT. A history is as long as its version says.
pub long : {K : Type 0} (g : Copies.World K) → Inv g → (r : ℕ) (x : Copy K) → Snap g r x → length x.history ≡ x.version
long {K} g v r x h = go x.version r x h refl
  where
    go : (n r : ℕ) (x : Copy K) → Snap g r x → x.version ≡ n → length x.history ≡ x.version
    go zero r x h e = ap length (v.same r r x fresh h (record { small = h.small; seen = inr refl }) e) ∙ sym e
    go (suc n) r x h e = let t = v.tail r x n h e in let u : length t.at.history ≡ t.at.version = go n t.who t.at t.snap t.place in ap length t.has ∙ ap suc (u ∙ t.place) ∙ sym e

-- of two snapshots, the further one has what the other has
pub joined : {K : Type 0} (g : Copies.World K) → Inv g → (r q : ℕ) (x y : Copy K) → Snap g r x → Snap g q y → x.version ≤ y.version → (newer : List K) × (y.history ≡ newer ++ x.history)
joined g v r q x y h i l = first g v (y.version - x.version) r q x y h i (omega arith)

module _ {O R : Type 0} (sv : Service O R) (kp : Keeper sv) where
  -- WHAT BLOCKS SHOW. No block changed since, from so many commands on.
  abbrev pub AgedBy : (n k : ℕ) → List (Command O) → Type 0
  AgedBy n k h = (newer older : List (Command O)) → h ≡ newer ++ older → n ≤ length older → (replay sv older).place.blocks k ≡ (replay sv h).place.blocks k

  -- a key is as it is after history h
  abbrev pub Right : kp.Kept → List (Command O) → ℕ → Type 0
  Right s h k = (sv.gone (replay sv h).place.rest k ≡ true) ⊎ ((kp.look s k ≡ (replay sv h).place.blocks k) × AgedBy (age sv kp s k) k h)

  abbrev pub Shows : kp.Kept → List (Command O) → Type 0
  Shows s h = (k : ℕ) → Right s h k

  -- a key is as of some snapshot's version from lo to hi
  pub record AsOf (g : Copies.World (Command O)) (s : kp.Kept) (lo hi k : ℕ) : Type 0 where
    pub who : ℕ
    pub at : Copy (Command O)
    pub snap : Snap g who at
    pub low : lo ≤ at.version
    pub high : at.version ≤ hi
    pub right : Right s at.history k

  -- what a part says of a key in its range; h is the history at its version
  abbrev pub Says : (whole : Bool) (floor base : ℕ) → List (Command O) → ℕ → Option (Stamped sv.Block) → Type 0
  Says whole floor base h k (Some b) = (b.block ≡ (replay sv h).place.blocks k) × AgedBy (max b.stamp floor) k h
  Says true floor base h k None = (sv.empty ≡ (replay sv h).place.blocks k) × AgedBy floor k h
  Says false floor base h k None = AgedBy base k h

  pub record PartOk (g : Copies.World (Command O)) (x : Part sv.Rest sv.Block sv.A) : Type 0 where
    pub who : ℕ
    pub at : Copy (Command O)
    pub snap : Snap g who at
    pub promised_is : x.promised ≡ at.promised
    pub version_is : x.version ≡ at.version
    pub last_is : x.last ≡ at.last
    pub top_low : x.whole ≡ false → x.asked.top ≤ at.version
    pub says : (k : ℕ) → in_range x.asked.key (next_key x.tail) k ≡ true → (sv.gone (replay sv at.history).place.rest k ≡ true) ⊎ Says x.whole x.floor x.asked.base at.history k (lookup k x.blocks)
    pub ends_is : (r : sv.Rest) (done : ℕ → Session sv.A) → x.tail ≡ ends r done → (r ≡ (replay sv at.history).place.rest) × (done ≡ (replay sv at.history).sessions)

  -- GROWTH
  pub as_of_grows : (g : Copies.World (Command O)) (i : ℕ) (c : Copy (Command O)) (s : kp.Kept) (lo hi k : ℕ) → AsOf g s lo hi k → AsOf (Copies.put g i c) s lo hi k
  as_of_grows g i c s lo hi k a = record { who = a.who; at = a.at; snap = snap_grows g i c a.snap; low = a.low; high = a.high; right = a.right }

  pub part_ok_grows : (g : Copies.World (Command O)) (i : ℕ) (c : Copy (Command O)) (x : Part sv.Rest sv.Block sv.A) → PartOk g x → PartOk (Copies.put g i c) x
  part_ok_grows g i c x p = record { who = p.who; at = p.at; snap = snap_grows g i c p.snap; promised_is = p.promised_is; version_is = p.version_is; last_is = p.last_is; top_low = p.top_low; says = p.says; ends_is = p.ends_is }

  pub as_of_wider : (g : Copies.World (Command O)) (s : kp.Kept) (lo hi lo' hi' k : ℕ) → lo' ≤ lo → hi ≤ hi' → AsOf g s lo hi k → AsOf g s lo' hi' k
  as_of_wider g s lo hi lo' hi' k l h a = record { who = a.who; at = a.at; snap = a.snap; low = omega (arith, a.low); high = omega (arith, a.high); right = a.right }

  -- what is older than so many commands is older than more
  pub aged_more : (n m k : ℕ) (h : List (Command O)) → n ≤ m → AgedBy n k h → AgedBy m k h
  aged_more n m k h l a newer older e f = a newer older e (omega arith)

  -- changes, at one key
  overwritten_at : (cs : List (Change sv.Block)) (f f' : ℕ → sv.Block) (k : ℕ) → f k ≡ f' k → overwritten cs f k ≡ overwritten cs f' k
  unfolding overwritten
  overwritten_at [] f f' k e = e
  overwritten_at (c ∷ cs) f f' k e = overwritten_at cs (λ n. cond (eqb n c.key) c.block (f n)) (λ n. cond (eqb n c.key) c.block (f' n)) k (ap (λ (z : sv.Block). cond (eqb k c.key) c.block z) e)

  module _ (laws : Lawful sv) where
    leaves_gone : (xs : List (Item O)) (p : Place sv) (k : ℕ) → sv.gone p.rest k ≡ true → sv.gone (leaves sv xs p).rest k ≡ true
    unfolding leaves
    leaves_gone [] p k e = e
    leaves_gone (x ∷ xs) p k e = leaves_gone xs (left_by sv x.call p) k (laws.gone_stays x.call p.rest p.blocks k e)

    bundle_gone : (b : Bundle O) (v : Played sv) (k : ℕ) → sv.gone v.place.rest k ≡ true → sv.gone (bundle_played sv b v).place.rest k ≡ true
    unfolding bundle_played
    bundle_gone b v k e = by_test (λ (z : Played sv). sv.gone z.place.rest k ≡ true) (is_new b v.sessions) (λ _. leaves_gone b.calls v.place k e) (λ _. e)

    command_gone : (c : Command O) (v : Played sv) (k : ℕ) → sv.gone v.place.rest k ≡ true → sv.gone (command_played sv c v).place.rest k ≡ true
    unfolding command_played
    command_gone [] v k e = e
    command_gone (b ∷ c) v k e = command_gone c (bundle_played sv b v) k (bundle_gone b v k e)

    pub gone_later : (newer older : List (Command O)) (k : ℕ) → sv.gone (replay sv older).place.rest k ≡ true → sv.gone (replay sv (newer ++ older)).place.rest k ≡ true
    unfolding replay
    gone_later [] older k e = e
    gone_later (c ∷ newer) older k e = command_gone c (replay sv (newer ++ older)) k (gone_later newer older k e)

    -- there is room for what was played
    abbrev Roomy : Place sv → Type 0
    Roomy p = sv.HasRoom p.rest p.blocks

    leaves_room : (xs : List (Item O)) (p : Place sv) → Roomy p → Roomy (leaves sv xs p)
    unfolding leaves
    leaves_room [] p e = e
    leaves_room (x ∷ xs) p e = leaves_room xs (left_by sv x.call p) (laws.room_stays x.call p.rest p.blocks e)

    bundle_room : (b : Bundle O) (v : Played sv) → Roomy v.place → Roomy (bundle_played sv b v).place
    unfolding bundle_played
    bundle_room b v e = by_test (λ (z : Played sv). Roomy z.place) (is_new b v.sessions) (λ _. leaves_room b.calls v.place e) (λ _. e)

    command_room : (c : Command O) (v : Played sv) → Roomy v.place → Roomy (command_played sv c v).place
    unfolding command_played
    command_room [] v e = e
    command_room (b ∷ c) v e = command_room c (bundle_played sv b v) (bundle_room b v e)

    replay_room : (h : List (Command O)) → Roomy (replay sv h).place
    unfolding replay
    replay_room [] = laws.room_first
    replay_room (c ∷ h) = command_room c (replay sv h) (replay_room h)

  module _ (laws : Lawful sv) (keeps : Keeps sv kp) where
    -- A COMMAND DONE, in the midst of it: what was played since h changed only blocks that have h's next version.
    module _ (h : List (Command O)) where
      abbrev Since : Place sv → kp.Kept → ℕ → Type 0
      Since p s k = ((p.blocks k ≡ (replay sv h).place.blocks k) × AgedBy (age sv kp s k) k h) ⊎ (suc (length h) ≤ age sv kp s k)

      abbrev Mid : Place sv → kp.Kept → Type 0
      Mid p s = (k : ℕ) → (sv.gone p.rest k ≡ true) ⊎ ((kp.look s k ≡ p.blocks k) × Since p s k)

      abbrev Follows : Ran sv kp → List (Reply sv.A) → Place sv → Type 0
      Follows z rs p = (z.replies ≡ rs) × (z.rest ≡ p.rest) × Mid p z.kept

      abbrev Mirrors : State sv kp → Played sv → Type 0
      Mirrors z v = (z.sessions ≡ v.sessions) × (z.rest ≡ v.place.rest) × Mid v.place z.kept

      seen_same : (p : Place sv) (s : kp.Kept) → Mid p s → (k : ℕ) → (sv.gone p.rest k ≡ true) ⊎ (kp.look s k ≡ p.blocks k)
      seen_same p s m k = elim (m k) [ inl e ↦ inl e | inr y ↦ inr y.0 ]

      call_mid : (o : O) (p : Place sv) (s : kp.Kept) → sv.HasRoom p.rest p.blocks → Mid p s → Mid (left_by sv o p) (kp.write (left_by sv o p).rest (suc (length h)) (sv.changes o p.rest p.blocks) s)
      call_mid o p s w m k = known (sv.gone q.rest k) inl (λ n. elim (m k) [ inl e ↦ never (sym (laws.gone_stays o p.rest p.blocks k e) ∙ n) | inr y ↦ inr (keeps.write_look q.rest ver cs s k room n ∙ overwritten_at cs (kp.look s) p.blocks k y.0, since n y.0 y.1) ])
        where
          q : Place sv
          q = left_by sv o p

          ver : ℕ
          ver = suc (length h)

          cs : List (Change sv.Block)
          cs = sv.changes o p.rest p.blocks

          u : kp.Kept
          u = kp.write q.rest ver cs s

          room : sv.HasRoom q.rest (overwritten cs (kp.look s))
          room =
              laws.room_same q.rest q.blocks (overwritten cs (kp.look s))
              (λ j. elim (m j) [ inl e ↦ inl (laws.gone_stays o p.rest p.blocks j e) | inr y ↦ inr (overwritten_at cs p.blocks (kp.look s) j (sym y.0)) ])
              (laws.room_stays o p.rest p.blocks w)

          since : sv.gone q.rest k ≡ false → kp.look s k ≡ p.blocks k → Since p s k → Since q u k
          since n e y = elim (keeps.write_age q.rest ver cs s k room n) [ inl l ↦ inr l | inr z ↦ kept (sym (overwritten_at cs (kp.look s) p.blocks k e) ∙ z.0 ∙ e) z.1 y ]
            where
              kept : overwritten cs p.blocks k ≡ p.blocks k → age sv kp s k ≤ age sv kp u k → Since p s k → Since q u k
              kept f l (inl z) = inl (f ∙ z.0, aged_more (age sv kp s k) (age sv kp u k) k h l z.1)
              kept f l (inr y) = inr (omega (arith, l, y))

      runs_mid : (xs : List (Item O)) (p : Place sv) (s : kp.Kept) → sv.HasRoom p.rest p.blocks → Mid p s → Follows (runs sv kp (suc (length h)) xs p.rest s) (replies sv xs p) (leaves sv xs p)
      unfolding runs replies leaves
      runs_mid [] p s w m = (refl, refl, m)
      runs_mid (x ∷ xs) p s w m =
          let q = left_by sv x.call p in
          let a = laws.agrees x.call p.rest (kp.look s) p.blocks (seen_same p s m) in
          let f : Follows (runs sv kp (suc (length h)) xs q.rest (kp.write q.rest (suc (length h)) (sv.changes x.call p.rest p.blocks) s)) (replies sv xs q) (leaves sv xs q) = runs_mid xs q _ (laws.room_stays x.call p.rest p.blocks w) (call_mid x.call p s w m) in
          let f' : Follows (runs sv kp (suc (length h)) xs q.rest (kp.write q.rest (suc (length h)) (sv.changes x.call p.rest (kp.look s)) s)) (replies sv xs q) (leaves sv xs q) =
          subst (λ (z : List (Change sv.Block)). Follows (runs sv kp (suc (length h)) xs q.rest (kp.write q.rest (suc (length h)) z s)) (replies sv xs q) (leaves sv xs q)) (sym a.2) f in
          let z : Follows (runs sv kp (suc (length h)) xs (sv.next x.call p.rest (kp.look s)) (kp.write (sv.next x.call p.rest (kp.look s)) (suc (length h)) (sv.changes x.call p.rest (kp.look s)) s)) (replies sv xs q) (leaves sv xs q) =
          subst (λ (z : sv.Rest). Follows (runs sv kp (suc (length h)) xs z (kp.write z (suc (length h)) (sv.changes x.call p.rest (kp.look s)) s)) (replies sv xs q) (leaves sv xs q)) (sym a.1) f' in
          (λ j. record { id = x.id; reply = a.0 j } ∷ z.0 j, z.1, z.2)

      bundle_mid : (b : Bundle O) (z : State sv kp) (v : Played sv) → sv.HasRoom v.place.rest v.place.blocks → Mirrors z v → Mirrors (bundle_done sv kp (suc (length h)) b z) (bundle_played sv b v)
      unfolding bundle_done bundle_played
      bundle_mid b z v w m = moved (sym m.0) (sym m.1)
        where
          done : (t : Bool) → Mirrors (cond t (fulfilled sv kp b v.sessions (runs sv kp (suc (length h)) b.calls v.place.rest z.kept)) (record { sessions = v.sessions; rest = v.place.rest; kept = z.kept })) (cond t (fulfils sv b v) v)
          done true =
              let f = runs_mid b.calls v.place z.kept w m.2 in
              (ap (λ (rs : List (Reply sv.A)). put b.house (record { incarnation = b.incarnation; counter = b.counter; replies = rs }) v.sessions) f.0, f.1, f.2)
          done false = (refl, refl, m.2)

          moved : {ss : ℕ → Session sv.A} {r : sv.Rest} → v.sessions ≡ ss → v.place.rest ≡ r → Mirrors (bundle_done sv kp (suc (length h)) b (record { sessions = ss; rest = r; kept = z.kept })) (bundle_played sv b v)
          moved {ss} e f =
              subst (λ (r : sv.Rest). Mirrors (bundle_done sv kp (suc (length h)) b (record { sessions = ss; rest = r; kept = z.kept })) (bundle_played sv b v)) f
              (subst (λ (ss : ℕ → Session sv.A). Mirrors (bundle_done sv kp (suc (length h)) b (record { sessions = ss; rest = v.place.rest; kept = z.kept })) (bundle_played sv b v)) e (done (is_new b v.sessions)))

      command_mid : (c : Command O) (z : State sv kp) (v : Played sv) → sv.HasRoom v.place.rest v.place.blocks → Mirrors z v → Mirrors (command_done sv kp (suc (length h)) c z) (command_played sv c v)
      unfolding command_done command_played
      command_mid [] z v w m = m
      command_mid (b ∷ c) z v w m = command_mid c (bundle_done sv kp (suc (length h)) b z) (bundle_played sv b v) (bundle_room laws b v w) (bundle_mid b z v w m)

      mid_shows : (c : Command O) (s : kp.Kept) → Mid (replay sv (c ∷ h)).place s → Shows s (c ∷ h)
      mid_shows c s m k = elim (m k) [ inl e ↦ inl e | inr y ↦ inr (y.0, aged y.1) ]
        where
          aged : Since (replay sv (c ∷ h)).place s k → AgedBy (age sv kp s k) k (c ∷ h)
          aged (inl z) [] older e l = ap (λ (w : List (Command O)). (replay sv w).place.blocks k) (sym e)
          aged (inl z) (d ∷ newer) older e l = let t : h ≡ newer ++ older = cc in z.1 newer older t l ∙ sym z.0
          aged (inr y) newer older e l = ap (λ (w : List (Command O)). (replay sv w).place.blocks k) (sym (e ∙ whole_end newer older (omega (arith, y, l, ap length e))))

    pub done_shows : (h : List (Command O)) (k : Command O) (z : State sv kp) → z.sessions ≡ (replay sv h).sessions → z.rest ≡ (replay sv h).place.rest → Shows z.kept h → (version : ℕ) → version ≡ suc (length h) →
        ((command_done sv kp version k z).sessions ≡ (replay sv (k ∷ h)).sessions) × ((command_done sv kp version k z).rest ≡ (replay sv (k ∷ h)).place.rest) × Shows (command_done sv kp version k z).kept (k ∷ h)
    unfolding replay
    done_shows h k z e f s version v =
        let m : Mirrors h (command_done sv kp version k z) (replay sv (k ∷ h)) =
        subst (λ (n : ℕ). Mirrors h (command_done sv kp n k z) (replay sv (k ∷ h))) (sym v) (command_mid h k z (replay sv h) (replay_room laws h) (e, f, λ n. elim (s n) [ inl g ↦ inl g | inr y ↦ inr (y.0, inl (refl, y.1)) ])) in
        (m.0, m.1, mid_shows h k _ m.2)

  -- what a portion says, a part says
  given : (whole : Bool) (base : ℕ) (s : kp.Kept) (h : List (Command O)) (k : ℕ) (b : Option (Stamped sv.Block)) → (whole ≡ false → kp.floor s ≤ base) → (kp.look s k ≡ (replay sv h).place.blocks k) × AgedBy (age sv kp s k) k h → Portioned sv kp whole base s k b →
      Says whole (kp.floor s) base h k b
  given whole base s h k (Some b) f e p = (p.0 ∙ e.0, subst (λ (n : ℕ). AgedBy (max n (kp.floor s)) k h) (sym p.1) e.1)
  given true base s h k None f e p = (sym p.0 ∙ e.0, aged_more (age sv kp s k) (kp.floor s) k h (omega (arith, p.1)) e.1)
  given false base s h k None f e p = aged_more (age sv kp s k) base k h (omega (arith, p, f refl)) e.1

  next_is : (w : Wholes sv kp) (n : Option ℕ) → next_key (tail_of sv kp w n) ≡ n
  next_is w None = refl
  next_is w (Some k) = refl

  last_is : (w : Wholes sv kp) (n : Option ℕ) (r : sv.Rest) (done : ℕ → Session sv.A) → tail_of sv kp w n ≡ ends r done → (r ≡ w.rest) × (done ≡ w.turn.sessions)
  last_is w None r done e = (cc, cc)
  last_is w (Some k) r done e = let z : ◌≡◌ {A = ℕ} 0 1 = cc in absurd (omega arith)

  module _ (keeps : Keeps sv kp) (g : Copies.World (Command O)) where
    -- A PART GIVEN by a copy that is level
    pub part_says : (q : Want) (w : Wholes sv kp) (who : ℕ) (at : Copy (Command O)) → Snap g who at → w.turn.agreeing.promised ≡ at.promised → w.turn.agreeing.version ≡ at.version → w.turn.agreeing.last ≡ at.last →
        w.turn.sessions ≡ (replay sv at.history).sessions → w.rest ≡ (replay sv at.history).place.rest → Shows w.kept at.history → PartOk g (part_of sv kp q w)
    unfolding part_of
    part_says q w who at n p v l d r s =
        record {
          who = who;
          at = at;
          snap = n;
          promised_is = p;
          version_is = v;
          last_is = l;
          top_low = λ e. subst (λ (z : ℕ). q.top ≤ z) v (ltb-false _ _ (or_parts _ _ e).1);
          says = λ k i. elim (s k) [
            | inl e ↦ inl e
            | inr y ↦ known (sv.gone w.rest k) (λ e. inl (sym (ap (λ (z : sv.Rest). sv.gone z k) r) ∙ e))
                (λ e. inr (given (is_whole sv kp q w) q.base w.kept at.history k _ (λ f. ltb-false _ _ (or_parts _ _ f).0) y
                (keeps.portion_is w.rest (is_whole sv kp q w) q.base q.key w.kept k e (sym (ap (λ (z : Option ℕ). in_range q.key z k) (next_is w (kp.portion w.rest (is_whole sv kp q w) q.base q.key w.kept).next)) ∙ i))))
          ];
          ends_is = λ rest done e. let z = last_is w (kp.portion w.rest (is_whole sv kp q w) q.base q.key w.kept).next rest done e in (z.0 ∙ r, z.1 ∙ d);
        }

    -- from nothing
    pub none_right : (k : ℕ) → AsOf g kp.none 0 0 k
    unfolding replay
    none_right k = record { who = 0; at = fresh; snap = record { small = omega arith; seen = inr refl }; low = omega arith; high = omega arith; right = inr (keeps.none_empty k, λ newer older e l. ap (λ (z : List (Command O)). (replay sv z).place.blocks k) (sym (e ∙ whole_end newer older (omega (arith, ap length e))))) }

    pub starts : (s : kp.Kept) (i : ℕ) (a : Copy (Command O)) → Snap g i a → Shows s a.history → (k : ℕ) → AsOf g s a.version a.version k
    starts s i a n f k = record { who = i; at = a; snap = n; low = omega arith; high = omega arith; right = f k }

  module _ (laws : Lawful sv) (keeps : Keeps sv kp) (g : Copies.World (Command O)) (inv : Inv g) where
    -- what is so of a key stays so while the blocks stay and their stamps rise
    right_stays : (s u : kp.Kept) (h : List (Command O)) (k : ℕ) → kp.look u k ≡ kp.look s k → age sv kp s k ≤ age sv kp u k → Right s h k → Right u h k
    right_stays s u h k e l (inl y) = inl y
    right_stays s u h k e l (inr y) = inr (e ∙ y.0, aged_more _ _ k h l y.1)

    -- what is gone at one snapshot is gone at a later one
    gone_at : (r q : ℕ) (x y : Copy (Command O)) (k : ℕ) → Snap g r x → Snap g q y → x.version ≤ y.version → sv.gone (replay sv x.history).place.rest k ≡ true → sv.gone (replay sv y.history).place.rest k ≡ true
    gone_at r q x y k n m l e = let j = joined g inv r q x y n m l in sym (ap (λ (h : List (Command O)). sv.gone (replay sv h).place.rest k) (sym j.1)) ∙ gone_later laws j.0 x.history k e

    -- a block that hasn't changed since a version that the key was no older than is as it is later
    unchanged : (s u : kp.Kept) (b k r q : ℕ) (x y : Copy (Command O)) → Snap g r x → Snap g q y → b ≤ x.version → x.version ≤ y.version → kp.look u k ≡ kp.look s k → age sv kp s k ≤ age sv kp u k → Right s x.history k → AgedBy b k y.history → Right u y.history k
    unchanged s u b k r q x y n m lo hi e l (inl z) f = inl (gone_at r q x y k n m hi z)
    unchanged s u b k r q x y n m lo hi e l (inr z) f = inr (e ∙ z.0 ∙ still, aged)
      where
        j : (newer : List (Command O)) × (y.history ≡ newer ++ x.history)
        j = joined g inv r q x y n m hi

        deep : length x.history ≡ x.version
        deep = long g inv r x n

        still : (replay sv x.history).place.blocks k ≡ (replay sv y.history).place.blocks k
        still = f j.0 x.history j.1 (omega (arith, deep, lo))

        aged : AgedBy (age sv kp u k) k y.history
        aged newer older c d = known (nat_le b (length older)) (λ t. f newer older c (leb-true _ _ t))
            (λ t.
            let i = inner j.0 x.history newer older (sym j.1 ∙ c) (omega (arith, leb-false _ _ t, deep, lo)) in
            z.1 i.0 older i.1 (omega (arith, d, l)) ∙ still)

    -- what a part says of a key is so when it is taken over
    in_part : (whole : Bool) (floor b t : ℕ) (s u : kp.Kept) (k q : ℕ) (y : Copy (Command O)) (c : Option (Stamped sv.Block)) → Snap g q y → AsOf g s b t k → (whole ≡ false → t ≤ y.version) → floor ≤ kp.floor u → Taken sv kp whole floor s u k c → Says whole floor b y.history k c →
        Right u y.history k
    in_part whole floor b t s u k q y (Some c) n a h f d e = inr (d.0 ∙ e.0, aged_more (max c.stamp floor) (age sv kp u k) k y.history (omega (arith, d.1, f)) e.1)
    in_part true floor b t s u k q y None n a h f d e = inr (d ∙ e.0, aged_more floor (age sv kp u k) k y.history (omega (arith, f)) e.1)
    in_part false floor b t s u k q y None n a h f d e = unchanged s u b k a.who q a.at y a.snap n a.low (omega (arith, a.high, h refl)) d.0 d.1 a.right e

    -- A PART TAKEN OVER
    module _ (s u : kp.Kept) (b t key : ℕ) (x : Part sv.Rest sv.Block sv.A) (r : sv.Rest) (me : ℕ) (own : Copy (Command O)) (a : (k : ℕ) → AsOf g s b t k) (p : PartOk g x) (e : x.asked ≡ record { base = b; top = t; key = key })
        (n : Snap g me own) (l : own.version ≤ x.version) (rest : r ≡ (replay sv own.history).place.rest) (f : kp.take r x.whole x.asked.key (next_key x.tail) x.floor x.blocks s ≡ Some u) where
      gone_part : (k : ℕ) → sv.gone r k ≡ true → sv.gone (replay sv p.at.history).place.rest k ≡ true
      gone_part k d = gone_at me p.who own p.at k n p.snap (omega (arith, l, p.version_is)) (sym (ap (λ (z : sv.Rest). sv.gone z k) rest) ∙ d)

      -- a key as of the part's version
      of_part : (lo hi k : ℕ) → lo ≤ x.version → x.version ≤ hi → Right u p.at.history k → AsOf g u lo hi k
      of_part lo hi k c d y = record { who = p.who; at = p.at; snap = p.snap; low = omega (arith, c, p.version_is); high = omega (arith, d, p.version_is); right = y }

      part_right : (k : ℕ) → in_range x.asked.key (next_key x.tail) k ≡ true → Right u p.at.history k
      part_right k i = known (sv.gone r k) (λ d. inl (gone_part k d)) (λ d. elim (p.says k i) [
        | inl y ↦ inl y
        | inr y ↦ in_part x.whole x.floor b t s u k p.who p.at (lookup k x.blocks) p.snap (a k) (λ w. subst (λ (z : Want). z.top ≤ p.at.version) e (p.top_low w)) (keeps.take_floor r x.whole x.asked.key (next_key x.tail) x.floor x.blocks s u f)
            (keeps.take_in r x.whole x.asked.key (next_key x.tail) x.floor x.blocks s u k f d i) (subst (λ (z : Want). Says x.whole x.floor z.base p.at.history k (lookup k x.blocks)) e y)
      ])

      stays_of : (lo hi k : ℕ) → lo ≤ x.version → x.version ≤ hi → AsOf g s lo hi k → AsOf g u lo hi k
      stays_of lo hi k c d y = known (in_range x.asked.key (next_key x.tail) k) (λ i. of_part lo hi k c d (part_right k i)) (λ i. known (sv.gone r k) (λ z. of_part lo hi k c d (inl (gone_part k z)))
          (λ z. let w = keeps.take_out r x.whole x.asked.key (next_key x.tail) x.floor x.blocks s u k f z i in record { who = y.who; at = y.at; snap = y.snap; low = y.low; high = y.high; right = right_stays s u y.at.history k w.0 w.1 y.right }))

      pub takes_range : ((k : ℕ) → in_range x.asked.key (next_key x.tail) k ≡ true → AsOf g u x.version x.version k) ×
          ((k : ℕ) → AsOf g u (min b x.version) (max t x.version) k) ×
          ((lo hi k : ℕ) → lo ≤ x.version → x.version ≤ hi → AsOf g s lo hi k → AsOf g u lo hi k)
      takes_range = (
        λ k i. of_part x.version x.version k (omega arith) (omega arith) (part_right k i),
        λ k. stays_of (min b x.version) (max t x.version) k (omega arith) (omega arith) (as_of_wider g s b t (min b x.version) (max t x.version) k (omega arith) (omega arith) (a k)),
        stays_of,
      )

    -- at one version, all is shown
    pub ends_shows : (u : kp.Kept) (v r : ℕ) (at : Copy (Command O)) → ((k : ℕ) → AsOf g u v v k) → Snap g r at → at.version ≡ v → Shows u at.history
    ends_shows u v r at a n e k = let c = a k in subst (λ (h : List (Command O)). Right u h k) (inv.same c.who r c.at at c.snap n (omega (arith, c.low, c.high, e))) c.right
