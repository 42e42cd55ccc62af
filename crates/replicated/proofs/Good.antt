-- What holds whenever something can happen.
use Rattle.std.proofs.Common.{◌≡◌, ℕ, suc, ◌%◌, ◌<◌, ◌≤◌, true, ◌≢◌, ◌⊎◌, List, ◌∷◌, sym, subst}
use mathlib.Core.List.{Memᴰ}
use Rattle.agreement.specs.Copies.{Proposal, nothing, voted, Copy}
use Rattle.agreement.specs.Copies
use Rattle.agreement.proofs.Base.{Snap, snap_grows, copy_other}
use Rattle.agreement.proofs.Inv.{Inv}
use Rattle.agreement.proofs.Behind.{Behind, behind_other}
use Rattle.disks.specs.Cluster.{Seen, Packet, put, is_used, Waiting, Ready, Linear}
use Rattle.compose.specs.Pure.{Stand, off, on}
use Rattle.copies.specs.Service.{Service, Keeper}
use Rattle.copies.specs.Messages.{Bundle, Command, Reply, Session, Recovery, level, recovers, Status, Bundled, Done, Told, Asked, Given}
use Rattle.copies.specs.Copy.{under, Span, unseen, from_to, Pass, Memory}
use Rattle.copies.specs.House.{Disks, Messages}
use Rattle.copies.specs.Promise.{Played, plain, replay}
use Rattle.replicated.proofs.Lists.{Apart, Homed, slot, item, here, there, each}
use Rattle.replicated.proofs.Replay.{Above, Upto, Within}
use Rattle.replicated.proofs.Caught.{Shows, AsOf, PartOk, part_ok_grows}
use Rattle.replicated.proofs.Line.{waits, ready}

-- all calls that were let in, and all bundles that were made
pub record Book {O R : Type 0} (es : List (Seen O R)) (asked : List (Homed O)) (made : List (Bundle O)) : Type 0 where
  pub right : (b : Bundle O) → Memᴰ b made → b.calls ≡ slot asked b.house b.incarnation b.counter
  pub ids : Apart (λ (a : Homed O). a.id) asked
  pub used : (a : Homed O) → Memᴰ a asked → is_used a.id es ≡ true

-- another copy has promised the ballot that j leads
pub record Promised {O : Type 0} (g : Copies.World (Command O)) (j : ℕ) (a : Copy (Command O)) : Type 0 where
  pub who : ℕ
  pub at : Copy (Command O)
  pub snap : Snap g who at
  pub other : who ≢ j
  pub owner : a.promised % 3 ≡ j
  pub prom_is : at.promised ≡ a.promised
  pub behind : at.version ≤ a.version
  pub when : a.proposal ≡ nothing → (at.version < a.version) ⊎ (at.proposal ≡ nothing)

pub record Lead {O : Type 0} (g : Copies.World (Command O)) (j : ℕ) (a : Copy (Command O)) (b : ℕ) : Type 0 where
  pub low : b ≤ a.promised
  pub now : b ≡ a.promised → Promised g j a

abbrev pub Leads : {O : Type 0} → Copies.World (Command O) → ℕ → ℕ → Copy (Command O) → Type 0
Leads g j lead a = (b : ℕ) → lead ≡ suc b → Lead g j a b

-- a copy that recovers is behind
abbrev pub Lags : {O : Type 0} → Copies.World (Command O) → ℕ → Recovery → Type 0
Lags g j level = Unit {0}
Lags g j (recovers b t) = Behind g j

abbrev pub Grown : {O : Type 0} → (g g' : Copies.World (Command O)) → Type 0
Grown {O} g g' = (r : ℕ) (x : Copy (Command O)) → Snap g r x → Snap g' r x

-- what a copy says of itself
abbrev pub told_of : {O : Type 0} → Copy (Command O) → Status O → Status O
told_of a y = record { promised = a.promised; version = a.version; last = a.last; proposal = a.proposal; recovering = y.recovering }

module _ {O R : Type 0} (sv : Service O R) (kp : Keeper sv) where
  -- its blocks show its history, or while it recovers each is of some version from base to top
  abbrev pub Blocks : Copies.World (Command O) → Copy (Command O) → kp.Kept → Recovery → Type 0
  Blocks g a s level = Shows sv kp s a.history
  Blocks g a s (recovers b t) = (k : ℕ) → AsOf sv kp g s b t k

  -- what is stored is a copy's state
  pub record CopyIs (g : Copies.World (Command O)) (a : Copy (Command O)) (d : Disks sv kp) : Type 0 where
    pub promised_is : d.agreeing.promised ≡ a.promised
    pub version_is : d.agreeing.version ≡ a.version
    pub last_is : d.agreeing.last ≡ a.last
    pub proposal_is : d.agreeing.proposal ≡ a.proposal
    pub sessions_is : d.sessions ≡ (replay sv a.history).sessions
    pub rest_is : d.rest ≡ (replay sv a.history).place.rest
    pub blocks_is : Blocks g a d.kept d.agreeing.recovery

  -- the keys that a pass is past are of the versions of its parts
  pub record Past (g : Copies.World (Command O)) (version : ℕ) (s : kp.Kept) (base top key low high : ℕ) : Type 0 where
    pub ordered : low ≤ high
    pub over : version ≤ low
    pub from_base : base ≤ low
    pub to_top : high ≤ top
    pub keys : (k : ℕ) → k < key → AsOf sv kp g s low high k

  abbrev pub Passing : Copies.World (Command O) → (version : ℕ) → kp.Kept → (base top key : ℕ) → Span → Type 0
  Passing g v s b t k unseen = k ≡ 0
  Passing g v s b t k (from_to l h) = Past g v s b t k l h

  abbrev pub PassIs : Copies.World (Command O) → (version : ℕ) → kp.Kept → Pass → Recovery → Type 0
  PassIs g v s p level = Unit {0}
  PassIs g v s p (recovers b t) = Passing g v s b t p.key p.span

  pub record Inside (made : List (Bundle O)) (x : Copy (Command O)) : Type 0 where
    pub vote : (b : ℕ) (k : Command O) → x.proposal ≡ voted b k → Within sv made k
    pub past : (k : Command O) → Memᴰ k x.history → Within sv made k

  pub record OkOff (g : Copies.World (Command O)) (asked : List (Homed O)) (made : List (Bundle O)) (j : ℕ) (d : Disks sv kp) : Type 0 where
    pub copy_is : j < 3 → CopyIs g (g.copy j) d
    pub lags : j < 3 → Lags g j d.agreeing.recovery
    pub asked_low : (a : Homed O) → Memᴰ a asked → a.house ≡ j → a.incarnation ≤ d.incarnation
    pub made_low : (b : Bundle O) → Memᴰ b made → b.house ≡ j → b.incarnation ≤ d.incarnation

  pub record OkOn (g : Copies.World (Command O)) (asked : List (Homed O)) (made : List (Bundle O)) (j : ℕ) (m : Memory O) (d : Disks sv kp) : Type 0 where
    pub copy_is : j < 3 → CopyIs g (g.copy j) d
    pub lags : j < 3 → Lags g j d.agreeing.recovery
    pub pass_is : j < 3 → PassIs g d.agreeing.version d.kept m.pass d.agreeing.recovery
    pub me_is : m.me ≡ j
    pub inc_is : m.incarnation ≡ d.incarnation
    pub asked_low : (a : Homed O) → Memᴰ a asked → a.house ≡ j → Upto a.incarnation a.counter m.incarnation (suc m.counter)
    pub made_low : (b : Bundle O) → Memᴰ b made → b.house ≡ j → Upto b.incarnation b.counter m.incarnation m.counter
    pub wait_is : m.waiting ≡ slot asked j m.incarnation (suc m.counter)
    pub way_is : (b : Bundle O) → m.way ≡ under b → Memᴰ b made × (b.house ≡ j) × (b.incarnation ≡ m.incarnation) × (b.counter ≡ m.counter)
    pub heard_is : (b : Bundle O) → Memᴰ b m.heard → Memᴰ b made
    pub lead_is : j < 3 → Leads g j m.lead (g.copy j)

  abbrev pub Ok : Copies.World (Command O) → List (Homed O) → List (Bundle O) → ℕ → Stand (Memory O) (Disks sv kp) → Type 0
  Ok g asked made j (off d) = OkOff g asked made j d
  Ok g asked made j (on m d) = OkOn g asked made j m d

  abbrev pub DoneIn : Played sv → ℕ → Bundle O → Type 0
  DoneIn now j b = (b.incarnation ≡ (now.sessions j).incarnation) × (b.counter ≡ (now.sessions j).counter)

  abbrev pub Owed : Played sv → List (Ready R) → ℕ → Stand (Memory O) (Disks sv kp) → Type 0
  Owed now rs j (off d) = Unit {0}
  Owed now rs j (on m d) = (b : Bundle O) → m.way ≡ under b → DoneIn now j b → (q : Reply sv.A) → Memᴰ q (now.sessions j).replies → Memᴰ (ready sv j q) rs

  abbrev pub Calm : Played sv → ℕ → Stand (Memory O) (Disks sv kp) → Type 0
  Calm now j (off d) = Unit {0}
  Calm now j (on m d) = (b : Bundle O) → m.way ≡ under b → DoneIn now j b → ⊥

  -- the line of what is seen, and what waits and is ready in it; ts are replies of house i that are to be told yet
  pub record Tale (es : List (Seen O R)) (asked : List (Homed O)) (hs : ℕ → Stand (Memory O) (Disks sv kp)) (i : ℕ) (ts : List (Reply sv.A)) (now : Played sv) : Type 0 where
    pub ws : List (Waiting O)
    pub rs : List (Ready R)
    pub f : ℕ
    pub line : Linear (plain sv) es now.place ws rs f 0
    pub open_yet : (a : Homed O) → Memᴰ a asked → Above a.incarnation a.counter (now.sessions a.house).incarnation (now.sessions a.house).counter → Memᴰ (waits a.house (item a)) ws
    pub apart : (h : ℕ) → Apart (λ (q : Reply sv.A). q.id) (now.sessions h).replies
    pub owed : (j : ℕ) → Owed now rs j (hs j)
    pub told : (t : Reply sv.A) → Memᴰ t ts → Memᴰ (ready sv i t) rs
    pub told_apart : Apart (λ (q : Reply sv.A). q.id) ts
    pub told_calm : (t : Reply sv.A) → Memᴰ t ts → Calm now i (hs i)

  -- what is decided is what the furthest snapshot has applied
  pub record Top (g : Copies.World (Command O)) (now : Played sv) : Type 0 where
    pub who : ℕ
    pub at : Copy (Command O)
    pub snap : Snap g who at
    pub highest : (r : ℕ) (x : Copy (Command O)) → Snap g r x → x.version ≤ at.version
    pub is : replay sv at.history ≡ now

  -- a session that was had
  pub record Known (g : Copies.World (Command O)) (to : ℕ) (s : Session sv.A) : Type 0 where
    pub who : ℕ
    pub at : Copy (Command O)
    pub snap : Snap g who at
    pub is : (replay sv at.history).sessions to ≡ s

  -- a status that was had
  pub record Said (g : Copies.World (Command O)) (from : ℕ) (y : Status O) : Type 0 where
    pub at : Copy (Command O)
    pub snap : Snap g from at
    pub is : y ≡ told_of at y

  abbrev pub MsgOk : Copies.World (Command O) → List (Bundle O) → (from to : ℕ) → Messages sv kp → Type 0
  MsgOk g made from to (Bundled b) = Memᴰ b made
  MsgOk g made from to (Done s) = Known g to s
  MsgOk g made from to (Told x) = Said g from x
  MsgOk g made from to (Asked q) = Unit {0}
  MsgOk g made from to (Given x) = PartOk sv kp g x

  pub record Good (es : List (Seen O R)) (hs : ℕ → Stand (Memory O) (Disks sv kp)) (ps : List (Packet (Messages sv kp))) (i : ℕ) (ts : List (Reply sv.A)) : Type 0 where
    pub g : Copies.World (Command O)
    pub asked : List (Homed O)
    pub made : List (Bundle O)
    pub now : Played sv
    pub inv : Inv g
    pub top : Top g now
    pub book : Book es asked made
    pub snaps : (r : ℕ) (x : Copy (Command O)) → Snap g r x → Inside made x
    pub wire : (p : Packet (Messages sv kp)) → Memᴰ p ps → MsgOk g made p.from p.to p.what
    pub house : (j : ℕ) → Ok g asked made j (hs j)
    pub tale : Tale es asked hs i ts now

  -- GROWTH
  pub as_of_on : (g g' : Copies.World (Command O)) → Grown g g' → (s : kp.Kept) (lo hi k : ℕ) → AsOf sv kp g s lo hi k → AsOf sv kp g' s lo hi k
  as_of_on g g' f s lo hi k h = record { who = h.who; at = h.at; snap = f h.who h.at h.snap; low = h.low; high = h.high; right = h.right }

  pub blocks_on : (g g' : Copies.World (Command O)) → Grown g g' → (a : Copy (Command O)) (s : kp.Kept) (r : Recovery) → Blocks g a s r → Blocks g' a s r
  blocks_on g g' f a s level h = h
  blocks_on g g' f a s (recovers b t) h = λ k. as_of_on g g' f s b t k (h k)

  pub copy_on : (g g' : Copies.World (Command O)) → Grown g g' → (a : Copy (Command O)) (d : Disks sv kp) → CopyIs g a d → CopyIs g' a d
  copy_on g g' f a d h =
      record { promised_is = h.promised_is; version_is = h.version_is; last_is = h.last_is; proposal_is = h.proposal_is; sessions_is = h.sessions_is; rest_is = h.rest_is; blocks_is = blocks_on g g' f a d.kept d.agreeing.recovery h.blocks_is }

  pub pass_on : (g g' : Copies.World (Command O)) → Grown g g' → (v : ℕ) (s : kp.Kept) (p : Pass) (r : Recovery) → PassIs g v s p r → PassIs g' v s p r
  pass_on g g' f v s p level h = tt
  pass_on g g' f v s p (recovers b t) h = go p.span h
    where
      go : (u : Span) → Passing g v s b t p.key u → Passing g' v s b t p.key u
      go unseen e = e
      go (from_to l m) e = record { ordered = e.ordered; over = e.over; from_base = e.from_base; to_top = e.to_top; keys = λ k z. as_of_on g g' f s l m k (e.keys k z) }

  pub msg_grows : (g : Copies.World (Command O)) (made : List (Bundle O)) (i : ℕ) (c : Copy (Command O)) (from to : ℕ) (m : Messages sv kp) → MsgOk g made from to m → MsgOk (Copies.put g i c) made from to m
  msg_grows g made i c from to (Bundled b) h = h
  msg_grows g made i c from to (Done s) h = record { who = h.who; at = h.at; snap = snap_grows g i c h.snap; is = h.is }
  msg_grows g made i c from to (Told x) h = record { at = h.at; snap = snap_grows g i c h.snap; is = h.is }
  msg_grows g made i c from to (Asked q) h = tt
  msg_grows g made i c from to (Given x) h = part_ok_grows sv kp g i c x h

  pub msg_more : (g : Copies.World (Command O)) (made : List (Bundle O)) (b : Bundle O) (from to : ℕ) (m : Messages sv kp) → MsgOk g made from to m → MsgOk g (b ∷ made) from to m
  msg_more g made b from to (Bundled _) h = Memᴰ.tail h
  msg_more g made b from to (Done s) h = h
  msg_more g made b from to (Told x) h = h
  msg_more g made b from to (Asked q) h = tt
  msg_more g made b from to (Given x) h = h

  promised_grows : (g : Copies.World (Command O)) (i : ℕ) (c : Copy (Command O)) (j : ℕ) (a : Copy (Command O)) → Promised g j a → Promised (Copies.put g i c) j a
  promised_grows g i c j a h = record { who = h.who; at = h.at; snap = snap_grows g i c h.snap; other = h.other; owner = h.owner; prom_is = h.prom_is; behind = h.behind; when = h.when }

  pub leads_grows : (g : Copies.World (Command O)) (i : ℕ) (c : Copy (Command O)) (j l : ℕ) (a : Copy (Command O)) → Leads g j l a → Leads (Copies.put g i c) j l a
  leads_grows g i c j l a h b e = record { low = (h b e).low; now = λ z. promised_grows g i c j a ((h b e).now z) }

  lags_grow : (g : Copies.World (Command O)) (i : ℕ) (c : Copy (Command O)) (j : ℕ) → j ≢ i → (r : Recovery) → Lags g j r → Lags (Copies.put g i c) j r
  lags_grow g i c j n level h = tt
  lags_grow g i c j n (recovers b t) h = behind_other g j h i c (λ e. n (sym e))

  pub ok_grows : (g : Copies.World (Command O)) (asked : List (Homed O)) (made : List (Bundle O)) (i : ℕ) (c : Copy (Command O)) (j : ℕ) → j ≢ i → (s : Stand (Memory O) (Disks sv kp)) → Ok g asked made j s → Ok (Copies.put g i c) asked made j s
  ok_grows g asked made i c j n (off d) h =
      record {
        copy_is = λ l. subst (λ (z : Copy (Command O)). CopyIs (Copies.put g i c) z d) (sym (copy_other g i c j n)) (copy_on g _ (λ r x. snap_grows g i c) (g.copy j) d (h.copy_is l));
        lags = λ l. lags_grow g i c j n d.agreeing.recovery (h.lags l);
        asked_low = h.asked_low;
        made_low = h.made_low;
      }
  ok_grows g asked made i c j n (on m d) h =
      record {
        copy_is = λ l. subst (λ (z : Copy (Command O)). CopyIs (Copies.put g i c) z d) (sym (copy_other g i c j n)) (copy_on g _ (λ r x. snap_grows g i c) (g.copy j) d (h.copy_is l));
        lags = λ l. lags_grow g i c j n d.agreeing.recovery (h.lags l);
        pass_is = λ l. pass_on g _ (λ r x. snap_grows g i c) d.agreeing.version d.kept m.pass d.agreeing.recovery (h.pass_is l);
        me_is = h.me_is;
        inc_is = h.inc_is;
        asked_low = h.asked_low;
        made_low = h.made_low;
        wait_is = h.wait_is;
        way_is = h.way_is;
        heard_is = h.heard_is;
        lead_is = λ l. subst (Leads (Copies.put g i c) j m.lead) (sym (copy_other g i c j n)) (leads_grows g i c j m.lead (g.copy j) (h.lead_is l));
      }

  -- another house's state, as far as the line is concerned
  pub tale_swap : (es : List (Seen O R)) (asked : List (Homed O)) (i : ℕ) (s s' : Stand (Memory O) (Disks sv kp)) (hs : ℕ → Stand (Memory O) (Disks sv kp)) (ts : List (Reply sv.A)) (now : Played sv) →
      ((rs : List (Ready R)) → Owed now rs i s → Owed now rs i s') → (Calm now i s → Calm now i s') → Tale es asked (put i s hs) i ts now → Tale es asked (put i s' hs) i ts now
  tale_swap es asked i s s' hs ts now f e t =
      record {
        ws = t.ws;
        rs = t.rs;
        f = t.f;
        line = t.line;
        open_yet = t.open_yet;
        apart = t.apart;
        owed = each i s' hs (Owed now t.rs) (f t.rs (here i s hs (Owed now t.rs) t.owed)) (there i s hs (Owed now t.rs) t.owed);
        told = t.told;
        told_apart = t.told_apart;
        told_calm = λ q m. subst (Calm now i) (sym (put_is s')) (e (subst (Calm now i) (put_is s) (t.told_calm q m)));
      }
    where
      put_is : (z : Stand (Memory O) (Disks sv kp)) → put i z hs i ≡ z
      put_is z = Rattle.replicated.proofs.Lists.put_here i z hs
