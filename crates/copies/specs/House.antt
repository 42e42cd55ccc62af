-- A house with its blocks: what it stores and remembers, and what it does at each event.
-- Assumes nothing.
use Rattle.std.specs.Prelude.{ℕ, suc, Bool, false, cond, ◌||◌, not, List, [], ◌∷◌, Option, Some, None, nat_lt, nat_le, ◌==◌}
use Rattle.disks.specs.Cluster.{In, From, Ask, Tick, Out, To, Tell, put}
use Rattle.agreement.specs.Copies.{nothing}
use Rattle.compose.specs.Pure.{Pure}
use Rattle.copies.specs.Service.{Service, Keeper}
use Rattle.copies.specs.Messages.{Item, Bundle, Command, Reply, Session, level, recovers, is_level, Agreeing, Status, Want, Part, more, ends, next_key, Message, Bundled, Done, Told, Asked, Given, unused}
use Rattle.copies.specs.Copy.{Way, free, under, unseen, Memory, Whom, nobody, one, others, Work, rests, applies, takes, replaces, Serve, Turn, silent, is_new, on_bundle, pack, settle, forward, goes_on, on_status, on_part, taken, begins_again, on_want, on_tick, count, queued}

-- what a house stores
pub record Disk (X K O A : Type 0) : Type 0 where
  pub incarnation : ℕ
  pub agreeing : Agreeing O
  pub sessions : ℕ → Session A
  pub rest : X
  pub kept : K

-- an event, with the blocks
pub record Whole (X B K O A : Type 0) : Type 0 where
  pub incarnation : ℕ
  pub turn : Turn X B O A
  pub rest : X
  pub kept : K

pub record Post (M : Type 0) : Type 0 where
  pub to : ℕ
  pub what : M

module _ {O R : Type 0} (sv : Service O R) (kp : Keeper sv) where
  abbrev pub Turns : Type 0
  Turns = Turn sv.Rest sv.Block O sv.A

  abbrev pub Wholes : Type 0
  Wholes = Whole sv.Rest sv.Block kp.Kept O sv.A

  abbrev pub Disks : Type 0
  Disks = Disk sv.Rest kp.Kept O sv.A

  abbrev pub Messages : Type 0
  Messages = Message sv.Rest sv.Block O sv.A

  abbrev pub Parts : Type 0
  Parts = Part sv.Rest sv.Block sv.A

  -- COMMANDS. What the calls of a bundle reply and leave; blocks change at a version.
  pub record State : Type 0 where
    pub sessions : ℕ → Session sv.A
    pub rest : sv.Rest
    pub kept : kp.Kept

  pub record Ran : Type 0 where
    pub replies : List (Reply sv.A)
    pub rest : sv.Rest
    pub kept : kp.Kept

  abbrev pub replied : ℕ → sv.A → Ran → Ran
  replied k a z = record z { replies = record { id = k; reply = a } ∷ z.replies }

  unfoldable pub runs : (version : ℕ) → List (Item O) → sv.Rest → kp.Kept → Ran
  runs v [] r s = record { replies = []; rest = r; kept = s }
  runs v (x ∷ xs) r s =
      replied x.id (sv.reply x.call r (kp.look s)) (runs v xs (sv.next x.call r (kp.look s)) (kp.write (sv.next x.call r (kp.look s)) v (sv.changes x.call r (kp.look s)) s))

  -- a bundle is done, and its house's session is its replies
  abbrev pub fulfilled : Bundle O → (ℕ → Session sv.A) → Ran → State
  fulfilled b done z = record { sessions = put b.house (record { incarnation = b.incarnation; counter = b.counter; replies = z.replies }) done; rest = z.rest; kept = z.kept }

  unfoldable pub bundle_done : (version : ℕ) → Bundle O → State → State
  bundle_done v b z = cond (is_new b z.sessions) (fulfilled b z.sessions (runs v b.calls z.rest z.kept)) z

  unfoldable pub command_done : (version : ℕ) → Command O → State → State
  command_done v [] z = z
  command_done v (b ∷ k) z = command_done v k (bundle_done v b z)

  -- WORK
  abbrev pub with_turn : Turns → Wholes → Wholes
  with_turn t w = record w { turn = t }

  abbrev pub executed : State → Wholes → Wholes
  executed z w = record w { turn = record w.turn { sessions = z.sessions; work = rests }; rest = z.rest; kept = z.kept }

  unfoldable pub put_rest : Work sv.Rest sv.Block O sv.A → Wholes → Wholes
  put_rest rests w = w
  put_rest (applies k) w = w
  put_rest (takes r x) w = w
  put_rest (replaces x) w = record w { turn = record w.turn { work = rests }; rest = x }

  unfoldable pub stowed : ℕ → Parts → Option kp.Kept → Wholes → Wholes
  stowed r x None w = record w { turn = begins_again r w.turn; kept = kp.none }
  stowed r x (Some s) w = put_rest (taken r x w.turn).work (record w { turn = taken r x w.turn; kept = s })

  unfoldable pub does_work : Work sv.Rest sv.Block O sv.A → Wholes → Wholes
  does_work rests w = w
  does_work (applies k) w = executed (command_done w.turn.agreeing.version k (record { sessions = w.turn.sessions; rest = w.rest; kept = w.kept })) w
  does_work (takes r x) w = stowed r x (kp.take w.rest x.whole x.asked.key (next_key x.tail) x.floor x.blocks w.kept) w
  does_work (replaces x) w = w

  abbrev pub works : Wholes → Wholes
  works w = does_work w.turn.work w

  -- what the agreement does within it
  abbrev pub on : (Turns → Turns) → Wholes → Wholes
  on f w = with_turn (f w.turn) w

  -- WHAT IS SENT, when all is stored
  abbrev pub status_now : Agreeing O → Status O
  status_now a = record { promised = a.promised; version = a.version; last = a.last; proposal = a.proposal; recovering = not (is_level a.recovery) }

  abbrev pub away : (me j : ℕ) → Messages → List (Post Messages) → List (Post Messages)
  away me j m qs = cond (j == me) qs (record { to = j; what = m } ∷ qs)

  unfoldable pub to_others : (me : ℕ) → Messages → List (Post Messages) → List (Post Messages)
  to_others me m qs = away me 0 m (away me 1 m (away me 2 m qs))

  unfoldable pub status_posts : (me : ℕ) → Status O → Whom → List (Post Messages) → List (Post Messages)
  status_posts me x nobody qs = qs
  status_posts me x (one r) qs = record { to = r; what = Told x } ∷ qs
  status_posts me x others qs = to_others me (Told x) qs

  unfoldable pub bundle_posts : (me : ℕ) → Bool → Way O → List (Post Messages) → List (Post Messages)
  bundle_posts me b free qs = qs
  bundle_posts me b (under c) qs = cond b (to_others me (Bundled c) qs) qs

  unfoldable pub reply_posts : (ℕ → Session sv.A) → List ℕ → List (Post Messages) → List (Post Messages)
  reply_posts done [] qs = qs
  reply_posts done (h ∷ hs) qs = record { to = h; what = Done (done h) } ∷ reply_posts done hs qs

  abbrev pub want_of : (base top key : ℕ) → Want
  want_of a t k = record { base = a; top = t; key = k }

  unfoldable pub want_posts : (key : ℕ) → Agreeing O → Option ℕ → List (Post Messages) → List (Post Messages)
  want_posts key a None qs = qs
  want_posts key a (Some r) qs = asks a.recovery
    where
      asks : Rattle.copies.specs.Messages.Recovery → List (Post Messages)
      asks level = qs
      asks (recovers b t) = record { to = r; what = Asked (want_of b t key) } ∷ qs

  -- Blocks are given as they are. All, where the base is below the floor, or the top above the version.
  abbrev pub is_whole : Want → Wholes → Bool
  is_whole q w = nat_lt q.base (kp.floor w.kept) || nat_lt w.turn.agreeing.version q.top

  abbrev pub tail_of : Wholes → Option ℕ → Rattle.copies.specs.Messages.Tail sv.Rest sv.A
  tail_of w None = ends w.rest w.turn.sessions
  tail_of w (Some k) = more k

  unfoldable pub part_of : Want → Wholes → Parts
  part_of q w =
      record {
        asked = q;
        promised = w.turn.agreeing.promised;
        version = w.turn.agreeing.version;
        last = w.turn.agreeing.last;
        whole = is_whole q w;
        floor = kp.floor w.kept;
        blocks = (kp.portion w.rest (is_whole q w) q.base q.key w.kept).blocks;
        tail = tail_of w (kp.portion w.rest (is_whole q w) q.base q.key w.kept).next;
      }

  unfoldable pub part_posts : Wholes → Option Serve → List (Post Messages)
  part_posts w None = []
  part_posts w (Some s) = record { to = s.to; what = Given (part_of s.want w) } ∷ []

  unfoldable pub posts : Wholes → List (Post Messages)
  posts w =
      status_posts w.turn.memory.me (status_now w.turn.agreeing) w.turn.sends.status
      (bundle_posts w.turn.memory.me w.turn.sends.bundle w.turn.memory.way
      (reply_posts w.turn.sessions w.turn.sends.replies
      (want_posts w.turn.memory.pass.key w.turn.agreeing w.turn.sends.wants (part_posts w w.turn.sends.serves))))

  unfoldable pub posted : List (Post Messages) → List (Out Messages R)
  posted [] = []
  posted (q ∷ qs) = To q.to q.what ∷ posted qs

  unfoldable pub outs : List (Reply sv.A) → List (Out Messages R) → List (Out Messages R)
  outs [] acc = acc
  outs (t ∷ ts) acc = outs ts (Tell t.id (sv.says t.reply) ∷ acc)

  -- THE HOUSE
  abbrev pub Ended : Type 0
  Ended = record { stored : Disks; mem : Memory O; out : List (Out Messages R) }

  abbrev pub begins : Memory O → Disks → Wholes
  begins m d =
      record { incarnation = d.incarnation; turn = record { agreeing = d.agreeing; sessions = d.sessions; memory = m; told = []; sends = silent; work = rests }; rest = d.rest; kept = d.kept }

  abbrev pub disk_of : Wholes → Disks
  disk_of w = record { incarnation = w.incarnation; agreeing = w.turn.agreeing; sessions = w.turn.sessions; rest = w.rest; kept = w.kept }

  abbrev pub finishes : Wholes → Ended
  finishes w = record { stored = disk_of w; mem = w.turn.memory; out = outs w.turn.told (posted (posts w)) }

  abbrev pub got : ℕ → Messages → Wholes → Wholes
  got r (Bundled b) w = on (λ t. forward (on_bundle b t)) w
  got r (Done s) w = on (λ t. forward (pack (settle s t.memory.way t))) w
  got r (Told x) w = on goes_on (works (on (on_status r x) w))
  got r (Asked q) w = on (on_want r q) w
  got r (Given x) w = on goes_on (works (on (on_part r x) w))

  abbrev pub ticked : Wholes → Wholes
  ticked w = on (λ t. goes_on (on_tick t)) w

  abbrev pub refused : ℕ → Memory O → Disks → Ended
  refused k m d = record { stored = d; mem = m; out = Tell k sv.busy ∷ [] }

  unfoldable pub acts : In Messages O → Memory O → Disks → Ended
  acts (From r x) m d = finishes (got r x (begins m d))
  acts (Ask k o) m d = cond (nat_le 8 (count m m.way)) (refused k m d) (finishes (on (λ t. forward (pack (queued k o t))) (begins m d)))
  acts Tick m d = finishes (ticked (begins m d))

  -- a house may let any event pass: a packet that it can't read, a number that would grow too large
  abbrev pub Guard : Type 0
  Guard = In Messages O → Memory O → Disks → Bool

  abbrev pub stays : Memory O → Disks → Ended
  stays m d = record { stored = d; mem = m; out = [] }

  unfoldable pub behaves : Guard → In Messages O → Memory O → Disks → Ended
  behaves ok x m d = cond (ok x m d) (acts x m d) (stays m d)

  abbrev pub wakes : ℕ → Disks → record { stored : Disks; mem : Memory O }
  wakes me d =
      record {
        stored = record d { incarnation = suc d.incarnation };
        mem = record { me = me; incarnation = suc d.incarnation; counter = 0; lead = 0; quiet = 0; waiting = []; way = free; heard = []; pass = record { key = 0; span = unseen; asked = false } };
      }

  abbrev pub blank : Disks
  blank =
      record { incarnation = 0; agreeing = record { promised = 0; version = 0; last = 0; proposal = nothing; recovery = level }; sessions = λ h. unused; rest = sv.first; kept = kp.none }

  abbrev pub replicated : Guard → Pure Messages O R
  replicated ok = record { D = Disks; Mem = Memory O; start = blank; opens = λ me all d. wakes me d; does = behaves ok }
