-- The journal keeps to the array, whatever happens: along every trace there is an array that is allowed to be seen so, and that the device and
-- the memory hold.
use Rattle.std.proofs.Common.{◌≡◌, ℕ, zero, suc, ◌+◌, ◌≤◌, Bool, true, false, cond, ◌&&◌, T, ltb, leb, ◌⊎◌, List, ◌∷◌, ◌++◌, sym, refl, ap, ◌∙◌, subst, inl, inr, arith, ltb-false, leb-true, leb-false, Ok, Err, None}
use Rattle.disks.specs.Device.{Device, blank_device, zeros, Io, answer, run, Ran, Upto, here, latest, AfterCut, Event, called, cut_in, cut_between, World, off, on, Trace, begin, opened, opening_cut, answered, call_cut, between_cut, Allowed, at_start, was_lost, was_done, came_between, came_opening, all_bytes, then'}
use Rattle.compose.proofs.Compose.{run_then, upto_map}
use Rattle.journal.specs.Format.{slot_sectors, guarded, found}
use Rattle.journal.specs.Scans.{scan_blank}
use Rattle.journal.specs.Programs.{in_area, allowed, open_io, get_io, put_io, Put', after_put, Opened, Got}
use Rattle.recovery.specs.Machines.{Call, Get, Put, Reply, Done', No, got_reply, put_reply, whole_sectors, call_io, journal, Array, last, later, put_into, Answers, got, not_got, put, not_put, used-up, falls, array, JournalKeeps}
use Rattle.journal.specs.declared.Place.{Place}
use Rattle.journal.specs.declared.state.Write.{Write}
use Rattle.journal.specs.declared.state.Slot.{Slot}
use Rattle.journal.specs.declared.state.Slot.TheVariants.{First, Second}
use Rattle.journal.specs.declared.state.Journal.{Journal}
use Rattle.recovery.proofs.Scanning.{gathered, gathered_one}
use Rattle.recovery.proofs.Sound.{found_blank}
use Rattle.recovery.proofs.Mixing.{writes_in, none_number, none-writes}
use Rattle.recovery.proofs.Redoing.{slot_of}
use Rattle.recovery.proofs.Inv.{Off, On, ours_more}
use Rattle.recovery.proofs.Cutting.{off_of, rest-cut}
use Rattle.recovery.proofs.Opening.{opens, opens-cut}
use Rattle.recovery.proofs.Calls.{get_run, get_refused, get_upto, put_refused, put-used-up, put_run, put-after, put-cut, put-still}
use Rattle.recovery.proofs.Room.{open_large, kept}
use Rattle.octets.proofs.Numbers.{join}

-- a blank slot has nothing to do again
blank-scan : (size : ℕ) (g : ℕ → List ℕ) (k : ℕ) → ((i : ℕ) → found size i (g i) ≡ Ok None) → (gathered size g k).whole ≡ None
unfolding gathered gathered_one scan_blank
blank-scan size g zero e = refl
blank-scan size g (suc k) e = rw (e k, blank-scan size g k e)

blank_found : (size : ℕ) (slot : Slot) (i : ℕ) → found size i (slot_of blank_device slot i) ≡ Ok None
unfolding latest
blank_found size slot i = found_blank size i

pub off_blank : (size : ℕ) → Off size 0 (λ s. zeros 512) blank_device
unfolding latest zeros all_bytes last
off_blank size =
    off_of size 0 (λ s. zeros 512) blank_device First (λ s. refl) (λ slot i l. inl (blank_found size slot i)) (λ slot i l. (refl, tt)) (inr (none_number size (slot_of blank_device First) (blank-scan size (slot_of blank_device First) slot_sectors (blank_found size First))))
    (λ s t. ap (λ (ws : List Write). last (ws ++ writes_in size (slot_of blank_device Second)) (zeros 512) s) (none-writes size (slot_of blank_device First) (blank-scan size (slot_of blank_device First) slot_sectors (blank_found size First))) ∙ ap (λ (ws : List Write). last ws (zeros 512) s) (none-writes size (slot_of blank_device Second) (blank-scan size (slot_of blank_device Second) slot_sectors (blank_found size Second))))

-- more steps
pub off_more : (size n m : ℕ) (a : ℕ → List ℕ) (d : Device) → n ≤ m → Off size n a d → Off size m a d
off_more size n m a d l o = record { clean = o.clean; ours = λ slot i k. ours_more size n m i (slot_of d slot i) l (o.ours slot i k); bytes = o.bytes; differ = o.differ; holds = o.holds }

pub on_more : (size n m : ℕ) (a : ℕ → List ℕ) (j : Journal) (d : Device) → n ≤ m → On size n a j d → On size m a j d
on_more size n m a j d l o =
    let s = o.safe in
    record { safe = record { size_is = s.size_is; most = s.most; above = s.above; low = omega (arith, s.low); quiet = s.quiet; ours = s.ours; bytes = s.bytes; by-new = s.by-new; by_both = s.by_both; order = s.order }; shows = o.shows }

module _ (size : ℕ) (fits : size ≤ 1099511627776) where
  abbrev pub Inv : World journal → Array → Type 0
  Inv (off d) a = Off size a.steps a.sector d
  Inv (on (Ok j) d) a = On size a.steps a.sector j d
  Inv (on (Err e) d) a = ⊥

  abbrev Step : Type 0
  Step = record { reply : Reply; mem : Opened }

  -- a call that comes to its end
  abbrev Stepped : Call → Array → Ran Step → Type 0
  Stepped c a x = (b : Array) × Answers size c a x.value.reply b × Inv (on x.value.mem x.device) b

  module _ (a : Array) (j : Journal) (d : Device) (o : On size a.steps a.sector j d) where
    on_later : On size (suc a.steps) a.sector j d
    on_later = on_more size a.steps (suc a.steps) a.sector j d (omega arith) o

    get-stepped : (p : Place) (b : Bool) → in_area size p.0 ≡ b → Stepped (Get p) a (run (call_io (Get p) (Ok j)) d)
    unfolding call_io run
    get-stepped p true e =
        let t : T (in_area size p.0) = subst T (sym e) tt in
        subst (Stepped (Get p) a) (sym (run_then (get_io j p) (λ g. answer (record { reply = got_reply g; mem = Ok j })) d ∙ ap (λ (r : Ran Got). record { value = record { reply = got_reply r.value; mem = Ok j }; device = r.device }) (get_run size a.steps a.sector j d o p t))) (later a, got p a t, on_later)
    get-stepped p false e =
        subst (Stepped (Get p) a) (sym (run_then (get_io j p) (λ g. answer (record { reply = got_reply g; mem = Ok j })) d ∙ ap (λ (r : Ran Got). record { value = record { reply = got_reply r.value; mem = Ok j }; device = r.device }) (get_refused size a.steps a.sector j d o p e))) (later a, not_got p a e, on_later)

    abbrev told : Ran Put' → Ran Step
    told z = record { value = record { reply = put_reply z.value.outcome; mem = Ok z.value.journal }; device = z.device }

    put-told : (ws : List Write) → run (then' {B = Step} (put_io j ws) (λ x. answer (record { reply = put_reply x.outcome; mem = Ok x.journal }))) d ≡ told (run (put_io j ws) d)
    unfolding run
    put-told ws = run_then (put_io j ws) (λ x. answer (record { reply = put_reply x.outcome; mem = Ok x.journal })) d

    -- a put, by what the tests say: whole sectors, allowed, a number left
    put-stepped : (ws : List Write) (u v w : Bool) → whole_sectors ws ≡ u → allowed size ws ≡ v → ltb j.next 4611686018427387904 ≡ w → Stepped (Put ws) a (run (call_io (Put ws) (Ok j)) d)
    unfolding call_io run
    put-stepped ws false v w p q r = rw p (later a, not_put ws a (rw p), on_later)
    put-stepped ws true false w p q r =
        let s : T (whole_sectors ws) = subst T (sym p) tt in
        let run_is = put-told ws ∙ ap told (put_refused size a.steps a.sector j d o fits ws s q) in
        rw p (subst (Stepped (Put ws) a) (sym run_is) (later a, not_put ws a (rw (p, q)), on_later))
    put-stepped ws true true false p q r =
        let s : T (whole_sectors ws) = subst T (sym p) tt in
        let t : T (allowed size ws) = subst T (sym q) tt in
        let run_is = put-told ws ∙ ap told (put-used-up size a.steps a.sector j d o fits ws s t r) in
        rw p (subst (Stepped (Put ws) a) (sym run_is) (later a, used-up ws a (join (whole_sectors ws) (allowed size ws) s t) (omega (arith, ltb-false j.next 4611686018427387904 r, o.safe.low)), on_later))
    put-stepped ws true true true p q r =
        let s : T (whole_sectors ws) = subst T (sym p) tt in
        let t : T (allowed size ws) = subst T (sym q) tt in
        let run_is = put-told ws ∙ ap told (put_run size a.steps a.sector j d o fits ws s t r) in
        rw p (subst (Stepped (Put ws) a) (sym run_is) (put_into ws a, put ws a (join (whole_sectors ws) (allowed size ws) s t), on_more size (a.steps + 1) (suc a.steps) (λ z. last ws (a.sector z) z) (after_put j) _ (omega arith) (put-after size a.steps a.sector j d o fits ws s t r)))

    stepped : (c : Call) → Stepped c a (run (call_io c (Ok j)) d)
    stepped (Get p) = get-stepped p (in_area size p.0) refl
    stepped (Put ws) = put-stepped ws (whole_sectors ws) (allowed size ws) (ltb j.next 4611686018427387904) refl refl refl

    -- a call that is cut: it never was, or it was done
    abbrev Lost : Call → Device → Type 0
    Lost c f = Off size (suc a.steps) a.sector f ⊎ ((r : Reply) × (b : Array) × Answers size c a r b × Off size (suc b.steps) b.sector f)

    rests : (c : Call) (e f : Device) → e ≡ d → AfterCut e f → Lost c f
    rests c e f q cut = inl (rest-cut size a.steps (suc a.steps) a.sector j d f (omega arith) o.safe (subst (λ (z : Device). AfterCut z f) q cut))

    put-lost : (ws : List Write) (e f : Device) → (u v w : Bool) → whole_sectors ws ≡ u → allowed size ws ≡ v → ltb j.next 4611686018427387904 ≡ w → Upto (call_io (Put ws) (Ok j)) d e → AfterCut e f → Lost (Put ws) f
    unfolding call_io
    put-lost ws e f false v w p q r up cut = rests (Put ws) e f (at_once e (subst (λ (b : Bool). Upto {A = Step} (cond b (then' (put_io j ws) (λ x. answer (record { reply = put_reply x.outcome; mem = Ok x.journal }))) (answer (record { reply = No 1; mem = Ok j }))) d e) p up)) cut
      where
        at_once : (e : Device) → Upto {A = Step} (answer (record { reply = No 1; mem = Ok j })) d e → e ≡ d
        at_once e here = refl
    put-lost ws e f true v w p q r up cut = go v w q r
      where
        s : T (whole_sectors ws)
        s = subst T (sym p) tt

        inner : Upto (put_io j ws) d e
        inner = upto_map (put_io j ws) (λ x. record { reply = put_reply x.outcome; mem = Ok x.journal }) d e (subst (λ (b : Bool). Upto {A = Step} (cond b (then' (put_io j ws) (λ x. answer (record { reply = put_reply x.outcome; mem = Ok x.journal }))) (answer (record { reply = No 1; mem = Ok j }))) d e) p up)

        go : (v w : Bool) → allowed size ws ≡ v → ltb j.next 4611686018427387904 ≡ w → Lost (Put ws) f
        go false w q r = rests (Put ws) e f (put-still size a.steps a.sector j d o fits ws s (λ t. subst (λ (b : Bool). T (b && ltb j.next 4611686018427387904)) q t) e inner) cut
        go true false q r = rests (Put ws) e f (put-still size a.steps a.sector j d o fits ws s (λ t. subst T r (subst (λ (b : Bool). T (b && ltb j.next 4611686018427387904)) q t)) e inner) cut
        go true true q r =
            let t : T (allowed size ws) = subst T (sym q) tt in
            elim (put-cut size a.steps a.sector j d o fits ws s t r e f inner cut) [
              | inl x ↦ inl (off_more size (a.steps + 1) (suc a.steps) a.sector f (omega arith) x)
              | inr x ↦ inr (Done', put_into ws a, put ws a (join (whole_sectors ws) (allowed size ws) s t), off_more size (a.steps + 1) (suc (suc a.steps)) (λ z. last ws (a.sector z) z) f (omega arith) x)
            ]

    lost : (c : Call) (e f : Device) → Upto (call_io c (Ok j)) d e → AfterCut e f → Lost c f
    unfolding call_io
    lost (Get p) e f up cut = rests (Get p) e f (get_upto size a.steps a.sector j d o p e (upto_map (get_io j p) (λ g. record { reply = got_reply g; mem = Ok j }) d e up)) cut
    lost (Put ws) e f up cut = put-lost ws e f (whole_sectors ws) (allowed size ws) (ltb j.next 4611686018427387904) refl refl refl up cut

  -- ALONG A TRACE
  abbrev pub Held : List (Event Call Reply) → World journal → Type 0
  Held es w = (a : Array) × Allowed (array size) es a × Inv w a

  came_up : (es : List (Event Call Reply)) (d : Device) (x : Opened) (e : Device) (a : Array) → Allowed (array size) es a → (j : Journal) × (x ≡ Ok j) × On size a.steps a.sector j e → Held es (on x e)
  came_up es d x e a al (j, q, o) = subst (λ (y : Opened). (b : Array) × Allowed (array size) es b × Inv (on y e) b) (sym q) (a, al, o)

  pub held : guarded ≤ size → {es : List (Event Call Reply)} {w : World journal} → Trace journal size es w → Held es w
  held room begin = (record { sector = λ s. zeros 512; steps = 0 }, at_start, off_blank size)
  held room (opened {es} {d} tr) =
      let (a, al, o) = held room tr in
      came_up es d (run (open_io size) d).value (run (open_io size) d).device a al (subst (λ (p : Io Opened). (j : Journal) × ((run p d).value ≡ Ok j) × On size a.steps a.sector j (run p d).device) (sym (open_large size room)) (opens size a.steps a.sector d o))
  held room (opening_cut {es} {d} {f} {g} tr up cut) =
      let (a, al, o) = held room tr in
      (later a, came_opening al (falls a), opens-cut size a.steps a.sector d o (suc a.steps) f g (omega arith) (subst (λ (p : Io Opened). Upto p d f) (open_large size room) up) cut)
  held room (answered {es} {m} {d} c tr) = called_on m (held room tr)
    where
      called_on : (m : Opened) → (a : Array) × Allowed (array size) es a × Inv (on m d) a → (b : Array) × Allowed (array size) (called c (run (call_io c m) d).value.reply ∷ es) b × Inv (on (run (call_io c m) d).value.mem (run (call_io c m) d).device) b
      called_on (Ok j) (a, al, o) = let (b, an, i) = stepped a j d o c in (b, Allowed.answers al an, i)
      called_on (Err e) (a, al, o) = absurd o
  held room (call_cut {es} {m} {d} {f} {g} c tr up cut) = cut_on m (held room tr) up
    where
      gone : (a : Array) → Allowed (array size) es a → Off size (suc a.steps) a.sector g ⊎ ((r : Reply) × (b : Array) × Answers size c a r b × Off size (suc b.steps) b.sector g) → (b : Array) × Allowed (array size) (cut_in c ∷ es) b × Off size b.steps b.sector g
      gone a al (inl o) = (later a, was_lost al (falls a), o)
      gone a al (inr (r, b, an, o)) = (later b, was_done al an (falls b), o)

      cut_on : (m : Opened) → (a : Array) × Allowed (array size) es a × Inv (on m d) a → Upto (call_io c m) d f → (b : Array) × Allowed (array size) (cut_in c ∷ es) b × Off size b.steps b.sector g
      cut_on (Ok j) (a, al, o) up = gone a al (lost a j d o c f g up cut)
      cut_on (Err e) (a, al, o) up = absurd o
  held room (between_cut {es} {m} {d} {g} tr cut) = cut_on m (held room tr)
    where
      cut_on : (m : Opened) → (a : Array) × Allowed (array size) es a × Inv (on m d) a → (b : Array) × Allowed (array size) (cut_between ∷ es) b × Off size b.steps b.sector g
      cut_on (Ok j) (a, al, o) = (later a, came_between al (falls a), rest-cut size a.steps (suc a.steps) a.sector j d g (omega arith) o.safe cut)
      cut_on (Err e) (a, al, o) = absurd o

pub journal-keeps : JournalKeeps
journal-keeps size lo hi es w tr = go (leb guarded size) refl
  where
    go : (b : Bool) → leb guarded size ≡ b → (a : Array) × Allowed (array size) es a
    go true e = let (a, al, i) = held size hi (leb-true guarded size e) tr in (a, al)
    go false e = let (a, al, i) = kept size (leb-false guarded size e) tr in (a, al)
