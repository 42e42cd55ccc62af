-- Each format is sound, since it is put together of sound ones.
use Rattle.std.proofs.Common.{◌≡◌, ◌⊎◌, inl, inr, ℕ, ◌+◌, ◌-◌, ◌<◌, ◌≤◌, Bool, true, false, cond, ◌&&◌, ◌||◌, T, ltb, leb, eqb, List, ◌++◌, length, Ok, Err, refl, ap, ◌∙◌, subst, append_assoc, arith, lt→ltb}
use Rattle.std.proofs.lemmas.Bool.Decides.{nat_tests}
use Rattle.octets.specs.Numbers.{bytes_of}
use Rattle.octets.proofs.Numbers.{both, join}
use Rattle.wire.specs.Frames.{frame_bytes}
use Rattle.volumes.specs.declared.head.Head.{Head}
use Rattle.volumes.specs.Service.{Service}
use Rattle.agreement.specs.Copies.{nothing, voted}
use Rattle.copies.specs.Messages.{Recovery, level, recovers, Want}
use Rattle.packets.specs.declared.fault.Fault.TheVariants.{Range}
use Rattle.packets.specs.Codecs.{◌>>=◌, Sound, SoundWhole, number, number_at, text_at, ◌then◌, constant, listed, exactly, frame_at, empty, on_either, only, or_kind, of_kinds}
use Rattle.packets.specs.Formats.{Bytes, CallItem, CallBundle, AnswerReply, AnswerSession, CallProposal, CallStatus, CallAgreeing, StampedBlock, framed, item, reply, bundle, session, flag_of, flag, proposed, proposal, status, span_of, recovery, agreeing, want, block, stamped, head, rest, PartEnd, more_from, with_rest, end_of, part_end, PartSaid, part, Said, bundled, replied, told, asked, given, SaidOf, said_of, said, message, Identity, mark, identity, Directory, directory}
use Rattle.packets.proofs.Sounds.{bind_ok, guard_ok, ok_is, rest_bytes, number_sound, text_back, text_takes, then_sound, shaped_sound, listed_sound, exactly_sound, empty_sound, constant_sound, only_sound, or_kind_sound, of_kinds_sound, whole_sound}
use Rattle.packets.proofs.Blocks.{block_sound}

-- ---- frames

in_range : (most z : ℕ) → (ltb z 8 || ltb (8 + most) z) ≡ false → (8 ≤ z) × (z ≤ 8 + most)
in_range most z h = grind (arith, nat_tests)

is_range : (most z : ℕ) → 8 ≤ z → z ≤ 8 + most → (ltb z 8 || ltb (8 + most) z) ≡ false
is_range most z h k = grind (arith, nat_tests)

is_most : (n m : ℕ) → n ≤ m → T (leb n m)
is_most n m h = grind (arith, nat_tests)

at_most : (n m : ℕ) → T (leb n m) → n ≤ m
at_most n m h = grind (arith, nat_tests)

framed_together : (z n : ℕ) (body more behind after bs : Bytes) → bytes_of 4 z ++ behind ≡ bs → bytes_of 8 n ++ after ≡ behind → body ++ more ≡ after → 8 + length body ≡ z → frame_bytes n body ++ more ≡ bs
framed_together z n body more behind after bs e f g size =
    append_assoc (bytes_of 4 (8 + length body)) (bytes_of 8 n ++ body) more ∙ ap (λ (xs : Bytes). bytes_of 4 (8 + length body) ++ xs) (append_assoc (bytes_of 8 n) body more ∙ ap (λ (xs : Bytes). bytes_of 8 n ++ xs) g ∙ f)
    ∙ ap (λ (k : ℕ). bytes_of 4 k ++ behind) size ∙ e

framed_sound : (most : ℕ) → most < 65536 → Sound (framed most)
unfolding frame_at
framed_sound most small = record {
  back = λ p more h.
      let k = both (ltb p.0 18446744073709551616) (leb (length p.1) most) h in
      let within : length p.1 ≤ most = at_most (length p.1) most k.1 in
      let size : (8 + length p.1) - 8 ≡ length p.1 = omega arith in
      rw (
        append_assoc (bytes_of 4 (8 + length p.1)) (bytes_of 8 p.0 ++ p.1) more,
        append_assoc (bytes_of 8 p.0) p.1 more,
        (number_sound 4).back (8 + length p.1) (bytes_of 8 p.0 ++ (p.1 ++ more)) (lt→ltb _ _ (omega arith)),
        is_range most (8 + length p.1) (omega arith) (omega arith),
        (number_sound 8).back p.0 (p.1 ++ more) k.0,
        size,
        text_back p.1 more (length p.1) refl,
      ) refl;
  spelling = λ bs p more h e.
      let a = bind_ok (number_at 4 bs) (λ z. cond (ltb z.0 8 || ltb (8 + most) z.0) (Err Range) (number_at 8 z.1 >>= λ n. text_at (z.0 - 8) n.1 >>= λ b. Ok ((n.0, b.0), b.1))) (p, more) e in
      let g = guard_ok (ltb a.0.0 8 || ltb (8 + most) a.0.0) Range (number_at 8 a.0.1 >>= λ n. text_at (a.0.0 - 8) n.1 >>= λ b. Ok ((n.0, b.0), b.1)) (p, more) a.2 in
      let b = bind_ok (number_at 8 a.0.1) (λ n. text_at (a.0.0 - 8) n.1 >>= λ t. Ok ((n.0, t.0), t.1)) (p, more) g.1 in
      let c = bind_ok (text_at (a.0.0 - 8) b.0.1) (λ t. Ok ((b.0.0, t.0), t.1)) (p, more) b.2 in
      let first = (number_sound 4).spelling bs a.0.0 a.0.1 h a.1 in
      let second = (number_sound 8).spelling a.0.1 b.0.0 b.0.1 (rest_bytes (bytes_of 4 a.0.0) a.0.1 bs first.0 h) b.1 in
      let third = text_takes (a.0.0 - 8) b.0.1 c.0.0 c.0.1 c.1 in
      let range = in_range most a.0.0 g.0 in
      let size : 8 + length c.0.0 ≡ a.0.0 = omega (arith, third.1, range.0) in
      subst (λ (z : (ℕ × Bytes) × Bytes). (frame_bytes z.0.0 z.0.1 ++ z.1 ≡ bs) × T (ltb z.0.0 18446744073709551616 && leb (length z.0.1) most)) (ok_is ((b.0.0, c.0.0), c.0.1) (p, more) c.2) (
        framed_together a.0.0 b.0.0 c.0.0 c.0.1 a.0.1 b.0.1 bs first.0 second.0 third.0 size,
        join _ _ second.1 (is_most (length c.0.0) most (omega (arith, size, range.1))),
      );
}

-- ---- calls and answers

item_sound : Sound item
unfolding item
item_sound = shaped_sound {B = CallItem} (λ p. record { id = p.0; call = p.1 }) (λ i. (i.id, i.call)) (framed 537) (λ y. refl) (λ x. refl) (framed_sound 537 (omega arith))

reply_sound : Sound reply
unfolding reply
reply_sound = shaped_sound {B = AnswerReply} (λ p. record { id = p.0; reply = p.1 }) (λ r. (r.id, r.reply)) (framed 513) (λ y. refl) (λ x. refl) (framed_sound 513 (omega arith))

pub bundle_sound : Sound bundle
unfolding bundle
bundle_sound =
    shaped_sound {B = CallBundle} (λ p. record { house = p.0; incarnation = p.1.0; counter = p.1.1.0; calls = p.1.1.1 }) (λ b. (b.house, (b.incarnation, (b.counter, b.calls)))) (number 8 then number 8 then number 8 then listed 1 8 item) (λ y. refl) (λ x. refl)
    (then_sound (number 8) (number 8 then number 8 then listed 1 8 item) (number_sound 8) (then_sound (number 8) (number 8 then listed 1 8 item) (number_sound 8) (then_sound (number 8) (listed 1 8 item) (number_sound 8) (listed_sound item item_sound 1 8 (omega arith)))))

pub session_sound : Sound session
unfolding session
session_sound =
    shaped_sound {B = AnswerSession} (λ p. record { incarnation = p.0; counter = p.1.0; replies = p.1.1 }) (λ s. (s.incarnation, (s.counter, s.replies))) (number 8 then number 8 then listed 1 8 reply) (λ y. refl) (λ x. refl)
    (then_sound (number 8) (number 8 then listed 1 8 reply) (number_sound 8) (then_sound (number 8) (listed 1 8 reply) (number_sound 8) (listed_sound reply reply_sound 1 8 (omega arith))))

-- ---- what a copy says of itself

flag_sound : Sound flag
unfolding flag
flag_sound = shaped_sound (on_either (λ u. false) (λ u. true)) flag_of (of_kinds (or_kind 0 empty (only 1 empty))) there back_again (of_kinds_sound _ (or_kind_sound 0 empty (only 1 empty) (omega arith) (λ y. refl) empty_sound (only_sound 1 empty (omega arith) empty_sound)))
  where
    there : (b : Bool) → on_either (λ (u : Unit {0}). false) (λ (u : Unit {0}). true) (flag_of b) ≡ b
    there true = refl
    there false = refl

    back_again : (z : Unit {0} ⊎ Unit {0}) → flag_of (on_either (λ u. false) (λ u. true) z) ≡ z
    back_again (inl u) = refl
    back_again (inr u) = refl

bundles_sound : Sound (number 8 then listed 1 49 bundle)
bundles_sound = then_sound (number 8) (listed 1 49 bundle) (number_sound 8) (listed_sound bundle bundle_sound 1 49 (omega arith))

proposal_sound : Sound proposal
unfolding proposal
proposal_sound = shaped_sound (on_either (λ u. nothing) (λ p. voted p.0 p.1)) proposed (of_kinds (or_kind 0 empty (only 1 (number 8 then listed 1 49 bundle)))) there back_again
    (of_kinds_sound _ (or_kind_sound 0 empty (only 1 (number 8 then listed 1 49 bundle)) (omega arith) (λ y. refl) empty_sound (only_sound 1 (number 8 then listed 1 49 bundle) (omega arith) bundles_sound)))
  where
    there : (p : CallProposal) → on_either (λ (u : Unit {0}). nothing) (λ (q : ℕ × List CallBundle). voted q.0 q.1) (proposed p) ≡ p
    there nothing = refl
    there (voted b k) = refl

    back_again : (z : Unit {0} ⊎ (ℕ × List CallBundle)) → proposed (on_either (λ u. nothing) (λ p. voted p.0 p.1) z) ≡ z
    back_again (inl u) = refl
    back_again (inr p) = refl

status_sound : Sound status
unfolding status
status_sound =
    shaped_sound {B = CallStatus} (λ p. record { promised = p.0; version = p.1.0; last = p.1.1.0; recovering = p.1.1.1.0; proposal = p.1.1.1.1 }) (λ s. (s.promised, (s.version, (s.last, (s.recovering, s.proposal))))) (number 8 then number 8 then number 8 then flag then proposal) (λ y. refl) (λ x. refl)
    (then_sound (number 8) (number 8 then number 8 then flag then proposal) (number_sound 8) (then_sound (number 8) (number 8 then flag then proposal) (number_sound 8) (then_sound (number 8) (flag then proposal) (number_sound 8) (then_sound flag proposal flag_sound proposal_sound))))

span_sound : Sound (number 8 then number 8)
span_sound = then_sound (number 8) (number 8) (number_sound 8) (number_sound 8)

recovery_sound : Sound recovery
unfolding recovery
recovery_sound = shaped_sound (on_either (λ u. level) (λ p. recovers p.0 p.1)) span_of (of_kinds (or_kind 0 empty (only 1 (number 8 then number 8)))) there back_again
    (of_kinds_sound _ (or_kind_sound 0 empty (only 1 (number 8 then number 8)) (omega arith) (λ y. refl) empty_sound (only_sound 1 (number 8 then number 8) (omega arith) span_sound)))
  where
    there : (r : Recovery) → on_either (λ (u : Unit {0}). level) (λ (p : ℕ × ℕ). recovers p.0 p.1) (span_of r) ≡ r
    there level = refl
    there (recovers a t) = refl

    back_again : (z : Unit {0} ⊎ (ℕ × ℕ)) → span_of (on_either (λ u. level) (λ p. recovers p.0 p.1) z) ≡ z
    back_again (inl u) = refl
    back_again (inr p) = refl

pub agreeing_sound : Sound agreeing
unfolding agreeing
agreeing_sound =
    shaped_sound {B = CallAgreeing} (λ p. record { promised = p.0; version = p.1.0; last = p.1.1.0; recovery = p.1.1.1.0; proposal = p.1.1.1.1 }) (λ a. (a.promised, (a.version, (a.last, (a.recovery, a.proposal))))) (number 8 then number 8 then number 8 then recovery then proposal) (λ y. refl) (λ x. refl)
    (then_sound (number 8) (number 8 then number 8 then recovery then proposal) (number_sound 8) (then_sound (number 8) (number 8 then recovery then proposal) (number_sound 8) (then_sound (number 8) (recovery then proposal) (number_sound 8) (then_sound recovery proposal recovery_sound proposal_sound))))

-- ---- blocks

want_sound : Sound want
unfolding want
want_sound = shaped_sound {B = Want} (λ p. record { base = p.0; top = p.1.0; key = p.1.1 }) (λ w. (w.base, (w.top, w.key))) (number 8 then number 8 then number 16) (λ y. refl) (λ x. refl)
    (then_sound (number 8) (number 8 then number 16) (number_sound 8) (then_sound (number 8) (number 16) (number_sound 8) (number_sound 16)))

stamped_sound : Sound stamped
unfolding stamped
stamped_sound = shaped_sound {B = StampedBlock} (λ p. record { key = p.0; stamp = p.1.0; block = p.1.1 }) (λ b. (b.key, (b.stamp, b.block))) (number 16 then number 8 then block) (λ y. refl) (λ x. refl)
    (then_sound (number 16) (number 8 then block) (number_sound 16) (then_sound (number 8) block (number_sound 8) block_sound))

head_sound : Sound head
unfolding head
head_sound =
    shaped_sound {B = Head} (λ p. record { number = record { 0 = p.0 }; size = record { 0 = p.1.0 }; token = record { 0 = p.1.1.0 }; used = p.1.1.1 }) (λ h. (h.number.0, (h.size.0, (h.token.0, h.used)))) (number 8 then number 8 then number 8 then number 8) (λ y. refl) (λ x. refl)
    (then_sound (number 8) (number 8 then number 8 then number 8) (number_sound 8) (then_sound (number 8) (number 8 then number 8) (number_sound 8) span_sound))

pub rest_sound : Sound rest
unfolding rest
rest_sound = shaped_sound {B = Service} (λ p. record { next = p.0; weight = p.1.0; heads = p.1.1 }) (λ r. (r.next, (r.weight, r.heads))) (number 8 then number 8 then listed 2 4096 head) (λ y. refl) (λ x. refl)
    (then_sound (number 8) (number 8 then listed 2 4096 head) (number_sound 8) (then_sound (number 8) (listed 2 4096 head) (number_sound 8) (listed_sound head head_sound 2 4096 (omega arith))))

part_end_sound : Sound part_end
unfolding part_end
part_end_sound = shaped_sound (on_either more_from (λ p. with_rest p.0 p.1)) end_of (of_kinds (or_kind 0 (number 16) (only 1 (rest then exactly 49 session)))) there back_again
    (of_kinds_sound _ (or_kind_sound 0 (number 16) (only 1 (rest then exactly 49 session)) (omega arith) (λ y. refl) (number_sound 16) (only_sound 1 (rest then exactly 49 session) (omega arith) (then_sound rest (exactly 49 session) rest_sound (exactly_sound session session_sound 49 (omega arith))))))
  where
    there : (p : PartEnd) → on_either more_from (λ (q : Service × List AnswerSession). with_rest q.0 q.1) (end_of p) ≡ p
    there (more_from k) = refl
    there (with_rest r ss) = refl

    back_again : (z : ℕ ⊎ (Service × List AnswerSession)) → end_of (on_either more_from (λ p. with_rest p.0 p.1) z) ≡ z
    back_again (inl k) = refl
    back_again (inr p) = refl

part_sound : Sound part
unfolding part
part_sound =
    shaped_sound {B = PartSaid} (λ p. record { asked = p.0; promised = p.1.0; version = p.1.1.0; last = p.1.1.1.0; whole = p.1.1.1.1.0; floor = p.1.1.1.1.1.0; blocks = p.1.1.1.1.1.1.0; tail = p.1.1.1.1.1.1.1 })
    (λ x. (x.asked, (x.promised, (x.version, (x.last, (x.whole, (x.floor, (x.blocks, x.tail)))))))) (want then number 8 then number 8 then number 8 then flag then number 8 then listed 2 4096 stamped then part_end) (λ y. refl) (λ x. refl)
    (then_sound want (number 8 then number 8 then number 8 then flag then number 8 then listed 2 4096 stamped then part_end) want_sound
    (then_sound (number 8) (number 8 then number 8 then flag then number 8 then listed 2 4096 stamped then part_end) (number_sound 8)
    (then_sound (number 8) (number 8 then flag then number 8 then listed 2 4096 stamped then part_end) (number_sound 8)
    (then_sound (number 8) (flag then number 8 then listed 2 4096 stamped then part_end) (number_sound 8)
    (then_sound flag (number 8 then listed 2 4096 stamped then part_end) flag_sound
    (then_sound (number 8) (listed 2 4096 stamped then part_end) (number_sound 8) (then_sound (listed 2 4096 stamped) part_end (listed_sound stamped stamped_sound 2 4096 (omega arith)) part_end_sound)))))))

-- ---- messages

message_sound : Sound message
unfolding message
message_sound = shaped_sound said said_of (of_kinds (or_kind 1 bundle (or_kind 2 session (or_kind 3 status (or_kind 4 want (only 5 part)))))) there back_again
    (of_kinds_sound _
    (or_kind_sound 1 bundle (or_kind 2 session (or_kind 3 status (or_kind 4 want (only 5 part)))) (omega arith) apart_1 bundle_sound
    (or_kind_sound 2 session (or_kind 3 status (or_kind 4 want (only 5 part))) (omega arith) apart_2 session_sound
    (or_kind_sound 3 status (or_kind 4 want (only 5 part)) (omega arith) apart_3 status_sound (or_kind_sound 4 want (only 5 part) (omega arith) (λ y. refl) want_sound (only_sound 5 part (omega arith) part_sound))))))
  where
    there : (x : Said) → said (said_of x) ≡ x
    there (bundled b) = refl
    there (replied s) = refl
    there (told x) = refl
    there (asked w) = refl
    there (given x) = refl

    back_again : (z : SaidOf) → said_of (said z) ≡ z
    back_again (inl b) = refl
    back_again (inr (inl s)) = refl
    back_again (inr (inr (inl x))) = refl
    back_again (inr (inr (inr (inl w)))) = refl
    back_again (inr (inr (inr (inr x)))) = refl

    apart_3 : (y : Want ⊎ PartSaid) → eqb ((or_kind 4 want (only 5 part)).kind y) 3 ≡ false
    apart_3 (inl w) = refl
    apart_3 (inr x) = refl

    apart_2 : (y : CallStatus ⊎ (Want ⊎ PartSaid)) → eqb ((or_kind 3 status (or_kind 4 want (only 5 part))).kind y) 2 ≡ false
    apart_2 (inl s) = refl
    apart_2 (inr (inl w)) = refl
    apart_2 (inr (inr x)) = refl

    apart_1 : (y : AnswerSession ⊎ (CallStatus ⊎ (Want ⊎ PartSaid))) → eqb ((or_kind 2 session (or_kind 3 status (or_kind 4 want (only 5 part)))).kind y) 1 ≡ false
    apart_1 (inl s) = refl
    apart_1 (inr (inl s)) = refl
    apart_1 (inr (inr (inl w))) = refl
    apart_1 (inr (inr (inr x))) = refl

pub messages : SoundWhole message
messages = whole_sound message message_sound

pub agreeings : SoundWhole agreeing
agreeings = whole_sound agreeing agreeing_sound

pub sessions : SoundWhole session
sessions = whole_sound session session_sound

pub rests : SoundWhole rest
rests = whole_sound rest rest_sound

identity_sound : Sound identity
unfolding identity
identity_sound =
    shaped_sound {B = Identity} (λ p. record { house = p.1.0; houses = p.1.1.0; size = p.1.1.1.0; incarnation = p.1.1.1.1 }) (λ i. (tt, (i.house, (i.houses, (i.size, i.incarnation))))) (constant 8 mark then number 8 then number 8 then number 8 then number 8) (λ y. refl) (λ x. refl)
    (then_sound (constant 8 mark) (number 8 then number 8 then number 8 then number 8) (constant_sound 8 mark (omega arith)) (then_sound (number 8) (number 8 then number 8 then number 8) (number_sound 8) (then_sound (number 8) (number 8 then number 8) (number_sound 8) span_sound)))

directory_sound : Sound directory
unfolding directory
directory_sound = shaped_sound {B = Directory} (λ p. record { generation = p.0; floor = p.1 }) (λ d. (d.generation, d.floor)) (number 8 then number 8) (λ y. refl) (λ x. refl) span_sound

pub directories : SoundWhole directory
directories = whole_sound directory directory_sound

pub identities : SoundWhole identity
identities = whole_sound identity identity_sound
