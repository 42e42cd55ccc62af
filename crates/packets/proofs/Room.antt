-- How long what is stored can be, by its parts, and that each area has room for it.
use Rattle.std.proofs.Common.{◌≡◌, inl, inr, ℕ, suc, ◌+◌, ◌*◌, ◌≤◌, T, leb, ltb, List, [], ◌∷◌, length, refl, arith, length-append, mul-le-mul_right}
use Rattle.std.specs.List.{flat_map, list_all}
use Rattle.std.proofs.lemmas.Bool.Decides.{nat_tests}
use Rattle.octets.specs.Numbers.{bytes_of}
use Rattle.octets.proofs.Numbers.{length-bytes_of, both}
use Rattle.packets.specs.Codecs.{Codec, number, ◌then◌, constant, listed, only, or_kind, of_kinds, empty}
use Rattle.packets.specs.Formats.{framed, item, reply, bundle, session, proposal, recovery, agreeing, head, rest, mark, identity, directory, proposed, span_of}
use Rattle.packets.specs.Areas.{AreasApart, AreasHold, FindsRoom, area}
use Rattle.packets.proofs.OnSectors.{sectors_sound}

pub areas_apart : AreasApart
areas_apart = record { identity_after = refl; agreeing_after = refl; sessions_after = refl; session_after = λ h. omega arith; rest_after = refl; kept_after = refl; within = omega arith }

-- what has bytes has no more than so many
abbrev Within : {A : Type 0} → Codec A → ℕ → Type 0
Within {A = A} c n = (x : A) → T (c.fits x) → length (c.bytes x) ≤ n

number_within : (w : ℕ) → Within (number w) w
number_within w n h = omega (arith, length-bytes_of w n)

constant_within : (w k : ℕ) → Within (constant w k) w
constant_within w k u h = omega (arith, length-bytes_of w k)

then_within : {A B : Type 0} (c : Codec A) (d : Codec B) (m n : ℕ) → Within c m → Within d n → Within (c then d) (m + n)
then_within c d m n f g p h = let k = both (c.fits p.0) (d.fits p.1) h in rw length-append (omega (arith, f p.0 k.0, g p.1 k.1))

at_most : (n m : ℕ) → T (leb n m) → n ≤ m
at_most n m h = grind (arith, nat_tests)

framed_within : (most : ℕ) → Within (framed most) (12 + most)
framed_within most p h =
    let k = both (ltb p.0 18446744073709551616) (leb (length p.1) most) h in
    let inner = length-append (bytes_of 8 p.0) p.1 in
    rw length-append (omega (arith, inner, length-bytes_of 4 (8 + length p.1), length-bytes_of 8 p.0, at_most (length p.1) most k.1))

all_within : {A : Type 0} (c : Codec A) (n : ℕ) → Within c n → (xs : List A) → T (list_all c.fits xs) → length (flat_map c.bytes xs) ≤ length xs * n
all_within c n f [] h = omega arith
all_within c n f (x ∷ xs) h =
    let k = both (c.fits x) (list_all c.fits xs) h in
    let more : suc (length xs) * n ≡ n + length xs * n = omega arith in
    rw (length-append, more) (omega (arith, f x k.0, all_within c n f xs k.1))

listed_within : {A : Type 0} (w most : ℕ) (c : Codec A) (n : ℕ) → Within c n → Within (listed w most c) (w + most * n)
listed_within w most c n f xs h =
    let k = both (leb (length xs) most) (list_all c.fits xs) h in
    let few : length xs * n ≤ most * n = mul-le-mul_right n (at_most (length xs) most k.0) in
    rw length-append (omega (arith, length-bytes_of w (length xs), all_within c n f xs k.1, few))

-- with the byte of its kind
kinds_within : {A B : Type 0} (j k : ℕ) (c : Codec A) (d : Codec B) (m n : ℕ) → m ≤ n → Within c m → Within d n → Within (of_kinds (or_kind j c (only k d))) (1 + n)
kinds_within j k c d m n le f g (inl x) h = rw length-append (omega (arith, length-bytes_of 1 j, f x h))
kinds_within j k c d m n le f g (inr y) h = rw length-append (omega (arith, length-bytes_of 1 k, g y h))

empty_within : Within empty 0
empty_within u h = omega arith

item_within : Within item 549
unfolding item
item_within i h = framed_within 537 (i.id, i.call) h

reply_within : Within reply 525
unfolding reply
reply_within r h = framed_within 513 (r.id, r.reply) h

three : {A : Type 0} (d : Codec A) (n : ℕ) → Within d n → Within (number 8 then number 8 then number 8 then d) (8 + (8 + (8 + n)))
three d n f = then_within (number 8) (number 8 then number 8 then d) 8 (8 + (8 + n)) (number_within 8) (then_within (number 8) (number 8 then d) 8 (8 + n) (number_within 8) (then_within (number 8) d 8 n (number_within 8) f))

two : {A : Type 0} (d : Codec A) (n : ℕ) → Within d n → Within (number 8 then number 8 then d) (8 + (8 + n))
two d n f = then_within (number 8) (number 8 then d) 8 (8 + n) (number_within 8) (then_within (number 8) d 8 n (number_within 8) f)

bundle_within : Within bundle 4417
unfolding bundle
bundle_within b h = three (listed 1 8 item) (1 + 8 * 549) (listed_within 1 8 item 549 item_within) (b.house, (b.incarnation, (b.counter, b.calls))) h

session_within : Within session 4217
unfolding session
session_within s h = two (listed 1 8 reply) (1 + 8 * 525) (listed_within 1 8 reply 525 reply_within) (s.incarnation, (s.counter, s.replies)) h

proposal_within : Within proposal 216443
unfolding proposal
proposal_within p h =
    kinds_within 0 1 empty (number 8 then listed 1 49 bundle) 0 216442 (omega arith) empty_within (then_within (number 8) (listed 1 49 bundle) 8 (1 + 49 * 4417) (number_within 8) (listed_within 1 49 bundle 4417 bundle_within)) (proposed p) h

recovery_within : Within recovery 17
unfolding recovery
recovery_within r h = kinds_within 0 1 empty (number 8 then number 8) 0 16 (omega arith) empty_within (then_within (number 8) (number 8) 8 8 (number_within 8) (number_within 8)) (span_of r) h

agreeing_within : Within agreeing 216484
unfolding agreeing
agreeing_within a h = three (recovery then proposal) (17 + 216443) (then_within recovery proposal 17 216443 recovery_within proposal_within) (a.promised, (a.version, (a.last, (a.recovery, a.proposal)))) h

head_within : Within head 32
unfolding head
head_within x h = three (number 8) 8 (number_within 8) (x.number.0, (x.size.0, (x.token.0, x.used))) h

rest_within : Within rest 131090
unfolding rest
rest_within r h = two (listed 2 4096 head) (2 + 4096 * 32) (listed_within 2 4096 head 32 head_within) (r.next, (r.weight, r.heads)) h

identity_within : Within identity 40
unfolding identity
identity_within i h =
    then_within (constant 8 mark) (number 8 then number 8 then number 8 then number 8) 8 32 (constant_within 8 mark) (three (number 8) 8 (number_within 8)) (tt, (i.house, (i.houses, (i.size, i.incarnation)))) h

directory_within : Within directory 16
unfolding directory
directory_within d h = then_within (number 8) (number 8) 8 8 (number_within 8) (number_within 8) (d.generation, d.floor) h

room : {A : Type 0} (c : Codec A) (n first count : ℕ) → n + 8 ≤ 512 * count → Within c n → FindsRoom c (area first count)
room c n first count le f x h = rw (sectors_sound.count (c.bytes x)) (omega (arith, f x h))

pub areas_hold : AreasHold
areas_hold = record {
  identities = room identity 40 6400 1 (omega arith) identity_within;
  agreeings = room agreeing 216484 6401 430 (omega arith) agreeing_within;
  sessions = λ h. room session 4217 (6831 + 10 * h) 10 (omega arith) session_within;
  rests = room rest 131090 7321 257 (omega arith) rest_within;
  directories = room directory 16 7578 1 (omega arith) directory_within;
}
