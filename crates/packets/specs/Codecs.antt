-- How values are spelled as bytes and read again, by parts: numbers, texts, one after the other, lists, kinds.
-- Assumes nothing.
use Rattle.std.specs.Prelude.{◌≡◌, ◌≢◌, ◌⊎◌, ℕ, zero, suc, ◌+◌, ◌-◌, ◌<◌, ◌^◌, Bool, true, false, cond, ◌&&◌, ◌||◌, T, List, [], ◌∷◌, ◌++◌, length, take, drop, Result, Ok, Err, nat_lt, nat_le, vec_items, ◌==◌}
use Rattle.std.proofs.Common.{inl, inr}
use Rattle.std.specs.List.{flat_map, list_all}
use Rattle.std.specs.Global.{Vec}
use Rattle.disks.specs.Device.{all_bytes}
use Rattle.octets.specs.Numbers.{big, bytes_of}
use Rattle.packets.specs.declared.fault.Fault.{Fault}
use Rattle.packets.specs.declared.fault.Fault.TheVariants.{Short, Left, Range}
use Rattle.packets.specs.declared.fault.Unread.{Unread}
use Rattle.packets.specs.declared.fault.Unread.TheVariants as unread
use Rattle.packets.specs.declared.fault.Unsent.{Unsent}
use Rattle.packets.specs.declared.fault.Unsent.TheVariants as unsent

infixl 10 ◌>>=◌
abbrev pub ◌>>=◌ : {A B : Type 0} → Result A Fault → (A → Result B Fault) → Result B Fault
(Ok x) >>= f = f x
(Err e) >>= f = Err e

-- The bytes of a value; the value that bytes begin with, and what follows it, or the first fault; and which values have bytes.
pub record Codec (A : Type 0) : Type 0 where
  pub bytes : A → List ℕ
  pub read : List ℕ → Result (A × List ℕ) Fault
  pub fits : A → Bool

-- What is read is spelled so, and what is spelled so is read, whatever follows.
pub record Sound {A : Type 0} (c : Codec A) : Type 0 where
  pub back : (x : A) (rest : List ℕ) → T (c.fits x) → c.read (c.bytes x ++ rest) ≡ Ok (x, rest)
  pub spelling : (bs : List ℕ) (x : A) (rest : List ℕ) → T (all_bytes bs) → c.read bs ≡ Ok (x, rest) → (c.bytes x ++ rest ≡ bs) × T (c.fits x)

-- a number in so many bytes
abbrev pub number_at : ℕ → List ℕ → Result (ℕ × List ℕ) Fault
number_at w bs = cond (nat_lt (length bs) w) (Err Short) (Ok (big (take w bs), drop w bs))

abbrev pub number : ℕ → Codec ℕ
number w = record { bytes = bytes_of w; read = number_at w; fits = λ n. nat_lt n (256 ^ w) }

-- so many bytes
abbrev pub text_at : ℕ → List ℕ → Result (List ℕ × List ℕ) Fault
text_at n bs = cond (nat_lt (length bs) n) (Err Short) (Ok (take n bs, drop n bs))

-- a number that must be this one
abbrev pub constant : (width : ℕ) → ℕ → Codec (Unit {0})
constant w k = record { bytes = λ u. bytes_of w k; read = λ bs. number_at w bs >>= λ n. cond (n.0 == k) (Ok (tt, n.1)) (Err Range); fits = λ u. true }

-- one behind the other
infixr 20 ◌then◌
abbrev pub ◌then◌ : {A B : Type 0} → Codec A → Codec B → Codec (A × B)
c then d =
    record {
      bytes = λ p. c.bytes p.0 ++ d.bytes p.1;
      read = λ bs. c.read bs >>= λ x. d.read x.1 >>= λ y. Ok ((x.0, y.0), y.1);
      fits = λ p. c.fits p.0 && d.fits p.1;
    }

-- the same bytes for another value
abbrev pub shaped : {A B : Type 0} → (A → B) → (B → A) → Codec A → Codec B
shaped to from c =
    record {
      bytes = λ y. c.bytes (from y);
      read = λ bs. c.read bs >>= λ x. Ok (to x.0, x.1);
      fits = λ y. c.fits (from y);
    }

-- so many values
unfoldable pub many_at : {A : Type 0} → Codec A → ℕ → List ℕ → Result (List A × List ℕ) Fault
many_at c zero bs = Ok ([], bs)
many_at c (suc n) bs = c.read bs >>= λ x. many_at c n x.1 >>= λ xs. Ok (x.0 ∷ xs.0, xs.1)

abbrev pub many : {A : Type 0} → Codec A → ℕ → Codec (List A)
many c n = record { bytes = flat_map c.bytes; read = many_at c n; fits = λ xs. length xs == n && list_all c.fits xs }

-- their count, which has a limit, and the values
abbrev pub listed : {A : Type 0} → (width most : ℕ) → Codec A → Codec (List A)
listed w most c =
    record {
      bytes = λ xs. bytes_of w (length xs) ++ flat_map c.bytes xs;
      read = λ bs. number_at w bs >>= λ n. cond (nat_lt most n.0) (Err Range) (many_at c n.0 n.1);
      fits = λ xs. nat_le (length xs) most && list_all c.fits xs;
    }

-- the length of the rest in 4 bytes, a customer's number, and so many bytes as are left, which have a limit
unfoldable pub frame_at : ℕ → List ℕ → Result ((ℕ × List ℕ) × List ℕ) Fault
frame_at most bs =
    number_at 4 bs >>= λ z. cond (nat_lt z.0 8 || nat_lt (8 + most) z.0) (Err Range) (number_at 8 z.1 >>= λ n. text_at (z.0 - 8) n.1 >>= λ b. Ok ((n.0, b.0), b.1))

-- a count that must be so many, in a byte, and the values
abbrev pub exactly : {A : Type 0} → ℕ → Codec A → Codec (List A)
exactly n c =
    record {
      bytes = λ xs. bytes_of 1 n ++ flat_map c.bytes xs;
      read = λ bs. number_at 1 bs >>= λ m. cond (m.0 == n) (many_at c n m.1) (Err Range);
      fits = λ xs. length xs == n && list_all c.fits xs;
    }

-- no bytes
abbrev pub empty : Codec (Unit {0})
empty = record { bytes = λ u. []; read = λ bs. Ok (tt, bs); fits = λ u. true }

abbrev pub on_either : {A B C : Type 0} → (A → C) → (B → C) → A ⊎ B → C
on_either f g (inl x) = f x
on_either f g (inr y) = g y

-- What is of one of several kinds: the number of its kind, and the bytes behind it.
pub record Kinds (A : Type 0) : Type 0 where
  pub kind : A → ℕ
  pub body : A → List ℕ
  pub read_as : ℕ → List ℕ → Result (A × List ℕ) Fault
  pub fits : A → Bool

pub record SoundKinds {A : Type 0} (d : Kinds A) : Type 0 where
  pub small : (x : A) → d.kind x < 256
  pub back : (x : A) (rest : List ℕ) → T (d.fits x) → d.read_as (d.kind x) (d.body x ++ rest) ≡ Ok (x, rest)
  pub spelling : (n : ℕ) (bs : List ℕ) (x : A) (rest : List ℕ) → T (all_bytes bs) → d.read_as n bs ≡ Ok (x, rest) → (d.kind x ≡ n) × (d.body x ++ rest ≡ bs) × T (d.fits x)

-- one kind, and one kind more
abbrev pub only : {A : Type 0} → ℕ → Codec A → Kinds A
only k c = record { kind = λ x. k; body = c.bytes; read_as = λ n bs. cond (n == k) (c.read bs) (Err Range); fits = c.fits }

abbrev pub or_kind : {A B : Type 0} → ℕ → Codec A → Kinds B → Kinds (A ⊎ B)
or_kind k c d =
    record {
      kind = on_either (λ x. k) d.kind;
      body = on_either c.bytes d.body;
      read_as = λ n bs. cond (n == k) (c.read bs >>= λ x. Ok (inl x.0, x.1)) (d.read_as n bs >>= λ y. Ok (inr y.0, y.1));
      fits = on_either c.fits d.fits;
    }

-- the kind in a byte
abbrev pub of_kinds : {A : Type 0} → Kinds A → Codec A
of_kinds d =
    record {
      bytes = λ x. bytes_of 1 (d.kind x) ++ d.body x;
      read = λ bs. number_at 1 bs >>= λ n. d.read_as n.0 n.1;
      fits = d.fits;
    }

-- all of the bytes
abbrev pub whole : {A : Type 0} → Codec A → List ℕ → Result A Fault
whole c bs = c.read bs >>= λ x. cond (length x.1 == 0) (Ok x.0) (Err Left)

-- What is promised of a codec, where all bytes are read: what was encoded decodes to itself; what decodes is spelled so, and has bytes; and
-- what is refused has no spelling.
abbrev pub RoundTrip : {A : Type 0} → Codec A → Type 0
RoundTrip {A = A} c = (x : A) → T (c.fits x) → whole c (c.bytes x) ≡ Ok x

abbrev pub OneSpelling : {A : Type 0} → Codec A → Type 0
OneSpelling {A = A} c = (bs : List ℕ) (x : A) → T (all_bytes bs) → whole c bs ≡ Ok x → (c.bytes x ≡ bs) × T (c.fits x)

abbrev pub Refuses : {A : Type 0} → Codec A → Type 0
Refuses {A = A} c = (bs : List ℕ) (f : Fault) → whole c bs ≡ Err f → (x : A) → T (c.fits x) → c.bytes x ≢ bs

pub record SoundWhole {A : Type 0} (c : Codec A) : Type 0 where
  pub back : RoundTrip c
  pub spelling : OneSpelling c
  pub refusals : Refuses c

-- what a function returned, seen by a view, is what reading gives, unless memory ran out
abbrev pub Fails : {Y : Type 0} → Unread → Result Y Fault → Type 0
Fails unread.Memory read = Unit {0}
Fails (unread.Fault f) read = read ≡ Err f

abbrev pub Gives : {X Y : Type 0} → (X → Y) → Result X Unread → Result Y Fault → Type 0
Gives view (Ok x) read = read ≡ Ok (view x)
Gives view (Err e) read = Fails e read

-- why a value's bytes were not put somewhere
abbrev pub Unfit : {A : Type 0} → Codec A → A → Unsent → Type 0
Unfit c x unsent.Memory = Unit {0}
Unfit c x unsent.TooMuch = c.fits x ≡ false

-- a value's bytes were put behind what was there, unless memory ran out or it has none
abbrev pub Puts : {A U : Type 0} → Codec A → A → (old new : List ℕ) → Result U Unsent → Type 0
Puts c x old new (Ok u) = (new ≡ old ++ c.bytes x) × T (c.fits x)
Puts c x old new (Err e) = Unfit c x e

-- a value's bytes, unless memory ran out or it has none
abbrev pub Encodes : {A : Type 0} → Codec A → A → Result (Vec ℕ) Unsent → Type 0
Encodes c x (Ok v) = (vec_items v ≡ c.bytes x) × T (c.fits x)
Encodes c x (Err e) = Unfit c x e
