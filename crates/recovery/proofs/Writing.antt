-- Sectors written one after the other: what the device shows then, and what it may hold where the writing is cut.
use Rattle.std.proofs.Common.{◌≡◌, ℕ, Bool, true, false, cond, eqb, ◌⊎◌, List, [], ◌∷◌, sym, refl, ap, ◌∙◌, subst, inl, inr, eqb-true}
use mathlib.Core.List.Memᴰ
use mathlib.Core.List.{Memᴰ}
use Rattle.std.proofs.lemmas.Bool.{or_parts}
use Rattle.disks.specs.Device.{Device, run, Upto, here, writes, shown, latest, written}
use Rattle.journal.specs.Programs.{named, write_all_io}
use Rattle.recovery.specs.Machines.{last}
use Rattle.journal.specs.declared.state.Write.{Write}

-- a sector as two devices have it
pub record Alike (d e : Device) (s : ℕ) : Type 0 where
  pub kept : e.kept s ≡ d.kept s
  pub since : e.since s ≡ d.since s

pub alike : (d : Device) (s : ℕ) → Alike d d s
alike d s = record { kept = refl; since = refl }

pub alike_then : {d e f : Device} {s : ℕ} → Alike d e s → Alike e f s → Alike d f s
alike_then a b = record { kept = b.kept ∙ a.kept; since = b.since ∙ a.since }

pub alike_shown : {d e : Device} {s : ℕ} → Alike d e s → shown e s ≡ shown d s
alike_shown {d} {e} {s} a = ap (λ (z : List ℕ). latest z (e.since s)) a.kept ∙ ap (λ (z : List (List ℕ)). latest (d.kept s) z) a.since

-- one write leaves other sectors as they are
pub written_other : (t : ℕ) (b : List ℕ) (d : Device) (s : ℕ) → eqb s t ≡ false → Alike d (written t b d) s
written_other t b d s e = record { kept = refl; since = rw e }

pub written_shown : (t : ℕ) (b : List ℕ) (d : Device) (s : ℕ) → shown (written t b d) s ≡ cond (eqb s t) b (shown d s)
unfolding latest
written_shown t b d s = go (eqb s t) refl
  where
    go : (c : Bool) → eqb s t ≡ c → latest (d.kept s) (cond c (b ∷ d.since t) (d.since s)) ≡ cond c b (latest (d.kept s) (d.since s))
    go true e = refl
    go false e = refl

-- what was written to a sector
pub data Among (s : ℕ) (x : List ℕ) : List Write → Type 0 where
  this : {w : Write} {ws : List Write} → s ≡ w.target.0 → x ≡ w.bytes → Among s x (w ∷ ws)
  further : {w : Write} {ws : List Write} → Among s x ws → Among s x (w ∷ ws)

-- a sector while writes go on: what is kept stays, and what is there since was there or is among the writes
pub record Grown (ws : List Write) (d e : Device) (s : ℕ) : Type 0 where
  pub kept : e.kept s ≡ d.kept s
  pub since : (x : List ℕ) → Memᴰ x (e.since s) → Memᴰ x (d.since s) ⊎ Among s x ws

-- what isn't named is left alone, wherever it is cut
pub upto_other : (ws : List Write) (d e : Device) (s : ℕ) → named s ws ≡ false → Upto (write_all_io ws) d e → Alike d e s
unfolding write_all_io named
upto_other [] d e s n here = alike d s
upto_other (w ∷ ws) d e s n here = alike d s
upto_other (w ∷ ws) d e s n (writes u) = let p = or_parts (eqb s w.target.0) (named s ws) n in alike_then (written_other w.target.0 w.bytes d s p.0) (upto_other ws (written w.target.0 w.bytes d) e s p.1 u)

pub upto_grown : (ws : List Write) (d e : Device) (s : ℕ) → Upto (write_all_io ws) d e → Grown ws d e s
unfolding write_all_io
upto_grown [] d e s here = record { kept = refl; since = λ x m. inl m }
upto_grown (w ∷ ws) d e s here = record { kept = refl; since = λ x m. inl m }
upto_grown (w ∷ ws) d e s (writes u) =
    let g = upto_grown ws (written w.target.0 w.bytes d) e s u in
    record { kept = g.kept; since = λ x m. elim (g.since x m) [ inl k ↦ one x (eqb s w.target.0) refl k | inr a ↦ inr (further a) ] }
  where
    one : (x : List ℕ) (b : Bool) → eqb s w.target.0 ≡ b → Memᴰ x (cond b (w.bytes ∷ d.since w.target.0) (d.since s)) → Memᴰ x (d.since s) ⊎ Among s x (w ∷ ws)
    one x false q k = inl k
    one x true q k = elim (Memᴰ.cases_cons k) [ inl h ↦ inr (this (eqb-true s w.target.0 q) h) | inr h ↦ inl (subst (λ (t : ℕ). Memᴰ x (d.since t)) (sym (eqb-true s w.target.0 q)) h) ]

-- and done to the end
pub all_upto : (ws : List Write) (d : Device) → Upto (write_all_io ws) d (run (write_all_io ws) d).device
unfolding write_all_io run
all_upto [] d = here
all_upto (w ∷ ws) d = writes (all_upto ws (written w.target.0 w.bytes d))

pub all_shown : (ws : List Write) (d : Device) (s : ℕ) → shown (run (write_all_io ws) d).device s ≡ last ws (shown d s) s
unfolding write_all_io run last
all_shown [] d s = refl
all_shown (w ∷ ws) d s = all_shown ws (written w.target.0 w.bytes d) s ∙ ap (λ (z : List ℕ). last ws z s) (written_shown w.target.0 w.bytes d s)
