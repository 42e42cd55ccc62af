-- What holds of every world that can be reached.
use Rattle.std.proofs.Common.{◌≡◌, ℕ, suc, ◌%◌, ◌<◌, ◌≤◌, ◌≢◌, ◌⊎◌, ◌∷◌}
use Rattle.agreement.specs.Copies.{voted, Copy, World, rank}
use Rattle.agreement.proofs.Base.{Snap, Prop, Chosen}

-- copy f is past ballot b, or past place s
pub record Beyond {K : Type 0} (w : World K) (f b s : ℕ) : Type 0 where
  pub at : Copy K
  pub snap : Snap w f at
  pub over : (b < at.promised) ⊎ (s < at.version)

-- another copy than b's owner has promised b
pub record Second {K : Type 0} (w : World K) (b : ℕ) : Type 0 where
  pub who : ℕ
  pub at : Copy K
  pub snap : Snap w who at
  pub other : who ≢ b % 3
  pub over : b ≤ at.promised

-- another copy than b's owner has applied place s, and until it did it had promised nothing above b
pub record Kept {K : Type 0} (w : World K) (b s : ℕ) : Type 0 where
  pub who : ℕ
  pub at : Copy K
  pub snap : Snap w who at
  pub other : who ≢ b % 3
  pub ahead : s < at.version
  pub before : (x : Copy K) → Snap w who x → x.version ≤ s → x.promised ≤ b

-- what x applied before its last command is what a snapshot had
pub record Below {K : Type 0} (w : World K) (x : Copy K) (s : ℕ) : Type 0 where
  pub k : K
  pub who : ℕ
  pub at : Copy K
  pub snap : Snap w who at
  pub place : at.version ≡ s
  pub has : x.history ≡ k ∷ at.history

abbrev pub Cur : {K : Type 0} → World K → Type 0
Cur {K} w = (i : ℕ) → i < 3 → Snap w i (w.copy i)

abbrev pub LowProm : {K : Type 0} → World K → Type 0
LowProm {K} w = (r : ℕ) (x : Copy K) → Snap w r x → x.promised ≤ (w.copy r).promised

abbrev pub LowVer : {K : Type 0} → World K → Type 0
LowVer {K} w = (r : ℕ) (x : Copy K) → Snap w r x → x.version ≤ (w.copy r).version

abbrev pub Own : {K : Type 0} → World K → Type 0
Own {K} w = (r : ℕ) (x : Copy K) (b : ℕ) (k : K) → Snap w r x → x.proposal ≡ voted b k → (b % 3 ≡ r) × (b ≤ x.promised)

abbrev pub Uniq : {K : Type 0} → World K → Type 0
Uniq {K} w = (b s : ℕ) (k k' : K) → Prop w b s k → Prop w b s k' → k ≡ k'

abbrev pub Hold : {K : Type 0} → World K → Type 0
Hold {K} w = (b s : ℕ) (k : K) (r : ℕ) → Prop w b s k → b % 3 ≡ r → (w.copy r).version ≡ s → b < rank (w.copy r).proposal

abbrev pub Held : {K : Type 0} → World K → Type 0
Held {K} w = (r : ℕ) (x : Copy K) (b s : ℕ) (k : K) → Snap w r x → Prop w b s k → b % 3 ≡ r → x.version ≡ s → b < x.promised → b < rank x.proposal

abbrev pub AllBeyond : {K : Type 0} → World K → (b s : ℕ) → Type 0
AllBeyond w b s = (f : ℕ) → f < 3 → f ≢ b % 3 → Beyond w f b s

abbrev pub Past : {K : Type 0} → World K → Type 0
Past {K} w = (b b' s : ℕ) (k k' : K) → Prop w b s k → Prop w b' s k' → b < b' → (k ≡ k') ⊎ AllBeyond w b s

-- before its owner proposed for place s, it had promised no more
abbrev pub Early : {K : Type 0} → World K → Type 0
Early {K} w = (r : ℕ) (x : Copy K) (b s : ℕ) (k : K) → Snap w r x → Prop w b s k → b % 3 ≡ r → x.version < s → x.promised ≤ b

abbrev pub Two : {K : Type 0} → World K → Type 0
Two {K} w = (b s : ℕ) (k : K) → Prop w b s k → Second w b

abbrev pub Made : {K : Type 0} → World K → Type 0
Made {K} w = (b s : ℕ) (k : K) → Chosen w b s k → Prop w b s k

abbrev pub Firm : {K : Type 0} → World K → Type 0
Firm {K} w = (b b' s : ℕ) (k k' : K) → Chosen w b s k → Prop w b' s k' → b ≤ b' → k ≡ k'

abbrev pub Keeps : {K : Type 0} → World K → Type 0
Keeps {K} w = (b s : ℕ) (k : K) → Chosen w b s k → Kept w b s

abbrev pub Same : {K : Type 0} → World K → Type 0
Same {K} w = (r r' : ℕ) (x y : Copy K) → Snap w r x → Snap w r' y → x.version ≡ y.version → x.history ≡ y.history

abbrev pub Tail : {K : Type 0} → World K → Type 0
Tail {K} w = (r : ℕ) (x : Copy K) (s : ℕ) → Snap w r x → x.version ≡ suc s → Below w x s

pub record Inv {K : Type 0} (w : World K) : Type 0 where
  pub cur : Cur w
  pub low_prom : LowProm w
  pub low_ver : LowVer w
  pub own : Own w
  pub uniq : Uniq w
  pub hold : Hold w
  pub held : Held w
  pub early : Early w
  pub past : Past w
  pub two : Two w
  pub made : Made w
  pub firm : Firm w
  pub keeps : Keeps w
  pub same : Same w
  pub tail : Tail w
