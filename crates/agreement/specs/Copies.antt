-- Three copies of a list of commands, what each does, and that they never disagree.
-- Assumes nothing.
use Rattle.std.specs.Prelude.{ℕ, suc, cond, List, [], ◌∷◌, ◌==◌, nat_lt}

-- what a copy has voted for at its next place
pub data Proposal (K : Type 0) : Type 0 where
  nothing : Proposal K
  voted : ℕ → K → Proposal K

-- promised: the highest ballot that it has seen; version: how many commands it has applied; last: the ballot of the last one; history: them, the newest first
pub record Copy (K : Type 0) : Type 0 where
  pub promised : ℕ
  pub version : ℕ
  pub last : ℕ
  pub proposal : Proposal K
  pub history : List K

pub record Msg (K : Type 0) : Type 0 where
  pub from : ℕ
  pub what : Copy K

pub record World (K : Type 0) : Type 0 where
  pub copy : ℕ → Copy K
  pub sent : List (Msg K)

abbrev pub fresh : {K : Type 0} → Copy K
fresh = record { promised = 0; version = 0; last = 0; proposal = nothing; history = [] }

abbrev pub start : {K : Type 0} → World K
start = record { copy = λ i. fresh; sent = [] }

-- a copy's new state, which it sends to all
abbrev pub put : {K : Type 0} → World K → ℕ → Copy K → World K
put w i c = record { copy = λ j. cond (j == i) c (w.copy j); sent = record { from = i; what = c } ∷ w.sent }

-- 0 for nothing, so that a vote under any ballot ranks higher
abbrev pub rank : {K : Type 0} → Proposal K → ℕ
rank nothing = 0
rank (voted b k) = suc b

abbrev pub higher : {K : Type 0} → Proposal K → Proposal K → Proposal K
higher u v = cond (nat_lt (rank u) (rank v)) v u

abbrev pub raised : {K : Type 0} → ℕ → Copy K → Copy K
raised p a = record { promised = p; version = a.version; last = a.last; proposal = a.proposal; history = a.history }

abbrev pub proposed : {K : Type 0} → ℕ → K → Copy K → Copy K
proposed p k a = record { promised = p; version = a.version; last = a.last; proposal = voted p k; history = a.history }

-- command k, decided under ballot b
abbrev pub applied : {K : Type 0} → ℕ → ℕ → K → Copy K → Copy K
applied p b k a = record { promised = p; version = suc a.version; last = b; proposal = nothing; history = k ∷ a.history }

abbrev pub adopted : {K : Type 0} → ℕ → Copy K → Copy K
adopted p x = record { promised = p; version = x.version; last = x.last; proposal = nothing; history = x.history }
