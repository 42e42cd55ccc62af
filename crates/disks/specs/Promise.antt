-- What is promised of the whole, and of its parts. Each is a type; a proof of the type is the theorem.
-- Assumes nothing.
use Rattle.std.specs.Prelude.{◌≡◌, ◌⊎◌, Bool, not, ℕ, zero, suc, ◌*◌, ◌/◌, ◌<◌, T}
use mathlib.Core.List.{List, [], ◌∷◌, Memᴰ}
use Rattle.disks.specs.Device.{Device, shown, written, synced, AfterCut}
use Rattle.disks.specs.Disks.{Volume, Picture, State, blank, find, Call, Attach, Read, Write, Sync, Picture', Drop, Reply, No, Yes, Token, Sector, Out, no, does, Answers, Cut, is_volume, core}
use Rattle.disks.specs.Cluster.{House, Plain, AsOne, Answers as Answering, BusyAtNine, Within}

-- How much there is room for, in sectors. In the core a quarter of one house's device after 2,048 sectors of it, so that every copy may
-- have everything; later a twelfth of what is left of all devices after 2,048 of each.
abbrev pub Room : Type 0
Room = ℕ → ℕ → ℕ

unfoldable pub less : ℕ → ℕ → ℕ
less zero m = m
less (suc k) zero = 0
less (suc k) (suc m) = less k m

abbrev pub core_room : Room
core_room all size = less 2048 size / 4

abbrev pub room_of : Room
room_of all size = (all * less 2048 size) / 12

abbrev pub disks : Room → (Call → Bool) → (all size : ℕ) → Plain Call Reply
disks room can all size = record { State = State; start = blank; Answers = Answers can (room all size); Cut = Cut; busy = No 11 }

-- THE MAIN PROMISE. For 3 to 49 houses, whatever packets are lost, late, doubled or out of order, whichever houses' power fails where: what customers see at all houses together is what volumes in one place would
-- show, each of them a device as the houses' own are, and only under its last token; and calls are answered with any one house out.
-- can says which calls are built: core at first, later all.
abbrev pub Whole : {M : Type 0} → Room → (Call → Bool) → House M Call Reply → Type 0
Whole {M} room can h = AsOne (disks room can) h × Answering h × BusyAtNine (No 11) h × Within h

-- the promise for the calls that are built first
abbrev pub CoreWhole : {M : Type 0} → House M Call Reply → Type 0
CoreWhole {M} h = Whole core_room core h

-- from one state to another by calls and cuts
pub data Run : State → State → Type 0 where
  still : {s : State} → Run s s
  onward : {s t : State} (c : Call) → Run s t → Run s (does c t).state
  was_cut : {s t u : State} → Run s t → Cut t u → Run s u

-- 1. Tokens shut out: once a volume was attached anew, a call under an older token changes nothing, for ever.
abbrev pub OldTokensNothing : Type 0
OldTokensNothing =
    (s t : State) → Run blank s → (v k z n : ℕ) (b : List ℕ) → (does (Attach v) s).reply ≡ Token k z → Run (does (Attach v) s).state t → (o : ℕ) → o < k →
    ((does (Write v o n b) t).state ≡ t) × ((does (Sync v o) t).state ≡ t) × ((does (Drop v o) t).state ≡ t) × ((does (Picture' v o) t).state ≡ t)

-- Stronger: such a call is refused, by 4 or, once the volume is gone, by 2; a write that isn't 512 bytes by 1.
abbrev pub Refused : Out → State → Type 0
Refused o s = (o ≡ no 4 s) ⊎ (o ≡ no 2 s)

abbrev pub OldTokensRefused : Type 0
OldTokensRefused =
    (s t : State) → Run blank s → (v k z n : ℕ) (b : List ℕ) → (does (Attach v) s).reply ≡ Token k z → Run (does (Attach v) s).state t → (o : ℕ) → o < k →
    Refused (does (Read v o n) t) t × (Refused (does (Write v o n b) t) t ⊎ (does (Write v o n b) t ≡ no 1 t)) × Refused (does (Sync v o) t) t × Refused (does (Drop v o) t) t × Refused (does (Picture' v o) t) t

-- 2. Volumes are apart: what is called of one changes no other, nor any picture.
abbrev pub Apart : Type 0
Apart =
    (s : State) (v t n : ℕ) (b : List ℕ) (w : Volume) → Memᴰ w s.volumes → T (not (is_volume v w)) → (Memᴰ w (does (Write v t n b) s).state.volumes × Memᴰ w (does (Sync v t) s).state.volumes) × (((does (Write v t n b) s).state.pictures ≡ s.pictures) × ((does (Sync v t) s).state.pictures ≡ s.pictures))

-- 3. Pictures stand: as long as there is one, it is as it was when it was taken.
abbrev pub PicturesStand : Type 0
PicturesStand =
    (s t : State) → Run blank s → Run s t → (p q : Picture) → Memᴰ p s.pictures → Memᴰ q t.pictures → p.num ≡ q.num → (p.size ≡ q.size) × ((n : ℕ) → p.sector n ≡ q.sector n)

-- 4. A device on a device: whoever has a volume alone has what a house has in its own device. For calls under one token, from an attaching on, with cuts: what is read is what a device would show.
pub data Uses (v t z : ℕ) : State → Device → Type 0 where
  attached : (s : State) (x : Volume) → Run blank s → find (is_volume v) s.volumes ≡ x ∷ [] → (does (Attach v) s).reply ≡ Token t z → Uses v t z (does (Attach v) s).state x.disk
  writes : {s : State} {d : Device} (n : ℕ) (b : List ℕ) → Uses v t z s d → (does (Write v t n b) s).reply ≡ Yes → Uses v t z (does (Write v t n b) s).state (written n b d)
  syncs : {s : State} {d : Device} → Uses v t z s d → (does (Sync v t) s).reply ≡ Yes → Uses v t z (does (Sync v t) s).state (synced d)
  -- a cut that leaves it as it is
  cuts : {s u : State} {d : Device} → Uses v t z s d → Cut s u → find (is_volume v) u.volumes ≡ find (is_volume v) s.volumes → Uses v t z u d
  others : {s : State} {d : Device} (c : Call) → Uses v t z s d → find (is_volume v) (does c s).state.volumes ≡ find (is_volume v) s.volumes → Uses v t z (does c s).state d

abbrev pub IsADevice : Type 0
IsADevice = (v t z n : ℕ) (s : State) (d : Device) (b : List ℕ) → Uses v t z s d → (does (Read v t n) s).reply ≡ Sector b → b ≡ shown d n

-- Stronger than Apart: no call of one volume changes what is found under another's number.
abbrev pub ApartAll : Type 0
ApartAll =
    (s : State) (v u t n : ℕ) (b : List ℕ) → (u ≡ v → ⊥) →
    (find (is_volume u) (does (Attach v) s).state.volumes ≡ find (is_volume u) s.volumes) × (find (is_volume u) (does (Write v t n b) s).state.volumes ≡ find (is_volume u) s.volumes) ×
    (find (is_volume u) (does (Sync v t) s).state.volumes ≡ find (is_volume u) s.volumes) × (find (is_volume u) (does (Drop v t) s).state.volumes ≡ find (is_volume u) s.volumes) ×
    (find (is_volume u) (does (Picture' v t) s).state.volumes ≡ find (is_volume u) s.volumes)

-- And what a cut leaves of a volume is what a cut leaves of a device.
abbrev pub CutAsADevice : Type 0
CutAsADevice = (v t z : ℕ) (s u : State) (d : Device) (x : Volume) → Uses v t z s d → Cut s u → find (is_volume v) u.volumes ≡ x ∷ [] → (x.disk ≡ d) ⊎ AfterCut d x.disk
