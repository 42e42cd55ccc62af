-- The meaning of the service: volumes, each a device as the houses' own are, pictures of them, and every call, as if in one place.
-- Assumes nothing.
use Rattle.std.specs.Prelude.{Bool, true, false, cond, ◌&&◌, ◌||◌, not, ℕ, zero, suc, ◌+◌, ◌<◌, eqb, ltb, leb, T, length}
use mathlib.Core.List.{List, [], ◌∷◌, ◌++◌}
use Rattle.disks.specs.Device.{Device, zeros, shown, written, synced, AfterCut, all_bytes}

-- A volume has a number, given once, a size in sectors, a token, under which alone it may be used, and a device. Token 0 is nobody's.
pub record Volume : Type 0 where
  pub num : ℕ
  pub size : ℕ
  pub token : ℕ
  pub disk : Device

-- A picture is what a volume read as at one moment.
pub record Picture : Type 0 where
  pub num : ℕ
  pub size : ℕ
  pub sector : ℕ → List ℕ

-- next: the number that is given next, to a volume or a picture
pub record State : Type 0 where
  pub next : ℕ
  pub volumes : List Volume
  pub pictures : List Picture

abbrev pub blank : State
blank = record { next = 1; volumes = []; pictures = [] }

unfoldable pub some : {A : Type 0} → (A → Bool) → List A → Bool
some f [] = false
some f (x ∷ xs) = f x || some f xs

unfoldable pub keep : {A : Type 0} → (A → Bool) → List A → List A
keep f [] = []
keep f (x ∷ xs) = cond (f x) (x ∷ keep f xs) (keep f xs)

unfoldable pub find : {A : Type 0} → (A → Bool) → List A → List A
find f [] = []
find f (x ∷ xs) = cond (f x) (x ∷ []) (find f xs)

unfoldable pub change : {A : Type 0} → (A → Bool) → (A → A) → List A → List A
change f g [] = []
change f g (x ∷ xs) = cond (f x) (g x ∷ xs) (x ∷ change f g xs)

pub data Call : Type 0 where
  Make : (size : ℕ) → Call
  -- whoever attaches a volume has it from then on, and nobody else
  Attach : (volume : ℕ) → Call
  Read : (volume token sector : ℕ) → Call
  Write : (volume token sector : ℕ) → List ℕ → Call
  Sync : (volume token : ℕ) → Call
  -- a picture of a volume as it is; a new volume from a picture
  Picture' : (volume token : ℕ) → Call
  Copy : (picture : ℕ) → Call
  Drop : (volume token : ℕ) → Call
  DropPicture : (picture : ℕ) → Call

pub data Reply : Type 0 where
  No : ℕ → Reply
  Yes : Reply
  Num : ℕ → Reply
  Token : (token size : ℕ) → Reply
  Sector : List ℕ → Reply
  Full : Reply

pub record Out : Type 0 where
  pub reply : Reply
  pub state : State

abbrev pub no : ℕ → State → Out
no k s = record { reply = No k; state = s }

abbrev pub is_volume : ℕ → Volume → Bool
is_volume n v = eqb n v.num

abbrev pub is_picture : ℕ → Picture → Bool
is_picture n p = eqb n p.num

abbrev pub with_volumes : List Volume → State → State
with_volumes vs s = record { next = s.next; volumes = vs; pictures = s.pictures }

abbrev pub with_disk : Device → Volume → Volume
with_disk d v = record { num = v.num; size = v.size; token = v.token; disk = d }

abbrev pub in_volume : ℕ → (Volume → Volume) → State → State
in_volume n f s = with_volumes (change (is_volume n) f s.volumes) s

abbrev pub device_of : (ℕ → List ℕ) → Device
device_of f = record { kept = f; since = λ s. [] }

abbrev pub makes : (size : ℕ) → (ℕ → List ℕ) → State → Out
makes z f s =
    cond (leb 4096 (length s.volumes) || leb 4611686018427387904 s.next) (no 8 s)
    (record { reply = Num s.next; state = record { next = s.next + 1; volumes = s.volumes ++ (record { num = s.next; size = z; token = 0; disk = device_of f } ∷ []); pictures = s.pictures } })

unfoldable pub attaches : List Volume → State → Out
attaches [] s = no 2 s
attaches (v ∷ vs) s =
    cond (leb 4611686018427387903 v.token) (no 8 s)
    (record { reply = Token (v.token + 1) v.size; state = in_volume v.num (λ (x : Volume). record { num = x.num; size = x.size; token = x.token + 1; disk = x.disk }) s })

-- under its token only, the last one given
unfoldable pub holding : (token : ℕ) → List Volume → (Volume → Out) → State → Out
holding t [] f s = no 2 s
holding t (v ∷ vs) f s = cond (eqb t 0 || not (eqb t v.token)) (no 4 s) (f v)

abbrev pub inside : ℕ → Volume → State → Out → Out
inside n v s o = cond (ltb n v.size) o (no 1 s)

abbrev pub takes_picture : Volume → State → Out
takes_picture v s =
    cond (leb 4096 (length s.pictures) || leb 4611686018427387904 s.next) (no 8 s)
    (record { reply = Num s.next; state = record { next = s.next + 1; volumes = s.volumes; pictures = s.pictures ++ (record { num = s.next; size = v.size; sector = shown v.disk } ∷ []) } })

unfoldable pub copies : List Picture → State → Out
copies [] s = no 2 s
copies (p ∷ ps) s = makes p.size p.sector s

unfoldable pub drops_picture : List Picture → State → Out
drops_picture [] s = no 2 s
drops_picture (p ∷ ps) s = record { reply = Yes; state = record { next = s.next; volumes = s.volumes; pictures = keep (λ (x : Picture). not (is_picture p.num x)) s.pictures } }

-- What each call answers and leaves. Where several refusals apply, the first that is tested here counts.
-- 1: a size of 0 or above 2^40, a sector beyond the size, not 512 bytes; 2: no such volume or picture; 4: not the present token, or 0;
-- 8: 4,096 of them, or numbers or tokens used up below 2^62.
unfoldable pub does : Call → State → Out
does (Make z) s = cond (eqb z 0 || ltb 1099511627776 z) (no 1 s) (makes z (λ n. zeros 512) s)
does (Attach v) s = attaches (find (is_volume v) s.volumes) s
does (Read v t n) s = holding t (find (is_volume v) s.volumes) (λ (x : Volume). inside n x s (record { reply = Sector (shown x.disk n); state = s })) s
does (Write v t n b) s =
    cond (not (eqb (length b) 512 && all_bytes b)) (no 1 s)
    (holding t (find (is_volume v) s.volumes) (λ (x : Volume). inside n x s (record { reply = Yes; state = in_volume v (with_disk (written n b x.disk)) s })) s)
does (Sync v t) s = holding t (find (is_volume v) s.volumes) (λ (x : Volume). record { reply = Yes; state = in_volume v (with_disk (synced x.disk)) s }) s
does (Picture' v t) s = holding t (find (is_volume v) s.volumes) (λ (x : Volume). takes_picture x s) s
does (Copy p) s = copies (find (is_picture p) s.pictures) s
does (Drop v t) s = holding t (find (is_volume v) s.volumes) (λ (x : Volume). record { reply = Yes; state = with_volumes (keep (λ (y : Volume). not (is_volume v y)) s.volumes) s }) s
does (DropPicture p) s = drops_picture (find (is_picture p) s.pictures) s

-- How much a state weighs: 64 for each volume and picture, and one for each sector that holds anything but zeros.
unfoldable pub one : Bool → ℕ
one true = 1
one false = 0

unfoldable pub all_zero : List ℕ → Bool
all_zero [] = true
all_zero (b ∷ bs) = eqb b 0 && all_zero bs

unfoldable pub used : ℕ → (ℕ → List ℕ) → ℕ
used zero f = 0
used (suc n) f = one (not (all_zero (f n))) + used n f

unfoldable pub volumes_used : List Volume → ℕ
volumes_used [] = 0
volumes_used (v ∷ vs) = 64 + used v.size (shown v.disk) + volumes_used vs

unfoldable pub pictures_used : List Picture → ℕ
pictures_used [] = 0
pictures_used (p ∷ ps) = 64 + used p.size p.sector + pictures_used ps

abbrev pub weight : State → ℕ
weight s = volumes_used s.volumes + pictures_used s.pictures

-- What a call may answer where can says which are built: what does says; 12 if it isn't built; and full, which changes nothing, only if
-- all would weigh more than before and more than the room.
pub data Answers (can : Call → Bool) (room : ℕ) : Call → State → Reply → State → Type 0 where
  says_so : (c : Call) (s : State) → T (can c) → Answers can room c s (does c s).reply (does c s).state
  not_yet : (c : Call) (s : State) → (T (can c) → ⊥) → Answers can room c s (No 12) s
  full : (c : Call) (s : State) → T (can c) → weight s < weight (does c s).state → room < weight (does c s).state → Answers can room c s Full s

-- When a house falls volumes may be cut, as a device is. The token of each goes up by one, which nobody has, so whoever had it is told 4
-- and attaches it anew: while somebody has a volume nothing that was written to it goes back.
abbrev pub cut_to : Device → Volume → Volume
cut_to d v = record { num = v.num; size = v.size; token = v.token + 1; disk = d }

pub data CutVolumes : List Volume → List Volume → Type 0 where
  no_more : CutVolumes [] []
  left : {vs ws : List Volume} (v : Volume) → CutVolumes vs ws → CutVolumes (v ∷ vs) (v ∷ ws)
  is_cut : {vs ws : List Volume} (v : Volume) (d : Device) → AfterCut v.disk d → CutVolumes vs ws → CutVolumes (v ∷ vs) (cut_to d v ∷ ws)

pub data Cut : State → State → Type 0 where
  cut : (s : State) (ws : List Volume) → CutVolumes s.volumes ws → Cut s (with_volumes ws s)

-- the calls that are built first: to make, attach, use and drop volumes
unfoldable pub core : Call → Bool
core (Make z) = true
core (Attach v) = true
core (Read v t n) = true
core (Write v t n b) = true
core (Sync v t) = true
core (Picture' v t) = false
core (Copy p) = false
core (Drop v t) = true
core (DropPicture p) = false
