-- 02, R-10: the shapes of a length as a list, in the order asked for. Assumes nothing.
use Rattle.std.specs.Prelude.{ℕ, zero, suc, ◌≤◌, ◌≡◌, Bool, true, false, cond, eqb, ltb, length}
use mathlib.Core.List.{List, [], ◌∷◌, ◌++◌, map, Memᴰ}
use Rattle.shapes.specs.Shapes.{is_shape}
use Rattle.shapes.specs.Letters.{Letter, Word, byte_of, D, E, N, T, d, e, n, s, t}

-- 02: from 2
abbrev pub min_shape : ℕ
min_shape = 2

-- 02: to 12
abbrev pub max_shape : ℕ
max_shape = 12

-- ---- The list

-- a letter in front of each word
abbrev pub after : Letter → List Word → List Word
after l ws = map (λ (w : Word). l ∷ w) ws

-- what may follow with k letters more: nothing, behind the request
abbrev pub request_made : ℕ → List Word
request_made zero = [] ∷ []
request_made (suc k) = []

-- in ExpectFinalEventDataTrb
abbrev pub final_event_data : ℕ → List Word
final_event_data zero = []
final_event_data (suc k) = after E (request_made k) ++ after e (request_made k)

-- in ExpectStatusStageTrb
abbrev pub status_stage : ℕ → List Word
status_stage zero = []
status_stage (suc k) = after T (final_event_data k) ++ after t (request_made k)

-- in MoreData: a Normal or an Event Data TRB, and either again while chained
unfoldable pub more_data : ℕ → List Word
more_data zero = []
more_data (suc k) = after E (more_data k) ++ (after N (more_data k) ++ (after e (status_stage k) ++ after n (status_stage k)))

-- in MaybeDataStageTrb
unfoldable pub data_stage : ℕ → List Word
data_stage zero = []
data_stage (suc k) = after D (more_data k) ++ (after T (final_event_data k) ++ (after d (status_stage k) ++ after t (request_made k)))

-- the shapes of a length
unfoldable pub shapes : ℕ → List Word
shapes zero = []
shapes (suc k) = after s (data_stage k)

-- the shapes up to a length, the shorter first; there is none of length 0 or 1
unfoldable pub shapes_up_to : ℕ → List Word
shapes_up_to zero = []
shapes_up_to (suc k) = shapes_up_to k ++ shapes (suc k)

-- ---- The order

-- by byte value: the first letter that differs decides
abbrev pub before : Word → Word → Bool
before [] [] = false
before [] (k ∷ v) = true
before (l ∷ w) [] = false
before (l ∷ w) (k ∷ v) = cond (eqb (byte_of l) (byte_of k)) (before w v) (ltb (byte_of l) (byte_of k))

-- 02: shorter shapes first, then by byte value
abbrev pub precedes : Word → Word → Bool
precedes w v = cond (eqb (length w) (length v)) (before w v) (ltb (length w) (length v))

-- each of the words comes after w, in the order r
abbrev pub AllAfter : (Word → Word → Bool) → Word → List Word → Type 0
AllAfter r w [] = Unit {0}
AllAfter r w (v ∷ vs) = (r w v ≡ true) × AllAfter r w vs

abbrev pub Increasing : (Word → Word → Bool) → List Word → Type 0
Increasing r [] = Unit {0}
Increasing r (w ∷ ws) = AllAfter r w ws × Increasing r ws

-- no word stands twice
abbrev pub Distinct : List Word → Type 0
Distinct [] = Unit {0}
Distinct (w ∷ ws) = (Memᴰ w ws → ⊥) × Distinct ws

-- 02: each legal shape of length 2 to m appears exactly once, in this order, and nothing else does
pub record Lists (m : ℕ) (ws : List Word) : Type 0 where
  pub sorted : Increasing precedes ws
  pub distinct : Distinct ws
  pub sound : (w : Word) → Memᴰ w ws → (is_shape w ≡ true) × (min_shape ≤ length w) × (length w ≤ m)
  pub complete : (w : Word) → is_shape w ≡ true → length w ≤ m → Memᴰ w ws
