-- 02, R-13: what a merged file is to be. Assumes nothing.
use Rattle.std.specs.Prelude.{ℕ, ◌+◌, Bool, true, false, cond, ◌≡◌, List, [], ◌∷◌, take}
use Rattle.buffers.specs.LittleEndian.{le_field}
use Rattle.capture_file.specs.Records.{CaptureRecord}
use Rattle.capture_file.specs.Files.{file_in, whole_file}
use Rattle.capture_file.specs.Times.{earlier}
use Rattle.capture_merge.specs.Merging.{no_growth, larger}

-- 02, R-13: zs is the xs and the ys, each once, each list's own order kept
pub data Woven : List CaptureRecord → List CaptureRecord → List CaptureRecord → Type 0 where
  none : Woven [] [] []
  left : {x : CaptureRecord} {xs ys zs : List CaptureRecord} → Woven xs ys zs → Woven (x ∷ xs) ys (x ∷ zs)
  right : {y : CaptureRecord} {xs ys zs : List CaptureRecord} → Woven xs ys zs → Woven xs (y ∷ ys) (y ∷ zs)

-- how many records have a property
abbrev pub count : (CaptureRecord → Bool) → List CaptureRecord → ℕ
count p [] = 0
count p (x ∷ xs) = cond (p x) 1 0 + count p xs

-- x does not come after the first of the records
abbrev pub NotAfter : CaptureRecord → List CaptureRecord → Type 0
NotAfter x [] = Unit {0}
NotAfter x (y ∷ ys) = earlier y x ≡ false

-- 02, R-13: ordered by seconds, then microseconds
abbrev pub Ordered : List CaptureRecord → Type 0
Ordered [] = Unit {0}
Ordered (x ∷ xs) = NotAfter x xs × Ordered xs

-- y is earlier than each of the records
abbrev pub Earlier : CaptureRecord → List CaptureRecord → Type 0
Earlier y [] = Unit {0}
Earlier y (x ∷ xs) = (earlier y x ≡ true) × Earlier y xs

-- 02, R-13: at equal times the first file's records come first: where a y is taken, every x that is still to come is later than it
pub data FirstFirst : List CaptureRecord → List CaptureRecord → List CaptureRecord → Type 0 where
  done : FirstFirst [] [] []
  first : {x : CaptureRecord} {xs ys zs : List CaptureRecord} → FirstFirst xs ys zs → FirstFirst (x ∷ xs) ys (x ∷ zs)
  second : {y : CaptureRecord} {xs ys zs : List CaptureRecord} → Earlier y xs → FirstFirst xs ys zs → FirstFirst xs (y ∷ ys) (y ∷ zs)

-- of the bytes of two files and of the merged one: it is a whole file again; its header is the first's but for the snap length; its records, read, are those of
-- both, each once with its bytes, ordered by time, and at equal times the first file's come first
pub record OneOfTwo (a b m : List ℕ) : Type 0 where
  pub whole : whole_file no_growth m ≡ true
  pub front : take 16 m ≡ take 16 a
  pub snap : le_field 16 4 m ≡ larger (le_field 16 4 a) (le_field 16 4 b)
  pub link : le_field 20 4 m ≡ le_field 20 4 a
  pub woven : Woven (file_in a).records (file_in b).records (file_in m).records
  pub ordered : Ordered (file_in m).records
  pub first_first : FirstFirst (file_in a).records (file_in b).records (file_in m).records
