-- The order of time of a capture's records. Assumes nothing.
use Rattle.std.specs.Prelude.{ℕ, Bool, true, not, ◌&&◌, ◌||◌, List, [], ◌∷◌, ltb, eqb}
use Rattle.buffers.specs.LittleEndian.{le_field}
use Rattle.capture_file.specs.declared.CaptureTime.{CaptureTime}
use Rattle.capture_file.specs.Records.{CaptureRecord}

-- the time of the record that l starts with
abbrev pub time_at : List ℕ → CaptureTime
time_at l = record { seconds = le_field 0 4 l; microseconds = le_field 4 4 l }

-- 02, R-13: is the time (s, m) before the time (t, n)? Seconds, then microseconds
unfoldable pub before : ℕ → ℕ → ℕ → ℕ → Bool
before s m t n = ltb s t || (eqb s t && ltb m n)

unfoldable pub earlier : CaptureRecord → CaptureRecord → Bool
earlier y x = before y.seconds y.microseconds x.seconds x.microseconds

-- 02, R-13: do the times not go backwards, the first not being before (s, m)? 20 where it is false
abbrev pub ordered_from : ℕ → ℕ → List CaptureRecord → Bool
ordered_from s m [] = true
ordered_from s m (x ∷ xs) = not (before x.seconds x.microseconds s m) && ordered_from x.seconds x.microseconds xs
