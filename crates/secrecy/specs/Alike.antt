-- 02, R-8: in what two calls may differ, and what they give alike. Assumes nothing.
use Rattle.std.specs.Prelude.{ℕ, ◌≡◌, List, length}
use Rattle.guest_memory.specs.Places.{Memory, regions_of}

-- two guest memories with the same windows, whatever bytes stand in them
abbrev pub SameWindows : Memory → Memory → Type 0
SameWindows m m' = regions_of m ≡ regions_of m'

-- as many bytes of device data, or of a collect buffer, whatever bytes they are
abbrev pub SameLength : List ℕ → List ℕ → Type 0
SameLength xs ys = length xs ≡ length ys

-- what was returned (answer, number of records, block) and every byte of the log are equal
pub record SameGiven {R : Type 0} (r r' : R) (l l' : List ℕ) : Type 0 where
  pub returned : r ≡ r'
  pub log : l ≡ l'
