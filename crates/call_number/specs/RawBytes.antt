-- 02, R-6: the raw TRB of a call script. Assumes nothing.
use Rattle.std.specs.Prelude.{ℕ, cond, List, ◌++◌, eqb, length, take, drop, Option, Some, None}
use Rattle.numerals.specs.Digits.{digits}
use Rattle.numerals.specs.Widths.{hex_places}
use Rattle.call_number.specs.Numbers.{digits_from}

-- two digits to each of sixteen bytes
abbrev pub raw_places : ℕ
raw_places = 32

-- the bytes of two numbers of eight bytes each, the highest place first
abbrev pub joined : Option ℕ → Option ℕ → Option (List ℕ)
joined (Some m) (Some n) = Some (digits 256 8 m ++ digits 256 8 n)
joined (Some m) None = None
joined None n = None

abbrev pub halves_of : List ℕ → Option (List ℕ)
halves_of cs = joined (digits_from 0 (take hex_places cs)) (digits_from 0 (drop hex_places cs))

-- the bytes whose digits the characters are, in the order of the bytes: leading zeros count
unfoldable pub raw_of : List ℕ → Option (List ℕ)
raw_of cs = cond (eqb (length cs) raw_places) (halves_of cs) None
