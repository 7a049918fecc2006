-- The numerals of a call script. Assumes nothing.
use Rattle.std.specs.Prelude.{ℕ, ◌+◌, ◌*◌, ◌-◌, Bool, false, cond, ◌||◌, List, [], ◌∷◌, eqb, leb, ltb, length, Option, Some, None}
use Rattle.numerals.specs.Widths.{hex_places}

-- what a character is worth as a digit, lower case alone; 16 where it is none. `0` to `9` are 48 to 57, `a` to `f` 97 to 102
unfoldable pub digit_value : ℕ → ℕ
digit_value c =
    cond (ltb c 48) 16
    (cond (leb c 57) (c - 48)
    (cond (ltb c 97) 16
    (cond (leb c 102) (c - 97 + 10)
    16)))

-- the same as an option
abbrev pub digit : ℕ → Option ℕ
digit c = cond (ltb (digit_value c) 16) (Some (digit_value c)) None

-- the number whose digits the characters are, v being that of the digits before them
unfoldable pub digits_from : ℕ → List ℕ → Option ℕ
digits_from v [] = Some v
digits_from v (c ∷ cs) = cond (ltb (digit_value c) 16) (digits_from (v * 16 + digit_value c) cs) None

-- a zero that more digits follow
unfoldable pub has_leading_zero : List ℕ → Bool
has_leading_zero [] = false
has_leading_zero (c ∷ []) = false
has_leading_zero (c ∷ d ∷ cs) = eqb c 48

-- the number whose numeral the characters are: one digit to sixteen, no leading zeros, and zero is 0
unfoldable pub number_of : List ℕ → Option ℕ
number_of cs = cond (eqb (length cs) 0 || (ltb hex_places (length cs) || has_leading_zero cs)) None (digits_from 0 cs)
