-- 02, R-10: what is read, and what is printed. Assumes nothing.
use Rattle.std.specs.Prelude.{ℕ, ◌+◌, ◌-◌, ◌*◌, ◌≡◌, cond, List, [], ◌∷◌, ◌++◌, ◌⊎◌, eqb, ltb, Option, Some, None}
use Rattle.numerals.specs.Digits.{decimal_of}
use Rattle.log_text.specs.Lines.{line_feed, field}
use Rattle.log_print.specs.LogText.{refused_word}
use Rattle.shapes.specs.Lists.{min_shape, max_shape}
use Rattle.shape_lines.specs.Lines.{shapes_text}

-- ---- What is read

-- 02: a length from 2 to 12; none for any other
abbrev pub in_range : ℕ → Option ℕ
in_range m = cond (ltb m min_shape) None (cond (ltb max_shape m) None (Some m))

-- one digit as a length, and none for any other character; `0` to `9` are 48 to 57
abbrev pub one_digit : ℕ → Option ℕ
one_digit c = cond (ltb c 48) None (cond (ltb 57 c) None (in_range (c - 48)))

-- two digits, the first of them not `0`
abbrev pub two_digits : ℕ → ℕ → Option ℕ
two_digits b c = cond (ltb b 49) None (cond (ltb 57 b) None (cond (ltb c 48) None (cond (ltb 57 c) None (in_range (10 * (b - 48) + (c - 48))))))

-- the length asked for: a decimal number without leading zeros, a line feed after it allowed; none for anything else
abbrev pub asked : List ℕ → Option ℕ
asked [] = None
asked (b ∷ []) = one_digit b
asked (b ∷ c ∷ []) = cond (eqb c line_feed) (one_digit b) (two_digits b c)
asked (b ∷ c ∷ f ∷ []) = cond (eqb f line_feed) (two_digits b c) None
asked (b ∷ c ∷ f ∷ x ∷ xs) = None

-- the input says the number m
abbrev pub Says : List ℕ → ℕ → Type 0
Says input m = (input ≡ decimal_of m) ⊎ (input ≡ decimal_of m ++ (line_feed ∷ []))

-- ---- What is printed

-- 02, R-10: the number of the refusal
abbrev pub length_out_of_range : ℕ
length_out_of_range = 16

-- `refused 16` and a line feed
unfoldable pub refused_text : List ℕ
refused_text = field refused_word ++ decimal_of length_out_of_range ++ (line_feed ∷ [])

-- the shapes up to the length asked for, if one is
abbrev pub answer_for : Option ℕ → List ℕ
answer_for None = refused_text
answer_for (Some longest) = shapes_text longest

-- 02: anything but 2 to 12 prints only `refused 16`
unfoldable pub answer_text : List ℕ → List ℕ
answer_text input = answer_for (asked input)
