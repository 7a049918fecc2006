-- A line of a script: a letter, then fields, each behind one space, each a numeral. Assumes nothing.
use Rattle.std.specs.Prelude.{ℕ, ◌≡◌, ◌≤◌, ◌+◌, ◌-◌, Bool, true, false, cond, ◌&&◌, List, [], ◌∷◌, eqb, leb, ltb, length, take, drop, get_or, set, replicate, Option, Some, None}
use Rattle.call_number.specs.Numbers.{number_of}
use Rattle.call_number.specs.RawBytes.{raw_places, raw_of}
use Rattle.script_fields.specs.declared.Fields.{Fields}
use Rattle.script_fields.specs.declared.RawFields.{RawFields}
use Rattle.script_fields.specs.Words.{space, first_word, words_behind}

-- numbers of a line
abbrev pub max_numbers : ℕ
max_numbers = 5

-- a letter, and nothing behind it yet
abbrev pub letter_alone : ℕ → Fields
letter_alone c = record { letter = c; count = 0; numbers = replicate max_numbers 0 }

-- one number more
abbrev pub with_number : Fields → ℕ → Fields
with_number f n = record { letter = f.letter; count = f.count + 1; numbers = set f.numbers f.count n }

-- the fields f and one number more, where there is one and room for it, and then as g says
abbrev pub then_number : Fields → Option ℕ → (Fields → Option Fields) → Option Fields
then_number f None g = None
then_number f (Some n) g = cond (ltb f.count max_numbers) (g (with_number f n)) None

-- the numbers of further words, each of which has to be a numeral
unfoldable pub with_words : Fields → List (List ℕ) → Option Fields
with_words f [] = Some f
with_words f (w ∷ ws) = then_number f (number_of w) (λ g. with_words g ws)

-- what stands behind a letter starts with a space, or is nothing
unfoldable pub behind_letter : Fields → List ℕ → Option Fields
behind_letter f cs = cond (eqb (length (first_word cs)) 0) (with_words f (words_behind cs)) None

-- a line that has no letter, or whose letter and words have no such form, has no fields
unfoldable pub fields_of : List ℕ → Option Fields
fields_of [] = None
fields_of (c ∷ cs) = behind_letter (letter_alone c) cs

-- number k of a line
abbrev pub field : Fields → ℕ → ℕ
field f k = get_or f.numbers k 0

-- each number at most its limit
unfoldable pub all_at_most : List ℕ → List ℕ → Bool
all_at_most ns [] = true
all_at_most [] (m ∷ ms) = false
all_at_most (n ∷ ns) (m ∷ ms) = leb n m && all_at_most ns ms

-- as many numbers as there are limits, each at most its limit
unfoldable pub within_limits : List ℕ → Fields → Bool
within_limits limits f = eqb f.count (length limits) && all_at_most f.numbers limits

-- the numbers ns are those of a line, from number k on, and each is at most its limit
abbrev pub AtMost : List ℕ → Fields → ℕ → List ℕ → Type 0
AtMost ns f k [] = Unit {0}
AtMost ns f k (m ∷ ms) = (get_or ns k 0 ≡ field f k) × (field f k ≤ m) × AtMost ns f (k + 1) ms

-- ---- Raw TRBs

abbrev pub behind_numbers : Option Fields → Option (List ℕ) → Option RawFields
behind_numbers (Some f) (Some raw) = Some (record { before = f; bytes = raw })
behind_numbers (Some f) None = None
behind_numbers None raw = None

-- where the last field of a line, if it is a raw TRB, starts
abbrev pub raw_start : List ℕ → ℕ
raw_start l = length l - raw_places

-- the line's last field is a raw TRB, of so many digits, and stands behind a space; before that the line is as any other
unfoldable pub raw_fields_of : List ℕ → Option RawFields
raw_fields_of l =
    cond (ltb raw_places (length l) && eqb (get_or l (raw_start l - 1) 0) space)
    (behind_numbers (fields_of (take (raw_start l - 1) l)) (raw_of (drop (raw_start l) l))) None
