-- Numbers in decimal and in hex, as the bytes of their characters. Assumes nothing.
use Rattle.std.specs.Prelude.{ℕ, zero, suc, ◌+◌, ◌-◌, ◌*◌, ◌/◌, ◌%◌, ◌<◌, ◌^◌, cond, ◌≡◌, List, [], ◌∷◌, ◌++◌, map, eqb, ltb, length}
use Rattle.numerals.specs.Widths.{decimal_places, hex_places}

-- the character of a digit: 48 is `0`, 97 is `a`
unfoldable pub digit_char : ℕ → ℕ
digit_char d = cond (ltb d 10) (48 + d) (97 + (d - 10))

-- the k lowest digits of n in a base, the highest place first
unfoldable pub digits : ℕ → ℕ → ℕ → List ℕ
digits base zero n = []
digits base (suc k) n = n / base ^ k % base ∷ digits base k n

-- no leading zeros, and zero as 0
unfoldable pub trimmed : List ℕ → List ℕ
trimmed [] = []
trimmed (d ∷ []) = d ∷ []
trimmed (d ∷ e ∷ ds) = cond (eqb d 0) (trimmed (e ∷ ds)) (d ∷ e ∷ ds)

-- the number that digits say, the highest place first
abbrev pub number_of : ℕ → List ℕ → ℕ
number_of base [] = 0
number_of base (d ∷ ds) = d * base ^ length ds + number_of base ds

-- every digit is below the base
abbrev pub AllBelow : ℕ → List ℕ → Type 0
AllBelow base [] = Unit {0}
AllBelow base (d ∷ ds) = (d < base) × AllBelow base ds

-- a 32-bit number in decimal
unfoldable pub decimal_of : ℕ → List ℕ
decimal_of n = map digit_char (trimmed (digits 10 decimal_places n))

-- the place of the first digit of n, where places are counted from the lowest: the digits above it are the leading zeros
pub record FirstPlace (n place : ℕ) : Type 0 where
  pub within : place < decimal_places
  pub below : n < 10 ^ suc place
  pub digits : trimmed (digits 10 decimal_places n) ≡ digits 10 (suc place) n

-- a 64-bit number in hex, in lower case
unfoldable pub hex_of : ℕ → List ℕ
hex_of n = map digit_char (trimmed (digits 16 hex_places n))

-- a byte as two hex digits
unfoldable pub byte_hex : ℕ → List ℕ
byte_hex b = map digit_char (digits 16 2 b)

-- bytes as two hex digits each
unfoldable pub bytes_hex : List ℕ → List ℕ
bytes_hex [] = []
bytes_hex (b ∷ bs) = byte_hex b ++ bytes_hex bs
