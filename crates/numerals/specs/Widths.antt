-- How many digits a number takes at most. `widths` in src/lib.rt proves that the code's constants are these. Assumes nothing.
use Rattle.std.specs.Prelude.{ℕ}
use Rattle.numerals.specs.declared.WidthTable.{WidthTable}

-- 2 ^ 32 - 1 has 10 decimal digits
abbrev pub decimal_places : ℕ
decimal_places = 10

-- 2 ^ 64 - 1 has 16 hex digits
abbrev pub hex_places : ℕ
hex_places = 16

abbrev pub width_table : WidthTable
width_table = record { decimal = decimal_places; hex = hex_places }
