-- How many characters the parts of an answer take at most. Assumes nothing.
use Rattle.std.specs.Prelude.{ℕ, ◌+◌, ◌*◌}
use Rattle.trb.specs.Limits.{max_row_records}
use Rattle.numerals.specs.Widths.{decimal_places, hex_places}
use Rattle.log_text.specs.Widths.{max_line}

-- a number in decimal, and one in hex, each behind a space
abbrev pub max_decimal : ℕ
max_decimal = 1 + decimal_places

abbrev pub max_hex : ℕ
max_hex = 1 + hex_places

-- ` transaction`, an address and a cycle bit
abbrev pub max_result : ℕ
max_result = 12 + max_hex + 2

-- `ok`, a count and a result
abbrev pub max_completed : ℕ
max_completed = 3 + decimal_places + max_result

-- the first line of an answer, that of a row being the longest
abbrev pub max_first : ℕ
max_first = max_completed + max_decimal + 1

-- carry-out's line
abbrev pub max_carried_out : ℕ
max_carried_out = 4 + decimal_places + 1

-- the lines of all records that a row logs, which no other call has as many of
abbrev pub max_record_lines : ℕ
max_record_lines = max_row_records * max_line
