-- How many characters a line and a text take at most. `text_limits` in src/lib.rt proves that the code's constants are these.
-- Assumes nothing.
use Rattle.std.specs.Prelude.{ℕ, ◌+◌, ◌*◌, ◌/◌}
use Rattle.trb.specs.Limits.{record_length, max_printed_log}
use Rattle.numerals.specs.Widths.{decimal_places, hex_places}
use Rattle.log_text.specs.declared.TextLimits.{TextLimits}

-- kind, code, flag, each with a space behind it
abbrev pub max_kinds : ℕ
max_kinds = 3 * (decimal_places + 1)

-- endpoint, slot
abbrev pub max_ids : ℕ
max_ids = 2 * (decimal_places + 1)

-- address, length, start
abbrev pub max_numbers : ℕ
max_numbers = hex_places + 1 + 2 * (decimal_places + 1)

abbrev pub max_fields : ℕ
max_fields = max_kinds + max_ids + max_numbers

-- those, the bytes 24 to 31 in hex and the line feed
abbrev pub max_line : ℕ
max_line = max_fields + 2 * 8 + 1

-- the lines of a log of n bytes
abbrev pub lines_room : ℕ → ℕ
lines_room n = n / record_length * max_line

-- the text of the longest log that is printed
abbrev pub max_text : ℕ
max_text = lines_room max_printed_log

abbrev pub text_limits : TextLimits
text_limits = record { line = max_line; text = max_text }
