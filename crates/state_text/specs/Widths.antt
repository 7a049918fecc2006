-- How many characters a state line and a whole answer take at most. `answer_limits` in src/lib.rt proves that the code's constant is
-- this. Assumes nothing.
use Rattle.std.specs.Prelude.{ℕ, ◌+◌, ◌*◌}
use Rattle.numerals.specs.Widths.{hex_places}
use Rattle.call_text.specs.Widths.{max_decimal, max_hex, max_first, max_record_lines, max_carried_out}
use Rattle.state_text.specs.declared.AnswerLimits.{AnswerLimits}

-- `unsupported:` or `unexpected:` and an address
abbrev pub max_submission_state : ℕ
max_submission_state = 12 + hex_places

abbrev pub max_standing : ℕ
max_standing = 11 + 7 + max_submission_state + max_decimal + 4

abbrev pub max_request : ℕ
max_request = max_hex + 1 + 2 * 6

-- a state line, that of a control endpoint being the longest
abbrev pub max_state : ℕ
max_state = max_standing + max_decimal + max_decimal + max_hex + max_request + 1

-- a whole answer
abbrev pub max_answer : ℕ
max_answer = max_first + max_record_lines + max_carried_out + max_state

abbrev pub answer_limits : AnswerLimits
answer_limits = record { answer = max_answer }
