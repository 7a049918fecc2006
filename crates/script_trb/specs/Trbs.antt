-- A decoded TRB as a script writes it: KIND ADDR FLAGS A B. A flag or a field that the kind does not have must be 0. Assumes nothing.
use Rattle.std.specs.Prelude.{ℕ, ◌+◌, ◌-◌, ◌^◌, Bool, false, cond, not, ◌&&◌, ◌||◌, List, [], ◌∷◌, leb, Option, Some, None}
use Rattle.trb.specs.declared.TransferTrb.{TransferTrb}
use Rattle.held_bytes.specs.Numbers.{bit_of, trb_numbers}
use Rattle.held_bytes.specs.Numbers as by_numbers
use Rattle.script_trb.specs.declared.TrbFields.{TrbFields}
use Rattle.script_trb.specs.Tables.{row_of}

-- ---- FLAGS: bit 0 cycle bit, 1 chain, 2 interrupt on completion, 3 interrupt on short, 4 immediate data, 5 direction

abbrev pub cycle : ℕ
cycle = 1

abbrev pub chain : ℕ
chain = 2

abbrev pub on_completion : ℕ
on_completion = 4

abbrev pub on_short : ℕ
on_short = 8

abbrev pub immediate : ℕ
immediate = 16

abbrev pub direction : ℕ
direction = 32

-- is the flag one that the kind has, if it is set?
abbrev pub allows : ℕ → ℕ → ℕ → Bool
allows flags kind_has flag = not (bit_of flags flag) || bit_of kind_has flag

unfoldable pub has_only_flags : ℕ → ℕ → Bool
has_only_flags flags kind_has =
    leb flags 63
    && (allows flags kind_has cycle && (allows flags kind_has chain && (allows flags kind_has on_completion
    && (allows flags kind_has on_short && (allows flags kind_has immediate && allows flags kind_has direction)))))

-- no flag but these, A and B at most so much
unfoldable pub has_only : TrbFields → ℕ → ℕ → ℕ → Bool
has_only f kind_has max_a max_b = has_only_flags f.flags kind_has && (leb f.a max_a && leb f.b max_b)

-- what a number of 64 bits and one of 32 can be
abbrev pub any_number : ℕ
any_number = 2 ^ 64 - 1

abbrev pub any_word : ℕ
any_word = 2 ^ 32 - 1

-- ---- Kinds

-- Normal: flags 0 to 4; A data pointer, B length
abbrev pub normal : TrbFields → Bool
normal f = has_only f (cycle + chain + on_completion + on_short + immediate) any_number any_word

-- SetupStage: flags 0 and 2; A the eight setup bytes as a little-endian number
abbrev pub setup_stage : TrbFields → Bool
setup_stage f = has_only f (cycle + on_completion) any_number 0

-- DataStage: flags 0 to 5; A data pointer, B length
abbrev pub data_stage : TrbFields → Bool
data_stage f = has_only f (cycle + chain + on_completion + on_short + immediate + direction) any_number any_word

-- StatusStage: flags 0, 1, 2, 5
abbrev pub status_stage : TrbFields → Bool
status_stage f = has_only f (cycle + chain + on_completion + direction) 0 0

-- EventData: flags 0, 1, 2; A event data
abbrev pub event_data : TrbFields → Bool
event_data f = has_only f (cycle + chain + on_completion) any_number 0

-- NoOp: flags 0, 1, 2
abbrev pub no_op : TrbFields → Bool
no_op f = has_only f (cycle + chain + on_completion) 0 0

-- Isoch, Unrecognized: flag 0 alone
abbrev pub bare : TrbFields → Bool
bare f = has_only f cycle 0 0

-- KIND, as xHCI numbers the types; Unrecognized is 0
abbrev pub kinds : List (ℕ × (TrbFields → Bool))
kinds = (1, normal) ∷ (2, setup_stage) ∷ (3, data_stage) ∷ (4, status_stage) ∷ (5, bare) ∷ (7, event_data) ∷ (8, no_op) ∷ (0, bare) ∷ []

abbrev pub no_kind : TrbFields → Bool
no_kind f = false

-- nothing but what its kind has
unfoldable pub has_only_its_own : TrbFields → Bool
has_only_its_own f = row_of kinds no_kind f.kind f

-- the TRB that the fields are by number; a line that is not so is bad
unfoldable pub trb_of : TrbFields → Option TransferTrb
trb_of f = cond (has_only_its_own f) (Some (by_numbers.trb_of (trb_numbers f.kind f.flags f.addr f.a f.b))) None
