-- xHCI 1.2, 6.4.1 and 6.4.4.2: the fields of the transfer TRBs by dword, lowest bit and width, and a table for each of the six types with
-- fields, from bit 0 of dword 0 up to bit 31 of dword 3. Assumes nothing.
use Rattle.std.specs.Prelude.{ℕ, ◌+◌, Bool, cond, ◌&&◌, List, [], ◌∷◌, eqb}
use Rattle.raw_trb.specs.Fields.{Field, bits}

-- ---- Fields

-- 6.4.1.1: Data Buffer Pointer Lo and Hi; 6.4.4.2: Event Data Lo and Hi
abbrev pub pointer_low : Field
pointer_low = bits 0 0 32

abbrev pub pointer_high : Field
pointer_high = bits 1 0 32

-- 6.4.1.2.1: bmRequestType, bRequest, wValue, wIndex, wLength
abbrev pub request_type : Field
request_type = bits 0 0 8

abbrev pub request_code : Field
request_code = bits 0 8 8

abbrev pub setup_value : Field
setup_value = bits 0 16 16

abbrev pub setup_index : Field
setup_index = bits 1 0 16

abbrev pub setup_length : Field
setup_length = bits 1 16 16

-- 6.4.1.1: TRB Transfer Length, TD Size, Interrupter Target
abbrev pub trb_transfer_length : Field
trb_transfer_length = bits 2 0 17

abbrev pub td_size : Field
td_size = bits 2 17 5

abbrev pub interrupter_target : Field
interrupter_target = bits 2 22 10

-- 6.4.1.1: C, ENT, ISP, NS, CH, IOC, IDT, BEI, TRB Type
abbrev pub cycle_bit : Field
cycle_bit = bits 3 0 1

abbrev pub evaluate_next_trb : Field
evaluate_next_trb = bits 3 1 1

abbrev pub interrupt_on_short : Field
interrupt_on_short = bits 3 2 1

abbrev pub no_snoop : Field
no_snoop = bits 3 3 1

abbrev pub chain_bit : Field
chain_bit = bits 3 4 1

abbrev pub interrupt_on_completion : Field
interrupt_on_completion = bits 3 5 1

abbrev pub immediate_data : Field
immediate_data = bits 3 6 1

abbrev pub block_event_interrupt : Field
block_event_interrupt = bits 3 9 1

abbrev pub trb_type : Field
trb_type = bits 3 10 6

-- 6.4.1.2.1: TRT; 6.4.1.2.2: DIR
abbrev pub transfer_type : Field
transfer_type = bits 3 16 2

abbrev pub direction : Field
direction = bits 3 16 1

-- table 6-91: types by number
abbrev pub normal_type : ℕ
normal_type = 1

abbrev pub setup_stage_type : ℕ
setup_stage_type = 2

abbrev pub data_stage_type : ℕ
data_stage_type = 3

abbrev pub status_stage_type : ℕ
status_stage_type = 4

abbrev pub isoch_type : ℕ
isoch_type = 5

abbrev pub event_data_type : ℕ
event_data_type = 7

abbrev pub no_op_type : ℕ
no_op_type = 8

-- ---- Tables

-- a row: a field in which the encoder sets a number; one that the decoded form does not hold; a reserved one (RsvdZ)
pub data Row : Type 0 where
  set : Field → Row
  unheld : Field → Row
  reserved : Field → Row

-- 6.4.1.1
abbrev pub normal_table : List Row
normal_table =
    set pointer_low
    ∷ set pointer_high
    ∷ set trb_transfer_length ∷ unheld td_size ∷ unheld interrupter_target
    ∷ set cycle_bit ∷ unheld evaluate_next_trb ∷ set interrupt_on_short ∷ unheld no_snoop ∷ set chain_bit ∷ set interrupt_on_completion ∷ set immediate_data
    ∷ reserved (bits 3 7 2) ∷ unheld block_event_interrupt ∷ set trb_type ∷ reserved (bits 3 16 16)
    ∷ []

-- 6.4.1.2.1; the encoder sets transfer length 8 and immediate data 1
abbrev pub setup_stage_table : List Row
setup_stage_table =
    set request_type ∷ set request_code ∷ set setup_value
    ∷ set setup_index ∷ set setup_length
    ∷ set trb_transfer_length ∷ reserved (bits 2 17 5) ∷ unheld interrupter_target
    ∷ set cycle_bit ∷ reserved (bits 3 1 4) ∷ set interrupt_on_completion ∷ set immediate_data ∷ reserved (bits 3 7 3) ∷ set trb_type ∷ unheld transfer_type
    ∷ reserved (bits 3 18 14)
    ∷ []

-- 6.4.1.2.2
abbrev pub data_stage_table : List Row
data_stage_table =
    set pointer_low
    ∷ set pointer_high
    ∷ set trb_transfer_length ∷ unheld td_size ∷ unheld interrupter_target
    ∷ set cycle_bit ∷ unheld evaluate_next_trb ∷ set interrupt_on_short ∷ unheld no_snoop ∷ set chain_bit ∷ set interrupt_on_completion ∷ set immediate_data
    ∷ reserved (bits 3 7 3) ∷ set trb_type ∷ set direction ∷ reserved (bits 3 17 15)
    ∷ []

-- 6.4.1.2.3
abbrev pub status_stage_table : List Row
status_stage_table =
    reserved (bits 0 0 32)
    ∷ reserved (bits 1 0 32)
    ∷ reserved (bits 2 0 22) ∷ unheld interrupter_target
    ∷ set cycle_bit ∷ unheld evaluate_next_trb ∷ reserved (bits 3 2 2) ∷ set chain_bit ∷ set interrupt_on_completion ∷ reserved (bits 3 6 4) ∷ set trb_type
    ∷ set direction ∷ reserved (bits 3 17 15)
    ∷ []

-- 6.4.4.2
abbrev pub event_data_table : List Row
event_data_table =
    set pointer_low
    ∷ set pointer_high
    ∷ reserved (bits 2 0 22) ∷ unheld interrupter_target
    ∷ set cycle_bit ∷ unheld evaluate_next_trb ∷ reserved (bits 3 2 2) ∷ set chain_bit ∷ set interrupt_on_completion ∷ reserved (bits 3 6 3)
    ∷ unheld block_event_interrupt ∷ set trb_type ∷ reserved (bits 3 16 16)
    ∷ []

-- 6.4.1.4
abbrev pub no_op_table : List Row
no_op_table =
    reserved (bits 0 0 32)
    ∷ reserved (bits 1 0 32)
    ∷ reserved (bits 2 0 22) ∷ unheld interrupter_target
    ∷ set cycle_bit ∷ unheld evaluate_next_trb ∷ reserved (bits 3 2 2) ∷ set chain_bit ∷ set interrupt_on_completion ∷ reserved (bits 3 6 4) ∷ set trb_type
    ∷ reserved (bits 3 16 16)
    ∷ []

-- ---- The rows of a table by what they are

abbrev pub fields_of : List Row → List Field
fields_of [] = []
fields_of (set f ∷ rows) = f ∷ fields_of rows
fields_of (unheld f ∷ rows) = f ∷ fields_of rows
fields_of (reserved f ∷ rows) = f ∷ fields_of rows

abbrev pub set_of : List Row → List Field
set_of [] = []
set_of (set f ∷ rows) = f ∷ set_of rows
set_of (unheld f ∷ rows) = set_of rows
set_of (reserved f ∷ rows) = set_of rows

abbrev pub unheld_of : List Row → List Field
unheld_of [] = []
unheld_of (set f ∷ rows) = unheld_of rows
unheld_of (unheld f ∷ rows) = f ∷ unheld_of rows
unheld_of (reserved f ∷ rows) = unheld_of rows

abbrev pub reserved_of : List Row → List Field
reserved_of [] = []
reserved_of (set f ∷ rows) = reserved_of rows
reserved_of (unheld f ∷ rows) = reserved_of rows
reserved_of (reserved f ∷ rows) = f ∷ reserved_of rows

-- do the fields of dword k stand one behind the other, from bit l to its last?
abbrev pub tiles_from : ℕ → ℕ → List Field → Bool
tiles_from k l [] = eqb l 32
tiles_from k l (f ∷ fs) = cond (eqb f.dword k) (eqb f.low l && tiles_from k (l + f.width) fs) (tiles_from k l fs)

-- does each of the 128 bits stand in exactly one field?
abbrev pub tiles : List Row → Bool
tiles rows = tiles_from 0 0 (fields_of rows) && (tiles_from 1 0 (fields_of rows) && (tiles_from 2 0 (fields_of rows) && tiles_from 3 0 (fields_of rows)))
