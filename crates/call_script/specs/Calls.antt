-- The calls of a script, a row for each letter: how many fields it has, what each is at most, and the call. A line that has no such form is bad. The
-- fields are numbered from 0. Assumes nothing.
use Rattle.std.specs.Prelude.{ℕ, ◌+◌, Bool, cond, ◌&&◌, List, [], ◌∷◌, eqb, leb, Option, Some, None}
use Rattle.trb.specs.declared.ControlSubmissionState.{ControlSubmissionState}
use Rattle.trb.specs.declared.ControlSubmissionState.TheVariants as control_state
use Rattle.trb.specs.declared.EndpointId.{EndpointId}
use Rattle.trb.specs.declared.SlotId.{SlotId}
use Rattle.trb.specs.declared.TdBasedNormalSubmissionState.{TdBasedNormalSubmissionState}
use Rattle.trb.specs.declared.TdBasedNormalSubmissionState.TheVariants as in_state
use Rattle.trb.specs.declared.TransferTrb.{TransferTrb}
use Rattle.answer_numbers.specs.Numbers.{status_of as in_status_of}
use Rattle.raw_trb.specs.Raw.{decode_trb}
use Rattle.guest_memory.specs.Regions.{guest_regions}
use Rattle.control_block.specs.Numbers.{phase_of}
use Rattle.control_block.specs.declared.GuestRelease.{GuestRelease}
use Rattle.control_block.specs.declared.GuestRelease.TheVariants.{Release4, Release5}
use Rattle.in_td.specs.declared.InMode.{InMode}
use Rattle.in_td.specs.declared.InMode.TheVariants.{AsPorted, Strict}
use Rattle.script_fields.specs.Fields.{max_numbers, fields_of, field, within_limits, raw_fields_of}
use Rattle.script_fields.specs.declared.Fields.{Fields}
use Rattle.script_fields.specs.declared.RawFields.{RawFields}
use Rattle.script_trb.specs.Tables.{row_of}
use Rattle.script_trb.specs.Trbs.{any_number, any_word, trb_of}
use Rattle.script_trb.specs.declared.TrbFields.{TrbFields}
use Rattle.call_script.specs.declared.Call.{Call}
use Rattle.call_script.specs.declared.Call.TheVariants.{Window, Buffers, CreateIn, CreateControl, Submit, Complete, Cancel, Hold, MakeUpIn, MakeUpControl, AppendTrb, AppendResult, CompleteRow, Time, Captured}
use Rattle.call_script.specs.declared.DeviceStatus.{DeviceStatus}
use Rattle.call_script.specs.declared.DeviceStatus.TheVariants as status
use Rattle.capture_record.specs.declared.InTransferType.{InTransferType}
use Rattle.capture_record.specs.declared.InTransferType.TheVariants.{Interrupt, Bulk}
use Rattle.call_script.specs.Limits.{max_window, max_lent_log, max_lent_collect, max_script_data, max_byte, max_bus}

-- a line that is not so asks for no call
abbrev pub call_if : Bool → Call → Option Call
call_if so c = cond so (Some c) None

-- a call with what the line says, if it says it
abbrev pub call_with : {A : Type 0} → (A → Call) → Option A → Option Call
call_with call (Some x) = Some (call x)
call_with call None = None

-- ---- Numbers that stand for a case. (But for TYPE and RELEASE, a number that is none is over its field's limit.)

-- MODE: 0 as ported, 1 strict
unfoldable pub mode_of : ℕ → InMode
mode_of n = row_of ((1, Strict) ∷ []) AsPorted n

-- STATUS: 0 Success on IN, SuccessfulControlIn on control; 1 Stall, 2 TransactionError, 3 Disconnect, 4 SuccessfulControlOut
unfoldable pub status_of : ℕ → DeviceStatus
status_of n =
    row_of ((1, status.Stall) ∷ (2, status.TransactionError) ∷ (3, status.Disconnect) ∷ (4, status.SuccessfulControlOut) ∷ []) status.Success n

-- STATE of an IN block: 0 submission due, 1 collecting, 2 awaits the device, 3 awaits local completion
unfoldable pub in_state_of : ℕ → TdBasedNormalSubmissionState
in_state_of n =
    row_of ((1, in_state.CollectingTd) ∷ (2, in_state.AwaitingRealTransfer) ∷ (3, in_state.AwaitingLocalCompletion) ∷ []) in_state.SubmissionDue n

-- STATE of a control block: 0 submission due, 1 collecting, 2 awaits the device
unfoldable pub control_state_of : ℕ → ControlSubmissionState
control_state_of n = row_of ((1, control_state.CollectingTd) ∷ (2, control_state.AwaitingControlRequest) ∷ []) control_state.NoTrbSubmitted n

-- TYPE of an IN endpoint: 1 interrupt, 3 bulk; any other is none
unfoldable pub transfer_type_of : ℕ → Option InTransferType
transfer_type_of n = row_of ((1, Some Interrupt) ∷ (3, Some Bulk) ∷ []) None n

-- RELEASE of a control endpoint's guest: 4 or 5; any other is none
unfoldable pub release_of : ℕ → Option GuestRelease
release_of n = row_of ((4, Some Release4) ∷ (5, Some Release5) ∷ []) None n

-- ---- `w`: the guest window, together at most 140000 (hex)

-- `w BASE LEN`: the second region is empty at 0
unfoldable pub one_region : Fields → Option Call
one_region f = call_if (within_limits (any_number ∷ max_window ∷ []) f) (Window (guest_regions (field f 0) (field f 1) 0 0))

-- `w BASE LEN BASE LEN`: both regions, low and high
unfoldable pub two_regions : Fields → Option Call
two_regions f =
    call_if (within_limits (any_number ∷ max_window ∷ any_number ∷ max_window ∷ []) f && leb (field f 1 + field f 3) max_window)
    (Window (guest_regions (field f 0) (field f 1) (field f 2) (field f 3)))

unfoldable pub window_call : Fields → Option Call
window_call f = cond (eqb f.count 2) (one_region f) (two_regions f)

-- ---- `b LOG COLLECT`: lengths of the lent log and collect buffer

unfoldable pub buffers_call : Fields → Option Call
buffers_call f = call_if (within_limits (max_lent_log ∷ max_lent_collect ∷ []) f) (Buffers (field f 0) (field f 1))

-- ---- Creation

-- EP and SLOT
abbrev pub endpoint_id : Fields → EndpointId
endpoint_id f = record { 0 = field f 0 }

abbrev pub slot_id : Fields → SlotId
slot_id f = record { 0 = field f 1 }

-- `i EP SLOT`: as ported
unfoldable pub ported_creation : Fields → Option Call
ported_creation f = call_if (within_limits (max_byte ∷ max_byte ∷ []) f) (CreateIn (endpoint_id f) (slot_id f) AsPorted)

-- `i EP SLOT MODE`
unfoldable pub mode_creation : Fields → Option Call
mode_creation f = call_if (within_limits (max_byte ∷ max_byte ∷ 1 ∷ []) f) (CreateIn (endpoint_id f) (slot_id f) (mode_of (field f 2)))

unfoldable pub in_creation : Fields → Option Call
in_creation f = cond (eqb f.count 2) (ported_creation f) (mode_creation f)

-- `c EP SLOT`: for release 4
unfoldable pub four_creation : Fields → Option Call
four_creation f = call_if (within_limits (max_byte ∷ max_byte ∷ []) f) (CreateControl (endpoint_id f) (slot_id f) Release4)

-- `c EP SLOT RELEASE`: RELEASE 4 or 5
unfoldable pub release_creation : Fields → Option Call
release_creation f =
    cond (within_limits (max_byte ∷ max_byte ∷ any_number ∷ []) f) (call_with (CreateControl (endpoint_id f) (slot_id f)) (release_of (field f 2))) None

unfoldable pub control_creation : Fields → Option Call
control_creation f = cond (eqb f.count 2) (four_creation f) (release_creation f)

-- ---- TRBs: KIND ADDR FLAGS A B

abbrev pub trb_fields : Fields → TrbFields
trb_fields f = record { kind = field f 0; addr = field f 1; flags = field f 2; a = field f 3; b = field f 4 }

abbrev pub line_trb : Fields → Option TransferTrb
line_trb f = cond (eqb f.count max_numbers) (trb_of (trb_fields f)) None

abbrev pub trb_call : (TransferTrb → Call) → Fields → Option Call
trb_call call f = call_with call (line_trb f)

-- `s`: submit
unfoldable pub submit_call : Fields → Option Call
submit_call f = trb_call Submit f

-- `h`: into the block's next place
unfoldable pub hold_call : Fields → Option Call
hold_call f = trb_call Hold f

-- `q`: to the end of the row that is being written down
unfoldable pub append_call : Fields → Option Call
append_call f = trb_call AppendTrb f

-- ---- Completion and cancel

-- `d STATUS N`
unfoldable pub result_call : Fields → Option Call
result_call f = call_if (within_limits (4 ∷ max_script_data ∷ []) f) (Complete (Some (status_of (field f 0))) (field f 1))

-- `l N`
unfoldable pub no_result_call : Fields → Option Call
no_result_call f = call_if (within_limits (max_script_data ∷ []) f) (Complete None (field f 0))

-- `x`
unfoldable pub cancel_call : Fields → Option Call
cancel_call f = call_if (within_limits [] f) Cancel

-- ---- `p`: make up the block's state

-- `p STATE`
unfoldable pub in_state_call : Fields → Option Call
in_state_call f = call_if (within_limits (3 ∷ []) f) (MakeUpIn (in_state_of (field f 0)))

-- `p PHASE STATE DIRECTION LENGTH`: PHASE 0 to 4 in the order of `ControlTransferState`, DIRECTION 1 IN, 0 OUT
unfoldable pub control_state_call : Fields → Option Call
control_state_call f =
    call_if (within_limits (4 ∷ 2 ∷ 1 ∷ any_word ∷ []) f)
    (MakeUpControl (phase_of (field f 0)) (control_state_of (field f 1)) (eqb (field f 2) 1) (field f 3))

unfoldable pub make_up_call : Fields → Option Call
make_up_call f = cond (eqb f.count 1) (in_state_call f) (control_state_call f)

-- ---- The row

-- `e STATUS N`: of the row's next TD
unfoldable pub row_result_call : Fields → Option Call
row_result_call f = call_if (within_limits (3 ∷ any_word ∷ []) f) (AppendResult (in_status_of (field f 0)) (field f 1))

-- `r N`: the row call
unfoldable pub row_call : Fields → Option Call
row_call f = call_if (within_limits (max_script_data ∷ []) f) (CompleteRow (field f 0))

-- ---- What captures say

-- `t SECONDS MICROSECONDS`
unfoldable pub time_call : Fields → Option Call
time_call f = call_if (within_limits (any_word ∷ any_word ∷ []) f) (Time (record { seconds = field f 0; microseconds = field f 1 }))

-- `m BUS DEVICE TYPE`: TYPE 1 or 3
unfoldable pub capture_call : Fields → Option Call
capture_call f =
    cond (within_limits (max_bus ∷ max_byte ∷ any_number ∷ []) f)
    (call_with (Captured (record { bus_number = field f 0; device_address = field f 1 })) (transfer_type_of (field f 2))) None

-- ---- Lines

-- by the characters w, b, i, c, s, d, l, x, q, e, r, h, p, t, m
abbrev pub letters : List (ℕ × (Fields → Option Call))
letters =
    (119, window_call) ∷ (98, buffers_call) ∷ (105, in_creation) ∷ (99, control_creation) ∷ (115, submit_call) ∷ (100, result_call) ∷ (108, no_result_call)
    ∷ (120, cancel_call) ∷ (113, append_call) ∷ (101, row_result_call) ∷ (114, row_call) ∷ (104, hold_call) ∷ (112, make_up_call) ∷ (116, time_call)
    ∷ (109, capture_call) ∷ []

abbrev pub no_call : Fields → Option Call
no_call f = None

unfoldable pub numbered_call : Fields → Option Call
numbered_call f = row_of letters no_call f.letter f

-- `u ADDR RAW`: a raw TRB, decoded, then as `s`; u is the character 117
unfoldable pub raw_call : RawFields → Option Call
raw_call f =
    call_if (eqb f.before.letter 117 && eqb f.before.count 1)
    (Submit (record { variant = (decode_trb f.bytes).variant; addr = field f.before 0; cycle_bit = (decode_trb f.bytes).cycle_bit }))

-- numbers go before a raw TRB
abbrev pub call_by : Option Fields → Option RawFields → Option Call
call_by (Some f) raw = numbered_call f
call_by None (Some f) = raw_call f
call_by None None = None

-- the call of a line, which comes without its line feed: a letter and numbers, or one whose last field is a raw TRB. (No number has so many digits.)
unfoldable pub call_of : List ℕ → Option Call
call_of l = call_by (fields_of l) (raw_fields_of l)
