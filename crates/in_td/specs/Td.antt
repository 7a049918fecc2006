-- 01, IN endpoint: what a completion makes of the TRBs of a TD, sentence by sentence, over lists of any length; and 02, R-4, an error at
-- the last byte. Assumes nothing.
use Rattle.std.specs.Prelude.{ℕ, ◌+◌, ◌-◌, Bool, true, false, not, cond, ◌&&◌, List, [], ◌∷◌, eqb}
use Rattle.trb.specs.declared.CompletionCode.TheVariants.{UsbTransactionError, StallError}
use Rattle.trb.specs.declared.EndpointId.{EndpointId}
use Rattle.trb.specs.declared.SlotId.{SlotId}
use Rattle.trb.specs.declared.InTrbProcessingStatus.{InTrbProcessingStatus}
use Rattle.trb.specs.declared.InTrbProcessingStatus.TheVariants as status
use Rattle.trb.specs.declared.NormalTrb.{NormalTrb}
use Rattle.trb.specs.declared.TransferTrb.{TransferTrb}
use Rattle.trb.specs.declared.TransferTrbVariant.{TransferTrbVariant}
use Rattle.trb.specs.declared.TransferTrbVariant.TheVariants.{SetupStage, DataStage, StatusStage, Normal, EventData, NoOp, Isoch, Unrecognized}
use Rattle.trb.specs.declared.TrbProcessingResult.{TrbProcessingResult}
use Rattle.trb.specs.declared.TrbProcessingResult.TheVariants as result
use Rattle.call_log.specs.Calls.{Out, silent}
use Rattle.td_part.specs.declared.TdInfo.{TdInfo}
use Rattle.td_part.specs.declared.TdProcessingState.{TdProcessingState}
use Rattle.td_part.specs.declared.TdProcessingState.TheVariants.{Default, ShortTransfer}
use Rattle.td_part.specs.declared.TdProgress.{TdProgress}
use Rattle.td_part.specs.Parts.{of_normal, residual_of, put_dma, realize_dma, repeat_short, report_success, handle_event_data, at_start}
use Rattle.walks.specs.Walk.{walk}
use Rattle.in_td.specs.declared.InMode.{InMode}
use Rattle.in_td.specs.declared.InMode.TheVariants.{AsPorted, Strict}
use Rattle.in_td.specs.declared.InTd.{InTd}
use Rattle.in_td.specs.declared.TdProcessed.{TdProcessed}

-- ---- The Normals of a TD

abbrev pub is_normal : TransferTrbVariant → Bool
is_normal (SetupStage t) = false
is_normal (DataStage t) = false
is_normal (StatusStage t) = false
is_normal (Normal t) = true
is_normal (EventData t) = false
is_normal (NoOp t) = false
is_normal Isoch = false
is_normal Unrecognized = false

-- 1 for a Normal, 0 for another TRB
abbrev pub normal_count : TransferTrbVariant → ℕ
normal_count v = cond (is_normal v) 1 0

-- how many a list has
abbrev pub normals : List TransferTrb → ℕ
normals [] = 0
normals (t ∷ ts) = normal_count t.variant + normals ts

-- ---- One TRB

-- processing goes on, with so many Normals left
abbrev pub going_on : ℕ → TdProgress → TdProcessed
going_on left w = record { progress = w; normals_left = left; result = result.Ok }

abbrev pub goes_on : ℕ → Out TdProgress → Out TdProcessed
goes_on left o = record { state = going_on left o.state; records = o.records }

-- processing ends with this result
abbrev pub ends_with : TrbProcessingResult → ℕ → Out TdProgress → Out TdProcessed
ends_with r left o = record { state = record { progress = o.state; normals_left = left; result = r }; records = o.records }

-- the Normal with which the device's bytes end. Short under Success: code 13 with the missing bytes if IOC or ISP. Under Stall (code 6),
-- TransactionError or Disconnect (both 4): always an event, and processing ends with that result; the first two carry address and cycle bit
abbrev pub ending_normal : InTrbProcessingStatus → TdInfo → ℕ → TdProgress → NormalTrb → ℕ → Bool → Out TdProcessed
ending_normal status.Success td left w n a cycle = goes_on left (realize_dma td w (of_normal n a))
ending_normal status.Stall td left w n a cycle = ends_with (result.StallAt a cycle) left (put_dma td w (of_normal n a) true StallError)
ending_normal status.TransactionError td left w n a cycle = ends_with (result.TransactionErrorAt a cycle) left (put_dma td w (of_normal n a) true UsbTransactionError)
ending_normal status.Disconnect td left w n a cycle = ends_with result.Disconnect left (put_dma td w (of_normal n a) true UsbTransactionError)

-- 02, R-4: in strict mode a transfer with a status other than Success fails at its last Normal, however many bytes came
abbrev pub fails_at_last : InMode → InTrbProcessingStatus → ℕ → Bool
fails_at_last AsPorted st left = false
fails_at_last Strict status.Success left = false
fails_at_last Strict status.Stall left = eqb left 1
fails_at_last Strict status.TransactionError left = eqb left 1
fails_at_last Strict status.Disconnect left = eqb left 1

-- is a Normal full, and the transfer not failed at it?
abbrev pub is_done : InTd → ℕ → ℕ → Bool
is_done td left residual = eqb residual 0 && not (fails_at_last td.mode td.status left)

-- each Normal, until one is short, writes min(its length, bytes left). Full: event Success, residual 0, if IOC. After a short Normal
-- under Success, later Normals write nothing; those with IOC repeat its residual with code 13
abbrev pub normal_by_state : TdProcessingState → InTd → ℕ → TdProgress → NormalTrb → ℕ → Bool → Out TdProcessed
normal_by_state (ShortTransfer missing) td left w n a cycle = goes_on (left - 1) (repeat_short td.info w missing n.interrupt_on_completion a)
normal_by_state Default td left w n a cycle =
    cond (is_done td left (residual_of td.info w n.transfer_length)) (goes_on (left - 1) (realize_dma td.info w (of_normal n a)))
    (ending_normal td.status td.info (left - 1) w n a cycle)

unfoldable pub handle_normal : InTd → TdProcessed → NormalTrb → ℕ → Bool → Out TdProcessed
handle_normal td p n a cycle = normal_by_state p.progress.state td p.normals_left p.progress n a cycle

-- what a TRB does, by its kind. The other kinds are never held by a sound block: they do nothing
abbrev pub trb_by_kind : TransferTrbVariant → InTd → TdProcessed → ℕ → Bool → Out TdProcessed
trb_by_kind (Normal n) td p a cycle = handle_normal td p n a cycle
trb_by_kind (EventData e) td p a cycle = goes_on p.normals_left (handle_event_data td.info p.progress e)
trb_by_kind (NoOp n) td p a cycle = goes_on p.normals_left (report_success td.info p.progress p.progress.edtla n.interrupt_on_completion a)
trb_by_kind (SetupStage t) td p a cycle = goes_on p.normals_left (silent p.progress)
trb_by_kind (DataStage t) td p a cycle = goes_on p.normals_left (silent p.progress)
trb_by_kind (StatusStage t) td p a cycle = goes_on p.normals_left (silent p.progress)
trb_by_kind Isoch td p a cycle = goes_on p.normals_left (silent p.progress)
trb_by_kind Unrecognized td p a cycle = goes_on p.normals_left (silent p.progress)

unfoldable pub process_trb : InTd → TdProcessed → TransferTrb → Out TdProcessed
process_trb td p t = trb_by_kind t.variant td p t.addr t.cycle_bit

-- ---- The walk

-- has processing ended with an error?
abbrev pub is_error : TrbProcessingResult → Bool
is_error result.Ok = false
is_error result.Stall = true
is_error (result.StallAt a c) = true
is_error result.TrbError = true
is_error result.TransactionError = true
is_error (result.TransactionErrorAt a c) = true
is_error result.Disconnect = true

abbrev pub ended : TdProcessed → Bool
ended p = is_error p.result

-- a TRB's turn: an error has ended the walk, or the TRB is processed
unfoldable pub next_trb : InTd → TdProcessed → TransferTrb → Out TdProcessed
next_trb td p t = cond (ended p) (silent p) (process_trb td p t)

-- before the first TRB of a TD with so many Normals
abbrev pub unprocessed : ℕ → TdProcessed
unprocessed left = going_on left at_start

-- the walk over the TRBs of a TD
abbrev pub process_td : InTd → List TransferTrb → Out TdProcessed
process_td td ts = walk (process_trb td) ended (unprocessed (normals ts)) ts

-- a TD in this mode, whose device result is this status with n bytes
abbrev pub in_td : EndpointId → SlotId → InMode → InTrbProcessingStatus → ℕ → InTd
in_td e s mode st n = record { info = record { endpoint_id = e; slot_id = s; data_length = n }; status = st; mode = mode }
