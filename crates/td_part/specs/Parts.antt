-- What one TRB of a TD does, for IN and control alike. Assumes nothing.
use Rattle.std.specs.Prelude.{ℕ, ◌+◌, ◌-◌, ◌≤◌, ◌%◌, ◌^◌, min, Bool, true, false, cond, ◌||◌, List, ◌∷◌, eqb, length}
use Rattle.trb.specs.declared.CompletionCode.{CompletionCode}
use Rattle.trb.specs.declared.CompletionCode.TheVariants.{Success, ShortPacket}
use Rattle.trb.specs.declared.DataStageTrb.{DataStageTrb}
use Rattle.trb.specs.declared.EventDataTrb.{EventDataTrb}
use Rattle.trb.specs.declared.NormalTrb.{NormalTrb}
use Rattle.call_log.specs.declared.Record.{Record}
use Rattle.call_log.specs.Calls.{Out}
use Rattle.call_log.specs.Records.{guest_write, transfer_event, when}
use Rattle.td_part.specs.declared.TdInfo.{TdInfo}
use Rattle.td_part.specs.declared.TdProgress.{TdProgress}
use Rattle.td_part.specs.declared.TdProcessingState.{TdProcessingState}
use Rattle.td_part.specs.declared.TdProcessingState.TheVariants.{Default, ShortTransfer}
use Rattle.td_part.specs.declared.TrbDmaInfo.{TrbDmaInfo}

abbrev pub of_normal : NormalTrb → ℕ → TrbDmaInfo
of_normal t a = record {
  data_pointer = t.data_pointer;
  transfer_length = t.transfer_length;
  interrupt_on_short = t.interrupt_on_short;
  interrupt_on_completion = t.interrupt_on_completion;
  addr = a;
}

abbrev pub of_data_stage : DataStageTrb → ℕ → TrbDmaInfo
of_data_stage t a = record {
  data_pointer = t.data_pointer;
  transfer_length = t.transfer_length;
  interrupt_on_short = t.interrupt_on_short;
  interrupt_on_completion = t.interrupt_on_completion;
  addr = a;
}

-- before the first TRB
abbrev pub at_start : TdProgress
at_start = record { start = 0; edtla = 0; state = Default; records = 0 }

-- the next write starts within the device's data
pub record Within (td : TdInfo) (w : TdProgress) : Type 0 where
  pub within : w.start ≤ td.data_length

-- xHCI 1.2, 4.11.5.2: the EDTLA is a field of 24 bits
abbrev pub edtla_after : ℕ → ℕ → ℕ
edtla_after edtla n = (edtla + n) % 2 ^ 24

-- the bytes left of the device's data
abbrev pub left : TdInfo → TdProgress → ℕ
left td w = td.data_length - w.start

-- 01, IN endpoint: min(its length, bytes left)
abbrev pub moved_of : TdInfo → TdProgress → ℕ → ℕ
moved_of td w n = min n (left td w)

-- the missing bytes
abbrev pub residual_of : TdInfo → TdProgress → ℕ → ℕ
residual_of td w n = n - moved_of td w n

-- full: Success; short: 13
abbrev pub code_for : ℕ → CompletionCode
code_for residual = cond (eqb residual 0) Success ShortPacket

-- full: if IOC; short: if IOC or ISP
abbrev pub due_for : TrbDmaInfo → ℕ → Bool
due_for d residual = cond (eqb residual 0) d.interrupt_on_completion (d.interrupt_on_completion || d.interrupt_on_short)

-- the residual of a short TRB is kept
abbrev pub state_after : TdProcessingState → ℕ → TdProcessingState
state_after s residual = cond (eqb residual 0) s (ShortTransfer residual)

-- 01, IN endpoint: code 13 after a short Normal, otherwise 1
abbrev pub code_after : TdProcessingState → CompletionCode
code_after Default = Success
code_after (ShortTransfer missing) = ShortPacket

-- the progress w with these in place of its own, and the records rs counted
abbrev pub progressed : TdProgress → ℕ → ℕ → TdProcessingState → List Record → Out TdProgress
progressed w start edtla state rs = record { state = record { start = start; edtla = edtla; state = state; records = w.records + length rs }; records = rs }

-- an event at a TRB's address
abbrev pub event_at : TdInfo → ℕ → ℕ → CompletionCode → Record
event_at td a residual code = transfer_event a residual code false td.endpoint_id td.slot_id

-- a write of so many bytes, and the event, where it is due, with the bytes missed
abbrev pub put_moved : ℕ → ℕ → TdInfo → TdProgress → TrbDmaInfo → Bool → CompletionCode → Out TdProgress
put_moved moved residual td w d due code =
    progressed w (w.start + moved) (edtla_after w.edtla moved) (state_after w.state residual)
    (guest_write d.data_pointer moved w.start td.endpoint_id td.slot_id ∷ when due (event_at td d.addr residual code))

unfoldable pub put_dma : TdInfo → TdProgress → TrbDmaInfo → Bool → CompletionCode → Out TdProgress
put_dma td w d due code = put_moved (moved_of td w d.transfer_length) (residual_of td w d.transfer_length) td w d due code

-- of a transfer that succeeded: the code and the event by whether the TRB is full or short
unfoldable pub realize_dma : TdInfo → TdProgress → TrbDmaInfo → Out TdProgress
realize_dma td w d = put_dma td w d (due_for d (residual_of td w d.transfer_length)) (code_for (residual_of td w d.transfer_length))

-- a TRB that moves no data: its event, where it is due
abbrev pub report_trb : TdInfo → TdProgress → ℕ → Bool → ℕ → ℕ → CompletionCode → Out TdProgress
report_trb td w edtla due a residual code = progressed w w.start edtla w.state (when due (event_at td a residual code))

-- 01, IN endpoint: after a short Normal, later Normals write nothing; those with IOC repeat its residual with code 13
abbrev pub repeat_short : TdInfo → TdProgress → ℕ → Bool → ℕ → Out TdProgress
repeat_short td w missing ioc a = report_trb td w w.edtla ioc a missing ShortPacket

-- 01: Success, residual 0, if IOC
abbrev pub report_success : TdInfo → TdProgress → ℕ → Bool → ℕ → Out TdProgress
report_success td w edtla ioc a = report_trb td w edtla ioc a 0 Success

-- 01, IN endpoint: EventData with IOC logs its value, the EDTLA, flag 1; with or without IOC the EDTLA then returns to 0
abbrev pub handle_event_data : TdInfo → TdProgress → EventDataTrb → Out TdProgress
handle_event_data td w t =
    progressed w w.start 0 w.state
    (when t.interrupt_on_completion (transfer_event t.event_data w.edtla (code_after w.state) true td.endpoint_id td.slot_id))
