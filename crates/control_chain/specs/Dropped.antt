-- 01, Control endpoint: Success for each held TRB with IOC, where the TRBs held are dropped. Assumes nothing.
use Rattle.std.specs.Prelude.{Bool, false, List, [], ◌∷◌, ◌++◌}
use Rattle.trb.specs.declared.CompletionCode.TheVariants.{Success}
use Rattle.trb.specs.declared.EndpointId.{EndpointId}
use Rattle.trb.specs.declared.SlotId.{SlotId}
use Rattle.trb.specs.declared.TransferTrb.{TransferTrb}
use Rattle.trb.specs.declared.TransferTrbVariant.{TransferTrbVariant}
use Rattle.trb.specs.declared.TransferTrbVariant.TheVariants.{SetupStage, DataStage, StatusStage, Normal, EventData, NoOp, Isoch, Unrecognized}
use Rattle.call_log.specs.declared.Record.{Record}
use Rattle.call_log.specs.Calls.{Out}
use Rattle.call_log.specs.Records.{transfer_event, when}
use Rattle.td_part.specs.declared.TdInfo.{TdInfo}
use Rattle.td_part.specs.declared.TdProgress.{TdProgress}
use Rattle.td_part.specs.Parts.{report_success}

-- IOC, of a kind that has it
abbrev pub interrupt_of : TransferTrbVariant → Bool
interrupt_of (SetupStage t) = t.interrupt_on_completion
interrupt_of (DataStage t) = t.interrupt_on_completion
interrupt_of (StatusStage t) = t.interrupt_on_completion
interrupt_of (Normal t) = t.interrupt_on_completion
interrupt_of (EventData t) = t.interrupt_on_completion
interrupt_of (NoOp t) = t.interrupt_on_completion
interrupt_of Isoch = false
interrupt_of Unrecognized = false

-- Success, residual 0, at the TRB's address
abbrev pub success_of : EndpointId → SlotId → TransferTrb → List Record
success_of e s t = when (interrupt_of t.variant) (transfer_event t.addr 0 Success false e s)

-- for each held TRB with IOC
unfoldable pub successes : EndpointId → SlotId → List TransferTrb → List Record
successes e s [] = []
successes e s (t ∷ ts) = success_of e s t ++ successes e s ts

-- a TRB has its turn
abbrev pub report_dropped : TdInfo → TdProgress → TransferTrb → Out TdProgress
report_dropped td w t = report_success td w 0 (interrupt_of t.variant) t.addr
