-- The engine's words in those of the public texts. Assumes nothing.
use Rattle.std.specs.Prelude.{ℕ, ◌+◌, ◌<◌, ◌≤◌, ◌≡◌, Bool, true, false, cond, ◌&&◌, List, [], ◌∷◌, ◌++◌, eqb, leb}
use Rattle.std.proofs.Math.Option.{Option, none, some}
use Rattle.trb.specs.declared.InTrbProcessingStatus.{InTrbProcessingStatus}
use Rattle.trb.specs.declared.InTrbProcessingStatus.TheVariants as status
use Rattle.trb.specs.declared.TransferTrb.{TransferTrb}
use Rattle.trb.specs.declared.TransferTrbVariant.{TransferTrbVariant}
use Rattle.trb.specs.declared.TransferTrbVariant.TheVariants.{SetupStage, DataStage, StatusStage, Normal, EventData, NoOp, Isoch, Unrecognized}
use Rattle.trb.specs.declared.TrbProcessingResult.{TrbProcessingResult}
use Rattle.trb.specs.declared.TrbProcessingResult.TheVariants as result
use Rattle.call_log.specs.Records.{write_kind, event_kind}
use Rattle.call_log.specs.declared.Record.{Record}
use Rattle.in_td.specs.Td.{normals}
use Rattle.in_td.specs.declared.InMode.{InMode}
use Rattle.in_td.specs.declared.InMode.TheVariants.{AsPorted, Strict}
use Rattle.standard.specs.Xhci.{Trb, normal, stage, event_data, no_op, TransferEvent, transfer_event, Ending, succeeded, stalled, unanswered, Outcome, ended, failed, stall_error, usb_transaction_error, asked, short_residual, Delivery, delivery, deliver_if}

-- ---- TRBs of an IN TD

-- the kinds that an IN block holds; it never holds another, and the walk does nothing with one
abbrev pub trb_by_kind : TransferTrbVariant → ℕ → List Trb
trb_by_kind (Normal t) a = normal a t.data_pointer t.transfer_length t.interrupt_on_completion t.interrupt_on_short ∷ []
trb_by_kind (EventData t) a = event_data a t.event_data t.interrupt_on_completion ∷ []
trb_by_kind (NoOp t) a = no_op a t.interrupt_on_completion ∷ []
trb_by_kind (SetupStage t) a = []
trb_by_kind (DataStage t) a = []
trb_by_kind (StatusStage t) a = []
trb_by_kind Isoch a = []
trb_by_kind Unrecognized a = []

abbrev pub td_of : List TransferTrb → List Trb
td_of [] = []
td_of (t ∷ ts) = trb_by_kind t.variant t.addr ++ td_of ts

-- ---- Records of a log

-- xHCI 1.2, 6.4.2.1: what an event record tells; its flag is ED
abbrev pub event_of : Record → TransferEvent
event_of r = transfer_event r.code (eqb r.flag 1) r.address r.length

-- the events of a log, in its order
abbrev pub told : List Record → List TransferEvent
told [] = []
told (r ∷ rs) = cond (eqb r.kind event_kind) (event_of r ∷ told rs) (told rs)

-- its writes of at least one byte
abbrev pub wrote : List Record → List Delivery
wrote [] = []
wrote (r ∷ rs) = cond (eqb r.kind write_kind) (deliver_if r.length (delivery r.address r.length r.start) ++ wrote rs) (wrote rs)

-- ---- Status and result

-- how the device ended the transfer. The public texts know no disconnect: a device that is gone does not answer
abbrev pub ending_of : InTrbProcessingStatus → Ending
ending_of status.Success = succeeded
ending_of status.Stall = stalled
ending_of status.TransactionError = unanswered
ending_of status.Disconnect = unanswered

-- 01, IN endpoint: a transfer ends in error only where n < S; data beyond S is dropped. 02, R-4: in strict mode it ends in error
-- however many bytes came
abbrev pub in_outcome : InMode → InTrbProcessingStatus → (n requested : ℕ) → Outcome
in_outcome mode status.Success n requested = ended
in_outcome AsPorted status.Stall n requested = cond (leb requested n) ended (failed stall_error)
in_outcome AsPorted status.TransactionError n requested = cond (leb requested n) ended (failed usb_transaction_error)
in_outcome AsPorted status.Disconnect n requested = cond (leb requested n) ended (failed usb_transaction_error)
in_outcome Strict status.Stall n requested = failed stall_error
in_outcome Strict status.TransactionError n requested = failed usb_transaction_error
in_outcome Strict status.Disconnect n requested = failed usb_transaction_error

-- the bytes of a result for which that is the standard's outcome: at most S under Success; under an error fewer as ported, and any
-- number in strict mode
abbrev pub Agreed : InMode → InTrbProcessingStatus → (n requested : ℕ) → Type 0
Agreed mode status.Success n requested = n ≤ requested
Agreed AsPorted status.Stall n requested = n < requested
Agreed AsPorted status.TransactionError n requested = n < requested
Agreed AsPorted status.Disconnect n requested = n < requested
Agreed Strict status.Stall n requested = Unit {0}
Agreed Strict status.TransactionError n requested = Unit {0}
Agreed Strict status.Disconnect n requested = Unit {0}

-- a TD that the device was asked for has a Normal; only a failure in strict mode has need of it
abbrev pub HasNormal : InMode → InTrbProcessingStatus → List TransferTrb → Type 0
HasNormal mode status.Success ts = Unit {0}
HasNormal AsPorted status.Stall ts = Unit {0}
HasNormal AsPorted status.TransactionError ts = Unit {0}
HasNormal AsPorted status.Disconnect ts = Unit {0}
HasNormal Strict status.Stall ts = 0 < normals ts
HasNormal Strict status.TransactionError ts = 0 < normals ts
HasNormal Strict status.Disconnect ts = 0 < normals ts

-- what a result says of the endpoint: it runs on, or it halts, at the TRB that the result names, if it names one
pub data Halt : Type 0 where
  runs_on halts : Halt
  halts_at : (address : ℕ) → Halt

abbrev pub halt_of : TrbProcessingResult → Halt
halt_of result.Ok = runs_on
halt_of result.Stall = halts
halt_of (result.StallAt a cycle) = halts_at a
halt_of result.TrbError = halts
halt_of result.TransactionError = halts
halt_of (result.TransactionErrorAt a cycle) = halts_at a
halt_of result.Disconnect = halts

-- the same for a status and the address, if any, at which the standard's endpoint halts; Disconnect names none
abbrev pub in_halt : InTrbProcessingStatus → Option ℕ → Halt
in_halt st none = runs_on
in_halt status.Success (some a) = halts
in_halt status.Stall (some a) = halts_at a
in_halt status.TransactionError (some a) = halts_at a
in_halt status.Disconnect (some a) = halts

-- ---- Normals passed after a short packet

-- each one with IOC is as long as what the short one misses
abbrev pub SamePassed : (n : ℕ) (before ts : List Trb) → Type 0
SamePassed n before [] = Unit {0}
SamePassed n before (normal a p l ioc isp ∷ ts) =
    (ioc ≡ true → n < asked before → short_residual n before ≡ l) × SamePassed n (normal a p l ioc isp ∷ before) ts
SamePassed n before (stage a ioc ∷ ts) = SamePassed n (stage a ioc ∷ before) ts
SamePassed n before (event_data a v ioc ∷ ts) = SamePassed n (event_data a v ioc ∷ before) ts
SamePassed n before (no_op a ioc ∷ ts) = SamePassed n (no_op a ioc ∷ before) ts

-- ---- Event Data

-- the lengths of the events with ED, in one sum
abbrev pub event_lengths : List TransferEvent → ℕ
event_lengths [] = 0
event_lengths (transfer_event code ed pointer length ∷ es) = cond ed length 0 + event_lengths es

-- every Event Data TRB has IOC
abbrev pub every_event_data_tells : List Trb → Bool
every_event_data_tells [] = true
every_event_data_tells (normal a p l ioc isp ∷ ts) = every_event_data_tells ts
every_event_data_tells (stage a ioc ∷ ts) = every_event_data_tells ts
every_event_data_tells (event_data a v ioc ∷ ts) = ioc && every_event_data_tells ts
every_event_data_tells (no_op a ioc ∷ ts) = every_event_data_tells ts

-- the last TRB is an Event Data TRB
abbrev pub ends_in_event_data : List Trb → Bool
ends_in_event_data [] = false
ends_in_event_data (normal a p l ioc isp ∷ ts) = ends_in_event_data ts
ends_in_event_data (stage a ioc ∷ ts) = ends_in_event_data ts
ends_in_event_data (event_data a v ioc ∷ []) = true
ends_in_event_data (event_data a v ioc ∷ t ∷ ts) = ends_in_event_data (t ∷ ts)
ends_in_event_data (no_op a ioc ∷ ts) = ends_in_event_data ts
