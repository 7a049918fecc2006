-- 02, R-4, an error at the last byte: what a TD in strict mode logs, over the log that the same TD has as ported. Assumes nothing.
use Rattle.std.specs.Prelude.{ℕ, suc, Bool, true, false, cond, ◌&&◌, List, [], ◌∷◌, ◌++◌, leb, take}
use Rattle.std.proofs.Math.Option.{Option, none, some}
use Rattle.trb.specs.declared.CompletionCode.{CompletionCode}
use Rattle.trb.specs.declared.CompletionCode.TheVariants as code
use Rattle.trb.specs.declared.EndpointId.{EndpointId}
use Rattle.trb.specs.declared.InTrbProcessingStatus.{InTrbProcessingStatus}
use Rattle.trb.specs.declared.InTrbProcessingStatus.TheVariants as status
use Rattle.trb.specs.declared.SlotId.{SlotId}
use Rattle.trb.specs.declared.TransferTrb.{TransferTrb}
use Rattle.trb.specs.declared.TrbProcessingResult.{TrbProcessingResult}
use Rattle.trb.specs.declared.TrbProcessingResult.TheVariants as result
use Rattle.call_log.specs.Calls.{Out}
use Rattle.call_log.specs.Records.{transfer_event}
use Rattle.call_log.specs.declared.Record.{Record}
use Rattle.in_td.specs.Td.{is_normal, process_td, in_td}
use Rattle.in_td.specs.declared.InMode.TheVariants.{AsPorted}
use Rattle.in_td.specs.declared.TdProcessed.{TdProcessed}
use Rattle.in_td.specs.Normals.{requested}
use Rattle.account.specs.Guest.{is_write, before_last}

-- a status other than Success
abbrev pub is_failure : InTrbProcessingStatus → Bool
is_failure status.Success = false
is_failure status.Stall = true
is_failure status.TransactionError = true
is_failure status.Disconnect = true

-- the status's code
abbrev pub failure_code : InTrbProcessingStatus → CompletionCode
failure_code status.Success = code.Success
failure_code status.Stall = code.StallError
failure_code status.TransactionError = code.UsbTransactionError
failure_code status.Disconnect = code.UsbTransactionError

-- that result, at a TRB with this address and cycle bit
abbrev pub failure_result : InTrbProcessingStatus → ℕ → Bool → TrbProcessingResult
failure_result status.Success a cycle = result.Ok
failure_result status.Stall a cycle = result.StallAt a cycle
failure_result status.TransactionError a cycle = result.TransactionErrorAt a cycle
failure_result status.Disconnect a cycle = result.Disconnect

-- the last of two, where there is one
abbrev pub last_of : {A : Type 0} → Option A → Option A → Option A
last_of x none = x
last_of x (some y) = some y

-- a TD's last Normal
abbrev pub last_normal : List TransferTrb → Option TransferTrb
last_normal [] = none
last_normal (t ∷ ts) = last_of (cond (is_normal t.variant) (some t) none) (last_normal ts)

-- a log through its last write
abbrev pub through_last_write : List Record → List Record
through_last_write rs = take (suc (before_last is_write rs)) rs

-- what a TD logs, and its result
pub record LogAndResult : Type 0 where
  pub records : List Record
  pub result : TrbProcessingResult

abbrev pub log_and_result : Out TdProcessed → LogAndResult
log_and_result o = record { records = o.records; result = o.state.result }

-- at its last Normal, after the write and in place of any Success there, an event with the status's code and residual 0 whatever the
-- flags, and ends there with that result
abbrev pub failed_at : Option TransferTrb → EndpointId → SlotId → InTrbProcessingStatus → LogAndResult → LogAndResult
failed_at none e s st ported = ported
failed_at (some t) e s st ported = record {
  records = through_last_write ported.records ++ transfer_event t.addr 0 (failure_code st) false e s ∷ [];
  result = failure_result st t.addr t.cycle_bit;
}

-- a TD with a Normal, a status other than Success and n at least S; any other is as ported
abbrev pub strictly : EndpointId → SlotId → InTrbProcessingStatus → ℕ → List TransferTrb → LogAndResult
strictly e s st n ts =
    let ported = log_and_result (process_td (in_td e s AsPorted st n) ts) in
    cond (is_failure st && leb (requested ts) n) (failed_at (last_normal ts) e s st ported) ported
