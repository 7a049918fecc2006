-- 01, IN endpoint: a transfer ends in error only where n < S. Assumes nothing.
use Rattle.std.specs.Prelude.{◌≡◌, Bool, false, not, ◌&&◌, eqb}
use Rattle.trb.specs.Codes.{code_number}
use Rattle.trb.specs.declared.CompletionCode.TheVariants.{Success}
use Rattle.trb.specs.declared.TrbProcessingResult.TheVariants as result
use Rattle.call_log.specs.Calls.{Out}
use Rattle.call_log.specs.declared.Record.{Record}
use Rattle.in_td.specs.declared.TdProcessed.{TdProcessed}
use Rattle.account.specs.Guest.{is_event, any}

-- an event, with or without the event-data flag, whose code is not Success
abbrev pub not_success : Record → Bool
not_success r = is_event r && not (eqb r.code (code_number Success))

-- of a TD: its result is Ok, and every event has code Success
pub record Succeeds (o : Out TdProcessed) : Type 0 where
  pub result : o.state.result ≡ result.Ok
  pub codes : any not_success o.records ≡ false
