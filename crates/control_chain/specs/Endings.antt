-- 01, Control endpoint: what a completion logs, by what it does. Assumes nothing.
use Rattle.std.specs.Prelude.{ℕ, Bool, false, List, [], ◌∷◌, ◌++◌, is_some, unwrap_or}
use Rattle.trb.specs.declared.CompletionCode.{CompletionCode}
use Rattle.trb.specs.declared.CompletionCode.TheVariants.{TrbError}
use Rattle.trb.specs.declared.EndpointId.{EndpointId}
use Rattle.trb.specs.declared.SlotId.{SlotId}
use Rattle.trb.specs.declared.TransferTrb.{TransferTrb}
use Rattle.call_log.specs.declared.Record.{Record}
use Rattle.call_log.specs.Calls.{Out, silent}
use Rattle.call_log.specs.Records.{transfer_event}
use Rattle.td_part.specs.declared.TdInfo.{TdInfo}
use Rattle.td_part.specs.declared.TdProgress.{TdProgress}
use Rattle.control_block.specs.declared.Ending.{Ending}
use Rattle.control_block.specs.declared.Ending.TheVariants.{KeepCollecting, ReportBadTrb, Fail, Realize}
use Rattle.control_chain.specs.declared.ControlTd.{ControlTd}
use Rattle.control_chain.specs.Chain.{realize_trb, realize_chain}
use Rattle.control_chain.specs.Dropped.{successes, report_dropped}

-- an event at this address, residual 0
abbrev pub event_of : ℕ → CompletionCode → EndpointId → SlotId → Record
event_of a c e s = transfer_event a 0 c false e s

-- a transfer with n bytes of device data, where it is IN
abbrev pub transfer_td : EndpointId → SlotId → Bool → ℕ → ControlTd
transfer_td e s input n = record { info = record { endpoint_id = e; slot_id = s; data_length = n }; input = input }

-- the TRBs held are ts. A bad TRB: Success for held TRBs with IOC, then code 5 at the bad TRB. A failure: one event, at the address a.
-- Otherwise the walk over the held TRBs
unfoldable pub ending_records : Ending → ℕ → EndpointId → SlotId → List TransferTrb → List Record
ending_records KeepCollecting a e s ts = []
ending_records (ReportBadTrb bad) a e s ts = successes e s ts ++ (event_of bad TrbError e s ∷ [])
ending_records (Fail c r) a e s ts = event_of a c e s ∷ []
ending_records (Realize given) a e s ts = (realize_chain (transfer_td e s (is_some given) (unwrap_or given 0)) ts).records

-- ---- The same, TRB by TRB

-- the bytes of device data that count
abbrev pub data_counted : Ending → ℕ
data_counted KeepCollecting = 0
data_counted (ReportBadTrb bad) = 0
data_counted (Fail c r) = 0
data_counted (Realize given) = unwrap_or given 0

abbrev pub info_of : Ending → EndpointId → SlotId → TdInfo
info_of x e s = record { endpoint_id = e; slot_id = s; data_length = data_counted x }

-- a TRB held has its turn
abbrev pub next_trb : Ending → TdInfo → TdProgress → TransferTrb → Out TdProgress
next_trb KeepCollecting td w t = silent w
next_trb (ReportBadTrb bad) td w t = report_dropped td w t
next_trb (Fail c r) td w t = silent w
next_trb (Realize given) td w t = realize_trb (record { info = td; input = is_some given }) w t

-- the event behind those of the TRBs held
abbrev pub last_records : Ending → ℕ → EndpointId → SlotId → List Record
last_records KeepCollecting a e s = []
last_records (ReportBadTrb bad) a e s = event_of bad TrbError e s ∷ []
last_records (Fail c r) a e s = event_of a c e s ∷ []
last_records (Realize given) a e s = []
