-- 02, R-7: what a row of TDs logs and answers, TD by TD, over lists of any length. Assumes nothing.
use Rattle.std.specs.Prelude.{ℕ, ◌+◌, ◌*◌, ◌<◌, ◌≤◌, ◌^◌, ◌≡◌, Bool, true, not, cond, List, [], ◌∷◌, ◌++◌, map, eqb, length, drop}
use Rattle.trb.specs.Limits.{record_length}
use Rattle.trb.specs.declared.EndpointId.{EndpointId}
use Rattle.trb.specs.declared.InTrbProcessingStatus.TheVariants.{Disconnect}
use Rattle.trb.specs.declared.SlotId.{SlotId}
use Rattle.trb.specs.declared.TransferTrb.{TransferTrb}
use Rattle.trb.specs.declared.TrbProcessingResult.{TrbProcessingResult}
use Rattle.trb.specs.declared.TrbProcessingResult.TheVariants as result
use Rattle.call_log.specs.Calls.{Out}
use Rattle.call_log.specs.Records.{when}
use Rattle.call_log.specs.declared.Record.{Record}
use Rattle.walks.specs.Walk.{walk}
use Rattle.td_part.specs.declared.TdProcessingState.TheVariants.{Default}
use Rattle.in_td.specs.Td.{normals, normal_count, going_on, in_td, process_td, is_error}
use Rattle.in_td.specs.declared.InMode.{InMode}
use Rattle.in_td.specs.declared.InTd.{InTd}
use Rattle.in_td.specs.declared.TdProcessed.{TdProcessed}
use Rattle.in_td.specs.Normals.{normal_length, requested}
use Rattle.account.specs.Guest.{is_write}
use Rattle.in_endpoint.specs.Submission.{request_of}
use Rattle.row_walk.specs.declared.RowProgress.{RowProgress}
use Rattle.row_walk.specs.declared.TdAsk.{TdAsk}
use Rattle.row_walk.specs.declared.TdLooked.{TdLooked}
use Rattle.row_walk.specs.declared.TdResult.{TdResult}
use Rattle.row_walk.specs.Tds.{tds_of, endsTd, first_td}

-- a TD and its device result
pub record RowTd : Type 0 where
  pub trbs : List TransferTrb
  pub given : TdResult

-- each TD with its result
unfoldable pub with_results : List (List TransferTrb) → List TdResult → List RowTd
with_results [] rs = []
with_results (td ∷ tds) [] = []
with_results (td ∷ tds) (r ∷ rs) = record { trbs = td; given = r } ∷ with_results tds rs

-- the TDs of a row, each with its result
abbrev pub row_tds : List TransferTrb → List TdResult → List RowTd
row_tds ts rs = with_results (tds_of ts) rs

-- ---- One TD

-- a record whose start, if it is a write's, is moved by n bytes
abbrev pub moved_by : ℕ → Record → Record
moved_by n r = record {
  kind = r.kind;
  code = r.code;
  flag = r.flag;
  endpoint_id = r.endpoint_id;
  slot_id = r.slot_id;
  address = r.address;
  length = r.length;
  start = cond (is_write r) (n + r.start) r.start;
  request_type = r.request_type;
  request = r.request;
  value = r.value;
  index = r.index;
}

-- the walk over a TD of the row, alone
abbrev pub completed : EndpointId → SlotId → InMode → RowTd → Out TdProcessed
completed e s mode x = process_td (in_td e s mode x.given.status x.given.length) x.trbs

abbrev pub has_normal : List TransferTrb → Bool
has_normal ts = not (eqb (normals ts) 0)

-- 02, R-7: a TD's own log is its request, if any, and then its completion
unfoldable pub own_log : EndpointId → SlotId → InMode → RowTd → List Record
own_log e s mode x = when (has_normal x.trbs) (request_of x.trbs e s) ++ (completed e s mode x).records

-- ---- The row

-- nothing is started
abbrev pub unstarted : RowProgress
unstarted = record { finished = 0; result = result.Ok; start = 0; records = 0 }

-- behind a TD with this result: finished well, or failed; the next one's data starts behind its own
abbrev pub td_done : RowProgress → TdResult → TrbProcessingResult → ℕ → RowProgress
td_done w r res records = record {
  finished = cond (is_error res) w.finished (w.finished + 1);
  result = res;
  start = w.start + r.length;
  records = records;
}

-- 02, R-7: logs stand one behind the other, each equal to that TD's own with its starts moved by the data before it
unfoldable pub td_in_row : EndpointId → SlotId → InMode → RowProgress → RowTd → Out RowProgress
td_in_row e s mode w x = record {
  state = td_done w x.given (completed e s mode x).state.result (w.records + length (own_log e s mode x));
  records = map (moved_by w.start) (own_log e s mode x);
}

-- 02, R-7: a failing TRB ends the walk over its TD and over the row
abbrev pub failed : RowProgress → Bool
failed w = is_error w.result

-- the walk over the TDs of a row, as `process_td` is the walk over the TRBs of a TD
abbrev pub process_row : EndpointId → SlotId → InMode → List TransferTrb → List TdResult → Out RowProgress
process_row e s mode ts rs = walk (td_in_row e s mode) failed unstarted (row_tds ts rs)

-- ---- What a TD asks of the device, TRB by TRB: S, and its Normals

abbrev pub nothing_asked : TdAsk
nothing_asked = record { length = 0; normals = 0 }

abbrev pub asked_more : TdAsk → TransferTrb → TdAsk
asked_more a t = record { length = a.length + normal_length t; normals = a.normals + normal_count t.variant }

-- the TD whose first TRB has this index: S, its Normals, and the index behind its last TRB
abbrev pub looked_at : List TransferTrb → ℕ → TdLooked
looked_at ts first =
    let td : List TransferTrb = first_td (drop first ts) in
    record { asked = record { length = requested td; normals = normals td }; end = first + length td }

-- ---- How the code walks a TD: from where it stands in the row's data and log

-- before the first TRB of a TD with so many Normals, whose data starts at byte `start`, with so many records logged
abbrev pub from : ℕ → ℕ → ℕ → TdProcessed
from start records left = going_on left (record { start = start; edtla = 0; state = Default; records = records })

-- a TD whose data ends `length` bytes behind `start`
abbrev pub td_from : EndpointId → SlotId → InMode → ℕ → TdResult → InTd
td_from e s mode start r = in_td e s mode r.status (start + r.length)

-- bytes given for these TDs
unfoldable pub data_length : List TdResult → ℕ
data_length [] = 0
data_length (r ∷ rs) = r.length + data_length rs

-- what the questions leave, of a row with these results and a log of l bytes: whole TDs, a result for each, room for a request to
-- each TD and two records to each TRB, and numbers that fit
pub record Walkable (ts : List TransferTrb) (rs : List TdResult) (l : ℕ) : Type 0 where
  pub whole : endsTd ts ≡ true
  pub each : length (tds_of ts) ≡ length rs
  pub room : record_length * (3 * length ts) ≤ l
  pub asked : requested ts < 2 ^ 32
  pub given : data_length rs < 2 ^ 32

-- what a read past the end of the results would give
abbrev pub past_results : TdResult
past_results = record { status = Disconnect; length = 0 }
