-- A row by single calls: each TRB is submitted and its completion asked for, TD after TD, until one does not go well. What they log is
-- joined, each TD's with its starts moved by the data before it. Assumes nothing.
use Rattle.std.specs.Prelude.{ℕ, ◌+◌, ◌≡◌, Bool, false, not, cond, List, [], ◌∷◌, ◌++◌, map, replicate, Err, None, Ok, Option, Some}
use Rattle.trb.specs.Limits.{max_held}
use Rattle.trb.specs.Answers.{CompletionAnswer}
use Rattle.trb.specs.declared.InTrbProcessingStatus.{InTrbProcessingStatus}
use Rattle.trb.specs.declared.TransferTrb.{TransferTrb}
use Rattle.trb.specs.declared.TrbProcessingResult.TheVariants as result
use Rattle.call_log.specs.Calls.{Out, silent}
use Rattle.held.specs.Places.{blank_trb}
use Rattle.guest_memory.specs.declared.Regions.{Regions}
use Rattle.walks.specs.Walk.{join, walk}
use Rattle.in_td.specs.Td.{is_error}
use Rattle.in_block.specs.declared.InBlock.{InBlock}
use Rattle.in_endpoint.specs.Completion.{completion}
use Rattle.in_endpoint.specs.Submission.{submission}
use Rattle.in_endpoint.specs.Returned.{Submitted}
use Rattle.row_walk.specs.Rows.{RowTd, row_tds, has_normal, moved_by}
use Rattle.row_walk.specs.declared.TdResult.{TdResult}
use Rattle.in_row.specs.Completion.{row_completion}

-- behind a completion: its answer, and the block
pub record Called : Type 0 where
  pub answer : CompletionAnswer
  pub block : InBlock

-- accepted, and no failing result
abbrev pub went_well : CompletionAnswer → Bool
went_well (Ok r) = not (is_error r)
went_well (Err q) = false

-- the completion behind a submission, with this device result and n bytes
abbrev pub completed_behind : ℕ → Option InTrbProcessingStatus → ℕ → Out Submitted → Out Called
completed_behind l r n submitted =
    let completed = completion l submitted.state.block r n in
    record { state = record { answer = completed.state.answer; block = completed.state.block }; records = submitted.records ++ completed.records }

-- a submission, and its completion
unfoldable pub two_calls : ℕ → Regions → InBlock → TransferTrb → Option InTrbProcessingStatus → ℕ → Out Called
two_calls l regions b t r n = completed_behind l r n (submission l b t regions)

-- and those behind, if they went well
abbrev pub onward : Out Called → Out Called → Out Called
onward o p = cond (went_well o.state.answer) (join o p) o

-- the TRBs of a TD: the last completion has what the device gave
unfoldable pub td_calls : ℕ → Regions → InBlock → List TransferTrb → Option InTrbProcessingStatus → ℕ → Out Called
td_calls l regions b [] r n = silent (record { answer = Ok result.Ok; block = b })
td_calls l regions b (t ∷ []) r n = two_calls l regions b t r n
td_calls l regions b (t ∷ u ∷ ts) r n = onward (two_calls l regions b t None 0) (td_calls l regions (two_calls l regions b t None 0).state.block (u ∷ ts) r n)

-- a TD without a Normal has no device result
abbrev pub result_for : RowTd → Option InTrbProcessingStatus
result_for x = cond (has_normal x.trbs) (Some x.given.status) None

-- behind a TD: how many were finished well, the last answer, the bytes given so far, and the block
pub record RowCalled : Type 0 where
  pub finished : ℕ
  pub answer : CompletionAnswer
  pub start : ℕ
  pub block : InBlock

abbrev pub behind_td : RowCalled → ℕ → Called → RowCalled
behind_td w n c = record {
  finished = cond (went_well c.answer) (w.finished + 1) w.finished;
  answer = c.answer;
  start = w.start + n;
  block = c.block;
}

unfoldable pub td_called : ℕ → Regions → RowCalled → RowTd → Out RowCalled
td_called l regions w x =
    let called = td_calls l regions w.block x.trbs (result_for x) x.given.length in
    record { state = behind_td w x.given.length called.state; records = map (moved_by w.start) called.records }

abbrev pub ended_badly : RowCalled → Bool
ended_badly w = not (went_well w.answer)

abbrev pub uncalled : InBlock → RowCalled
uncalled b = record { finished = 0; answer = Ok result.Ok; start = 0; block = b }

-- with logs of l bytes each
abbrev pub row_calls : ℕ → Regions → InBlock → List RowTd → Out RowCalled
row_calls l regions b xs = walk (td_called l regions) ended_badly (uncalled b) xs

-- the row is the fold of the single calls. (Free places that hold something, as only a made-up block has them, are blanked by single calls as
-- they are used; a row does not use them.)
pub record FoldOfCalls (l : ℕ) (b : InBlock) (k : ℕ) (ts : List TransferTrb) (m : ℕ) (rs : List TdResult) (n : ℕ) (regions : Regions) : Type 0 where
  pub records : (row_completion l b k ts m rs n regions).records ≡ (row_calls l regions b (row_tds ts rs)).records
  pub finished : (row_completion l b k ts m rs n regions).state.finished ≡ (row_calls l regions b (row_tds ts rs)).state.finished
  pub answer : (row_completion l b k ts m rs n regions).state.answer ≡ (row_calls l regions b (row_tds ts rs)).state.answer
  pub block : b.trbs ≡ replicate max_held blank_trb → (row_completion l b k ts m rs n regions).state.block ≡ (row_calls l regions b (row_tds ts rs)).state.block
