-- 02, R-7: what is done of a row once every question was answered with yes, and the promise of the call. Assumes nothing.
use Rattle.std.specs.Prelude.{ℕ, ◌≡◌, true, List, length, Err, Ok}
use Rattle.trb.specs.Answers.{number_of, refusal_of, said}
use Rattle.trb.specs.Questions.{first_no, after_questions}
use Rattle.trb.specs.Answers.{CompletionAnswer}
use Rattle.trb.specs.declared.TdBasedNormalSubmissionState.TheVariants.{SubmissionDue}
use Rattle.trb.specs.declared.TransferTrb.{TransferTrb}
use Rattle.trb.specs.declared.TrbProcessingResult.{TrbProcessingResult}
use Rattle.trb.specs.declared.TrbProcessingResult.TheVariants as result
use Rattle.call_log.specs.Calls.{Out, silent, Meets}
use Rattle.call_log.specs.Logs.{records_in}
use Rattle.call_log.specs.declared.Record.{Record}
use Rattle.guest_memory.specs.declared.Regions.{Regions}
use Rattle.in_block.specs.Blocks.{emptied}
use Rattle.in_block.specs.Facts.{facts_of}
use Rattle.in_block.specs.declared.InBlock.{InBlock}
use Rattle.in_endpoint.specs.Completion.{is_accepted}
use Rattle.row_walk.specs.Accounts.{started_by, RowAccounted}
use Rattle.row_walk.specs.Rows.{row_tds, process_row}
use Rattle.row_walk.specs.declared.RowProgress.{RowProgress}
use Rattle.row_walk.specs.declared.TdResult.{TdResult}
use Rattle.row_questions.specs.Questions.{row_questions}
use Rattle.in_row.specs.declared.TdsCompleted.{TdsCompleted}

-- a no ends the call with its number, zero records, and block and log unchanged
abbrev pub refused : InBlock → ℕ → Out TdsCompleted
refused b n = silent (record { answer = Err (refusal_of n); finished = 0; records = 0; block = b })

-- the answer gives how many were finished well and the failing result, else Ok; the block ends empty, and a submission is due
abbrev pub walked : InBlock → Out RowProgress → Out TdsCompleted
walked b o = record {
  state = record { answer = Ok o.state.result; finished = o.state.finished; records = o.state.records; block = emptied b SubmissionDue };
  records = o.records;
}

-- with a log of l bytes: of k TRBs ts, with m results rs and n bytes of data
unfoldable pub row_completion : ℕ → InBlock → ℕ → List TransferTrb → ℕ → List TdResult → ℕ → Regions → Out TdsCompleted
row_completion l b k ts m rs n regions =
    after_questions (row_questions l regions (facts_of b) k ts m rs n) (refused b) (walked b (process_row b.endpoint_id b.slot_id b.mode ts rs))

-- the result of an accepted call
abbrev pub result_of : CompletionAnswer → TrbProcessingResult
result_of (Ok r) = r
result_of (Err q) = result.Ok

-- 02, R-7: the account rule is stated for each TD that was started
abbrev pub AccountedTds : List TransferTrb → List TdResult → TdsCompleted → List Record → Type 0
AccountedTds ts rs r log = is_accepted r.answer ≡ true → RowAccounted (row_tds ts rs) (started_by r.finished (result_of r.answer)) log

-- of a row with the log l, which returned r and left the log l'
pub record CompletesTds (b : InBlock) (k : ℕ) (ts : List TransferTrb) (m : ℕ) (rs : List TdResult) (n : ℕ) (regions : Regions) (l : List ℕ) (r : TdsCompleted) (l' : List ℕ) : Type 0 where
  pub number : number_of r.answer ≡ first_no (row_questions (length l) regions (facts_of b) k ts m rs n)
  pub met : Meets (row_completion (length l) b k ts m rs n regions) 0 l r l'
  pub result : said r.answer ≡ said (row_completion (length l) b k ts m rs n regions).state.answer
  pub account : AccountedTds ts rs r (records_in r.records l')
