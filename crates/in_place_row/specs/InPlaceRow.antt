-- A row of TDs in place: by the definitions of the row by value (in_row), of the block, the row and the results that the bytes are. Assumes
-- nothing.
use Rattle.std.specs.Prelude.{ℕ, ◌+◌, ◌≤◌, ◌≡◌, Bool, true, false, cond, List, eqb, length, get_or, Ok}
use Rattle.trb.specs.Limits.{max_transfer_length}
use Rattle.trb.specs.Questions.{first_no}
use Rattle.trb.specs.Answers.{CompletionAnswer}
use Rattle.buffers.specs.LittleEndian.{le_field}
use Rattle.call_log.specs.Calls.{Out, Meets}
use Rattle.call_log.specs.Logs.{records_in}
use Rattle.guest_memory.specs.Places.{range_inside}
use Rattle.guest_memory.specs.declared.Regions.{Regions}
use Rattle.in_block.specs.Facts.{facts_of}
use Rattle.raw_trb.specs.Layouts.{normal_type}
use Rattle.held_bytes.specs.Numbers.{chain_on, immediate_on}
use Rattle.answer_numbers.specs.Numbers.{completion_answered}
use Rattle.in_bytes.specs.Layout.{block_of}
use Rattle.row_walk.specs.Accounts.{RowAccounted}
use Rattle.row_walk.specs.Rows.{row_tds}
use Rattle.row_questions.specs.Questions.{row_questions}
use Rattle.row_questions.specs.declared.RowTest.{RowTest}
use Rattle.in_row.specs.Completion.{row_completion}
use Rattle.in_row.specs.declared.TdsCompleted.{TdsCompleted}
use Rattle.row_bytes.specs.Layout.{trbs_in, results_in, row_count}
use Rattle.in_place_row.specs.declared.RowAnswered.{RowAnswered}

-- ---- A TRB of the row

-- the place at the front of l has a Normal with chain on, and questions 4, 21 and 6 say yes
pub record Taken (l : List ℕ) (regions : Regions) : Type 0 where
  pub kind : get_or l 20 0 ≡ normal_type
  pub chain : chain_on (get_or l 21 0) ≡ true
  pub from-memory : immediate_on (get_or l 21 0) ≡ false
  pub short : le_field 16 4 l ≤ max_transfer_length
  pub inside : range_inside regions (le_field 8 8 l) (le_field 16 4 l) ≡ true

-- what is found with one such Normal more, where nothing was refused before
abbrev pub with_normal : RowTest → RowTest
with_normal a = record {
  asked = Ok tt;
  held = a.held + 1;
  supported = a.supported;
  tds = a.tds;
  has_normal = true;
  given_rightly = a.given_rightly;
  given = a.given;
}

-- ---- The call

-- the answer by numbers
abbrev pub row_answered : CompletionAnswer → ℕ → ℕ → RowAnswered
row_answered a finished n = record {
  number = (completion_answered a n).number;
  result = (completion_answered a n).result;
  code = (completion_answered a n).code;
  located = (completion_answered a n).located;
  cycle_bit = (completion_answered a n).cycle_bit;
  finished = finished;
  records = (completion_answered a n).records;
  address = (completion_answered a n).address;
}

abbrev pub row_numbers : Out TdsCompleted → Out RowAnswered
row_numbers o = record { state = row_answered o.state.answer o.state.finished o.state.records; records = o.records }

-- the questions, with a log of which k bytes count, over the block, row and results that the bytes are, and n bytes of data
abbrev pub row_asked : ℕ → List ℕ → List ℕ → List ℕ → ℕ → Regions → List (Bool × ℕ)
row_asked k b row results n regions =
    row_questions k regions (facts_of (block_of b)) (row_count row results) (trbs_in row) (length (results_in results)) (results_in results) n

-- what a row by value comes to of them
abbrev pub row_done : ℕ → List ℕ → List ℕ → List ℕ → ℕ → Regions → Out TdsCompleted
row_done k b row results n regions =
    row_completion k (block_of b) (row_count row results) (trbs_in row) (length (results_in results)) (results_in results) n regions

-- TDs that were started: those finished well, and the one that failed
abbrev pub started_of : RowAnswered → ℕ
started_of r = cond (eqb r.result 0) r.finished (r.finished + 1)

-- of a row with the log l, of which k bytes count, which answered r and left the log l'. The block ends empty, as it was: no byte of it changes
pub record CompletesTdsInPlace (k : ℕ) (b row results : List ℕ) (n : ℕ) (regions : Regions) (l : List ℕ) (r : RowAnswered) (l' : List ℕ) : Type 0 where
  pub number : r.number ≡ first_no (row_asked k b row results n regions)
  pub met : Meets (row_numbers (row_done k b row results n regions)) 0 l r l'
  pub block : (row_done k b row results n regions).state.block ≡ block_of b
  pub account : r.number ≡ 0 → RowAccounted (row_tds (trbs_in row) (results_in results)) (started_of r) (records_in r.records l')
