-- 01, Completion on a control endpoint: what one that no question refuses makes of block and log. Assumes nothing.
use Rattle.std.specs.Prelude.{ℕ, ◌≡◌, List, length, Err, Ok, Option}
use Rattle.trb.specs.Answers.{number_of, refusal_of, said}
use Rattle.trb.specs.Questions.{first_no, after_questions}
use Rattle.trb.specs.declared.ControlRequestProcessingResult.{ControlRequestProcessingResult}
use Rattle.trb.specs.declared.ControlSubmissionState.TheVariants.{NoTrbSubmitted}
use Rattle.call_log.specs.Calls.{Out, silent, Meets}
use Rattle.control_block.specs.declared.ControlBlock.{ControlBlock}
use Rattle.control_block.specs.declared.Ending.{Ending}
use Rattle.control_block.specs.declared.Ending.TheVariants.{KeepCollecting, ReportBadTrb, Fail, Realize}
use Rattle.control_block.specs.Blocks.{held_of, at_phase, emptied, advanced}
use Rattle.control_block.specs.Endings.{ending_of, result_of, phase_behind}
use Rattle.control_block.specs.Facts.{facts_of}
use Rattle.control_block.specs.Stages.{error_address}
use Rattle.control_chain.specs.Endings.{ending_records}
use Rattle.control_questions.specs.Completion.{completion_questions}
use Rattle.control_endpoint.specs.Returned.{Completed as CompletedCall}

-- ---- What the completion does

-- 01, Questions asked: TRBs still being collected are kept; after any other completion nothing is held
abbrev pub held_behind : Ending → ControlBlock → ControlBlock
held_behind KeepCollecting b = b
held_behind (ReportBadTrb a) b = emptied b
held_behind (Fail c r) b = emptied b
held_behind (Realize given) b = emptied b

-- length and collected bytes stay in every case; a submission is due
unfoldable pub block_behind : Ending → ControlBlock → ControlBlock
block_behind x b = advanced (held_behind x b) (at_phase (phase_behind b.state b.transfer.phase) b.transfer) NoTrbSubmitted

-- ---- The call

-- a no: zero records, block and log unchanged
abbrev pub refused : ControlBlock → ℕ → Out CompletedCall
refused b n = silent (record { answer = Err (refusal_of n); records = 0; block = b })

-- by what it does
unfoldable pub accepted : Ending → ControlBlock → Out CompletedCall
accepted x b =
    let rs = ending_records x (error_address b) b.endpoint_id b.slot_id (held_of b) in
    record { state = record { answer = Ok (result_of x); records = length rs; block = block_behind x b }; records = rs }

-- with a log of this length and n bytes of device data
unfoldable pub completion : ℕ → ControlBlock → Option ControlRequestProcessingResult → ℕ → Out CompletedCall
completion log b r n = after_questions (completion_questions log (facts_of b) r n) (refused b) (accepted (ending_of b.state r n) b)

-- a completion of the block b, with the log l, returned r and left l'
pub record Completes (b : ControlBlock) (d : Option ControlRequestProcessingResult) (n : ℕ) (l : List ℕ) (r : CompletedCall) (l' : List ℕ) : Type 0 where
  pub number : number_of r.answer ≡ first_no (completion_questions (length l) (facts_of b) d n)
  pub met : Meets (completion (length l) b d n) 0 l r l'
  pub result : said r.answer ≡ said (completion (length l) b d n).state.answer
