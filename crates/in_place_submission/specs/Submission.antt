-- What a submission in place is: by the definition of the endpoint by value, of the block that the bytes are. Assumes nothing.
use Rattle.std.specs.Prelude.{ℕ, ◌<◌, ◌≡◌, List}
use Rattle.trb.specs.Questions.{first_no}
use Rattle.trb.specs.declared.TransferTrb.{TransferTrb}
use Rattle.call_log.specs.Calls.{Out, Meets}
use Rattle.guest_memory.specs.declared.Regions.{Regions}
use Rattle.in_block.specs.Blocks.{held_of}
use Rattle.in_block.specs.Facts.{held_test, facts_of}
use Rattle.in_block.specs.Outcomes.{outcome_of}
use Rattle.in_block.specs.declared.Outcome.TheVariants.{Collect}
use Rattle.in_questions.specs.Questions.{submission_questions}
use Rattle.in_endpoint.specs.Submission.{submission}
use Rattle.in_endpoint.specs.Returned.{Submitted}
use Rattle.answer_numbers.specs.Numbers.{answered_as}
use Rattle.answer_numbers.specs.declared.Answered.{Answered}
use Rattle.in_bytes.specs.Layout.{block_of}
use Rattle.in_place_store.specs.Becomes.{Becomes}

abbrev pub submitted_numbers : Out Submitted → Out Answered
submitted_numbers o = record { state = answered_as o.state.answer o.state.records; records = o.records }

-- every question says yes, and the TRB is held and its TD goes on
pub record Collected (k : ℕ) (b : List ℕ) (t : TransferTrb) (regions : Regions) : Type 0 where
  pub asked : first_no (submission_questions k (facts_of (block_of b)) t regions) ≡ 0
  pub outcome : outcome_of (held_test (held_of (block_of b))) t ≡ Collect

-- of a submission with the log l, of which k bytes count, over the bytes b, which answered r and left the log l' and the bytes b'
pub record SubmitsInPlace (k : ℕ) (t : TransferTrb) (regions : Regions) (l b : List ℕ) (r : Answered) (l' b' : List ℕ) : Type 0 where
  pub number : r.number ≡ first_no (submission_questions k (facts_of (block_of b)) t regions)
  pub met : Meets (submitted_numbers (submission k (block_of b) t regions)) 0 l r l'
  pub becomes : Becomes b (submission k (block_of b) t regions).state.block b'
  pub unchanged : 0 < r.number → b' ≡ b
