-- What a call in place is: by the promises of the endpoint by value, of the block that the bytes are. Assumes nothing.
use Rattle.std.specs.Prelude.{ℕ, ◌<◌, ◌≤◌, ◌≡◌, Bool, cond, List, [], ◌∷◌, leb, eqb, length, drop, None, Option, Result, Some}
use Rattle.std.specs.Result.{IfOk}
use Rattle.buffers.specs.Patch.{patch}
use Rattle.trb.specs.Answers.{number_of, Answer, CompletionAnswer}
use Rattle.trb.specs.Ids.{ids_in_range}
use Rattle.trb.specs.Questions.{first_no}
use Rattle.trb.specs.declared.ControlRequestProcessingResult.{ControlRequestProcessingResult}
use Rattle.trb.specs.declared.ControlRequestProcessingResult.TheVariants.{Disconnect, Stall, TransactionError, SuccessfulControlIn, SuccessfulControlOut}
use Rattle.trb.specs.declared.EndpointId.{EndpointId}
use Rattle.trb.specs.declared.Refusal.{Refusal}
use Rattle.trb.specs.declared.SlotId.{SlotId}
use Rattle.trb.specs.declared.TransferTrb.{TransferTrb}
use Rattle.call_log.specs.Calls.{Out, Meets, counted}
use Rattle.guest_memory.specs.Places.{Memory, regions_of}
use Rattle.guest_memory.specs.declared.Regions.{Regions}
use Rattle.phase_table.specs.declared.Outcome.{Outcome}
use Rattle.phase_table.specs.Table.{trb_outcome}
use Rattle.raw_trb.specs.Raw.{decode_trb}
use Rattle.answer_numbers.specs.Numbers.{answered_as, completion_answered}
use Rattle.answer_numbers.specs.declared.Answered.{Answered}
use Rattle.answer_numbers.specs.declared.CompletionAnswered.{CompletionAnswered}
use Rattle.control_block.specs.declared.GuestRelease.{GuestRelease}
use Rattle.control_block.specs.Facts.{facts_of}
use Rattle.control_transfer.specs.Transfers.{bytes_taken}
use Rattle.control_questions.specs.Completion.{completion_questions}
use Rattle.control_endpoint.specs.Completion.{completion, Completes}
use Rattle.control_endpoint.specs.Creation.{creation}
use Rattle.control_endpoint.specs.Submission.{records_of, block_after, questions_of, submission, bytes_collected, Submits}
use Rattle.control_endpoint.specs.Returned.{Completed}
use Rattle.control_endpoint.specs.Returned.{Submitted}
use Rattle.control_bytes.specs.Layout.{block_length, block_of}
use Rattle.control_stores.specs.Becomes.{Becomes}
use Rattle.trb.specs.declared.Logged.{Logged}

-- no byte behind the block changed
pub record Beyond (b b' : List ℕ) : Type 0 where
  pub behind : drop block_length b' ≡ drop block_length b
  pub long : length b' ≡ length b

-- ---- Submission

-- of the answer r to the questions of the TRB t: what becomes of it
pub record Asked (log collect : ℕ) (b : List ℕ) (t : TransferTrb) (regions : Regions) (r : Result Outcome Refusal) : Type 0 where
  pub outcome : IfOk r (λ o. o ≡ trb_outcome (block_of b).transfer.phase t.variant)
  pub number : number_of r ≡ first_no (questions_of log collect (block_of b) t regions)

-- no question of the TRB t, which becomes o, is answered no
pub record Acceptable (l c b : List ℕ) (t : TransferTrb) (m : Memory) (o : Outcome) : Type 0 where
  pub long : block_length ≤ length b
  pub outcome : o ≡ trb_outcome (block_of b).transfer.phase t.variant
  pub none : first_no (questions_of (length l) (length c) (block_of b) t (regions_of m)) ≡ 0

-- what it then logs, collects and stores
pub record Accepts (l c b : List ℕ) (t : TransferTrb) (m : Memory) (o : Outcome) (n : ℕ) (l' c' b' : List ℕ) : Type 0 where
  pub log : Meets (counted 0 (records_of o (block_of b))) 0 l n l'
  pub collect : c' ≡ patch c (block_of b).transfer.collected (bytes_taken o (block_of b).transfer.direction t.variant m)
  pub becomes : Becomes b (block_after o (block_of b) t) b'

-- the promise of the endpoint by value, of the block that the bytes are; a no leaves its bytes as they were
pub record SubmitsAsByValue (b : List ℕ) (t : TransferTrb) (m : Memory) (l c : List ℕ) (r : Logged Answer) (l' c' b' : List ℕ) : Type 0 where
  pub by_value : Submits (block_of b) t m l c (record { answer = r.answer; records = r.records; block = block_of b' }) l' c'
  pub beyond : Beyond b b'
  pub unchanged : 0 < number_of r.answer → b' ≡ b

-- ---- Completion

pub record CompletesAsByValue (b : List ℕ) (d : Option ControlRequestProcessingResult) (n : ℕ) (l : List ℕ) (r : Logged CompletionAnswer) (l' b' : List ℕ) : Type 0 where
  pub by_value : Completes (block_of b) d n l (record { answer = r.answer; records = r.records; block = block_of b' }) l'
  pub beyond : Beyond b b'
  pub unchanged : 0 < number_of r.answer → b' ≡ b

-- ---- Of any row of bytes

-- 01, question 1, a short buffer: bytes that are too few for a block
abbrev pub block_question : List ℕ → (Bool × ℕ)
block_question b = (leb block_length (length b), 1)

-- the log's length, as question 1 has it: with bytes that are too few for a block no log is long enough
abbrev pub lent_log : List ℕ → List ℕ → ℕ
lent_log l b = cond (leb block_length (length b)) (length l) 0

-- of a creation over the bytes b, which answered r and left the bytes b'
pub record CreatesInPlace (e : EndpointId) (s : SlotId) (release : GuestRelease) (b : List ℕ) (r : ℕ) (b' : List ℕ) : Type 0 where
  pub number : r ≡ first_no (block_question b ∷ (ids_in_range e s, 12) ∷ [])
  pub becomes : block_length ≤ length b → Becomes b (creation e s release).block b'
  pub unchanged : length b < block_length → b' ≡ b

-- a TRB at this address by the 16 bytes of the ring
abbrev pub raw_trb : List ℕ → ℕ → TransferTrb
raw_trb raw a = record { variant = (decode_trb raw).variant; addr = a; cycle_bit = (decode_trb raw).cycle_bit }

abbrev pub submitted_numbers : Out Submitted → Out Answered
submitted_numbers o = record { state = answered_as o.state.answer o.state.records; records = o.records }

-- of a submission of the TRB t with guest memory m, the log l, of which k bytes count, and the collect buffer c, over the bytes b: it answered r and
-- left the log l', the collect buffer c' and the bytes b'
pub record SubmitsInPlace (k : ℕ) (t : TransferTrb) (m : Memory) (l c b : List ℕ) (r : Answered) (l' c' b' : List ℕ) : Type 0 where
  pub number : r.number ≡ first_no (questions_of k (length c) (block_of b) t (regions_of m))
  pub met : Meets (submitted_numbers (submission k (length c) (block_of b) t (regions_of m))) 0 l r l'
  pub collect : c' ≡ patch c (block_of b).transfer.collected (bytes_collected k (length c) (block_of b) t m)
  pub becomes : Becomes b (submission k (length c) (block_of b) t (regions_of m)).state.block b'
  pub unchanged : 0 < r.number → b' ≡ b

abbrev pub completed_numbers : Out Completed → Out CompletionAnswered
completed_numbers o = record { state = completion_answered o.state.answer o.state.records; records = o.records }

-- of a completion with the device result d and n bytes of data
pub record CompletesInPlace (k : ℕ) (d : Option ControlRequestProcessingResult) (n : ℕ) (l b : List ℕ) (r : CompletionAnswered) (l' b' : List ℕ) : Type 0 where
  pub number : r.number ≡ first_no (completion_questions k (facts_of (block_of b)) d n)
  pub met : Meets (completed_numbers (completion k (block_of b) d n)) 0 l r l'
  pub becomes : Becomes b (completion k (block_of b) d n).state.block b'
  pub unchanged : 0 < r.number → b' ≡ b

-- a device result by number: 0 SuccessfulControlIn, 1 Stall, 2 a transaction error, 3 a disconnect, 4 SuccessfulControlOut; any other number, none is
-- given
abbrev pub result_of : ℕ → Option ControlRequestProcessingResult
result_of n =
    cond (eqb n 0) (Some SuccessfulControlIn)
    (cond (eqb n 1) (Some Stall) (cond (eqb n 2) (Some TransactionError) (cond (eqb n 3) (Some Disconnect) (cond (eqb n 4) (Some SuccessfulControlOut) None))))
