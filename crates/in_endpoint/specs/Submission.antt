-- 01, Submission on an IN endpoint: what is done once every question was answered with yes, and the promise of a call. Assumes nothing.
use Rattle.std.specs.Prelude.{ℕ, ◌≡◌, List, [], ◌∷◌, length, Err, Ok}
use Rattle.trb.specs.Answers.{number_of, refusal_of}
use Rattle.trb.specs.Questions.{first_no, after_questions}
use Rattle.trb.specs.declared.EndpointId.{EndpointId}
use Rattle.trb.specs.declared.SlotId.{SlotId}
use Rattle.trb.specs.declared.TransferTrb.{TransferTrb}
use Rattle.call_log.specs.Calls.{Out, silent, Meets}
use Rattle.call_log.specs.Records.{in_request}
use Rattle.call_log.specs.declared.Record.{Record}
use Rattle.guest_memory.specs.declared.Regions.{Regions}
use Rattle.in_td.specs.Normals.{requested}
use Rattle.in_block.specs.Blocks.{held_of, with_state, stored, emptied}
use Rattle.in_block.specs.Facts.{held_test, facts_of}
use Rattle.in_block.specs.Outcomes.{outcome_of, state_after}
use Rattle.in_block.specs.declared.InBlock.{InBlock}
use Rattle.in_block.specs.declared.Outcome.{Outcome}
use Rattle.in_block.specs.declared.Outcome.TheVariants.{Drop, Collect, CompleteLocally, Request}
use Rattle.in_questions.specs.Questions.{submission_questions}
use Rattle.in_endpoint.specs.Returned.{Submitted}

-- a no ends the call with its number, zero records, and block and log unchanged
abbrev pub refused : InBlock → ℕ → Out Submitted
refused b n = silent (record { answer = Err (refusal_of n); records = 0; block = b })

abbrev pub accepted : ℕ → InBlock → Submitted
accepted n b = record { answer = Ok tt; records = n; block = b }

-- the TD's first TRB address
abbrev pub first_address : List TransferTrb → ℕ
first_address [] = 0
first_address (t ∷ ts) = t.addr

-- the request for S, the sum of Normal lengths
abbrev pub request_of : List TransferTrb → EndpointId → SlotId → Record
request_of ts e s = in_request (first_address ts) (requested ts) e s

-- the TRB is held, or those held are dropped silently; a TD with a Normal that ends is requested of the device
abbrev pub submitted_as : Outcome → InBlock → TransferTrb → Out Submitted
submitted_as Drop b t = silent (accepted 0 (emptied b (state_after Drop t.addr)))
submitted_as Collect b t = silent (accepted 0 (with_state (stored b t) (state_after Collect t.addr)))
submitted_as CompleteLocally b t = silent (accepted 0 (with_state (stored b t) (state_after CompleteLocally t.addr)))
submitted_as Request b t = record {
  state = accepted 1 (with_state (stored b t) (state_after Request t.addr));
  records = request_of (held_of (stored b t)) b.endpoint_id b.slot_id ∷ [];
}

-- with a log of l bytes, and guest memory in these regions
unfoldable pub submission : ℕ → InBlock → TransferTrb → Regions → Out Submitted
submission l b t regions =
    after_questions (submission_questions l (facts_of b) t regions) (refused b) (submitted_as (outcome_of (held_test (held_of b)) t) b t)

-- of a submission with the log l, which returned r and left the log l'
pub record Submits (b : InBlock) (t : TransferTrb) (regions : Regions) (l : List ℕ) (r : Submitted) (l' : List ℕ) : Type 0 where
  pub number : number_of r.answer ≡ first_no (submission_questions (length l) (facts_of b) t regions)
  pub met : Meets (submission (length l) b t regions) 0 l r l'
