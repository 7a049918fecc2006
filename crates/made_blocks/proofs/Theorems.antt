-- 02, R-14: what holds of every block that only calls made, whichever they are, refused ones among them. Assumes nothing.
use Rattle.std.specs.Prelude.{Some}
use Prim.Native.Nat.{ℕ, ◌<◌, ◌≤◌, ◌^◌}
use mathlib.Core.Path.{◌≡◌, sym}
use mathlib.Core.Bool.{true, true≢false}
use mathlib.Core.List.{List}
use native.Mathlib.Omega.{arith}
use lib.ListN.{length}
use Rattle.trb.specs.Questions.{agree}
use Rattle.trb.specs.declared.ControlRequestProcessingResult.TheVariants.{SuccessfulControlIn}
use Rattle.trb.specs.declared.ControlSubmissionState.{ControlSubmissionState}
use Rattle.trb.specs.declared.ControlSubmissionState.TheVariants.{NoTrbSubmitted, CollectingTd, ParserError, UnexpectedTrb, AwaitingControlRequest}
use Rattle.trb.specs.declared.EndpointId.{EndpointId}
use Rattle.trb.specs.declared.SlotId.{SlotId}
use Rattle.call_log.specs.Calls.{Out}
use Rattle.walks.specs.All.{all}
use Rattle.td_part.specs.Parts.{at_start}
use Rattle.account.specs.Guest.{write_lengths}
use Rattle.in_block.specs.Blocks as in_block
use Rattle.in_endpoint.specs.Creation as in-creation
use Rattle.control_block.specs.declared.ControlBlock.{ControlBlock}
use Rattle.control_block.specs.Blocks.{held_of}
use Rattle.control_block.specs.Endings.{ending_of}
use Rattle.control_block.specs.Facts.{awaits_device, facts_of}
use Rattle.control_chain.specs.Chain.{realize_chain, input_td}
use Rattle.control_chain.specs.Endings.{ending_records}
use Rattle.control_questions.specs.Completion.{is_given, completion_questions}
use Rattle.control_endpoint.specs.Completion.{refused, accepted, completion}
use Rattle.control_endpoint.specs.Creation.{creation}
use Rattle.control_endpoint.specs.Returned.{Completed}
use Rattle.control_block.specs.declared.GuestRelease.{GuestRelease}
use Rattle.control_block.specs.Stages.{error_address}
use Rattle.in_td.specs.declared.InMode.{InMode}
use Rattle.made_blocks.specs.Held.{from_memory, lengths}
use Rattle.made_blocks.specs.InCalls as in-calls
use Rattle.made_blocks.specs.ControlCalls.{ControlCall, made, asked}
use Rattle.made_blocks.proofs.CallLaws.{by-questions}
use Rattle.made_blocks.proofs.InLaws.{from-creation, from-calls}
use Rattle.made_blocks.proofs.ControlLaws.{Asked, Kept, result-agrees, kept-creation, kept-calls}
use Rattle.made_blocks.proofs.SumLaws.{asked-calls}
use Rattle.made_blocks.proofs.WriteLaws.{writes-chain}

-- ---- IN

-- no TRB held has immediate data
pub in-from-memory : (e : EndpointId) (s : SlotId) (mode : InMode) (cs : List in-calls.InCall) → all from_memory (in_block.held_of (in-calls.made e s mode cs)) ≡ true
in-from-memory e s mode cs = from-calls cs (in-creation.creation e s mode).block (from-creation e s mode)

-- ---- Control

-- a completion with SuccessfulControlIn writes at most the lengths of the TRBs held
writes-held : (l : ℕ) (b : ControlBlock) (n : ℕ) → write_lengths (completion l b (Some SuccessfulControlIn) n).records ≤ lengths (held_of b)
unfolding completion accepted ending_records
writes-held l b n =
    by-questions (λ (o : Out Completed). write_lengths o.records ≤ lengths (held_of b)) (completion_questions l (facts_of b) (Some SuccessfulControlIn) n) (refused b)
    (accepted (ending_of b.state (Some SuccessfulControlIn) n) b) (λ q. omega arith) (λ none. by b.state (result-agrees l (facts_of b) (Some SuccessfulControlIn) n none))
  where
    by : (s : ControlSubmissionState) → agree (is_given (Some SuccessfulControlIn)) (awaits_device s) ≡ true
        → write_lengths (ending_records (ending_of s (Some SuccessfulControlIn) n) (error_address b) b.endpoint_id b.slot_id (held_of b)) ≤ lengths (held_of b)
    by NoTrbSubmitted agreed = omega arith
    by CollectingTd agreed = omega arith
    by (ParserError a) agreed = absurd (true≢false (sym agreed))
    by (UnexpectedTrb a) agreed = absurd (true≢false (sym agreed))
    by AwaitingControlRequest agreed = writes-chain (input_td b.endpoint_id b.slot_id n) at_start (held_of b)

module _ (e : EndpointId) (s : SlotId) (release : GuestRelease) (cs : List ControlCall) where
  kept-made : Kept (made e s release cs) (asked e s release cs)
  kept-made = kept-calls cs (creation e s release).block 0 (kept-creation e s release)

  -- in an IN transfer no TRB held has immediate data
  pub control-from-memory : (made e s release cs).transfer.direction ≡ true → all from_memory (held_of (made e s release cs)) ≡ true
  control-from-memory input = (kept-made.input input).from-memory

  -- where the plain sum has not passed 2^32, the lengths held add up to at most what the request asks for
  pub held-asked : (made e s release cs).transfer.direction ≡ true → asked e s release cs < 2 ^ 32 → lengths (held_of (made e s release cs)) ≤ (made e s release cs).transfer.request.length
  held-asked input below =
      let k : Asked (held_of (made e s release cs)) (made e s release cs).transfer.request.length (asked e s release cs) = kept-made.input input in
      omega arith

  -- and no more bytes are written, whichever number n of them comes
  pub realized-asked : (made e s release cs).transfer.direction ≡ true → asked e s release cs < 2 ^ 32 → (n : ℕ)
      → write_lengths (realize_chain (input_td (made e s release cs).endpoint_id (made e s release cs).slot_id n) (held_of (made e s release cs))).records ≤ (made e s release cs).transfer.request.length
  realized-asked input below n =
      let k : Asked (held_of (made e s release cs)) (made e s release cs).transfer.request.length (asked e s release cs) = kept-made.input input in
      omega (arith, writes-chain (input_td (made e s release cs).endpoint_id (made e s release cs).slot_id n) at_start (held_of (made e s release cs)))

  -- the same of a call
  pub completed-asked : (made e s release cs).transfer.direction ≡ true → asked e s release cs < 2 ^ 32
      → (l n : ℕ) → write_lengths (completion l (made e s release cs) (Some SuccessfulControlIn) n).records ≤ (made e s release cs).transfer.request.length
  completed-asked input below l n =
      let k : Asked (held_of (made e s release cs)) (made e s release cs).transfer.request.length (asked e s release cs) = kept-made.input input in
      omega (arith, writes-held l (made e s release cs) n)

  -- which 32,768 calls do not reach
  pub asked-below : length cs ≤ 2 ^ 15 → asked e s release cs < 2 ^ 32
  asked-below few = omega (arith, asked-calls cs (creation e s release).block 0)
