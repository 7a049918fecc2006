-- A TD by calls on an IN endpoint, in the words of xHCI 1.2. Assumes nothing.
use Rattle.std.specs.Prelude.{ℕ, ◌≤◌, Bool, true, false, ◌≡◌, List, ◌++◌, map, length, Err, Ok}
use Rattle.trb.specs.Limits.{max_held, max_data, min_log}
use Rattle.trb.specs.Questions.{first_no}
use Rattle.trb.specs.Trbs.{chain_of}
use Rattle.trb.specs.Answers.{CompletionAnswer}
use Rattle.trb.specs.declared.TdBasedNormalSubmissionState.TheVariants.{SubmissionDue}
use Rattle.trb.specs.declared.TransferTrb.{TransferTrb}
use Rattle.call_log.specs.Calls.{Out}
use Rattle.call_log.specs.Records.{when, in_request}
use Rattle.guest_memory.specs.declared.Regions.{Regions}
use Rattle.guest_memory.specs.Regions.{share_an_address}
use Rattle.walks.specs.All.{all}
use Rattle.in_block.specs.Facts.{facts_of, sound_block}
use Rattle.in_block.specs.declared.InBlock.{InBlock}
use Rattle.in_endpoint.specs.Submission.{first_address}
use Rattle.row_walk.specs.Rows.{RowTd, completed}
use Rattle.row_questions.specs.Questions.{each_trb, given_rightly, in_supported}
use Rattle.in_row.specs.SingleCalls.{Called, td_calls, result_for}
use Rattle.standard.specs.Xhci.{is_td, Outcome, events, deliveries, halted_at, asked, any_on_bus, repeated_residual}
use Rattle.conformance.specs.Translate.{Halt, runs_on, halt_of, in_halt, td_of, told, wrote, in_outcome}

-- xHCI 1.2, 4.9.1: the Chain bits of TRBs
abbrev pub chains : List TransferTrb → List Bool
chains ts = map (λ (t : TransferTrb). chain_of t.variant) ts

-- what the last completion says of the endpoint
abbrev pub halt_answered : CompletionAnswer → Halt
halt_answered (Ok r) = halt_of r
halt_answered (Err q) = runs_on

-- a sound block that holds nothing, a submission due; logs of l bytes; regions that share no address
pub record Ready (l : ℕ) (b : InBlock) (regions : Regions) : Type 0 where
  pub log-long : min_log ≤ l
  pub sound : sound_block (facts_of b) ≡ true
  pub due : b.state ≡ SubmissionDue
  pub empty : b.held ≡ 0
  pub places : length b.trbs ≡ max_held
  pub apart : share_an_address regions ≡ false

-- a TD whose TRBs no question refuses, and what the device gave for it: without a Normal it is not asked
pub record Submitted (regions : Regions) (x : RowTd) : Type 0 where
  pub td : is_td (chains x.trbs) ≡ true
  pub kinds : all in_supported x.trbs ≡ true
  pub trbs : first_no (each_trb regions 0 x.trbs) ≡ 0
  pub rightly : given_rightly x ≡ true
  pub small : x.given.length ≤ max_data

-- the calls of a TD: each TRB is submitted and its completion asked for, the last one with what the device gave
abbrev pub calls_of : ℕ → InBlock → Regions → RowTd → Out Called
calls_of l b regions x = td_calls l regions b x.trbs (result_for x) x.given.length

-- 01's outcome of it
abbrev pub outcome_for : InBlock → RowTd → Outcome
outcome_for b x = in_outcome b.mode x.given.status x.given.length (asked (td_of x.trbs))

-- what all its calls logged and answered
pub record Conforms (l : ℕ) (b : InBlock) (regions : Regions) (x : RowTd) (o : Out Called) : Type 0 where
  -- the device is asked for the bytes of the TD, where it has a TRB with transactions; otherwise it completes locally. Behind that stands the walk over the TD
  pub records : o.records
      ≡ when (any_on_bus (td_of x.trbs)) (in_request (first_address x.trbs) (asked (td_of x.trbs)) b.endpoint_id b.slot_id)
      ++ (completed b.endpoint_id b.slot_id b.mode x).records
  -- 4.10.1.1, 4.10.2, 4.11.5.2, 6.4.2.1: its events
  pub events : told o.records ≡ events repeated_residual (outcome_for b x) x.given.length (td_of x.trbs)
  -- 4.9.1, 6.4.1.1: what its buffers get
  pub writes : wrote o.records ≡ deliveries x.given.length (td_of x.trbs)
  -- 4.8.3, 4.10.2: where the endpoint halts
  pub halt : halt_answered o.state.answer ≡ in_halt x.given.status (halted_at (outcome_for b x) x.given.length (td_of x.trbs))
  -- and the block is ready for another
  pub ready : Ready l o.state.block regions
