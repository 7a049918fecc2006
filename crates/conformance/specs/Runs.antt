-- Calls on a fresh endpoint, run on the engine's definitions, and what the public texts say of the same TRBs, in the same words.
-- Endpoint 3, slot 2; guest memory as a script has it at its start, 0x40000 bytes at 0x8000. Assumes nothing.
use Rattle.std.specs.Prelude.{ℕ, Bool, false, List, [], ◌∷◌, ◌++◌, Err, Ok, Option}
use Rattle.std.proofs.Math.Option.{Option as Maybe, none, some}
use Rattle.trb.specs.Answers.{number_of, refusal_of}
use Rattle.trb.specs.Limits.{min_log, max_collected}
use Rattle.trb.specs.Questions.{first_no}
use Rattle.trb.specs.Answers.{CompletionAnswer}
use Rattle.trb.specs.declared.ControlRequestProcessingResult.{ControlRequestProcessingResult}
use Rattle.trb.specs.declared.InTrbProcessingStatus.{InTrbProcessingStatus}
use Rattle.trb.specs.declared.TdBasedNormalSubmissionState.TheVariants.{AwaitingRealTransfer}
use Rattle.trb.specs.declared.TransferTrb.{TransferTrb}
use Rattle.trb.specs.declared.TransferTrbVariant.{TransferTrbVariant}
use Rattle.trb.specs.declared.TransferTrbVariant.TheVariants.{SetupStage, DataStage, StatusStage, Normal, EventData, NoOp, Unrecognized}
use Rattle.call_log.specs.declared.Record.{Record}
use Rattle.in_block.specs.Blocks.{fresh_block, with_state, stored}
use Rattle.in_block.specs.declared.InBlock.{InBlock}
use Rattle.in_block.specs.Facts.{sound_block as in_sound}
use Rattle.in_block.specs.Outcomes.{outcome_of}
use Rattle.in_endpoint.specs.Completion.{transferred, completion as in_completion}
use Rattle.in_endpoint.specs.Submission.{submission as in_submission}
use Rattle.in_questions.specs.Questions.{submission_questions as in_submission_questions, completion_questions as in_completion_questions}
use Rattle.in_td.specs.Td.{handle_normal, process_trb}
use Rattle.in_td.specs.declared.InMode.{InMode}
use Rattle.in_td.specs.declared.InMode.TheVariants.{AsPorted}
use Rattle.guest_memory.specs.Regions as regions
use Rattle.guest_memory.specs.declared.Regions.{Regions}
use Rattle.guest_memory.specs.Places.{in_region, place_of, range_inside, Memory, memory_of, bytes_at}
use Rattle.held.specs.Places.{cleared}
use Rattle.held.specs.Sound.{sound_trb}
use Rattle.td_part.specs.Parts.{put_dma, realize_dma}
use Rattle.trb.specs.Ids.{ids_in_range}
use Rattle.walks.specs.All.{all}
use Rattle.walks.specs.Walk.{walk}
use Rattle.phase_table.specs.Table.{trb_outcome}
use Rattle.control_block.specs.Blocks.{fresh_block as fresh_control}
use Rattle.control_block.specs.declared.ControlBlock.{ControlBlock}
use Rattle.control_block.specs.declared.GuestRelease.{GuestRelease}
use Rattle.control_block.specs.declared.GuestRelease.TheVariants.{Release4}
use Rattle.control_block.specs.Facts.{sound_block as sound_control}
use Rattle.control_block.specs.Stages.{first_at, error_address}
use Rattle.control_chain.specs.Chain.{move_out, realize_data_stage, realize_normal, realize_trb}
use Rattle.control_chain.specs.Dropped.{successes}
use Rattle.control_chain.specs.Endings.{ending_records}
use Rattle.control_endpoint.specs.Completion.{block_behind, accepted as accepted_completion, completion as completion_control}
use Rattle.control_endpoint.specs.Submission.{block_after, records_of, accepted as accepted_submission, submission as submission_control, bytes_collected}
use Rattle.control_questions.specs.Completion.{completion_questions}
use Rattle.control_questions.specs.Submission.{has_room, reaches, submission_questions}
use Rattle.control_transfer.specs.Data.{in_reach, bytes_of}
use Rattle.control_transfer.specs.Transfers.{transfer_after, collects}
use Rattle.standard.specs.Usb.{Setup}
use Rattle.standard.specs.Xhci.{Trb, TransferEvent, Reading, Ending, outcome, events, Delivery, deliveries, halted_at}
use Rattle.conformance.specs.Requests.{setup_trb}
use Rattle.conformance.specs.Translate.{told, wrote, Halt, runs_on, halts_at, halt_of}

-- ---- What is seen of a run

-- the events and the writes of all its calls, and what the last completion's result says of the endpoint
pub record Seen : Type 0 where
  pub events : List TransferEvent
  pub writes : List Delivery
  pub halt : Halt

abbrev halt_answered : CompletionAnswer → Halt
halt_answered (Ok r) = halt_of r
halt_answered (Err q) = runs_on

abbrev pub seen : List Record → Halt → Seen
seen rs h = record { events = told rs; writes = wrote rs; halt = h }

abbrev halt_there : Maybe ℕ → Halt
halt_there none = runs_on
halt_there (some a) = halts_at a

-- xHCI 1.2, of an IN TD
abbrev pub standard_seen : Reading → Ending → (n : ℕ) (td : List Trb) → Seen
standard_seen r e n td = record { events = events r (outcome e n td) n td; writes = deliveries n td; halt = halt_there (halted_at (outcome e n td) n td) }

-- ---- Guest memory

-- one region; the other is empty
abbrev window : Regions
window = regions.guest_regions 0x8000 0x40000 0 0

-- for immediate data, which is all that these calls collect, its bytes do not count
abbrev memory : Memory
memory = memory_of 0x8000 [] 0 []

-- ---- IN

-- a submission, and its completion with a result and n bytes
pub data InCall : Type 0 where
  in_call : TransferTrb → Option InTrbProcessingStatus → (n : ℕ) → InCall

unfoldable pub in_from : InBlock → List Record → Halt → List InCall → Seen
in_from b rs h [] = seen rs h
in_from b rs h (in_call t r n ∷ calls) =
    let o = in_submission min_log b t window in
    let p = in_completion min_log o.state.block r n in
    in_from p.state.block (rs ++ (o.records ++ p.records)) (halt_answered p.state.answer) calls

-- in this mode
unfoldable pub in_run_of : InMode → List InCall → Seen
unfolding in_from in_submission in_submission_questions outcome_of in_completion in_completion_questions first_no transferred ids_in_range in_sound sound_trb all range_inside place_of in_region regions.share_an_address regions.shares_at regions.holds cleared walk process_trb handle_normal put_dma realize_dma
in_run_of mode calls = in_from (fresh_block (record { 0 = 3 }) (record { 0 = 2 }) mode) [] runs_on calls

unfoldable pub in_run : List InCall → Seen
unfolding in_run_of
in_run calls = in_run_of AsPorted calls

-- what one submission to a fresh block answers, by its number
unfoldable pub in_number : TransferTrb → ℕ
unfolding in_submission in_submission_questions outcome_of first_no refusal_of ids_in_range in_sound all range_inside place_of in_region regions.share_an_address regions.shares_at regions.holds
in_number t = number_of (in_submission min_log (fresh_block (record { 0 = 3 }) (record { 0 = 2 }) AsPorted) t window).state.answer

-- the completion of a made-up block that holds this TRB alone and awaits the device
unfoldable pub in_made_up : TransferTrb → Option InTrbProcessingStatus → (n : ℕ) → Seen
unfolding in_completion in_completion_questions first_no transferred ids_in_range in_sound sound_trb all cleared walk process_trb handle_normal put_dma realize_dma
in_made_up t r n =
    let p = in_completion min_log (with_state (stored (fresh_block (record { 0 = 3 }) (record { 0 = 2 }) AsPorted) t) AwaitingRealTransfer) r n in
    seen p.records (halt_answered p.state.answer)

-- ---- Control

pub data ControlCall : Type 0 where
  control_call : TransferTrb → Option ControlRequestProcessingResult → (n : ℕ) → ControlCall

-- the block, and the records of all calls
pub record ControlRan : Type 0 where
  pub block : ControlBlock
  pub records : List Record
  pub collected : List ℕ
  pub halt : Halt

unfoldable pub control_from : ControlRan → List ControlCall → ControlRan
control_from ran [] = ran
control_from ran (control_call t r n ∷ calls) =
    let o = submission_control min_log max_collected ran.block t window in
    let p = completion_control min_log o.state.block r n in
    control_from (record {
      block = p.state.block;
      records = ran.records ++ (o.records ++ p.records);
      collected = ran.collected ++ bytes_collected min_log max_collected ran.block t memory;
      halt = halt_answered p.state.answer;
    }) calls

-- on an endpoint created for guests of this release
unfoldable pub control_run_for : GuestRelease → List ControlCall → ControlRan
unfolding control_from submission_control first_no submission_questions has_room reaches collects in_reach range_inside bytes_at bytes_of bytes_collected accepted_submission block_after records_of transfer_after trb_outcome successes completion_control completion_questions accepted_completion block_behind error_address first_at ending_records realize_trb realize_data_stage realize_normal move_out ids_in_range sound_control sound_trb all place_of in_region regions.share_an_address regions.shares_at regions.holds cleared walk put_dma realize_dma
control_run_for release calls =
    control_from (record { block = fresh_control (record { 0 = 3 }) (record { 0 = 2 }) release; records = []; collected = []; halt = runs_on }) calls

-- of release 4
unfoldable pub control_run : List ControlCall → ControlRan
unfolding control_run_for
control_run calls = control_run_for Release4 calls

-- ---- TRBs: address, then what the kind has; cycle bit off

abbrev at : (address : ℕ) → TransferTrbVariant → TransferTrb
at a v = record { variant = v; addr = a; cycle_bit = false }

abbrev pub normal_trb : (address pointer length : ℕ) (chain ioc isp immediate : Bool) → TransferTrb
normal_trb a p l chain ioc isp immediate =
    at a (Normal (record {
      data_pointer = p;
      transfer_length = l;
      interrupt_on_short = isp;
      chain = chain;
      interrupt_on_completion = ioc;
      immediate_data = immediate;
    }))

abbrev pub event_data_trb : (address value : ℕ) (chain ioc : Bool) → TransferTrb
event_data_trb a v chain ioc = at a (EventData (record { event_data = v; chain = chain; interrupt_on_completion = ioc }))

abbrev pub no_op_trb : (address : ℕ) (chain ioc : Bool) → TransferTrb
no_op_trb a chain ioc = at a (NoOp (record { chain = chain; interrupt_on_completion = ioc }))

abbrev pub setup_stage_trb : (address : ℕ) → Setup → (ioc : Bool) → TransferTrb
setup_stage_trb a p ioc = at a (SetupStage (setup_trb p ioc))

abbrev pub data_stage_trb : (address pointer length : ℕ) (chain ioc isp immediate direction : Bool) → TransferTrb
data_stage_trb a p l chain ioc isp immediate direction =
    at a (DataStage (record {
      data_pointer = p;
      transfer_length = l;
      chain = chain;
      interrupt_on_completion = ioc;
      interrupt_on_short = isp;
      immediate_data = immediate;
      direction = direction;
    }))

abbrev pub status_stage_trb : (address : ℕ) (chain ioc direction : Bool) → TransferTrb
status_stage_trb a chain ioc direction = at a (StatusStage (record { chain = chain; interrupt_on_completion = ioc; direction = direction }))

abbrev pub unrecognized_trb : (address : ℕ) → TransferTrb
unrecognized_trb a = at a Unrecognized
