-- 02, R-11: where the event of a failed control transfer goes, as a computed test on a list that holds each case, under both rules. Endpoint
-- 3, slot 2. Assumes nothing.
use Rattle.std.specs.Prelude.{ℕ, true, false, List, [], ◌∷◌, ◌++◌, map, ◌≡◌, refl, Ok, Option, Some}
use Rattle.trb.specs.Ids.{ids_in_range}
use Rattle.trb.specs.Limits.{min_log}
use Rattle.trb.specs.Questions.{first_no}
use Rattle.trb.specs.declared.CompletionCode.{CompletionCode}
use Rattle.trb.specs.declared.CompletionCode.TheVariants as code
use Rattle.trb.specs.declared.ControlRequestProcessingResult.{ControlRequestProcessingResult}
use Rattle.trb.specs.declared.ControlRequestProcessingResult.TheVariants as device
use Rattle.trb.specs.declared.ControlSubmissionState.TheVariants.{AwaitingControlRequest}
use Rattle.trb.specs.declared.TransferTrb.{TransferTrb}
use Rattle.trb.specs.declared.TransferTrbVariant.TheVariants.{StatusStage, Unrecognized}
use Rattle.trb.specs.declared.TrbProcessingResult.{TrbProcessingResult}
use Rattle.trb.specs.declared.TrbProcessingResult.TheVariants as result
use Rattle.call_log.specs.Records.{transfer_event, control_request}
use Rattle.call_log.specs.declared.Record.{Record}
use Rattle.held.specs.Places.{cleared}
use Rattle.held.specs.Sound.{sound_trb}
use Rattle.walks.specs.All.{all}
use Rattle.walks.specs.Walk.{walk}
use Rattle.guest_memory.specs.Regions as regions
use Rattle.guest_memory.specs.Places.{in_region, place_of, range_inside, bytes_at}
use Rattle.phase_table.specs.Table.{trb_outcome}
use Rattle.control_block.specs.declared.GuestRelease.{GuestRelease}
use Rattle.control_block.specs.declared.GuestRelease.TheVariants.{Release4, Release5}
use Rattle.control_block.specs.Blocks.{block_of, no_transfer}
use Rattle.control_block.specs.Facts.{sound_block}
use Rattle.control_block.specs.Stages.{first_at, error_address}
use Rattle.control_chain.specs.Dropped.{successes}
use Rattle.control_chain.specs.Endings.{ending_records}
use Rattle.control_endpoint.specs.Completion as completes
use Rattle.control_endpoint.specs.Submission as submits
use Rattle.control_questions.specs.Completion.{completion_questions}
use Rattle.control_questions.specs.Submission.{has_room, reaches, submission_questions}
use Rattle.control_transfer.specs.Data.{in_reach, bytes_of}
use Rattle.control_transfer.specs.Transfers.{transfer_after, collects}
use Rattle.examples.specs.Control.{play, on_control_for, setup, data_stage, status}
use Rattle.examples.specs.In.{Seen, event_data}

-- ---- TRBs

-- GET_DESCRIPTOR, at 0x1000
get_descriptor : TransferTrb
get_descriptor = setup 0x1000 0x80 6 0x0100 0 64 false

chained_status : ℕ → TransferTrb
chained_status a = record {
  variant = StatusStage (record { chain = true; interrupt_on_completion = false; direction = false });
  addr = a;
  cycle_bit = true;
}

unrecognized : ℕ → TransferTrb
unrecognized a = record { variant = Unrecognized; addr = a; cycle_bit = true }

-- ---- What is expected

event : CompletionCode → ℕ → Record
event c a = transfer_event a 0 c false (record { 0 = 3 }) (record { 0 = 2 })

asked : ℕ → Record
asked n =
    control_request (record { address = 0x1000; request_type = 0x80; request = 6; value = 0x0100; index = 0; length = n })
    (record { 0 = 3 }) (record { 0 = 2 })

-- a chain whose request fails: what is logged before, and the event with its code; where it goes under each rule
record Failure : Type 0 where
  chain : List TransferTrb
  answer : Option ControlRequestProcessingResult
  result : TrbProcessingResult
  before : List Record
  code : CompletionCode
  release4 : ℕ
  release5 : ℕ

failures : List Failure
failures =
    -- the first held Data Stage TRB
    record {
      chain = get_descriptor ∷ data_stage 0x1010 0x8000 18 false true ∷ status 0x1020 false ∷ [];
      answer = Some device.Stall;
      result = result.Stall;
      before = asked 18 ∷ [];
      code = code.StallError;
      release4 = 0x1000;
      release5 = 0x1010;
    }
    -- failing that, the first held Status Stage TRB
    ∷ record {
      chain = get_descriptor ∷ status 0x1010 false ∷ [];
      answer = Some device.TransactionError;
      result = result.TransactionError;
      before = asked 0 ∷ [];
      code = code.UsbTransactionError;
      release4 = 0x1000;
      release5 = 0x1010;
    }
    -- the Data Stage TRB is held no more after an Unrecognized TRB
    ∷ record {
      chain = get_descriptor ∷ data_stage 0x1010 0x8000 18 false true ∷ unrecognized 0x1020 ∷ status 0x1030 false ∷ [];
      answer = Some device.Disconnect;
      result = result.Disconnect;
      before = event code.TrbError 0x1020 ∷ asked 18 ∷ [];
      code = code.UsbTransactionError;
      release4 = 0x1000;
      release5 = 0x1030;
    }
    -- failing that, the Setup address, after an Unrecognized TRB inside a chain
    ∷ record {
      chain = get_descriptor ∷ chained_status 0x1010 ∷ unrecognized 0x1020 ∷ event_data 0x1030 0xABCD true false ∷ [];
      answer = Some device.Stall;
      result = result.Stall;
      before = event code.TrbError 0x1020 ∷ asked 0 ∷ [];
      code = code.StallError;
      release4 = 0x1000;
      release5 = 0x1000;
    }
    ∷ []

-- the chain, for guests of a release
found : GuestRelease → Failure → Seen
found release f = on_control_for release f.chain f.answer 0

-- its event at this address
expected : Failure → ℕ → Seen
expected f a = record { records = f.before ++ (event f.code a ∷ []); answer = Ok f.result; collected = [] }

-- the definitions say of every case, under either rule, what document 02 says
failed-there :
    map (λ (f : Failure). found Release4 f ∷ found Release5 f ∷ []) failures ≡ map (λ (f : Failure). expected f f.release4 ∷ expected f f.release5 ∷ []) failures
unfolding failures found expected event asked get_descriptor chained_status unrecognized event_data setup data_stage status on_control_for play submits.submission submits.bytes_collected submits.accepted submits.records_of submits.block_after submission_questions has_room reaches collects in_reach range_inside place_of in_region regions.share_an_address regions.shares_at regions.holds bytes_at bytes_of trb_outcome transfer_after completes.completion completes.accepted completes.block_behind completion_questions ending_records successes error_address first_at first_no ids_in_range sound_block sound_trb all cleared walk
failed-there = refl

-- a Data Stage TRB counts even where a block, made up, has it behind a Status Stage TRB
data-behind-status :
    (completes.completion min_log
    (block_of (record { 0 = 3 }) (record { 0 = 2 }) Release5 no_transfer AwaitingControlRequest 2 (status 0x1010 false ∷ data_stage 0x1020 0x8000 18 false true ∷ []))
    (Some device.Stall) 0).records ≡ event code.StallError 0x1020 ∷ []
unfolding event data_stage status completes.completion completes.accepted completes.block_behind completion_questions ending_records error_address first_at first_no ids_in_range sound_block sound_trb all cleared walk
data-behind-status = refl
