-- A chain submitted to a fresh control endpoint, TRB by TRB, and completed: what was logged, how it ended, and what was collected.
-- Assumes nothing.
use Rattle.std.specs.Prelude.{ℕ, Bool, true, false, List, [], ◌∷◌, ◌++◌, replicate, None, Ok, Option}
use Rattle.trb.specs.Limits.{min_log, max_collected}
use Rattle.trb.specs.declared.ControlRequestProcessingResult.{ControlRequestProcessingResult}
use Rattle.trb.specs.declared.TransferTrb.{TransferTrb}
use Rattle.trb.specs.declared.TransferTrbVariant.TheVariants.{SetupStage, DataStage, StatusStage}
use Rattle.trb.specs.declared.TrbProcessingResult.TheVariants as result
use Rattle.call_log.specs.Calls.{Out}
use Rattle.guest_memory.specs.Places.{Memory, memory_of, regions_of}
use Rattle.control_block.specs.declared.ControlBlock.{ControlBlock}
use Rattle.control_block.specs.declared.GuestRelease.{GuestRelease}
use Rattle.control_block.specs.declared.GuestRelease.TheVariants.{Release4}
use Rattle.control_endpoint.specs.Completion.{completion}
use Rattle.control_endpoint.specs.Creation.{creation}
use Rattle.control_endpoint.specs.Submission.{submission, bytes_collected}
use Rattle.control_endpoint.specs.Returned as call
use Rattle.control_endpoint.specs.Returned.{Submitted}
use Rattle.examples.specs.In.{Seen, guest_base}

-- 1,024 bytes of guest memory, in one region
abbrev pub memory : Memory
memory = memory_of guest_base (replicate 1024 7) 0 []

abbrev pub submit : ControlBlock → TransferTrb → Out Submitted
submit b t = submission min_log max_collected b t (regions_of memory)

abbrev pub collect : ControlBlock → TransferTrb → List ℕ
collect b t = bytes_collected min_log max_collected b t memory

abbrev pub complete : Out Submitted → Option ControlRequestProcessingResult → ℕ → Out call.Completed
complete o r n = completion min_log o.state.block r n

-- a submission and its completion, and then what follows
abbrev pub also : Out Submitted → List ℕ → Out call.Completed → Seen → Seen
also o bytes p s = record { records = (o.records ++ p.records) ++ s.records; answer = s.answer; collected = bytes ++ s.collected }

-- the TRBs ts, each with its completion, the last one with the device's result and n bytes
unfoldable pub play : ControlBlock → List TransferTrb → Option ControlRequestProcessingResult → ℕ → Seen
play b [] r n = record { records = []; answer = Ok result.Ok; collected = [] }
play b (t ∷ []) r n =
    let o = submit b t in
    let p = complete o r n in
    record { records = o.records ++ p.records; answer = p.state.answer; collected = collect b t }
play b (t ∷ u ∷ ts) r n =
    let o = submit b t in
    let p = complete o None 0 in
    also o (collect b t) p (play p.state.block (u ∷ ts) r n)

-- endpoint 3, slot 2, for guests of this release
unfoldable pub on_control_for : GuestRelease → List TransferTrb → Option ControlRequestProcessingResult → ℕ → Seen
on_control_for release ts r n = play (creation (record { 0 = 3 }) (record { 0 = 2 }) release).block ts r n

unfoldable pub on_control : List TransferTrb → Option ControlRequestProcessingResult → ℕ → Seen
on_control ts r n = on_control_for Release4 ts r n

-- TRBs, with cycle bit on: address, then what the kind has
unfoldable pub setup : ℕ → (request_type request value index length : ℕ) → (ioc : Bool) → TransferTrb
setup a request_type request value index length ioc = record {
  variant = SetupStage (record {
    request_type = request_type;
    request = request;
    value = value;
    index = index;
    length = length;
    interrupt_on_completion = ioc;
  });
  addr = a;
  cycle_bit = true;
}

unfoldable pub data_stage : ℕ → ℕ → ℕ → (immediate direction : Bool) → TransferTrb
data_stage a pointer n immediate direction = record {
  variant = DataStage (record {
    data_pointer = pointer;
    transfer_length = n;
    chain = false;
    interrupt_on_completion = false;
    interrupt_on_short = false;
    immediate_data = immediate;
    direction = direction;
  });
  addr = a;
  cycle_bit = true;
}

unfoldable pub status : ℕ → (direction : Bool) → TransferTrb
status a direction = record {
  variant = StatusStage (record { chain = false; interrupt_on_completion = false; direction = direction });
  addr = a;
  cycle_bit = true;
}
