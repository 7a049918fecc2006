-- A TD submitted to a fresh IN endpoint, TRB by TRB, and completed: what was logged and how it ended. Assumes nothing.
use Rattle.std.specs.Prelude.{ℕ, Bool, true, false, List, [], ◌∷◌, ◌++◌, None, Ok, Option}
use Rattle.trb.specs.Limits.{min_log}
use Rattle.trb.specs.Answers.{CompletionAnswer}
use Rattle.trb.specs.declared.InTrbProcessingStatus.{InTrbProcessingStatus}
use Rattle.trb.specs.declared.TransferTrb.{TransferTrb}
use Rattle.trb.specs.declared.TransferTrbVariant.TheVariants.{Normal, EventData, NoOp}
use Rattle.trb.specs.declared.TrbProcessingResult.TheVariants as result
use Rattle.call_log.specs.Calls.{Out}
use Rattle.call_log.specs.declared.Record.{Record}
use Rattle.guest_memory.specs.declared.Regions.{Regions}
use Rattle.guest_memory.specs.Regions.{guest_regions}
use Rattle.in_td.specs.declared.InMode.TheVariants.{AsPorted, Strict}
use Rattle.in_block.specs.declared.InBlock.{InBlock}
use Rattle.in_endpoint.specs.Completion.{completion}
use Rattle.in_endpoint.specs.Creation.{creation}
use Rattle.in_endpoint.specs.Submission.{submission}
use Rattle.in_endpoint.specs.Returned as call
use Rattle.in_endpoint.specs.Returned.{Submitted}

-- what was logged, over all calls; what the last completion answered; the bytes collected
pub record Seen : Type 0 where
  pub records : List Record
  pub answer : CompletionAnswer
  pub collected : List ℕ

-- guest memory of the examples: one region, at this base; the other is empty
abbrev pub guest_base : ℕ
guest_base = 0x8000

abbrev pub regions : Regions
regions = guest_regions guest_base 0x40000 0 0

-- a submission, then its completion
abbrev pub complete : Out Submitted → Option InTrbProcessingStatus → ℕ → Out call.Completed
complete o r n = completion min_log o.state.block r n

abbrev pub also : List Record → Seen → Seen
also rs s = record { records = rs ++ s.records; answer = s.answer; collected = s.collected }

-- the TRBs ts, each with its completion, the last one with the device's result and n bytes
unfoldable pub play : InBlock → List TransferTrb → Option InTrbProcessingStatus → ℕ → Seen
play b [] r n = record { records = []; answer = Ok result.Ok; collected = [] }
play b (t ∷ []) r n =
    let o = submission min_log b t regions in
    let p = complete o r n in
    record { records = o.records ++ p.records; answer = p.state.answer; collected = [] }
play b (t ∷ u ∷ ts) r n =
    let o = submission min_log b t regions in
    let p = complete o None 0 in
    also (o.records ++ p.records) (play p.state.block (u ∷ ts) r n)

-- endpoint 3, slot 2
unfoldable pub on_in : List TransferTrb → Option InTrbProcessingStatus → ℕ → Seen
on_in ts r n = play (creation (record { 0 = 3 }) (record { 0 = 2 }) AsPorted).block ts r n

-- 02, R-4: in strict mode
unfoldable pub on_strict : List TransferTrb → Option InTrbProcessingStatus → ℕ → Seen
on_strict ts r n = play (creation (record { 0 = 3 }) (record { 0 = 2 }) Strict).block ts r n

-- TRBs, with cycle bit on: address, then what the kind has
unfoldable pub normal : ℕ → ℕ → ℕ → (isp ioc chain : Bool) → TransferTrb
normal a pointer n isp ioc chain = record {
  variant = Normal (record {
    data_pointer = pointer;
    transfer_length = n;
    interrupt_on_short = isp;
    chain = chain;
    interrupt_on_completion = ioc;
    immediate_data = false;
  });
  addr = a;
  cycle_bit = true;
}

unfoldable pub event_data : ℕ → ℕ → (ioc chain : Bool) → TransferTrb
event_data a value ioc chain = record {
  variant = EventData (record { event_data = value; chain = chain; interrupt_on_completion = ioc });
  addr = a;
  cycle_bit = true;
}

unfoldable pub no_op : ℕ → (ioc chain : Bool) → TransferTrb
no_op a ioc chain = record { variant = NoOp (record { chain = chain; interrupt_on_completion = ioc }); addr = a; cycle_bit = true }
