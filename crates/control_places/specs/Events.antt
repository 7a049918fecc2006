-- What a completion of a block logs, and the address that its last event needs. Assumes nothing.
use Rattle.std.specs.Prelude.{ℕ, ◌≡◌, Bool, true, false, not, cond, List}
use Rattle.trb.specs.declared.EndpointId.{EndpointId}
use Rattle.trb.specs.declared.SlotId.{SlotId}
use Rattle.call_log.specs.declared.Record.{Record}
use Rattle.control_block.specs.declared.ControlBlock.{ControlBlock}
use Rattle.phase_table.specs.declared.Outcome.{Outcome}
use Rattle.phase_table.specs.Outcomes.{restarts, requests}
use Rattle.control_block.specs.declared.Ending.{Ending}
use Rattle.control_block.specs.declared.Ending.TheVariants.{KeepCollecting, ReportBadTrb, Fail, Realize}
use Rattle.control_block.specs.Blocks.{held_of}
use Rattle.control_block.specs.Stages.{error_address}
use Rattle.control_chain.specs.Endings.{ending_records, last_records}

-- a TRB that starts no transfer anew and makes no request logs nothing
abbrev pub is_silent : Outcome → Bool
is_silent o = cond (restarts o) false (not (requests o))

-- nor does a completion while TRBs are still being collected
abbrev pub is_collecting : Ending → Bool
is_collecting KeepCollecting = true
is_collecting (ReportBadTrb a) = false
is_collecting (Fail c r) = false
is_collecting (Realize given) = false

-- an address is right for the last event: where the transfer failed it is the error's, otherwise it does not matter
abbrev pub EventAt : Ending → ControlBlock → ℕ → Type 0
EventAt x b a = (e : EndpointId) (s : SlotId) → last_records x a e s ≡ last_records x (error_address b) e s

abbrev pub completion_records : Ending → ControlBlock → List Record
completion_records x b = ending_records x (error_address b) b.endpoint_id b.slot_id (held_of b)
