-- 02, R-11: a call under one rule beside the same call under another. Assumes nothing.
use Rattle.std.specs.Prelude.{Bool, true, false, map}
use Rattle.call_log.specs.declared.Record.{Record}
use Rattle.call_log.specs.Calls.{Out}
use Rattle.control_block.specs.declared.ControlBlock.{ControlBlock}
use Rattle.control_block.specs.declared.Ending.{Ending}
use Rattle.control_block.specs.declared.Ending.TheVariants.{KeepCollecting, ReportBadTrb, Fail, Realize}
use Rattle.control_block.specs.declared.GuestRelease.{GuestRelease}
use Rattle.control_block.specs.Blocks.{block_of}
use Rattle.control_endpoint.specs.Returned.{Completed}
use Rattle.control_endpoint.specs.Returned.{Submitted}

-- the block b with this rule in place of its own
abbrev pub under : GuestRelease → ControlBlock → ControlBlock
under release b = block_of b.endpoint_id b.slot_id release b.transfer b.state b.held b.trbs

-- a record with its address left out
abbrev pub without_address : Record → Record
without_address r = record {
  kind = r.kind;
  code = r.code;
  flag = r.flag;
  endpoint_id = r.endpoint_id;
  slot_id = r.slot_id;
  address = 0;
  length = r.length;
  start = r.start;
  request_type = r.request_type;
  request = r.request;
  value = r.value;
  index = r.index;
}

-- a submission, with this rule in its block
abbrev pub submitted_under : GuestRelease → Out Submitted → Out Submitted
submitted_under release o = record {
  state = record { answer = o.state.answer; records = o.state.records; block = under release o.state.block };
  records = o.records;
}

-- a completion, with this rule in its block and the addresses of its records left out
abbrev pub completed_under : GuestRelease → Out Completed → Out Completed
completed_under release o = record {
  state = record { answer = o.state.answer; records = o.state.records; block = under release o.state.block };
  records = map without_address o.records;
}

abbrev pub is_failure : Ending → Bool
is_failure KeepCollecting = false
is_failure (ReportBadTrb a) = false
is_failure (Fail c r) = true
is_failure (Realize given) = false
