-- What a call script says from line to line, and each change of it. Assumes nothing.
use Rattle.std.specs.Prelude.{ℕ, Bool, true, false, replicate, None, Option, Some}
use Rattle.trb.specs.Limits.{max_row, max_collected}
use Rattle.trb.specs.declared.InTrbProcessingStatus.TheVariants.{Success}
use Rattle.held.specs.Places.{blank_trb}
use Rattle.in_td.specs.declared.InMode.TheVariants.{AsPorted}
use Rattle.in_block.specs.Blocks.{fresh_block}
use Rattle.in_block.specs.declared.InBlock.{InBlock}
use Rattle.control_block.specs.Blocks.{fresh_block as fresh_control_block}
use Rattle.control_block.specs.declared.ControlBlock.{ControlBlock}
use Rattle.control_block.specs.declared.GuestRelease.TheVariants.{Release4}
use Rattle.guest_memory.specs.Regions.{guest_regions}
use Rattle.guest_memory.specs.declared.Regions.{Regions}
use Rattle.call_script.specs.Limits.{max_lent_log}
use Rattle.call_answer.specs.declared.Ran.{Ran}
use Rattle.in_calls.specs.declared.Row.{Row}
use Rattle.lent_calls.specs.declared.Lent.{Lent}
use Rattle.held.specs.declared.EndpointKind.{EndpointKind}
use Rattle.held.specs.declared.EndpointKind.TheVariants.{In, Control}
use Rattle.session.specs.declared.Session.{Session}

-- guest memory at the start: one region of this base and length
abbrev pub first_base : ℕ
first_base = 0x8000

abbrev pub first_length : ℕ
first_length = 0x40000

-- docs/CALLS.md: at the start `w 8000 40000` and `b c000 ffff`. There is no endpoint, and no row is written down
abbrev pub new_session : Session
new_session = record {
  endpoint = None;
  in_block = fresh_block (record { 0 = 0 }) (record { 0 = 0 }) AsPorted;
  control_block = fresh_control_block (record { 0 = 0 }) (record { 0 = 0 }) Release4;
  lent = record { log = max_lent_log; collect = max_collected; window = guest_regions first_base first_length 0 0 };
  row = record { trbs = replicate max_row blank_trb; count = 0; results = replicate max_row (record { status = Success; length = 0 }); tds = 0 };
}

abbrev pub is_in_endpoint : Option EndpointKind → Bool
is_in_endpoint None = false
is_in_endpoint (Some In) = true
is_in_endpoint (Some Control) = false

-- ---- Each change

-- calls are made on an IN endpoint with this block
abbrev pub with_in_block : Session → InBlock → Session
with_in_block s b = record s { endpoint = Some In; in_block = b }

-- calls are made on a control endpoint with this block
abbrev pub with_control_block : Session → ControlBlock → Session
with_control_block s b = record s { endpoint = Some Control; control_block = b }

-- so much of each buffer is lent
abbrev pub with_lent : Session → Lent → Session
with_lent s l = record s { lent = l }

-- other regions
abbrev pub with_window : Session → Regions → Session
with_window s window = with_lent s (record { log = s.lent.log; collect = s.lent.collect; window = window })

-- so many bytes of log and collect buffer are lent
abbrev pub with_lengths : Session → ℕ → ℕ → Session
with_lengths s log collect = with_lent s (record { log = log; collect = collect; window = s.lent.window })

-- another row is written down
abbrev pub with_row : Session → Row → Session
with_row s w = record s { row = w }

-- a row of which nothing is written down
abbrev pub emptied : Row → Row
emptied w = record w { count = 0; tds = 0 }

-- no row is written down
abbrev pub without_row : Session → Session
without_row s = with_row s (emptied s.row)

-- ---- What a line leaves

-- a line that prints nothing leaves a session, and is good or bad
pub record Quiet : Type 0 where
  pub session : Session
  pub good : Bool

-- a bad line: nothing is done
abbrev pub bad_quiet : Session → Quiet
bad_quiet s = record { session = s; good = false }

abbrev pub good_quiet : Session → Quiet
good_quiet s = record { session = s; good = true }

abbrev pub quiet_ran : Quiet → Ran Session
quiet_ran o = record { left = o.session; records = 0; good = o.good }

-- what a call on an endpoint left
abbrev pub in_ran : Session → Ran InBlock → Ran Session
in_ran s r = record { left = with_in_block s r.left; records = r.records; good = r.good }

abbrev pub control_ran : Session → Ran ControlBlock → Ran Session
control_ran s r = record { left = with_control_block s r.left; records = r.records; good = r.good }
