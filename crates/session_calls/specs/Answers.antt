-- What a call makes of a script's state, and what it prints. Assumes nothing.
use Rattle.std.specs.Prelude.{ℕ, ◌≡◌, Bool, true, List, [], take, None, Option, Some}
use Rattle.trb.specs.declared.EndpointId.{EndpointId}
use Rattle.trb.specs.declared.SlotId.{SlotId}
use Rattle.guest_memory.specs.Places.{Memory}
use Rattle.guest_memory.specs.declared.Regions.{Regions}
use Rattle.text.specs.declared.Text.{Text}
use Rattle.text.specs.Wrote.{Wrote}
use Rattle.state_text.specs.Widths.{max_answer}
use Rattle.in_td.specs.declared.InMode.{InMode}
use Rattle.control_block.specs.declared.GuestRelease.{GuestRelease}
use Rattle.call_answer.specs.Called.{Said, Called}
use Rattle.call_script.specs.declared.Call.{Call}
use Rattle.call_script.specs.declared.Call.TheVariants.{Window, Buffers, CreateIn, CreateControl, Submit, Complete, Cancel, Hold, MakeUpIn, MakeUpControl, AppendTrb, AppendResult, CompleteRow, Time, Captured}
use Rattle.in_calls.specs.Calls.{in_call, row_call, create_call}
use Rattle.control_calls.specs.Calls.{control_call, collect_behind, create_call as create_control_call}
use Rattle.lent_calls.specs.Lent.{lent_memory, behind_lent}
use Rattle.session.specs.declared.LentBuffers.{LentBuffers}
use Rattle.session.specs.Sessions.{Quiet, bad_quiet, good_quiet, with_in_block, with_control_block, with_lengths, without_row}
use Rattle.held.specs.declared.EndpointKind.{EndpointKind}
use Rattle.held.specs.declared.EndpointKind.TheVariants.{In, Control}
use Rattle.call_answer.specs.declared.Ran.{Ran}
use Rattle.session.specs.declared.Session.{Session}
use Rattle.session_lines.specs.Lines.{region_filled, window_moved, append_trb, append_result}

-- a script's state: endpoint, blocks, regions, lengths lent and the row written down stand in its session; the bytes of log, collect buffer and both regions
pub record State : Type 0 where
  pub session : Session
  pub log : List ℕ
  pub collect : List ℕ
  pub low : List ℕ
  pub high : List ℕ

abbrev pub state_of : Session → List ℕ → List ℕ → List ℕ → List ℕ → State
state_of s log collect low high = record { session = s; log = log; collect = collect; low = low; high = high }

-- a session, and what lies in the buffers of its script
abbrev pub state_in : Session → LentBuffers → State
state_in s b = state_of s b.log.now b.collect.now b.low.now b.high.now

-- the state behind a call, what it prints, how many records it logged, whether its line is good
pub record Answer : Type 0 where
  pub state : State
  pub text : List ℕ
  pub records : ℕ
  pub good : Bool

-- ---- What calls come to

-- a line that prints nothing changes no byte
abbrev pub quietly : State → Quiet → Answer
quietly s o = record { state = state_of o.session s.log s.collect s.low s.high; text = []; records = 0; good = o.good }

-- a call that says so much leaves this state
abbrev pub saying : {B : Type 0} → Said B → State → Answer
saying o s = record { state = s; text = o.text; records = o.records; good = o.good }

-- a call changes of log and guest memory what is lent
abbrev pub called_state : {B : Type 0} → State → Session → Called B → List ℕ → State
called_state s next o collect =
    state_of next (behind_lent s.session.lent.log s.log o.log) collect (behind_lent s.session.lent.window.low.len s.low o.memory.low)
    (behind_lent s.session.lent.window.high.len s.high o.memory.high)

-- ---- Calls on an endpoint

-- as much of the log, and of guest memory, as is lent
abbrev pub lent_log : State → List ℕ
lent_log s = take s.session.lent.log s.log

abbrev pub memory_of_state : State → Memory
memory_of_state s = lent_memory s.session.lent s.low s.high

-- with these bytes of the device's data, on an IN endpoint
unfoldable pub in_answer : List ℕ → State → Call → Answer
in_answer bytes s c =
    let o = in_call s.session.in_block c bytes (lent_log s) (memory_of_state s) in
    saying o.said (called_state s (with_in_block s.session o.said.block) o s.collect)

-- `r`: the row written down is empty afterwards, whatever the answer
unfoldable pub row_answer : List ℕ → State → ℕ → Answer
row_answer bytes s n =
    let x = s.session in
    let o = row_call x.in_block x.row (take n bytes) (lent_log s) (memory_of_state s) in
    saying o.said (called_state s (with_in_block (without_row x) o.said.block) o s.collect)

-- on a control endpoint
unfoldable pub control_answer : List ℕ → State → Call → Answer
control_answer bytes s c =
    let b = s.session.control_block in
    let n = s.session.lent.collect in
    let o = control_call b c bytes n s.collect (lent_log s) (memory_of_state s) in
    saying o.said
    (called_state s (with_control_block s.session o.said.block) o (collect_behind b c n s.collect (lent_log s) (memory_of_state s)))

-- before the first creation a call is a bad line
unfoldable pub endpoint_answer : Option EndpointKind → List ℕ → State → Call → Answer
endpoint_answer None bytes s c = quietly s (bad_quiet s.session)
endpoint_answer (Some In) bytes s c = in_answer bytes s c
endpoint_answer (Some Control) bytes s c = control_answer bytes s c

-- so is a row on control
unfoldable pub endpoint_row_answer : Option EndpointKind → List ℕ → State → ℕ → Answer
endpoint_row_answer None bytes s n = quietly s (bad_quiet s.session)
endpoint_row_answer (Some In) bytes s n = row_answer bytes s n
endpoint_row_answer (Some Control) bytes s n = quietly s (bad_quiet s.session)

-- ---- Creation: it takes the place of the endpoint there was, and empties the row written down; guest memory stays

unfoldable pub in_creation : State → EndpointId → SlotId → InMode → Answer
in_creation s e i mode =
    let o = create_call e i mode in saying o (state_of (with_in_block (without_row s.session) o.block) s.log s.collect s.low s.high)

unfoldable pub control_creation : State → EndpointId → SlotId → GuestRelease → Answer
control_creation s e i release =
    let o = create_control_call e i release s.collect in
    saying o (state_of (with_control_block (without_row s.session) o.block) s.log s.collect s.low s.high)

-- ---- Any call

-- `w`
abbrev pub moving_window : State → Regions → Answer
moving_window s window = record {
  state =
      state_of (window_moved s.session window s.low s.high) s.log s.collect (region_filled window.low s.low) (region_filled window.high s.high);
  text = [];
  records = 0;
  good = true;
}

-- a call, with these bytes of the device's data
unfoldable pub answer_of : List ℕ → State → Call → Answer
answer_of bytes s (Window window) = moving_window s window
answer_of bytes s (Buffers log collect) = quietly s (good_quiet (with_lengths s.session log collect))
answer_of bytes s (CreateIn e i mode) = in_creation s e i mode
answer_of bytes s (CreateControl e i release) = control_creation s e i release
answer_of bytes s (Submit t) = endpoint_answer s.session.endpoint bytes s (Submit t)
answer_of bytes s (Complete status n) = endpoint_answer s.session.endpoint bytes s (Complete status n)
answer_of bytes s Cancel = endpoint_answer s.session.endpoint bytes s Cancel
answer_of bytes s (Hold t) = endpoint_answer s.session.endpoint bytes s (Hold t)
answer_of bytes s (MakeUpIn state) = endpoint_answer s.session.endpoint bytes s (MakeUpIn state)
answer_of bytes s (MakeUpControl phase state direction n) = endpoint_answer s.session.endpoint bytes s (MakeUpControl phase state direction n)
answer_of bytes s (AppendTrb t) = quietly s (append_trb s.session t)
answer_of bytes s (AppendResult status n) = quietly s (append_result s.session (record { status = status; length = n }))
answer_of bytes s (CompleteRow n) = endpoint_row_answer s.session.endpoint bytes s n
answer_of bytes s (Time time) = quietly s (good_quiet s.session)
answer_of bytes s (Captured device transfer_type) = quietly s (good_quiet s.session)

-- a line, which asks for this call or for none: it is bad then
abbrev pub line_answer : List ℕ → State → Option Call → Answer
line_answer bytes s (Some c) = answer_of bytes s c
line_answer bytes s None = quietly s (bad_quiet s.session)

-- ---- The promise

-- a call that was to be answered by o, behind the text t, returned r and left the text t' and the state s'
pub record Answers (o : Answer) (t : Text) (r : Ran Session) (t' : Text) (s' : State) : Type 0 where
  pub state : s' ≡ o.state
  pub records : r.records ≡ o.records
  pub good : r.good ≡ o.good
  pub text : Wrote max_answer t o.text t'
