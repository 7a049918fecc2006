-- A call that leaves the blocks as they were and logs nothing gives no record: so does every refused one. Assumes nothing.
use Rattle.std.specs.Prelude.{None, Option, Some}
use Prim.Native.Nat.{ℕ}
use mathlib.Core.Bool.{Bool, true, false, cond}
use mathlib.Core.Path.{◌≡◌, refl}
use mathlib.Core.List.{List, [], ◌∷◌}
use native.Mathlib.Numerals.{unary_clauses}
use lib.ListN.{take, drop}
use Rattle.trb.specs.declared.ControlRequestProcessingResult.{ControlRequestProcessingResult}
use Rattle.trb.specs.declared.ControlSubmissionState.{ControlSubmissionState}
use Rattle.trb.specs.declared.ControlSubmissionState.TheVariants as control
use Rattle.trb.specs.declared.InTrbProcessingStatus.{InTrbProcessingStatus}
use Rattle.trb.specs.declared.TdBasedNormalSubmissionState.{TdBasedNormalSubmissionState}
use Rattle.trb.specs.declared.TdBasedNormalSubmissionState.TheVariants.{SubmissionDue, CollectingTd, AwaitingRealTransfer, AwaitingLocalCompletion, UnsupportedTrb}
use Rattle.trb.specs.declared.UsbRequest.{UsbRequest}
use Rattle.in_block.specs.Facts as input-facts
use Rattle.control_block.specs.Facts as control-facts
use Rattle.row_walk.specs.Rows.{RowTd, has_normal}
use Rattle.call_script.specs.declared.Call.{Call}
use Rattle.call_script.specs.declared.Call.TheVariants.{Window, Buffers, CreateIn, CreateControl, Submit, Complete, Cancel, Hold, MakeUpIn, MakeUpControl, AppendTrb, AppendResult, CompleteRow, Time, Captured}
use Rattle.call_script.specs.declared.DeviceStatus.{DeviceStatus}
use Rattle.in_calls.specs.Calls as input-calls
use Rattle.control_calls.specs.Calls as control-calls
use Rattle.held.specs.declared.EndpointKind.{EndpointKind}
use Rattle.held.specs.declared.EndpointKind.TheVariants.{In, Control}
use Rattle.session.specs.declared.Session.{Session}
use Rattle.capture_record.specs.declared.InPipe.{InPipe}
use Rattle.capture_calls.specs.Events.{in_completion_event, control_completion_event}
use Rattle.capture_calls.specs.Captures.{Captured as Caller, writer_call}
use Rattle.captured_calls.specs.declared.Setting.{Setting}
use Rattle.captured_calls.specs.Rows.{row_captures, requests_in}
use Rattle.captured_calls.specs.Submitted.{logged_records}
use Rattle.call_captures.specs.CallCaptures.{submission_captures, result_captures, no_result_captures, call_captures}

-- a completion that leaves its state: where a submission was due there was nothing to complete
module _ (c : Caller) (bytes : List ℕ) where
  in_kept : (p : InPipe) (first : ℕ) (r : Option InTrbProcessingStatus) (state : TdBasedNormalSubmissionState)
      → cond (input-facts.submission_due state) (writer_call c (in_completion_event p state first r) bytes) [] ≡ []
  in_kept p first r SubmissionDue = refl
  in_kept p first r CollectingTd = refl
  in_kept p first r AwaitingRealTransfer = refl
  in_kept p first r AwaitingLocalCompletion = refl
  in_kept p first r (UnsupportedTrb a) = refl

  control-kept : (direction : Bool) (q : UsbRequest) (n : ℕ) (r : Option ControlRequestProcessingResult) (state : ControlSubmissionState)
      → cond (control-facts.submission_due state) (writer_call c (control_completion_event state direction q n r) bytes) [] ≡ []
  control-kept direction q n r control.NoTrbSubmitted = refl
  control-kept direction q n r control.CollectingTd = refl
  control-kept direction q n r (control.ParserError a) = refl
  control-kept direction q n r (control.UnexpectedTrb a) = refl
  control-kept direction q n r control.AwaitingControlRequest = refl

-- a row none of whose TDs logged a request
row-none : (c : Caller) (p : InPipe) (tds : List RowTd) (bytes : List ℕ) → row_captures c p tds [] bytes ≡ []
unfolding row_captures
row-none c p [] bytes = refl
row-none c p (td ∷ tds) bytes = by (has_normal td.trbs) refl (row-none c p tds (drop td.given.length bytes))
  where
    by : (b : Bool) → has_normal td.trbs ≡ b → row_captures c p tds [] (drop td.given.length bytes) ≡ [] → row_captures c p (td ∷ tds) [] bytes ≡ []
    by true e rest = rw e rest
    by false e rest = rw e rest

module _ (s : Setting) (before after : Session) (in-same : after.in_block ≡ before.in_block) (control-same : after.control_block ≡ before.control_block) where
  submission-kept : (e : Option EndpointKind) (log collect : List ℕ) → submission_captures e s before after (logged_records 0 log) collect ≡ []
  submission-kept None log collect = refl
  submission-kept (Some In) log collect = simp unary_clauses refl
  submission-kept (Some Control) log collect = simp unary_clauses refl

  result-kept : (e : Option EndpointKind) (status : DeviceStatus) (bytes : List ℕ) → result_captures e s before after status bytes ≡ []
  result-kept None status bytes = refl
  result-kept (Some In) status bytes = rw in-same (in_kept _ bytes _ _ (input-calls.result_of status) before.in_block.state)
  result-kept (Some Control) status bytes = rw control-same (control-kept _ bytes _ _ _ (Some (control-calls.result_of status)) before.control_block.state)

  no-result-kept : (e : Option EndpointKind) → no_result_captures e s before after ≡ []
  no-result-kept None = refl
  no-result-kept (Some In) = refl
  no-result-kept (Some Control) = rw control-same (control-kept _ [] _ _ _ None before.control_block.state)

  pub call_captures-kept : (c : Call) (log collect bytes : List ℕ) → call_captures s before after c (logged_records 0 log) collect bytes ≡ []
  unfolding call_captures requests_in
  call_captures-kept (Window window) log collect bytes = refl
  call_captures-kept (Buffers l n) log collect bytes = refl
  call_captures-kept (CreateIn e i mode) log collect bytes = refl
  call_captures-kept (CreateControl e i release) log collect bytes = refl
  call_captures-kept (Submit t) log collect bytes = submission-kept after.endpoint log collect
  call_captures-kept (Complete (Some status) n) log collect bytes = result-kept after.endpoint status (take n bytes)
  call_captures-kept (Complete None n) log collect bytes = no-result-kept after.endpoint
  call_captures-kept Cancel log collect bytes = refl
  call_captures-kept (Hold t) log collect bytes = refl
  call_captures-kept (MakeUpIn state) log collect bytes = refl
  call_captures-kept (MakeUpControl phase state direction n) log collect bytes = refl
  call_captures-kept (AppendTrb t) log collect bytes = refl
  call_captures-kept (AppendResult status n) log collect bytes = refl
  call_captures-kept (CompleteRow n) log collect bytes = simp unary_clauses (row-none _ _ _ (take n bytes))
  call_captures-kept (Time time) log collect bytes = refl
  call_captures-kept (Captured device transfer_type) log collect bytes = refl
