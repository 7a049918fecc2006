-- Laws of a script's calls on an IN endpoint. Assumes nothing.
use Rattle.std.specs.Prelude.{None, Ok, Option, Some}
use Prim.Native.Nat.{ℕ, ◌+◌, ◌≤◌, min}
use mathlib.Core.Path.{◌≡◌, refl, subst}
use mathlib.Core.Bool.{Bool, true, false, cond}
use mathlib.Core.List.{List, []}
use native.Mathlib.Omega.{arith}
use lib.Dec.{leb, lit≤}
use lib.ListN.{length, take}
use Rattle.trb.specs.Limits.{max_held}
use Rattle.trb.specs.declared.EndpointId.{EndpointId}
use Rattle.trb.specs.declared.SlotId.{SlotId}
use Rattle.trb.specs.declared.InTrbProcessingStatus.{InTrbProcessingStatus}
use Rattle.trb.specs.declared.TdBasedNormalSubmissionState.{TdBasedNormalSubmissionState}
use Rattle.trb.specs.declared.TransferTrb.{TransferTrb}
use Rattle.call_log.specs.Calls.{Out, Meets}
use Rattle.call_script.specs.declared.Call.{Call}
use Rattle.call_script.specs.declared.Call.TheVariants.{Window, Buffers, CreateIn, CreateControl, Submit, Complete, Cancel, Hold, MakeUpIn, MakeUpControl, AppendTrb, AppendResult, CompleteRow, Time, Captured}
use Rattle.call_script.specs.declared.DeviceStatus.{DeviceStatus}
use Rattle.call_log.specs.Logs.{logged}
use Rattle.text.specs.declared.Text.{Text}
use Rattle.text.specs.Wrote.{HasRoom, Wrote}
use Rattle.text.proofs.WroteLaws.{wrote-none, wrote-append, wrote-within}
use Rattle.guest_memory.specs.Places.{Memory, regions_of}
use Rattle.call_text.specs.Widths.{max_first, max_record_lines}
use Rattle.call_text.proofs.RecordLaws.{take_min}
use Rattle.call_answer.specs.Answers.{answer_text, Answered, RowAnswered}
use Rattle.in_td.specs.declared.InMode.{InMode}
use Rattle.in_endpoint.specs.Creation.{creation, cancelled}
use Rattle.in_endpoint.specs.Submission.{submission}
use Rattle.in_endpoint.specs.Completion.{completion}
use Rattle.in_endpoint.specs.Returned.{Created}
use Rattle.in_endpoint.specs.Returned.{Submitted}
use Rattle.in_endpoint.specs.Returned.{Completed}
use Rattle.in_row.specs.Completion.{row_completion}
use Rattle.in_row.specs.declared.TdsCompleted.{TdsCompleted}
use Rattle.state_text.specs.Widths.{max_state, max_answer}
use Rattle.call_answer.specs.Called.{Said, bad_said, silent_said, Called, called, Runs, Says, ran_of}
use Rattle.in_block.specs.Blocks.{stored}
use Rattle.in_block.specs.declared.InBlock.{InBlock}
use Rattle.call_answer.specs.declared.Ran.{Ran}
use Rattle.in_calls.specs.declared.Row.{Row}
use Rattle.in_calls.specs.Calls.{answered, created, submitted, completed, row_completed, create_call, submit_call, complete_call, row_call, cancel_call, hold_call, result_call, in_call, Stated}

-- a call that prints nothing
pub says-silent : {o : Said InBlock} {t : Text} {r : Ran InBlock} → o.text ≡ [] → HasRoom max_answer t → r ≡ ran_of o → Says o t r t
says-silent none fits e = record { ran = e; text = rw none (wrote-within (omega arith) (wrote-none (omega arith))) }

-- a state line behind an answer of at most so many characters
says-answered : {a n : ℕ} {t t' t'' : Text} {text : List ℕ} {b : InBlock} {r : Ran InBlock} → a + max_state ≤ max_answer
    → Wrote a t text t' → Stated b n t' r t'' → Says (answered text b n) t r t''
says-answered most w s = record { ran = s.ran; text = wrote-within most (wrote-append w s.text) }

-- what a call with this state and this log comes to is what the call that was met comes to
runs-met : {S : Type 0} {o : Out S} {l l' : List ℕ} {s : S} {r : Ran InBlock} {t t' : Text} {m' : Memory} (run : S → List ℕ → Called InBlock)
    → Meets o 0 l s l' → Runs (run s l') t r t' l' m' → Runs (run o.state (logged l 0 o.records)) t r t' l' m'
runs-met {o = o} {l = l} {l' = l'} {s = s} {r = r} {t = t} {t' = t'} {m' = m'} run met p =
    subst (λ (x : List ℕ). Runs (run o.state x) t r t' l' m') met.log (subst (λ x. Runs (run x l') t r t' l' m') met.state p)

-- an answer, and the state line behind it
module _ {log log' : List ℕ} {t t' t'' : Text} {r : Ran InBlock} (b : InBlock) (m : Memory) where
  pub runs-submitted : {s : Submitted} (x : TransferTrb) → Meets (submission (length log) b x (regions_of m)) 0 log s log'
      → Wrote (max_first + max_record_lines) t (answer_text s.answer s.records log') t' → Stated s.block s.records t' r t''
      → Runs (submit_call b x log m) t r t'' log' m
  unfolding submit_call
  runs-submitted x met w st =
      runs-met (λ s l. submitted s l m) met (record { says = says-answered (lit≤ tt) w st; log = refl; memory = refl })

  pub runs-completed : {c : Completed} {m' : Memory} (x : Option InTrbProcessingStatus) (bytes : List ℕ)
      → Meets (completion (length log) b x (length bytes)) 0 log c log' → Answered c.answer c.records log' bytes m t t' m'
      → Stated c.block c.records t' r t'' → Runs (complete_call b x bytes log m) t r t'' log' m'
  unfolding complete_call
  runs-completed x bytes met w st =
      runs-met (λ c l. completed c l bytes m) met (record { says = says-answered (lit≤ tt) w.text st; log = refl; memory = w.after })

  pub runs-row : {c : TdsCompleted} {m' : Memory} (row : Row) (bytes : List ℕ)
      → Meets (row_completion (length log) b row.count (take row.count row.trbs) row.tds (take row.tds row.results) (length bytes) (regions_of m)) 0 log c log'
      → RowAnswered c.answer c.finished c.records log' bytes m t t' m' → Stated c.block c.records t' r t''
      → Runs (row_call b row bytes log m) t r t'' log' m'
  unfolding row_call
  runs-row row bytes met w st =
      runs-met (λ c l. row_completed c l bytes m) met (record { says = says-answered (lit≤ tt) w.text st; log = refl; memory = w.after })

module _ {t t' t'' : Text} {r : Ran InBlock} where
  pub says-created : {c : Created} (e : EndpointId) (s : SlotId) (mode : InMode) → c ≡ creation e s mode
      → Wrote (max_first + max_record_lines) t (answer_text c.answer 0 []) t' → Stated c.block 0 t' r t'' → Says (create_call e s mode) t r t''
  unfolding create_call
  says-created {c = c} e s mode made w st = subst (λ (x : Created). Says (created x) t r t'') made (says-answered (lit≤ tt) w st)

  pub says-cancelled : {a : InBlock} (b : InBlock) → a ≡ cancelled b → Wrote (max_first + max_record_lines) t (answer_text (Ok tt) 0 []) t'
      → Stated a 0 t' r t'' → Says (cancel_call b) t r t''
  unfolding cancel_call
  says-cancelled b made w st =
      subst (λ (x : InBlock). Says (answered (answer_text (Ok tt) 0 []) x 0) t r t'') made (says-answered (lit≤ tt) w st)

-- ---- Single calls

no_text : (k : Bool) (o p : Said InBlock) → o.text ≡ [] → p.text ≡ [] → (cond k o p).text ≡ []
no_text true o p h i = h
no_text false o p h i = i

-- no answer is printed
pub text-hold_call : (b : InBlock) (t : TransferTrb) → (hold_call b t).text ≡ []
unfolding hold_call
text-hold_call b t = no_text (leb max_held b.held) (bad_said b) (silent_said (stored b t)) refl refl

module _ (b : InBlock) (x : Option InTrbProcessingStatus) (bytes log : List ℕ) (m : Memory) where
  -- a device result that an IN endpoint does not take
  pub result_call-none : x ≡ None → result_call b x bytes log m ≡ called (bad_said b) log m
  unfolding result_call
  result_call-none e = rw e

  pub result_call-given : (s : InTrbProcessingStatus) → x ≡ Some s → result_call b x bytes log m ≡ complete_call b x bytes log m
  unfolding result_call
  result_call-given s e = rw e

-- of the device's data as much as there is
pub take-least : {k : ℕ} (n : ℕ) (l : List ℕ) → k ≡ min n (length l) → take k l ≡ take n l
take-least n l e = rw e (take_min n l)

-- ---- The calls that are none on an IN endpoint

module _ (b : InBlock) (bytes log : List ℕ) (m : Memory) where
  pub bad-call : (call : Call) → ((t : TransferTrb) → call ≡ Submit t → ⊥) → ((s : Option DeviceStatus) (n : ℕ) → call ≡ Complete s n → ⊥) → (call ≡ Cancel → ⊥)
      → ((t : TransferTrb) → call ≡ Hold t → ⊥) → ((state : TdBasedNormalSubmissionState) → call ≡ MakeUpIn state → ⊥) → in_call b call bytes log m ≡ called (bad_said b) log m
  unfolding in_call
  bad-call (Window window) submit complete cancel hold make_up = refl
  bad-call (Buffers l c) submit complete cancel hold make_up = refl
  bad-call (CreateIn e s mode) submit complete cancel hold make_up = refl
  bad-call (CreateControl e s release) submit complete cancel hold make_up = refl
  bad-call (Submit t) submit complete cancel hold make_up = absurd (submit t refl)
  bad-call (Complete s n) submit complete cancel hold make_up = absurd (complete s n refl)
  bad-call Cancel submit complete cancel hold make_up = absurd (cancel refl)
  bad-call (Hold t) submit complete cancel hold make_up = absurd (hold t refl)
  bad-call (MakeUpIn state) submit complete cancel hold make_up = absurd (make_up state refl)
  bad-call (MakeUpControl phase state direction n) submit complete cancel hold make_up = refl
  bad-call (AppendTrb t) submit complete cancel hold make_up = refl
  bad-call (AppendResult s n) submit complete cancel hold make_up = refl
  bad-call (CompleteRow n) submit complete cancel hold make_up = refl
  bad-call (Time time) submit complete cancel hold make_up = refl
  bad-call (Captured device transfer_type) submit complete cancel hold make_up = refl
