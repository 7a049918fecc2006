-- Laws of a script's calls on a control endpoint. Assumes nothing.
use Rattle.std.specs.Prelude.{Ok, Option}
use Prim.Native.Nat.{ℕ, zero, suc, ◌+◌, ◌≤◌, min}
use mathlib.Core.Path.{◌≡◌, refl, subst}
use mathlib.Core.Bool.{Bool, true, false, cond}
use mathlib.Core.List.{List, [], ◌∷◌, ◌++◌}
use native.Mathlib.Nat.{zero-min, min-zero, suc-min-suc}
use native.Mathlib.Omega.{arith}
use lib.Dec.{leb, lit≤}
use lib.ListN.{length, take, drop, length-take}
use Rattle.trb.specs.Limits.{max_held}
use Rattle.trb.specs.declared.ControlRequestProcessingResult.{ControlRequestProcessingResult}
use Rattle.trb.specs.declared.ControlSubmissionState.{ControlSubmissionState}
use Rattle.trb.specs.declared.ControlTransferState.{ControlTransferState}
use Rattle.trb.specs.declared.EndpointId.{EndpointId}
use Rattle.trb.specs.declared.SlotId.{SlotId}
use Rattle.trb.specs.declared.TransferTrb.{TransferTrb}
use Rattle.call_log.specs.Calls.{Out, Meets}
use Rattle.call_script.specs.declared.Call.{Call}
use Rattle.call_script.specs.declared.Call.TheVariants.{Window, Buffers, CreateIn, CreateControl, Submit, Complete, Cancel, Hold, MakeUpIn, MakeUpControl, AppendTrb, AppendResult, CompleteRow, Time, Captured}
use Rattle.call_script.specs.declared.DeviceStatus.{DeviceStatus}
use Rattle.call_log.specs.Logs.{logged}
use Rattle.text.specs.declared.Text.{Text}
use Rattle.text.specs.Wrote.{HasRoom, Wrote}
use Rattle.text.proofs.WroteLaws.{wrote-none, wrote-append, wrote-within}
use Rattle.buffers.specs.Patch.{patch}
use Rattle.guest_memory.specs.Places.{Memory, regions_of}
use Rattle.call_text.specs.Widths.{max_first, max_record_lines}
use Rattle.call_text.proofs.RecordLaws.{take_min}
use Rattle.call_answer.specs.Answers.{answer_text, Answered}
use Rattle.control_endpoint.specs.Creation.{creation}
use Rattle.control_endpoint.specs.Submission.{submission, bytes_collected}
use Rattle.control_endpoint.specs.Completion.{completion}
use Rattle.control_endpoint.specs.Returned.{Created}
use Rattle.control_endpoint.specs.Returned.{Submitted}
use Rattle.control_endpoint.specs.Returned.{Completed}
use Rattle.state_text.specs.Widths.{max_state, max_answer}
use Rattle.call_answer.specs.Called.{Said, bad_said, silent_said, Called, called, Runs, Says, ran_of}
use Rattle.control_block.specs.Blocks.{stored}
use Rattle.control_block.specs.declared.ControlBlock.{ControlBlock}
use Rattle.control_block.specs.declared.GuestRelease.{GuestRelease}
use Rattle.call_answer.specs.declared.Ran.{Ran}
use Rattle.control_calls.specs.Calls.{answered, created, submitted, completed, create_call, collect_after, submit_call, complete_call, cancel_call, hold_call, control_call, collect_behind, Stated}

-- a call that prints nothing
pub says-silent : {o : Said ControlBlock} {t : Text} {r : Ran ControlBlock} → o.text ≡ [] → HasRoom max_answer t → r ≡ ran_of o → Says o t r t
says-silent none fits e = record { ran = e; text = rw none (wrote-within (omega arith) (wrote-none (omega arith))) }

-- a state line behind an answer of at most so many characters
says-answered : {a n : ℕ} {t t' t'' : Text} {text : List ℕ} {b : ControlBlock} {collect : List ℕ} {r : Ran ControlBlock} → a + max_state ≤ max_answer
    → Wrote a t text t' → Stated b collect n t' r t'' → Says (answered text b collect n) t r t''
says-answered most w s = record { ran = s.ran; text = wrote-within most (wrote-append w s.text) }

-- what a call with this state and this log comes to is what the call that was met comes to
runs-met : {S : Type 0} {o : Out S} {l l' : List ℕ} {s : S} {r : Ran ControlBlock} {t t' : Text} {m' : Memory} (run : S → List ℕ → Called ControlBlock)
    → Meets o 0 l s l' → Runs (run s l') t r t' l' m' → Runs (run o.state (logged l 0 o.records)) t r t' l' m'
runs-met {o = o} {l = l} {l' = l'} {s = s} {r = r} {t = t} {t' = t'} {m' = m'} run met p =
    subst (λ (x : List ℕ). Runs (run o.state x) t r t' l' m') met.log (subst (λ x. Runs (run x l') t r t' l' m') met.state p)

-- an answer, and the state line behind it
module _ {log log' : List ℕ} {t t' t'' : Text} {r : Ran ControlBlock} (b : ControlBlock) (m : Memory) where
  pub runs-submitted : {s : Submitted} {part collect' : List ℕ} (x : TransferTrb) (lent : ℕ) (collect : List ℕ) → part ≡ take lent collect
      → Meets (submission (length log) (length part) b x (regions_of m)) 0 log s log' → collect' ≡ collect_after b x lent collect log m
      → Wrote (max_first + max_record_lines) t (answer_text s.answer s.records log') t' → Stated s.block collect' s.records t' r t''
      → Runs (submit_call b x lent collect log m) t r t'' log' m
  unfolding submit_call
  runs-submitted {s = s} x lent collect is met kept w st =
      runs-met (λ s l. submitted s l (collect_after b x lent collect log m) m)
      (subst (λ (z : List ℕ). Meets (submission (length log) (length z) b x (regions_of m)) 0 log s log') is met)
      (record {
        says = says-answered (lit≤ tt) w (subst (λ (z : List ℕ). Stated s.block z s.records t' r t'') kept st);
        log = refl;
        memory = refl;
      })

  pub runs-completed : {c : Completed} {m' : Memory} (x : Option ControlRequestProcessingResult) (bytes collect : List ℕ)
      → Meets (completion (length log) b x (length bytes)) 0 log c log' → Answered c.answer c.records log' bytes m t t' m'
      → Stated c.block collect c.records t' r t'' → Runs (complete_call b x bytes collect log m) t r t'' log' m'
  unfolding complete_call
  runs-completed x bytes collect met w st =
      runs-met (λ c l. completed c l collect bytes m) met
      (record { says = says-answered (lit≤ tt) w.text st; log = refl; memory = w.after })

module _ {t t' t'' : Text} {r : Ran ControlBlock} where
  pub says-created : {c : Created} (e : EndpointId) (s : SlotId) (release : GuestRelease) (collect : List ℕ) → c ≡ creation e s release
      → Wrote (max_first + max_record_lines) t (answer_text c.answer 0 []) t' → Stated c.block collect 0 t' r t''
      → Says (create_call e s release collect) t r t''
  unfolding create_call
  says-created {c = c} e s release collect made w st =
      subst (λ (x : Created). Says (created x collect) t r t'') made (says-answered (lit≤ tt) w st)

  pub says-cancelled : {a : ControlBlock} (b : ControlBlock) (collect : List ℕ) → a ≡ b
      → Wrote (max_first + max_record_lines) t (answer_text (Ok tt) 0 []) t' → Stated a collect 0 t' r t'' → Says (cancel_call b collect) t r t''
  unfolding cancel_call
  says-cancelled b collect made w st =
      subst (λ (x : ControlBlock). Says (answered (answer_text (Ok tt) 0 []) x collect 0) t r t'') made (says-answered (lit≤ tt) w st)

-- ---- Single calls

no_text : (k : Bool) (o p : Said ControlBlock) → o.text ≡ [] → p.text ≡ [] → (cond k o p).text ≡ []
no_text true o p h i = h
no_text false o p h i = i

-- no answer is printed
pub text-hold_call : (b : ControlBlock) (t : TransferTrb) → (hold_call b t).text ≡ []
unfolding hold_call
text-hold_call b t = no_text (leb max_held b.held) (bad_said b) (silent_said (stored b t)) refl refl

-- of the device's data as much as there is
pub take-least : {k : ℕ} (n : ℕ) (l : List ℕ) → k ≡ min n (length l) → take k l ≡ take n l
take-least n l e = rw e (take_min n l)

drop_min : (n : ℕ) (l : List ℕ) → drop (min n (length l)) l ≡ drop n l
drop_min zero l = rw zero-min refl
drop_min (suc n) [] = rw min-zero refl
drop_min (suc n) (x ∷ xs) = rw suc-min-suc (drop_min n xs)

-- at most so many bytes
pub length-take-most : (k : ℕ) (l : List ℕ) {n : ℕ} → k ≤ n → length (take k l) ≤ n
length-take-most k l h = rw (length-take k l) (omega arith)

-- the collect buffer behind a submission, of which as much was lent as there is
pub collected-behind : {k : ℕ} {part : List ℕ} (b : ControlBlock) (t : TransferTrb) (lent : ℕ) (collect log : List ℕ) (m : Memory) → k ≡ min lent (length collect)
    → part ≡ patch (take k collect) b.transfer.collected (bytes_collected (length log) (length (take k collect)) b t m)
    → part ++ drop k collect ≡ collect_after b t lent collect log m
unfolding collect_after
collected-behind {k = k} b t lent collect log m e h =
    let rest : drop k collect ≡ drop lent collect = rw e (drop_min lent collect) in
    rw (← take-least lent collect e, ← rest, h)

-- ---- The calls that are none on a control endpoint

module _ (b : ControlBlock) (lent : ℕ) (bytes collect log : List ℕ) (m : Memory) where
  pub bad-call : (call : Call) → ((t : TransferTrb) → call ≡ Submit t → ⊥) → ((s : Option DeviceStatus) (n : ℕ) → call ≡ Complete s n → ⊥) → (call ≡ Cancel → ⊥)
      → ((t : TransferTrb) → call ≡ Hold t → ⊥) → ((phase : ControlTransferState) (state : ControlSubmissionState) (direction : Bool) (n : ℕ) → call ≡ MakeUpControl phase state direction n → ⊥) → control_call b call bytes lent collect log m ≡ called (bad_said b) log m
  unfolding control_call
  bad-call (Window window) submit complete cancel hold make_up = refl
  bad-call (Buffers l c) submit complete cancel hold make_up = refl
  bad-call (CreateIn e s mode) submit complete cancel hold make_up = refl
  bad-call (CreateControl e s release) submit complete cancel hold make_up = refl
  bad-call (Submit t) submit complete cancel hold make_up = absurd (submit t refl)
  bad-call (Complete s n) submit complete cancel hold make_up = absurd (complete s n refl)
  bad-call Cancel submit complete cancel hold make_up = absurd (cancel refl)
  bad-call (Hold t) submit complete cancel hold make_up = absurd (hold t refl)
  bad-call (MakeUpIn state) submit complete cancel hold make_up = refl
  bad-call (MakeUpControl phase state direction n) submit complete cancel hold make_up = absurd (make_up phase state direction n refl)
  bad-call (AppendTrb t) submit complete cancel hold make_up = refl
  bad-call (AppendResult s n) submit complete cancel hold make_up = refl
  bad-call (CompleteRow n) submit complete cancel hold make_up = refl
  bad-call (Time time) submit complete cancel hold make_up = refl
  bad-call (Captured device transfer_type) submit complete cancel hold make_up = refl

module _ (b : ControlBlock) (lent : ℕ) (collect log : List ℕ) (m : Memory) where
  -- a call that submits nothing leaves the collect buffer
  pub kept-collect : (call : Call) → ((t : TransferTrb) → call ≡ Submit t → ⊥) → collect_behind b call lent collect log m ≡ collect
  unfolding collect_behind
  kept-collect (Window window) submit = refl
  kept-collect (Buffers l c) submit = refl
  kept-collect (CreateIn e s mode) submit = refl
  kept-collect (CreateControl e s release) submit = refl
  kept-collect (Submit t) submit = absurd (submit t refl)
  kept-collect (Complete s n) submit = refl
  kept-collect Cancel submit = refl
  kept-collect (Hold t) submit = refl
  kept-collect (MakeUpIn state) submit = refl
  kept-collect (MakeUpControl phase state direction n) submit = refl
  kept-collect (AppendTrb t) submit = refl
  kept-collect (AppendResult s n) submit = refl
  kept-collect (CompleteRow n) submit = refl
  kept-collect (Time time) submit = refl
  kept-collect (Captured device transfer_type) submit = refl
