-- What each kind of line promises, from what its callee promises. Assumes nothing.
use Rattle.std.specs.Prelude.{None, Option, Some}
use Prim.Native.Nat.{ℕ}
use mathlib.Core.Path.{◌≡◌, refl, subst}
use mathlib.Core.List.{List}
use native.Mathlib.Omega.{arith}
use lib.ListN.{take}
use Rattle.state_text.specs.Widths.{max_answer}
use Rattle.text.specs.declared.Text.{Text}
use Rattle.text.specs.Wrote.{HasRoom}
use Rattle.text.proofs.WroteLaws.{wrote-none, wrote-within}
use Rattle.guest_memory.specs.declared.Regions.{Regions}
use Rattle.trb.specs.declared.EndpointId.{EndpointId}
use Rattle.trb.specs.declared.SlotId.{SlotId}
use Rattle.in_td.specs.declared.InMode.{InMode}
use Rattle.in_block.specs.declared.InBlock.{InBlock}
use Rattle.control_block.specs.declared.ControlBlock.{ControlBlock}
use Rattle.control_block.specs.declared.GuestRelease.{GuestRelease}
use Rattle.call_answer.specs.Called.{Called, Says}
use Rattle.call_script.specs.declared.Call.{Call}
use Rattle.in_calls.specs.Calls.{in_call, row_call, create_call}
use Rattle.call_answer.specs.declared.Ran.{Ran}
use Rattle.control_calls.specs.Calls.{control_call, collect_behind, create_call as create_control_call}
use Rattle.lent_calls.specs.Lent.{lent_memory, RunsLent, RunsControlLent}
use Rattle.session.specs.Sessions.{Quiet, bad_quiet, quiet_ran, in_ran, control_ran, with_in_block, with_control_block, without_row}
use Rattle.held.specs.declared.EndpointKind.{EndpointKind}
use Rattle.held.specs.declared.EndpointKind.TheVariants.{Control}
use Rattle.call_answer.specs.declared.Ran.{Ran}
use Rattle.session.specs.declared.Session.{Session}
use Rattle.session_lines.specs.Lines.{MovesWindow}
use Rattle.session_calls.specs.Answers.{State, state_of, quietly, saying, called_state, moving_window, endpoint_answer, endpoint_row_answer, in_answer, row_answer, control_answer, in_creation, control_creation, Answers}

-- ---- Lines that print nothing

module _ {r : Ran Session} (s : State) {t : Text} (room : HasRoom max_answer t) where
  pub answers-quiet : (q : Quiet) → r ≡ quiet_ran q → Answers (quietly s q) t r t (state_of r.left s.log s.collect s.low s.high)
  answers-quiet q e = rw e (record {
    state = refl;
    records = refl;
    good = refl;
    text = wrote-within (omega arith) (wrote-none (omega arith));
  })

  pub answers-window : {window : Regions} {low' high' : List ℕ} → MovesWindow s.session window r s.low low' s.high high'
      → Answers (moving_window s window) t r t (state_of r.left s.log s.collect low' high')
  answers-window w = rw (w.ran, w.low, w.high) (record {
    state = refl;
    records = refl;
    good = refl;
    text = wrote-within (omega arith) (wrote-none (omega arith));
  })

-- ---- Calls on an endpoint, made on the session x, with what s lends

module _ (s : State) (x : Session) {r : Ran Session} {t t' : Text} {log' low' high' : List ℕ} where
  called-in : {o : Called InBlock} {ran : Ran InBlock} → RunsLent o s.session.lent t ran t' s.log log' s.low low' s.high high' → r ≡ in_ran x ran
      → Answers (saying o.said (called_state s (with_in_block x o.said.block) o s.collect)) t r t' (state_of r.left log' s.collect low' high')
  called-in run e = rw (e, run.says.ran) (record {
    state = rw (run.leaves.log, run.leaves.low, run.leaves.high);
    records = refl;
    good = refl;
    text = run.says.text;
  })

  called-control : {o : Called ControlBlock} {collect collect' : List ℕ} {ran : Ran ControlBlock}
      → RunsControlLent o collect s.session.lent t ran t' s.log log' collect' s.low low' s.high high' → r ≡ control_ran x ran
      → Answers (saying o.said (called_state s (with_control_block x o.said.block) o collect)) t r t' (state_of r.left log' collect' low' high')
  called-control run e = rw (e, run.says.ran) (record {
    state = rw (run.leaves.log, run.collected, run.leaves.low, run.leaves.high);
    records = refl;
    good = refl;
    text = run.says.text;
  })

module _ (x : Session) (log collect low high : List ℕ) {t t' : Text} {log' low' high' : List ℕ} {r : Ran Session} where
  pub answers-in : {ran : Ran InBlock} (bytes : List ℕ) (c : Call)
      → RunsLent (in_call x.in_block c bytes (take x.lent.log log) (lent_memory x.lent low high)) x.lent t ran t' log log' low low' high high' → r ≡ in_ran x ran
      → Answers (in_answer bytes (state_of x log collect low high) c) t r t' (state_of r.left log' collect low' high')
  unfolding in_answer
  answers-in bytes c run e = called-in (state_of x log collect low high) x run e

  pub answers-row : {ran : Ran InBlock} {y : Session} (bytes : List ℕ) (n : ℕ)
      → RunsLent (row_call x.in_block x.row (take n bytes) (take x.lent.log log) (lent_memory x.lent low high))
      x.lent t ran t' log log' low low' high high' → y ≡ without_row x → r ≡ in_ran y ran
      → Answers (row_answer bytes (state_of x log collect low high) n) t r t' (state_of r.left log' collect low' high')
  unfolding row_answer
  answers-row {ran = ran} bytes n run emptied e =
      called-in (state_of x log collect low high) (without_row x) run (subst (λ (z : Session). r ≡ in_ran z ran) emptied e)

  pub answers-control : {ran : Ran ControlBlock} {collect' : List ℕ} (bytes : List ℕ) (c : Call)
      → RunsControlLent (control_call x.control_block c bytes x.lent.collect collect (take x.lent.log log) (lent_memory x.lent low high))
      (collect_behind x.control_block c x.lent.collect collect (take x.lent.log log) (lent_memory x.lent low high))
      x.lent t ran t' log log' collect' low low' high high' → r ≡ control_ran x ran
      → Answers (control_answer bytes (state_of x log collect low high) c) t r t' (state_of r.left log' collect' low' high')
  unfolding control_answer
  answers-control bytes c run e = called-control (state_of x log collect low high) x run e

-- a call on no endpoint is a bad line, and so is a row on none or on control
module _ {e : Option EndpointKind} (bytes : List ℕ) (s : State) where
  pub answer-nowhere : (c : Call) → e ≡ None → endpoint_answer e bytes s c ≡ quietly s (bad_quiet s.session)
  unfolding endpoint_answer
  answer-nowhere c h = rw h

  module _ (n : ℕ) where
    pub row-nowhere : e ≡ None → endpoint_row_answer e bytes s n ≡ quietly s (bad_quiet s.session)
    unfolding endpoint_row_answer
    row-nowhere h = rw h

    pub row-control : (k : EndpointKind) → e ≡ Some k → k ≡ Control → endpoint_row_answer e bytes s n ≡ quietly s (bad_quiet s.session)
    unfolding endpoint_row_answer
    row-control k h i = rw (h, i)

-- ---- Creation

module _ (x : Session) {y : Session} (log collect low high : List ℕ) {t t' : Text} {r : Ran Session} (emptied : y ≡ without_row x) (e : EndpointId) (i : SlotId) where
  pub answers-in-creation : {ran : Ran InBlock} (mode : InMode) → Says (create_call e i mode) t ran t' → r ≡ in_ran y ran
      → Answers (in_creation (state_of x log collect low high) e i mode) t r t' (state_of r.left log collect low high)
  unfolding in_creation
  answers-in-creation mode says made = rw (made, emptied, says.ran) (record { state = refl; records = refl; good = refl; text = says.text })

  pub answers-control-creation : {ran : Ran ControlBlock} (release : GuestRelease) → Says (create_control_call e i release collect) t ran t' → r ≡ control_ran y ran
      → Answers (control_creation (state_of x log collect low high) e i release) t r t' (state_of r.left log collect low high)
  unfolding control_creation
  answers-control-creation release says made = rw (made, emptied, says.ran) (record { state = refl; records = refl; good = refl; text = says.text })
