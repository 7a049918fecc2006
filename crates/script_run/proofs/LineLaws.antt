-- A line that was answered was taken. Assumes nothing.
use Rattle.std.specs.Prelude.{Option}
use Prim.Native.Nat.{ℕ, ◌+◌, ◌≤◌}
use mathlib.Core.Path.{◌≡◌, ◌∙◌}
use mathlib.Core.List.{List, ◌++◌}
use native.Mathlib.Omega.{arith}
use lib.ListN.{length, take, drop, length-append}
use lib.Seq.{take_at, length-take-le}
use Rattle.buffers.specs.Patch.{patch}
use Rattle.buffers.proofs.PatchLaws.{get_or-patch-behind}
use Rattle.text.specs.declared.Text.{Text}
use Rattle.text.specs.Wrote.{HasRoom}
use Rattle.state_text.specs.Widths.{max_answer}
use Rattle.call_script.specs.declared.Call.{Call}
use Rattle.call_answer.specs.declared.Ran.{Ran}
use Rattle.session.specs.declared.Session.{Session}
use Rattle.session_calls.specs.Answers.{State, line_answer, Answers}
use Rattle.script_run.specs.Runs.{line_call, take_line, TakesLine}

-- the text up to the bytes that were written, and these
take-patch : (t vs : List ℕ) (at : ℕ) → at ≤ length t → take (at + length vs) (patch t at vs) ≡ take at t ++ vs
unfolding patch
take-patch t vs at h =
    take_at (take at t ++ vs) (drop (at + length vs) t) (at + length vs) (length-append (take at t) vs ∙ rw (length-take-le at t h))

module _ {bytes l : List ℕ} {s : State} {t : Text} {r : Ran Session} {t' : Text} {s' : State} where
  pub takes-line : {c : Option Call} → HasRoom max_answer t → c ≡ line_call l → Answers (line_answer bytes s c) t r t' s' → TakesLine bytes l s t r t' s'
  unfolding take_line
  takes-line {c = c} room e a =
      let o = line_answer bytes s c in
      let before = t.bytes.now in
      let printed : take t'.end t'.bytes.now ≡ take t.end before ++ o.text = rw (a.text.bytes, a.text.end) (take-patch before o.text t.end (omega arith)) in
      record {
        taken = λ n. rw (printed, a.state, a.good, e);
        behind = λ k h. rw a.text.bytes (get_or-patch-behind before t.end o.text (omega (arith, a.text.within)) k (omega (arith, a.text.end)));
        within = omega (arith, a.text.end, a.text.within);
        size = a.text.size;
        same = a.text.same;
      }
