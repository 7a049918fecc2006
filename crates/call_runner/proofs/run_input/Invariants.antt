use Rattle.std.proofs.Common.{◌≡◌}
use Rattle.session_calls.specs.Answers.{state_in}
use Rattle.script_pieces.proofs.TakenLaws.{Kept}
use Rattle.call_runner.specs.Turns.{started}
use Rattle.call_runner.proofs.TurnLaws.{Reaches}
use Rattle.call_runner.proofs.run_input.Given as goal

abbrev pub invariant-loop : goal.invariant-loop
invariant-loop g l = record {
  kept : Kept l.initial.text l.initial.buffers l.text l.buffers;
  input : l.input.bytes.ghost_name ≡ l.initial.input.bytes.ghost_name;
  reached : Reaches l.initial.buffers.«data».now (state_in started.session l.initial.buffers) l.progress l.input (state_in l.progress.session l.buffers)
      (g.R.Read.remaining l.initial.reader) (g.R.Read.remaining l.reader) (g.W.Write.contents l.initial.writer) (g.W.Write.contents l.writer);
}
