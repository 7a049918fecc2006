-- `capture_runner::run_input` is safe and ends: the input keeps its buffer, and the lent buffers are the same. Assumes nothing.
use Rattle.std.proofs.Common.{◌≡◌, length}
use Rattle.session_calls.specs.Buffers.{SameBuffers}
use Rattle.capture_runner.proofs.run_input.Given as goal

abbrev pub invariant-loop : goal.invariant-loop
invariant-loop g l = record {
  output : length l.output ≡ length l.initial.output;
  text : length l.text ≡ length l.initial.text;
  input : l.input.bytes.ghost_name ≡ l.initial.input.bytes.ghost_name;
  same : SameBuffers l.initial.buffers l.buffers;
}
