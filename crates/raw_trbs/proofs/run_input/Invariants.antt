-- `raw_trbs::run_input` is safe and ends: the text keeps its buffer, and the input its own. Assumes nothing.
use Rattle.std.proofs.Common.{◌≡◌, ◌≤◌, length}
use Rattle.raw_text.specs.RawLines.{max_raw_answer}
use Rattle.raw_trbs.proofs.run_input.Given as goal

abbrev pub invariant-loop : goal.invariant-loop
invariant-loop g l = (max_raw_answer ≤ length l.text.bytes.now) × (l.text.bytes.ghost_name ≡ l.initial.text.bytes.ghost_name) × (l.input.bytes.ghost_name ≡ l.initial.input.bytes.ghost_name)
