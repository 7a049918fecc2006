use Prim.Native.Nat.{◌-◌}
use lib.ListN.{length}
use Rattle.session_calls.specs.Answers.{state_in}
use Rattle.script_pieces.proofs.TakenLaws.{Taking, Bounds, Kept}
use Rattle.script_pieces.proofs.take_lines.Given as goal

abbrev pub invariant-loop-taken : goal.invariant-loop-taken
invariant-loop-taken l = Bounds l.input l.text
    × (Kept l.initial.text l.initial.buffers l.text l.buffers
    × Taking l.initial.buffers.«data».now l.input l.from (state_in l.initial.taken.session l.initial.buffers) l.taken.next l.taken.lines l.taken.good l.text (state_in l.taken.session l.buffers))

abbrev pub decreases-loop-taken : goal.decreases-loop-taken
decreases-loop-taken l = length l.input - l.taken.next
