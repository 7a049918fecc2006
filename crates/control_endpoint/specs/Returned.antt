-- What the calls on a control endpoint return. Assumes nothing.
use Rattle.trb.specs.Answers.{Answer, CompletionAnswer}
use Rattle.trb.specs.declared.Created as trb
use Rattle.trb.specs.declared.Returned.{Returned}
use Rattle.control_block.specs.declared.ControlBlock.{ControlBlock}

abbrev pub Created : Type 0
Created = trb.Created ControlBlock

abbrev pub Submitted : Type 0
Submitted = Returned Answer ControlBlock

abbrev pub Completed : Type 0
Completed = Returned CompletionAnswer ControlBlock
