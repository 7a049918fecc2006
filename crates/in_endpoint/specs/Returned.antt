-- What the calls on an IN endpoint return. Assumes nothing.
use Rattle.trb.specs.Answers.{Answer, CompletionAnswer}
use Rattle.trb.specs.declared.Created as trb
use Rattle.trb.specs.declared.Returned.{Returned}
use Rattle.in_block.specs.declared.InBlock.{InBlock}

abbrev pub Created : Type 0
Created = trb.Created InBlock

abbrev pub Submitted : Type 0
Submitted = Returned Answer InBlock

abbrev pub Completed : Type 0
Completed = Returned CompletionAnswer InBlock
