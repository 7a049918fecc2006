-- What a call by reference returned, with the block that it left: what the call by value returns. Assumes nothing.
use Rattle.in_block.specs.declared.InBlock.{InBlock}
use Rattle.in_endpoint.specs.Returned.{Submitted as InSubmitted}
use Rattle.in_endpoint.specs.Returned.{Completed as InCompleted}
use Rattle.control_block.specs.declared.ControlBlock.{ControlBlock}
use Rattle.control_endpoint.specs.Returned.{Submitted as ControlSubmitted}
use Rattle.control_endpoint.specs.Returned.{Completed as ControlCompleted}
use Rattle.trb.specs.Answers.{Answer, CompletionAnswer}
use Rattle.trb.specs.declared.Logged.{Logged}

abbrev pub in_submitted : Logged Answer → InBlock → InSubmitted
in_submitted r b = record { answer = r.answer; records = r.records; block = b }

abbrev pub in_completed : Logged CompletionAnswer → InBlock → InCompleted
in_completed r b = record { answer = r.answer; records = r.records; block = b }

abbrev pub control_submitted : Logged Answer → ControlBlock → ControlSubmitted
control_submitted r b = record { answer = r.answer; records = r.records; block = b }

abbrev pub control_completed : Logged CompletionAnswer → ControlBlock → ControlCompleted
control_completed r b = record { answer = r.answer; records = r.records; block = b }
