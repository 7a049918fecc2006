-- `script_run::take_line` meets its contract: the call of the line is made; a line that asks for none is bad. Assumes nothing.
use Rattle.std.proofs.Common.{sym, ◌∙◌}
use Rattle.session.specs.Sessions.{bad_quiet}
use Rattle.session.proofs.OptionLaws.{on-none}
use Rattle.session_calls.specs.Answers.{state_in}
use Rattle.session_calls.proofs.AnswerLaws.{answers-quiet}
use Rattle.script_run.proofs.LineLaws.{takes-line}
use Rattle.script_run.proofs.take_line.Goals as goal

pub returns-in_default-clause-taken : goal.returns-in_default-clause-taken
returns-in_default-clause-taken c =
    let a = c.args in
    takes-line c.requires (sym (on-none _ c.in_default.not-Some) ∙ c.read_line.ensures)
    (answers-quiet (state_in a.session a.buffers.now) c.requires (bad_quiet a.session) c.bad.ensures)

pub returns-clause-taken : goal.returns-clause-taken
returns-clause-taken c = takes-line c.requires (sym c.in-Some.is ∙ c.read_line.ensures) c.run_call.ensures.answer
