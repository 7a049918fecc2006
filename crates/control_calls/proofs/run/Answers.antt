-- `control_calls::run` meets its contract: each call is made by its function. Assumes nothing.
use mathlib.Core.Path.{refl, sym}
use native.Mathlib.Omega.{arith}
use lib.Seq.{length-take-le}
use Rattle.control_calls.specs.Calls.{control_call, collect_behind}
use Rattle.control_calls.proofs.CallLaws.{says-silent, text-hold_call, take-least, bad-call, kept-collect}
use Rattle.control_calls.proofs.run.Goals as goal

pub slice_bounds-given-end : goal.slice_bounds-given-end
slice_bounds-given-end c = rw c.min.ensures (sym (length-take-le _ _ (omega arith)))

pub returns-in-Submit-clause-answer : goal.returns-in-Submit-clause-answer
unfolding control_call collect_behind
returns-in-Submit-clause-answer c = rw c.in-Submit.is (rw c.view.ensures at c.submit.ensures)

pub returns-in-Complete-clause-answer : goal.returns-in-Complete-clause-answer
unfolding control_call collect_behind
returns-in-Complete-clause-answer c = rw (c.in-Complete.is, ← c.result_given-result.ensures, ← take-least _ _ c.min.ensures) (record { runs = c.complete.ensures.answer; collected = refl })

pub returns-in-Cancel-clause-answer : goal.returns-in-Cancel-clause-answer
unfolding control_call collect_behind
returns-in-Cancel-clause-answer c = rw c.in-Cancel.is (record { runs = record { says = c.cancel.ensures; log = refl; memory = refl }; collected = refl })

pub returns-in-Hold-clause-answer : goal.returns-in-Hold-clause-answer
unfolding control_call collect_behind
returns-in-Hold-clause-answer c = rw c.in-Hold.is (record { runs = record { says = says-silent (text-hold_call _ _) c.requires.has_room c.hold.ensures; log = refl; memory = refl }; collected = refl })

pub returns-in-MakeUpControl-clause-answer : goal.returns-in-MakeUpControl-clause-answer
unfolding control_call collect_behind
returns-in-MakeUpControl-clause-answer c = rw c.in-MakeUpControl.is (record { runs = record { says = says-silent refl c.requires.has_room c.make_up.ensures; log = refl; memory = refl }; collected = refl })

pub returns-in_default-clause-answer : goal.returns-in_default-clause-answer
returns-in_default-clause-answer c =
    let no = c.in_default in
    rw (bad-call _ _ _ _ _ _ c.args.call no.not-Submit no.not-Complete no.not-Cancel no.not-Hold no.not-MakeUpControl, kept-collect _ _ _ _ _ c.args.call no.not-Submit)
    (record { runs = record { says = says-silent refl c.requires.has_room c.bad.ensures; log = refl; memory = refl }; collected = refl })
