-- `in_calls::run` meets its contract: each call is made by its function. Assumes nothing.
use mathlib.Core.Path.{refl, sym}
use native.Mathlib.Omega.{arith}
use lib.Seq.{length-take-le}
use Rattle.in_calls.specs.Calls.{in_call}
use Rattle.in_calls.proofs.CallLaws.{says-silent, text-hold_call, take-least, bad-call}
use Rattle.in_calls.proofs.run.Goals as goal

pub slice_bounds-given-end : goal.slice_bounds-given-end
slice_bounds-given-end c = rw c.min.ensures (sym (length-take-le _ _ (omega arith)))

pub returns-in-Submit-clause-answer : goal.returns-in-Submit-clause-answer
unfolding in_call
returns-in-Submit-clause-answer c = rw c.in-Submit.is (rw c.view.ensures at c.submit.ensures)

pub returns-in-Complete-clause-answer : goal.returns-in-Complete-clause-answer
unfolding in_call
returns-in-Complete-clause-answer c = rw (c.in-Complete.is, ← take-least _ _ c.min.ensures) c.complete_with.ensures.answer

pub returns-in-Cancel-clause-answer : goal.returns-in-Cancel-clause-answer
unfolding in_call
returns-in-Cancel-clause-answer c = rw c.in-Cancel.is (record { says = c.cancel.ensures; log = refl; memory = refl })

pub returns-in-Hold-clause-answer : goal.returns-in-Hold-clause-answer
unfolding in_call
returns-in-Hold-clause-answer c = rw c.in-Hold.is (record { says = says-silent (text-hold_call _ _) c.requires.has_room c.hold.ensures; log = refl; memory = refl })

pub returns-in-MakeUpIn-clause-answer : goal.returns-in-MakeUpIn-clause-answer
unfolding in_call
returns-in-MakeUpIn-clause-answer c = rw c.in-MakeUpIn.is (record { says = says-silent refl c.requires.has_room c.make_up.ensures; log = refl; memory = refl })

pub returns-in_default-clause-answer : goal.returns-in_default-clause-answer
returns-in_default-clause-answer c =
    let no = c.in_default in
    rw (bad-call _ _ _ _ c.args.call no.not-Submit no.not-Complete no.not-Cancel no.not-Hold no.not-MakeUpIn)
    (record { says = says-silent refl c.requires.has_room c.bad.ensures; log = refl; memory = refl })
