-- `in_calls::complete_with_result` meets its contract: a result that an IN endpoint does not take is a bad line. Assumes nothing.
use mathlib.Core.Path.{refl, sym, ◌∙◌}
use Rattle.in_calls.proofs.CallLaws.{says-silent, result_call-none, result_call-given}
use Rattle.in_calls.proofs.complete_with_result.Goals as goal

pub returns-in-None-clause-answer : goal.returns-in-None-clause-answer
returns-in-None-clause-answer c =
    rw (result_call-none _ _ _ _ _ (sym c.result_of-result.ensures ∙ c.in-None.is))
    (record { says = says-silent refl c.requires.has_room c.bad.ensures; log = refl; memory = refl })

pub returns-in-Some-clause-answer : goal.returns-in-Some-clause-answer
returns-in-Some-clause-answer c = rw (← c.result_of-result.ensures, result_call-given _ _ _ _ _ _ c.in-Some.is) c.complete.ensures.answer
