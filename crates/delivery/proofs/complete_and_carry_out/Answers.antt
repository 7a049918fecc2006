-- `delivery::complete_and_carry_out` meets its contract: a no changes nothing; behind a yes the completion logs what it logs, and carry-out is given its records.
-- Assumes nothing.
use Rattle.std.specs.Prelude.{Ok, Err}
use mathlib.Core.Path.{◌≡◌, refl, sym, ap, ◌∙◌}
use lib.ListN.{length}
use Rattle.trb.specs.Answers.{number_of}
use Rattle.trb.specs.Questions.{first_no}
use Rattle.trb.specs.declared.TrbProcessingResult.TheVariants as result
use Rattle.guest_memory.specs.Places.{regions_of}
use Rattle.guest_memory.specs.Lent.{lent}
use Rattle.guest_memory.specs.declared.Regions.{Regions}
use Rattle.delivery.specs.Completing.{delivery_questions}
use Rattle.delivery.proofs.CallLaws.{delivers-no, delivers-yes}
use Rattle.delivery.proofs.complete_and_carry_out.Goals.{After-ask}
use Rattle.delivery.proofs.complete_and_carry_out.Goals as goal

module _ (c : After-ask) where
  number : number_of c.ask.result ≡ first_no (delivery_questions (length c.args.log.now) c.args.block c.args.res (length c.args.data.now) (regions_of (lent c.args.memory.now)))
  number =
      c.ask.ensures
      ∙ ap (λ (regions : Regions). first_no (delivery_questions (length c.args.log.now) c.args.block c.args.res (length c.args.data.now) regions)) c.regions-regions.ensures

  none : c.ask.result ≡ Ok tt → first_no (delivery_questions (length c.args.log.now) c.args.block c.args.res (length c.args.data.now) (regions_of (lent c.args.memory.now))) ≡ 0
  none told = sym number ∙ ap number_of told

pub returns-in-Err-clause-delivered : goal.returns-in-Err-clause-delivered
returns-in-Err-clause-delivered c =
    delivers-no c.args.block c.args.res c.args.data.now c.args.log.now (lent c.args.memory.now) (Err c.in-Err.refusal) result.Ok (sym (ap number_of c.in-Err.is) ∙ number (goal.at.returns-in-Err-clause-delivered c).After-ask) refl

pub returns-in-Ok-clause-delivered : goal.returns-in-Ok-clause-delivered
returns-in-Ok-clause-delivered c =
    delivers-yes c.args.block c.args.res c.args.data.now c.args.log.now (lent c.args.memory.now) (none (goal.at.returns-in-Ok-clause-delivered c).After-ask c.in-Ok.is) c.next_completion-done.result
    c.next_completion-done.new.log c.next_completion-done.ensures c.carry_out_first.result _ c.carry_out_first.ensures.answer
