-- `in_place_delivery::deliver` meets its contract: a no changes nothing; behind a yes the completion logs what it logs, and carry-out is given its records.
-- Assumes nothing.
use Rattle.std.specs.Prelude.{Err}
use mathlib.Core.Path.{◌≡◌, refl, sym, ap, ◌∙◌}
use lib.ListN.{length}
use Rattle.trb.specs.Answers.{number_of, is_accepted}
use Rattle.trb.specs.Questions.{first_no}
use Rattle.trb.specs.declared.TrbProcessingResult.TheVariants as result
use Rattle.trb.proofs.AnswerLaws.{answered-all}
use Rattle.guest_memory.specs.Places.{regions_of}
use Rattle.guest_memory.specs.Lent.{lent}
use Rattle.guest_memory.specs.declared.Regions.{Regions}
use Rattle.in_bytes.specs.Layout.{block_of}
use Rattle.delivery.specs.Completing.{delivery_questions}
use Rattle.in_place_questions.proofs.AnswerLaws.{ok-if}
use Rattle.in_place_delivery.proofs.CallLaws.{refused-in-place, delivered-in-place}
use Rattle.in_place_delivery.proofs.deliver.Goals.{After-ask-asked, In_default}
use Rattle.in_place_delivery.proofs.deliver.Goals as goal

number : (c : After-ask-asked) → number_of c.ask-asked.result ≡ first_no (delivery_questions (length c.args.log.now) (block_of c.args.block.now) c.args.res (length c.args.data.now) (regions_of (lent c.args.memory.now)))
number c =
    c.ask-asked.ensures
    ∙ ap (λ (regions : Regions). first_no (delivery_questions (length c.args.log.now) (block_of c.args.block.now) c.args.res (length c.args.data.now) regions))
    c.regions-regions.ensures

none : (c : In_default) → first_no (delivery_questions (length c.args.log.now) (block_of c.args.block.now) c.args.res (length c.args.data.now) (regions_of (lent c.args.memory.now))) ≡ 0
none c =
    let number' : number_of c.ask-asked.result ≡ first_no (delivery_questions (length c.args.log.now) (block_of c.args.block.now) c.args.res (length c.args.data.now) (regions_of (lent c.args.memory.now))) =
    c.ask-asked.ensures
    ∙ ap (λ (regions : Regions). first_no (delivery_questions (length c.args.log.now) (block_of c.args.block.now) c.args.res (length c.args.data.now) regions))
    c.regions-regions.ensures in
    answered-all c.ask-asked.result _ number' (ap is_accepted (ok-if _ c.in_default.not-Err))

pub returns-in-Err-clause-delivered : goal.returns-in-Err-clause-delivered
returns-in-Err-clause-delivered c =
    refused-in-place c.args.res c.args.data.now c.args.log.now c.args.block.now (lent c.args.memory.now) (Err c.in-Err.refusal) result.Ok
    (sym (ap number_of c.in-Err.is) ∙ number (goal.at.returns-in-Err-clause-delivered c).After-ask-asked) refl c.completed_as.ensures

pub returns-clause-delivered : goal.returns-clause-delivered
returns-clause-delivered c =
    delivered-in-place c.args.res c.args.data.now c.args.log.now c.args.block.now (lent c.args.memory.now) (none (goal.at.returns-clause-delivered c).In_default) c.complete-done.ensures
    c.carry_out_first.result _ c.carry_out_first.ensures.answer
