-- `control_in_place::submit` meets its contract: by the length of the bytes and the answer to the questions. Assumes nothing.
use Rattle.std.proofs.Common.{◌≡◌, ◌∙◌, ◌<◌, ◌≤◌, sym, ap, Err, Ok, Result, arith, rules, length}
use Rattle.std.specs.Result.{IfOk}
use mathlib.Core.Path.{subst}
use Rattle.trb.specs.Answers.{number_of}
use Rattle.trb.specs.declared.Refusal.{Refusal}
use Rattle.trb.specs.declared.Refusal.TheVariants.{BufferTooShort}
use Rattle.held_bytes.specs.Numbers.{trb_of}
use Rattle.guest_memory.specs.declared.Regions.{Regions}
use Rattle.guest_memory.specs.Places.{regions_of}
use Rattle.guest_memory.specs.Lent.{seen}
use Rattle.phase_table.specs.Table.{trb_outcome}
use Rattle.phase_table.specs.declared.Outcome.{Outcome}
use Rattle.control_bytes.specs.Layout.{block_length, block_of}
use Rattle.control_in_place.specs.InPlace.{Asked, Acceptable}
use Rattle.control_in_place.proofs.CallLaws.{refused-in-place, accepted-in-place, submits-short, submits-long}
use Rattle.control_in_place.proofs.submit.Goals.{After-ask_submission}
use Rattle.control_in_place.proofs.submit.Goals as goal

-- the questions were asked of the TRB and the memory that were handed over
asked_by : (k : After-ask_submission) → let a = k.args in
    Asked (length a.log.now) (length a.collect.now) a.block.now (trb_of a.numbers) (regions_of (seen a.memory.now)) k.ask_submission.result
asked_by k =
    let a = k.args in
    subst (λ (rs : Regions). Asked (length a.log.now) (length a.collect.now) a.block.now (trb_of a.numbers) rs k.ask_submission.result) k.regions-regions.ensures k.ask_submission.ensures

acceptable : (k : After-ask_submission) (o : Outcome) → block_length ≤ length k.args.block.now → k.ask_submission.result ≡ Ok o → let a = k.args in
    Acceptable a.log.now a.collect.now a.block.now (trb_of a.numbers) (seen a.memory.now) o
acceptable k o long told =
    let a = k.args in
    let becomes : o ≡ trb_outcome (block_of a.block.now).transfer.phase (trb_of a.numbers).variant =
    subst (λ (r : Result Outcome Refusal). IfOk r (λ x. x ≡ trb_outcome (block_of a.block.now).transfer.phase (trb_of a.numbers).variant)) told (asked_by k).outcome in
    record { long = long; outcome = becomes; none = sym (asked_by k).number ∙ ap number_of told }

pub returns-in_err-ask : goal.returns-in_err-ask
returns-in_err-ask c =
    let a = c.args in
    let short : length a.block.now < block_length = search rules in
    let told : c.from_residual.result ≡ Err BufferTooShort = grind arith in
    rw told (submits-short (trb_of a.numbers) (seen a.memory.now) a.log.now a.collect.now a.block.now short)

pub returns-in_err-outcome : goal.returns-in_err-outcome
returns-in_err-outcome c =
    let a = c.args in
    let long : block_length ≤ length a.block.now = search rules in
    let told : c.from_residual-in_err-outcome.result ≡ Err c.in_err-outcome.field-0.0 = grind arith in
    rw told
    (submits-long (trb_of a.numbers) (seen a.memory.now) a.log.now a.collect.now a.block.now _ _ _ _ long
    (refused-in-place a.block.now (trb_of a.numbers) (seen a.memory.now) a.log.now a.collect.now c.in_err-outcome.field-0.0
    (ap number_of (sym c.in_err-outcome.was) ∙ (asked_by (goal.at.returns-in_err-outcome c).After-ask_submission).number)))

pub returns : goal.returns
returns c =
    let a = c.args in
    let long : block_length ≤ length a.block.now = search rules in
    submits-long (trb_of a.numbers) (seen a.memory.now) a.log.now a.collect.now a.block.now _ _ _ _ long
    (accepted-in-place a.block.now (trb_of a.numbers) (seen a.memory.now) a.log.now a.collect.now c.in_ok-outcome.outcome c.accept_trb.result _ _ _
    (acceptable (goal.at.returns c).After-ask_submission c.in_ok-outcome.outcome long c.in_ok-outcome.was) c.accept_trb.ensures)
