-- `in_place_row::complete` meets its contract: a no leaves all as it was; behind every yes the row is walked. Assumes nothing.
use Rattle.std.specs.Prelude.{Err}
use mathlib.Core.Path.{◌≡◌, refl, sym, ap, ◌∙◌}
use mathlib.Core.Bool.{true}
use Rattle.trb.specs.Answers.{Answer, number_of, is_accepted}
use Rattle.row_bytes.specs.Layout.{trbs_in, results_in}
use Rattle.in_endpoint.specs.Completion.{completion_answer}
use Rattle.in_place_questions.proofs.AnswerLaws.{ok-if}
use Rattle.in_place_row.specs.InPlaceRow.{row_answered}
use Rattle.in_place_row.proofs.CallLaws.{completes-refused, completes-accepted, walkable-cells, walked_block}
use Rattle.in_place_row.proofs.complete.Goals.{In_default}
use Rattle.in_place_row.proofs.complete.Goals as goal

accepts : (c : In_default) → is_accepted c.ask_row-asked.result ≡ true
accepts c = ap is_accepted (ok-if _ c.in_default.not-Err)

pub returns-in-Err : goal.returns-in-Err
returns-in-Err c =
    let s = c.args in
    completes-refused s.block.now s.row.now s.results.now s.data_length s.regions s.log.now (Err c.in-Err.refusal) (sym (ap number_of c.in-Err.is) ∙ c.ask_row-asked.ensures) refl c.answered_as.ensures

pub walk_row-walked-requires : goal.walk_row-walked-requires
walk_row-walked-requires c =
    let s = c.args in
    walkable-cells s.block.now s.row.now s.results.now s.data_length s.regions s.log.now c.ask_row-asked.result c.ask_row-asked.ensures (accepts (goal.at.walk_row-walked-requires c).In_default)
    c.places-places.result.now c.places-places.ensures.given c.places-places.ensures.held

pub returns : goal.returns
returns c =
    let s = c.args in
    let done = c.walk_row-walked in
    completes-accepted s.block.now s.row.now s.results.now s.data_length s.regions s.log.now c.ask_row-asked.result c.ask_row-asked.ensures (accepts (goal.at.returns c).In_default) done.result done.new.log
    (walked_block s.block.now s.log.now done.new.log (trbs_in s.row.now) (results_in s.results.now) c.endpoint_id-endpoint_id.result c.slot_id-slot_id.result c.mode-mode.result done.result
    c.endpoint_id-endpoint_id.ensures c.slot_id-slot_id.ensures c.mode-mode.ensures (rw c.places-places.ensures.given at done.ensures))
    (c.answered_as-2.ensures ∙ ap (λ (x : Answer). row_answered (completion_answer x done.result.result) done.result.finished done.result.records) (sym (ok-if _ c.in_default.not-Err)))
