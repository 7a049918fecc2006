-- `in_place_submission::outcome_of` meets its contract. Assumes nothing.
use mathlib.Core.Bool.{true, not, true≢false}
use mathlib.Core.List.{List}
use mathlib.Core.Path.{sym, ap, ◌∙◌}
use mir.Val.{bool_byte}
use lib.Dec.{eqb}
use Rattle.trb.specs.declared.TransferTrb.{TransferTrb}
use Rattle.in_td.specs.Td.{normals}
use Rattle.held_bytes.specs.Numbers.{trb_of}
use Rattle.in_bytes.specs.Layout.{held_count}
use Rattle.in_place_questions.proofs.FactLaws.{none-counted}
use Rattle.in_place_submission.proofs.OutcomeLaws.{as-count, outcome-seen}
use Rattle.in_place_submission.proofs.outcome_of.Goals.{then-ends, else-ends}
use Rattle.in_place_submission.proofs.outcome_of.Goals as goal

pub returns : goal.returns
returns c =
    let s = c.args in
    let some = c.if-ends.has_normal in
    c.outcome_of.ensures (record { sound = true; normals = bool_byte some }) (as-count some)
    ∙ outcome-seen s.block.now (held_count s.block.now) (bool_byte some) true (trb_of s.numbers)
    (λ off.
    elim c.if-ends.branch [
      | then-ends w ↦ none-counted _ _ (w.has_normal-is ∙ w.has_normal-has_normal.ensures ∙ ap (λ (ts : List TransferTrb). not (eqb (normals ts) 0)) w.held_places.ensures.trbs)
      | else-ends w ↦ absurd (true≢false (sym w.if-ends.false ∙ c.chain_of-ends.ensures ∙ off))
    ])
