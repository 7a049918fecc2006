-- `in_place_questions::facts_of` meets its contract: whatever their bytes the places are sound, and it counts whether a Normal is held where the device is awaited. Assumes nothing.
use mathlib.Core.Bool.{not, true≢false}
use mathlib.Core.List.{List}
use mathlib.Core.Path.{sym, ap, ◌∙◌}
use lib.Dec.{eqb}
use Rattle.trb.specs.declared.TransferTrb.{TransferTrb}
use Rattle.in_td.specs.Td.{normals}
use Rattle.in_place_questions.proofs.FactLaws.{none-counted, same-facts}
use Rattle.in_place_questions.proofs.facts_of.Goals.{then-awaits_device, else-awaits_device}
use Rattle.in_place_questions.proofs.facts_of.Goals as goal

pub returns : goal.returns
returns c =
    rw (c.slot_id.ensures, c.endpoint_id.ensures)
    (same-facts c.args.block.now c.state_of-state.result c.held.result _ c.state_of-state.ensures c.held.ensures
    (λ waits.
    elim c.if-awaits_device.branch [
      | then-awaits_device w ↦
          none-counted _ _ (w.has_normal-is ∙ w.has_normal-has_normal.ensures ∙ ap (λ (ts : List TransferTrb). not (eqb (normals ts) 0)) c.held_places-places.ensures.trbs)
      | else-awaits_device w ↦ absurd (true≢false (sym (c.awaits_device.ensures ∙ waits) ∙ w.if-awaits_device.false))
    ]))
