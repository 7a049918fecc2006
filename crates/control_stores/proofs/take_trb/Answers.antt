-- `control_stores::take_trb` meets its contract: the TRB is stored, if it is held, then the head. Assumes nothing.
use Prim.Native.Nat.{ℕ, ◌-◌}
use mathlib.Core.Path.{◌≡◌, refl, sym, ap, ◌∙◌, subst}
use native.Mathlib.Omega.{arith}
use Rattle.held_bytes.specs.Numbers.{trb_of}
use Rattle.phase_table.specs.Outcomes.{holds, restarts, state_after}
use Rattle.control_block.specs.declared.ControlTransfer.{ControlTransfer}
use Rattle.control_transfer.specs.Transfers.{transfer_after}
use Rattle.control_endpoint.specs.Submission.{places_dropped}
use Rattle.control_endpoint.proofs.SubmissionLaws.{dropped-held}
use Rattle.control_bytes.specs.Layout.{block_of}
use Rattle.control_stores.specs.Becomes.{Holdable}
use Rattle.control_stores.proofs.StoreLaws.{next-few, taken}
use Rattle.control_stores.proofs.take_trb.Goals.{After-places_dropped-dropped, Start}
use Rattle.control_stores.proofs.take_trb.Goals as goal

-- as many stay as are not dropped
kept : (d : After-places_dropped-dropped) → let s = d.args in
    d.held-held.result - d.places_dropped-dropped.result ≡ (block_of s.block.now).held - places_dropped (restarts s.outcome) (block_of s.block.now).held
kept d =
    let count = d.held-held.ensures.0 in
    let dropped = d.places_dropped-dropped.ensures ∙ (λ j. places_dropped (d.is_restart.ensures j) (count j)) in
    λ j. count j - dropped j

pub overflow_sub-held : goal.overflow_sub-held
overflow_sub-held c = omega (arith, c.places_dropped-dropped.ensures, dropped-held c.is_restart.result c.held-held.result)

pub hold_trb-next-requires : goal.hold_trb-next-requires
hold_trb-next-requires c = (c.requires.block_length_in_bounds.0, λ hold. subst (λ (n : ℕ). Holdable n (trb_of c.args.t.numbers)) (sym (kept (goal.at.hold_trb-next-requires c).After-places_dropped-dropped)) (c.requires.holdable hold))

pub advance-requires : goal.advance-requires
advance-requires c = let few = next-few (holds c.args.outcome) (c.held-held.result - c.places_dropped-dropped.result) c.hold_trb-next.result c.hold_trb-next.ensures.held in record { head_length_in_bounds = (omega (arith, c.hold_trb-next.ensures.long, c.requires.block_length_in_bounds.0), omega (arith, few, c.held-held.ensures.0, c.requires.block_length_in_bounds.1.0)); transfer_value = (c.transfer-transfer.ensures ∙ sym c.hold_trb-next.ensures.transfer, omega (arith, ap (λ (w : ControlTransfer). w.collected) c.transfer-transfer.ensures, c.requires.block_length_in_bounds.1.1)) }

pub returns : goal.returns
returns c =
    let a = c.args in
    let v = (trb_of a.t.numbers).variant in
    let at = (trb_of a.t.numbers).addr in
    taken a.block.now c.hold_trb-next.new.block a.outcome (trb_of a.t.numbers) (c.held-held.result - c.places_dropped-dropped.result) c.hold_trb-next.result (kept (goal.at.returns c).After-places_dropped-dropped) c.hold_trb-next.ensures
    (transfer_after a.outcome v at c.transfer-transfer.result) (state_after a.outcome at) c.advance.new.block (ap (transfer_after a.outcome v at) c.transfer-transfer.ensures) refl c.advance.ensures
