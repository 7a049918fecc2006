-- `control_places::log_ended` meets its contract: the walk over the TRBs that are freed, then the last event. Assumes nothing.
use Prim.Native.Nat.{ℕ}
use mathlib.Core.Path.{◌≡◌, ap, ◌∙◌}
use native.Mathlib.Omega.{arith}
use Rattle.control_block.specs.Endings.{places_freed}
use Rattle.control_block.specs.Stages.{error_address}
use Rattle.control_block.proofs.BlockLaws.{freed-held}
use Rattle.control_chain.specs.Endings.{info_of}
use Rattle.control_bytes.specs.Layout.{block_of}
use Rattle.control_places.proofs.LoggedLaws.{length_last, ending-few, completion-logged}
use Rattle.control_places.proofs.log_ended.Goals.{After-end_held-progress, Start}
use Rattle.control_places.proofs.log_ended.Goals as goal

-- ---- The places of the call's code

-- as many as are freed
freed-by : (w : After-end_held-progress) → let s = w.args in w.places_freed-freed.result ≡ places_freed s.ending (block_of s.block.now).held
freed-by w =
    w.places_freed-freed.ensures ∙ ap (λ (n : ℕ). places_freed w.args.ending n) w.held-held.ensures.0

-- of this endpoint of this slot
info-by : (w : After-end_held-progress) → let b = block_of w.args.block.now in w.info_of-info.result ≡ info_of w.args.ending b.endpoint_id b.slot_id
info-by w =
    w.info_of-info.ensures ∙ (λ j. info_of w.args.ending (w.endpoint_id-endpoint_id.ensures j) (w.slot_id-slot_id.ensures j))

-- ---- The needs

pub end_held-progress-requires : goal.end_held-progress-requires
end_held-progress-requires c = (c.requires.0, (c.requires.1.0, (omega (arith, c.places_freed-freed.ensures, c.held-held.ensures.0, freed-held c.args.ending c.held-held.result), c.requires.1.1)))

pub log_ending-requires : goal.log_ending-requires
log_ending-requires c =
    let b = block_of c.args.block.now in
    omega (
      arith,
      ending-few (block_of c.args.block.now) c.args.ending c.info_of-info.result c.places_freed-freed.result c.args.log.now c.end_held-progress.new.log c.end_held-progress.result c.requires.1.1 c.requires.1.0 (info-by (goal.at.log_ending-requires c).After-end_held-progress) (freed-by (goal.at.log_ending-requires c).After-end_held-progress) c.end_held-progress.ensures,
      length_last c.args.ending c.event_address-address.result (error_address b) c.endpoint_id-endpoint_id.result b.endpoint_id c.slot_id-slot_id.result b.slot_id,
      c.log-1.given,
      c.requires,
    )

pub returns : goal.returns
returns c =
    completion-logged (block_of c.args.block.now) c.args.ending c.info_of-info.result c.places_freed-freed.result c.args.log.now c.end_held-progress.new.log c.end_held-progress.result c.requires.1.1 c.requires.1.0 (info-by (goal.at.returns c).After-end_held-progress) (freed-by (goal.at.returns c).After-end_held-progress) c.end_held-progress.ensures c.event_address-address.result c.endpoint_id-endpoint_id.result c.slot_id-slot_id.result c.log_ending.result c.log_ending.new.log c.event_address-address.ensures c.endpoint_id-endpoint_id.ensures c.slot_id-slot_id.ensures
    c.log_ending.ensures
