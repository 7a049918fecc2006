-- `control_places::log_outcome` meets its contract: the walk over the TRBs that are dropped, then the request. Assumes nothing.
use mathlib.Core.Path.{◌≡◌, ap, ◌∙◌}
use native.Mathlib.Omega.{arith}
use Rattle.phase_table.specs.Outcomes.{restarts}
use Rattle.control_block.specs.declared.ControlTransfer.{ControlTransfer}
use Rattle.control_endpoint.specs.Submission.{places_dropped}
use Rattle.control_endpoint.proofs.SubmissionLaws.{info_of}
use Rattle.control_bytes.specs.Layout.{block_of}
use Rattle.control_places.proofs.LoggedLaws.{dropped-few, submission-logged}
use Rattle.control_places.proofs.log_outcome.Goals.{After-end_held-progress, After-places_dropped-dropped, Start}
use Rattle.control_places.proofs.log_outcome.Goals as goal

-- ---- The places of the call's code

-- as many as are dropped
dropped-by : (d : After-places_dropped-dropped) → let s = d.args in
    d.places_dropped-dropped.result ≡ places_dropped (restarts s.outcome) (block_of s.block.now).held
dropped-by d =
    d.places_dropped-dropped.ensures ∙ (λ j. places_dropped (d.is_restart.ensures j) (d.held-held.ensures.0 j))

info-by : (w : After-end_held-progress) → (record { endpoint_id = w.endpoint_id-endpoint_id.result; slot_id = w.slot_id-slot_id.result; data_length = 0 }) ≡ info_of (block_of w.args.block.now)
info-by w =
    λ j. record { endpoint_id = w.endpoint_id-endpoint_id.ensures j; slot_id = w.slot_id-slot_id.ensures j; data_length = 0 }

-- ---- The needs

pub log_request-requires : goal.log_request-requires
log_request-requires c = omega (arith, dropped-few (block_of c.args.block.now) c.args.outcome (record { endpoint_id = c.endpoint_id-endpoint_id.result; slot_id = c.slot_id-slot_id.result; data_length = 0 }) c.places_dropped-dropped.result c.args.log.now c.end_held-progress.new.log c.end_held-progress.result c.requires.1.1 c.requires.1.0 (info-by (goal.at.log_request-requires c).After-end_held-progress) (dropped-by (goal.at.log_request-requires c).After-places_dropped-dropped) c.end_held-progress.ensures, c.log-1.given, c.requires)

pub returns : goal.returns
returns c =
    submission-logged (block_of c.args.block.now) c.args.outcome (record { endpoint_id = c.endpoint_id-endpoint_id.result; slot_id = c.slot_id-slot_id.result; data_length = 0 }) c.places_dropped-dropped.result c.args.log.now c.end_held-progress.new.log c.end_held-progress.result c.requires.1.1 c.requires.1.0 (info-by (goal.at.returns c).After-end_held-progress) (dropped-by (goal.at.returns c).After-places_dropped-dropped) c.end_held-progress.ensures c.transfer-transfer.result.request c.endpoint_id-endpoint_id.result c.slot_id-slot_id.result c.log_request.result c.log_request.new.log
    (ap (λ (x : ControlTransfer). x.request) c.transfer-transfer.ensures) c.endpoint_id-endpoint_id.ensures c.slot_id-slot_id.ensures c.log_request.ensures
