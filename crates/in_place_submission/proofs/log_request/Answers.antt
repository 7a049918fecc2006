-- `in_place_submission::log_request` meets its contract: the first place has the address. Assumes nothing.
use mathlib.Core.Path.{◌≡◌, sym, ap, ◌∙◌, subst}
use mathlib.Core.List.{[], ◌∷◌}
use native.Mathlib.Omega.{arith}
use lib.ListN.{take}
use Rattle.trb.specs.declared.TransferTrb.{TransferTrb}
use Rattle.call_log.specs.Calls.{Put}
use Rattle.call_log.specs.Records.{in_request}
use Rattle.call_log.specs.declared.Record.{Record}
use Rattle.in_td.specs.Normals.{requested}
use Rattle.in_bytes.specs.Layout.{held_count, places}
use Rattle.in_bytes.proofs.HeldLaws.{placed}
use Rattle.in_endpoint.specs.Submission.{first_address}
use Rattle.in_endpoint.proofs.SubmissionLaws.{first_address-take}
use Rattle.in_place_submission.proofs.log_request.Goals as goal

pub returns : goal.returns
returns c =
    let b = c.args.block.now in
    let first : c.trb_at-first.result.addr ≡ first_address (take (held_count b) (places b)) =
    ap (λ (t : TransferTrb). t.addr) (c.trb_at-first.ensures ∙ sym (placed b 0 (omega arith))) ∙ first_address-take (places b) (held_count b) c.requires.1.1 in
    let length : c.requested_length-length.result ≡ requested (take (held_count b) (places b)) = c.requested_length-length.ensures ∙ ap requested c.held_places.ensures.trbs in
    subst (λ (x : Record). Put c.args.log.now 0 (x ∷ []) c.put_record.new.log)
    (c.in_request-request.ensures ∙ (λ j. in_request (first j) (length j) (c.endpoint_id.ensures j) (c.slot_id.ensures j)))
    c.put_record.ensures
