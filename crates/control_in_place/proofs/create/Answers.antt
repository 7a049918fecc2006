-- `control_in_place::create` meets its contract: by the length of the bytes and the ids. Assumes nothing.
use Rattle.std.proofs.Common.{◌≡◌, ◌∙◌, ◌<◌, ◌≤◌, Err, length, sym, arith, rules}
use Rattle.trb.specs.declared.Refusal.TheVariants.{BufferTooShort}
use Rattle.control_bytes.specs.Layout.{block_length}
use Rattle.control_in_place.proofs.CallLaws.{creates-short, creates, creates-not}
use Rattle.control_in_place.proofs.create.Goals as goal

pub returns-in_err-ask : goal.returns-in_err-ask
returns-in_err-ask c =
    let a = c.args in
    let short : length a.block.now < block_length = search rules in
    let refused : c.from_residual.result ≡ Err BufferTooShort = grind arith in
    rw refused (creates-short a.endpoint_id a.slot_id a.release a.block.now short)

pub returns-then-ids_in_range : goal.returns-then-ids_in_range
returns-then-ids_in_range c =
    let a = c.args in
    let long : block_length ≤ length a.block.now = search rules in
    creates a.endpoint_id a.slot_id a.release a.block.now c.make.new.block long (sym c.ids_in_range.ensures ∙ c.if-ids_in_range.true) c.make.ensures

pub returns : goal.returns
returns c =
    let a = c.args in
    let long : block_length ≤ length a.block.now = search rules in
    creates-not a.endpoint_id a.slot_id a.release a.block.now c.make-2.new.block long (sym c.ids_in_range.ensures ∙ c.if-ids_in_range.false) c.make-2.ensures
