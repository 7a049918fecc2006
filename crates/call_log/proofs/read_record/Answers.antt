-- `call_log::read_record` meets its contract: of the records of a log, one behind the other, it is the one at its number. Assumes nothing.
use Prim.Native.Nat.{◌/◌, ◌<◌}
use mathlib.Core.Path.{◌∙◌, sym}
use mathlib.Core.List.{[]}
use borrow.Author.Rules.{rules}
use lib.ListN.{length, get_or-map}
use Rattle.trb.specs.Limits.{record_length}
use Rattle.call_log.specs.Records.{decode}
use Rattle.call_log.proofs.LogLaws.{get_or-records_in}
use Rattle.call_log.proofs.read_record.Goals as goal

pub returns : goal.returns
returns c =
    let within : c.args.index < length c.args.log.now / record_length = search rules in
    let one = get_or-records_in (length c.args.log.now / record_length) c.args.index c.args.log.now (decode []) within in
    c.decoded.ensures ∙ sym (get_or-map decode c.records.result.now c.args.index []) ∙ (rw (← c.records.ensures.each) at one)
