-- `raw_numbers::encode_trb` meets its contract: too few bytes, or what the encoder answers. Assumes nothing.
use Rattle.std.proofs.Common.{◌≡◌, ◌<◌, ◌≤◌, Err, length, arith, rules}
use Rattle.trb.specs.declared.Refusal.TheVariants.{BufferTooShort}
use Rattle.held_bytes.specs.Numbers.{trb_of}
use Rattle.raw_numbers.specs.RawNumbers.{raw_length}
use Rattle.raw_numbers.proofs.EncodingLaws.{no_room, with-room, accepted, refused}
use Rattle.raw_numbers.proofs.encode_trb.Goals as goal

pub returns-in_err-ask : goal.returns-in_err-ask
returns-in_err-ask c =
    let short : length c.args.raw.now < raw_length = search rules in
    let answer : c.from_residual.result ≡ Err BufferTooShort = grind arith in
    rw answer (no_room (trb_of c.args.numbers) c.args.raw.now short)

pub returns-in_err-bytes : goal.returns-in_err-bytes
returns-in_err-bytes c =
    let q = c.in_err-bytes.field-0.0 in
    let long : raw_length ≤ length c.args.raw.now = search rules in
    let answer : c.from_residual-in_err-bytes.result ≡ Err q = grind arith in
    rw answer (with-room long c.trb_of-t.ensures (refused _ c.args.raw.now _ c.encode.ensures q (grind arith)))

pub returns : goal.returns
returns c =
    let long : raw_length ≤ length c.args.raw.now = search rules in
    with-room long c.trb_of-t.ensures (accepted _ c.args.raw.now _ c.encode.ensures c.in_ok-bytes.was c.copy_into.ensures)
