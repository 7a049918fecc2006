-- The two questions are the definition's, and behind both the bytes are those of the encoded dwords.
use Rattle.std.proofs.Common.{rules, ◌≡◌, ◌≤◌, ◌<◌, true, false, sym, arith, Some, None, Err}
use borrow.Author.Tests.{lt-leb}
use Rattle.trb.specs.Limits.{max_transfer_length}
use Rattle.trb.specs.Questions.{first_no}
use Rattle.trb.specs.Trbs.{transfer_length}
use Rattle.trb.specs.declared.Refusal.TheVariants.{NotEncodable, TransferTooLong}
use Rattle.raw_trb.specs.Raw.{has_fields, EncodedAs}
use Rattle.raw_trb_laws.proofs.DecodeEncode.{encodes-taken, encodes-refused}
use Rattle.raw_trb_encoder.proofs.encode.Goals.{In_ok-dwords}
use Rattle.raw_trb_encoder.proofs.encode.Goals as goal

-- a TRB whose dwords are given has fields, and they are its own
given : (c : In_ok-dwords) → (has_fields c.args.variant ≡ true) × EncodedAs c.args.variant c.args.cycle_bit c.in_ok-dwords.dwords
given c =
    let some : c.encoded.result ≡ Some c.in_ok-dwords.dwords = grind arith in
    (sym (rw some at c.encoded.ensures.fields), rw some at c.encoded.ensures.dwords)

pub returns-in_err-dwords : goal.returns-in_err-dwords
unfolding first_no
returns-in_err-dwords c =
    let a = c.args in
    let none : c.encoded.result ≡ None = grind arith in
    let bare : has_fields a.variant ≡ false = sym (rw none at c.encoded.ensures.fields) in
    let refused : c.from_residual.result ≡ Err NotEncodable = grind arith in
    encodes-refused a.variant a.cycle_bit {q = NotEncodable} (rw bare) refused

pub returns-in_err-ask : goal.returns-in_err-ask
unfolding first_no
returns-in_err-ask c =
    let a = c.args in
    let fields = (given (goal.at.returns-in_err-ask c).In_ok-dwords).0 in
    let long : max_transfer_length < transfer_length a.variant = search rules in
    encodes-refused a.variant a.cycle_bit {q = TransferTooLong} (rw (fields, lt-leb (transfer_length a.variant) max_transfer_length long)) (search rules)

pub returns : goal.returns
returns c =
    let a = c.args in
    let g = given (goal.at.returns c).In_ok-dwords in
    let short : transfer_length a.variant ≤ max_transfer_length = search rules in
    encodes-taken a.variant a.cycle_bit g.1.range g.0 short (rw (c.bytes_of.ensures, g.1.dwords))
