-- `script_fields::within` meets its contract: the numbers are the first ones of the line. Assumes nothing.
use Rattle.std.proofs.Common.{◌≡◌, ◌∙◌, sym, true, arith}
use Rattle.script_fields.specs.Fields.{within_limits}
use Rattle.script_fields.proofs.FieldLaws.{within-at-most}
use Rattle.script_fields.proofs.within.Goals as goal

pub returns : goal.returns
returns g c =
    let l = c.args.limits in
    let w : within_limits l c.args.fields ≡ true = sym c.within_limits.ensures ∙ c.if-not-within_limits.false in
    record { cases = (w, rw c.in_ok-numbers.ensures.cases.0 (within-at-most l c.args.fields _ w (omega arith))) }
