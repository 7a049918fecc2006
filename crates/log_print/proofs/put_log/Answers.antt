-- `log_print::put_log` meets its contract: each branch rewrites the definition's test by that which led there. Assumes nothing.
use Rattle.std.proofs.Common.{◌∙◌, sym}
use native.Mathlib.Omega.{arith}
use Rattle.text.proofs.WroteLaws.{wrote-within}
use Rattle.log_print.specs.LogText.{log_text}
use Rattle.log_print.proofs.LogTextLaws.{length-printable}
use Rattle.log_print.proofs.put_log.Goals as goal

pub put_lines-requires : goal.put_lines-requires
put_lines-requires c =
    let short = length-printable c.args.log.now (sym c.printable.ensures ∙ c.if-printable.true) in
    omega (arith, short, c.requires)

pub returns-then-printable : goal.returns-then-printable
unfolding log_text
returns-then-printable c =
    let short = length-printable c.args.log.now (sym c.printable.ensures ∙ c.if-printable.true) in
    simp (← c.printable.ensures, c.if-printable.true) (wrote-within (omega (arith, short)) c.put_lines.ensures)

pub returns-else-printable : goal.returns-else-printable
unfolding log_text
returns-else-printable c = simp (← c.printable.ensures, c.if-printable.false) c.put_refused.ensures
