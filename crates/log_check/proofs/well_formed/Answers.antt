-- `log_check::well_formed` meets its contract: what is asked of each record's first byte is the definition's question. Assumes nothing.
use Prim.Native.Nat.{◌/◌}
use mathlib.Core.Path.{◌≡◌, ◌∙◌, ap}
use borrow.Author.Rules.{rules}
use borrow.Author.Tests.{tests, eq-eqb, ne_eqb}
use lib.ListN.{length, get_or}
use Rattle.std.proofs.lemmas.Iterator.{YieldsList-from_slice}
use Rattle.std.proofs.lemmas.Iterator.Search.{all_from_yields_List}
use Rattle.trb.specs.Limits.{record_length}
use Rattle.call_log.specs.Logs.{records_in}
use Rattle.log_check.specs.WellFormed.{kind_known, kinds_known, well_formed}
use Rattle.log_check.proofs.WellFormedLaws.{kinds_known-cells}
use Rattle.log_check.proofs.well_formed.Goals as goal

pub returns-then-log-eq0 : goal.returns-then-log-eq0
unfolding well_formed
returns-then-log-eq0 c =
    let l = c.args.log.now in
    let known : c.all.result ≡ kinds_known (records_in (length l / record_length) l) =
    all_from_yields_List (λ cells. kind_known (get_or cells 0 0)) _ _ _ c.all.ensures.ran (YieldsList-from_slice c.records.result.now (cc)) (λ x b q k. search (rules, tests))
    ∙ kinds_known-cells c.records.result.now
    ∙ ap kinds_known c.records.ensures.each in
    rw (eq-eqb _ _ c.if-log-eq0.true, known)

pub returns-else-log-eq0 : goal.returns-else-log-eq0
unfolding well_formed
returns-else-log-eq0 c = simp (ne_eqb _ _ c.if-log-eq0.false)
