-- `carry_out::writes_in_range` meets its contract: what is asked of each record is the definition's question. Assumes nothing.
use mathlib.Core.Path.{◌∙◌, ap}
use borrow.Author.Rules.{rules}
use borrow.Author.Tests.{tests}
use Rattle.std.proofs.lemmas.Iterator.{YieldsList-from_slice}
use Rattle.std.proofs.lemmas.Iterator.Search.{all_from_yields_List}
use Rattle.call_log.specs.Records.{decode}
use Rattle.carry_out.specs.Writes.{write_in_range, writes_in_range}
use Rattle.carry_out.proofs.WriteLaws.{writes_in_range-cells}
use Rattle.carry_out.proofs.writes_in_range.Goals as goal

pub returns : goal.returns
returns c =
    let n = c.args.available in
    let regions = c.args.regions in
    all_from_yields_List (λ l. write_in_range n regions (decode l)) _ _ _ c.all.ensures.ran (YieldsList-from_slice c.records.result.now (cc)) (λ x b q k. search (rules, tests))
    ∙ writes_in_range-cells n regions c.records.result.now
    ∙ ap (writes_in_range n regions) c.records.ensures.each
