-- `in_place_row::test_at` meets its contract: a chained Normal that is taken, and any other TRB. Assumes nothing.
use mathlib.Core.Path.{sym, ◌∙◌}
use native.Mathlib.Omega.{arith}
use lib.ListN.{get_or}
use Rattle.trb.proofs.AnswerLaws.{accepted-ok}
use Rattle.row_walk.specs.Rows.{past_results}
use Rattle.row_bytes.specs.Layout.{results_in}
use Rattle.in_place_row.proofs.TakenLaws.{tested-normal}
use Rattle.in_place_row.proofs.test_at.Goals as goal

pub returns-then-is_taken : goal.returns-then-is_taken
returns-then-is_taken c =
    let a = c.args in (
      c.with_normal.ensures
          ∙ sym (tested-normal a.regions a.test a.place.now (c.is_taken.ensures c.if-is_taken.true) (get_or (results_in a.results.now) a.test.tds past_results) c.requires.0
          (accepted-ok _ (sym c.is_ok.ensures.value ∙ c.if-is_ok.true))),
      rw c.with_normal.ensures (omega arith),
    )
