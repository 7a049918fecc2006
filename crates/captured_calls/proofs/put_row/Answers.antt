-- `captured_calls::put_row` meets its contract. The invariant: what is laid, and then what the TDs of the TRBs that are left give, is what the row gives.
-- Assumes nothing.
use mathlib.Core.List.{map}
use native.Mathlib.Omega.{arith}
use lib.ListN.{take, get_or}
use Rattle.call_log.specs.Records.{decode}
use Rattle.row_walk.specs.Rows.{past_results}
use Rattle.row_walk.proofs.TdsLaws.{length-first_td}
use Rattle.captured_calls.specs.Submitted.{captured_of, pipe_of}
use Rattle.captured_calls.specs.Rows.{requests_in, td_captures}
use Rattle.captured_calls.proofs.WrittenLaws.{remaining-all, remaining-less, remaining-none}
use Rattle.captured_calls.proofs.RowLaws.{row-turn, row-end}
use Rattle.captured_calls.proofs.put_row.Goals as goal

pub loop-given-init : goal.loop-given-init
loop-given-init c = remaining-all _

pub split_at-requires : goal.split_at-requires
split_at-requires c = rw c.td_length.ensures (length-first_td _)

pub loop-given-preserved : goal.loop-given-preserved
loop-given-preserved c =
    let l = c.loop-given in
    let put = c.put_td-rows.ensures in
    let turn =
    row-turn _ _ c.args.results.now l.trbs.now l.given-index l.rows.now l.bytes.now (omega (arith, c.loop-given-test.true)) _ _ _ _ c.td_length.ensures (rw c.split_at.ensures.front at c.has_normal.ensures) put.left c.min.ensures in
    rw (c.split_at.ensures.back, c.split_at-in-loop-given.ensures.back)
    (remaining-less (λ s. td_captures (captured_of s) (pipe_of s c.args.endpoint_id) c.has_normal.result (requests_in (map decode l.rows.now)) (get_or c.args.results.now l.given-index past_results).status (take c.min.result l.bytes.now)) turn l.invariant (rw c.split_at-in-loop-given.ensures.front at put.laid))

pub returns : goal.returns
returns c =
    let l = c.loop-given in
    remaining-none (row-end _ _ c.args.results.now l.trbs.now l.given-index l.rows.now l.bytes.now (omega (arith, c.loop-given-test.false))) l.invariant
