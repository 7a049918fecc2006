-- `row_walk::walk_row` meets its contract. After some TDs, what the walk over the TDs left makes of the present state and log is what the
-- row makes of the first; the inner loop keeps to the TD's walk from where it stands in the row. A failing TRB stops both walks at once.
-- Assumes nothing.
use Prim.Native.Nat.{ℕ, ◌+◌, ◌-◌, ◌*◌, ◌<◌, ◌≤◌, ◌^◌}
use mathlib.Core.Path.{◌≡◌, sym, ◌∙◌}
use mathlib.Core.Bool.{false, true}
use mathlib.Core.List.{List}
use native.Mathlib.Omega.{arith}
use lib.ListN.{length, take, drop, get_or, length-take, length-drop}
use lib.Seq.{get_or-take, get_or-drop}
use Rattle.trb.specs.Limits.{record_length}
use Rattle.call_log.specs.Calls.{Meets}
use Rattle.held.specs.Places.{past_end}
use Rattle.walks.specs.Walk.{walk}
use Rattle.in_td.specs.Td.{process_trb, ended, is_error}
use Rattle.in_td.specs.declared.TdProcessed.{TdProcessed}
use Rattle.row_walk.specs.declared.TdResult.{TdResult}
use Rattle.row_walk.specs.Rows.{td_done, process_row, from, td_from, past_results}
use Rattle.row_walk.proofs.TdsLaws.{Found, found_at}
use Rattle.row_walk.proofs.RowLaws.{le_trans_lt, room_as, walked_as, WalkedFrom, walked_from-turn, walked_from-end, walked_from-stop, RowWalked, row-end, row_more, row-data, row-space, row_room, row-stop, row-turn}
use Rattle.row_walk.proofs.walk_row.Goals.{In-row, After-look_at_td-end, After-unprocessed_from-processed, After-is_error}
use Rattle.row_walk.proofs.walk_row.Goals as goal

-- where a TD is left
module _ (c : In-row) where
  inside : c.row.first < length c.args.row.now
  inside = row_more _ _ _ _ _ _ c.requires.1.1 _ _ _ _ c.row.invariant c.row-test.true

  data-fits : c.row.so_far.start + (get_or c.args.results.now c.row.given-index past_results).length < 2 ^ 32
  data-fits = let h = row-data _ _ _ _ _ _ c.requires.1.1 _ _ _ _ c.row.invariant c.row-test.true in le_trans_lt h c.requires.1.1.given

  -- behind a TD the numbers fit
  done-fits : (c.row.so_far.finished + 1 < 2 ^ 64) × (c.row.so_far.start + (get_or c.args.results.now c.row.given-index past_results).length < 2 ^ 32)
  done-fits = (omega (arith, c.row.invariant.count, c.row-test.true, c.requires.1.0), data-fits)

-- where it was looked at
found : (c : After-look_at_td-end) → c.row.first < length c.args.row.now → Found c.args.row.now c.row.first c.look_at_td-end.result.asked c.look_at_td-end.result.end
found c h = found_at _ _ _ h c.look_at_td-end.ensures

-- where its TRBs are walked
module _ (c : After-unprocessed_from-processed) (more : c.row.given-index < length c.args.results.now)
    (bounds : Found c.args.row.now c.row.first c.look_at_td-end.result.asked c.look_at_td-end.result.end) where
  abbrev size : ℕ
  size = c.look_at_td-end.result.end - c.row.first

  abbrev given : TdResult
  given = get_or c.args.results.now c.row.given-index past_results

  abbrev begun : TdProcessed
  begun = c.unprocessed_from-processed.result

  begun-room : record_length * (begun.progress.records + 2 * size) ≤ length c.log_request-records.new.log
  begun-room =
      room_as _ _ _ _ c.td_from-td.ensures c.unprocessed_from-processed.ensures (2 * size) (length c.log_request-records.new.log)
      (row_room _ _ _ _ _ _ c.requires.1.1 _ _ _ _ c.row.invariant more _ _ bounds _ _ c.log_request-records.ensures)

  few-trbs : c.row.first + size ≤ length c.args.row.now
  few-trbs = omega (arith, bounds.some, bounds.inside)

  module _ (l : List ℕ) (p : TdProcessed)
      (q : Meets (walk (process_trb c.td_from-td.result) ended begun (take size (drop c.row.first c.args.row.now))) begun.progress.records c.log_request-records.new.log p l) where
    walked_here : Meets (walk (process_trb (td_from c.args.endpoint_id c.args.slot_id c.args.mode c.row.so_far.start given)) ended (from c.row.so_far.start c.log_request-records.result c.look_at_td-end.result.asked.normals) (take size (drop c.row.first c.args.row.now)))
        c.log_request-records.result c.log_request-records.new.log p l
    walked_here = walked_as _ _ _ _ c.td_from-td.ensures c.unprocessed_from-processed.ensures _ _ _ _ q

    stops : is_error p.result ≡ true → Meets (process_row c.args.endpoint_id c.args.slot_id c.args.mode c.args.row.now c.args.results.now) 0 c.args.log.now (td_done c.row.so_far given p.result p.progress.records) l
    stops h = row-stop _ _ _ _ _ _ c.requires.1.1 _ _ _ _ c.row.invariant more _ _ bounds _ _ c.log_request-records.ensures l p walked_here h

    turns : is_error p.result ≡ false → RowWalked c.args.endpoint_id c.args.slot_id c.args.mode c.args.row.now c.args.results.now c.args.log.now l (td_done c.row.so_far given p.result p.progress.records) c.look_at_td-end.result.end (c.row.given-index + 1)
    turns h = row-turn _ _ _ _ _ _ c.requires.1.1 _ _ _ _ c.row.invariant more _ _ bounds _ _ c.log_request-records.ensures l p walked_here h

-- a TRB's turn
walked_on : (c : After-is_error) → c.row.first + (c.look_at_td-end.result.end - c.row.first) ≤ length c.args.row.now
    → record_length * (c.unprocessed_from-processed.result.progress.records + 2 * (c.look_at_td-end.result.end - c.row.first)) ≤ length c.log_request-records.new.log
    → WalkedFrom c.td_from-td.result c.args.row.now c.row.first c.unprocessed_from-processed.result (c.look_at_td-end.result.end - c.row.first)
    c.log_request-records.new.log c.process_trb-processed.new.log c.process_trb-processed.result (c.loop-t.t-index + 1)
walked_on c few room =
    let n = c.look_at_td-end.result.end - c.row.first in
    let rest = drop c.row.first c.args.row.now in
    let more : c.loop-t.t-index < n = omega (arith, c.loop-t-test.true, length-take n rest) in
    walked_from-turn _ _ _ _ _ _ _ _ _ c.loop-t.invariant.0 few more room _ _ c.loop-t.invariant.1.0
    (rw (get_or-take n rest c.loop-t.t-index past_end more, get_or-drop c.row.first c.args.row.now c.loop-t.t-index past_end) at c.process_trb-processed.ensures)

pub look_at_td-end-requires : goal.look_at_td-end-requires
look_at_td-end-requires c = (inside (goal.at.look_at_td-end-requires c).In-row, (c.requires.0, (c.requires.1.1.whole, c.requires.1.1.asked)))

pub offset_bounds-row-first : goal.offset_bounds-row-first
offset_bounds-row-first c = omega (arith, inside (goal.at.offset_bounds-row-first c).In-row, c.requires.0)

pub bounds-row-first : goal.bounds-row-first
bounds-row-first c = inside (goal.at.bounds-row-first c).In-row

pub log_request-records-requires : goal.log_request-records-requires
log_request-records-requires c = row-space _ _ _ _ _ _ c.requires.1.1 _ _ _ _ c.row.invariant c.row-test.true

pub td_from-td-requires : goal.td_from-td-requires
td_from-td-requires c = data-fits (goal.at.td_from-td-requires c).In-row

pub offset_bounds-row-first-in-row : goal.offset_bounds-row-first-in-row
offset_bounds-row-first-in-row c = omega (arith, inside (goal.at.offset_bounds-row-first-in-row c).In-row, c.requires.0)

pub slice_bounds-t-items-end : goal.slice_bounds-t-items-end
slice_bounds-t-items-end c =
    let g = goal.at.slice_bounds-t-items-end c in
    let bounds = found g.After-look_at_td-end (inside g.In-row) in
    omega (arith, bounds.some, bounds.inside)

pub loop-t-preserved : goal.loop-t-preserved
loop-t-preserved c =
    let g = goal.at.loop-t-preserved c in
    let bounds = found g.After-look_at_td-end (inside g.In-row) in (
      walked_on g.After-is_error
          (few-trbs g.After-unprocessed_from-processed c.row-test.true bounds)
          (begun-room g.After-unprocessed_from-processed c.row-test.true bounds),
      (sym c.is_error.ensures ∙ c.if-is_error.false, c.loop-t.invariant.1.1),
    )

pub row-preserved : goal.row-preserved
row-preserved c =
    let g = goal.at.row-preserved c in
    let bounds = found g.After-look_at_td-end (inside g.In-row) in
    let l = c.loop-t in
    rw (c.td_done-so_far-in-row.ensures, l.invariant.1.1)
    (turns g.After-unprocessed_from-processed c.row-test.true bounds l.log l.processed
    (walked_from-end _ _ _ _ _ _ _ _ _ l.invariant.0 (few-trbs g.After-unprocessed_from-processed c.row-test.true bounds) (omega (arith, c.loop-t-test.false, bounds.some, bounds.inside, length-take (c.look_at_td-end.result.end - c.row.first) (drop c.row.first c.args.row.now), length-drop c.row.first c.args.row.now))) l.invariant.1.0)

pub returns-after-row : goal.returns-after-row
returns-after-row c = row-end _ _ _ _ _ _ c.requires.1.1 _ _ _ _ c.row.invariant c.row-test.false

pub returns-then-is_error : goal.returns-then-is_error
returns-then-is_error c =
    let g = goal.at.returns-then-is_error c in
    let bounds = found g.After-look_at_td-end (inside g.In-row) in
    let few = few-trbs g.After-unprocessed_from-processed c.row-test.true bounds in
    let n = c.process_trb-processed in
    let stop = sym c.is_error.ensures ∙ c.if-is_error.true in
    rw (c.td_done-so_far.ensures, c.loop-t.invariant.1.1)
    (stops g.After-unprocessed_from-processed c.row-test.true bounds n.new.log n.result
    (walked_from-stop _ _ _ _ _ _ _ _ _ (walked_on g.After-is_error few (begun-room g.After-unprocessed_from-processed c.row-test.true bounds)) few stop) stop)
