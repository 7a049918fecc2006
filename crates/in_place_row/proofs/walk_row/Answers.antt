-- `in_place_row::walk_row` meets its contract. After i TDs, what the walk over the TDs left makes of the present state and log is what the row
-- makes of the first; a TD's request and its walk from where it stands are its step; one that fails ends the row. Assumes nothing.
use Prim.Native.Nat.{ℕ, ◌+◌, ◌-◌, ◌*◌, ◌<◌, ◌≤◌, ◌^◌}
use mathlib.Core.Path.{◌≡◌, sym, ap, ◌∙◌}
use mathlib.Core.Bool.{true, false, not}
use mathlib.Core.List.{List, map}
use native.Mathlib.Omega.{arith}
use lib.Dec.{eqb}
use lib.ListN.{length, length-take, take, drop, get_or}
use Rattle.trb.specs.Limits.{record_length}
use Rattle.trb.specs.declared.TransferTrb.{TransferTrb}
use Rattle.call_log.specs.Calls.{Meets, counted}
use Rattle.call_log.specs.Records.{in_request, when}
use Rattle.held.specs.Places.{past_end}
use Rattle.held.specs.declared.EndpointKind.TheVariants.{In}
use Rattle.walks.specs.Walk.{walk}
use Rattle.td_part.specs.Parts.{Within}
use Rattle.in_td.specs.Td.{process_trb, ended, is_error}
use Rattle.in_td.specs.declared.InTd.{InTd}
use Rattle.in_td.specs.declared.TdProcessed.{TdProcessed}
use Rattle.row_walk.specs.declared.TdResult.{TdResult}
use Rattle.row_walk.specs.Rows.{td_done, process_row, from, td_from, past_results}
use Rattle.row_walk.proofs.TdsLaws.{Found}
use Rattle.row_walk.proofs.RowLaws.{le_trans_lt, within-as, room_as, walked_as, RowWalked, row-none, row-end, row_more, row-data, row-space, row_room, row-stop, row-turn}
use Rattle.held_bytes.specs.Places.{place_of}
use Rattle.row_bytes.specs.Layout.{results_in}
use Rattle.row_walk.proofs.TdsLaws.{found_at}
use Rattle.in_place_row.proofs.KeptLaws.{trbs_of, as_many, read_at, kept-part}
use Rattle.in_place_row.proofs.walk_row.Goals.{After-log_request-records, After-look_at_td-end, After-unprocessed_from-from, In-loop-i}
use Rattle.in_place_row.proofs.walk_row.Goals as goal

-- where a TD is left
module _ (c : In-loop-i) where
  left : c.loop-i.i < length (results_in c.args.results.now)
  left = omega (arith, c.loop-i-test.true, c.result_count-tds.ensures)

  inside : c.loop-i.first < length (trbs_of c.args.row.now)
  inside = row_more _ _ _ _ _ _ c.requires.1.1.1 _ _ _ _ c.loop-i.invariant left

  placed : c.loop-i.first < length c.args.row.now
  placed = omega (arith, inside, as_many c.args.row.now)

-- where it was looked at
module _ (c : After-look_at_td-end) where
  -- what was given for it
  abbrev given : TdResult
  given = c.result_at-given.result

  given-for : get_or (results_in c.args.results.now) c.loop-i.i past_results ≡ given
  given-for = sym c.result_at-given.ensures

  found : c.loop-i.first < length (trbs_of c.args.row.now) → Found (trbs_of c.args.row.now) c.loop-i.first c.look_at_td-end.result.asked c.look_at_td-end.result.end
  found inside = found_at (trbs_of c.args.row.now) c.loop-i.first c.look_at_td-end.result inside c.look_at_td-end.ensures

  data-fits : c.loop-i.i < length (results_in c.args.results.now) → c.loop-i.so_far.start + given.length < 2 ^ 32
  data-fits left =
      rw given-for at
      (let h = row-data _ _ _ _ _ _ c.requires.1.1.1 _ _ _ _ c.loop-i.invariant left in le_trans_lt h c.requires.1.1.1.given)

-- where its request was logged
request-met : (c : After-log_request-records) → c.loop-i.first < length c.args.row.now →
    Meets (counted c.loop-i.so_far.records (when (not (eqb c.look_at_td-end.result.asked.normals 0)) (in_request (get_or (trbs_of c.args.row.now) c.loop-i.first past_end).addr c.look_at_td-end.result.asked.length c.args.endpoint_id c.args.slot_id)))
    c.loop-i.so_far.records c.loop-i.log c.log_request-records.result c.log_request-records.new.log
request-met c h =
    let read : c.trb_in-head.result ≡ get_or (trbs_of c.args.row.now) c.loop-i.first past_end = c.trb_in-head.ensures ∙ sym (read_at c.args.row.now c.loop-i.first h) in
    rw read at c.log_request-records.ensures

-- where its TRBs are walked
module _ (c : After-unprocessed_from-from) where
  abbrev trbs : List TransferTrb
  trbs = trbs_of c.args.row.now

  abbrev results : List TdResult
  results = results_in c.args.results.now

  abbrev size : ℕ
  size = c.look_at_td-end.result.end - c.loop-i.first

  abbrev for_it : TdResult
  for_it = c.result_at-given.result

  -- the TD, and the state before its first TRB
  abbrev td : InTd
  td = c.td_from-td.result

  abbrev begun : TdProcessed
  begun = c.unprocessed_from-from.result

  begun-within : Within td.info begun.progress
  begun-within = within-as _ _ _ _ c.td_from-td.ensures c.unprocessed_from-from.ensures (record { within = omega arith })

  module _ (left : c.loop-i.i < length results) (bounds : Found trbs c.loop-i.first c.look_at_td-end.result.asked c.look_at_td-end.result.end)
      (given-here : get_or results c.loop-i.i past_results ≡ for_it)
      (met : Meets (counted c.loop-i.so_far.records (when (not (eqb c.look_at_td-end.result.asked.normals 0)) (in_request (get_or trbs c.loop-i.first past_end).addr c.look_at_td-end.result.asked.length c.args.endpoint_id c.args.slot_id)))
      c.loop-i.so_far.records c.loop-i.log c.log_request-records.result c.log_request-records.new.log) where
    begun-room : record_length * (begun.progress.records + 2 * size) ≤ length c.log_request-records.new.log
    begun-room =
        room_as _ _ _ _ c.td_from-td.ensures c.unprocessed_from-from.ensures (2 * size) (length c.log_request-records.new.log)
        (row_room _ _ _ _ _ _ c.requires.1.1.1 _ _ _ _ c.loop-i.invariant left _ _ bounds _ _ met)

    -- the places that are walked
    walked-trbs : map (place_of In) (take size (drop c.loop-i.first c.args.row.now)) ≡ take size (drop c.loop-i.first trbs)
    walked-trbs = kept-part c.args.row.now c.loop-i.first size c.requires.1.1.0

    module _ (l : List ℕ) (p : TdProcessed)
        (q : Meets (walk (process_trb td) ended begun (map (place_of In) (take size (drop c.loop-i.first c.args.row.now)))) begun.progress.records c.log_request-records.new.log p l) where
      walked_here : Meets (walk (process_trb (td_from c.args.endpoint_id c.args.slot_id c.args.mode c.loop-i.so_far.start for_it)) ended (from c.loop-i.so_far.start c.log_request-records.result c.look_at_td-end.result.asked.normals) (take size (drop c.loop-i.first trbs)))
          c.log_request-records.result c.log_request-records.new.log p l
      walked_here = walked_as _ _ _ _ c.td_from-td.ensures c.unprocessed_from-from.ensures _ _ _ _ (rw walked-trbs at q)

      stops : is_error p.result ≡ true → Meets (process_row c.args.endpoint_id c.args.slot_id c.args.mode trbs results) 0 c.args.log.now (td_done c.loop-i.so_far for_it p.result p.progress.records) l
      stops h =
          rw given-here at
          (row-stop _ _ _ _ _ _ c.requires.1.1.1 _ _ _ _ c.loop-i.invariant left _ _ bounds _ _ met l p (rw given-here walked_here) h)

      turns : is_error p.result ≡ false → RowWalked c.args.endpoint_id c.args.slot_id c.args.mode trbs results c.args.log.now l (td_done c.loop-i.so_far for_it p.result p.progress.records) c.look_at_td-end.result.end (c.loop-i.i + 1)
      turns h =
          rw given-here at
          (row-turn _ _ _ _ _ _ c.requires.1.1.1 _ _ _ _ c.loop-i.invariant left _ _ bounds _ _ met l p (rw given-here walked_here) h)

pub loop-i-init : goal.loop-i-init
loop-i-init c = rw c.at_start_of_row-so_far.ensures (row-none _ _ _ _ _ _)

pub look_at_td-end-requires : goal.look_at_td-end-requires
look_at_td-end-requires c = (placed (goal.at.look_at_td-end-requires c).In-loop-i, (c.requires.0, (c.requires.1.1.1.whole, c.requires.1.1.1.asked)))

pub offset_bounds-row-first : goal.offset_bounds-row-first
offset_bounds-row-first c = omega (arith, placed (goal.at.offset_bounds-row-first c).In-loop-i, c.requires.0)

pub offset_bounds-row-first-in-loop-i : goal.offset_bounds-row-first-in-loop-i
offset_bounds-row-first-in-loop-i c = omega (arith, placed (goal.at.offset_bounds-row-first-in-loop-i c).In-loop-i, c.requires.0)

pub bounds-row-first : goal.bounds-row-first
bounds-row-first c = placed (goal.at.bounds-row-first c).In-loop-i

pub log_request-records-requires : goal.log_request-records-requires
log_request-records-requires c =
    row-space _ _ _ _ _ _ c.requires.1.1.1 _ _ _ _ c.loop-i.invariant (left (goal.at.log_request-records-requires c).In-loop-i)

pub td_from-td-requires : goal.td_from-td-requires
td_from-td-requires c =
    let g = goal.at.td_from-td-requires c in
    data-fits g.After-look_at_td-end (left g.In-loop-i)

pub slice_bounds-walk_places-end : goal.slice_bounds-walk_places-end
slice_bounds-walk_places-end c =
    let g = goal.at.slice_bounds-walk_places-end c in
    let bounds = found g.After-look_at_td-end (inside g.In-loop-i) in
    omega (arith, bounds.some, bounds.inside, as_many c.args.row.now)

pub walk_places-processed-requires : goal.walk_places-processed-requires
walk_places-processed-requires c =
    let g = goal.at.walk_places-processed-requires c in
    let u = g.After-unprocessed_from-from in
    let bounds = found g.After-look_at_td-end (inside g.In-loop-i) in
    let met = request-met g.After-log_request-records (placed g.In-loop-i) in
    let for-it = given-for g.After-look_at_td-end in
    (omega (arith, begun-room u (left g.In-loop-i) bounds for-it met, length-take (size u) (drop c.loop-i.first c.args.row.now)), (begun-within u, ap ended c.unprocessed_from-from.ensures))

pub td_done-so_far-requires : goal.td_done-so_far-requires
td_done-so_far-requires c =
    let g = goal.at.td_done-so_far-requires c in
    (omega (arith, c.loop-i.invariant.count, left g.In-loop-i, c.requires.1.0), data-fits g.After-look_at_td-end (left g.In-loop-i))

pub returns-then-is_error : goal.returns-then-is_error
returns-then-is_error c =
    let g = goal.at.returns-then-is_error c in
    let w = c.walk_places-processed in
    rw c.td_done-so_far.ensures
    (stops g.After-unprocessed_from-from (left g.In-loop-i) (found g.After-look_at_td-end (inside g.In-loop-i)) (given-for g.After-look_at_td-end) (request-met g.After-log_request-records (placed g.In-loop-i)) w.new.log w.result w.ensures
    (sym c.is_error.ensures ∙ c.if-is_error.true))

pub loop-i-preserved : goal.loop-i-preserved
loop-i-preserved c =
    let g = goal.at.loop-i-preserved c in
    let w = c.walk_places-processed in
    rw c.td_done-so_far.ensures
    (turns g.After-unprocessed_from-from (left g.In-loop-i) (found g.After-look_at_td-end (inside g.In-loop-i)) (given-for g.After-look_at_td-end) (request-met g.After-log_request-records (placed g.In-loop-i)) w.new.log w.result w.ensures
    (sym c.is_error.ensures ∙ c.if-is_error.false))

pub returns : goal.returns
returns c = row-end _ _ _ _ _ _ c.requires.1.1.1 _ _ _ _ c.loop-i.invariant (omega (arith, c.loop-i-test.false, c.result_count-tds.ensures))
