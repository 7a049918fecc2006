-- `place_walk::walk_places` meets its contract. Behind the full Normals the loop keeps to the walk over what is left; an error ends both. Assumes nothing.
use Prim.Native.Nat.{ℕ, ◌+◌, ◌*◌, ◌≤◌}
use mathlib.Core.Path.{sym, ap, ◌∙◌}
use mathlib.Core.List.{List, []}
use native.Mathlib.Omega.{arith}
use lib.ListN.{length, take}
use Rattle.std.proofs.lemmas.List.{get_or-map}
use Rattle.trb.specs.Limits.{record_length}
use Rattle.trb.specs.declared.TransferTrb.{TransferTrb}
use Rattle.call_log.proofs.CallLaws.{meets}
use Rattle.held.specs.Places.{past_end}
use Rattle.held.specs.declared.EndpointKind.TheVariants.{In}
use Rattle.walks.proofs.WalkLaws.{Walked, walked_none, walked-turn, walked_end, walked_stop}
use Rattle.in_td.specs.Td.{process_trb}
use Rattle.in_td.proofs.TdLaws.{td_walker}
use Rattle.held_bytes.specs.Places.{place_of}
use Rattle.place_walk.proofs.FullLaws.{trbs, few, behind, length-behind, went-on}
use Rattle.place_walk.proofs.walk_places.Goals.{After-walk_full-full, After-process_trb-processed}
use Rattle.place_walk.proofs.walk_places.Goals as goal

-- behind the full Normals
module _ (c : After-walk_full-full) where
  -- the places that are left
  abbrev rest : List (List ℕ)
  rest = behind c.walk_full-full.result.count c.args.places.now

  room : record_length * (c.walk_full-full.result.processed.progress.records + 2 * length rest) ≤ length c.walk_full-full.new.log
  room =
      let full = c.walk_full-full.ensures in
      omega (arith, full.0, full.1.room, full.1.long, c.requires.0, length-behind c.walk_full-full.result.count c.args.places.now)

-- a turn
module _ (c : After-process_trb-processed) where
  abbrev left : List (List ℕ)
  left = behind c.walk_full-full.result.count c.args.places.now

  turned : record_length * (c.walk_full-full.result.processed.progress.records + 2 * length left) ≤ length c.walk_full-full.new.log
      → Walked (td_walker c.args.td) c.walk_full-full.result.processed (take (length left) (trbs left)) c.walk_full-full.new.log c.process_trb-processed.new.log c.process_trb-processed.result (c.loop-place.place-index + 1)
  turned space =
      let l = c.loop-place in
      let read = get_or-map (place_of In) left l.place-index [] past_end c.loop-place-test.true ∙ sym c.trb_from-t.ensures in
      walked-turn (td_walker c.args.td) (trbs left) (length left) (few left) c.walk_full-full.result.processed c.walk_full-full.new.log l.log c.process_trb-processed.new.log l.processed c.process_trb-processed.result l.place-index past_end l.invariant.0 l.invariant.1 c.loop-place-test.true space
      (meets (ap (λ (t : TransferTrb). process_trb c.args.td l.processed t) read) c.process_trb-processed.ensures)

pub walk_full-full-requires : goal.walk_full-full-requires
walk_full-full-requires c = c.requires

pub loop-place-init : goal.loop-place-init
loop-place-init c =
    let full = c.walk_full-full.ensures.1 in
    let left = rest (goal.at.loop-place-init c).After-walk_full-full in
    (walked_none (td_walker c.args.td) c.walk_full-full.result.processed (take (length left) (trbs left)) c.walk_full-full.new.log full.good, full.on)

pub process_trb-processed-requires : goal.process_trb-processed-requires
process_trb-processed-requires c =
    let w = c.loop-place.invariant.0 in
    (omega (arith, w.room, w.long, room (goal.at.process_trb-processed-requires c).After-walk_full-full, c.loop-place-test.true), w.good)

pub shape_of-log-then-is_error : goal.shape_of-log-then-is_error
shape_of-log-then-is_error c =
    let g = goal.at.shape_of-log-then-is_error c in
    (turned g.After-process_trb-processed (room g.After-walk_full-full)).long ∙ c.walk_full-full.ensures.1.long

pub returns-then-is_error : goal.returns-then-is_error
returns-then-is_error c =
    let g = goal.at.returns-then-is_error c in
    let left = rest g.After-walk_full-full in
    went-on c.args.places.now c.walk_full-full.ensures.1
    (walked_stop (td_walker c.args.td) (trbs left) (length left) (few left) c.walk_full-full.result.processed c.walk_full-full.new.log c.process_trb-processed.new.log c.process_trb-processed.result (c.loop-place.place-index + 1) (turned g.After-process_trb-processed (room g.After-walk_full-full))
    (sym c.is_error.ensures ∙ c.if-is_error.true))

pub loop-place-preserved : goal.loop-place-preserved
loop-place-preserved c =
    let g = goal.at.loop-place-preserved c in
    (turned g.After-process_trb-processed (room g.After-walk_full-full), sym c.is_error.ensures ∙ c.if-is_error.false)

pub shape_of-log : goal.shape_of-log
shape_of-log c = c.loop-place.invariant.0.long ∙ c.walk_full-full.ensures.1.long

pub returns : goal.returns
returns c =
    let left = rest (goal.at.returns c).After-walk_full-full in
    went-on c.args.places.now c.walk_full-full.ensures.1
    (walked_end (td_walker c.args.td) (trbs left) (length left) (few left) c.walk_full-full.result.processed c.walk_full-full.new.log c.loop-place.log c.loop-place.processed c.loop-place.place-index c.loop-place.invariant.0 c.loop-place-test.false)
