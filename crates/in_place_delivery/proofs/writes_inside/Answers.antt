-- `in_place_delivery::writes_inside` meets its contract: the loop keeps to question 11 of the places held. Assumes nothing.
use Prim.Native.Nat.{ℕ, ◌≤◌, min}
use mathlib.Core.List.{List, [], map}
use mathlib.Core.Path.{◌≡◌, refl, sym, ap, ◌∙◌}
use native.Mathlib.Omega.{arith}
use lib.ListN.{length, length-map, take, get_or}
use lib.Seq.{take_all}
use Rattle.std.proofs.lemmas.List.{get_or-map}
use Rattle.trb.specs.declared.TransferTrb.{TransferTrb}
use Rattle.guest_memory.specs.Places.{range_inside}
use Rattle.held.specs.Places.{past_end}
use Rattle.held.specs.declared.EndpointKind.TheVariants.{In}
use Rattle.held_bytes.specs.Places.{place_of}
use Rattle.in_td.specs.Normals.{normal_of, length_of}
use Rattle.delivery_laws.specs.Ranges.{pointer_of, writes_inside}
use Rattle.delivery.proofs.TurnLaws.{left_out, left-next, left_end}
use Rattle.in_place_delivery.proofs.writes_inside.Goals.{After-write_inside, Start}
use Rattle.in_place_delivery.proofs.writes_inside.Goals as goal

pub loop-place-init : goal.loop-place-init
loop-place-init c = refl

-- the TRBs of the places
module _ (c : Start) where
  abbrev cells : List (List ℕ)
  cells = c.args.places.now

  abbrev trbs : List TransferTrb
  trbs = map (place_of In) cells

  as_many : length trbs ≡ length cells
  as_many = length-map cells (place_of In)

  few : length cells ≤ length trbs
  few = omega (arith, as_many)

  -- all of them
  all : writes_inside c.args.regions c.args.given (take (length cells) trbs) ≡ writes_inside c.args.regions c.args.given trbs
  all = ap (writes_inside c.args.regions c.args.given) (take_all (length cells) trbs (omega (arith, as_many)))

-- a turn
module _ (c : After-write_inside) where
  -- the TRB that it reads is the one in its place
  read : c.trb_from-one.result ≡ get_or (map (place_of In) c.args.places.now) c.loop-place.place-index past_end
  read = c.trb_from-one.ensures ∙ sym (get_or-map (place_of In) c.args.places.now c.loop-place.place-index [] past_end c.loop-place-test.true)

  taken : c.bytes_taken-count.result ≡ min (length_of (normal_of (get_or (map (place_of In) c.args.places.now) c.loop-place.place-index past_end).variant)) c.loop-place.left
  taken = c.bytes_taken-count.ensures ∙ ap (λ (t : TransferTrb). min (length_of (normal_of t.variant)) c.loop-place.left) read

  -- the answer to its question
  asked : let normal = normal_of (get_or (map (place_of In) c.args.places.now) c.loop-place.place-index past_end).variant in
      c.write_inside.result ≡ range_inside c.args.regions (pointer_of normal) (min (length_of normal) c.loop-place.left)
  asked =
      let s = c.args in
      let normal = normal_of (get_or (map (place_of In) c.args.places.now) c.loop-place.place-index past_end).variant in
      c.write_inside.ensures
      ∙ ap (λ (t : TransferTrb). range_inside s.regions (pointer_of (normal_of t.variant)) c.bytes_taken-count.result) read
      ∙ ap (range_inside s.regions (pointer_of normal)) taken

pub returns-then-not-write_inside : goal.returns-then-not-write_inside
returns-then-not-write_inside c =
    let h = (goal.at.returns-then-not-write_inside c).Start in
    left_out c.args.regions (trbs h) (length (cells h)) (few h) c.args.given c.loop-place.left c.loop-place.place-index c.loop-place.invariant c.loop-place-test.true
    (sym (asked (goal.at.returns-then-not-write_inside c).After-write_inside) ∙ c.if-not-write_inside.true)
    ∙ all h

pub loop-place-preserved : goal.loop-place-preserved
loop-place-preserved c =
    let h = (goal.at.loop-place-preserved c).Start in
    let at = (goal.at.loop-place-preserved c).After-write_inside in
    rw (taken at)
    (left-next c.args.regions (trbs h) (length (cells h)) (few h) c.args.given c.loop-place.left c.loop-place.place-index c.loop-place.invariant c.loop-place-test.true
    (sym (asked at) ∙ c.if-not-write_inside.false))

pub returns : goal.returns
returns c =
    let h = (goal.at.returns c).Start in
    left_end c.args.regions (trbs h) (length (cells h)) (few h) c.args.given c.loop-place.left c.loop-place.place-index c.loop-place.invariant c.loop-place-test.false
    ∙ all h
