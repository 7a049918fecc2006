use mathlib.Core.List.{map}
use lib.ListN.{length, take}
use Rattle.held.specs.declared.EndpointKind.TheVariants.{In}
use Rattle.held_bytes.specs.Places.{place_of}
use Rattle.delivery.proofs.TurnLaws.{Left}
use Rattle.in_place_delivery.proofs.writes_inside.Given as goal

abbrev pub invariant-loop-place : goal.invariant-loop-place
invariant-loop-place l =
    Left l.regions (take (length l.places) (map (place_of In) l.places)) l.given l.left l.place-index
