-- `in_bytes::held_places` meets its contract: a place is 24 bytes, and they say its TRB. Assumes nothing.
use Prim.Native.Nat.{◌/◌, ◌-◌, ◌≤◌}
use mathlib.Core.Path.{◌≡◌, ◌∙◌}
use native.Mathlib.Omega.{arith}
use lib.ListN.{length, length-drop, take, drop}
use lib.Seq.{take_all}
use Rattle.held.proofs.TestedLaws.{places-held}
use Rattle.held_bytes.specs.Places.{place_length}
use Rattle.in_bytes.specs.Layout.{head_length, held_count, places}
use Rattle.in_bytes.proofs.HeldLaws.{held-chunks, length-places}
use Rattle.in_bytes.proofs.held_places.Goals as goal

pub returns-clause-trbs : goal.returns-clause-trbs
returns-clause-trbs c =
    let b = c.args.block.now in
    let n = c.places_held-count.result in
    let enough : n ≤ length (drop head_length b) / place_length = omega (arith, c.places_held-count.ensures, c.requires, length-drop head_length b) in
    let whole : take (length b - head_length) (drop head_length b) ≡ drop head_length b = take_all (length b - head_length) (drop head_length b) (omega (arith, length-drop head_length b)) in
    let kept : take n (places b) ≡ take (held_count b) (places b) = places-held (places b) (held_count b) n (length-places b) (rw c.held.ensures at c.places_held-count.ensures) in
    rw (c.as_chunks.ensures.front, whole) (held-chunks b n (length (drop head_length b) / place_length) (omega (arith, c.places_held-count.ensures)) enough ∙ kept)
