-- `row_bytes::places` meets its contract: a place is 24 bytes, and they say its TRB. Assumes nothing.
use Prim.Native.Nat.{◌/◌}
use mathlib.Core.Path.{◌≡◌, sym, ap, ◌∙◌}
use mathlib.Core.List.{map}
use native.Mathlib.Omega.{arith}
use lib.ListN.{length, take}
use lib.Seq.{take_all}
use Rattle.std.specs.Simd.{first_chunks}
use Rattle.held.specs.declared.EndpointKind.TheVariants.{In}
use Rattle.held_bytes.specs.Places.{place_length, place_of}
use Rattle.held_bytes.proofs.PlaceLaws.{chunked}
use Rattle.row_bytes.proofs.CellLaws.{length-chunks, trbs-chunked}
use Rattle.row_bytes.proofs.places.Goals as goal

pub returns-clause-given : goal.returns-clause-given
returns-clause-given c = rw c.as_chunks.ensures.front (trbs-chunked c.args.row.now)

pub returns-clause-held : goal.returns-clause-held
returns-clause-held c =
    let row = c.args.row.now in
    let n = length row / place_length in
    let all : take n (first_chunks place_length n row) ≡ first_chunks place_length n row = take_all n (first_chunks place_length n row) (omega (arith, length-chunks n row)) in
    rw c.as_chunks.ensures.front (ap (map (place_of In)) (sym all) ∙ chunked In n n row (omega arith))
