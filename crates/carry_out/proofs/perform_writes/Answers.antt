-- `carry_out::perform_writes` meets its contract. The loop's invariant: what the records that are left make of the memory as it is now is what
-- all of them make of it as it was, and they lie in range. Assumes nothing.
use Prim.Native.Nat.{ℕ, ◌+◌, ◌<◌}
use mathlib.Core.Path.{◌≡◌, ap}
use mathlib.Core.List.{List, [], ◌∷◌, map}
use native.Mathlib.Numerals.{add-one}
use lib.ListN.{length, drop, get_or}
use lib.Seq.{drop-cons}
use borrow.Author.Rules.{rules}
use Rattle.call_log.specs.Records.{decode}
use Rattle.carry_out.proofs.WriteLaws.{remaining-next}
use Rattle.carry_out.proofs.perform_writes.Goals as goal

-- the next record, and those behind it
records-next : (cells : List (List ℕ)) (i : ℕ) → i < length cells → map decode (drop i cells) ≡ decode (get_or cells i []) ∷ map decode (drop (i + 1) cells)
records-next cells i h = rw add-one (ap (map decode) (drop-cons cells i [] h))

pub loop-cells-preserved : goal.loop-cells-preserved
loop-cells-preserved c = (
  search rules,
  rw (c.perform_write.ensures.after, c.decoded.ensures)
      (remaining-next (rw (records-next _ c.loop-cells.cells-index c.loop-cells-test.true) at c.loop-cells.invariant.1)),
)
