-- `log_text::put_lines` meets its contract. The loop's invariant: the lines of the records that are left remain to be written, and those before
-- took no more than their share of the room. Assumes nothing.
use Prim.Native.Nat.{ℕ, ◌/◌}
use mathlib.Core.Path.{◌≡◌, ap, ◌∙◌}
use mathlib.Core.List.{List}
use native.Mathlib.Omega.{arith}
use lib.ListN.{length, drop_of_length-le}
use borrow.Author.Rules.{rules}
use Rattle.std.specs.List.{flat_map}
use Rattle.std.specs.Simd.{first_chunks}
use Rattle.trb.specs.Limits.{record_length}
use Rattle.text.proofs.WroteLaws.{remaining-all, remaining-less, remaining-none}
use Rattle.log_text.specs.Lines.{line_of, lines_in}
use Rattle.log_text.proofs.LineLaws.{length-lines_in, lines_in-cells, lines-next}
use Rattle.log_text.proofs.put_lines.Goals as goal

-- all lines, of the log and of its records' bytes
lines-of : (l : List ℕ) (cells : List (List ℕ)) → cells ≡ first_chunks record_length (length l / record_length) l
    → flat_map line_of cells ≡ lines_in (length l / record_length) l
lines-of l cells e = ap (flat_map line_of) e ∙ lines_in-cells (length l / record_length) l

pub loop-cells-init : goal.loop-cells-init
loop-cells-init c =
    let l = c.args.log.now in
    let lines = lines-of l c.records-cells-items.result.now c.records-cells-items.ensures.cells in
    (search rules, remaining-all _ _ (omega (arith, ap length lines, length-lines_in (length l / record_length) l, c.requires)))

pub put_line-requires : goal.put_line-requires
put_line-requires c = omega (arith, c.loop-cells.invariant.0, c.loop-cells.invariant.1.size, c.records-cells-items.ensures.count, c.requires)

pub loop-cells-preserved : goal.loop-cells-preserved
loop-cells-preserved c = (
  omega (arith, c.loop-cells.invariant.0, c.put_line.ensures.end, c.put_line.ensures.within),
  remaining-less _ _ (rw (lines-next c.records-cells-items.result.now c.loop-cells.cells-index c.loop-cells-test.true) at c.loop-cells.invariant.1) c.put_line.ensures,
)

pub returns : goal.returns
returns c =
    let l = c.args.log.now in
    let lines = lines-of l c.records-cells-items.result.now c.records-cells-items.ensures.cells in
    let none = drop_of_length-le c.records-cells-items.result.now c.loop-cells-test.false in
    remaining-none (length-lines_in (length l / record_length) l) (rw (← lines) (rw none at c.loop-cells.invariant.1))
