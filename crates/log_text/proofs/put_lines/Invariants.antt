use Prim.Native.Nat.{◌+◌, ◌*◌, ◌≤◌}
use lib.ListN.{drop}
use Rattle.std.specs.List.{flat_map}
use Rattle.text.proofs.WroteLaws.{Remaining}
use Rattle.log_text.specs.Widths.{max_line}
use Rattle.log_text.specs.Lines.{line_of}
use Rattle.log_text.proofs.put_lines.Given as goal

abbrev pub invariant-loop-cells : goal.invariant-loop-cells
invariant-loop-cells l = (l.text.end ≤ l.initial.text.end + l.cells-index * max_line)
    × Remaining l.initial.text (flat_map line_of l.cells-items) l.text (flat_map line_of (drop l.cells-index l.cells-items))
