-- `shape_lines::Chosen::with_letter` meets its contract: the letter stands behind those before it. Assumes nothing.
use mathlib.Core.Path.{ap, ◌∙◌}
use native.Mathlib.Numerals.{add-one}
use native.Mathlib.Omega.{arith}
use Prim.Native.Nat.{ℕ}
use lib.ListN.{take, set}
use lib.Seq.{take-suc-set}
use Rattle.shape_lines.proofs.Chosen.with_letter.Goals as goal

pub returns-clause-letters : goal.returns-clause-letters
returns-clause-letters c =
    let w = c.args.self in
    ap (λ (k : ℕ). take k (set w.letters w.size c.args.letter)) (add-one w.size) ∙ take-suc-set w.letters w.size c.args.letter (omega arith)
