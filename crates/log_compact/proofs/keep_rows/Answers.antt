-- `log_compact::keep_rows` meets its contract. The loop's invariant: taking the rows from number `index` on, as they stand in the log now, to the first
-- `kept` rows of it keeps what compacting all of the log as it was keeps; the rows kept stand before the rows left. The measure is the number of rows left.
-- Assumes nothing.
use Prim.Native.Nat.{◌-◌, ◌/◌}
use mathlib.Core.Path.{◌≡◌, refl}
use native.Mathlib.Nat.{sub-zero}
use lib.ListN.{length}
use borrow.Author.Rules.{rules}
use Rattle.trb.specs.Limits.{record_length}
use Rattle.log_compact.proofs.KeptLaws.{kept_all-compacted}
use Rattle.log_compact.proofs.TakenLaws.{left-next}
use Rattle.log_compact.proofs.keep_rows.Goals as goal

pub loop-index-init : goal.loop-index-init
loop-index-init c = record { low = search rules; high = search rules; size = refl; same = rw sub-zero (kept_all-compacted _) }

pub take_row-kept-requires : goal.take_row-kept-requires
take_row-kept-requires c = (c.loop-index.invariant.low, search rules)

pub loop-index-preserved : goal.loop-index-preserved
loop-index-preserved c = left-next c.loop-index-test.true c.loop-index.invariant c.take_row-kept.ensures

pub shape_of-log : goal.shape_of-log
shape_of-log c = c.loop-index.invariant.size

pub returns : goal.returns
returns c =
    let none : length c.args.log.now / record_length - c.loop-index.index ≡ 0 = search rules in
    record { rows = rw none at c.loop-index.invariant.same; fits = search rules; size = c.loop-index.invariant.size }
