use Prim.Native.Nat.{◌/◌}
use Rattle.trb.specs.Limits.{record_length}
use lib.ListN.{length}
use Rattle.kept_records.specs.Rows.{rows_in}
use Rattle.log_compact.proofs.TakenLaws.{Left}
use Rattle.log_compact.proofs.keep_rows.Given as goal

abbrev pub invariant-loop-index : goal.invariant-loop-index
invariant-loop-index l = Left (rows_in (length l.initial.log / record_length) l.initial.log) (length l.initial.log / record_length) (length l.initial.log) l.log l.kept l.index
