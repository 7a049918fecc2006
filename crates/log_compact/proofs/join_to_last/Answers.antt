-- `log_compact::join_to_last` meets its contract: a row that the record joins is there, and the joined length fits. Assumes nothing.
use Prim.Native.Nat.{◌+◌, ◌-◌, ◌<◌}
use mathlib.Core.Path.{sym, ◌∙◌}
use native.Mathlib.Omega.{arith}
use Rattle.call_log.specs.Records.{record_at}
use Rattle.kept_records.specs.Compact.{length_end}
use Rattle.kept_records.proofs.TestLaws.{joins-below}
use Rattle.log_compact.proofs.KeptLaws.{joins_last-some, joins_last-rows_in}
use Rattle.log_compact.proofs.join_to_last.Goals.{Start}
use Rattle.log_compact.proofs.join_to_last.Goals as goal

some : (c : Start) → 0 < c.args.kept
some c = joins_last-some c.args.kept c.args.log.now c.args.«record» c.requires.1

below : (c : Start) → (record_at c.args.log.now (c.args.kept - 1)).length + c.args.«record».length < length_end
below c =
    joins-below (record_at c.args.log.now (c.args.kept - 1)) c.args.«record»
    (sym (joins_last-rows_in c.args.kept c.args.log.now c.args.«record» (some c)) ∙ c.requires.1)

pub overflow_sub-kept : goal.overflow_sub-kept
overflow_sub-kept c = some (goal.at.overflow_sub-kept c).Start

pub read_record-last-requires : goal.read_record-last-requires
read_record-last-requires c = let h = some (goal.at.read_record-last-requires c).Start in omega arith

pub overflow_sub-kept-2 : goal.overflow_sub-kept-2
overflow_sub-kept-2 c = some (goal.at.overflow_sub-kept-2 c).Start

pub overflow_add-last : goal.overflow_add-last
overflow_add-last c = record { fits = rw c.read_record-last.ensures (below (goal.at.overflow_add-last c).Start) }

pub set_length-requires : goal.set_length-requires
set_length-requires c = let h = some (goal.at.set_length-requires c).Start in omega arith

pub returns : goal.returns
returns c = record { some = some (goal.at.returns c).Start; after = rw (c.set_length.ensures, c.read_record-last.ensures) }
