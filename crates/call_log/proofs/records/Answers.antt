-- `call_log::records` meets its contract: each record is read of its own bytes. Assumes nothing.
use Prim.Native.Nat.{◌/◌}
use lib.ListN.{length}
use Rattle.trb.specs.Limits.{record_length}
use Rattle.call_log.proofs.RecordLaws.{records_in-chunks}
use Rattle.call_log.proofs.records.Goals as goal

pub returns-clause-each : goal.returns-clause-each
returns-clause-each c = rw c.as_chunks.ensures.front (records_in-chunks (length c.args.log.now / record_length) c.args.log.now)
