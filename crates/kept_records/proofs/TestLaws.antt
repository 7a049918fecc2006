-- Laws of the tests by which records are joined. Assumes nothing.
use Prim.Native.Nat.{◌+◌, ◌<◌}
use mathlib.Core.Bool.{true, ◌&&◌}
use mathlib.Core.Path.{◌≡◌}
use lib.Dec.{ltb}
use borrow.Author.Tests.{ltb-true}
use Rattle.trb.proofs.TestLaws.{and_right}
use Rattle.call_log.specs.declared.Record.{Record}
use Rattle.kept_records.specs.Compact.{length_end, same_endpoint_writes, goes_on, joins}

pub joins-below : (p q : Record) → joins p q ≡ true → p.length + q.length < length_end
unfolding joins
joins-below p q e =
    ltb-true (p.length + q.length) length_end
    (and_right (goes_on p q) (ltb (p.length + q.length) length_end) (and_right (same_endpoint_writes p q) (goes_on p q && ltb (p.length + q.length) length_end) e))
