-- 01, IN endpoint: as ported a transfer ends in error only where n < S. Assumes nothing.
use Prim.Native.Nat.{ℕ, ◌≤◌}
use mathlib.Core.Path.{refl}
use mathlib.Core.List.{List}
use native.Mathlib.Omega.{arith}
use Rattle.trb.specs.declared.EndpointId.{EndpointId}
use Rattle.trb.specs.declared.InTrbProcessingStatus.{InTrbProcessingStatus}
use Rattle.trb.specs.declared.SlotId.{SlotId}
use Rattle.trb.specs.declared.TransferTrb.{TransferTrb}
use Rattle.in_td.specs.declared.InMode.TheVariants.{AsPorted}
use Rattle.in_td.specs.Td.{normals, process_td, in_td}
use Rattle.in_td.specs.Normals.{requested}
use Rattle.long_tds.specs.AllCame.{Succeeds}
use Rattle.long_tds.proofs.CameLaws.{from}

-- as ported, where all bytes came: n ≥ S
pub all-came : (e : EndpointId) (s : SlotId) (st : InTrbProcessingStatus) (n : ℕ) (ts : List TransferTrb) → requested ts ≤ n → Succeeds (process_td (in_td e s AsPorted st n) ts)
all-came e s st n ts h = from (in_td e s AsPorted st n) refl 0 0 0 (normals ts) ts (omega arith)
