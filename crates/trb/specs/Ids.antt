-- Ids in range. Assumes nothing.
use Rattle.std.specs.Prelude.{Bool, ◌&&◌, leb}
use Rattle.trb.specs.declared.EndpointId.{EndpointId}
use Rattle.trb.specs.declared.SlotId.{SlotId}
use Rattle.trb.specs.Limits.{max_endpoint_id}

-- 01, Creation: is the endpoint id 1 to 31 and the slot id 1 to 255? (A slot id is a byte.)
unfoldable pub ids_in_range : EndpointId → SlotId → Bool
ids_in_range e s = leb 1 e.0 && (leb e.0 max_endpoint_id && leb 1 s.0)
