-- The ids of a log's records. Assumes nothing.
use Rattle.std.specs.Prelude.{◌≡◌, List, [], ◌∷◌}
use Rattle.trb.specs.declared.EndpointId.{EndpointId}
use Rattle.trb.specs.declared.SlotId.{SlotId}
use Rattle.call_log.specs.declared.Record.{Record}

-- xHCI 1.2, 6.4.2.1: every record has these ids, its endpoint's own
abbrev pub AllOf : EndpointId → SlotId → List Record → Type 0
AllOf e s [] = Unit {0}
AllOf e s (r ∷ rs) = (r.endpoint_id ≡ e) × (r.slot_id ≡ s) × AllOf e s rs
