-- 01, Control endpoint: what a TRB makes of the transfer. Assumes nothing.
use Rattle.std.specs.Prelude.{ℕ, ◌+◌, ◌%◌, ◌^◌, Bool, cond, not, ◌&&◌, List, [], nat_le}
use Rattle.trb.specs.Limits.{max_collected}
use Rattle.trb.specs.Questions.{asked_if}
use Rattle.trb.specs.declared.ControlTransferState.{ControlTransferState}
use Rattle.trb.specs.declared.EndpointId.{EndpointId}
use Rattle.trb.specs.declared.SetupStageTrb.{SetupStageTrb}
use Rattle.trb.specs.declared.SlotId.{SlotId}
use Rattle.trb.specs.declared.TransferTrbVariant.{TransferTrbVariant}
use Rattle.trb.specs.declared.TransferTrbVariant.TheVariants.{SetupStage, DataStage, StatusStage, Normal, EventData, NoOp, Isoch, Unrecognized}
use Rattle.trb.specs.declared.UsbRequest.{UsbRequest}
use Rattle.call_log.specs.declared.Record.{Record}
use Rattle.call_log.specs.Records.{control_request, when}
use Rattle.guest_memory.specs.Places.{Memory}
use Rattle.phase_table.specs.declared.Outcome.{Outcome}
use Rattle.phase_table.specs.Outcomes.{holds, requests, phase_after}
use Rattle.control_block.specs.declared.ControlTransfer.{ControlTransfer}
use Rattle.control_block.specs.Blocks.{at_phase}
use Rattle.control_transfer.specs.declared.TrbData.{TrbData}
use Rattle.control_transfer.specs.Data.{data_of, size_of, bytes_of}

-- wLength is ignored
abbrev pub request_of : SetupStageTrb → ℕ → UsbRequest
request_of t a = record {
  address = a;
  request_type = t.request_type;
  request = t.request;
  value = t.value;
  index = t.index;
  length = 0;
}

-- bit 7 of the request type, a byte, gives IN. Length and collected bytes stay until the next Setup
abbrev pub begun : ControlTransferState → SetupStageTrb → ℕ → ControlTransfer
begun phase t a = record { phase = phase; direction = nat_le 128 t.request_type; request = request_of t a; collected = 0 }

-- the request length is summed modulo 2^32
abbrev pub lengthened : UsbRequest → ℕ → UsbRequest
lengthened q n = record {
  address = q.address;
  request_type = q.request_type;
  request = q.request;
  value = q.value;
  index = q.index;
  length = (q.length + n) % 2 ^ 32;
}

-- on IN the request length grows; on OUT it stays 0 and bytes are collected
abbrev pub grown : ControlTransfer → ℕ → ControlTransfer
grown w n =
    cond w.direction
    (record { phase = w.phase; direction = w.direction; request = lengthened w.request n; collected = w.collected })
    (record { phase = w.phase; direction = w.direction; request = w.request; collected = w.collected + n })

-- what a TRB that is held makes of the transfer, by its kind
abbrev pub taken_by : TransferTrbVariant → ℕ → ControlTransfer → ControlTransfer
taken_by (SetupStage t) a w = begun w.phase t a
taken_by (DataStage t) a w = grown w (size_of (data_of (DataStage t)))
taken_by (StatusStage t) a w = w
taken_by (Normal t) a w = grown w (size_of (data_of (Normal t)))
taken_by (EventData t) a w = w
taken_by (NoOp t) a w = w
taken_by Isoch a w = w
taken_by Unrecognized a w = w

-- length and collected bytes stay where the TRB is not held
abbrev pub held_into : Outcome → TransferTrbVariant → ℕ → ControlTransfer → ControlTransfer
held_into o v a w = cond (holds o) (taken_by v a w) w

unfoldable pub transfer_after : Outcome → TransferTrbVariant → ℕ → ControlTransfer → ControlTransfer
transfer_after o v a w = at_phase (phase_after w.phase o) (held_into o v a w)

-- where the table says so, the request is logged
abbrev pub requests_of : Outcome → UsbRequest → EndpointId → SlotId → List Record
requests_of o q e s = when (requests o) (control_request q e s)

-- ---- The bytes collected

-- bytes are collected of a TRB that is held, on OUT
unfoldable pub collects : Outcome → Bool → Bool
collects o input = holds o && not input

-- on control OUT, would the collected count be at most 65,535?
abbrev pub collectable : Outcome → Bool → ℕ → TrbData → Bool
collectable o input collected d = asked_if (collects o input) (nat_le (collected + size_of d) max_collected)

-- of guest memory m
abbrev pub bytes_taken : Outcome → Bool → TransferTrbVariant → Memory → List ℕ
bytes_taken o input v m = cond (collects o input) (bytes_of m (data_of v)) []
