-- The setup packet of USB 2.0, 9.3, in a Setup Stage TRB and in a request. Assumes nothing.
use Rattle.std.specs.Prelude.{ℕ, ◌<◌, ◌^◌, ◌≡◌, Bool, true, false, ◌||◌, List, [], ◌∷◌}
use Rattle.trb.specs.declared.SetupStageTrb.{SetupStageTrb}
use Rattle.trb.specs.declared.TransferTrb.{TransferTrb}
use Rattle.trb.specs.declared.TransferTrbVariant.{TransferTrbVariant}
use Rattle.trb.specs.declared.TransferTrbVariant.TheVariants.{SetupStage, DataStage, StatusStage, Normal, EventData, NoOp, Isoch, Unrecognized}
use Rattle.phase_table.specs.Table.{trb_outcome}
use Rattle.control_block.specs.declared.ControlTransfer.{ControlTransfer}
use Rattle.control_transfer.specs.Transfers.{transfer_after}
use Rattle.standard.specs.Usb.{Setup, to_host}

-- xHCI 1.2, 6.4.1.2.1: a Setup Stage TRB holds the eight bytes of a setup packet
abbrev pub setup_trb : Setup → (ioc : Bool) → SetupStageTrb
setup_trb p ioc = record {
  request_type = p.bm_request_type;
  request = p.b_request;
  value = p.w_value;
  index = p.w_index;
  length = p.w_length;
  interrupt_on_completion = ioc;
}

-- USB 2.0, table 9-2: fields of one byte and of two
pub record Sized (p : Setup) : Type 0 where
  pub bm_request_type : p.bm_request_type < 2 ^ 8
  pub w_value : p.w_value < 2 ^ 16
  pub w_index : p.w_index < 2 ^ 16

-- the transfer's request is the packet's, from the Setup Stage TRB at address a
pub record Requests (p : Setup) (a : ℕ) (w : ControlTransfer) : Type 0 where
  pub direction : w.direction ≡ to_host p
  pub address : w.request.address ≡ a
  pub bm_request_type : w.request.request_type ≡ p.bm_request_type
  pub b_request : w.request.request ≡ p.b_request
  pub w_value : w.request.value ≡ p.w_value
  pub w_index : w.request.index ≡ p.w_index

abbrev pub is_setup : TransferTrbVariant → Bool
is_setup (SetupStage t) = true
is_setup (DataStage t) = false
is_setup (StatusStage t) = false
is_setup (Normal t) = false
is_setup (EventData t) = false
is_setup (NoOp t) = false
is_setup Isoch = false
is_setup Unrecognized = false

abbrev pub any_setup : List TransferTrb → Bool
any_setup [] = false
any_setup (t ∷ ts) = is_setup t.variant || any_setup ts

-- what the TRBs make of a transfer, one after the other, as the phase table says
abbrev pub transfer_behind : List TransferTrb → ControlTransfer → ControlTransfer
transfer_behind [] w = w
transfer_behind (t ∷ ts) w = transfer_behind ts (transfer_after (trb_outcome w.phase t.variant) t.variant t.addr w)
