-- The head of a control endpoint's block as bytes: the numbers of its phase and state, and what any bytes say. Assumes nothing.
use Rattle.std.specs.Prelude.{ℕ, ◌<◌, ◌^◌, Bool, cond, List, ◌∷◌, ◌++◌, eqb, get_or}
use Rattle.buffers.specs.LittleEndian.{le_bytes, le_field}
use Rattle.trb.specs.declared.ControlSubmissionState.{ControlSubmissionState}
use Rattle.trb.specs.declared.ControlSubmissionState.TheVariants.{NoTrbSubmitted, CollectingTd, ParserError, UnexpectedTrb, AwaitingControlRequest}
use Rattle.trb.specs.declared.ControlTransferState.{ControlTransferState}
use Rattle.trb.specs.declared.ControlTransferState.TheVariants.{ExpectSetupStageTrb, MaybeDataStageTrb, MoreData, ExpectStatusStageTrb, ExpectFinalEventDataTrb}
use Rattle.trb.specs.declared.UsbRequest.{UsbRequest}
use Rattle.control_block.specs.declared.ControlTransfer.{ControlTransfer}
use Rattle.control_block.specs.Numbers.{phase_of}

-- `phase_of` of control_block reads it
abbrev pub phase_number : ControlTransferState → ℕ
phase_number ExpectSetupStageTrb = 0
phase_number MaybeDataStageTrb = 1
phase_number MoreData = 2
phase_number ExpectStatusStageTrb = 3
phase_number ExpectFinalEventDataTrb = 4

-- 0 a submission is due, 1 TRBs are collected, 2 the device is awaited, 3 a TRB at this address was not recognized, any other number: it
-- was not expected
abbrev pub state_of : ℕ → ℕ → ControlSubmissionState
state_of n addr =
    cond (eqb n 0) NoTrbSubmitted
    (cond (eqb n 1) CollectingTd
    (cond (eqb n 2) AwaitingControlRequest
    (cond (eqb n 3) (ParserError addr) (UnexpectedTrb addr))))

abbrev pub state_number : ControlSubmissionState → ℕ
state_number NoTrbSubmitted = 0
state_number CollectingTd = 1
state_number AwaitingControlRequest = 2
state_number (ParserError addr) = 3
state_number (UnexpectedTrb addr) = 4

-- the address that a state keeps
abbrev pub state_address : ControlSubmissionState → ℕ
state_address NoTrbSubmitted = 0
state_address CollectingTd = 0
state_address AwaitingControlRequest = 0
state_address (ParserError addr) = addr
state_address (UnexpectedTrb addr) = addr

-- 1 is IN, any other number OUT
abbrev pub direction_of : ℕ → Bool
direction_of n = eqb n 1

abbrev pub direction_number : Bool → ℕ
direction_number b = cond b 1 0

-- ---- What the bytes of a block say of its transfer

abbrev pub request_at : List ℕ → UsbRequest
request_at l = record {
  address = le_field 16 8 l;
  request_type = get_or l 24 0;
  request = get_or l 25 0;
  value = le_field 26 2 l;
  index = le_field 28 2 l;
  length = le_field 40 4 l;
}

abbrev pub transfer_at : List ℕ → ControlTransfer
transfer_at l = record { phase = phase_of (get_or l 4 0); direction = direction_of (get_or l 6 0); request = request_at l; collected = le_field 32 8 l }

-- ---- The bytes of the head that change: those from 4 on

-- by their numbers
abbrev pub head_cells : (phase state direction state_address address request_type request value index collected length held : ℕ) → List ℕ
head_cells phase state direction state_address address request_type request value index collected length held =
    phase ∷ state ∷ direction ∷ 0
    ∷ (le_bytes 8 state_address
    ++ (le_bytes 8 address
    ++ (request_type ∷ request
    ∷ (le_bytes 2 value ++ (le_bytes 2 index ++ (0 ∷ 0 ∷ (le_bytes 8 collected ++ (le_bytes 4 length ++ le_bytes 4 held))))))))

-- of a block at this transfer, in this state, that holds so many
abbrev pub head_bytes : ControlTransfer → ControlSubmissionState → ℕ → List ℕ
head_bytes w state held =
    head_cells (phase_number w.phase) (state_number state) (direction_number w.direction) (state_address state) w.request.address w.request.request_type
    w.request.request w.request.value w.request.index w.collected w.request.length held

-- those from 4 to 15: where the transfer is
abbrev pub turn_cells : (phase state direction state_address : ℕ) → List ℕ
turn_cells phase state direction state_address = phase ∷ state ∷ direction ∷ 0 ∷ le_bytes 8 state_address

-- those from 32 to 47: how much was collected, is asked for and is held
abbrev pub count_cells : (collected length held : ℕ) → List ℕ
count_cells collected length held = le_bytes 8 collected ++ (le_bytes 4 length ++ le_bytes 4 held)

-- each number fits its bytes
pub record Fit (w : ControlTransfer) (state : ControlSubmissionState) (held : ℕ) : Type 0 where
  pub state-address : state_address state < 256 ^ 8
  pub address : w.request.address < 256 ^ 8
  pub value : w.request.value < 256 ^ 2
  pub index : w.request.index < 256 ^ 2
  pub collected : w.collected < 256 ^ 8
  pub request-length : w.request.length < 256 ^ 4
  pub held-few : held < 256 ^ 4
