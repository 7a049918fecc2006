-- The bytes of a control endpoint's block, and the block that any bytes are. Assumes nothing.
--
--   byte 0          the layout: 2. Any other, and both ids are read as 0, so that question 2 refuses the block
--        1, 2       endpoint id, slot id
--        3          whose rule: 5 release 5, any other release 4
--        4          phase: 0 to 4 in the order of ControlTransferState, any other 0
--        5          state: 0 a submission is due, 1 TRBs are collected, 2 the device is awaited, 3 a TRB was not recognized, any other: it was
--                   not expected
--        6          direction: 1 IN, any other OUT
--        7          stored as zero, not read
--        8 to 15    address of the TRB that was not recognized or expected
--        16 to 23   the request: address of its Setup TRB
--        24, 25     request type, request
--        26 to 29   value, index
--        30, 31     stored as zeros, not read
--        32 to 39   bytes collected
--        40 to 43   request length
--        44 to 47   TRBs held
--        48 ..      512 places of 24 bytes (held_bytes has their layout). A place that is held and has a type that this endpoint does not hold is
--                   an Event Data TRB; a place that is not held is blank whatever its bytes
use Rattle.std.specs.Prelude.{ℕ, zero, suc, ◌+◌, ◌*◌, ◌-◌, min, cond, ◌||◌, List, [], ◌∷◌, ◌++◌, eqb, get_or, drop, replicate}
use Rattle.buffers.specs.LittleEndian.{le_field}
use Rattle.trb.specs.Limits.{max_held}
use Rattle.trb.specs.declared.TransferTrb.{TransferTrb}
use Rattle.held.specs.Places.{blank_trb}
use Rattle.raw_trb.specs.Layouts.{normal_type, setup_stage_type, data_stage_type, status_stage_type, event_data_type}
use Rattle.held_bytes.specs.declared.TrbNumbers.{TrbNumbers}
use Rattle.held_bytes.specs.Numbers.{trb_numbers, trb_of}
use Rattle.held_bytes.specs.Places.{place_length, control_layout, numbers_at}
use Rattle.control_block.specs.declared.ControlBlock.{ControlBlock}
use Rattle.control_block.specs.Blocks as blocks
use Rattle.control_block.specs.Numbers.{release_of}
use Rattle.control_bytes.specs.Head.{state_of, transfer_at}

-- bytes before the places, bytes of a block
abbrev pub head_length : ℕ
head_length = 48

abbrev pub block_length : ℕ
block_length = head_length + place_length * max_held

-- ---- Places

-- a type that this endpoint holds stands for itself, any other for Event Data
abbrev pub held_type : ℕ → ℕ
held_type n = cond (eqb n normal_type || (eqb n setup_stage_type || (eqb n data_stage_type || eqb n status_stage_type))) n event_data_type

abbrev pub held_numbers : TrbNumbers → TrbNumbers
held_numbers n = trb_numbers (held_type n.kind) n.flags n.addr n.value n.transfer_length

-- the TRB that a place which is held, the first bytes of l, says
unfoldable pub place_of : List ℕ → TransferTrb
place_of l = trb_of (held_numbers (numbers_at l))

-- the n places from the start of l on
unfoldable pub places_of : ℕ → List ℕ → List TransferTrb
places_of zero l = []
places_of (suc n) l = place_of l ∷ places_of n (drop place_length l)

-- as many of these as are held and as there are
abbrev pub held_places : ℕ → ℕ
held_places held = min held max_held

-- the places of a block that holds so many; those behind are blank
unfoldable pub places_in : ℕ → List ℕ → List TransferTrb
places_in held l = places_of (held_places held) l ++ replicate (max_held - held_places held) blank_trb

-- ---- The block

-- an id, where the layout is this one
abbrev pub id_at : ℕ → List ℕ → ℕ
id_at at l = cond (eqb (get_or l 0 0) control_layout) (get_or l at 0) 0

abbrev pub held_at : List ℕ → ℕ
held_at l = le_field 44 4 l

unfoldable pub block_of : List ℕ → ControlBlock
block_of l =
    blocks.block_of (record { 0 = id_at 1 l }) (record { 0 = id_at 2 l }) (release_of (get_or l 3 0)) (transfer_at l) (state_of (get_or l 5 0) (le_field 8 8 l)) (held_at l)
    (places_in (held_at l) (drop head_length l))
