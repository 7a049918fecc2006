-- The bytes of an IN endpoint's block, and the block that any bytes are. Assumes nothing.
--
--   byte 0          layout: 1. In any other layout both ids are read as 0, to which question 2 says no
--        1          endpoint id
--        2          slot id
--        3          mode: 0 as ported, any other number strict
--        4, 5       TRBs held
--        6          state: 0 a submission is due, 1 a TD is collected, 2 the device is awaited, 3 a local completion, any other number an
--                   unsupported TRB
--        7          not read
--        8 to 15    address of the unsupported TRB
--        16 + 24 i  place i, for i below 512: Places of held_bytes
use Rattle.std.specs.Prelude.{ℕ, ◌+◌, ◌*◌, cond, List, eqb, get_or, drop}
use Rattle.buffers.specs.LittleEndian.{le_field}
use Rattle.trb.specs.Limits.{max_held}
use Rattle.trb.specs.declared.EndpointId.{EndpointId}
use Rattle.trb.specs.declared.SlotId.{SlotId}
use Rattle.trb.specs.declared.TdBasedNormalSubmissionState.{TdBasedNormalSubmissionState}
use Rattle.trb.specs.declared.TdBasedNormalSubmissionState.TheVariants.{SubmissionDue, CollectingTd, AwaitingRealTransfer, AwaitingLocalCompletion, UnsupportedTrb}
use Rattle.trb.specs.declared.TransferTrb.{TransferTrb}
use Rattle.held.specs.declared.EndpointKind.TheVariants.{In}
use Rattle.in_td.specs.declared.InMode.{InMode}
use Rattle.in_td.specs.declared.InMode.TheVariants.{AsPorted, Strict}
use Rattle.in_block.specs.Blocks.{in_block}
use Rattle.in_block.specs.declared.InBlock.{InBlock}
use Rattle.held_bytes.specs.Places.{place_length, in_layout, places_of}

-- bytes before the places, and bytes of a block
abbrev pub head_length : ℕ
head_length = 16

abbrev pub block_length : ℕ
block_length = head_length + place_length * max_held

-- the id at index i
abbrev pub id_at : ℕ → List ℕ → ℕ
id_at i l = cond (eqb (get_or l 0 0) in_layout) (get_or l i 0) 0

abbrev pub endpoint_of : List ℕ → EndpointId
endpoint_of l = record { 0 = id_at 1 l }

abbrev pub slot_of : List ℕ → SlotId
slot_of l = record { 0 = id_at 2 l }

abbrev pub mode_of : ℕ → InMode
mode_of n = cond (eqb n 0) AsPorted Strict

abbrev pub state_of : ℕ → ℕ → TdBasedNormalSubmissionState
state_of n addr =
    cond (eqb n 0) SubmissionDue
    (cond (eqb n 1) CollectingTd
    (cond (eqb n 2) AwaitingRealTransfer
    (cond (eqb n 3) AwaitingLocalCompletion
    (UnsupportedTrb addr))))

abbrev pub held_count : List ℕ → ℕ
held_count l = le_field 4 2 l

abbrev pub places : List ℕ → List TransferTrb
places l = places_of In max_held (drop head_length l)

-- the block that the bytes are
unfoldable pub block_of : List ℕ → InBlock
block_of l = in_block (endpoint_of l) (slot_of l) (mode_of (get_or l 3 0)) (state_of (get_or l 6 0) (le_field 8 8 l)) (held_count l) (places l)
