-- The place of a TRB in a block that lies in a row of bytes, and what any bytes there say. Assumes nothing.
--
--   bytes 0 to 7    address of the TRB
--         8 to 15   data pointer, event data or setup bytes
--        16 to 19   transfer length, of which 17 bits count
--        20         xHCI's type; one that the endpoint does not hold is read as a NoOp
--        21         flags, by weight: 1 cycle bit, 2 chain, 4 interrupt on completion, 8 interrupt on short, 16 immediate data, 32 direction
--        22, 23     stored as zeros, not read
use Rattle.std.specs.Prelude.{ℕ, zero, suc, ◌+◌, ◌%◌, cond, ◌||◌, List, [], ◌∷◌, ◌++◌, eqb, get_or, drop}
use Rattle.buffers.specs.LittleEndian.{le_bytes, le_field}
use Rattle.trb.specs.Limits.{max_transfer_length}
use Rattle.trb.specs.declared.TransferTrb.{TransferTrb}
use Rattle.held.specs.declared.EndpointKind.{EndpointKind}
use Rattle.held.specs.declared.EndpointKind.TheVariants.{In, Control}
use Rattle.raw_trb.specs.Layouts.{normal_type, setup_stage_type, data_stage_type, status_stage_type, event_data_type, no_op_type}
use Rattle.held_bytes.specs.declared.TrbNumbers.{TrbNumbers}
use Rattle.held_bytes.specs.Numbers.{trb_numbers, trb_of}

-- bytes of a place
abbrev pub place_length : ℕ
place_length = 24

-- the layout that a block's first byte names
abbrev pub in_layout : ℕ
in_layout = 1

abbrev pub control_layout : ℕ
control_layout = 2

-- the numbers in a place, the first bytes of l. No place has a length above 131,071
abbrev pub numbers_at : List ℕ → TrbNumbers
numbers_at l = trb_numbers (get_or l 20 0) (get_or l 21 0) (le_field 0 8 l) (le_field 8 8 l) (le_field 16 4 l % (max_transfer_length + 1))

-- a type that the endpoint holds stands for itself, any other for a NoOp
abbrev pub held_type : EndpointKind → ℕ → ℕ
held_type In n = cond (eqb n normal_type) normal_type (cond (eqb n event_data_type) event_data_type no_op_type)
held_type Control n =
    cond (eqb n normal_type || (eqb n setup_stage_type || (eqb n data_stage_type || (eqb n status_stage_type || eqb n event_data_type)))) n no_op_type

abbrev pub held_as : EndpointKind → TrbNumbers → TrbNumbers
held_as k n = trb_numbers (held_type k n.kind) n.flags n.addr n.value n.transfer_length

-- the TRB that a place, the first bytes of l, says
unfoldable pub place_of : EndpointKind → List ℕ → TransferTrb
place_of k l = trb_of (held_as k (numbers_at l))

-- the n places from the start of l on
unfoldable pub places_of : EndpointKind → ℕ → List ℕ → List TransferTrb
places_of k zero l = []
places_of k (suc n) l = place_of k l ∷ places_of k n (drop place_length l)

-- the bytes of a place
abbrev pub place_bytes : TrbNumbers → List ℕ
place_bytes n =
    le_bytes 8 n.addr ++ (le_bytes 8 n.value ++ (le_bytes 4 n.transfer_length ++ (n.kind ∷ n.flags ∷ 0 ∷ 0 ∷ [])))
