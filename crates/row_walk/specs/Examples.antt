-- Rows of document 01's TD T, computed on the definitions. Assumes nothing.
use Rattle.std.specs.Prelude.{ℕ, ◌≡◌, refl, true, false, List, [], ◌∷◌, ◌++◌, map}
use Rattle.trb.specs.declared.EndpointId.{EndpointId}
use Rattle.trb.specs.declared.InTrbProcessingStatus.{InTrbProcessingStatus}
use Rattle.trb.specs.declared.InTrbProcessingStatus.TheVariants as status
use Rattle.trb.specs.declared.SlotId.{SlotId}
use Rattle.trb.specs.declared.TransferTrb.{TransferTrb}
use Rattle.trb.specs.declared.TransferTrbVariant.TheVariants.{NoOp}
use Rattle.trb.specs.declared.TrbProcessingResult.TheVariants as result
use Rattle.call_log.specs.Calls.{Out}
use Rattle.call_log.specs.declared.Record.{Record}
use Rattle.td_part.specs.Parts.{put_dma, realize_dma}
use Rattle.walks.specs.Walk.{walk}
use Rattle.in_td.specs.Td.{handle_normal, process_trb}
use Rattle.in_td.specs.declared.InMode.{InMode}
use Rattle.in_td.specs.declared.InMode.TheVariants.{AsPorted, Strict}
use Rattle.account.specs.Claims.{tdT}
use Rattle.row_walk.specs.declared.RowProgress.{RowProgress}
use Rattle.row_walk.specs.declared.TdResult.{TdResult}
use Rattle.row_walk.specs.Rows.{with_results, own_log, td_in_row, process_row}
use Rattle.row_walk.specs.Tds.{tds_of}

abbrev endpoint : EndpointId
endpoint = record { 0 = 3 }

abbrev slot : SlotId
slot = record { 0 = 2 }

abbrev bytes : InTrbProcessingStatus → ℕ → TdResult
bytes st n = record { status = st; length = n }

-- an unchained No Op with interrupt on completion: a TD without a Normal
abbrev no_op : TransferTrb
no_op = record { variant = NoOp (record { chain = false; interrupt_on_completion = true }); addr = 0x2000; cycle_bit = true }

abbrev row_in : InMode → List TransferTrb → List TdResult → Out RowProgress
row_in mode ts rs = process_row endpoint slot mode ts rs

abbrev row_of : List TransferTrb → List TdResult → Out RowProgress
row_of ts rs = row_in AsPorted ts rs

-- kind, code, address, length, start
abbrev line : Record → List ℕ
line r = r.kind ∷ r.code ∷ r.address ∷ r.length ∷ r.start ∷ []

-- two TDs T, of which the first is short: the second one's data starts behind the 600 bytes, and 464 bytes beyond its S are dropped
pub two-tds : map line (row_of (tdT ++ tdT) (bytes status.Success 600 ∷ bytes status.Success 2000 ∷ [])).records
    ≡ (3 ∷ 0 ∷ 0x1000 ∷ 1536 ∷ 0 ∷ [])
    ∷ (1 ∷ 0 ∷ 0x8000 ∷ 512 ∷ 0 ∷ []) ∷ (1 ∷ 0 ∷ 0x8200 ∷ 88 ∷ 512 ∷ []) ∷ (2 ∷ 13 ∷ 0x1010 ∷ 424 ∷ 0 ∷ []) ∷ (2 ∷ 13 ∷ 0x1020 ∷ 424 ∷ 0 ∷ [])
    ∷ (3 ∷ 0 ∷ 0x1000 ∷ 1536 ∷ 0 ∷ [])
    ∷ (1 ∷ 0 ∷ 0x8000 ∷ 512 ∷ 600 ∷ []) ∷ (1 ∷ 0 ∷ 0x8200 ∷ 512 ∷ 1112 ∷ []) ∷ (1 ∷ 0 ∷ 0x8400 ∷ 512 ∷ 1624 ∷ []) ∷ (2 ∷ 1 ∷ 0x1020 ∷ 0 ∷ 0 ∷ []) ∷ []
unfolding tds_of with_results own_log td_in_row walk process_trb handle_normal realize_dma put_dma
two-tds = refl

-- starts move by the bytes given, 2,000, of which the first TD uses 1,536; a TD without a Normal between them logs no request, and a write of
-- 0 bytes has its start moved too
pub given-not-used : map line (row_of (tdT ++ no_op ∷ tdT) (bytes status.Success 2000 ∷ bytes status.Success 0 ∷ bytes status.Success 0 ∷ [])).records
    ≡ (3 ∷ 0 ∷ 0x1000 ∷ 1536 ∷ 0 ∷ [])
    ∷ (1 ∷ 0 ∷ 0x8000 ∷ 512 ∷ 0 ∷ []) ∷ (1 ∷ 0 ∷ 0x8200 ∷ 512 ∷ 512 ∷ []) ∷ (1 ∷ 0 ∷ 0x8400 ∷ 512 ∷ 1024 ∷ []) ∷ (2 ∷ 1 ∷ 0x1020 ∷ 0 ∷ 0 ∷ [])
    ∷ (2 ∷ 1 ∷ 0x2000 ∷ 0 ∷ 0 ∷ [])
    ∷ (3 ∷ 0 ∷ 0x1000 ∷ 1536 ∷ 0 ∷ [])
    ∷ (1 ∷ 0 ∷ 0x8000 ∷ 0 ∷ 2000 ∷ []) ∷ (2 ∷ 13 ∷ 0x1000 ∷ 512 ∷ 0 ∷ []) ∷ (2 ∷ 13 ∷ 0x1020 ∷ 512 ∷ 0 ∷ []) ∷ []
unfolding tds_of with_results own_log td_in_row walk process_trb handle_normal realize_dma put_dma
given-not-used = refl

-- the second TD stalls: the third is not started, and one was finished well
pub stalled : (row_of (tdT ++ (tdT ++ tdT)) (bytes status.Success 600 ∷ bytes status.Stall 600 ∷ bytes status.Success 2000 ∷ [])).state
    ≡ record { finished = 1; result = result.StallAt 0x1010 true; start = 1200; records = 9 }
unfolding tds_of with_results own_log td_in_row walk process_trb handle_normal realize_dma put_dma
stalled = refl

-- a stall behind every byte fails in strict mode, and there alone
pub strict : map (λ (mode : InMode). (row_in mode (tdT ++ tdT) (bytes status.Stall 1536 ∷ bytes status.Success 1536 ∷ [])).state) (AsPorted ∷ Strict ∷ [])
    ≡ record { finished = 2; result = result.Ok; start = 3072; records = 10 }
    ∷ record { finished = 0; result = result.StallAt 0x1020 true; start = 1536; records = 5 } ∷ []
unfolding tds_of with_results own_log td_in_row walk process_trb handle_normal realize_dma put_dma
strict = refl

-- an empty row is accepted: no record, nothing finished, Ok
pub empty : row_of [] [] ≡ record { state = record { finished = 0; result = result.Ok; start = 0; records = 0 }; records = [] }
unfolding tds_of with_results walk
empty = refl
