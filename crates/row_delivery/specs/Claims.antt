-- No torn frame in a row, as a test that computes: guest memory at the event of each TD and at the end of its log, beside the frames that the device sent so far. Run
-- on the logs of a row of two TDs over both regions, in either mode, and on logs of engines that would tear a frame. Assumes nothing.
use Rattle.std.specs.Prelude.{ℕ, ◌+◌, ◌≡◌, refl, Bool, true, false, ◌&&◌, cond, List, [], ◌∷◌, ◌++◌, map, length, replicate, Ok}
use Rattle.trb.specs.declared.CompletionCode.TheVariants.{Success, ShortPacket}
use Rattle.trb.specs.declared.EndpointId.{EndpointId}
use Rattle.trb.specs.declared.InTrbProcessingStatus.{InTrbProcessingStatus}
use Rattle.trb.specs.declared.InTrbProcessingStatus.TheVariants as status
use Rattle.trb.specs.declared.SlotId.{SlotId}
use Rattle.trb.specs.declared.TransferTrb.{TransferTrb}
use Rattle.trb.specs.declared.TransferTrbVariant.TheVariants.{Normal}
use Rattle.buffers.specs.Patch.{patch}
use Rattle.call_log.specs.First.{first_records}
use Rattle.call_log.specs.Logs.{encode_all}
use Rattle.call_log.specs.Records.{guest_write, transfer_event, in_request}
use Rattle.call_log.specs.declared.Record.{Record}
use Rattle.guest_memory.specs.Places.{in_region, place_of, Memory, memory_of}
use Rattle.carry_out.specs.CarryOut.{memory_after}
use Rattle.carry_out.specs.Writes.{moves_bytes, after_record}
use Rattle.walks.specs.Walk.{walk}
use Rattle.td_part.specs.Parts.{put_dma, realize_dma}
use Rattle.in_td.specs.Td.{handle_normal, process_trb}
use Rattle.in_td.specs.declared.InMode.{InMode}
use Rattle.in_td.specs.declared.InMode.TheVariants.{AsPorted, Strict}
use Rattle.account.specs.Guest.{range, count_before}
use Rattle.row_walk.specs.Accounts.{started_logs, joined}
use Rattle.row_walk.specs.Rows.{RowTd, own_log}
use Rattle.delivery_laws.specs.Laid.{laid_byte}
use Rattle.delivery_laws.specs.Claims.{same_bytes, same_memory}
use Rattle.row_delivery.specs.Frames.{frame_over}

-- ---- The test

-- of TDs behind k records of the row's log, with guest memory as the TDs ahead left it: each frame is there at its event, and at the end of its TD's log
unfoldable pub each_whole : List ℕ → Memory → List ℕ → ℕ → ℕ → Memory → List RowTd → List (List Record) → Bool
each_whole bytes m log k start left xs [] = true
each_whole bytes m log k start left [] (own ∷ logs) = false
each_whole bytes m log k start left (x ∷ xs) (own ∷ logs) =
    same_memory (memory_after (Ok tt) (first_records (k + count_before own) log) bytes m) (frame_over bytes start x left)
    && (same_memory (memory_after (Ok tt) (first_records (k + length own) log) bytes m) (frame_over bytes start x left)
    && each_whole bytes m log (k + length own) (start + x.given.length) (frame_over bytes start x left) xs logs)

-- ---- A row of two TDs

abbrev endpoint : EndpointId
endpoint = record { 0 = 3 }

abbrev slot : SlotId
slot = record { 0 = 2 }

-- a Normal with ISP: its address, pointer and length; the last of a TD has IOC, and its chain bit off
abbrev normal : ℕ → ℕ → ℕ → Bool → TransferTrb
normal a pointer length last = record {
  variant = Normal (record {
    data_pointer = pointer;
    transfer_length = length;
    interrupt_on_short = true;
    chain = cond last false true;
    interrupt_on_completion = last;
    immediate_data = false;
  });
  addr = a;
  cycle_bit = true;
}

-- 6 bytes from 0x8000 on, and 6 from 4 GiB on
abbrev memory : Memory
memory = memory_of 0x8000 (replicate 6 0) 0x100000000 (replicate 6 0)

abbrev first_td : List TransferTrb
first_td = normal 0x1000 0x8001 2 false ∷ normal 0x1010 0x100000000 2 true ∷ []

abbrev second_td : List TransferTrb
second_td = normal 0x1020 0x8003 3 false ∷ normal 0x1030 0x100000004 1 true ∷ []

abbrev given : InTrbProcessingStatus → ℕ → List TransferTrb → RowTd
given st n ts = record { trbs = ts; given = record { status = st; length = n } }

-- with j and then k bytes, the first TD under Success and the second under this status
abbrev row_of : InTrbProcessingStatus → ℕ → ℕ → List RowTd
row_of st j k = given status.Success j first_td ∷ given st k second_td ∷ []

-- ---- Claims: whether the logs of a row leave each frame of the device's bytes, 1, 2, 3 and so on, whole

pub record Claim : Type 0 where
  pub tds : List RowTd
  pub logs : List (List Record)
  pub holds : Bool

abbrev pub tested : Claim → Bool
tested c = each_whole (range 1 8) memory (encode_all (joined c.logs)) 0 0 memory c.tds c.logs

abbrev pub claimed : Claim → Bool
claimed c = c.holds

-- of the logs of the walk
abbrev walked : InMode → InTrbProcessingStatus → ℕ → ℕ → Claim
walked mode st j k = record { tds = row_of st j k; logs = started_logs endpoint slot mode 0 (row_of st j k); holds = true }

abbrev walks : InMode → List Claim
walks mode =
    walked mode status.Success 4 4
    ∷ walked mode status.Success 3 2
    ∷ walked mode status.Success 0 4
    ∷ walked mode status.Stall 4 2
    ∷ walked mode status.Stall 3 4
    ∷ []

-- other logs of a row of 4 bytes and then 2, of which 2 belong into each Normal of the first TD and 2 into the first of the second
abbrev other : List Record → List Record → Bool → Claim
other first second b = record { tds = row_of status.Success 4 2; logs = first ∷ second ∷ []; holds = b }

abbrev write : ℕ → ℕ → ℕ → Record
write a length start = guest_write a length start endpoint slot

abbrev full : Record
full = transfer_event 0x1010 0 Success false endpoint slot

abbrev short : Record
short = transfer_event 0x1020 1 ShortPacket false endpoint slot

abbrev request : ℕ → Record
request a = in_request a 4 endpoint slot

abbrev first : List Record
first = request 0x1000 ∷ write 0x8001 2 0 ∷ write 0x100000000 2 2 ∷ full ∷ []

abbrev second : List Record
second = request 0x1020 ∷ write 0x8003 2 4 ∷ short ∷ []

abbrev pub torn : List Claim
torn =
    -- the logs of the walk
    other first second true
    -- the second TD's event ahead of its write
    ∷ other first (request 0x1020 ∷ short ∷ write 0x8003 2 4 ∷ []) false
    -- a write of the wrong start
    ∷ other first (request 0x1020 ∷ write 0x8003 2 3 ∷ short ∷ []) false
    -- a byte too few
    ∷ other first (request 0x1020 ∷ write 0x8003 1 4 ∷ short ∷ []) false
    -- the data of the TD before
    ∷ other first (request 0x1020 ∷ write 0x8003 2 0 ∷ short ∷ []) false
    -- the second TD's write ahead of the first TD's event
    ∷ other (request 0x1000 ∷ write 0x8001 2 0 ∷ write 0x100000000 2 2 ∷ write 0x8003 2 4 ∷ full ∷ []) (request 0x1020 ∷ short ∷ []) false
    -- a write of the first TD behind its event
    ∷ other (request 0x1000 ∷ write 0x8001 2 0 ∷ full ∷ write 0x100000000 2 2 ∷ []) second false
    -- the first TD's frame written over by the second
    ∷ other first (request 0x1020 ∷ write 0x8003 2 4 ∷ write 0x8001 1 4 ∷ short ∷ []) false
    ∷ []

abbrev pub claims : List Claim
claims = walks AsPorted ++ (walks Strict ++ torn)

pub tested-claimed : map tested claims ≡ map claimed claims
unfolding each_whole same_bytes laid_byte place_of in_region patch moves_bytes after_record encode_all joined started_logs own_log walk process_trb handle_normal realize_dma put_dma
tested-claimed = refl
