-- No torn frame, as a test that computes: guest memory at the event, and at the end of the log, beside the frame that the device sent. Run on the logs of a TD
-- over both regions, in either mode, under every status, and on logs of engines that would tear its frame. Assumes nothing.
use Rattle.std.specs.Prelude.{ℕ, ◌≡◌, refl, Bool, true, false, ◌&&◌, List, [], ◌∷◌, ◌++◌, map, eqb, length, replicate, Ok}
use Rattle.trb.specs.declared.CompletionCode.TheVariants.{ShortPacket}
use Rattle.trb.specs.declared.EndpointId.{EndpointId}
use Rattle.trb.specs.declared.InTrbProcessingStatus.{InTrbProcessingStatus}
use Rattle.trb.specs.declared.InTrbProcessingStatus.TheVariants.{Success, Stall, TransactionError, Disconnect}
use Rattle.trb.specs.declared.SlotId.{SlotId}
use Rattle.trb.specs.declared.TransferTrb.{TransferTrb}
use Rattle.trb.specs.declared.TransferTrbVariant.TheVariants.{Normal}
use Rattle.buffers.specs.Patch.{patch}
use Rattle.call_log.specs.Logs.{encode_all}
use Rattle.call_log.specs.Records.{guest_write, transfer_event}
use Rattle.call_log.specs.declared.Record.{Record}
use Rattle.guest_memory.specs.Places.{in_region, place_of, Memory, memory_of}
use Rattle.carry_out.specs.CarryOut.{memory_after}
use Rattle.carry_out.specs.Writes.{moves_bytes, after_record}
use Rattle.walks.specs.Walk.{walk}
use Rattle.td_part.specs.Parts.{put_dma, realize_dma}
use Rattle.in_td.specs.Td.{handle_normal, process_trb, process_td, in_td}
use Rattle.in_td.specs.declared.InMode.{InMode}
use Rattle.in_td.specs.declared.InMode.TheVariants.{AsPorted, Strict}
use Rattle.account.specs.Guest.{range, numbered}
use Rattle.delivery_laws.specs.Laid.{laid_byte, laid}
use Rattle.delivery_laws.specs.Delivered.{first_places, up_to_event}

-- ---- The test

unfoldable pub same_bytes : List ℕ → List ℕ → Bool
same_bytes [] [] = true
same_bytes [] (y ∷ ys) = false
same_bytes (x ∷ xs) [] = false
same_bytes (x ∷ xs) (y ∷ ys) = eqb x y && same_bytes xs ys

abbrev pub same_memory : Memory → Memory → Bool
same_memory m m' = same_bytes m.low m'.low && same_bytes m.high m'.high

-- the device's first min(n, S) bytes laid at their places
abbrev pub frame_of : List ℕ → Memory → List TransferTrb → Memory
frame_of bytes m ts = laid bytes m (numbered 0 (first_places (length bytes) ts))

-- guest memory is the frame at the event, and at the end of the log
unfoldable pub is_whole : List ℕ → Memory → List TransferTrb → List ℕ → Bool
is_whole bytes m ts log =
    same_memory (memory_after (Ok tt) (up_to_event log) bytes m) (frame_of bytes m ts) && same_memory (memory_after (Ok tt) log bytes m) (frame_of bytes m ts)

-- ---- A TD over both regions

abbrev endpoint : EndpointId
endpoint = record { 0 = 3 }

abbrev slot : SlotId
slot = record { 0 = 2 }

-- a Normal with ISP: its address, pointer, length and IOC
abbrev normal : ℕ → ℕ → ℕ → Bool → TransferTrb
normal a pointer length ioc = record {
  variant = Normal (record {
    data_pointer = pointer;
    transfer_length = length;
    interrupt_on_short = true;
    chain = true;
    interrupt_on_completion = ioc;
    immediate_data = false;
  });
  addr = a;
  cycle_bit = true;
}

-- 8 bytes from 0x8000 on, and 8 from 4 GiB on
abbrev memory : Memory
memory = memory_of 0x8000 (replicate 8 0) 0x100000000 (replicate 8 0)

abbrev td : List TransferTrb
td = normal 0x1000 0x8002 4 false ∷ normal 0x1010 0x100000000 4 false ∷ normal 0x1020 0x100000005 2 true ∷ []

-- the device's n bytes: 1, 2, 3 and so on
abbrev sent : ℕ → List ℕ
sent n = range 1 n

-- ---- Claims: whether a log leaves the frame of the device's n bytes whole

pub record Claim : Type 0 where
  pub n : ℕ
  pub log : List Record
  pub holds : Bool

abbrev pub tested : Claim → Bool
tested c = is_whole (sent c.n) memory td (encode_all c.log)

abbrev pub claimed : Claim → Bool
claimed c = c.holds

-- of the log of the walk
abbrev walked : InMode → InTrbProcessingStatus → ℕ → Claim
walked mode st n = record { n = n; log = (process_td (in_td endpoint slot mode st n) td).records; holds = true }

abbrev under_status : InMode → InTrbProcessingStatus → List Claim
under_status mode st = map (walked mode st) (0 ∷ 3 ∷ 4 ∷ 6 ∷ 9 ∷ 10 ∷ 12 ∷ [])

abbrev in_mode : InMode → List Claim
in_mode mode = under_status mode Success ++ (under_status mode Stall ++ (under_status mode TransactionError ++ under_status mode Disconnect))

-- another log of 6 bytes, of which 4 belong into the first Normal and 2 into the second
abbrev other : List Record → Bool → Claim
other rs b = record { n = 6; log = rs; holds = b }

abbrev write : ℕ → ℕ → ℕ → Record
write a length start = guest_write a length start endpoint slot

abbrev short : Record
short = transfer_event 0x1010 2 ShortPacket false endpoint slot

abbrev pub torn : List Claim
torn =
    -- the log of the walk
    other (write 0x8002 4 0 ∷ write 0x100000000 2 4 ∷ short ∷ []) true
    -- the event ahead of its write
    ∷ other (write 0x8002 4 0 ∷ short ∷ write 0x100000000 2 4 ∷ []) false
    -- a write of the wrong start
    ∷ other (write 0x8002 4 0 ∷ write 0x100000000 2 3 ∷ short ∷ []) false
    -- a byte too few
    ∷ other (write 0x8002 4 0 ∷ write 0x100000000 1 4 ∷ short ∷ []) false
    -- a byte too many, from the device's data
    ∷ other (write 0x8002 4 0 ∷ write 0x100000000 2 4 ∷ write 0x100000002 1 0 ∷ short ∷ []) false
    -- a byte past its place
    ∷ other (write 0x8003 4 0 ∷ write 0x100000000 2 4 ∷ short ∷ []) false
    -- a write behind the event
    ∷ other (write 0x8002 4 0 ∷ write 0x100000000 2 4 ∷ short ∷ write 0x8000 1 0 ∷ []) false
    -- nothing but the event
    ∷ other (short ∷ []) false
    ∷ []

abbrev pub claims : List Claim
claims = in_mode AsPorted ++ (in_mode Strict ++ torn)

pub tested-claimed : map tested claims ≡ map claimed claims
unfolding same_bytes is_whole laid_byte place_of in_region patch moves_bytes after_record encode_all walk process_trb handle_normal realize_dma put_dma
tested-claimed = refl
