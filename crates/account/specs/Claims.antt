-- 00, demand 3, as a test that computes, run on the logs of 01's TD T, on logs of worthless engines and on lists at the edge of the demand.
-- Assumes nothing.
use Rattle.std.specs.Prelude.{ℕ, min, ◌≡◌, refl, Bool, true, false, not, ◌&&◌, List, [], ◌∷◌, ◌++◌, map, eqb, leb, take}
use Rattle.trb.specs.declared.CompletionCode.{CompletionCode}
use Rattle.trb.specs.declared.CompletionCode.TheVariants.{StallError, ShortPacket}
use Rattle.trb.specs.declared.EndpointId.{EndpointId}
use Rattle.trb.specs.declared.SlotId.{SlotId}
use Rattle.trb.specs.declared.InTrbProcessingStatus.{InTrbProcessingStatus}
use Rattle.trb.specs.declared.InTrbProcessingStatus.TheVariants.{Success, Stall, TransactionError, Disconnect}
use Rattle.trb.specs.declared.TransferTrb.{TransferTrb}
use Rattle.trb.specs.declared.TransferTrbVariant.TheVariants.{Normal, EventData, NoOp}
use Rattle.call_log.specs.Records.{guest_write, transfer_event}
use Rattle.call_log.specs.declared.Record.{Record}
use Rattle.td_part.specs.Parts.{put_dma, realize_dma}
use Rattle.walks.specs.Walk.{walk}
use Rattle.in_td.specs.Td.{handle_normal, process_trb, process_td, in_td}
use Rattle.in_td.specs.declared.InMode.{InMode}
use Rattle.in_td.specs.declared.InMode.TheVariants.{AsPorted, Strict}
use Rattle.in_td.specs.Normals.{requested}
use Rattle.account.specs.Guest.{places, is_write, is_event, any, relied, sum_for, residual_in, account, names_held, before, later, numbered, bytes}

-- ---- The test

unfoldable pub same : List (ℕ × ℕ) → List (ℕ × ℕ) → Bool
same [] [] = true
same [] (y ∷ ys) = false
same (x ∷ xs) [] = false
same (x ∷ xs) (y ∷ ys) = eqb x.0 y.0 && (eqb x.1 y.1 && same xs ys)

-- the fields of `Account`, each as a test
unfoldable pub accounts : ℕ → List TransferTrb → List Record → Bool
accounts n ts rs =
    names_held ts (relied rs)
    && (leb (residual_in (relied rs)) (sum_for ts (relied rs))
    && (eqb (account ts rs) (min n (requested ts))
    && (any is_event rs
    && (same (bytes (before rs)) (numbered 0 (take (min n (requested ts)) (places ts)))
    && not (any is_write (later rs))))))

-- ---- Logs and lists

abbrev endpoint : EndpointId
endpoint = record { 0 = 3 }

abbrev slot : SlotId
slot = record { 0 = 2 }

-- a Normal: its address, pointer, length, ISP, chain and IOC
abbrev normal : ℕ → ℕ → ℕ → Bool → Bool → Bool → TransferTrb
normal a pointer length isp chain ioc = record {
  variant = Normal (record {
    data_pointer = pointer;
    transfer_length = length;
    interrupt_on_short = isp;
    chain = chain;
    interrupt_on_completion = ioc;
    immediate_data = false;
  });
  addr = a;
  cycle_bit = true;
}

abbrev event_data : ℕ → ℕ → TransferTrb
event_data a value = record {
  variant = EventData (record { event_data = value; chain = true; interrupt_on_completion = true });
  addr = a;
  cycle_bit = true;
}

abbrev no_op : ℕ → Bool → TransferTrb
no_op a ioc = record { variant = NoOp (record { chain = true; interrupt_on_completion = ioc }); addr = a; cycle_bit = true }

-- 01, Examples: TD T
abbrev pub tdT : List TransferTrb
tdT = normal 0x1000 0x8000 512 true true false ∷ normal 0x1010 0x8200 512 true true false ∷ normal 0x1020 0x8400 512 true false true ∷ []

-- the log of a list in a mode, under a status with n bytes
abbrev log_of : InMode → InTrbProcessingStatus → ℕ → List TransferTrb → List Record
log_of mode st n ts = (process_td (in_td endpoint slot mode st n) ts).records

abbrev write : ℕ → ℕ → ℕ → Record
write a length start = guest_write a length start endpoint slot

abbrev event : CompletionCode → ℕ → ℕ → Record
event code a residual = transfer_event a residual code false endpoint slot

-- ---- Claims: whether a log accounts for the device's n bytes

pub record Claim : Type 0 where
  pub n : ℕ
  pub trbs : List TransferTrb
  pub log : List Record
  pub holds : Bool

abbrev pub tested : Claim → Bool
tested c = accounts c.n c.trbs c.log

abbrev pub claimed : Claim → Bool
claimed c = c.holds

-- of the log of the walk
abbrev walked : InMode → InTrbProcessingStatus → List TransferTrb → ℕ → Bool → Claim
walked mode st ts n b = record { n = n; trbs = ts; log = log_of mode st n ts; holds = b }

-- of another log of T
abbrev other : ℕ → List Record → Bool → Claim
other n rs b = record { n = n; trbs = tdT; log = rs; holds = b }

abbrev lengths : List ℕ
lengths = 0 ∷ 1 ∷ 511 ∷ 512 ∷ 513 ∷ 600 ∷ 1024 ∷ 1535 ∷ 1536 ∷ 2000 ∷ []

abbrev statuses : List InTrbProcessingStatus
statuses = Success ∷ Stall ∷ TransactionError ∷ Disconnect ∷ []

abbrev under_status : InMode → InTrbProcessingStatus → List Claim
under_status mode st = map (λ (n : ℕ). walked mode st tdT n true) lengths

abbrev in_mode : InMode → List Claim
in_mode mode = under_status mode Success ++ (under_status mode Stall ++ (under_status mode TransactionError ++ under_status mode Disconnect))

abbrev pub right : List Claim
right = in_mode AsPorted ++ in_mode Strict

abbrev pub worthless : List Claim
worthless =
    -- the event before its write
    other 600 (write 0x8000 512 0 ∷ event ShortPacket 0x1010 424 ∷ write 0x8200 88 512 ∷ event ShortPacket 0x1020 424 ∷ []) false
    -- the same records for every TD: those of 600 bytes for 700
    ∷ other 700 (log_of AsPorted Success 600 tdT) false
    -- nothing
    ∷ other 600 [] false
    -- the first Normal is served, and the rest pretended
    ∷ other 600 (write 0x8000 512 0 ∷ event ShortPacket 0x1010 424 ∷ event ShortPacket 0x1020 424 ∷ []) false
    -- an invented residual
    ∷ other 600 (write 0x8000 512 0 ∷ write 0x8200 88 512 ∷ event ShortPacket 0x1010 425 ∷ []) false
    -- a byte written twice
    ∷ other 600 (write 0x8000 512 0 ∷ write 0x8200 88 512 ∷ write 0x8257 1 599 ∷ event ShortPacket 0x1010 424 ∷ []) false
    -- a later write, of 0 bytes
    ∷ other 600 (write 0x8000 512 0 ∷ write 0x8200 88 512 ∷ event ShortPacket 0x1010 424 ∷ write 0x8400 0 600 ∷ []) false
    ∷ []

-- what the guest's account alone does not rule out: an error status where n = S, as ported, and a later Normal's own length as its
-- residual. The equation of a completion's log with the walk's rules both out: `accounted_wrongly-differ`
abbrev pub accounted_wrongly : List Claim
accounted_wrongly =
    other 1536 (write 0x8000 512 0 ∷ write 0x8200 512 512 ∷ write 0x8400 512 1024 ∷ event StallError 0x1020 0 ∷ []) true
    ∷ other 600 (write 0x8000 512 0 ∷ write 0x8200 88 512 ∷ event ShortPacket 0x1010 424 ∷ event ShortPacket 0x1020 512 ∷ []) true
    ∷ []

-- lengths of 0, at the front, where the data ends, and last
abbrev zero_lengths : List TransferTrb
zero_lengths =
    normal 1 10 0 true true false ∷ normal 2 100 512 true true false ∷ normal 3 700 0 true true true ∷ normal 4 800 512 true true false ∷ normal 5 900 0 true false true ∷ []

abbrev none_requested : List TransferTrb
none_requested = normal 1 10 0 true true false ∷ normal 2 20 0 true false true ∷ []

-- Event Data whose values are the addresses of other TRBs, and a NoOp with IOC
abbrev mixed : List TransferTrb
mixed =
    normal 1 100 512 true true true ∷ event_data 2 4 ∷ no_op 3 true ∷ normal 4 5000 512 true true false ∷ event_data 5 1 ∷ normal 6 9000 0 true false true ∷ []

abbrev address_twice : List TransferTrb
address_twice = no_op 0x1010 false ∷ tdT

abbrev without_isp : List TransferTrb
without_isp = normal 1 100 512 true true false ∷ normal 2 700 512 false true false ∷ normal 3 1300 512 true false true ∷ []

abbrev without_ioc : List TransferTrb
without_ioc = normal 1 100 512 true false false ∷ []

abbrev pub corners : List Claim
corners =
    walked AsPorted Success zero_lengths 512 true
    ∷ walked AsPorted Stall zero_lengths 512 true
    ∷ walked AsPorted Stall none_requested 0 true
    ∷ walked AsPorted Stall none_requested 7 true
    ∷ walked AsPorted Success mixed 600 true
    ∷ walked AsPorted Disconnect mixed 1024 true
    ∷ walked Strict Stall zero_lengths 1024 true
    ∷ walked Strict Stall none_requested 0 true
    ∷ walked Strict TransactionError none_requested 7 true
    ∷ walked Strict Disconnect mixed 1024 true
    -- lists that demand 3 leaves out
    ∷ walked AsPorted Success address_twice 600 false
    ∷ walked AsPorted Success without_isp 600 false
    ∷ walked AsPorted Success without_ioc 512 false
    -- a transfer that fails has its event without ISP
    ∷ walked AsPorted Stall without_isp 600 true
    -- and in strict mode without IOC
    ∷ walked AsPorted Stall without_ioc 512 false
    ∷ walked Strict Stall without_ioc 512 true
    ∷ []

abbrev pub claims : List Claim
claims = right ++ (worthless ++ (accounted_wrongly ++ corners))

-- the claim's log has the codes and lengths of the walk's as ported, under this status
abbrev is_walked : Claim → InTrbProcessingStatus → Bool
is_walked c st = same (map code_and_length c.log) (map code_and_length (log_of AsPorted st c.n c.trbs))
  where
    code_and_length : Record → ℕ × ℕ
    code_and_length r = (r.code, r.length)

pub accounted_wrongly-differ : map (λ (c : Claim). map (is_walked c) statuses) accounted_wrongly
    ≡ (false ∷ false ∷ false ∷ false ∷ []) ∷ (false ∷ false ∷ false ∷ false ∷ []) ∷ []
unfolding same walk process_trb handle_normal realize_dma put_dma
accounted_wrongly-differ = refl

pub tested-claimed : map tested claims ≡ map claimed claims
unfolding same accounts walk process_trb handle_normal realize_dma put_dma
tested-claimed = refl
