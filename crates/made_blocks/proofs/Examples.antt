-- Why the theorems have their conditions, computed: in an OUT transfer calls make a block that holds immediate data; a made-up block of an
-- IN transfer that holds it, as calls made it before R-14, writes more than it asked for; and so does one that calls make by a sum that
-- passes 2^32. Endpoint 3, slot 2; guest memory in one region of 2^17 bytes at 0. Assumes nothing.
use Rattle.std.specs.Prelude.{None, Some}
use Prim.Native.Nat.{ℕ, zero, suc, ◌+◌, ◌*◌, ◌%◌, ◌^◌}
use mathlib.Core.Path.{◌≡◌, refl, ap, ◌∙◌}
use mathlib.Core.Bool.{Bool, true, false}
use mathlib.Core.List.{List, [], ◌∷◌, ◌++◌}
use native.Mathlib.Nat.{zero-add}
use native.Mathlib.Omega.{arith}
use Rattle.trb.specs.Ids.{ids_in_range}
use Rattle.trb.specs.Limits.{max_transfer_length, max_collected, min_log}
use Rattle.trb.specs.Questions.{first_no}
use Rattle.trb.specs.declared.ControlRequestProcessingResult.TheVariants.{SuccessfulControlIn}
use Rattle.trb.specs.declared.ControlSubmissionState.TheVariants.{NoTrbSubmitted, AwaitingControlRequest}
use Rattle.trb.specs.declared.ControlTransferState.{ControlTransferState}
use Rattle.trb.specs.declared.ControlTransferState.TheVariants.{ExpectSetupStageTrb, MoreData}
use Rattle.trb.specs.declared.EndpointId.{EndpointId}
use Rattle.trb.specs.declared.SlotId.{SlotId}
use Rattle.trb.specs.declared.TransferTrb.{TransferTrb}
use Rattle.trb.specs.declared.TransferTrbVariant.{TransferTrbVariant}
use Rattle.trb.specs.declared.TransferTrbVariant.TheVariants.{SetupStage, DataStage, StatusStage, Normal, Unrecognized}
use Rattle.guest_memory.specs.declared.Regions.{Regions}
use Rattle.guest_memory.specs.Regions.{guest_regions, holds, shares_at, share_an_address}
use Rattle.guest_memory.specs.Places.{in_region, place_of, range_inside}
use Rattle.held.specs.Places.{cleared}
use Rattle.held.specs.Sound.{sound_trb}
use Rattle.walks.specs.All.{all}
use Rattle.walks.specs.Walk.{walk}
use Rattle.td_part.specs.Parts.{put_dma, realize_dma}
use Rattle.account.specs.Guest.{write_lengths}
use Rattle.phase_table.specs.Table.{trb_outcome}
use Rattle.control_block.specs.declared.ControlBlock.{ControlBlock}
use Rattle.control_block.specs.declared.ControlTransfer.{ControlTransfer}
use Rattle.control_block.specs.Blocks.{fresh_block, held_of, stored, advanced}
use Rattle.control_block.specs.Facts.{sound_block}
use Rattle.control_chain.specs.Chain.{realize_data_stage, realize_normal, realize_trb}
use Rattle.control_chain.specs.Endings.{ending_records}
use Rattle.control_transfer.specs.Data.{data_of, size_of, in_reach}
use Rattle.control_transfer.specs.Transfers.{collects, transfer_after}
use Rattle.control_questions.specs.Completion.{completion_questions}
use Rattle.control_questions.specs.Submission.{has_room, reaches, submission_questions}
use Rattle.control_endpoint.specs.Completion.{block_behind, accepted as accepted_completion, completion}
use Rattle.control_endpoint.specs.Submission.{block_after, records_of, accepted as accepted_submission, submission}
use Rattle.control_block.specs.declared.GuestRelease.TheVariants.{Release4}
use Rattle.made_blocks.specs.Held.{from_memory}
use Rattle.made_blocks.specs.ControlCalls.{ControlCall, submit, complete, after, after_all, made}

abbrev endpoint : EndpointId
endpoint = record { 0 = 3 }

abbrev slot : SlotId
slot = record { 0 = 2 }

-- ---- TRBs

abbrev at : ℕ → TransferTrbVariant → TransferTrb
at a v = record { variant = v; addr = a; cycle_bit = true }

-- of this request type
abbrev setup : ℕ → TransferTrb
setup type = at 0x1000 (SetupStage (record { request_type = type; request = 6; value = 0x0100; index = 0; length = 64; interrupt_on_completion = false }))

abbrev data_stage : (length : ℕ) (chain immediate : Bool) → TransferTrb
data_stage length chain immediate =
    at 0x1010 (DataStage (record {
      data_pointer = 0x8000;
      transfer_length = length;
      chain = chain;
      interrupt_on_completion = false;
      interrupt_on_short = false;
      immediate_data = immediate;
      direction = true;
    }))

-- of the greatest length
abbrev normal : (chain : Bool) → TransferTrb
normal chain =
    at 0x1020 (Normal (record {
      data_pointer = 0;
      transfer_length = max_transfer_length;
      interrupt_on_short = false;
      chain = chain;
      interrupt_on_completion = false;
      immediate_data = false;
    }))

abbrev status : TransferTrb
status = at 0x1030 (StatusStage (record { chain = false; interrupt_on_completion = false; direction = false }))

abbrev unrecognized : TransferTrb
unrecognized = at 0x1040 Unrecognized

-- ---- Calls and blocks

-- guest memory: the other region is empty
abbrev regions : Regions
regions = guest_regions 0 (2 ^ 17) 0 0

-- a TRB is submitted, and its submission completed
abbrev submitted : TransferTrb → List ControlCall → List ControlCall
submitted t cs = submit min_log max_collected t regions ∷ complete min_log None 0 ∷ cs

-- what calls leave, with all that they are defined by
unfoldable run : List ControlCall → ControlBlock → ControlBlock
unfolding submission submission_questions has_room reaches in_reach range_inside place_of in_region share_an_address shares_at holds collects first_no ids_in_range sound_block sound_trb all trb_outcome accepted_submission block_after records_of transfer_after completion completion_questions accepted_completion block_behind cleared
run cs b = after_all cs b

-- an IN transfer in this phase, with a request for n bytes
abbrev input_transfer : ControlTransferState → ℕ → ControlTransfer
input_transfer phase n = record {
  phase = phase;
  direction = true;
  request = record { address = 0x1000; request_type = 0x80; request = 6; value = 0x0100; index = 0; length = n };
  collected = 0;
}

-- the bytes that a completion writes, n having come
unfoldable pub written : ControlBlock → ℕ → ℕ
unfolding completion completion_questions first_no ids_in_range sound_block sound_trb all accepted_completion block_behind ending_records cleared walk realize_trb realize_data_stage realize_normal realize_dma put_dma
written b n = write_lengths (completion min_log b (Some SuccessfulControlIn) n).records

-- ---- Immediate data of 12 bytes

abbrev immediate : TransferTrb
immediate = data_stage 12 false true

-- on OUT it is held
pub immediate-out : all from_memory (held_of (made endpoint slot Release4 (submitted (setup 0) (submitted immediate [])))) ≡ false
unfolding run
immediate-out = refl

-- on IN, by a made-up block: 8 bytes are asked for, 12 written
abbrev pub holds_immediate : ControlBlock
holds_immediate =
    advanced (stored (stored (stored (fresh_block endpoint slot Release4) (setup 0x80)) immediate) status)
    (input_transfer ExpectSetupStageTrb (size_of (data_of immediate.variant))) AwaitingControlRequest

pub immediate-asked : holds_immediate.transfer.request.length ≡ 8
immediate-asked = refl

pub immediate-written : written holds_immediate 12 ≡ 12
unfolding written
immediate-written = refl

-- ---- 32,769 Normals of 131,071 bytes, each but the last dropped by an Unrecognized behind it: 98,303 bytes are asked for, 131,071 written

abbrev begun : List ControlCall
begun = submitted (setup 0x80) (submitted (data_stage 0 true false) (submitted unrecognized []))

unfoldable pub rounds : ℕ → List ControlCall
rounds zero = []
rounds (suc k) = submitted (normal true) (submitted unrecognized (rounds k))

abbrev last : List ControlCall
last = submitted (normal false) (submit min_log max_collected status regions ∷ [])

abbrev pub wrapping : ℕ → List ControlCall
wrapping k = begun ++ rounds k ++ last

-- nothing is held, a Normal may come, and n bytes were asked for
abbrev counted : ℕ → ControlBlock
counted n = advanced (fresh_block endpoint slot Release4) (input_transfer MoreData n) NoTrbSubmitted

after_all-append : (cs ds : List ControlCall) (b : ControlBlock) → after_all (cs ++ ds) b ≡ after_all ds (after_all cs b)
after_all-append [] ds b = refl
after_all-append (c ∷ cs) ds b = after_all-append cs ds (after c b)

-- each round adds 131,071, modulo 2^32
rounds-counted : (k n : ℕ) → run (rounds k) (counted (n % 2 ^ 32)) ≡ counted ((n + max_transfer_length * k) % 2 ^ 32)
unfolding run rounds
rounds-counted zero n = ap (λ (m : ℕ). counted m) (omega arith)
rounds-counted (suc k) n =
    ap (λ (m : ℕ). run (rounds k) (counted m)) (omega arith) ∙ rounds-counted k (n + max_transfer_length) ∙ ap (λ (m : ℕ). counted m) (omega arith)

made-wrapping : (k : ℕ) → made endpoint slot Release4 (wrapping k) ≡ run last (counted (max_transfer_length * k % 2 ^ 32))
unfolding run
made-wrapping k =
    after_all-append (rounds k) last (counted 0) ∙ ap (run last) (rounds-counted k 0) ∙ ap (λ (n : ℕ). run last (counted (n % 2 ^ 32))) (zero-add (max_transfer_length * k))

last_written : written (run last (counted (max_transfer_length * 2 ^ 15 % 2 ^ 32))) max_transfer_length ≡ max_transfer_length
unfolding run written
last_written = refl

pub wrapped-asked : (made endpoint slot Release4 (wrapping (2 ^ 15))).transfer.request.length ≡ 98303
unfolding run
wrapped-asked = ap (λ (b : ControlBlock). b.transfer.request.length) (made-wrapping (2 ^ 15))

pub wrapped-written : written (made endpoint slot Release4 (wrapping (2 ^ 15))) max_transfer_length ≡ max_transfer_length
wrapped-written = ap (λ (b : ControlBlock). written b max_transfer_length) (made-wrapping (2 ^ 15)) ∙ last_written
