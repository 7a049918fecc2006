-- 02, R-5: a long TD passes 2^24, computed: 129 Normals of 131,071 bytes and Event Data behind them, and 512 of them. Assumes nothing.
use Prim.Native.Nat.{ℕ, ◌*◌}
use mathlib.Core.Path.{◌≡◌, refl}
use mathlib.Core.Bool.{true, false}
use mathlib.Core.List.{List, [], ◌∷◌, ◌++◌}
use lib.ListN.{drop, replicate}
use Rattle.trb.specs.Limits.{max_transfer_length}
use Rattle.trb.specs.declared.CompletionCode.TheVariants.{Success}
use Rattle.trb.specs.declared.EndpointId.{EndpointId}
use Rattle.trb.specs.declared.InTrbProcessingStatus.TheVariants as status
use Rattle.trb.specs.declared.SlotId.{SlotId}
use Rattle.trb.specs.declared.TransferTrb.{TransferTrb}
use Rattle.trb.specs.declared.TransferTrbVariant.TheVariants.{Normal, EventData}
use Rattle.call_log.specs.Records.{transfer_event}
use Rattle.call_log.specs.declared.Record.{Record}
use Rattle.td_part.specs.Parts.{put_dma, realize_dma}
use Rattle.walks.specs.Walk.{walk}
use Rattle.in_td.specs.declared.InMode.TheVariants.{AsPorted}
use Rattle.in_td.specs.Td.{handle_normal, process_trb, process_td, in_td}

abbrev endpoint : EndpointId
endpoint = record { 0 = 3 }

abbrev slot : SlotId
slot = record { 0 = 2 }

abbrev longest : TransferTrb
longest = record {
  variant = Normal (record {
    data_pointer = 0x8000;
    transfer_length = max_transfer_length;
    interrupt_on_short = true;
    chain = true;
    interrupt_on_completion = false;
    immediate_data = false;
  });
  addr = 0x1000;
  cycle_bit = true;
}

abbrev event_data : TransferTrb
event_data = record {
  variant = EventData (record { event_data = 0xABCD; chain = false; interrupt_on_completion = true });
  addr = 0x2000;
  cycle_bit = true;
}

-- so many Normals and Event Data, all bytes arriving: what is logged behind the Normals' writes
abbrev told_behind : ℕ → List Record
told_behind k = drop k (process_td (in_td endpoint slot AsPorted status.Success (k * max_transfer_length)) (replicate k longest ++ event_data ∷ [])).records

abbrev told : ℕ → List Record
told edtla = transfer_event 0xABCD edtla Success true endpoint slot ∷ []

-- 128 of them stay below 2^24; 129 times 131,071 is 2^24 and 130,943
pub below-wrap : told_behind 128 ≡ told 16777088
unfolding walk process_trb handle_normal realize_dma put_dma
below-wrap = refl

pub wrapped : told_behind 129 ≡ told 130943
unfolding walk process_trb handle_normal realize_dma put_dma
wrapped = refl

-- a TD of 512 TRBs, the last of which is Event Data
pub longest-wrapped : told_behind 511 ≡ told 16645633
unfolding walk process_trb handle_normal realize_dma put_dma
longest-wrapped = refl
