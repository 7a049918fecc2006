-- What a completion in place that is carried out at once is: by the definitions of `delivery`, of the block that the bytes are. Assumes nothing.
use Rattle.std.specs.Prelude.{ℕ, ◌*◌, ◌<◌, ◌≡◌, true, List, length, take, Option}
use Rattle.trb.specs.Limits.{record_length}
use Rattle.trb.specs.Questions.{first_no}
use Rattle.trb.specs.declared.InTrbProcessingStatus.{InTrbProcessingStatus}
use Rattle.call_log.specs.Calls.{Meets}
use Rattle.call_log.specs.Logs.{records_in}
use Rattle.guest_memory.specs.Places.{Memory, regions_of}
use Rattle.carry_out.specs.Writes.{written}
use Rattle.account.specs.Guest.{Distinct, IspOnNormals, LastNormalWithIoc}
use Rattle.in_block.specs.Blocks.{held_of}
use Rattle.in_block.specs.Facts.{awaits_device}
use Rattle.in_block.specs.declared.InBlock.{InBlock}
use Rattle.answer_numbers.specs.declared.CompletionAnswered.{CompletionAnswered}
use Rattle.in_bytes.specs.Layout.{block_of}
use Rattle.in_place_store.specs.Becomes.{Becomes}
use Rattle.in_place.specs.InPlace.{completed_numbers, AccountedInPlace}
use Rattle.delivery_laws.specs.Delivered.{Delivered}
use Rattle.delivery.specs.Completing.{delivery_questions, delivery}

-- 00, demand 3, of the bytes of guest memory: see DeliveredWhole of delivery
abbrev pub WholeInPlace : InBlock → List ℕ → Memory → CompletionAnswered → List ℕ → Memory → Type 0
WholeInPlace b bytes m r log m' =
    awaits_device b.state ≡ true → r.number ≡ 0 → Distinct (held_of b) → IspOnNormals (held_of b) → LastNormalWithIoc (held_of b)
    → Delivered bytes m (held_of b) log m'

-- of a call with the device result s, the device's bytes, the log l, of which k bytes count, over the bytes b and guest memory m, which
-- answered r and left the log l', the bytes b' and the memory m'
pub record DeliversInPlace (k : ℕ) (s : Option InTrbProcessingStatus) (bytes l b : List ℕ) (m : Memory) (r : CompletionAnswered) (l' b' : List ℕ) (m' : Memory) : Type 0 where
  pub number : r.number ≡ first_no (delivery_questions k (block_of b) s (length bytes) (regions_of m))
  pub met : Meets (completed_numbers (delivery k (block_of b) s (length bytes) (regions_of m))) 0 l r l'
  pub becomes : Becomes b (delivery k (block_of b) s (length bytes) (regions_of m)).state.block b'
  pub memory : m' ≡ written bytes m (delivery k (block_of b) s (length bytes) (regions_of m)).records
  -- 01, Questions asked: a no ends the call with block, log and guest memory unchanged
  pub unchanged : 0 < r.number → (l' ≡ l) × ((b' ≡ b) × (m' ≡ m))
  pub account : AccountedInPlace (block_of b) (length bytes) r (records_in r.records l')
  pub whole : WholeInPlace (block_of b) bytes m r (take (record_length * r.records) l') m'
