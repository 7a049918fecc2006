-- Carry-out for C and Rust: what it answers, and guest memory afterwards. Assumes nothing.
use Rattle.std.specs.Prelude.{ℕ, ◌≡◌, List, length}
use Rattle.trb.specs.Questions.{first_no}
use Rattle.guest_memory.specs.Places.{Memory, regions_of}
use Rattle.carry_out.specs.CarryOut.{carry_out_questions, answer_of, memory_after}

-- of a call of polvihe_carry_out with a log and the device's data bytes on guest memory m: it answered r and left m'
pub record CarriesOut (log bytes : List ℕ) (m : Memory) (r : ℕ) (m' : Memory) : Type 0 where
  pub number : r ≡ first_no (carry_out_questions log (length bytes) (regions_of m))
  pub after : m' ≡ memory_after (answer_of log (length bytes) (regions_of m)) log bytes m
