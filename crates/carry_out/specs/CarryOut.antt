-- 01, Carry-out: what it answers, and guest memory afterwards. Assumes nothing.
use Rattle.std.specs.Prelude.{ℕ, Bool, not, ◌≡◌, List, [], ◌∷◌, length, Err, Ok}
use Rattle.trb.specs.Answers.{number_of, refusal_of}
use Rattle.trb.specs.Questions.{first_no, after_questions}
use Rattle.trb.specs.Answers.{Answer}
use Rattle.log_check.specs.WellFormed.{well_formed}
use Rattle.guest_memory.specs.declared.Regions.{Regions}
use Rattle.guest_memory.specs.Regions.{share_an_address}
use Rattle.guest_memory.specs.Places.{Memory, regions_of}
use Rattle.carry_out.specs.Writes.{records_of, writes_in_range, written}

-- 01, Carry-out: the questions in their order, of a log, n bytes of device data and guest memory in these regions; 02, R-1: 13 ahead of 10
abbrev pub carry_out_questions : List ℕ → ℕ → Regions → List (Bool × ℕ)
carry_out_questions log n regions = (not (share_an_address regions), 13) ∷ (well_formed log, 10) ∷ (writes_in_range n regions (records_of log), 11) ∷ []

abbrev pub answer_of : List ℕ → ℕ → Regions → Answer
answer_of log n regions = after_questions (carry_out_questions log n regions) (λ k. Err (refusal_of k)) (Ok tt)

-- 01, Questions asked: a no leaves guest memory unchanged; after a yes to all of them every write is performed
abbrev pub memory_after : Answer → List ℕ → List ℕ → Memory → Memory
memory_after (Ok tt) log bytes m = written bytes m (records_of log)
memory_after (Err q) log bytes m = m

-- of a carry-out of a log on guest memory m, with the device's data bytes: it answered r and left m'
pub record Carried (log bytes : List ℕ) (m : Memory) (r : Answer) (m' : Memory) : Type 0 where
  pub number : number_of r ≡ first_no (carry_out_questions log (length bytes) (regions_of m))
  pub answer : r ≡ answer_of log (length bytes) (regions_of m)
  pub after : m' ≡ memory_after r log bytes m
