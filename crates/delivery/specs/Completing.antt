-- A completion on an IN endpoint that is carried out at once: its questions, what is done once each was answered with yes, and the promise of a call.
-- Assumes nothing.
use Rattle.std.specs.Prelude.{ℕ, ◌*◌, Bool, true, not, ◌≡◌, List, [], ◌∷◌, leb, length, take, Option}
use Rattle.trb.specs.Answers.{number_of, said}
use Rattle.trb.specs.Limits.{record_length, min_log, max_data}
use Rattle.trb.specs.Questions.{first_no, after_questions, agree}
use Rattle.trb.specs.Answers.{CompletionAnswer}
use Rattle.trb.specs.declared.InTrbProcessingStatus.{InTrbProcessingStatus}
use Rattle.call_log.specs.Calls.{Out, Meets}
use Rattle.call_log.specs.Logs.{records_in}
use Rattle.guest_memory.specs.declared.Regions.{Regions}
use Rattle.guest_memory.specs.Regions.{share_an_address}
use Rattle.guest_memory.specs.Places.{Memory, regions_of}
use Rattle.carry_out.specs.Writes.{writes_in_range, written}
use Rattle.account.specs.Guest.{Distinct, IspOnNormals, LastNormalWithIoc}
use Rattle.in_block.specs.Blocks.{held_of}
use Rattle.in_block.specs.Facts.{submission_due, awaits_device, sound_block, facts_of}
use Rattle.in_block.specs.Outcomes.{ending_of}
use Rattle.in_block.specs.declared.InBlock.{InBlock}
use Rattle.in_questions.specs.Questions.{is_given}
use Rattle.in_endpoint.specs.Completion.{refused, completed_as, is_accepted, Accounted}
use Rattle.in_endpoint.specs.Returned.{Completed}
use Rattle.delivery_laws.specs.Delivered.{Delivered}

-- what a completion does once its questions were answered with yes
abbrev pub completed : InBlock → Option InTrbProcessingStatus → ℕ → Out Completed
completed b r n = completed_as (ending_of b.state r n) b

-- with a log of l bytes, n bytes of data and guest memory in these regions: the questions of a completion; 13 just after 1, as 02, R-1, has it at submission;
-- and last that of carry-out: does each write of nonzero length that the completion will log lie in the device's data and in one of the regions?
unfoldable pub delivery_questions : ℕ → InBlock → Option InTrbProcessingStatus → ℕ → Regions → List (Bool × ℕ)
delivery_questions l b r n regions =
    (leb min_log l, 1)
    ∷ (not (share_an_address regions), 13)
    ∷ (sound_block (facts_of b), 2)
    ∷ (not (submission_due b.state), 3)
    ∷ (agree (is_given r) (awaits_device b.state), 8)
    ∷ (leb n max_data, 9)
    ∷ (writes_in_range n regions (completed b r n).records, 11)
    ∷ []

unfoldable pub delivery : ℕ → InBlock → Option InTrbProcessingStatus → ℕ → Regions → Out Completed
delivery l b r n regions = after_questions (delivery_questions l b r n regions) (refused b) (completed b r n)

-- 00, demand 3, of the bytes of guest memory: under its conditions the frame is whole at the event that the guest relies on
abbrev pub DeliveredWhole : InBlock → List ℕ → Memory → CompletionAnswer → List ℕ → Memory → Type 0
DeliveredWhole b bytes m a log m' =
    awaits_device b.state ≡ true → is_accepted a ≡ true → Distinct (held_of b) → IspOnNormals (held_of b) → LastNormalWithIoc (held_of b)
    → Delivered bytes m (held_of b) log m'

-- of a call with the device result s, the device's bytes, the log l and guest memory m, which returned r and left the log l' and the memory m'
pub record Delivers (b : InBlock) (s : Option InTrbProcessingStatus) (bytes l : List ℕ) (m : Memory) (r : Completed) (l' : List ℕ) (m' : Memory) : Type 0 where
  pub number : number_of r.answer ≡ first_no (delivery_questions (length l) b s (length bytes) (regions_of m))
  pub met : Meets (delivery (length l) b s (length bytes) (regions_of m)) 0 l r l'
  pub result : said r.answer ≡ said (delivery (length l) b s (length bytes) (regions_of m)).state.answer
  pub memory : m' ≡ written bytes m (delivery (length l) b s (length bytes) (regions_of m)).records
  pub account : Accounted b (length bytes) r.answer (records_in r.records l')
  pub whole : DeliveredWhole b bytes m r.answer (take (record_length * r.records) l') m'
