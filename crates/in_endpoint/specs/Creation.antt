-- 01, Creation and cancel of an IN endpoint. Assumes nothing.
use Rattle.std.specs.Prelude.{ℕ, ◌≡◌, Bool, List, [], ◌∷◌, Err, Ok}
use Rattle.trb.specs.Answers.{number_of, refusal_of}
use Rattle.trb.specs.Ids.{ids_in_range}
use Rattle.trb.specs.Questions.{first_no, after_questions}
use Rattle.trb.specs.declared.EndpointId.{EndpointId}
use Rattle.trb.specs.declared.SlotId.{SlotId}
use Rattle.trb.specs.declared.TdBasedNormalSubmissionState.TheVariants.{SubmissionDue}
use Rattle.in_td.specs.declared.InMode.{InMode}
use Rattle.in_block.specs.Blocks.{fresh_block, emptied}
use Rattle.in_block.specs.declared.InBlock.{InBlock}
use Rattle.in_endpoint.specs.Returned.{Created}

-- is the endpoint id 1 to 31 and the slot id 1 to 255?
abbrev pub creation_questions : EndpointId → SlotId → List (Bool × ℕ)
creation_questions e s = (ids_in_range e s, 12) ∷ []

-- after a no the block handed back is fresh but for both ids 0, in the mode that was asked for
unfoldable pub creation : EndpointId → SlotId → InMode → Created
creation e s mode =
    after_questions (creation_questions e s) (λ n. record { answer = Err (refusal_of n); block = fresh_block (record { 0 = 0 }) (record { 0 = 0 }) mode })
    (record { answer = Ok tt; block = fresh_block e s mode })

-- of a creation that returned r
pub record Creates (e : EndpointId) (s : SlotId) (mode : InMode) (r : Created) : Type 0 where
  pub number : number_of r.answer ≡ first_no (creation_questions e s)
  pub met : r ≡ creation e s mode

-- cancel asks nothing: on IN it empties the block and a submission is due
abbrev pub cancelled : InBlock → InBlock
cancelled b = emptied b SubmissionDue
