-- What a call in place is: by the definitions of the endpoint by value, of the block that the bytes are. Assumes nothing.
use Rattle.std.specs.Prelude.{ℕ, ◌≤◌, ◌<◌, ◌≡◌, true, cond, List, [], ◌∷◌, eqb, length, None, Option, Some}
use Rattle.trb.specs.Questions.{first_no}
use Rattle.trb.specs.declared.EndpointId.{EndpointId}
use Rattle.trb.specs.declared.InTrbProcessingStatus.{InTrbProcessingStatus}
use Rattle.trb.specs.declared.InTrbProcessingStatus.TheVariants.{Disconnect, Stall, TransactionError, Success}
use Rattle.trb.specs.declared.SlotId.{SlotId}
use Rattle.trb.specs.declared.TdBasedNormalSubmissionState.TheVariants.{CollectingTd}
use Rattle.call_log.specs.Calls.{Out, Meets}
use Rattle.call_log.specs.Logs.{records_in}
use Rattle.call_log.specs.declared.Record.{Record}
use Rattle.account.specs.Guest.{Distinct, IspOnNormals, LastNormalWithIoc, Account}
use Rattle.in_td.specs.declared.InMode.{InMode}
use Rattle.in_block.specs.Blocks.{held_of}
use Rattle.in_block.specs.Facts.{awaits_device, facts_of}
use Rattle.in_block.specs.declared.InBlock.{InBlock}
use Rattle.in_questions.specs.Questions.{completion_questions}
use Rattle.in_endpoint.specs.Creation.{creation_questions, creation, cancelled}
use Rattle.in_endpoint.specs.Completion.{completion}
use Rattle.in_endpoint.specs.Returned.{Completed}
use Rattle.answer_numbers.specs.Numbers.{completion_answered}
use Rattle.answer_numbers.specs.declared.CompletionAnswered.{CompletionAnswered}
use Rattle.in_bytes.specs.Layout.{block_length, block_of}
use Rattle.in_place_store.specs.Becomes.{Becomes}
use Rattle.in_place_questions.specs.Lent.{block_question}

-- ---- Creation and cancel

-- of a creation over the bytes b, which answered r and left the bytes b'
pub record CreatesInPlace (e : EndpointId) (s : SlotId) (mode : InMode) (b : List ℕ) (r : ℕ) (b' : List ℕ) : Type 0 where
  pub number : r ≡ first_no (block_question b ∷ creation_questions e s)
  pub becomes : block_length ≤ length b → Becomes b (creation e s mode).block b'
  pub unchanged : length b < block_length → b' ≡ b

-- of a cancel
pub record CancelsInPlace (b : List ℕ) (r : ℕ) (b' : List ℕ) : Type 0 where
  pub number : r ≡ first_no (block_question b ∷ [])
  pub becomes : block_length ≤ length b → Becomes b (cancelled (block_of b)) b'
  pub unchanged : length b < block_length → b' ≡ b

-- ---- Completion

abbrev pub completed_numbers : Out Completed → Out CompletionAnswered
completed_numbers o = record { state = completion_answered o.state.answer o.state.records; records = o.records }

-- 00, demand 3, of an accepted completion: see Accounted of in_endpoint
abbrev pub AccountedInPlace : InBlock → ℕ → CompletionAnswered → List Record → Type 0
AccountedInPlace b n r rs =
    awaits_device b.state ≡ true → r.number ≡ 0 → Distinct (held_of b) → IspOnNormals (held_of b) → LastNormalWithIoc (held_of b) → Account n (held_of b) rs

-- of a completion with the device result s and n bytes of data
pub record CompletesInPlace (k : ℕ) (s : Option InTrbProcessingStatus) (n : ℕ) (l b : List ℕ) (r : CompletionAnswered) (l' b' : List ℕ) : Type 0 where
  pub number : r.number ≡ first_no (completion_questions k (facts_of (block_of b)) s n)
  pub met : Meets (completed_numbers (completion k (block_of b) s n)) 0 l r l'
  pub becomes : Becomes b (completion k (block_of b) s n).state.block b'
  pub unchanged : 0 < r.number → b' ≡ b
  pub account : AccountedInPlace (block_of b) n r (records_in r.records l')

-- every question says yes, and a TD is collected
pub record GoesOn (k : ℕ) (s : Option InTrbProcessingStatus) (n : ℕ) (b : List ℕ) : Type 0 where
  pub asked : first_no (completion_questions k (facts_of (block_of b)) s n) ≡ 0
  pub state : (block_of b).state ≡ CollectingTd

-- a device result by number: 0 Success, 1 Stall, 2 a transaction error, 3 a disconnect; any other number, none is given
abbrev pub result_of : ℕ → Option InTrbProcessingStatus
result_of n = cond (eqb n 0) (Some Success) (cond (eqb n 1) (Some Stall) (cond (eqb n 2) (Some TransactionError) (cond (eqb n 3) (Some Disconnect) None)))
