-- The cases of an answer as plain numbers. Assumes nothing.
use Rattle.std.specs.Prelude.{ℕ, Bool, cond, eqb, Result, Err, Ok}
use Rattle.trb.specs.Answers.{number_of, result_code}
use Rattle.trb.specs.Refusals.{refusal_number}
use Rattle.trb.specs.Answers.{Answer, CompletionAnswer}
use Rattle.trb.specs.declared.InTrbProcessingStatus.{InTrbProcessingStatus}
use Rattle.trb.specs.declared.InTrbProcessingStatus.TheVariants as device
use Rattle.trb.specs.declared.Refusal.{Refusal}
use Rattle.trb.specs.declared.TrbProcessingResult.{TrbProcessingResult}
use Rattle.trb.specs.declared.TrbProcessingResult.TheVariants as result
use Rattle.answer_numbers.specs.declared.Answered.{Answered}
use Rattle.answer_numbers.specs.declared.CompletionAnswered.{CompletionAnswered}

-- the number of the answer, and of its records
abbrev pub answered_as : Answer → ℕ → Answered
answered_as a n = record { number = number_of a; count = n }

-- of a call that counts what it made: a refused one made nothing
abbrev pub counted : Result ℕ Refusal → Answered
counted (Ok n) = record { number = 0; count = n }
counted (Err q) = record { number = refusal_number q; count = 0 }

-- as a call script numbers them; any other number is a transaction error
abbrev pub status_of : ℕ → InTrbProcessingStatus
status_of n = cond (eqb n 0) device.Success (cond (eqb n 1) device.Stall (cond (eqb n 3) device.Disconnect device.TransactionError))

abbrev pub flag_number : Bool → ℕ
flag_number on = cond on 1 0

-- a result that carries nothing
abbrev pub plain : ℕ → ℕ → ℕ → CompletionAnswered
plain r code n = record { number = 0; result = r; code = code; located = 0; cycle_bit = 0; records = n; address = 0 }

-- a result that carries an address and a cycle bit
abbrev pub located : ℕ → ℕ → ℕ → Bool → ℕ → CompletionAnswered
located r code a cycle n = record { number = 0; result = r; code = code; located = 1; cycle_bit = flag_number cycle; records = n; address = a }

-- the number of each result, and 01's completion code
abbrev pub completed_with : TrbProcessingResult → ℕ → CompletionAnswered
completed_with result.Ok n = plain 0 (result_code result.Ok) n
completed_with result.Stall n = plain 1 (result_code result.Stall) n
completed_with (result.StallAt a c) n = located 1 (result_code (result.StallAt a c)) a c n
completed_with result.TransactionError n = plain 2 (result_code result.TransactionError) n
completed_with (result.TransactionErrorAt a c) n = located 2 (result_code (result.TransactionErrorAt a c)) a c n
completed_with result.Disconnect n = plain 3 (result_code result.Disconnect) n
completed_with result.TrbError n = plain 4 (result_code result.TrbError) n

-- a refused call has no result
abbrev pub completion_answered : CompletionAnswer → ℕ → CompletionAnswered
completion_answered (Ok r) n = completed_with r n
completion_answered (Err q) n = record { number = refusal_number q; result = 0; code = 0; located = 0; cycle_bit = 0; records = n; address = 0 }
