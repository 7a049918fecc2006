-- The number and the values that document 01 gives to each case of an answer. Assumes nothing.
use Rattle.std.specs.Prelude.{ℕ, Bool, true, false, cond, List, [], ◌∷◌, eqb, Result, Ok, Err}
use Rattle.trb.specs.Codes.{code_number}
use Rattle.trb.specs.Refusals.{refusal_number}
use Rattle.trb.specs.declared.CompletionCode.TheVariants as code
use Rattle.trb.specs.declared.Refusal.{Refusal}
use Rattle.trb.specs.declared.Refusal.TheVariants.{BufferTooShort, UnsoundBlock, OutOfTurn, TransferTooLong, TooManyHeld, OutsideGuestMemory, TooMuchCollected, DeviceResultMismatch, DataTooLong, MalformedLog, WriteOutOfRange, IdOutOfRange, RegionsOverlap, OutputTooShort, MalformedRow, NotACapture, NotConvertible, LinkTypesDiffer, TimesGoBackwards, ImmediateInput, NotEncodable}
use Rattle.trb.specs.declared.TrbProcessingResult.{TrbProcessingResult}
use Rattle.trb.specs.declared.TrbProcessingResult.TheVariants as result

-- ---- Answers

-- of creation, submission and carry-out
abbrev pub Answer : Type 0
Answer = Result Unit Refusal

-- of a completion
abbrev pub CompletionAnswer : Type 0
CompletionAnswer = Result TrbProcessingResult Refusal

-- ---- Numbers

-- of any answer: 0 where the call is accepted
abbrev pub number_of : {A : Type 0} → Result A Refusal → ℕ
number_of (Ok a) = 0
number_of (Err r) = refusal_number r

-- every question was answered yes
abbrev pub is_accepted : Answer → Bool
is_accepted (Ok tt) = true
is_accepted (Err r) = false

-- ---- The refusal with a number

abbrev pub refusals : List Refusal
refusals =
    BufferTooShort ∷ UnsoundBlock ∷ OutOfTurn ∷ TransferTooLong ∷ TooManyHeld ∷ OutsideGuestMemory ∷ TooMuchCollected ∷ DeviceResultMismatch ∷ DataTooLong
    ∷ MalformedLog ∷ WriteOutOfRange ∷ IdOutOfRange ∷ RegionsOverlap ∷ OutputTooShort ∷ MalformedRow ∷ NotACapture ∷ NotConvertible ∷ LinkTypesDiffer ∷ TimesGoBackwards ∷ ImmediateInput ∷ NotEncodable ∷ []

-- the first of these that has the number n; a number that none has stands for the first question
abbrev pub numbered : ℕ → List Refusal → Refusal
numbered n [] = BufferTooShort
numbered n (r ∷ rs) = cond (eqb (refusal_number r) n) r (numbered n rs)

unfoldable pub refusal_of : ℕ → Refusal
refusal_of n = numbered n refusals

-- ---- Values of a result

-- 01, IN endpoint: the completion code of a failure, 0 for Ok
abbrev pub result_code : TrbProcessingResult → ℕ
result_code result.Ok = 0
result_code result.Stall = code_number code.StallError
result_code (result.StallAt a c) = code_number code.StallError
result_code result.TrbError = code_number code.TrbError
result_code result.TransactionError = code_number code.UsbTransactionError
result_code (result.TransactionErrorAt a c) = code_number code.UsbTransactionError
result_code result.Disconnect = code_number code.UsbTransactionError

-- 01, IN endpoint: Stall and TransactionError carry address and cycle bit; Control endpoint: the result carries no address
pub record Carried : Type 0 where
  pub address : ℕ
  pub cycle : Bool

abbrev pub carried_by : TrbProcessingResult → List Carried
carried_by result.Ok = []
carried_by result.Stall = []
carried_by (result.StallAt a c) = record { address = a; cycle = c } ∷ []
carried_by result.TrbError = []
carried_by result.TransactionError = []
carried_by (result.TransactionErrorAt a c) = record { address = a; cycle = c } ∷ []
carried_by result.Disconnect = []

-- what an answer's result says: its code, and what it carries; of a refusal nothing
pub record Said : Type 0 where
  pub code : ℕ
  pub carried : List Carried

abbrev pub said : CompletionAnswer → List Said
said (Ok r) = record { code = result_code r; carried = carried_by r } ∷ []
said (Err q) = []
