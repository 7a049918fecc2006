-- The numbers of the questions of documents 01 and 02. Assumes nothing.
use Rattle.std.specs.Prelude.{ℕ}
use Rattle.trb.specs.declared.Refusal.{Refusal}
use Rattle.trb.specs.declared.Refusal.TheVariants.{BufferTooShort, UnsoundBlock, OutOfTurn, TransferTooLong, TooManyHeld, OutsideGuestMemory, TooMuchCollected, DeviceResultMismatch, DataTooLong, MalformedLog, WriteOutOfRange, IdOutOfRange, RegionsOverlap, OutputTooShort, MalformedRow, NotACapture, NotConvertible, LinkTypesDiffer, TimesGoBackwards, ImmediateInput, NotEncodable}

-- 01, Questions asked; 02, each request that has one
abbrev pub refusal_number : Refusal → ℕ
refusal_number BufferTooShort = 1
refusal_number UnsoundBlock = 2
refusal_number OutOfTurn = 3
refusal_number TransferTooLong = 4
refusal_number TooManyHeld = 5
refusal_number OutsideGuestMemory = 6
refusal_number TooMuchCollected = 7
refusal_number DeviceResultMismatch = 8
refusal_number DataTooLong = 9
refusal_number MalformedLog = 10
refusal_number WriteOutOfRange = 11
refusal_number IdOutOfRange = 12
refusal_number RegionsOverlap = 13
refusal_number OutputTooShort = 14
refusal_number MalformedRow = 15
refusal_number NotACapture = 17
refusal_number NotConvertible = 18
refusal_number LinkTypesDiffer = 19
refusal_number TimesGoBackwards = 20
refusal_number ImmediateInput = 21
refusal_number NotEncodable = 23
