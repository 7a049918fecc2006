-- Completion codes and their numbers. Assumes nothing.
use Rattle.std.specs.Prelude.{ℕ}
use Rattle.trb.specs.declared.CompletionCode.{CompletionCode}
use Rattle.trb.specs.declared.CompletionCode.TheVariants.{Success, UsbTransactionError, TrbError, StallError, ShortPacket}

-- xHCI 1.2, table 6-90
abbrev pub code_number : CompletionCode → ℕ
code_number Success = 1
code_number UsbTransactionError = 4
code_number TrbError = 5
code_number StallError = 6
code_number ShortPacket = 13
