-- `polvihe::polvihe_decode_trb` meets its contract: the numbers say the TRB of the bytes, whatever its address. Assumes nothing.
use mathlib.Core.Path.{ap}
use Rattle.trb.specs.declared.TransferTrb.{TransferTrb}
use Rattle.polvihe.proofs.polvihe_decode_trb.Goals as goal

pub returns : goal.returns
returns c a = ap (λ (t : TransferTrb). record { variant = t.variant; addr = a; cycle_bit = t.cycle_bit }) c.decode_trb-numbers.ensures
