-- What is said of the TRBs that a block holds. Assumes nothing.
use Rattle.std.specs.Prelude.{ℕ, ◌+◌, Bool, not, List, [], ◌∷◌}
use Rattle.trb.specs.Trbs.{transfer_length, immediate_of}
use Rattle.trb.specs.declared.TransferTrb.{TransferTrb}

-- 02, R-14: what it moves, if anything, lies in guest memory and not in the TRB
abbrev pub from_memory : TransferTrb → Bool
from_memory t = not (immediate_of t.variant)

-- the lengths of these TRBs, added up
abbrev pub lengths : List TransferTrb → ℕ
lengths [] = 0
lengths (t ∷ ts) = transfer_length t.variant + lengths ts
