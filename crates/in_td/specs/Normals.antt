-- The Normals of a list, and the bytes that they ask for. Assumes nothing.
use Rattle.std.specs.Prelude.{ℕ, ◌+◌, List, [], ◌∷◌}
use Rattle.std.proofs.Math.Option.{Option, none, some}
use Rattle.trb.specs.declared.NormalTrb.{NormalTrb}
use Rattle.trb.specs.declared.TransferTrb.{TransferTrb}
use Rattle.trb.specs.declared.TransferTrbVariant.{TransferTrbVariant}
use Rattle.trb.specs.declared.TransferTrbVariant.TheVariants.{SetupStage, DataStage, StatusStage, Normal, EventData, NoOp, Isoch, Unrecognized}

-- the Normal that a TRB is, if it is one
abbrev pub normal_of : TransferTrbVariant → Option NormalTrb
normal_of (SetupStage t) = none
normal_of (DataStage t) = none
normal_of (StatusStage t) = none
normal_of (Normal t) = some t
normal_of (EventData t) = none
normal_of (NoOp t) = none
normal_of Isoch = none
normal_of Unrecognized = none

abbrev pub length_of : Option NormalTrb → ℕ
length_of none = 0
length_of (some t) = t.transfer_length

-- a Normal's length; another TRB counts 0
abbrev pub normal_length : TransferTrb → ℕ
normal_length t = length_of (normal_of t.variant)

-- 00, demand 3: S, the bytes requested, is the sum of the list's Normal lengths
abbrev pub requested : List TransferTrb → ℕ
requested [] = 0
requested (t ∷ ts) = normal_length t + requested ts
