-- 02, R-10: the shapes, by 01's phase table alone. Assumes nothing.
use Rattle.std.specs.Prelude.{Bool, ◌≡◌, List, map}
use Rattle.trb.specs.declared.ControlTransferState.TheVariants.{ExpectSetupStageTrb}
use Rattle.trb.specs.declared.TransferTrb.{TransferTrb}
use Rattle.phase_table.specs.Leads.{entry_of, leads}
use Rattle.shapes.specs.Letters.{Word, letter_entry}

-- 02: reaches a request without a TRB error, from its only Setup to the last TRB
abbrev pub is_shape : Word → Bool
is_shape w = leads ExpectSetupStageTrb (map letter_entry w)

-- the word says kind and chain bit of each of the TRBs
abbrev pub Spells : Word → List TransferTrb → Type 0
Spells w ts = map entry_of ts ≡ map letter_entry w
