-- What question 7 tells of a TRB whose bytes are collected. Assumes nothing.
use Rattle.std.proofs.Common.{◌≡◌, ℕ, ◌+◌, ◌≤◌, Bool, true, leb-true}
use Rattle.trb.specs.Limits.{max_collected}
use Rattle.phase_table.specs.declared.Outcome.{Outcome}
use Rattle.control_transfer.specs.declared.TrbData.{TrbData}
use Rattle.control_transfer.specs.Data.{size_of}
use Rattle.control_transfer.specs.Transfers.{collects, collectable}

-- they fit behind those already collected
pub collectable-size : (o : Outcome) (input : Bool) (collected : ℕ) (d : TrbData) → collectable o input collected d ≡ true → collects o input ≡ true
    → collected + size_of d ≤ max_collected
collectable-size o input collected d asked due = leb-true _ _ (rw due at asked)
