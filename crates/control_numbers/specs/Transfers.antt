-- 01, Control endpoint: what a TRB that begins no transfer adds to it. Assumes nothing.
use Rattle.std.specs.Prelude.{ℕ, cond}
use Rattle.phase_table.specs.declared.Outcome.{Outcome}
use Rattle.phase_table.specs.Outcomes.{holds}
use Rattle.control_transfer.specs.declared.TrbData.{TrbData}
use Rattle.control_transfer.specs.Data.{size_of}

-- the bytes that a TRB of this data counts for, where it is held
abbrev pub size_taken : Outcome → TrbData → ℕ
size_taken o d = cond (holds o) (size_of d) 0
