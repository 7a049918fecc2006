-- A log printed piece by piece. Assumes nothing.
use Rattle.std.specs.Prelude.{ℕ, ◌%◌, true, ◌≡◌, List, [], ◌∷◌, map, length}
use Rattle.trb.specs.Limits.{record_length}
use Rattle.log_check.specs.WellFormed.{well_formed}
use Rattle.kept_records.specs.Rows.{bytes_of}
use Rattle.stored_logs.specs.Stored.{lines_of}

-- each piece is of whole records
abbrev pub AllWhole : List (List ℕ) → Type 0
AllWhole [] = Unit {0}
AllWhole (p ∷ ps) = (length p % record_length ≡ 0) × AllWhole ps

-- question 10 is answered yes of each piece
abbrev pub AllFormed : List (List ℕ) → Type 0
AllFormed [] = Unit {0}
AllFormed (p ∷ ps) = (well_formed p ≡ true) × AllFormed ps

-- of the pieces of a log: none is refused with 10, and their lines, one behind the other, are the log's
pub record InPieces (ps : List (List ℕ)) : Type 0 where
  pub formed : AllFormed ps
  pub text : bytes_of (map lines_of ps) ≡ lines_of (bytes_of ps)
