-- 01, Carry-out: is the log a multiple of 32 bytes with every kind 1, 2 or 3? Assumes nothing.
use Rattle.std.specs.Prelude.{ℕ, ◌/◌, ◌%◌, Bool, true, ◌&&◌, ◌||◌, List, [], ◌∷◌, eqb, length}
use Rattle.trb.specs.Limits.{record_length}
use Rattle.call_log.specs.declared.Record.{Record}
use Rattle.call_log.specs.Records.{write_kind, event_kind, request_kind}
use Rattle.call_log.specs.Logs.{records_in}

-- a kind that is 1, 2 or 3
unfoldable pub kind_known : ℕ → Bool
kind_known k = eqb k write_kind || (eqb k event_kind || eqb k request_kind)

-- every kind is known
abbrev pub kinds_known : List Record → Bool
kinds_known [] = true
kinds_known (r ∷ rs) = kind_known r.kind && kinds_known rs

-- whole records, each of a known kind
unfoldable pub well_formed : List ℕ → Bool
well_formed l = eqb (length l % record_length) 0 && kinds_known (records_in (length l / record_length) l)
