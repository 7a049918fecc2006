-- The first records of a log, as bytes: what a call logged, where the log is a whole buffer. Assumes nothing.
use Rattle.std.specs.Prelude.{ℕ, ◌*◌, List, take}
use Rattle.trb.specs.Limits.{record_length}

-- the bytes of the first k records of the log l, or all of one that has not so many
abbrev pub first_records : ℕ → List ℕ → List ℕ
first_records k l = take (record_length * k) l
