-- 01, The log: records one behind the other. Assumes nothing.
use Rattle.std.specs.Prelude.{ℕ, zero, suc, ◌*◌, List, [], ◌∷◌, ◌++◌, drop}
use Rattle.buffers.specs.Patch.{patch}
use Rattle.trb.specs.Limits.{record_length}
use Rattle.call_log.specs.declared.Record.{Record}
use Rattle.call_log.specs.Records.{encode, decode, Fits}

-- the bytes of several records
unfoldable pub encode_all : List Record → List ℕ
encode_all [] = []
encode_all (r ∷ rs) = encode r ++ encode_all rs

-- the log l with the records rs from record number k on; bytes behind them do not change
unfoldable pub logged : List ℕ → ℕ → List Record → List ℕ
logged l k rs = patch l (record_length * k) (encode_all rs)

-- the first n records of the log l
abbrev pub records_in : ℕ → List ℕ → List Record
records_in zero l = []
records_in (suc n) l = decode l ∷ records_in n (drop record_length l)

-- every number of every record fits its bytes
abbrev pub AllFit : List Record → Type 0
AllFit [] = Unit {0}
AllFit (r ∷ rs) = Fits r × AllFit rs
