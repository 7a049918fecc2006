-- What a call makes of a state and a log: the form of every contract above this crate. Assumes nothing.
use Rattle.std.specs.Prelude.{ℕ, ◌+◌, ◌≡◌, List, [], length}
use Rattle.call_log.specs.declared.Record.{Record}
use Rattle.call_log.specs.Logs.{logged, AllFit}

-- what is to come of a call: the value that it returns, and the records that it logs
pub record Out (S : Type 0) : Type 0 where
  pub state : S
  pub records : List Record

-- a call that logs nothing
abbrev pub silent : {S : Type 0} → S → Out S
silent s = record { state = s; records = [] }

-- a call that returns the number of records, of which there were k before
abbrev pub counted : ℕ → List Record → Out ℕ
counted k rs = record { state = k + length rs; records = rs }

-- the log l became l', with the records rs from record number k on, each of which fits its bytes
pub record Put (l : List ℕ) (k : ℕ) (rs : List Record) (l' : List ℕ) : Type 0 where
  pub log : l' ≡ logged l k rs
  pub fits : AllFit rs

-- of a call that was to be o, with k records in the log l: it returned r and left the log l'
pub record Meets {S : Type 0} (o : Out S) (k : ℕ) (l : List ℕ) (r : S) (l' : List ℕ) : Type 0 where
  pub state : r ≡ o.state
  pub log : l' ≡ logged l k o.records
  pub fits : AllFit o.records
