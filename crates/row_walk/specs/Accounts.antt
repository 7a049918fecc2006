-- 02, R-7: the account rule, stated for each TD of a row that was started. Assumes nothing.
use Rattle.std.specs.Prelude.{ℕ, ◌+◌, ◌≤◌, min, ◌≡◌, true, false, cond, List, [], ◌∷◌, ◌++◌, map, length, take}
use Rattle.trb.specs.declared.EndpointId.{EndpointId}
use Rattle.trb.specs.declared.SlotId.{SlotId}
use Rattle.trb.specs.declared.TransferTrb.{TransferTrb}
use Rattle.trb.specs.declared.TrbProcessingResult.{TrbProcessingResult}
use Rattle.call_log.specs.declared.Record.{Record}
use Rattle.in_td.specs.Td.{is_error}
use Rattle.in_td.specs.declared.InMode.{InMode}
use Rattle.in_td.specs.Normals.{requested}
use Rattle.account.specs.Guest.{places, Distinct, IspOnNormals, LastNormalWithIoc, is_write, is_event, any, relied, sum_for, residual_in, account, names_held, before, later, numbered, bytes}
use Rattle.row_walk.specs.Rows.{RowTd, moved_by, completed, own_log}

-- `Account` of a TD whose data starts at byte `start` of the joined data: the writes are the bytes from there on. (From 0 it is `Account`:
-- AccountLaws, `account-from-front`.)
pub record AccountFrom (start n : ℕ) (ts : List TransferTrb) (rs : List Record) : Type 0 where
  pub held : names_held ts (relied rs) ≡ true
  pub covered : residual_in (relied rs) ≤ sum_for ts (relied rs)
  pub exact : account ts rs ≡ min n (requested ts)
  pub has_event : any is_event rs ≡ true
  pub placed : bytes (before rs) ≡ numbered start (take (min n (requested ts)) (places ts))
  pub none_later : any is_write (later rs) ≡ false

-- 00, demand 3, of one TD of a row
abbrev pub AccountedTd : ℕ → RowTd → List Record → Type 0
AccountedTd start x rs = Distinct x.trbs → IspOnNormals x.trbs → LastNormalWithIoc x.trbs → AccountFrom start x.given.length x.trbs rs

-- the logs of the TDs that are started, from byte `start` of the joined data on: none behind a TD that fails
unfoldable pub started_logs : EndpointId → SlotId → InMode → ℕ → List RowTd → List (List Record)
started_logs e s mode start [] = []
started_logs e s mode start (x ∷ xs) =
    map (moved_by start) (own_log e s mode x)
    ∷ cond (is_error (completed e s mode x).state.result) [] (started_logs e s mode (start + x.given.length) xs)

-- one behind the other
unfoldable pub joined : List (List Record) → List Record
joined [] = []
joined (l ∷ ls) = l ++ joined ls

-- each log of a TD that was started is accounted for; those behind were not started
unfoldable pub EachAccounted : ℕ → List RowTd → List (List Record) → Type 0
EachAccounted start xs [] = Unit {0}
EachAccounted start [] (l ∷ ls) = ⊥
EachAccounted start (x ∷ xs) (l ∷ ls) = AccountedTd start x l × EachAccounted (start + x.given.length) xs ls

-- TDs that were started: those finished well, and the one that failed
abbrev pub started_by : ℕ → TrbProcessingResult → ℕ
started_by finished result = cond (is_error result) (finished + 1) finished

-- of the records rs of a row whose TDs are xs: they fall into the logs of the TDs that were started, each accounted for
pub record RowAccounted (xs : List RowTd) (started : ℕ) (rs : List Record) : Type 0 where
  pub logs : List (List Record)
  pub split : rs ≡ joined logs
  pub count : length logs ≡ started
  pub each : EachAccounted 0 xs logs
