-- 02, R-7: the questions asked of a row, in their order. Assumes nothing.
use Rattle.std.specs.Prelude.{ℕ, ◌+◌, Bool, true, false, not, cond, ◌&&◌, ◌||◌, List, [], ◌∷◌, ◌++◌, leb, eqb, length}
use Rattle.trb.specs.Limits.{max_data, max_row, min_row_log}
use Rattle.trb.specs.Trbs.{chain_of}
use Rattle.trb.specs.declared.InTrbProcessingStatus.{InTrbProcessingStatus}
use Rattle.trb.specs.declared.InTrbProcessingStatus.TheVariants.{Disconnect, Stall, TransactionError, Success}
use Rattle.trb.specs.declared.TransferTrb.{TransferTrb}
use Rattle.held.specs.Sound.{supported}
use Rattle.held.specs.declared.EndpointKind.TheVariants.{In}
use Rattle.guest_memory.specs.declared.Regions.{Regions}
use Rattle.guest_memory.specs.Regions.{share_an_address}
use Rattle.walks.specs.All.{all}
use Rattle.in_block.specs.Facts.{submission_due, sound_block}
use Rattle.in_block.specs.declared.BlockFacts.{BlockFacts}
use Rattle.in_questions.specs.Questions.{trb_questions}
use Rattle.row_walk.specs.declared.TdResult.{TdResult}
use Rattle.row_walk.specs.Rows.{RowTd, row_tds, has_normal, data_length}
use Rattle.row_walk.specs.Tds.{tds_of, endsTd}

-- ---- 4, 21, 5 and 6, TRB by TRB in row order

-- of TRBs behind h others of their TD: those of a submission
unfoldable pub each_trb : Regions → ℕ → List TransferTrb → List (Bool × ℕ)
each_trb regions h [] = []
each_trb regions h (t ∷ ts) = trb_questions h t.variant regions ++ each_trb regions (cond (chain_of t.variant) (h + 1) 0) ts

-- ---- 15

abbrev pub is_success : InTrbProcessingStatus → Bool
is_success Disconnect = false
is_success Stall = false
is_success TransactionError = false
is_success Success = true

-- a TD without a Normal is given nothing but Success and length 0
abbrev pub may_be_given : Bool → TdResult → Bool
may_be_given normal r = normal || (is_success r.status && eqb r.length 0)

abbrev pub given_rightly : RowTd → Bool
given_rightly x = may_be_given (has_normal x.trbs) x.given

-- Normal, EventData or NoOp
abbrev pub in_supported : TransferTrb → Bool
in_supported t = supported In t.variant

-- of k TRBs ts, with m results rs and n bytes of data: the row is not over 512 TRBs, has none other than Normal, EventData and NoOp, splits
-- into whole TDs, has lengths that match its TDs and data, and gives a TD without a Normal nothing but Success and length 0
unfoldable pub row_shaped : ℕ → List TransferTrb → ℕ → List TdResult → ℕ → Bool
row_shaped k ts m rs n =
    leb k max_row
    && (all in_supported ts && (endsTd ts && (eqb (length (tds_of ts)) m && (eqb (data_length rs) n && all given_rightly (row_tds ts rs)))))

-- ---- In order

-- 3 also that the block holds nothing
abbrev pub row_due : BlockFacts → Bool
row_due f = submission_due f.state && eqb f.held 0

-- 1, 13, 2 and 3 come first, 1 asking for a log of 49,152 bytes; 15 follows; then, TRB by TRB in row order, 4 to 6, and last 9 of the joined
-- data
unfoldable pub row_questions : ℕ → Regions → BlockFacts → ℕ → List TransferTrb → ℕ → List TdResult → ℕ → List (Bool × ℕ)
row_questions l regions f k ts m rs n =
    (leb min_row_log l, 1)
    ∷ (not (share_an_address regions), 13)
    ∷ (sound_block f, 2)
    ∷ (row_due f, 3)
    ∷ (row_shaped k ts m rs n, 15)
    ∷ (each_trb regions 0 ts ++ (leb n max_data, 9) ∷ [])
