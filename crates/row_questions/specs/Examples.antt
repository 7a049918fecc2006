-- Rows that are refused, each reason of 15 among them, computed on the questions. Assumes nothing.
use Rattle.std.specs.Prelude.{ℕ, suc, ◌≡◌, refl, Bool, true, false, List, [], ◌∷◌, map, length, replicate}
use Rattle.trb.specs.Ids.{ids_in_range}
use Rattle.trb.specs.Limits.{max_row, min_row_log}
use Rattle.trb.specs.Questions.{first_no}
use Rattle.trb.specs.declared.InTrbProcessingStatus.{InTrbProcessingStatus}
use Rattle.trb.specs.declared.InTrbProcessingStatus.TheVariants.{Success, Stall}
use Rattle.trb.specs.declared.TdBasedNormalSubmissionState.{TdBasedNormalSubmissionState}
use Rattle.trb.specs.declared.TdBasedNormalSubmissionState.TheVariants.{SubmissionDue, CollectingTd}
use Rattle.trb.specs.declared.TransferTrb.{TransferTrb}
use Rattle.trb.specs.declared.TransferTrbVariant.{TransferTrbVariant}
use Rattle.trb.specs.declared.TransferTrbVariant.TheVariants.{Normal, NoOp, Isoch}
use Rattle.guest_memory.specs.declared.Regions.{Regions}
use Rattle.guest_memory.specs.Regions.{guest_regions, share_an_address, shares_at, holds}
use Rattle.guest_memory.specs.Places.{in_region, place_of, range_inside}
use Rattle.walks.specs.All.{all}
use Rattle.in_block.specs.Facts.{sound_block}
use Rattle.in_block.specs.declared.BlockFacts.{BlockFacts}
use Rattle.row_walk.specs.declared.TdResult.{TdResult}
use Rattle.row_walk.specs.Rows.{with_results, data_length}
use Rattle.row_walk.specs.Tds.{tds_of, endsTd}
use Rattle.row_questions.specs.Questions.{each_trb, row_shaped, row_questions}

abbrev at : TransferTrbVariant → TransferTrb
at v = record { variant = v; addr = 0x1000; cycle_bit = true }

-- of so many bytes at this pointer
abbrev normal : Bool → Bool → ℕ → ℕ → TransferTrb
normal chained immediate pointer n =
    at (Normal (record { data_pointer = pointer; transfer_length = n; interrupt_on_short = true; chain = chained; interrupt_on_completion = true; immediate_data = immediate }))

abbrev plain : TransferTrb
plain = normal false false 0x8000 512

abbrev no_op : TransferTrb
no_op = at (NoOp (record { chain = false; interrupt_on_completion = true }))

abbrev gave : InTrbProcessingStatus → ℕ → TdResult
gave st n = record { status = st; length = n }

abbrev facts : ℕ → TdBasedNormalSubmissionState → ℕ → BlockFacts
facts e x held = record { endpoint_id = record { 0 = e }; slot_id = record { 0 = 2 }; state = x; held = held; found = record { sound = true; normals = 0 } }

-- a row, as it is asked
pub record Asked : Type 0 where
  pub log : ℕ
  pub regions : Regions
  pub facts : BlockFacts
  pub trbs : List TransferTrb
  pub results : List TdResult
  pub bytes : ℕ

-- with room in the log, the window from 0x8000 on, and a block that holds nothing
abbrev row : List TransferTrb → List TdResult → ℕ → Asked
row ts rs n = record { log = min_row_log; regions = guest_regions 0x8000 0x40000 0 0; facts = facts 3 SubmissionDue 0; trbs = ts; results = rs; bytes = n }

abbrev number : Asked → ℕ
number a = first_no (row_questions a.log a.regions a.facts (length a.trbs) a.trbs (length a.results) a.results a.bytes)

abbrev wrong : List TransferTrb
wrong = normal false true 0x9000 131072 ∷ []

-- with the number that each has
pub answers :
    map number
    (row (plain ∷ no_op ∷ []) (gave Stall 600 ∷ gave Success 0 ∷ []) 600
    ∷ row [] [] 0
    -- 1, 13, 2 and 3 come first
    ∷ record { log = 49151; regions = guest_regions 0x8000 16 0x800f 1; facts = facts 0 CollectingTd 1; trbs = []; results = []; bytes = 1 }
    ∷ record { log = 49152; regions = guest_regions 0x8000 16 0x800f 1; facts = facts 0 CollectingTd 1; trbs = []; results = []; bytes = 1 }
    ∷ record { log = 49152; regions = guest_regions 0x8000 16 0x8010 1; facts = facts 0 CollectingTd 1; trbs = []; results = []; bytes = 1 }
    ∷ record { log = 49152; regions = guest_regions 0x8000 16 0x8010 1; facts = facts 3 CollectingTd 0; trbs = []; results = []; bytes = 1 }
    ∷ record { log = 49152; regions = guest_regions 0x8000 16 0x8010 1; facts = facts 3 SubmissionDue 1; trbs = []; results = []; bytes = 1 }
    -- 15: another kind; no whole TD; a result too few, and one too many; lengths that do not add up; a TD without a Normal that is given a byte, or a stall
    ∷ row (plain ∷ at Isoch ∷ []) (gave Success 0 ∷ gave Success 0 ∷ []) 0
    ∷ row (plain ∷ normal true false 0x8000 512 ∷ []) (gave Success 0 ∷ gave Success 0 ∷ []) 0
    ∷ row (plain ∷ plain ∷ []) (gave Success 600 ∷ []) 600
    ∷ row (plain ∷ []) (gave Success 600 ∷ gave Success 0 ∷ []) 600
    ∷ row (plain ∷ []) (gave Success 600 ∷ []) 601
    ∷ row (no_op ∷ []) (gave Success 1 ∷ []) 1
    ∷ row (no_op ∷ []) (gave Stall 0 ∷ []) 0
    -- 15 before 4, 4 before 21, 21 before 6, TRB by TRB, and 9 last
    ∷ row wrong (gave Success 1 ∷ []) 2
    ∷ row wrong (gave Success 67108353 ∷ []) 67108353
    ∷ row (normal false true 0x1000 512 ∷ []) (gave Success 0 ∷ []) 0
    ∷ row (normal false false 0x1000 512 ∷ wrong) (gave Success 0 ∷ gave Success 0 ∷ []) 0
    ∷ row (plain ∷ []) (gave Success 67108353 ∷ []) 67108353
    ∷ row (plain ∷ []) (gave Success 67108352 ∷ []) 67108352
    ∷ [])
    ≡ 0 ∷ 0 ∷ 1 ∷ 13 ∷ 2 ∷ 3 ∷ 3 ∷ 15 ∷ 15 ∷ 15 ∷ 15 ∷ 15 ∷ 15 ∷ 15 ∷ 15 ∷ 4 ∷ 21 ∷ 6 ∷ 9 ∷ 0 ∷ []
unfolding row_questions row_shaped each_trb first_no all tds_of endsTd with_results data_length sound_block ids_in_range share_an_address shares_at holds range_inside place_of in_region
answers = refl

-- 512 TRBs may pass, 513 may not
pub longest : map (λ (k : ℕ). number (row (replicate k plain) (replicate k (gave Success 0)) 0)) (max_row ∷ suc max_row ∷ []) ≡ 0 ∷ 15 ∷ []
unfolding row_questions row_shaped each_trb first_no all tds_of endsTd with_results data_length sound_block ids_in_range share_an_address shares_at holds range_inside place_of in_region
longest = refl
