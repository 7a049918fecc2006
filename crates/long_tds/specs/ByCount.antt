-- 02, R-5: long scatter lists. What is said of a TD by the number of its TRBs. Assumes nothing.
use Rattle.std.specs.Prelude.{ℕ, ◌+◌, ◌*◌, ◌≤◌, ◌≡◌, Bool, true, ◌&&◌, cond, List, eqb, leb, length}
use Rattle.trb.specs.Limits.{max_transfer_length}
use Rattle.trb.specs.Trbs.{transfer_length}
use Rattle.trb.specs.declared.EndpointId.{EndpointId}
use Rattle.trb.specs.declared.InTrbProcessingStatus.{InTrbProcessingStatus}
use Rattle.trb.specs.declared.SlotId.{SlotId}
use Rattle.trb.specs.declared.TransferTrb.{TransferTrb}
use Rattle.call_log.specs.Records.{event_kind}
use Rattle.call_log.specs.declared.Record.{Record}
use Rattle.walks.specs.All.{all}
use Rattle.td_part.specs.declared.TdProcessingState.{TdProcessingState}
use Rattle.td_part.specs.declared.TdProcessingState.TheVariants.{Default, ShortTransfer}
use Rattle.td_part.specs.declared.TdProgress.{TdProgress}
use Rattle.in_td.specs.Td.{process_td, in_td}
use Rattle.in_td.specs.declared.InMode.{InMode}
use Rattle.account.specs.Guest.{Distinct, IspOnNormals, LastNormalWithIoc, Account}

-- 01, Submission: the length of a DataStage or Normal TRB at most 131,071
abbrev pub fitting : TransferTrb → Bool
fitting t = leb (transfer_length t.variant) max_transfer_length

-- residuals do not wrap: that of a TRB's event is no more than a TRB's length. An event of Event Data has the EDTLA in its place
abbrev pub residual_fits : Record → Bool
residual_fits r = cond (eqb r.kind event_kind && eqb r.flag 0) (leb r.length max_transfer_length) true

-- the residual that later Normals repeat
abbrev pub kept_fits : TdProcessingState → Bool
kept_fits Default = true
kept_fits (ShortTransfer missing) = leb missing max_transfer_length

-- behind m more TRBs: the EDTLA grew by at most their lengths, and every residual, logged or kept, fits
pub record Bounded (m : ℕ) (w w' : TdProgress) (rs : List Record) : Type 0 where
  pub edtla : w'.edtla ≤ w.edtla + max_transfer_length * m
  pub kept : kept_fits w'.state ≡ true
  pub residuals : all residual_fits rs ≡ true

-- of every IN TD of at most m TRBs, in either mode: the account rule, two records for each TRB, and residuals that fit
pub record OfTds (m : ℕ) : Type 0 where
  pub account : (e : EndpointId) (s : SlotId) (mode : InMode) (st : InTrbProcessingStatus) (n : ℕ) (ts : List TransferTrb) → length ts ≤ m
      → Distinct ts → IspOnNormals ts → LastNormalWithIoc ts → Account n ts (process_td (in_td e s mode st n) ts).records
  pub records : (e : EndpointId) (s : SlotId) (mode : InMode) (st : InTrbProcessingStatus) (n : ℕ) (ts : List TransferTrb) → length ts ≤ m
      → length (process_td (in_td e s mode st n) ts).records ≤ 2 * m
  pub residuals : (e : EndpointId) (s : SlotId) (mode : InMode) (st : InTrbProcessingStatus) (n : ℕ) (ts : List TransferTrb) → length ts ≤ m
      → all fitting ts ≡ true → all residual_fits (process_td (in_td e s mode st n) ts).records ≡ true
