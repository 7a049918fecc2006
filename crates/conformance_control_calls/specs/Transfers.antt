-- A control transfer by calls: each TRB is submitted, and while TRBs are being collected its completion is asked for, with no device result. Assumes nothing.
use Rattle.std.specs.Prelude.{ℕ, Bool, true, false, ◌≡◌, List, [], ◌∷◌, ◌++◌, length, None, Option, Some}
use Rattle.trb.specs.Limits.{max_held}
use Rattle.trb.specs.Questions.{first_no}
use Rattle.trb.specs.declared.ControlRequestProcessingResult.{ControlRequestProcessingResult}
use Rattle.trb.specs.declared.ControlRequestProcessingResult.TheVariants.{SuccessfulControlIn, SuccessfulControlOut}
use Rattle.trb.specs.declared.ControlSubmissionState.TheVariants.{NoTrbSubmitted, AwaitingControlRequest}
use Rattle.trb.specs.declared.ControlTransferState.TheVariants.{ExpectSetupStageTrb}
use Rattle.trb.specs.declared.TransferTrb.{TransferTrb}
use Rattle.trb.specs.declared.TransferTrbVariant.{TransferTrbVariant}
use Rattle.trb.specs.declared.TransferTrbVariant.TheVariants.{SetupStage, DataStage, StatusStage, Normal, EventData, NoOp, Isoch, Unrecognized}
use Rattle.call_log.specs.Calls.{Out}
use Rattle.call_log.specs.Records.{control_request}
use Rattle.call_log.specs.declared.Record.{Record}
use Rattle.walks.specs.All.{all}
use Rattle.guest_memory.specs.declared.Regions.{Regions}
use Rattle.guest_memory.specs.Places.{Memory, regions_of, bytes_at}
use Rattle.control_block.specs.Blocks.{held_of}
use Rattle.control_block.specs.Facts.{facts_of}
use Rattle.control_block.specs.declared.ControlBlock.{ControlBlock}
use Rattle.control_questions.specs.Completion.{is_given, completion_questions}
use Rattle.control_endpoint.specs.Completion.{completion}
use Rattle.control_endpoint.specs.Submission.{questions_of, submission, bytes_collected}
use Rattle.control_endpoint.specs.Returned.{Completed}
use Rattle.control_endpoint.specs.Returned.{Submitted}
use Rattle.standard.specs.Control.{control_events, sent_whole, Source, buffer, immediate, immediate_allowed, outgoing}
use Rattle.standard.specs.Usb.{Setup, to_host}
use Rattle.standard.specs.Xhci.{repeated_residual, deliveries}
use Rattle.conformance.specs.Requests.{setup_trb, Sized, Requests, transfer_behind}
use Rattle.conformance.specs.Translate.{told, wrote}
use Rattle.conformance.specs.TranslateControl.{Chain, trbs_of, stages_of, chain_events}

-- what calls are lent: a log and a collect buffer of these lengths, and guest memory in these regions
pub record Lent : Type 0 where
  pub log : ℕ
  pub collect : ℕ
  pub regions : Regions

abbrev pub submitted : Lent → ControlBlock → TransferTrb → Out Submitted
submitted lent b t = submission lent.log lent.collect b t lent.regions

-- the completion behind it, while TRBs are being collected
abbrev pub collecting : Lent → ControlBlock → TransferTrb → Out Completed
collecting lent b t = completion lent.log (submitted lent b t).state.block None 0

-- every call is accepted: each question is answered with yes
unfoldable pub EachAccepted : Lent → ControlBlock → List TransferTrb → Type 0
EachAccepted lent b [] = Unit {0}
EachAccepted lent b (t ∷ []) = first_no (questions_of lent.log lent.collect b t lent.regions) ≡ 0
EachAccepted lent b (t ∷ u ∷ ts) =
    (first_no (questions_of lent.log lent.collect b t lent.regions) ≡ 0)
    × ((first_no (completion_questions lent.log (facts_of (submitted lent b t).state.block) None 0) ≡ 0) × EachAccepted lent (collecting lent b t).state.block (u ∷ ts))

-- the block behind the last submission, and what all calls logged
pub record Ran : Type 0 where
  pub block : ControlBlock
  pub records : List Record

unfoldable pub calls_of : Lent → ControlBlock → List TransferTrb → Ran
calls_of lent b [] = record { block = b; records = [] }
calls_of lent b (t ∷ []) = record { block = (submitted lent b t).state.block; records = (submitted lent b t).records }
calls_of lent b (t ∷ u ∷ ts) =
    let rest = calls_of lent (collecting lent b t).state.block (u ∷ ts) in
    record { block = rest.block; records = (submitted lent b t).records ++ ((collecting lent b t).records ++ rest.records) }

-- a block that holds nothing, expects Setup, and has a submission due
pub record Ready (b : ControlBlock) : Type 0 where
  pub due : b.state ≡ NoTrbSubmitted
  pub phase : b.transfer.phase ≡ ExpectSetupStageTrb
  pub empty : b.held ≡ 0
  pub places : length b.trbs ≡ max_held

-- exactly these TRBs are held, the request that they make is logged, and the device is awaited
pub record Requested (b : ControlBlock) (ts : List TransferTrb) (ran : Ran) : Type 0 where
  pub held : held_of ran.block ≡ ts
  pub state : ran.block.state ≡ AwaitingControlRequest
  pub transfer : ran.block.transfer ≡ transfer_behind ts b.transfer
  -- another Setup is expected behind it
  pub phase : ran.block.transfer.phase ≡ ExpectSetupStageTrb
  pub places : length ran.block.trbs ≡ max_held
  pub records : ran.records ≡ control_request (transfer_behind ts b.transfer).request b.endpoint_id b.slot_id ∷ []
  -- ids and release are the block's own
  pub endpoint : ran.block.endpoint_id ≡ b.endpoint_id
  pub slot : ran.block.slot_id ≡ b.slot_id
  pub release : ran.block.release ≡ b.release

-- ---- Bytes that go out

-- what the submissions collected, one behind the other, with guest memory m
unfoldable pub collected_by : Lent → Memory → ControlBlock → List TransferTrb → List ℕ
collected_by lent m b [] = []
collected_by lent m b (t ∷ []) = bytes_collected lent.log lent.collect b t m
collected_by lent m b (t ∷ u ∷ ts) = bytes_collected lent.log lent.collect b t m ++ collected_by lent m (collecting lent b t).state.block (u ∷ ts)

-- xHCI 1.2, 6.4.1.1, Immediate Data: where a TRB's data is
abbrev pub source_in : (immediate_data : Bool) (pointer length : ℕ) → Source
source_in true pointer length = immediate pointer length
source_in false pointer length = buffer pointer length

-- only a Data Stage or a Normal TRB has some
abbrev pub source_of : TransferTrbVariant → List Source
source_of (SetupStage t) = []
source_of (DataStage t) = source_in t.immediate_data t.data_pointer t.transfer_length ∷ []
source_of (StatusStage t) = []
source_of (Normal t) = source_in t.immediate_data t.data_pointer t.transfer_length ∷ []
source_of (EventData t) = []
source_of (NoOp t) = []
source_of Isoch = []
source_of Unrecognized = []

unfoldable pub sources_of : List TransferTrb → List Source
sources_of [] = []
sources_of (t ∷ ts) = source_of t.variant ++ sources_of ts

-- xHCI 1.2, 6.4.1.1: immediate data is of 0 to 8 bytes (docs/DIFFERENCES.md, 9)
abbrev pub allowed : Source → Bool
allowed (buffer address length) = true
allowed (immediate field length) = immediate_allowed false length

-- ---- In the words of xHCI 1.2, 4.11.2.2

-- what a completion with SuccessfulControlIn and n bytes logged: the events of the Setup, Data and Status TDs, with the one code that differs (docs/DIFFERENCES.md, 4),
-- and what the buffers of the Data TD get
pub record ReceivedAs (c : Chain) (n : ℕ) (rs : List Record) : Type 0 where
  pub events : told rs ≡ chain_events n (stages_of c)
  pub writes : wrote rs ≡ deliveries n (stages_of c).data_trbs

-- what one with SuccessfulControlOut logged: the events of TDs whose bytes all went out; nothing is written
pub record SentAs (c : Chain) (rs : List Record) : Type 0 where
  pub events : told rs ≡ control_events repeated_residual (stages_of c) (sent_whole (stages_of c))
  pub writes : wrote rs ≡ []

-- of a control transfer by calls: its stages; its request; and each completion that is accepted
pub record Conforms (lent : Lent) (b : ControlBlock) (ts : List TransferTrb) : Type 0 where
  pub chain : Chain
  pub same : trbs_of chain ≡ ts
  pub requested : Requested b ts (calls_of lent b ts)
  -- USB 2.0, 9.3: the request has the fields of the setup packet
  pub packet : (p : Setup) (ioc : Bool) → Sized p → chain.setup ≡ setup_trb p ioc → Requests p chain.setup_address (transfer_behind ts b.transfer)
  -- 4.9.1, 6.4.1.1: what an OUT transfer collects are the bytes that go out
  pub collected : (m : Memory) → lent.regions ≡ regions_of m → (p : Setup) (ioc : Bool) → Sized p → chain.setup ≡ setup_trb p ioc → to_host p ≡ false
      → all allowed (sources_of ts) ≡ true → collected_by lent m b ts ≡ outgoing (bytes_at m) (sources_of ts)
  pub received : (log n : ℕ) → first_no (completion_questions log (facts_of (calls_of lent b ts).block) (Some SuccessfulControlIn) n) ≡ 0
      → ReceivedAs chain n (completion log (calls_of lent b ts).block (Some SuccessfulControlIn) n).records
  -- behind whatever the device gave, the block is ready for another
  pub ready : (log : ℕ) (r : Option ControlRequestProcessingResult) (n : ℕ) → is_given r ≡ true → first_no (completion_questions log (facts_of (calls_of lent b ts).block) r n) ≡ 0
      → Ready (completion log (calls_of lent b ts).block r n).state.block
  pub sent : (log n : ℕ) → first_no (completion_questions log (facts_of (calls_of lent b ts).block) (Some SuccessfulControlOut) n) ≡ 0
      → SentAs chain (completion log (calls_of lent b ts).block (Some SuccessfulControlOut) n).records
