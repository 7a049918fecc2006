-- 02, R-8: a run of calls in any order, made by functions of which nothing is known but their contracts, and two runs that differ in bytes of guest memory and
-- of device data alone. Exempt, since they do depend on those bytes: the collect buffer, the bytes that a check of a range hands back, guest memory after
-- carry-out, and captures with what a reader gives of them. None of these is part of a reply. Assumes nothing.
use Rattle.std.specs.Prelude.{ℕ, ◌≡◌, List, [], ◌∷◌, length, Result, Option}
use Rattle.trb.specs.Answers.{Answer, CompletionAnswer}
use Rattle.trb.specs.declared.ControlRequestProcessingResult.{ControlRequestProcessingResult}
use Rattle.trb.specs.declared.EndpointId.{EndpointId}
use Rattle.trb.specs.declared.InTrbProcessingStatus.{InTrbProcessingStatus}
use Rattle.trb.specs.declared.SlotId.{SlotId}
use Rattle.trb.specs.declared.TransferTrb.{TransferTrb}
use Rattle.log_print.specs.LogText.{Prints}
use Rattle.guest_memory.specs.Places.{Memory, regions_of}
use Rattle.carry_out.specs.CarryOut.{Carried}
use Rattle.trb.specs.declared.Refusal.{Refusal}
use Rattle.log_compact.specs.Compacting.{Compacts}
use Rattle.in_td.specs.declared.InMode.{InMode}
use Rattle.in_block.specs.declared.InBlock.{InBlock}
use Rattle.in_endpoint.specs.Returned.{Created as InCreated}
use Rattle.in_endpoint.specs.Returned.{Submitted as InSubmitted}
use Rattle.in_endpoint.specs.Returned.{Completed as InCompleted}
use Rattle.in_endpoint.specs.Creation.{cancelled, Creates as InCreates}
use Rattle.in_endpoint.specs.Submission.{Submits as InSubmits}
use Rattle.in_endpoint.specs.Completion.{Completes as InCompletes}
use Rattle.trb.specs.declared.Logged.{Logged}
use Rattle.row_plan.specs.Rows.{CompletesRow}
use Rattle.row_walk.specs.declared.TdResult.{TdResult}
use Rattle.in_row.specs.declared.TdsCompleted.{TdsCompleted}
use Rattle.in_row.specs.Completion.{CompletesTds}
use Rattle.delivery.specs.Completing.{Delivers}
use Rattle.row_delivery.specs.Completing.{DeliversTds}
use Rattle.control_block.specs.declared.ControlBlock.{ControlBlock}
use Rattle.control_block.specs.declared.GuestRelease.{GuestRelease}
use Rattle.control_endpoint.specs.Returned.{Created as ControlCreated}
use Rattle.control_endpoint.specs.Returned.{Submitted as ControlSubmitted}
use Rattle.control_endpoint.specs.Returned.{Completed as ControlCompleted}
use Rattle.control_endpoint.specs.Creation.{Creates as ControlCreates}
use Rattle.control_endpoint.specs.Submission.{Submits as ControlSubmits}
use Rattle.control_endpoint.specs.Completion.{Completes as ControlCompletes}
use Rattle.secrecy.specs.Alike.{SameWindows, SameLength}

-- ---- Calls and replies

-- with what is handed in; `bytes` is the device's data
pub data Call : Type 0 where
  create_in : EndpointId → SlotId → InMode → Call
  submit_in : (log : List ℕ) → TransferTrb → Call
  complete_in : (log : List ℕ) → Option InTrbProcessingStatus → (bytes : List ℕ) → Call
  cancel_in : Call
  complete_row : (log : List ℕ) → EndpointId → SlotId → InMode → List TransferTrb → Option InTrbProcessingStatus → (bytes : List ℕ) → Call
  complete_tds : (log : List ℕ) → (count : ℕ) → List TransferTrb → (results : ℕ) → List TdResult → (bytes : List ℕ) → Call
  deliver : (log : List ℕ) → Option InTrbProcessingStatus → (bytes : List ℕ) → Call
  deliver_tds : (log : List ℕ) → (count : ℕ) → List TransferTrb → (results : ℕ) → List TdResult → (bytes : List ℕ) → Call
  create_control : EndpointId → SlotId → GuestRelease → Call
  submit_control : (log collect : List ℕ) → TransferTrb → Call
  complete_control : (log : List ℕ) → Option ControlRequestProcessingResult → (bytes : List ℕ) → Call
  cancel_control : Call
  carry_out : (log bytes : List ℕ) → Call
  compact : (log : List ℕ) → Call
  print : (log text : List ℕ) → Call
  -- the guest writes to its memory, between calls
  guest_writes : Memory → Call

-- what a call gives: what it returned, which has the block, and every byte of the log that it was lent
pub data Reply : Type 0 where
  in_created : InCreated → Reply
  in_submitted : InSubmitted → (log : List ℕ) → Reply
  in_completed : InCompleted → (log : List ℕ) → Reply
  in_cancelled : InBlock → Reply
  row_completed : Logged CompletionAnswer → (log : List ℕ) → Reply
  tds_completed : TdsCompleted → (log : List ℕ) → Reply
  delivered : InCompleted → (log : List ℕ) → Reply
  tds_delivered : TdsCompleted → (log : List ℕ) → Reply
  control_created : ControlCreated → Reply
  control_submitted : ControlSubmitted → (log : List ℕ) → Reply
  control_completed : ControlCompleted → (log : List ℕ) → Reply
  control_cancelled : ControlBlock → Reply
  carried_out : Answer → Reply
  compacted : Result ℕ Refusal → (log : List ℕ) → Reply
  printed : Result ℕ Refusal → (text : List ℕ) → Reply
  nothing : Reply

-- ---- One call

-- what calls work on
pub record World : Type 0 where
  pub in_block : InBlock
  pub control_block : ControlBlock
  pub memory : Memory

abbrev pub world_of : InBlock → ControlBlock → Memory → World
world_of i c m = record { in_block = i; control_block = c; memory = m }

-- a call that meets its contract, in the world of these blocks and this guest memory: what it gave, and the world that it left
pub data Gives : Call → World → Reply → World → Type 0 where
  creates-in : {e : EndpointId} {s : SlotId} {mode : InMode} {i : InBlock} {c : ControlBlock} {m : Memory} {r : InCreated} → InCreates e s mode r
      → Gives (create_in e s mode) (world_of i c m) (in_created r) (world_of r.block c m)
  submits-in : {l l' : List ℕ} {t : TransferTrb} {i : InBlock} {c : ControlBlock} {m : Memory} {r : InSubmitted} → InSubmits i t (regions_of m) l r l'
      → Gives (submit_in l t) (world_of i c m) (in_submitted r l') (world_of r.block c m)
  completes-in : {l l' bytes : List ℕ} {s : Option InTrbProcessingStatus} {i : InBlock} {c : ControlBlock} {m : Memory} {r : InCompleted}
      → InCompletes i s (length bytes) l r l' → Gives (complete_in l s bytes) (world_of i c m) (in_completed r l') (world_of r.block c m)
  cancels-in : {i : InBlock} {c : ControlBlock} {m : Memory} → Gives cancel_in (world_of i c m) (in_cancelled (cancelled i)) (world_of (cancelled i) c m)
  completes-row : {l l' bytes : List ℕ} {e : EndpointId} {s : SlotId} {mode : InMode} {ts : List TransferTrb} {d : Option InTrbProcessingStatus} {w : World} {r : Logged CompletionAnswer}
      → CompletesRow e s mode ts d (length bytes) l r l' → Gives (complete_row l e s mode ts d bytes) w (row_completed r l') w
  completes-tds : {l l' bytes : List ℕ} {k : ℕ} {ts : List TransferTrb} {j : ℕ} {ds : List TdResult} {i : InBlock} {c : ControlBlock} {m : Memory} {r : TdsCompleted}
      → CompletesTds i k ts j ds (length bytes) (regions_of m) l r l' → Gives (complete_tds l k ts j ds bytes) (world_of i c m) (tds_completed r l') (world_of r.block c m)
  delivers : {l l' bytes : List ℕ} {s : Option InTrbProcessingStatus} {i : InBlock} {c : ControlBlock} {m m' : Memory} {r : InCompleted}
      → Delivers i s bytes l m r l' m' → Gives (deliver l s bytes) (world_of i c m) (delivered r l') (world_of r.block c m')
  delivers-tds : {l l' bytes : List ℕ} {k : ℕ} {ts : List TransferTrb} {j : ℕ} {ds : List TdResult} {i : InBlock} {c : ControlBlock} {m m' : Memory} {r : TdsCompleted}
      → DeliversTds i k ts j ds bytes l m r l' m' → Gives (deliver_tds l k ts j ds bytes) (world_of i c m) (tds_delivered r l') (world_of r.block c m')
  creates-control : {e : EndpointId} {s : SlotId} {release : GuestRelease} {i : InBlock} {c : ControlBlock} {m : Memory} {r : ControlCreated}
      → ControlCreates e s release r → Gives (create_control e s release) (world_of i c m) (control_created r) (world_of i r.block m)
  submits-control : {l l' k k' : List ℕ} {t : TransferTrb} {i : InBlock} {c : ControlBlock} {m : Memory} {r : ControlSubmitted}
      → ControlSubmits c t m l k r l' k' → Gives (submit_control l k t) (world_of i c m) (control_submitted r l') (world_of i r.block m)
  completes-control : {l l' bytes : List ℕ} {s : Option ControlRequestProcessingResult} {i : InBlock} {c : ControlBlock} {m : Memory} {r : ControlCompleted}
      → ControlCompletes c s (length bytes) l r l' → Gives (complete_control l s bytes) (world_of i c m) (control_completed r l') (world_of i r.block m)
  cancels-control : {i : InBlock} {c : ControlBlock} {m : Memory} → Gives cancel_control (world_of i c m) (control_cancelled c) (world_of i c m)
  carries-out : {l bytes : List ℕ} {i : InBlock} {c : ControlBlock} {m m' : Memory} {r : Answer}
      → Carried l bytes m r m' → Gives (carry_out l bytes) (world_of i c m) (carried_out r) (world_of i c m')
  compacts : {l l' : List ℕ} {w : World} {r : Result ℕ Refusal} → Compacts l r l' → Gives (compact l) w (compacted r l') w
  prints : {l t t' : List ℕ} {w : World} {r : Result ℕ Refusal} → Prints l t r t' → Gives (print l t) w (printed r t') w
  guest-writes : {i : InBlock} {c : ControlBlock} {m m' : Memory} → Gives (guest_writes m') (world_of i c m) nothing (world_of i c m')

-- 02, R-8: the same call, logs handed in, TRBs, windows, statuses and lengths; device data, collect buffers and guest memory differ in any bytes
pub data SameCall : Call → Call → Type 0 where
  creating-in : {e : EndpointId} {s : SlotId} {mode : InMode} → SameCall (create_in e s mode) (create_in e s mode)
  submitting-in : {l : List ℕ} {t : TransferTrb} → SameCall (submit_in l t) (submit_in l t)
  completing-in : {l bytes bytes' : List ℕ} {s : Option InTrbProcessingStatus} → SameLength bytes bytes' → SameCall (complete_in l s bytes) (complete_in l s bytes')
  cancelling-in : SameCall cancel_in cancel_in
  completing-row : {l bytes bytes' : List ℕ} {e : EndpointId} {s : SlotId} {mode : InMode} {ts : List TransferTrb} {d : Option InTrbProcessingStatus}
      → SameLength bytes bytes' → SameCall (complete_row l e s mode ts d bytes) (complete_row l e s mode ts d bytes')
  completing-tds : {l bytes bytes' : List ℕ} {k : ℕ} {ts : List TransferTrb} {j : ℕ} {ds : List TdResult} → SameLength bytes bytes'
      → SameCall (complete_tds l k ts j ds bytes) (complete_tds l k ts j ds bytes')
  delivering : {l bytes bytes' : List ℕ} {s : Option InTrbProcessingStatus} → SameLength bytes bytes' → SameCall (deliver l s bytes) (deliver l s bytes')
  delivering-tds : {l bytes bytes' : List ℕ} {k : ℕ} {ts : List TransferTrb} {j : ℕ} {ds : List TdResult} → SameLength bytes bytes'
      → SameCall (deliver_tds l k ts j ds bytes) (deliver_tds l k ts j ds bytes')
  creating-control : {e : EndpointId} {s : SlotId} {release : GuestRelease} → SameCall (create_control e s release) (create_control e s release)
  submitting-control : {l k k' : List ℕ} {t : TransferTrb} → SameLength k k' → SameCall (submit_control l k t) (submit_control l k' t)
  completing-control : {l bytes bytes' : List ℕ} {s : Option ControlRequestProcessingResult} → SameLength bytes bytes' → SameCall (complete_control l s bytes) (complete_control l s bytes')
  cancelling-control : SameCall cancel_control cancel_control
  carrying-out : {l bytes bytes' : List ℕ} → SameLength bytes bytes' → SameCall (carry_out l bytes) (carry_out l bytes')
  compacting : {l : List ℕ} → SameCall (compact l) (compact l)
  printing : {l t : List ℕ} → SameCall (print l t) (print l t)
  guest-writing : {m m' : Memory} → SameWindows m m' → SameCall (guest_writes m) (guest_writes m')

-- equal blocks, and the same windows
pub record SameWorld (w w' : World) : Type 0 where
  pub in_block : w.in_block ≡ w'.in_block
  pub control_block : w.control_block ≡ w'.control_block
  pub windows : SameWindows w.memory w'.memory

-- the same reply, and worlds that are the same again
pub record SameStep (g g' : Reply) (w w' : World) : Type 0 where
  pub reply : g ≡ g'
  pub world : SameWorld w w'

-- ---- Runs

-- calls one behind the other, each in the world that the one before it left: what they gave, and the world behind the last
pub data Run : List Call → World → List Reply → World → Type 0 where
  done : {w : World} → Run [] w [] w
  next : {c : Call} {cs : List Call} {u v w : World} {g : Reply} {gs : List Reply} → Gives c u g v → Run cs v gs w → Run (c ∷ cs) u (g ∷ gs) w

-- the same calls in the same order
pub data SameCalls : List Call → List Call → Type 0 where
  none : SameCalls [] []
  more : {c c' : Call} {cs cs' : List Call} → SameCall c c' → SameCalls cs cs' → SameCalls (c ∷ cs) (c' ∷ cs')

-- equal replies at every step: answers, blocks, records and log bytes
pub record SameRun (gs gs' : List Reply) (w w' : World) : Type 0 where
  pub replies : gs ≡ gs'
  pub world : SameWorld w w'
