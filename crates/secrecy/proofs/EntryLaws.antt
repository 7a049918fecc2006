-- 02, R-8, entry point by entry point, of anything that meets its contract, by value, by reference or by row: two calls that differ in bytes of guest
-- memory and of device data alone give the same. A contract equates what a call gives with a definition, and these definitions take lengths and never
-- bytes. Assumes nothing.
use Prim.Native.Nat.{ℕ}
use mathlib.Core.Path.{◌≡◌, refl, sym, ◌∙◌, ap}
use mathlib.Core.List.{List}
use lib.ListN.{length}
use Rattle.trb.specs.Answers.{Answer, CompletionAnswer}
use Rattle.trb.specs.declared.ControlRequestProcessingResult.{ControlRequestProcessingResult}
use Rattle.trb.specs.declared.EndpointId.{EndpointId}
use Rattle.trb.specs.declared.InTrbProcessingStatus.{InTrbProcessingStatus}
use Rattle.trb.specs.declared.SlotId.{SlotId}
use Rattle.trb.specs.declared.TransferTrb.{TransferTrb}
use Rattle.call_log.specs.Calls.{Out, Meets}
use Rattle.call_log.specs.declared.Record.{Record}
use Rattle.log_print.specs.LogText.{Prints}
use Rattle.guest_memory.specs.Places.{Memory, regions_of}
use Rattle.carry_out.specs.CarryOut.{Carried, memory_after}
use Rattle.carry_out.specs.Writes.{written, records_of}
use Rattle.carry_out.proofs.WriteLaws.{regions_of-written}
use Rattle.std.proofs.Common.{Result, Err, Ok, Option}
use Rattle.trb.specs.declared.Refusal.{Refusal}
use Rattle.log_compact.specs.Compacting.{Compacts}
use Rattle.in_td.specs.declared.InMode.{InMode}
use Rattle.in_block.specs.declared.InBlock.{InBlock}
use Rattle.in_endpoint.specs.Returned.{Created as InCreated}
use Rattle.in_endpoint.specs.Returned.{Submitted as InSubmitted}
use Rattle.in_endpoint.specs.Returned.{Completed as InCompleted}
use Rattle.in_endpoint.specs.Creation.{Creates as InCreates}
use Rattle.in_endpoint.specs.Submission.{submission as in_submission, Submits as InSubmits}
use Rattle.in_endpoint.specs.Completion.{completion as in_completion, Completes as InCompletes}
use Rattle.trb.specs.declared.Logged.{Logged}
use Rattle.row_plan.specs.Rows.{row_completion, CompletesRow}
use Rattle.row_walk.specs.declared.TdResult.{TdResult}
use Rattle.in_row.specs.declared.TdsCompleted.{TdsCompleted}
use Rattle.in_row.specs.Completion.{row_completion as tds_completion, CompletesTds}
use Rattle.delivery.specs.Completing.{delivery, Delivers}
use Rattle.row_delivery.specs.Completing.{DeliversTds}
use Rattle.control_block.specs.declared.ControlBlock.{ControlBlock}
use Rattle.control_block.specs.declared.GuestRelease.{GuestRelease}
use Rattle.control_endpoint.specs.Returned.{Created as ControlCreated}
use Rattle.control_endpoint.specs.Returned.{Submitted as ControlSubmitted}
use Rattle.control_endpoint.specs.Returned.{Completed as ControlCompleted}
use Rattle.control_endpoint.specs.Creation.{Creates as ControlCreates}
use Rattle.control_endpoint.specs.Submission.{Submits as ControlSubmits}
use Rattle.control_endpoint.specs.Completion.{completion as control_completion, Completes as ControlCompletes}
use Rattle.secrecy.specs.Alike.{SameWindows, SameLength, SameGiven}

-- two calls that were to be the same, on the same log, gave the same
same_met : {S : Type 0} {o o' : Out S} {k : ℕ} {l l₁ l₂ : List ℕ} {r₁ r₂ : S} → o ≡ o' → Meets o k l r₁ l₁ → Meets o' k l r₂ l₂ → SameGiven r₁ r₂ l₁ l₂
same_met e p q = record { returned = rw (p.state, q.state, e) refl; log = rw (p.log, q.log, e) refl }

-- ---- IN endpoint

pub same-in-creation : {e : EndpointId} {s : SlotId} {mode : InMode} {r r' : InCreated} → InCreates e s mode r → InCreates e s mode r' → r ≡ r'
same-in-creation p q = p.met ∙ sym q.met

pub same-in-submission : {b : InBlock} {t : TransferTrb} (m m' : Memory) {l l₁ l₂ : List ℕ} {r₁ r₂ : InSubmitted} → SameWindows m m'
    → InSubmits b t (regions_of m) l r₁ l₁ → InSubmits b t (regions_of m') l r₂ l₂ → SameGiven r₁ r₂ l₁ l₂
same-in-submission {b} {t} m m' {l} w p q = same_met (ap (in_submission (length l) b t) w) p.met q.met

pub same-in-completion : {b : InBlock} {s : Option InTrbProcessingStatus} (bytes bytes' : List ℕ) {l l₁ l₂ : List ℕ} {r₁ r₂ : InCompleted} → SameLength bytes bytes'
    → InCompletes b s (length bytes) l r₁ l₁ → InCompletes b s (length bytes') l r₂ l₂ → SameGiven r₁ r₂ l₁ l₂
same-in-completion {b} {s} bytes bytes' {l} n p q = same_met (ap (in_completion (length l) b s) n) p.met q.met

pub same_row : {e : EndpointId} {s : SlotId} {mode : InMode} {ts : List TransferTrb} {d : Option InTrbProcessingStatus} (bytes bytes' : List ℕ) {l l₁ l₂ : List ℕ} {r₁ r₂ : Logged CompletionAnswer}
    → SameLength bytes bytes' → CompletesRow e s mode ts d (length bytes) l r₁ l₁ → CompletesRow e s mode ts d (length bytes') l r₂ l₂ → SameGiven r₁ r₂ l₁ l₂
same_row {e} {s} {mode} {ts} {d} bytes bytes' {l} n p q = same_met (ap (row_completion (length l) e s mode ts d) n) p.met q.met

pub same-tds : {b : InBlock} {k : ℕ} {ts : List TransferTrb} {j : ℕ} {ds : List TdResult} (bytes bytes' : List ℕ) (m m' : Memory) {l l₁ l₂ : List ℕ} {r₁ r₂ : TdsCompleted}
    → SameLength bytes bytes' → SameWindows m m' → CompletesTds b k ts j ds (length bytes) (regions_of m) l r₁ l₁
    → CompletesTds b k ts j ds (length bytes') (regions_of m') l r₂ l₂ → SameGiven r₁ r₂ l₁ l₂
same-tds {b} {k} {ts} {j} {ds} bytes bytes' m m' {l} n w p q =
    same_met (ap (λ (x : ℕ). tds_completion (length l) b k ts j ds x (regions_of m)) n ∙ ap (tds_completion (length l) b k ts j ds (length bytes')) w) p.met q.met

-- ---- Control endpoint

pub same-control-creation : {e : EndpointId} {s : SlotId} {release : GuestRelease} {r r' : ControlCreated} → ControlCreates e s release r → ControlCreates e s release r' → r ≡ r'
same-control-creation p q = p.met ∙ sym q.met

-- the collect buffers, before and after, are not among what is equal
pub same-control-submission : {b : ControlBlock} {t : TransferTrb} {m m' : Memory} {l l₁ l₂ c c' c₁ c₂ : List ℕ} {r₁ r₂ : ControlSubmitted} → SameWindows m m' → SameLength c c'
    → ControlSubmits b t m l c r₁ l₁ c₁ → ControlSubmits b t m' l c' r₂ l₂ c₂ → SameGiven r₁ r₂ l₁ l₂
same-control-submission {b} {t} {m} {m'} {l} {l₁} {l₂} {c} {c'} w n p q = same_met (rw (n, w) refl) p.met q.met

pub same-control-completion : {b : ControlBlock} {s : Option ControlRequestProcessingResult} (bytes bytes' : List ℕ) {l l₁ l₂ : List ℕ} {r₁ r₂ : ControlCompleted} → SameLength bytes bytes'
    → ControlCompletes b s (length bytes) l r₁ l₁ → ControlCompletes b s (length bytes') l r₂ l₂ → SameGiven r₁ r₂ l₁ l₂
same-control-completion {b} {s} bytes bytes' {l} n p q = same_met (ap (control_completion (length l) b s) n) p.met q.met

-- ---- Carry-out

-- guest memory keeps its windows
regions_of-memory_after : (a : Answer) (l bytes : List ℕ) (m : Memory) → regions_of (memory_after a l bytes m) ≡ regions_of m
regions_of-memory_after (Ok tt) l bytes m = regions_of-written bytes m (records_of l)
regions_of-memory_after (Err q) l bytes m = refl

pub same-carry-out : {l bytes bytes' : List ℕ} {m m' m₁ m₂ : Memory} {r₁ r₂ : Answer} → SameLength bytes bytes' → SameWindows m m' → Carried l bytes m r₁ m₁
    → Carried l bytes' m' r₂ m₂ → r₁ ≡ r₂
same-carry-out n w p q = rw (p.answer, q.answer, n, w) refl

-- what it leaves differs in bytes alone
pub same-windows-after : {l bytes bytes' : List ℕ} {m m' m₁ m₂ : Memory} {r₁ r₂ : Answer} → SameWindows m m' → Carried l bytes m r₁ m₁ → Carried l bytes' m' r₂ m₂
    → SameWindows m₁ m₂
same-windows-after {l} {bytes} {bytes'} {m} {m'} {m₁} {m₂} {r₁} {r₂} w p q =
    ap regions_of p.after ∙ regions_of-memory_after r₁ l bytes m ∙ w ∙ sym (ap regions_of q.after ∙ regions_of-memory_after r₂ l bytes' m')

-- ---- Completion and carry-out in one call

pub same-delivery : {b : InBlock} {s : Option InTrbProcessingStatus} {bytes bytes' : List ℕ} {m m' m₁ m₂ : Memory} {l l₁ l₂ : List ℕ} {r₁ r₂ : InCompleted} → SameLength bytes bytes' → SameWindows m m'
    → Delivers b s bytes l m r₁ l₁ m₁ → Delivers b s bytes' l m' r₂ l₂ m₂ → SameGiven r₁ r₂ l₁ l₂
same-delivery {b} {s} {bytes} {bytes'} {m} {m'} {m₁} {m₂} {l} n w p q =
    same_met (ap (λ (x : ℕ). delivery (length l) b s x (regions_of m)) n ∙ ap (delivery (length l) b s (length bytes')) w) p.met q.met

-- what the writes of whichever records leave differs in bytes alone
same-windows-written : (bytes bytes' : List ℕ) (m m' : Memory) (rs rs' : List Record) {m₁ m₂ : Memory} → SameWindows m m' → m₁ ≡ written bytes m rs → m₂ ≡ written bytes' m' rs' → SameWindows m₁ m₂
same-windows-written bytes bytes' m m' rs rs' w p q = ap regions_of p ∙ regions_of-written bytes m rs ∙ w ∙ sym (ap regions_of q ∙ regions_of-written bytes' m' rs')

pub same-windows-delivered : {b : InBlock} {s : Option InTrbProcessingStatus} {bytes bytes' : List ℕ} {m m' m₁ m₂ : Memory} {l l₁ l₂ : List ℕ} {r₁ r₂ : InCompleted} → SameWindows m m'
    → Delivers b s bytes l m r₁ l₁ m₁ → Delivers b s bytes' l m' r₂ l₂ m₂ → SameWindows m₁ m₂
same-windows-delivered {b} {s} {bytes} {bytes'} {m} {m'} {m₁} {m₂} {l} w p q =
    same-windows-written bytes bytes' m m' (delivery (length l) b s (length bytes) (regions_of m)).records (delivery (length l) b s (length bytes') (regions_of m')).records w p.memory q.memory

pub same-windows-tds : {b : InBlock} {k : ℕ} {ts : List TransferTrb} {j : ℕ} {ds : List TdResult} {bytes bytes' : List ℕ} {m m' m₁ m₂ : Memory} {l l₁ l₂ : List ℕ} {r₁ r₂ : TdsCompleted}
    → SameWindows m m' → DeliversTds b k ts j ds bytes l m r₁ l₁ m₁ → DeliversTds b k ts j ds bytes' l m' r₂ l₂ m₂ → SameWindows m₁ m₂
same-windows-tds {b} {k} {ts} {j} {ds} {bytes} {bytes'} {m} {m'} {m₁} {m₂} {l} w p q =
    same-windows-written bytes bytes' m m' (tds_completion (length l) b k ts j ds (length bytes) (regions_of m)).records
    (tds_completion (length l) b k ts j ds (length bytes') (regions_of m')).records w p.memory q.memory

-- ---- Stored logs

pub same-compacted : {l l₁ l₂ : List ℕ} {r₁ r₂ : Result ℕ Refusal} → Compacts l r₁ l₁ → Compacts l r₂ l₂ → SameGiven r₁ r₂ l₁ l₂
same-compacted p q = record { returned = p.answer ∙ sym q.answer; log = p.after ∙ sym q.after }

pub same-printed : {l t t₁ t₂ : List ℕ} {r₁ r₂ : Result ℕ Refusal} → Prints l t r₁ t₁ → Prints l t r₂ t₂ → SameGiven r₁ r₂ t₁ t₂
same-printed p q = record { returned = p.printed ∙ sym q.printed; log = p.text ∙ sym q.text }
