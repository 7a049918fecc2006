-- What one TRB of an IN TD logs, and what it leaves of the progress: a Normal that is full, one at which a transfer in strict mode fails, a
-- Normal that is short, a TRB of another kind, and any TRB after a short Normal. Assumes nothing.
use Prim.Native.Nat.{ℕ, ◌+◌, ◌-◌, ◌<◌, ◌≤◌, min}
use mathlib.Core.Path.{◌≡◌, refl, sym}
use mathlib.Core.Bool.{Bool, true, false, ◌||◌, or-true, true≢false}
use mathlib.Core.List.{List, [], ◌∷◌, append-nil}
use mathlib.Core.Logic.{◌⊎◌, inl, inr, ⊎_elim}
use mathlib.Core.Option.{none}
use native.Mathlib.Nat.{min-eq_left, min-eq_right, le_of_lt}
use native.Mathlib.Omega.{arith}
use borrow.Author.Tests.{eqb-true, ne_eqb}
use lib.Dec.{eqb}
use lib.ListN.{length}
use Rattle.trb.specs.declared.CompletionCode.{CompletionCode}
use Rattle.trb.specs.declared.CompletionCode.TheVariants.{Success, UsbTransactionError, StallError, ShortPacket}
use Rattle.trb.specs.declared.InTrbProcessingStatus.{InTrbProcessingStatus}
use Rattle.trb.specs.declared.InTrbProcessingStatus.TheVariants as status
use Rattle.trb.specs.declared.NormalTrb.{NormalTrb}
use Rattle.trb.specs.declared.TransferTrb.{TransferTrb}
use Rattle.trb.specs.declared.TransferTrbVariant.{TransferTrbVariant}
use Rattle.trb.specs.declared.TransferTrbVariant.TheVariants.{SetupStage, DataStage, StatusStage, Normal, EventData, NoOp, Isoch, Unrecognized}
use Rattle.call_log.specs.Calls.{Out, silent}
use Rattle.call_log.specs.Records.{guest_write, transfer_event, when}
use Rattle.call_log.specs.declared.Record.{Record}
use Rattle.td_part.specs.Parts.{edtla_after, put_dma, realize_dma, event_at, code_after}
use Rattle.td_part.specs.declared.TdInfo.{TdInfo}
use Rattle.td_part.specs.declared.TdProcessingState.{TdProcessingState}
use Rattle.td_part.specs.declared.TdProcessingState.TheVariants.{Default, ShortTransfer}
use Rattle.in_td.specs.Td.{normal_count, normals, going_on, goes_on, fails_at_last, handle_normal, trb_by_kind, process_trb, ended}
use Rattle.in_td.specs.declared.InMode.{InMode}
use Rattle.in_td.specs.declared.InMode.TheVariants.{AsPorted, Strict}
use Rattle.in_td.specs.declared.InTd.{InTd}
use Rattle.in_td.specs.declared.TdProcessed.{TdProcessed}
use Rattle.in_td.specs.Normals.{normal_of, requested}
use Rattle.account.specs.Guest.{range, is_write, is_unsuccessful, any, numbered, bytes}
use Rattle.account.specs.Strict.{failure_code, failure_result}
use Rattle.account.proofs.GuestLaws.{bytes-none}

-- a TRB is a Normal, or of another kind
pub normal-or-other : (v : TransferTrbVariant) → ((m : NormalTrb) × (v ≡ Normal m)) ⊎ (normal_of v ≡ none)
normal-or-other (SetupStage t) = inr refl
normal-or-other (DataStage t) = inr refl
normal-or-other (StatusStage t) = inr refl
normal-or-other (Normal m) = inl (m, refl)
normal-or-other (EventData t) = inr refl
normal-or-other (NoOp t) = inr refl
normal-or-other Isoch = inr refl
normal-or-other Unrecognized = inr refl

-- a TRB of another kind is no Normal
pub normal_count-other : (v : TransferTrbVariant) → normal_of v ≡ none → normal_count v ≡ 0
normal_count-other (SetupStage t) h = refl
normal_count-other (DataStage t) h = refl
normal_count-other (StatusStage t) h = refl
normal_count-other (Normal m) h = let z : ◌≡◌ {A = ℕ} 0 1 = cc in absurd (omega arith)
normal_count-other (EventData t) h = refl
normal_count-other (NoOp t) h = refl
normal_count-other Isoch h = refl
normal_count-other Unrecognized h = refl

-- without a Normal nothing is asked for
pub requested-none : (ts : List TransferTrb) → normals ts ≡ 0 → requested ts ≡ 0
requested-none [] h = refl
requested-none (t ∷ ts) h =
    ⊎_elim
    (λ k. let one : normals (t ∷ ts) ≡ 1 + normals ts = rw k.1 in absurd (omega arith))
    (λ other. let none : normals (t ∷ ts) ≡ normals ts = rw (normal_count-other t.variant other) (omega arith) in rw (other, requested-none ts (omega arith)))
    (normal-or-other t.variant)

-- processing goes on, the next write starts at the device's byte `start`, and so many Normals are left
abbrev pub reached : ℕ → ℕ → TdProcessingState → ℕ → ℕ → TdProcessed
reached start edtla state count left = going_on left (record { start = start; edtla = edtla; state = state; records = count })

pub any-when : (test : Record → Bool) (due : Bool) (r : Record) → test r ≡ false → any test (when due r) ≡ false
any-when test true r e = rw e
any-when test false r e = refl

-- ---- A TRB of another kind

-- it writes nothing, the guest does not rely on its event, and start and state stay
pub record Passed (p : TdProcessed) (o : Out TdProcessed) : Type 0 where
  pub edtla : ℕ
  pub count : ℕ
  pub next : o.state ≡ reached p.progress.start edtla p.progress.state count p.normals_left
  pub quiet : any is_unsuccessful o.records ≡ false
  pub writeless : any is_write o.records ≡ false

passed-silent : (p : TdProcessed) → Passed p (goes_on p.normals_left (silent p.progress))
passed-silent p = record { edtla = p.progress.edtla; count = p.progress.records; next = refl; quiet = refl; writeless = refl }

passed-kind : (td : InTd) (p : TdProcessed) (v : TransferTrbVariant) (a : ℕ) (cycle : Bool) → normal_of v ≡ none → Passed p (trb_by_kind v td p a cycle)
passed-kind td p (Normal m) a cycle h = let z : ◌≡◌ {A = ℕ} 0 1 = cc in absurd (omega arith)
passed-kind td p (EventData t) a cycle h =
    let ioc : Bool = t.interrupt_on_completion in
    let event : Record = transfer_event t.event_data p.progress.edtla (code_after p.progress.state) true td.info.endpoint_id td.info.slot_id in
    record {
      edtla = 0;
      count = p.progress.records + length (when ioc event);
      next = refl;
      quiet = any-when is_unsuccessful ioc event refl;
      writeless = any-when is_write ioc event refl;
    }
passed-kind td p (NoOp t) a cycle h =
    let ioc : Bool = t.interrupt_on_completion in
    let event : Record = event_at td.info a 0 Success in
    record {
      edtla = p.progress.edtla;
      count = p.progress.records + length (when ioc event);
      next = refl;
      quiet = any-when is_unsuccessful ioc event refl;
      writeless = any-when is_write ioc event refl;
    }
passed-kind td p (SetupStage t) a cycle h = passed-silent p
passed-kind td p (DataStage t) a cycle h = passed-silent p
passed-kind td p (StatusStage t) a cycle h = passed-silent p
passed-kind td p Isoch a cycle h = passed-silent p
passed-kind td p Unrecognized a cycle h = passed-silent p

pub passed-step : (td : InTd) (p : TdProcessed) (t : TransferTrb) → normal_of t.variant ≡ none → Passed p (process_trb td p t)
unfolding process_trb
passed-step td p t h = passed-kind td p t.variant t.addr t.cycle_bit h

-- ---- A Normal, before any was short

-- the bytes left, of the device's n, where the next write starts at `start`
abbrev pub left_from : InTd → ℕ → ℕ
left_from td start = td.info.data_length - start

-- full: it writes its length
abbrev pub full_write : InTd → ℕ → NormalTrb → Record
full_write td start m = guest_write m.data_pointer m.transfer_length start td.info.endpoint_id td.info.slot_id

abbrev pub full_event : InTd → ℕ → Record
full_event td a = event_at td.info a 0 Success

abbrev pub full_records : InTd → ℕ → NormalTrb → ℕ → List Record
full_records td start m a = full_write td start m ∷ when m.interrupt_on_completion (full_event td a)

-- short: it writes the bytes left
abbrev pub missing : InTd → ℕ → NormalTrb → ℕ
missing td start m = m.transfer_length - left_from td start

abbrev pub short_code : InTrbProcessingStatus → CompletionCode
short_code status.Success = ShortPacket
short_code status.Stall = StallError
short_code status.TransactionError = UsbTransactionError
short_code status.Disconnect = UsbTransactionError

abbrev pub short_due : InTrbProcessingStatus → NormalTrb → Bool
short_due status.Success m = m.interrupt_on_completion || m.interrupt_on_short
short_due status.Stall m = true
short_due status.TransactionError m = true
short_due status.Disconnect m = true

abbrev pub short_write : InTd → ℕ → NormalTrb → Record
short_write td start m = guest_write m.data_pointer (left_from td start) start td.info.endpoint_id td.info.slot_id

abbrev pub short_event : InTd → ℕ → NormalTrb → ℕ → Record
short_event td start m a = event_at td.info a (missing td start m) (short_code td.status)

pub record Shortened (td : InTd) (start : ℕ) (m : NormalTrb) (a : ℕ) (o : Out TdProcessed) : Type 0 where
  pub records : o.records ≡ short_write td start m ∷ when (short_due td.status m) (short_event td start m a)
  pub next : o.state.progress.state ≡ ShortTransfer (missing td start m)

-- full, and the transfer fails at it: it writes its length, and the event has the status's code
abbrev pub failed_event : InTd → ℕ → Record
failed_event td a = event_at td.info a 0 (failure_code td.status)

pub record Failed (td : InTd) (start : ℕ) (t : TransferTrb) (m : NormalTrb) (o : Out TdProcessed) : Type 0 where
  pub records : o.records ≡ full_write td start m ∷ failed_event td t.addr ∷ []
  pub result : o.state.result ≡ failure_result td.status t.addr t.cycle_bit
  pub over : ended o.state ≡ true

-- whether a transfer fails at its last Normal
abbrev pub Fails : InTd → ℕ → Bool → Type 0
Fails td left b = fails_at_last td.mode td.status left ≡ b

-- one that succeeds does not
fails-success : (mode : InMode) (left : ℕ) → fails_at_last mode status.Success left ≡ true → ⊥
fails-success AsPorted left h = true≢false (sym h)
fails-success Strict left h = true≢false (sym h)

-- and where one does, the last Normal it is
pub fails-last : (mode : InMode) (st : InTrbProcessingStatus) (left : ℕ) → fails_at_last mode st left ≡ true → left ≡ 1
fails-last AsPorted st left h = absurd (true≢false (sym h))
fails-last Strict status.Success left h = absurd (true≢false (sym h))
fails-last Strict status.Stall left h = eqb-true left 1 h
fails-last Strict status.TransactionError left h = eqb-true left 1 h
fails-last Strict status.Disconnect left h = eqb-true left 1 h

module _ (td : InTd) (start edtla count left : ℕ) (t : TransferTrb) (m : NormalTrb) (kind : t.variant ≡ Normal m) where
  pub full-step : Fails td left false → m.transfer_length ≤ left_from td start
      → process_trb td (reached start edtla Default count left) t
      ≡ record {
        state = reached (start + m.transfer_length) (edtla_after edtla m.transfer_length) Default (count + length (full_records td start m t.addr)) (left - 1);
        records = full_records td start m t.addr;
      }
  unfolding process_trb handle_normal realize_dma put_dma
  full-step goes h =
      let none-missing : m.transfer_length - min m.transfer_length (left_from td start) ≡ 0 = omega arith in
      rw (kind, none-missing, goes, min-eq_left h)

  failed-under : (st : InTrbProcessingStatus) → td.status ≡ st → fails_at_last td.mode st left ≡ true → min m.transfer_length (left_from td start) ≡ m.transfer_length
      → m.transfer_length - min m.transfer_length (left_from td start) ≡ 0 → Failed td start t m (process_trb td (reached start edtla Default count left) t)
  unfolding process_trb handle_normal put_dma
  failed-under status.Success e fails all_moved none-missing = absurd (fails-success td.mode left fails)
  failed-under status.Stall e fails all_moved none-missing =
      record { records = rw (kind, e, none-missing, fails, all_moved); result = rw (kind, e, none-missing, fails); over = rw (kind, e, none-missing, fails) }
  failed-under status.TransactionError e fails all_moved none-missing =
      record { records = rw (kind, e, none-missing, fails, all_moved); result = rw (kind, e, none-missing, fails); over = rw (kind, e, none-missing, fails) }
  failed-under status.Disconnect e fails all_moved none-missing =
      record { records = rw (kind, e, none-missing, fails, all_moved); result = rw (kind, e, none-missing, fails); over = rw (kind, e, none-missing, fails) }

  pub failed-step : Fails td left true → m.transfer_length ≤ left_from td start → Failed td start t m (process_trb td (reached start edtla Default count left) t)
  failed-step fails h = failed-under td.status refl fails (min-eq_left h) (omega arith)

  short-under : (st : InTrbProcessingStatus) → td.status ≡ st → min m.transfer_length (left_from td start) ≡ left_from td start
      → eqb (missing td start m) 0 ≡ false → Shortened td start m t.addr (process_trb td (reached start edtla Default count left) t)
  unfolding process_trb handle_normal realize_dma put_dma
  short-under status.Success e all_left some = record { records = rw (kind, e, all_left, some); next = rw (kind, e, all_left, some) }
  short-under status.Stall e all_left some = record { records = rw (kind, e, all_left, some); next = rw (kind, e, all_left, some) }
  short-under status.TransactionError e all_left some = record { records = rw (kind, e, all_left, some); next = rw (kind, e, all_left, some) }
  short-under status.Disconnect e all_left some = record { records = rw (kind, e, all_left, some); next = rw (kind, e, all_left, some) }

  pub short-step : left_from td start < m.transfer_length → Shortened td start m t.addr (process_trb td (reached start edtla Default count left) t)
  short-step h = short-under td.status refl (min-eq_right (le_of_lt h)) (ne_eqb (missing td start m) 0 (λ q. omega arith))

-- what the guest reads off the records of a full Normal: nothing to rely on, and its range
module _ (td : InTd) (start : ℕ) (m : NormalTrb) (a : ℕ) where
  pub quiet-full : any is_unsuccessful (full_records td start m a) ≡ false
  quiet-full = any-when is_unsuccessful m.interrupt_on_completion (full_event td a) refl

  writeless-event : any is_write (when m.interrupt_on_completion (full_event td a)) ≡ false
  writeless-event = any-when is_write m.interrupt_on_completion (full_event td a) refl

  pub bytes-full : bytes (full_records td start m a) ≡ numbered start (range m.data_pointer m.transfer_length)
  bytes-full =
      rw (bytes-none (when m.interrupt_on_completion (full_event td a)) writeless-event)
      (append-nil (numbered start (range m.data_pointer m.transfer_length)))

-- the event of a short Normal with interrupt-on-short is due, and the guest relies on it
pub short_due-isp : (st : InTrbProcessingStatus) (m : NormalTrb) → m.interrupt_on_short ≡ true → short_due st m ≡ true
short_due-isp status.Success m h = rw h (or-true m.interrupt_on_completion)
short_due-isp status.Stall m h = refl
short_due-isp status.TransactionError m h = refl
short_due-isp status.Disconnect m h = refl

pub is_unsuccessful-short_code : (td : TdInfo) (a residual : ℕ) (st : InTrbProcessingStatus) → is_unsuccessful (event_at td a residual (short_code st)) ≡ true
is_unsuccessful-short_code td a residual status.Success = refl
is_unsuccessful-short_code td a residual status.Stall = refl
is_unsuccessful-short_code td a residual status.TransactionError = refl
is_unsuccessful-short_code td a residual status.Disconnect = refl

-- and so it does on the event of a Normal at which the transfer fails
pub is_unsuccessful-failed : (td : InTd) (left : ℕ) → Fails td left true → (a : ℕ) → is_unsuccessful (failed_event td a) ≡ true
is_unsuccessful-failed td left fails a = by-status td.status fails
  where
    by-status : (st : InTrbProcessingStatus) → fails_at_last td.mode st left ≡ true → is_unsuccessful (event_at td.info a 0 (failure_code st)) ≡ true
    by-status status.Success h = absurd (fails-success td.mode left h)
    by-status status.Stall h = refl
    by-status status.TransactionError h = refl
    by-status status.Disconnect h = refl

-- ---- Any TRB after a short Normal

-- it writes nothing, and the state stays
pub record Later (short : ℕ) (o : Out TdProcessed) : Type 0 where
  pub next : o.state.progress.state ≡ ShortTransfer short
  pub writeless : any is_write o.records ≡ false

module _ (td : InTd) (short : ℕ) (p : TdProcessed) (h : p.progress.state ≡ ShortTransfer short) (t : TransferTrb) where
  later-normal : (m : NormalTrb) → t.variant ≡ Normal m → Later short (process_trb td p t)
  unfolding process_trb handle_normal
  later-normal m kind = record {
    next = rw (kind, h);
    writeless = rw (kind, h) (any-when is_write m.interrupt_on_completion (event_at td.info t.addr short ShortPacket) refl);
  }

  later-other : normal_of t.variant ≡ none → Later short (process_trb td p t)
  later-other other =
      let w : Passed p (process_trb td p t) = passed-step td p t other in
      record { next = rw w.next h; writeless = w.writeless }

  pub later-step : Later short (process_trb td p t)
  later-step = ⊎_elim (λ k. later-normal k.0 k.1) later-other (normal-or-other t.variant)
