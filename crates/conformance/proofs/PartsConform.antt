-- One TRB of a TD, IN and control alike: its events are those of the standard at its place, and its write is the standard's delivery. The
-- engine's progress is, at each place, what the TRBs before it and the device's n bytes make it. Assumes nothing.
use Prim.Native.Nat.{ℕ, ◌+◌, ◌-◌, ◌<◌, ◌≤◌, ◌%◌, ◌^◌, min}
use mathlib.Core.Path.{◌≡◌, refl}
use mathlib.Core.Bool.{Bool, true, false, ◌||◌}
use mathlib.Core.List.{List, [], ◌∷◌, ◌++◌}
use native.Mathlib.Omega.{arith}
use borrow.Author.Tests.{ne_eqb, le-leb, lt-leb}
use lib.Dec.{eqb}
use Rattle.trb.specs.Codes.{code_number}
use Rattle.trb.specs.declared.CompletionCode.{CompletionCode}
use Rattle.trb.specs.declared.CompletionCode.TheVariants.{Success, ShortPacket}
use Rattle.trb.specs.declared.EventDataTrb.{EventDataTrb}
use Rattle.call_log.specs.Calls.{Out}
use Rattle.call_log.specs.Records.{guest_write, when}
use Rattle.call_log.specs.declared.Record.{Record}
use Rattle.td_part.specs.declared.TdInfo.{TdInfo}
use Rattle.td_part.specs.declared.TdProgress.{TdProgress}
use Rattle.td_part.specs.declared.TdProcessingState.TheVariants.{Default, ShortTransfer}
use Rattle.td_part.specs.declared.TrbDmaInfo.{TrbDmaInfo}
use Rattle.td_part.specs.Parts.{edtla_after, put_dma, realize_dma, repeat_short, report_success, handle_event_data, code_after, event_at}
use Rattle.standard.specs.Xhci.{Trb, normal, event_data, no_op, Outcome, ended, failed, complete, cut, fate, transfer_event, asked, moved, residual, short_residual, edtla, repeated_residual, accumulated, report, events_at, event_of, event_if, success, ioc_of, delivery_at, halts}
use Rattle.standard.proofs.XhciLaws.{fate-cut, fate-beyond}
use Rattle.conformance.specs.Translate.{told, wrote}
use Rattle.conformance.proofs.TranslateLaws.{told-when, wrote-when}

-- the standard's TRB for one that moves data
abbrev pub trb_of : TrbDmaInfo → Trb
trb_of d = normal d.addr d.data_pointer d.transfer_length d.interrupt_on_completion d.interrupt_on_short

-- the progress behind the TRBs `before`, of which none was short
pub record Reached (n : ℕ) (before : List Trb) (w : TdProgress) : Type 0 where
  pub enough : asked before ≤ n
  pub start : w.start ≡ asked before
  pub edtla : w.edtla ≡ edtla repeated_residual n before
  pub state : w.state ≡ Default

-- the progress behind the TRBs `before`, of which one was short
pub record Shortened (n : ℕ) (before : List Trb) (w : TdProgress) : Type 0 where
  pub short : n < asked before
  pub edtla : w.edtla ≡ edtla repeated_residual n before
  pub state : w.state ≡ ShortTransfer (short_residual n before)

-- the records of a TRB behind which the walk goes on
pub record Conforms (o : Outcome) (n : ℕ) (before : List Trb) (b : Trb) (behind : List Trb) (rs : List Record) : Type 0 where
  pub events : (rest : List Record) → told (rs ++ rest) ≡ events_at repeated_residual o n before b behind ++ told rest
  pub writes : (rest : List Record) → wrote (rs ++ rest) ≡ delivery_at n before b ++ wrote rest
  pub runs : halts o (fate o n before b behind) ≡ false

-- ---- The EDTLA

pub mod-add : (e m : ℕ) → (e % 2 ^ 24 + m) % 2 ^ 24 ≡ (m + e) % 2 ^ 24
mod-add e m = omega arith

pub edtla_after-edtla : (n : ℕ) (before : List Trb) (d : TrbDmaInfo)
    → edtla_after (edtla repeated_residual n before) (moved n before (trb_of d)) ≡ edtla repeated_residual n (trb_of d ∷ before)
edtla_after-edtla n before d = mod-add (accumulated repeated_residual n before) (moved n before (trb_of d))

-- ---- A TRB that is complete has the same event under every outcome

report-complete : (o : Outcome) (n : ℕ) (before : List Trb) (b : Trb)
    → report repeated_residual o complete n before b ≡ event_if (ioc_of b) (event_of repeated_residual success n before b)
report-complete ended n before b = refl
report-complete (failed code) n before b = refl

runs-complete : (o : Outcome) → halts o complete ≡ false
runs-complete ended = refl
runs-complete (failed code) = refl

-- ---- A TRB that moves data

module _ (td : TdInfo) (before : List Trb) (w : TdProgress) (d : TrbDmaInfo) (behind : List Trb) where
  abbrev length : ℕ
  length = d.transfer_length

  abbrev n : ℕ
  n = td.data_length

  module _ (at : Reached n before w) (fits : length + asked before ≤ n) where
    none-missing : length - min length (n - w.start) ≡ 0
    none-missing = omega (arith, at.start)

    all_moved : min length (n - w.start) ≡ length
    all_moved = omega (arith, at.start)

    pub full-reached : Reached n (trb_of d ∷ before) (realize_dma td w d).state
    unfolding realize_dma put_dma
    full-reached = record {
      enough = fits;
      start = rw all_moved (omega (arith, at.start));
      edtla = rw (at.edtla, at.start) (edtla_after-edtla n before d);
      state = rw (none-missing, at.state);
    }

    full-records : (realize_dma td w d).records
        ≡ guest_write d.data_pointer length (asked before) td.endpoint_id td.slot_id ∷ when d.interrupt_on_completion (event_at td d.addr 0 Success)
    unfolding realize_dma put_dma
    full-records = rw (none-missing, all_moved, at.start)

    moved-full : min length (n - asked before) ≡ length
    moved-full = omega arith

    pub full-conforms : (o : Outcome) → fate o n before (trb_of d) behind ≡ complete → Conforms o n before (trb_of d) behind (realize_dma td w d).records
    full-conforms o f =
        let none_left : length - length ≡ 0 = omega arith in
        record {
          events = λ rest.
              rw (full-records, f, report-complete o n before (trb_of d), moved-full, none_left)
              (told-when d.addr 0 Success td.endpoint_id td.slot_id rest d.interrupt_on_completion false);
          writes = λ rest.
              rw (full-records, moved-full, wrote-when d.addr 0 Success td.endpoint_id td.slot_id rest d.interrupt_on_completion false);
          runs = rw (f, runs-complete o);
        }

  module _ (at : Reached n before w) (lacks : n < length + asked before) where
    rest-moved : min length (n - w.start) ≡ n - asked before
    rest-moved = omega (arith, at.start, at.enough)

    moved-rest : min length (n - asked before) ≡ n - asked before
    moved-rest = omega (arith, at.enough)

    some-missing : eqb (length - (n - asked before)) 0 ≡ false
    some-missing = ne_eqb (length - (n - asked before)) 0 (λ q. omega (arith, at.enough))

    -- of a transfer that succeeded or failed, by the code
    short-records : (due : Bool) (code : CompletionCode) → (put_dma td w d due code).records
        ≡ guest_write d.data_pointer (n - asked before) (asked before) td.endpoint_id td.slot_id
        ∷ when due (event_at td d.addr (length - (n - asked before)) code)
    unfolding put_dma
    short-records due code = rw (rest-moved, at.start)

    is-short : realize_dma td w d ≡ put_dma td w d (d.interrupt_on_completion || d.interrupt_on_short) ShortPacket
    unfolding realize_dma
    is-short = rw (rest-moved, some-missing)

    pub short-shortened : Shortened n (trb_of d ∷ before) (realize_dma td w d).state
    unfolding put_dma
    short-shortened =
        rw is-short (record {
          short = lacks;
          edtla = rw (at.edtla, at.start) (edtla_after-edtla n before d);
          state = rw (rest-moved, some-missing, le-leb (asked before) n at.enough, moved-rest);
        })

    pub short-conforms : Conforms ended n before (trb_of d) behind (realize_dma td w d).records
    short-conforms = record {
      events = λ rest.
          rw (is-short, short-records, fate-cut n before (trb_of d) behind at.enough lacks, moved-rest)
          (told-when d.addr (length - (n - asked before)) ShortPacket td.endpoint_id td.slot_id rest (d.interrupt_on_completion || d.interrupt_on_short) false);
      writes = λ rest.
          rw (is-short, short-records, moved-rest, wrote-when d.addr (length - (n - asked before)) ShortPacket td.endpoint_id td.slot_id rest (d.interrupt_on_completion || d.interrupt_on_short) false);
      runs = refl;
    }

  -- where the transfer failed in it, it has the error's event, the endpoint halts there, and no TRB behind it runs
  module _ (at : Reached n before w) (code : CompletionCode) where
    failed-records : (put_dma td w d true code).records
        ≡ guest_write d.data_pointer (moved n before (trb_of d)) (asked before) td.endpoint_id td.slot_id ∷ event_at td d.addr (residual n before (trb_of d)) code ∷ []
    unfolding put_dma
    failed-records = rw at.start

    pub failed-events : fate (failed (code_number code)) n before (trb_of d) behind ≡ cut
        → told (put_dma td w d true code).records ≡ events_at repeated_residual (failed (code_number code)) n before (trb_of d) behind
    failed-events f = rw (failed-records, f)

    pub failed-writes : wrote (put_dma td w d true code).records ≡ delivery_at n before (trb_of d) ++ []
    failed-writes = rw failed-records

  -- passed after a short TRB
  module _ (at : Shortened n before w) where
    abbrev passed : Out TdProgress
    passed = repeat_short td w (short_residual n before) d.interrupt_on_completion d.addr

    none-moved : min length (n - asked before) ≡ 0
    none-moved = omega (arith, at.short)

    pub passed-shortened : Shortened n (trb_of d ∷ before) passed.state
    passed-shortened = record {
      short = omega (arith, at.short);
      edtla = rw none-moved (omega (arith, at.edtla));
      state = rw (lt-leb (asked before) n at.short) at.state;
    }

    pub passed-conforms : Conforms ended n before (trb_of d) behind passed.records
    passed-conforms = record {
      events = λ rest.
          rw (fate-beyond n before (trb_of d) behind ended at.short)
          (told-when d.addr (short_residual n before) ShortPacket td.endpoint_id td.slot_id rest d.interrupt_on_completion false);
      writes = λ rest.
          rw none-moved (wrote-when d.addr (short_residual n before) ShortPacket td.endpoint_id td.slot_id rest d.interrupt_on_completion false);
      runs = refl;
    }

-- ---- Event Data

module _ (td : TdInfo) (before : List Trb) (w : TdProgress) (t : EventDataTrb) (a : ℕ) (behind : List Trb) where
  abbrev pub event_trb : Trb
  event_trb = event_data a t.event_data t.interrupt_on_completion

  event-writes : (rest : List Record) → wrote ((handle_event_data td w t).records ++ rest) ≡ wrote rest
  event-writes rest = wrote-when t.event_data w.edtla (code_after w.state) td.endpoint_id td.slot_id rest t.interrupt_on_completion true

  module _ (at : Reached td.data_length before w) where
    pub event-reached : Reached td.data_length (event_trb ∷ before) (handle_event_data td w t).state
    event-reached = record { enough = omega (arith, at.enough); start = omega (arith, at.start); edtla = refl; state = at.state }

    pub event-conforms : (o : Outcome) → fate o td.data_length before event_trb behind ≡ complete
        → Conforms o td.data_length before event_trb behind (handle_event_data td w t).records
    event-conforms o f = record {
      events = λ rest.
          rw (f, report-complete o td.data_length before event_trb, at.state, at.edtla)
          (told-when t.event_data (edtla repeated_residual td.data_length before) Success td.endpoint_id td.slot_id rest t.interrupt_on_completion true);
      writes = event-writes;
      runs = rw (f, runs-complete o);
    }

  module _ (at : Shortened td.data_length before w) where
    pub event-shortened : Shortened td.data_length (event_trb ∷ before) (handle_event_data td w t).state
    event-shortened = record { short = omega (arith, at.short); edtla = refl; state = rw (lt-leb (asked before) td.data_length at.short) at.state }

    pub event-passed : Conforms ended td.data_length before event_trb behind (handle_event_data td w t).records
    event-passed = record {
      events = λ rest.
          rw (fate-beyond td.data_length before event_trb behind ended at.short, at.state, at.edtla)
          (told-when t.event_data (edtla repeated_residual td.data_length before) ShortPacket td.endpoint_id td.slot_id rest t.interrupt_on_completion true);
      writes = event-writes;
      runs = refl;
    }

-- ---- No Op

module _ (td : TdInfo) (before : List Trb) (w : TdProgress) (ioc : Bool) (a : ℕ) (behind : List Trb) where
  abbrev no_op_out : Out TdProgress
  no_op_out = report_success td w w.edtla ioc a

  no_op-events : (rest : List Record) → told (no_op_out.records ++ rest) ≡ event_if ioc (transfer_event success false a 0) ++ told rest
  no_op-events rest = told-when a 0 Success td.endpoint_id td.slot_id rest ioc false

  no_op-writes : (rest : List Record) → wrote (no_op_out.records ++ rest) ≡ wrote rest
  no_op-writes rest = wrote-when a 0 Success td.endpoint_id td.slot_id rest ioc false

  module _ (at : Reached td.data_length before w) where
    pub no_op-reached : Reached td.data_length (no_op a ioc ∷ before) no_op_out.state
    no_op-reached = record { enough = omega (arith, at.enough); start = omega (arith, at.start); edtla = at.edtla; state = at.state }

    pub no_op-conforms : (o : Outcome) → fate o td.data_length before (no_op a ioc) behind ≡ complete
        → Conforms o td.data_length before (no_op a ioc) behind no_op_out.records
    no_op-conforms o f = record {
      events = λ rest. rw (f, report-complete o td.data_length before (no_op a ioc)) (no_op-events rest);
      writes = no_op-writes;
      runs = rw (f, runs-complete o);
    }

  module _ (at : Shortened td.data_length before w) where
    pub no_op-shortened : Shortened td.data_length (no_op a ioc ∷ before) no_op_out.state
    no_op-shortened = record { short = omega (arith, at.short); edtla = at.edtla; state = rw (lt-leb (asked before) td.data_length at.short) at.state }

    pub no_op-passed : Conforms ended td.data_length before (no_op a ioc) behind no_op_out.records
    no_op-passed = record {
      events = λ rest. rw (fate-beyond td.data_length before (no_op a ioc) behind ended at.short) (no_op-events rest);
      writes = no_op-writes;
      runs = refl;
    }
