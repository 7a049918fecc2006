-- Where the engine departs from the public texts: for each departure, by its number in docs/DIFFERENCES.md, the smallest call, computed on the
-- engine's definitions and on the standard's. Assumes nothing.
use Rattle.std.specs.Prelude.{ℕ, ◌≡◌, refl, true, false, cond, List, [], ◌∷◌, eqb, None, Some}
use Rattle.trb.specs.declared.ControlRequestProcessingResult.TheVariants as device
use Rattle.trb.specs.declared.InTrbProcessingStatus.TheVariants as status
use Rattle.trb.specs.declared.TransferTrbVariant.TheVariants.{Unrecognized}
use Rattle.in_td.specs.declared.InMode.TheVariants.{Strict}
use Rattle.call_log.specs.Records.{request_kind}
use Rattle.call_log.specs.declared.Record.{Record}
use Rattle.control_block.specs.declared.GuestRelease.TheVariants.{Release4, Release5}
use Rattle.standard.specs.Control.{Kind, ControlTransfer, data_stage, status_stage, setup_stage, transferred, data_failed, status_failed, control_events, immediate_allowed}
use Rattle.standard.specs.Usb.{Setup, setup_bytes, stages}
use Rattle.standard.specs.Usb as usb
use Rattle.standard.specs.Xhci.{normal, event_data, no_op, transfer_event, own_residual, succeeded, stalled, unanswered, ended, events, delivery, deliveries, buffer_allowed, is_td}
use Rattle.conformance.specs.Phases.{OfKind}
use Rattle.conformance.specs.Runs.{seen, standard_seen, in_call, in_run_of, in_run, in_number, in_made_up, ControlCall, control_call, ControlRan, control_run_for, control_run, normal_trb, event_data_trb, no_op_trb, setup_stage_trb, data_stage_trb, status_stage_trb, unrecognized_trb}
use Rattle.conformance.specs.TranslateControl.{outcome_of}
use Rattle.conformance.specs.Translate.{runs_on, halts, halts_at, told}

-- USB 2.0, 9.4.3: GET_DESCRIPTOR with wLength 64
abbrev get_descriptor : Setup
get_descriptor = record { bm_request_type = 0x80; b_request = 6; w_value = 0x0100; w_index = 0; w_length = 64 }

-- USB 2.0, 9.3: a class request with its data from the host
abbrev set_report : Setup
set_report = record { bm_request_type = 0x21; b_request = 9; w_value = 0x0200; w_index = 0; w_length = 12 }

-- GET_DESCRIPTOR with wLength 0
abbrev get_nothing : Setup
get_nothing = record { bm_request_type = 0x80; b_request = 6; w_value = 0x0100; w_index = 0; w_length = 0 }

-- a Setup Stage TRB of zeros
abbrev no_request : Setup
no_request = record { bm_request_type = 0; b_request = 0; w_value = 0; w_index = 0; w_length = 0 }

-- the lengths that a log asks the device for
abbrev request_lengths : List Record → List ℕ
request_lengths [] = []
request_lengths (r ∷ rs) = cond (eqb r.kind request_kind) (r.length ∷ request_lengths rs) (request_lengths rs)

-- ---- 1: a Normal of 0 bytes with IOC; Stall, as ported

pub stall-of-none-engine : in_run (in_call (normal_trb 0x1000 0x8000 0 false true false false) (Some status.Stall) 0 ∷ [])
    ≡ record { events = transfer_event 1 false 0x1000 0 ∷ []; writes = []; halt = runs_on }
unfolding in_run
stall-of-none-engine = refl

pub stall-of-none-standard : standard_seen own_residual stalled 0 (normal 0x1000 0x8000 0 true false ∷ [])
    ≡ record { events = transfer_event 6 false 0x1000 0 ∷ []; writes = []; halt = halts_at 0x1000 }
stall-of-none-standard = refl

-- 02, R-4: in strict mode they agree
pub stall-of-none-strict : in_run_of Strict (in_call (normal_trb 0x1000 0x8000 0 false true false false) (Some status.Stall) 0 ∷ [])
    ≡ standard_seen own_residual stalled 0 (normal 0x1000 0x8000 0 true false ∷ [])
unfolding in_run_of
stall-of-none-strict = refl

-- ---- 2: a Normal of 8 bytes with IOC; 9 bytes come

pub babble-engine : in_run (in_call (normal_trb 0x1000 0x8000 8 false true false false) (Some status.Success) 9 ∷ [])
    ≡ record { events = transfer_event 1 false 0x1000 0 ∷ []; writes = delivery 0x8000 8 0 ∷ []; halt = runs_on }
unfolding in_run
babble-engine = refl

pub babble-standard : standard_seen own_residual succeeded 9 (normal 0x1000 0x8000 8 true false ∷ [])
    ≡ record { events = transfer_event 3 false 0x1000 0 ∷ []; writes = delivery 0x8000 8 0 ∷ []; halt = halts_at 0x1000 }
babble-standard = refl

-- ---- 3: Normals of 8 with ISP and of 16 with IOC; 3 bytes come

pub passed-normal-engine :
    in_run (
    in_call (normal_trb 0x1000 0x8000 8 true false true false) None 0
    ∷ in_call (normal_trb 0x1010 0x8008 16 false true false false) (Some status.Success) 3
    ∷ []
    )
    ≡ record { events = transfer_event 13 false 0x1000 5 ∷ transfer_event 13 false 0x1010 5 ∷ []; writes = delivery 0x8000 3 0 ∷ []; halt = runs_on }
unfolding in_run
passed-normal-engine = refl

pub passed-normal-standard : standard_seen own_residual succeeded 3 (normal 0x1000 0x8000 8 false true ∷ normal 0x1010 0x8008 16 true false ∷ [])
    ≡ record { events = transfer_event 13 false 0x1000 5 ∷ transfer_event 13 false 0x1010 16 ∷ []; writes = delivery 0x8000 3 0 ∷ []; halt = runs_on }
passed-normal-standard = refl

-- ---- 10: a Normal of 4 bytes with immediate data and IOC is turned down; of a made-up block that holds one 4 bytes come

pub immediate-in-refused : in_number (normal_trb 0x1000 0x8000 4 false true false true) ≡ 21
unfolding in_number
immediate-in-refused = refl

pub immediate-in-engine : in_made_up (normal_trb 0x1000 0x8000 4 false true false true) (Some status.Success) 4
    ≡ record { events = transfer_event 1 false 0x1000 0 ∷ []; writes = delivery 0x8000 4 0 ∷ []; halt = runs_on }
unfolding in_made_up
immediate-in-engine = refl

pub immediate-in-standard : immediate_allowed true 4 ≡ false
immediate-in-standard = refl

-- ---- 11: a chained Normal of 8 bytes with IOC, then a Setup

pub dropped-normal-engine :
    in_run (in_call (normal_trb 0x1000 0x8000 8 true true false false) None 0 ∷ in_call (setup_stage_trb 0x1010 no_request false) None 0 ∷ [])
    ≡ record { events = transfer_event 5 false 0x1010 0 ∷ []; writes = []; halt = halts }
unfolding in_run
dropped-normal-engine = refl

-- the Normal, where it ran and its 8 bytes came
pub dropped-normal-standard : standard_seen own_residual succeeded 8 (normal 0x1000 0x8000 8 true false ∷ [])
    ≡ record { events = transfer_event 1 false 0x1000 0 ∷ []; writes = delivery 0x8000 8 0 ∷ []; halt = runs_on }
dropped-normal-standard = refl

-- ---- 14: a Normal of 8 bytes; 3 bytes come, and the device is gone

pub disconnect-engine : in_run (in_call (normal_trb 0x1000 0x8000 8 false false false false) (Some status.Disconnect) 3 ∷ [])
    ≡ record { events = transfer_event 4 false 0x1000 5 ∷ []; writes = delivery 0x8000 3 0 ∷ []; halt = halts }
unfolding in_run
disconnect-engine = refl

-- a device that does not answer
pub disconnect-standard : standard_seen own_residual unanswered 3 (normal 0x1000 0x8000 8 false false ∷ [])
    ≡ record { events = transfer_event 4 false 0x1000 5 ∷ []; writes = delivery 0x8000 3 0 ∷ []; halt = halts_at 0x1000 }
disconnect-standard = refl

-- ---- 4: Setup, Data IN of 18, Status chained to an Event Data TRB with IOC; 8 bytes come

pub final-code-engine :
    told (control_run (
    control_call (setup_stage_trb 0x1000 get_descriptor false) None 0
    ∷ control_call (data_stage_trb 0x1010 0x8000 18 false false false false true) None 0
    ∷ control_call (status_stage_trb 0x1020 true false false) None 0
    ∷ control_call (event_data_trb 0x1030 0xABCD false true) (Some device.SuccessfulControlIn) 8
    ∷ []
    )).records ≡ transfer_event 13 true 0xABCD 0 ∷ []
unfolding control_run
final-code-engine = refl

pub final-code-standard :
    control_events own_residual
    (record {
      setup_trb = setup_stage 0x1000 false;
      data_trbs = data_stage 0x1010 0x8000 18 false false ∷ [];
      status_trbs = status_stage 0x1020 false ∷ event_data 0x1030 0xABCD true ∷ [];
    })
    (transferred 8) ≡ transfer_event 1 true 0xABCD 0 ∷ []
final-code-standard = refl

-- ---- 5: Setup with IOC, Data IN of 18, Status; Stall, in the data stage and with no byte

abbrev stalled_calls : List ControlCall
stalled_calls =
    control_call (setup_stage_trb 0x1000 get_descriptor true) None 0
    ∷ control_call (data_stage_trb 0x1010 0x8000 18 false false false false true) None 0
    ∷ control_call (status_stage_trb 0x1020 false false false) (Some device.Stall) 0
    ∷ []

pub control-stall-engine : told (control_run_for Release4 stalled_calls).records ≡ transfer_event 6 false 0x1000 0 ∷ []
unfolding control_run_for
control-stall-engine = refl

pub control-stall-release-5-engine : told (control_run_for Release5 stalled_calls).records ≡ transfer_event 6 false 0x1010 0 ∷ []
unfolding control_run_for
control-stall-release-5-engine = refl

abbrev stalled_tds : ControlTransfer
stalled_tds = record { setup_trb = setup_stage 0x1000 true; data_trbs = data_stage 0x1010 0x8000 18 false false ∷ []; status_trbs = status_stage 0x1020 false ∷ [] }

pub control-stall-standard : control_events own_residual stalled_tds (data_failed 6 0) ≡ transfer_event 1 false 0x1000 0 ∷ transfer_event 6 false 0x1010 18 ∷ []
control-stall-standard = refl

-- the same where it is the status stage that fails: of this the engine knows nothing
pub status-stall-standard : control_events own_residual stalled_tds (status_failed 6 18) ≡ transfer_event 1 false 0x1000 0 ∷ transfer_event 6 false 0x1020 0 ∷ []
status-stall-standard = refl

-- without a data stage, and Setup without IOC: release 5's is the standard's
pub no-data-stall-engine :
    told (control_run_for Release5 (
    control_call (setup_stage_trb 0x1000 get_descriptor false) None 0
    ∷ control_call (status_stage_trb 0x1010 false false false) (Some device.Stall) 0
    ∷ []
    )).records ≡ transfer_event 6 false 0x1010 0 ∷ []
unfolding control_run_for
no-data-stall-engine = refl

pub no-data-stall-standard :
    control_events own_residual (record { setup_trb = setup_stage 0x1000 false; data_trbs = []; status_trbs = status_stage 0x1010 false ∷ [] }) (status_failed 6 0)
    ≡ transfer_event 6 false 0x1010 0 ∷ []
no-data-stall-standard = refl

-- ---- 6: a No Op with IOC

pub no-op-engine : told (control_run (control_call (no_op_trb 0x1000 false true) None 0 ∷ [])).records ≡ transfer_event 5 false 0x1000 0 ∷ []
unfolding control_run
no-op-engine = refl

pub no-op-standard : events own_residual ended 0 (no_op 0x1000 true ∷ []) ≡ transfer_event 1 false 0x1000 0 ∷ []
no-op-standard = refl

-- ---- 7: Setup with wLength 64, Data IN of 18, Status

pub length-asked-engine :
    request_lengths (control_run (
    control_call (setup_stage_trb 0x1000 get_descriptor false) None 0
    ∷ control_call (data_stage_trb 0x1010 0x8000 18 false false false false true) None 0
    ∷ control_call (status_stage_trb 0x1020 false false false) (Some device.SuccessfulControlIn) 18
    ∷ []
    )).records ≡ 18 ∷ []
unfolding control_run
length-asked-engine = refl

-- the bytes that go out in the setup stage
pub length-asked-standard : setup_bytes get_descriptor ≡ 0x80 ∷ 0x06 ∷ 0x00 ∷ 0x01 ∷ 0x00 ∷ 0x00 ∷ 0x40 ∷ 0x00 ∷ []
length-asked-standard = refl

-- ---- 8: Setup, Data IN of 18 with IOC, Setup

abbrev restarted : ControlRan
restarted =
    control_run (
    control_call (setup_stage_trb 0x1000 get_descriptor false) None 0
    ∷ control_call (data_stage_trb 0x1010 0x8000 18 false true false false true) None 0
    ∷ control_call (setup_stage_trb 0x1020 get_descriptor false) None 0
    ∷ []
    )

pub restart-engine : seen restarted.records restarted.halt ≡ record { events = transfer_event 1 false 0x1010 0 ∷ []; writes = []; halt = runs_on }
unfolding control_run
restart-engine = refl

-- the Data Stage TD runs, here with 8 bytes, before the second Setup
pub restart-standard : standard_seen own_residual succeeded 8 (data_stage 0x1010 0x8000 18 true false ∷ [])
    ≡ record { events = transfer_event 13 false 0x1010 10 ∷ []; writes = delivery 0x8000 8 0 ∷ []; halt = runs_on }
restart-standard = refl

-- ---- 9: control OUT: Setup, Data of 12 with immediate data chained to an Event Data TRB with IOC, Status

abbrev immediate_out : ControlRan
immediate_out =
    control_run (
    control_call (setup_stage_trb 0x1000 set_report false) None 0
    ∷ control_call (data_stage_trb 0x1010 0x1122334455667788 12 true false false true false) None 0
    ∷ control_call (event_data_trb 0x1020 0xABCD false true) None 0
    ∷ control_call (status_stage_trb 0x1030 false false false) (Some device.SuccessfulControlOut) 0
    ∷ []
    )

pub immediate-out-sent-engine : immediate_out.collected ≡ 0x88 ∷ 0x77 ∷ 0x66 ∷ 0x55 ∷ 0x44 ∷ 0x33 ∷ 0x22 ∷ 0x11 ∷ []
unfolding control_run
immediate-out-sent-engine = refl

pub immediate-out-told-engine : told immediate_out.records ≡ transfer_event 1 true 0xABCD 12 ∷ []
unfolding control_run
immediate-out-told-engine = refl

pub immediate-out-standard : immediate_allowed false 12 ≡ false
immediate-out-standard = refl

-- ---- 12: Setup, Data IN of 18, Unrecognized, Status

abbrev unrecognized_between : ControlRan
unrecognized_between =
    control_run (
    control_call (setup_stage_trb 0x1000 get_descriptor false) None 0
    ∷ control_call (data_stage_trb 0x1010 0x8000 18 false false false false true) None 0
    ∷ control_call (unrecognized_trb 0x1020) None 0
    ∷ control_call (status_stage_trb 0x1030 false false false) (Some device.SuccessfulControlIn) 18
    ∷ []
    )

pub unrecognized-told-engine : seen unrecognized_between.records unrecognized_between.halt ≡ record { events = transfer_event 5 false 0x1020 0 ∷ []; writes = []; halt = runs_on }
unfolding control_run
unrecognized-told-engine = refl

pub unrecognized-requested-engine : request_lengths unrecognized_between.records ≡ 18 ∷ []
unfolding control_run
unrecognized-requested-engine = refl

-- the grammar of 4.11.2.2 has no such TRB
pub unrecognized-standard : (k : Kind) → OfKind Unrecognized k → ⊥
unrecognized-standard k = elim [ ]

-- ---- 13: Setup, Status chained, Event Data with its Chain bit on

pub chained-end-engine :
    request_lengths (control_run (
    control_call (setup_stage_trb 0x1000 get_descriptor false) None 0
    ∷ control_call (status_stage_trb 0x1010 true false false) None 0
    ∷ control_call (event_data_trb 0x1020 0xABCD true true) (Some device.SuccessfulControlIn) 0
    ∷ []
    )).records ≡ 0 ∷ []
unfolding control_run
chained-end-engine = refl

-- the Status Stage TD has not ended
pub chained-end-standard : is_td (true ∷ true ∷ []) ≡ false
chained-end-standard = refl

-- ---- 15: Setup, Data IN of 18 chained, Event Data with IOC, Setup

pub dropped-chain-engine :
    told (control_run (
    control_call (setup_stage_trb 0x1000 get_descriptor false) None 0
    ∷ control_call (data_stage_trb 0x1010 0x8000 18 true false false false true) None 0
    ∷ control_call (event_data_trb 0x1020 0xABCD true true) None 0
    ∷ control_call (setup_stage_trb 0x1030 get_descriptor false) None 0
    ∷ []
    )).records ≡ transfer_event 1 false 0x1020 0 ∷ []
unfolding control_run
dropped-chain-engine = refl

-- the event of that TRB, were it to run with 18 bytes
pub dropped-chain-standard : events own_residual ended 18 (data_stage 0x1010 0x8000 18 false false ∷ event_data 0x1020 0xABCD true ∷ []) ≡ transfer_event 1 true 0xABCD 18 ∷ []
dropped-chain-standard = refl

-- ---- 18: Setup, Data with DIR out, Status with DIR in, of a request from the device; 18 bytes come

abbrev turned_round : ControlRan
turned_round =
    control_run (
    control_call (setup_stage_trb 0x1000 get_descriptor false) None 0
    ∷ control_call (data_stage_trb 0x1010 0x8000 18 false false false false false) None 0
    ∷ control_call (status_stage_trb 0x1020 false false true) (Some device.SuccessfulControlIn) 18
    ∷ []
    )

pub direction-engine : seen turned_round.records turned_round.halt ≡ record { events = []; writes = delivery 0x8000 18 0 ∷ []; halt = runs_on }
unfolding control_run
direction-engine = refl

-- the data stage comes from the device, the status stage goes to it
pub direction-standard : stages get_descriptor ≡ usb.setup_stage ∷ usb.data_stage true ∷ usb.status_stage false ∷ []
direction-standard = refl

-- ---- 19: wLength 0, with a Data IN of 18; and wLength 64, with none

pub no-length-engine :
    request_lengths (control_run (
    control_call (setup_stage_trb 0x1000 get_nothing false) None 0
    ∷ control_call (data_stage_trb 0x1010 0x8000 18 false false false false true) None 0
    ∷ control_call (status_stage_trb 0x1020 false false false) (Some device.SuccessfulControlIn) 18
    ∷ []
    )).records ≡ 18 ∷ []
unfolding control_run
no-length-engine = refl

pub no-length-standard : stages get_nothing ≡ usb.setup_stage ∷ usb.status_stage true ∷ []
no-length-standard = refl

pub no-data-engine :
    request_lengths (control_run (
    control_call (setup_stage_trb 0x1000 get_descriptor false) None 0
    ∷ control_call (status_stage_trb 0x1010 false false true) (Some device.SuccessfulControlIn) 0
    ∷ []
    )).records ≡ 0 ∷ []
unfolding control_run
no-data-engine = refl

pub no-data-standard : stages get_descriptor ≡ usb.setup_stage ∷ usb.data_stage true ∷ usb.status_stage false ∷ []
no-data-standard = refl

-- ---- 20: Setup, Data IN of 8 with IOC, Status; 9 bytes come

abbrev overfilled : ControlRan
overfilled =
    control_run (
    control_call (setup_stage_trb 0x1000 get_descriptor false) None 0
    ∷ control_call (data_stage_trb 0x1010 0x8000 8 false true false false true) None 0
    ∷ control_call (status_stage_trb 0x1020 false false false) (Some device.SuccessfulControlIn) 9
    ∷ []
    )

pub control-babble-engine : seen overfilled.records overfilled.halt
    ≡ record { events = transfer_event 1 false 0x1010 0 ∷ []; writes = delivery 0x8000 8 0 ∷ []; halt = runs_on }
unfolding control_run
control-babble-engine = refl

abbrev eight_bytes : ControlTransfer
eight_bytes = record { setup_trb = setup_stage 0x1000 false; data_trbs = data_stage 0x1010 0x8000 8 true false ∷ []; status_trbs = status_stage 0x1020 false ∷ [] }

pub control-babble-standard : control_events own_residual eight_bytes (outcome_of 9 eight_bytes) ≡ transfer_event 3 false 0x1010 0 ∷ []
control-babble-standard = refl

-- ---- 21: Setup, Data IN of 18, Status; 8 bytes come, then Stall

abbrev stalled_after_some : ControlRan
stalled_after_some =
    control_run (
    control_call (setup_stage_trb 0x1000 get_descriptor false) None 0
    ∷ control_call (data_stage_trb 0x1010 0x8000 18 false false false false true) None 0
    ∷ control_call (status_stage_trb 0x1020 false false false) (Some device.Stall) 8
    ∷ []
    )

pub stall-after-some-engine : seen stalled_after_some.records stalled_after_some.halt ≡ record { events = transfer_event 6 false 0x1000 0 ∷ []; writes = []; halt = halts }
unfolding control_run
stall-after-some-engine = refl

pub stall-after-some-standard :
    control_events own_residual
    (record { setup_trb = setup_stage 0x1000 false; data_trbs = data_stage 0x1010 0x8000 18 false false ∷ []; status_trbs = status_stage 0x1020 false ∷ [] })
    (data_failed 6 8) ≡ transfer_event 6 false 0x1010 10 ∷ []
stall-after-some-standard = refl

-- and the buffer gets them
pub stall-after-some-delivered : deliveries 8 (data_stage 0x1010 0x8000 18 false false ∷ []) ≡ delivery 0x8000 8 0 ∷ []
stall-after-some-delivered = refl

-- ---- 22: a Normal of 65,537 bytes; and one of 16 that crosses a 64 KiB boundary

pub long-buffer-engine : in_number (normal_trb 0x1000 0x8000 65537 false true false false) ≡ 0
unfolding in_number
long-buffer-engine = refl

pub long-buffer-standard : buffer_allowed 0x8000 65537 ≡ false
long-buffer-standard = refl

pub crossing-buffer-engine : in_run (in_call (normal_trb 0x1000 0xfff8 16 false true false false) (Some status.Success) 16 ∷ [])
    ≡ record { events = transfer_event 1 false 0x1000 0 ∷ []; writes = delivery 0xfff8 16 0 ∷ []; halt = runs_on }
unfolding in_run
crossing-buffer-engine = refl

pub crossing-buffer-standard : buffer_allowed 0xfff8 16 ≡ false
crossing-buffer-standard = refl
