-- A request has the fields of its setup packet (USB 2.0, 9.3), whatever TRBs follow its Setup Stage TRB. Assumes nothing.
use Prim.Native.Nat.{ℕ, ◌+◌, ◌<◌, ◌≤◌, ◌/◌, ◌%◌, ◌^◌}
use mathlib.Core.Path.{◌≡◌, refl, sym}
use mathlib.Core.Bool.{Bool, true, false, cond, false≢true}
use mathlib.Core.List.{List, [], ◌∷◌}
use mathlib.Core.Logic.{⊎_elim}
use native.Mathlib.Omega.{arith}
use borrow.Author.Tests.{le-leb, lt-leb, eq-eqb, ne_eqb}
use lib.Dec.{leb, eqb}
use lib.ListN.{take, drop}
use Rattle.trb.specs.declared.ControlTransferState.{ControlTransferState}
use Rattle.trb.specs.declared.EndpointId.{EndpointId}
use Rattle.trb.specs.declared.SlotId.{SlotId}
use Rattle.trb.specs.declared.TransferTrb.{TransferTrb}
use Rattle.trb.specs.declared.TransferTrbVariant.{TransferTrbVariant}
use Rattle.trb.specs.declared.TransferTrbVariant.TheVariants.{SetupStage, DataStage, StatusStage, Normal, EventData, NoOp, Isoch, Unrecognized}
use Rattle.trb.proofs.TestLaws.{or-false-left, or-false-right, le-or-lt}
use Rattle.call_log.specs.Records.{control_request, encode}
use Rattle.phase_table.specs.declared.Outcome.{Outcome}
use Rattle.phase_table.specs.Outcomes.{holds, phase_after}
use Rattle.phase_table.specs.Table.{trb_outcome}
use Rattle.control_block.specs.Blocks.{at_phase}
use Rattle.control_transfer.specs.Data.{data_of, size_of}
use Rattle.control_block.specs.declared.ControlTransfer.{ControlTransfer}
use Rattle.control_transfer.specs.Transfers.{begun, lengthened, grown, taken_by, held_into, transfer_after}
use Rattle.standard.specs.Usb.{Setup, setup_bytes}
use Rattle.conformance.specs.Requests.{setup_trb, Sized, Requests, is_setup, any_setup, transfer_behind}

-- bit 7 of a byte
leb-to_host : (x : ℕ) → x < 2 ^ 8 → leb 128 x ≡ eqb (x / 2 ^ 7 % 2) 1
leb-to_host x h =
    ⊎_elim
    (λ (g : 128 ≤ x). rw (le-leb 128 x g, eq-eqb (x / 2 ^ 7 % 2) 1 (omega arith)))
    (λ (g : x < 128). rw (lt-leb 128 x g, ne_eqb (x / 2 ^ 7 % 2) 1 (λ q. omega arith)))
    (le-or-lt 128 x)

pub begun-requests : (p : Setup) → Sized p → (phase : ControlTransferState) (ioc : Bool) (a : ℕ) → Requests p a (begun phase (setup_trb p ioc) a)
begun-requests p fits phase ioc a = record {
  direction = leb-to_host p.bm_request_type fits.bm_request_type;
  address = refl;
  bm_request_type = refl;
  b_request = refl;
  w_value = refl;
  w_index = refl;
}

-- the six bytes of a request record at offset 24 are the packet's first six
pub encode-setup_bytes : (p : Setup) → Sized p → (a : ℕ) (w : ControlTransfer) → Requests p a w → (e : EndpointId) (s : SlotId)
    → take 6 (drop 24 (encode (control_request w.request e s))) ≡ take 6 (setup_bytes p)
encode-setup_bytes p fits a w q e s =
    let value : p.w_value / 256 % 256 ≡ p.w_value / 256 = omega (arith, fits.w_value) in
    let index : p.w_index / 256 % 256 ≡ p.w_index / 256 = omega (arith, fits.w_index) in
    rw (q.bm_request_type, q.b_request, q.w_value, q.w_index, value, index)

-- ---- A TRB behind the Setup

module _ (p : Setup) (a : ℕ) where
  grown-requests : (w : ControlTransfer) (n : ℕ) → Requests p a w → Requests p a (grown w n)
  grown-requests w n q = by-direction w.direction
    where
      input : ControlTransfer
      input = record { phase = w.phase; direction = w.direction; request = lengthened w.request n; collected = w.collected }

      output : ControlTransfer
      output = record { phase = w.phase; direction = w.direction; request = w.request; collected = w.collected + n }

      by-direction : (direction : Bool) → Requests p a (cond direction input output)
      by-direction true = record { direction = q.direction; address = q.address; bm_request_type = q.bm_request_type; b_request = q.b_request; w_value = q.w_value; w_index = q.w_index }
      by-direction false = record { direction = q.direction; address = q.address; bm_request_type = q.bm_request_type; b_request = q.b_request; w_value = q.w_value; w_index = q.w_index }

  taken-requests : (v : TransferTrbVariant) (b : ℕ) (w : ControlTransfer) → is_setup v ≡ false → Requests p a w → Requests p a (taken_by v b w)
  taken-requests (SetupStage t) b w h q = absurd (false≢true (sym h))
  taken-requests (DataStage t) b w h q = grown-requests w (size_of (data_of (DataStage t))) q
  taken-requests (StatusStage t) b w h q = q
  taken-requests (Normal t) b w h q = grown-requests w (size_of (data_of (Normal t))) q
  taken-requests (EventData t) b w h q = q
  taken-requests (NoOp t) b w h q = q
  taken-requests Isoch b w h q = q
  taken-requests Unrecognized b w h q = q

  held-requests : (held : Bool) (v : TransferTrbVariant) (b : ℕ) (w : ControlTransfer) → is_setup v ≡ false → Requests p a w → Requests p a (cond held (taken_by v b w) w)
  held-requests true v b w h q = taken-requests v b w h q
  held-requests false v b w h q = q

  phase-requests : (phase : ControlTransferState) (w : ControlTransfer) → Requests p a w → Requests p a (at_phase phase w)
  phase-requests phase w q =
      record { direction = q.direction; address = q.address; bm_request_type = q.bm_request_type; b_request = q.b_request; w_value = q.w_value; w_index = q.w_index }

  after-requests : (o : Outcome) (v : TransferTrbVariant) (b : ℕ) (w : ControlTransfer) → is_setup v ≡ false → Requests p a w → Requests p a (transfer_after o v b w)
  unfolding transfer_after
  after-requests o v b w h q = phase-requests (phase_after w.phase o) (held_into o v b w) (held-requests (holds o) v b w h q)

  -- no Setup among the TRBs behind it
  pub behind-requests : (ts : List TransferTrb) (w : ControlTransfer) → any_setup ts ≡ false → Requests p a w → Requests p a (transfer_behind ts w)
  behind-requests [] w h q = q
  behind-requests (t ∷ ts) w h q =
      behind-requests ts (transfer_after (trb_outcome w.phase t.variant) t.variant t.addr w) (or-false-right (is_setup t.variant) (any_setup ts) h)
      (after-requests (trb_outcome w.phase t.variant) t.variant t.addr w (or-false-left (is_setup t.variant) (any_setup ts) h) q)
