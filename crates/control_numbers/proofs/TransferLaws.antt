-- What a TRB that begins no transfer makes of its transfer, by numbers. Assumes nothing.
use Rattle.std.proofs.Common.{◌≡◌, ℕ, ◌+◌, ◌%◌, ◌^◌, ◌<◌, Bool, true, false, cond, ◌&&◌, eqb, sym, refl, ap, ◌∙◌, arith, eqb-true}
use Rattle.trb.proofs.TestLaws.{and_left, and_right}
use Rattle.raw_trb.specs.Layouts.{normal_type, setup_stage_type, data_stage_type, status_stage_type, isoch_type, event_data_type, no_op_type}
use Rattle.held_bytes.specs.Numbers.{setup_stage_of, variant_of}
use Rattle.phase_table.specs.declared.Outcome.{Outcome}
use Rattle.phase_table.specs.Outcomes.{holds, phase_after}
use Rattle.trb.specs.declared.ControlTransferState.{ControlTransferState}
use Rattle.control_block.specs.declared.ControlTransfer.{ControlTransfer}
use Rattle.control_block.specs.Blocks.{at_phase}
use Rattle.control_transfer.specs.Data.{data_of, size_of}
use Rattle.control_transfer.specs.Transfers.{begun, grown, taken_by, held_into, transfer_after}
use Rattle.control_bytes.specs.Stores.{turned, counting}
use Rattle.control_numbers.specs.Transfers.{size_taken}
use Rattle.control_numbers.proofs.KindLaws.{said}

module _ (kind flags value len addr : ℕ) (w : ControlTransfer) (short : w.request.length < 2 ^ 32) where
  -- the numbers of a transfer over those of w
  abbrev over : ControlTransfer → ControlTransfer
  over v = counting v.collected v.request.length w

  abbrev counts : ℕ → ControlTransfer
  counts n = over (grown w n)

  -- which grows by the request length on IN, by the bytes collected on OUT
  abbrev by_direction : Bool → ℕ → ControlTransfer
  by_direction input n = cond input (counting w.collected ((w.request.length + n) % 2 ^ 32) w) (counting (w.collected + n) w.request.length w)

  none-counted : w ≡ counts 0
  none-counted = by w.direction
    where
      by : (input : Bool) → w ≡ over (by_direction input 0)
      by true = let same : w.request.length ≡ (w.request.length + 0) % 2 ^ 32 = omega arith in λ j. counting w.collected (same j) w
      by false = let same : w.collected ≡ w.collected + 0 = omega arith in λ j. counting (same j) w.request.length w

  grown-counted : (n : ℕ) → grown w n ≡ counts n
  grown-counted n = by w.direction
    where
      by : (input : Bool) → by_direction input n ≡ over (by_direction input n)
      by true = refl
      by false = refl

  taken-said : (n d t i e o : Bool) → taken_by (said kind flags value len n false d t i e o) addr w ≡ counts (size_of (data_of (said kind flags value len n false d t i e o)))
  taken-said true d t i e o = grown-counted (size_of (data_of (said kind flags value len true false d t i e o)))
  taken-said false true t i e o = grown-counted (size_of (data_of (said kind flags value len false false true t i e o)))
  taken-said false false true i e o = none-counted
  taken-said false false false true e o = none-counted
  taken-said false false false false true o = none-counted
  taken-said false false false false false true = none-counted
  taken-said false false false false false false = none-counted

  taken-counted : eqb kind setup_stage_type ≡ false → taken_by (variant_of kind flags value len) addr w ≡ counts (size_of (data_of (variant_of kind flags value len)))
  unfolding variant_of
  taken-counted other = rw other (taken-said (eqb kind normal_type) (eqb kind data_stage_type) (eqb kind status_stage_type) (eqb kind isoch_type) (eqb kind event_data_type) (eqb kind no_op_type))

  pub held-counted : (o : Outcome) → (holds o && eqb kind setup_stage_type) ≡ false
      → held_into o (variant_of kind flags value len) addr w ≡ counts (size_taken o (data_of (variant_of kind flags value len)))
  held-counted o = by (holds o)
    where
      by : (hold : Bool) → (hold && eqb kind setup_stage_type) ≡ false
          → cond hold (taken_by (variant_of kind flags value len) addr w) w ≡ counts (cond hold (size_of (data_of (variant_of kind flags value len))) 0)
      by true other = taken-counted other
      by false other = none-counted

  -- by its phase and what it then counts
  pub counted-by : (o : Outcome) (phase : ControlTransferState) (v : ControlTransfer) → (holds o && eqb kind setup_stage_type) ≡ false → phase ≡ phase_after w.phase o
      → v ≡ grown w (size_taken o (data_of (variant_of kind flags value len)))
      → counting v.collected v.request.length (turned phase w.direction w) ≡ transfer_after o (variant_of kind flags value len) addr w
  unfolding transfer_after
  counted-by o phase v other at grew =
      (λ j. counting (grew j).collected (grew j).request.length (turned (at j) w.direction w)) ∙ ap (at_phase (phase_after w.phase o)) (sym (held-counted o other))

-- a Setup TRB that is held begins a transfer
pub begun-by : (kind flags value len addr : ℕ) (w : ControlTransfer) (o : Outcome) → (holds o && eqb kind setup_stage_type) ≡ true
    → begun (phase_after w.phase o) (setup_stage_of flags value) addr ≡ transfer_after o (variant_of kind flags value len) addr w
unfolding transfer_after variant_of
begun-by kind flags value len addr w o begins =
    let hold : holds o ≡ true = and_left (holds o) (eqb kind setup_stage_type) begins in
    let setup : kind ≡ setup_stage_type = eqb-true kind setup_stage_type (and_right (holds o) (eqb kind setup_stage_type) begins) in
    rw (hold, setup)
