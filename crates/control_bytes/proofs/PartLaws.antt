-- What a store of a part of the head makes of the block that the bytes are: the fields of the other parts stay. Assumes nothing.
use Prim.Native.Nat.{ℕ, ◌+◌, ◌<◌, ◌≤◌, ◌^◌}
use mathlib.Core.Path.{◌≡◌, ap, ◌∙◌}
use mathlib.Core.Bool.{Bool, cond}
use mathlib.Core.List.{List}
use native.Mathlib.Omega.{arith}
use lib.Dec.{eqb}
use lib.ListN.{length, drop, get_or}
use Rattle.buffers.specs.Patch.{patch}
use Rattle.buffers.specs.LittleEndian.{le_number, le_field}
use Rattle.buffers.proofs.LittleEndianLaws.{le_number-le_bytes}
use Rattle.buffers.proofs.PatchLaws.{length-patch, get_or-patch-in, get_or-patch-before, get_or-patch-behind}
use Rattle.trb.specs.declared.ControlSubmissionState.{ControlSubmissionState}
use Rattle.trb.specs.declared.ControlTransferState.{ControlTransferState}
use Rattle.held_bytes.specs.Places.{control_layout}
use Rattle.held_bytes.proofs.ByteLaws.{take-drop-before, drop-behind}
use Rattle.control_block.specs.declared.ControlTransfer.{ControlTransfer}
use Rattle.control_block.specs.Blocks as blocks
use Rattle.control_block.specs.Numbers.{release_of, phase_of}
use Rattle.control_bytes.specs.Head.{phase_number, state_of, state_number, state_address, direction_of, direction_number, transfer_at, turn_cells, count_cells}
use Rattle.control_bytes.specs.Layout.{head_length, places_in, held_at, block_of}
use Rattle.control_bytes.specs.Stores.{turned, counting, Headed}
use Rattle.control_bytes.proofs.HeadLaws.{phase-said, state-said, direction-said, field_stored}

-- bytes laid over the head from 4 on, or over a part of it
module _ (b : List ℕ) (at : ℕ) (vs : List ℕ) (behind : 4 ≤ at) (within : at + length vs ≤ head_length) (long : head_length ≤ length b) where
  abbrev stored : List ℕ
  stored = patch b at vs

  fits : at + length vs ≤ length b
  fits = omega arith

  field-before : (k n : ℕ) → k + n ≤ at → le_field k n stored ≡ le_field k n b
  field-before k n h = ap le_number (take-drop-before b at vs fits n k h)

  field-behind : (k n : ℕ) → at + length vs ≤ k → le_field k n stored ≡ le_field k n b
  field-behind k n h = ap (λ (l : List ℕ). le_field 0 n l) (drop-behind b at vs fits k h)

  -- the block is what its fields now say
  headed-by : (w : ControlTransfer) (s : ControlSubmissionState) (held : ℕ) → transfer_at stored ≡ w → state_of (get_or stored 5 0) (le_field 8 8 stored) ≡ s → held_at stored ≡ held
      → (b' : List ℕ) → b' ≡ stored → Headed b w s held b'
  unfolding block_of
  headed-by w s held transfer state count b' e =
      let kept = get_or-patch-before b at vs fits in
      let layout = kept 0 (omega arith) in
      let endpoint = kept 1 (omega arith) in
      let slot = kept 2 (omega arith) in
      let rule = kept 3 (omega arith) in
      let rest = drop-behind b at vs fits head_length within in
      record {
        block = ap block_of e
            ∙ (λ j. blocks.block_of (record { 0 = cond (eqb (layout j) control_layout) (endpoint j) 0 }) (record { 0 = cond (eqb (layout j) control_layout) (slot j) 0 }) (release_of (rule j)) (transfer j)
            (state j) (count j) (places_in (count j) (rest j)));
        behind = ap (drop head_length) e ∙ rest;
        long = ap (λ (l : List ℕ). length l) e ∙ length-patch b at vs fits;
      }

-- ---- Where the transfer is

module _ (b : List ℕ) (phase : ControlTransferState) (s : ControlSubmissionState) (direction : Bool) (long : head_length ≤ length b) (fit : state_address s < 256 ^ 8) where
  abbrev turn : List ℕ
  turn = turn_cells (phase_number phase) (state_number s) (direction_number direction) (state_address s)

  pub turn-headed : (b' : List ℕ) → b' ≡ patch b 4 turn → Headed b (turned phase direction (block_of b).transfer) s (block_of b).held b'
  unfolding block_of
  turn-headed =
      let now : List ℕ = patch b 4 turn in
      let inside = get_or-patch-in b 4 turn (omega arith) in
      let byte = get_or-patch-behind b 4 turn (omega arith) in
      let field = field-behind b 4 turn (omega arith) (omega arith) long in
      let at : phase_of (get_or now 4 0) ≡ phase = ap phase_of (inside 0 (omega arith)) ∙ phase-said phase in
      let towards : direction_of (get_or now 6 0) ≡ direction = ap direction_of (inside 2 (omega arith)) ∙ direction-said direction in
      let number : get_or now 5 0 ≡ state_number s = inside 1 (omega arith) in
      let addr : le_field 8 8 now ≡ state_address s = field_stored b turn 4 4 8 (omega arith) ∙ le_number-le_bytes 8 (state_address s) fit in
      let address = field 16 8 (omega arith) in
      let kind = byte 24 (omega arith) in
      let code = byte 25 (omega arith) in
      let value = field 26 2 (omega arith) in
      let index = field 28 2 (omega arith) in
      let asked = field 40 4 (omega arith) in
      let collected = field 32 8 (omega arith) in
      headed-by b 4 turn (omega arith) (omega arith) long (turned phase direction (block_of b).transfer) s (block_of b).held
      (λ j. record {
        phase = at j;
        direction = towards j;
        request = record { address = address j; request_type = kind j; request = code j; value = value j; index = index j; length = asked j };
        collected = collected j;
      })
      ((λ j. state_of (number j) (addr j)) ∙ state-said s) (field 44 4 (omega arith))

-- ---- What is counted

module _ (b : List ℕ) (collected asked held : ℕ) (long : head_length ≤ length b) (few : collected < 256 ^ 8) (short : asked < 256 ^ 4) (places : held < 256 ^ 4) where
  abbrev counts : List ℕ
  counts = count_cells collected asked held

  pub counts-headed : (b' : List ℕ) → b' ≡ patch b 32 counts → Headed b (counting collected asked (block_of b).transfer) (block_of b).state held b'
  unfolding block_of
  counts-headed =
      let now : List ℕ = patch b 32 counts in
      let byte = get_or-patch-before b 32 counts (omega arith) in
      let field = field-before b 32 counts (omega arith) (omega arith) long in
      let phase = byte 4 (omega arith) in
      let number = byte 5 (omega arith) in
      let direction = byte 6 (omega arith) in
      let addr = field 8 8 (omega arith) in
      let address = field 16 8 (omega arith) in
      let kind = byte 24 (omega arith) in
      let code = byte 25 (omega arith) in
      let value = field 26 2 (omega arith) in
      let index = field 28 2 (omega arith) in
      let collected-now : le_field 32 8 now ≡ collected = field_stored b counts 32 0 8 (omega arith) ∙ le_number-le_bytes 8 collected few in
      let asked-now : le_field 40 4 now ≡ asked = field_stored b counts 32 8 4 (omega arith) ∙ le_number-le_bytes 4 asked short in
      let held-now : held_at now ≡ held = field_stored b counts 32 12 4 (omega arith) ∙ le_number-le_bytes 4 held places in
      headed-by b 32 counts (omega arith) (omega arith) long (counting collected asked (block_of b).transfer) (block_of b).state held
      (λ j. record {
        phase = phase_of (phase j);
        direction = direction_of (direction j);
        request = record { address = address j; request_type = kind j; request = code j; value = value j; index = index j; length = asked-now j };
        collected = collected-now j;
      })
      (λ j. state_of (number j) (addr j)) held-now

-- ---- One store behind another

pub headed-then : (b b' b'' : List ℕ) (w w' : ControlTransfer) (s s' : ControlSubmissionState) (held held' : ℕ) → Headed b w s held b' → Headed b' w' s' held' b'' → Headed b w' s' held' b''
headed-then b b' b'' w w' s s' held held' first second =
    let old = first.block in
    let rest = first.behind in
    record {
      block = second.block ∙ (λ j. blocks.block_of (old j).endpoint_id (old j).slot_id (old j).release w' s' held' (places_in held' (rest j)));
      behind = second.behind ∙ rest;
      long = second.long ∙ first.long;
    }
