-- What a store of the head makes of the block that the bytes are. Assumes nothing.
use Prim.Native.Nat.{ℕ, ◌+◌, ◌≤◌}
use mathlib.Core.Path.{◌≡◌, refl, sym, ap, ◌∙◌}
use mathlib.Core.Bool.{Bool, true, false, cond}
use mir.Val.{bool_byte}
use mathlib.Core.List.{List, ◌++◌}
use native.Mathlib.Omega.{arith}
use lib.Dec.{eqb}
use lib.ListN.{length, take, drop, get_or}
use lib.Seq.{drop-drop}
use Rattle.buffers.specs.Patch.{patch}
use Rattle.buffers.specs.LittleEndian.{le_number, le_field}
use Rattle.buffers.proofs.LittleEndianLaws.{le_number-le_bytes}
use Rattle.buffers.proofs.PatchLaws.{length-patch, drop-patch, get_or-patch-in, get_or-patch-before}
use Rattle.trb.specs.declared.ControlSubmissionState.{ControlSubmissionState}
use Rattle.trb.specs.declared.ControlSubmissionState.TheVariants.{NoTrbSubmitted, CollectingTd, ParserError, UnexpectedTrb, AwaitingControlRequest}
use Rattle.trb.specs.declared.ControlTransferState.{ControlTransferState}
use Rattle.trb.specs.declared.ControlTransferState.TheVariants.{ExpectSetupStageTrb, MaybeDataStageTrb, MoreData, ExpectStatusStageTrb, ExpectFinalEventDataTrb}
use Rattle.held_bytes.specs.Places.{control_layout}
use Rattle.held_bytes.proofs.ByteLaws.{drop-behind}
use Rattle.control_block.specs.declared.ControlTransfer.{ControlTransfer}
use Rattle.control_block.specs.Blocks as blocks
use Rattle.control_block.specs.Numbers.{release_of, phase_of}
use Rattle.control_bytes.specs.Head.{phase_number, state_of, state_number, state_address, direction_of, direction_number, request_at, head_bytes, Fit}
use Rattle.control_bytes.specs.Layout.{head_length, places_of, places_in, held_at, block_of}
use Rattle.control_bytes.specs.Stores.{Headed, fresh_head, Made}

-- ---- A number says what it was made of

pub phase-said : (p : ControlTransferState) → phase_of (phase_number p) ≡ p
phase-said ExpectSetupStageTrb = refl
phase-said MaybeDataStageTrb = refl
phase-said MoreData = refl
phase-said ExpectStatusStageTrb = refl
phase-said ExpectFinalEventDataTrb = refl

pub state-said : (s : ControlSubmissionState) → state_of (state_number s) (state_address s) ≡ s
state-said NoTrbSubmitted = refl
state-said CollectingTd = refl
state-said (ParserError a) = refl
state-said (UnexpectedTrb a) = refl
state-said AwaitingControlRequest = refl

pub direction-said : (b : Bool) → direction_of (direction_number b) ≡ b
direction-said true = refl
direction-said false = refl

-- a direction as a byte
pub direction-byte : (b : Bool) → bool_byte b ≡ direction_number b
direction-byte true = refl
direction-byte false = refl

-- ---- The head from byte 4 on

-- a number of the bytes that are stored
pub field_stored : (b vs : List ℕ) (at k n : ℕ) → at + length vs ≤ length b → le_field (at + k) n (patch b at vs) ≡ le_field k n (vs ++ drop (at + length vs) b)
field_stored b vs at k n fits = ap (λ (l : List ℕ). le_number (take n l)) (sym (drop-drop k at (patch b at vs)) ∙ ap (drop k) (drop-patch b at vs (omega arith)))

module _ (b : List ℕ) (w : ControlTransfer) (s : ControlSubmissionState) (held : ℕ) (long : head_length ≤ length b) (fit : Fit w s held) where
  abbrev vs : List ℕ
  vs = head_bytes w s held

  abbrev stored : List ℕ
  stored = patch b 4 vs

  fits : 4 + length vs ≤ length b
  fits = omega arith

  request-stored : request_at stored ≡ w.request
  request-stored =
      let address : le_field 16 8 stored ≡ w.request.address = field_stored b vs 4 12 8 fits ∙ le_number-le_bytes 8 w.request.address fit.address in
      let kind : get_or stored 24 0 ≡ w.request.request_type = get_or-patch-in b 4 vs fits 20 (omega arith) in
      let code : get_or stored 25 0 ≡ w.request.request = get_or-patch-in b 4 vs fits 21 (omega arith) in
      let value : le_field 26 2 stored ≡ w.request.value = field_stored b vs 4 22 2 fits ∙ le_number-le_bytes 2 w.request.value fit.value in
      let index : le_field 28 2 stored ≡ w.request.index = field_stored b vs 4 24 2 fits ∙ le_number-le_bytes 2 w.request.index fit.index in
      let asked : le_field 40 4 stored ≡ w.request.length = field_stored b vs 4 36 4 fits ∙ le_number-le_bytes 4 w.request.length fit.request-length in
      λ j. record { address = address j; request_type = kind j; request = code j; value = value j; index = index j; length = asked j }

  block-stored : block_of stored ≡ blocks.block_of (block_of b).endpoint_id (block_of b).slot_id (block_of b).release w s held (places_in held (drop head_length b))
  unfolding block_of
  block-stored =
      let layout = get_or-patch-before b 4 vs fits 0 (omega arith) in
      let endpoint = get_or-patch-before b 4 vs fits 1 (omega arith) in
      let slot = get_or-patch-before b 4 vs fits 2 (omega arith) in
      let rule = get_or-patch-before b 4 vs fits 3 (omega arith) in
      let phase : phase_of (get_or stored 4 0) ≡ w.phase = ap phase_of (get_or-patch-in b 4 vs fits 0 (omega arith)) ∙ phase-said w.phase in
      let number : get_or stored 5 0 ≡ state_number s = get_or-patch-in b 4 vs fits 1 (omega arith) in
      let addr : le_field 8 8 stored ≡ state_address s = field_stored b vs 4 4 8 fits ∙ le_number-le_bytes 8 (state_address s) fit.state-address in
      let state : state_of (get_or stored 5 0) (le_field 8 8 stored) ≡ s = (λ j. state_of (number j) (addr j)) ∙ state-said s in
      let direction : direction_of (get_or stored 6 0) ≡ w.direction = ap direction_of (get_or-patch-in b 4 vs fits 2 (omega arith)) ∙ direction-said w.direction in
      let request = request-stored in
      let collected : le_field 32 8 stored ≡ w.collected = field_stored b vs 4 28 8 fits ∙ le_number-le_bytes 8 w.collected fit.collected in
      let count : held_at stored ≡ held = field_stored b vs 4 40 4 fits ∙ le_number-le_bytes 4 held fit.held-few in
      let rest = drop-behind b 4 vs fits head_length (omega arith) in
      λ j. blocks.block_of (record { 0 = cond (eqb (layout j) control_layout) (endpoint j) 0 }) (record { 0 = cond (eqb (layout j) control_layout) (slot j) 0 }) (release_of (rule j))
      (record { phase = phase j; direction = direction j; request = request j; collected = collected j }) (state j) (count j) (places_in (count j) (rest j))

  pub headed : (b' : List ℕ) → b' ≡ stored → Headed b w s held b'
  headed b' e = record {
    block = ap block_of e ∙ block-stored;
    behind = ap (drop head_length) e ∙ drop-behind b 4 vs fits head_length (omega arith);
    long = ap (λ (l : List ℕ). length l) e ∙ length-patch b 4 vs fits;
  }

-- ---- A fresh head

module _ (b : List ℕ) (e s release : ℕ) (long : head_length ≤ length b) where
  abbrev fresh : List ℕ
  fresh = patch b 0 (fresh_head e s release)

  block_made : block_of fresh ≡ blocks.fresh_block (record { 0 = e }) (record { 0 = s }) (release_of release)
  unfolding block_of places_in places_of
  block_made = ap block_of (drop-patch b 0 (fresh_head e s release) (omega arith))

  pub made : (b' : List ℕ) → b' ≡ fresh → Made b e s release b'
  made b' p = record {
    block = ap block_of p ∙ block_made;
    behind = ap (drop head_length) p ∙ drop-behind b 0 (fresh_head e s release) (omega arith) head_length (omega arith);
    long = ap (λ (l : List ℕ). length l) p ∙ length-patch b 0 (fresh_head e s release) (omega arith);
  }
