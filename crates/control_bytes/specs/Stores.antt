-- What a store makes of the block that the bytes are. Assumes nothing.
use Rattle.std.specs.Prelude.{ℕ, ◌+◌, ◌≡◌, Bool, List, ◌∷◌, length, drop, set, replicate}
use Rattle.trb.specs.declared.ControlSubmissionState.{ControlSubmissionState}
use Rattle.trb.specs.declared.ControlTransferState.{ControlTransferState}
use Rattle.trb.specs.declared.TransferTrb.{TransferTrb}
use Rattle.trb.specs.declared.UsbRequest.{UsbRequest}
use Rattle.held_bytes.specs.Places.{control_layout}
use Rattle.control_block.specs.declared.ControlTransfer.{ControlTransfer}
use Rattle.control_block.specs.Blocks as blocks
use Rattle.control_block.specs.Numbers.{release_of}
use Rattle.control_bytes.specs.Layout.{head_length, block_length, places_in, block_of}

-- the block is at this transfer, in this state, and holds so many places; what its creation gave it stays, and so do the bytes behind
pub record Headed (b : List ℕ) (w : ControlTransfer) (state : ControlSubmissionState) (held : ℕ) (b' : List ℕ) : Type 0 where
  pub block : block_of b'
      ≡ blocks.block_of (block_of b).endpoint_id (block_of b).slot_id (block_of b).release w state held (places_in held (drop head_length b))
  pub behind : drop head_length b' ≡ drop head_length b
  pub long : length b' ≡ length b

-- the transfer w at this phase, in this direction
abbrev pub turned : ControlTransferState → Bool → ControlTransfer → ControlTransfer
turned phase direction w = record { phase = phase; direction = direction; request = w.request; collected = w.collected }

-- the request q for so many bytes
abbrev pub asking : ℕ → UsbRequest → UsbRequest
asking n q = record { address = q.address; request_type = q.request_type; request = q.request; value = q.value; index = q.index; length = n }

-- the transfer w with so many bytes collected and so many asked for
abbrev pub counting : (collected length : ℕ) → ControlTransfer → ControlTransfer
counting collected length w = record { phase = w.phase; direction = w.direction; request = asking length w.request; collected = collected }

-- the head of a fresh block
abbrev pub fresh_head : ℕ → ℕ → ℕ → List ℕ
fresh_head e s release = control_layout ∷ e ∷ s ∷ release ∷ replicate 44 0

-- the block is fresh, with these ids and this rule
pub record Made (b : List ℕ) (e s release : ℕ) (b' : List ℕ) : Type 0 where
  pub block : block_of b' ≡ blocks.fresh_block (record { 0 = e }) (record { 0 = s }) (release_of release)
  pub behind : drop head_length b' ≡ drop head_length b
  pub long : length b' ≡ length b

-- the TRB t stands behind the n that are held; the head stays, and so do the bytes behind the block
pub record Placed (b : List ℕ) (n : ℕ) (t : TransferTrb) (b' : List ℕ) : Type 0 where
  pub places : places_in (n + 1) (drop head_length b') ≡ set (places_in n (drop head_length b)) n t
  pub endpoint : (block_of b').endpoint_id ≡ (block_of b).endpoint_id
  pub slot : (block_of b').slot_id ≡ (block_of b).slot_id
  pub rule : (block_of b').release ≡ (block_of b).release
  pub transfer : (block_of b').transfer ≡ (block_of b).transfer
  pub behind : drop block_length b' ≡ drop block_length b
  pub long : length b' ≡ length b
