-- What a call stores: the block that the bytes become. Assumes nothing.
use Rattle.std.specs.Prelude.{ℕ, ◌+◌, ◌<◌, ◌≤◌, ◌≡◌, true, cond, List, length, drop, set}
use Rattle.trb.specs.Limits.{max_held, max_transfer_length}
use Rattle.trb.specs.Trbs.{transfer_length}
use Rattle.trb.specs.declared.TransferTrb.{TransferTrb}
use Rattle.held.specs.Sound.{supported}
use Rattle.held.specs.declared.EndpointKind.TheVariants.{Control}
use Rattle.phase_table.specs.declared.Outcome.{Outcome}
use Rattle.phase_table.specs.Outcomes.{holds}
use Rattle.control_block.specs.declared.ControlBlock.{ControlBlock}
use Rattle.control_bytes.specs.Layout.{head_length, block_length, places_in, block_of}

-- the bytes became those of the block x, and no byte behind the block changed
pub record Becomes (b : List ℕ) (x : ControlBlock) (b' : List ℕ) : Type 0 where
  pub block : block_of b' ≡ x
  pub behind : drop block_length b' ≡ drop block_length b
  pub long : length b' ≡ length b

-- behind n TRBs there is a place for the TRB t, and a control endpoint holds such
pub record Holdable (n : ℕ) (t : TransferTrb) : Type 0 where
  pub room : n < max_held
  pub kind : supported Control t.variant ≡ true
  pub short : transfer_length t.variant ≤ max_transfer_length

-- the TRB t is held behind the first n, if its outcome holds it: then r are held; the head stays
pub record Held (b : List ℕ) (o : Outcome) (t : TransferTrb) (n r : ℕ) (b' : List ℕ) : Type 0 where
  pub held : r ≡ cond (holds o) (n + 1) n
  pub places : places_in r (drop head_length b') ≡ cond (holds o) (set (places_in n (drop head_length b)) n t) (places_in n (drop head_length b))
  pub endpoint : (block_of b').endpoint_id ≡ (block_of b).endpoint_id
  pub slot : (block_of b').slot_id ≡ (block_of b).slot_id
  pub rule : (block_of b').release ≡ (block_of b).release
  pub transfer : (block_of b').transfer ≡ (block_of b).transfer
  pub behind : drop block_length b' ≡ drop block_length b
  pub long : length b' ≡ length b
