-- What a call leaves of a block's bytes. Assumes nothing.
use Rattle.std.specs.Prelude.{ℕ, ◌≡◌, List, length, drop}
use Rattle.in_block.specs.declared.InBlock.{InBlock}
use Rattle.in_bytes.specs.Layout.{block_length, block_of}

-- the bytes b became bytes that are the block x, and no byte behind the block changed
pub record Becomes (b : List ℕ) (x : InBlock) (b' : List ℕ) : Type 0 where
  pub block : block_of b' ≡ x
  pub behind : drop block_length b' ≡ drop block_length b
  pub long : length b' ≡ length b
