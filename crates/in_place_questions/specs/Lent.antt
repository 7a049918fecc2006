-- What a call in place asks of the bytes that it is lent. Assumes nothing.
use Rattle.std.specs.Prelude.{ℕ, ◌≡◌, Bool, true, cond, List, leb, length, get_or}
use Rattle.in_block.specs.Facts.{facts_of, sound_block}
use Rattle.in_block.specs.declared.BlockFacts.{BlockFacts}
use Rattle.in_bytes.specs.Layout.{block_length, block_of}

-- 01, question 1, a short buffer: bytes that are too few for a block
abbrev pub block_question : List ℕ → (Bool × ℕ)
block_question b = (leb block_length (length b), 1)

-- the log's length, as question 1 has it: with bytes that are too few for a block no log is long enough
abbrev pub lent_log : List ℕ → List ℕ → ℕ
lent_log l b = cond (leb block_length (length b)) (length l) 0

-- what the questions ask about is the same of both
pub record SameFacts (f g : BlockFacts) : Type 0 where
  pub sound : sound_block f ≡ sound_block g
  pub state : f.state ≡ g.state
  pub held : f.held ≡ g.held

-- the bytes b are a sound block in the state of number n
pub record SoundIn (n : ℕ) (b : List ℕ) : Type 0 where
  pub sound : sound_block (facts_of (block_of b)) ≡ true
  pub state : get_or b 6 0 ≡ n
