-- A call with the first so many bytes of each buffer: the rest stays as it was. Assumes nothing.
use Rattle.std.specs.Prelude.{ℕ, ◌≡◌, List, ◌++◌, take, drop}
use Rattle.text.specs.declared.Text.{Text}
use Rattle.guest_memory.specs.Places.{Memory, memory_of}
use Rattle.call_answer.specs.Called.{Called, Says}
use Rattle.in_block.specs.declared.InBlock.{InBlock}
use Rattle.call_answer.specs.declared.Ran.{Ran}
use Rattle.control_block.specs.declared.ControlBlock.{ControlBlock}
use Rattle.lent_calls.specs.declared.Lent.{Lent}

-- guest memory: as much of both buffers as the regions have
abbrev pub lent_memory : Lent → List ℕ → List ℕ → Memory
lent_memory l low high = memory_of l.window.low.start_addr (take l.window.low.len low) l.window.high.start_addr (take l.window.high.len high)

-- the buffer xs with ys in place of its first n bytes, which were lent
abbrev pub behind_lent : ℕ → List ℕ → List ℕ → List ℕ
behind_lent n xs ys = ys ++ drop n xs

-- a call that was to come to o made g' of the log g, and a' and b' of the bytes a and b of guest memory
pub record Leaves {B : Type 0} (o : Called B) (l : Lent) (g g' a a' b b' : List ℕ) : Type 0 where
  pub log : g' ≡ behind_lent l.log g o.log
  pub low : a' ≡ behind_lent l.window.low.len a o.memory.low
  pub high : b' ≡ behind_lent l.window.high.len b o.memory.high

-- of a call on an IN endpoint
pub record RunsLent (o : Called InBlock) (l : Lent) (t : Text) (r : Ran InBlock) (t' : Text) (log log' low low' high high' : List ℕ) : Type 0 where
  pub says : Says o.said t r t'
  pub leaves : Leaves o l log log' low low' high high'

-- of a call on a control endpoint, which was to leave this collect buffer
pub record RunsControlLent (o : Called ControlBlock) (collect : List ℕ) (l : Lent) (t : Text) (r : Ran ControlBlock) (t' : Text) (log log' collect' low low' high high' : List ℕ) : Type 0 where
  pub says : Says o.said t r t'
  pub collected : collect' ≡ collect
  pub leaves : Leaves o l log log' low low' high high'
