-- What a call of a script comes to. Assumes nothing.
use Rattle.std.specs.Prelude.{ℕ, ◌≡◌, Bool, true, false, List, []}
use Rattle.guest_memory.specs.Places.{Memory}
use Rattle.text.specs.declared.Text.{Text}
use Rattle.text.specs.Wrote.{Wrote}
use Rattle.state_text.specs.Widths.{max_answer}
use Rattle.call_answer.specs.declared.Ran.{Ran}

-- what a call on an endpoint with a block says: the block afterwards, the text that answers it, how many records it logged, whether its line is good
pub record Said (B : Type 0) : Type 0 where
  pub block : B
  pub text : List ℕ
  pub records : ℕ
  pub good : Bool

-- a bad line: nothing is done
abbrev pub bad_said : {B : Type 0} → B → Said B
bad_said b = record { block = b; text = []; records = 0; good = false }

-- a call that prints nothing, and leaves the block b
abbrev pub silent_said : {B : Type 0} → B → Said B
silent_said b = record { block = b; text = []; records = 0; good = true }

-- a call that is answered, with so many records, and leaves the block b
abbrev pub answered_said : {B : Type 0} → List ℕ → B → ℕ → Said B
answered_said text b n = record { block = b; text = text; records = n; good = true }

-- and the log and guest memory afterwards
pub record Called (B : Type 0) : Type 0 where
  pub said : Said B
  pub log : List ℕ
  pub memory : Memory

abbrev pub called : {B : Type 0} → Said B → List ℕ → Memory → Called B
called o log m = record { said = o; log = log; memory = m }

-- ---- Promises

-- what a call that was to say o leaves, but for its text
abbrev pub ran_of : {B : Type 0} → Said B → Ran B
ran_of o = record { left = o.block; records = o.records; good = o.good }

-- a call that was to say o, behind the text t, returned r and left the text t'
pub record Says {B : Type 0} (o : Said B) (t : Text) (r : Ran B) (t' : Text) : Type 0 where
  pub ran : r ≡ ran_of o
  pub text : Wrote max_answer t o.text t'

-- a call that was to come to o left this log and this guest memory, too
pub record Runs {B : Type 0} (o : Called B) (t : Text) (r : Ran B) (t' : Text) (log' : List ℕ) (m' : Memory) : Type 0 where
  pub says : Says o.said t r t'
  pub log : log' ≡ o.log
  pub memory : m' ≡ o.memory
