-- `polvihe::polvihe_carry_out` meets its contract: carry-out's own, with the number of its answer. Assumes nothing.
use Prim.Native.Nat.{ℕ}
use mathlib.Core.Path.{◌≡◌, ◌∙◌}
use mathlib.Core.List.{List}
use Rattle.trb.specs.Answers.{number_of}
use Rattle.trb.specs.Answers.{Answer}
use Rattle.guest_memory.specs.Places.{Memory}
use Rattle.carry_out.specs.CarryOut.{Carried}
use Rattle.polvihe.specs.GuestMemory.{CarriesOut}
use borrow.Author.Rules.{rules}
use Rattle.polvihe.proofs.polvihe_carry_out.Goals as goal

by_number : {log bytes : List ℕ} {m m' : Memory} {a : Answer} {r : ℕ} → r ≡ number_of a → Carried log bytes m a m' → CarriesOut log bytes m r m'
by_number e h = record { number = e ∙ h.number; after = rw (← h.answer) h.after }

pub returns : goal.returns
returns c = by_number c.number_of.ensures (search rules)
