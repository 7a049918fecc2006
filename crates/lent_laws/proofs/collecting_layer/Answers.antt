-- `lent_laws::collecting_layer` meets its contract: what the callee returned is the layer's answer with the block left. Assumes nothing.
use borrow.Author.Rules.{rules}
use Rattle.lent_laws.proofs.collecting_layer.Goals as goal

pub returns : goal.returns
returns g c = let met = rw c.leave.ensures at c.callee-returned.ensures in search rules
