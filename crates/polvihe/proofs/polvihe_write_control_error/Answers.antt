-- `polvihe::polvihe_write_control_error` meets its contract: the error is the number's. Assumes nothing.
use Rattle.polvihe.proofs.polvihe_write_control_error.Goals as goal

pub returns : goal.returns
returns c = rw c.transfer_error.ensures at c.write_event.ensures
