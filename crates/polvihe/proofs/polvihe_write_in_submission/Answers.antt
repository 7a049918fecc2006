-- `polvihe::polvihe_write_in_submission` meets its contract: the pipe is the numbers'. Assumes nothing.
use Rattle.polvihe.proofs.polvihe_write_in_submission.Goals as goal

pub returns : goal.returns
returns c = rw c.in_pipe.ensures at c.write_event.ensures
