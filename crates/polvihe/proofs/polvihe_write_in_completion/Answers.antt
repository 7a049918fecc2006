-- `polvihe::polvihe_write_in_completion` meets its contract: pipe and status are the numbers'. Assumes nothing.
use Rattle.polvihe.proofs.polvihe_write_in_completion.Goals as goal

pub returns : goal.returns
returns c = rw (c.in_pipe.ensures, c.status_of.ensures) at c.write_event.ensures
