-- `call_runner::started` meets its contract. Assumes nothing.
use Rattle.call_runner.proofs.started.Goals as goal

pub returns : goal.returns
returns c = rw c.new_session.ensures
