-- `state_text::put_in_state` meets its contract: each arm writes its word. Assumes nothing.
use lib.Dec.{lit≤}
use Rattle.text.proofs.WroteLaws.{wrote-append, wrote-within}
use Rattle.state_text.specs.Lines.{in_state}
use Rattle.state_text.proofs.put_in_state.Goals as goal

pub returns-in-SubmissionDue : goal.returns-in-SubmissionDue
unfolding in_state
returns-in-SubmissionDue c = rw c.in-SubmissionDue.is (wrote-within (lit≤ tt) c.put_word.ensures)

pub returns-in-CollectingTd : goal.returns-in-CollectingTd
unfolding in_state
returns-in-CollectingTd c = rw c.in-CollectingTd.is (wrote-within (lit≤ tt) c.put_word-in-CollectingTd.ensures)

pub returns-in-AwaitingRealTransfer : goal.returns-in-AwaitingRealTransfer
unfolding in_state
returns-in-AwaitingRealTransfer c = rw c.in-AwaitingRealTransfer.is (wrote-within (lit≤ tt) c.put_word-in-AwaitingRealTransfer.ensures)

pub returns-in-AwaitingLocalCompletion : goal.returns-in-AwaitingLocalCompletion
unfolding in_state
returns-in-AwaitingLocalCompletion c = rw c.in-AwaitingLocalCompletion.is (wrote-within (lit≤ tt) c.put_word-in-AwaitingLocalCompletion.ensures)

pub returns-in-UnsupportedTrb : goal.returns-in-UnsupportedTrb
unfolding in_state
returns-in-UnsupportedTrb c =
    rw c.in-UnsupportedTrb.is
    (wrote-within (lit≤ tt) (wrote-append c.put_word-in-UnsupportedTrb.ensures c.put_hex.ensures))
