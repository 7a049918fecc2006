-- `state_text::put_control_state` meets its contract: each arm writes its word. Assumes nothing.
use lib.Dec.{lit≤}
use Rattle.text.proofs.WroteLaws.{wrote-append, wrote-within}
use Rattle.state_text.specs.Lines.{control_state}
use Rattle.state_text.proofs.put_control_state.Goals as goal

pub returns-in-NoTrbSubmitted : goal.returns-in-NoTrbSubmitted
unfolding control_state
returns-in-NoTrbSubmitted c = rw c.in-NoTrbSubmitted.is (wrote-within (lit≤ tt) c.put_word.ensures)

pub returns-in-CollectingTd : goal.returns-in-CollectingTd
unfolding control_state
returns-in-CollectingTd c = rw c.in-CollectingTd.is (wrote-within (lit≤ tt) c.put_word-in-CollectingTd.ensures)

pub returns-in-ParserError : goal.returns-in-ParserError
unfolding control_state
returns-in-ParserError c =
    rw c.in-ParserError.is
    (wrote-within (lit≤ tt) (wrote-append c.put_word-in-ParserError.ensures c.put_hex.ensures))

pub returns-in-UnexpectedTrb : goal.returns-in-UnexpectedTrb
unfolding control_state
returns-in-UnexpectedTrb c =
    rw c.in-UnexpectedTrb.is
    (wrote-within (lit≤ tt) (wrote-append c.put_word-in-UnexpectedTrb.ensures c.put_hex-in-UnexpectedTrb.ensures))

pub returns-in-AwaitingControlRequest : goal.returns-in-AwaitingControlRequest
unfolding control_state
returns-in-AwaitingControlRequest c = rw c.in-AwaitingControlRequest.is (wrote-within (lit≤ tt) c.put_word-in-AwaitingControlRequest.ensures)
