-- `call_text::put_result` meets its contract: each arm writes its word. Assumes nothing.
use lib.Dec.{lit≤}
use Rattle.text.proofs.WroteLaws.{wrote-append, wrote-within}
use Rattle.call_text.specs.Lines.{result_fields}
use Rattle.call_text.proofs.put_result.Goals as goal

pub returns-in-Ok : goal.returns-in-Ok
unfolding result_fields
returns-in-Ok c = rw c.in-Ok.is (wrote-within (lit≤ tt) c.put_word.ensures)

pub returns-in-Stall : goal.returns-in-Stall
unfolding result_fields
returns-in-Stall c = rw c.in-Stall.is (wrote-within (lit≤ tt) c.put_word-in-Stall.ensures)

pub returns-in-StallAt : goal.returns-in-StallAt
unfolding result_fields
returns-in-StallAt c =
    rw c.in-StallAt.is
    (wrote-within (lit≤ tt) (wrote-append c.put_word-in-StallAt.ensures c.put_address.ensures))

pub returns-in-TrbError : goal.returns-in-TrbError
unfolding result_fields
returns-in-TrbError c = rw c.in-TrbError.is (wrote-within (lit≤ tt) c.put_word-in-TrbError.ensures)

pub returns-in-TransactionError : goal.returns-in-TransactionError
unfolding result_fields
returns-in-TransactionError c = rw c.in-TransactionError.is (wrote-within (lit≤ tt) c.put_word-in-TransactionError.ensures)

pub returns-in-TransactionErrorAt : goal.returns-in-TransactionErrorAt
unfolding result_fields
returns-in-TransactionErrorAt c =
    rw c.in-TransactionErrorAt.is
    (wrote-within (lit≤ tt) (wrote-append c.put_word-in-TransactionErrorAt.ensures c.put_address-in-TransactionErrorAt.ensures))

pub returns-in-Disconnect : goal.returns-in-Disconnect
unfolding result_fields
returns-in-Disconnect c = rw c.in-Disconnect.is (wrote-within (lit≤ tt) c.put_word-in-Disconnect.ensures)
