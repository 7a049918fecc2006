-- `control_bytes::facts` meets its contract. Assumes nothing.
use Rattle.control_bytes.proofs.FactLaws.{facts-read}
use Rattle.control_bytes.proofs.facts.Goals as goal

pub returns : goal.returns
returns c =
    facts-read c.args.block.now c.transfer-transfer.result c.endpoint_id.result c.slot_id.result c.state.result c.held.result
    c.transfer-transfer.ensures c.endpoint_id.ensures c.slot_id.ensures c.state.ensures c.held.ensures.0
