-- `state_text::put_request` meets its contract: the bytes stand behind the address. Assumes nothing.
use Rattle.text.proofs.WroteLaws.{wrote-append}
use Rattle.state_text.specs.Lines.{request_fields, request_bytes}
use Rattle.state_text.proofs.put_request.Goals as goal

pub returns : goal.returns
unfolding request_fields request_bytes
returns c = wrote-append c.put_hex_behind.ensures (rw c.request_bytes-bytes.ensures at c.put_bytes_behind.ensures)
