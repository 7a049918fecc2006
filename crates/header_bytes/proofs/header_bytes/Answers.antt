-- `header_bytes::header_bytes` meets its contract: each number's bytes are the definition's. Assumes nothing.
use mathlib.Core.Path.{◌≡◌, ◌∙◌}
use Rattle.buffers.specs.LittleEndian.{le_bytes}
use Rattle.capture_file.proofs.ByteLaws.{le_bytes_2, le_bytes_4, le_bytes_8}
use Rattle.capture_record.specs.Headers.{header_bytes}
use Rattle.header_bytes.proofs.header_bytes.Goals as goal

pub returns : goal.returns
unfolding header_bytes
returns c =
    let h = c.args.header in
    let id : c.copy_from_slice.new.self ≡ le_bytes 8 h.id = c.copy_from_slice.ensures.after ∙ c.to_le_bytes.ensures ∙ le_bytes_8 _ in
    let bus-number : c.copy_from_slice-2.new.self ≡ le_bytes 2 h.bus_number = c.copy_from_slice-2.ensures.after ∙ c.to_le_bytes-2.ensures ∙ le_bytes_2 _ in
    let seconds : c.copy_from_slice-3.new.self ≡ le_bytes 8 h.seconds = c.copy_from_slice-3.ensures.after ∙ c.to_le_bytes-3.ensures ∙ le_bytes_8 _ in
    let microseconds : c.copy_from_slice-4.new.self ≡ le_bytes 4 h.microseconds = c.copy_from_slice-4.ensures.after ∙ c.to_le_bytes-4.ensures ∙ le_bytes_4 _ in
    let status : c.copy_from_slice-5.new.self ≡ le_bytes 4 h.status = c.copy_from_slice-5.ensures.after ∙ c.to_le_bytes-5.ensures ∙ le_bytes_4 _ in
    let length : c.copy_from_slice-6.new.self ≡ le_bytes 4 h.length = c.copy_from_slice-6.ensures.after ∙ c.to_le_bytes-6.ensures ∙ le_bytes_4 _ in
    let delivered : c.copy_from_slice-7.new.self ≡ le_bytes 4 h.delivered = c.copy_from_slice-7.ensures.after ∙ c.to_le_bytes-7.ensures ∙ le_bytes_4 _ in
    let value : c.copy_from_slice-8.new.self ≡ le_bytes 2 h.setup.value = c.copy_from_slice-8.ensures.after ∙ c.to_le_bytes-8.ensures ∙ le_bytes_2 _ in
    let index : c.copy_from_slice-9.new.self ≡ le_bytes 2 h.setup.index = c.copy_from_slice-9.ensures.after ∙ c.to_le_bytes-9.ensures ∙ le_bytes_2 _ in
    let setup-length : c.copy_from_slice-10.new.self ≡ le_bytes 2 h.setup.length = c.copy_from_slice-10.ensures.after ∙ c.to_le_bytes-10.ensures ∙ le_bytes_2 _ in
    rw (setup-length, index, value, delivered, length, status, microseconds, seconds, bus-number, id)
