-- `capture_file::file_head` meets its contract: each number's bytes are the definition's. Assumes nothing.
use Rattle.std.proofs.Common.{◌∙◌, refl}
use Rattle.capture_file.specs.Files.{file_head}
use Rattle.capture_file.proofs.ByteLaws.{le_bytes_4}
use Rattle.capture_file.proofs.file_head.Goals as goal

pub returns : goal.returns
unfolding file_head
returns c =
    rw (
      c.copy_from_slice.ensures.after,
      c.copy_from_slice-2.ensures.after,
      c.copy_from_slice-3.ensures.after,
      c.copy_from_slice-4.ensures.after,
      c.copy_from_slice-5.ensures.after,
      c.copy_from_slice-6.ensures.after,
      c.copy_from_slice-7.ensures.after,
      c.to_le_bytes.ensures,
      c.to_le_bytes-2.ensures,
      c.to_le_bytes-3.ensures,
      c.to_le_bytes-4.ensures ∙ le_bytes_4 _,
      c.to_le_bytes-5.ensures ∙ le_bytes_4 _,
      c.to_le_bytes-6.ensures ∙ le_bytes_4 _,
      c.to_le_bytes-7.ensures ∙ le_bytes_4 _,
    ) refl
