-- `in_bytes::normal_length` meets its contract: the length is read where the place has it. Assumes nothing.
use Prim.Native.Nat.{◌+◌, ◌%◌}
use mathlib.Core.Path.{sym, ap, ◌∙◌}
use mathlib.Core.Bool.{Bool, cond}
use Rattle.trb.specs.Limits.{max_transfer_length}
use Rattle.buffers.specs.LittleEndian.{le_field}
use Rattle.in_bytes.proofs.HeldLaws.{length-place}
use Rattle.in_bytes.proofs.normal_length.Goals as goal

pub returns-then-is_normal : goal.returns-then-is_normal
returns-then-is_normal c =
    let l = c.args.place.now in
    c.length_at.ensures ∙ sym (length-place l ∙ ap (λ (x : Bool). cond x (le_field 16 4 l % (max_transfer_length + 1)) 0) (sym c.is_normal.ensures ∙ c.if-is_normal.true))

pub returns-else-is_normal : goal.returns-else-is_normal
returns-else-is_normal c =
    let l = c.args.place.now in
    sym (length-place l ∙ ap (λ (x : Bool). cond x (le_field 16 4 l % (max_transfer_length + 1)) 0) (sym c.is_normal.ensures ∙ c.if-is_normal.false))
