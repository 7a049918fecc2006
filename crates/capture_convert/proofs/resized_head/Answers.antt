-- `capture_convert::resized_head` meets its contract: a whole record has these fields, and the resized lengths fit 32 bits. Assumes nothing.
use Prim.Native.Nat.{◌+◌, ◌-◌}
use mathlib.Core.Path.{◌∙◌}
use native.Mathlib.Omega.{arith}
use Rattle.capture_file.specs.Records.{head}
use Rattle.capture_convert.proofs.ConvertingLaws.{sized}
use Rattle.capture_convert.proofs.resized_head.Goals as goal

pub time_at-requires : goal.time_at-requires
time_at-requires c = omega (arith, (sized c.requires).long)

pub original_at-original-requires : goal.original_at-original-requires
original_at-original-requires c = omega (arith, (sized c.requires).long)

pub delivered_at-delivered-requires : goal.delivered_at-delivered-requires
delivered_at-delivered-requires c = omega (arith, (sized c.requires).long)

pub overflow_cast-added : goal.overflow_cast-added
overflow_cast-added c =
    let z = sized c.requires in
    omega (arith, z.original, z.limit, c.delivered_at-delivered.ensures, c.original_at-original.ensures)

pub overflow_sub-original : goal.overflow_sub-original
overflow_sub-original c =
    let z = sized c.requires in
    omega (arith, z.original, z.limit, c.delivered_at-delivered.ensures, c.original_at-original.ensures)

pub overflow_cast-original-2 : goal.overflow_cast-original-2
overflow_cast-original-2 c =
    let z = sized c.requires in
    omega (arith, z.original, z.limit, c.delivered_at-delivered.ensures, c.original_at-original.ensures)

pub returns : goal.returns
returns c =
    c.record_head.ensures
    ∙ (λ i. head (c.time_at.ensures i).seconds (c.time_at.ensures i).microseconds (48 + c.args.added.to + c.delivered_at-delivered.ensures i) (c.original_at-original.ensures i + c.args.added.to - c.args.added.from))
