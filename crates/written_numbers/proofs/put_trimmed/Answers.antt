-- `written_numbers::put_trimmed` meets its contract: the digits behind the leading zeros are the trimmed ones. Assumes nothing.
use native.Mathlib.Omega.{arith}
use lib.ListN.{length-drop}
use Rattle.numerals.proofs.ListLaws.{take_rest}
use Rattle.numerals.proofs.DigitLaws.{AllBelow-drop, length-trimmed}
use Rattle.text.proofs.WroteLaws.{wrote-within}
use Rattle.written_numbers.proofs.put_trimmed.Goals as goal

pub put_digits-requires : goal.put_digits-requires
put_digits-requires c =
    let ds = c.args.digits.now in
    let k = c.leading_zeros-skipped.result in
    rw (take_rest ds k) record { has_room = omega (arith, c.requires.has_room, length-drop k ds); all_below = AllBelow-drop 16 k ds c.requires.all_below }

pub returns : goal.returns
returns c =
    let ds = c.args.digits.now in
    wrote-within (length-trimmed ds) (rw (take_rest ds c.leading_zeros-skipped.result, c.leading_zeros-skipped.ensures.1) at c.put_digits.ensures)
