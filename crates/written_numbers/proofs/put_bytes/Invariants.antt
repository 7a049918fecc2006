use lib.ListN.{drop}
use Rattle.numerals.specs.Digits.{bytes_hex}
use Rattle.text.proofs.WroteLaws.{Remaining}
use Rattle.written_numbers.proofs.put_bytes.Given as goal

abbrev pub invariant-loop-byte : goal.invariant-loop-byte
invariant-loop-byte l = Remaining l.initial.text (bytes_hex l.bytes) l.text (bytes_hex (drop l.byte-index l.bytes))
