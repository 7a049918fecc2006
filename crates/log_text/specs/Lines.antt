-- 01, Examples from the bench: a record's line. Assumes nothing.
use Rattle.std.specs.Prelude.{ℕ, zero, suc, List, [], ◌∷◌, ◌++◌, take, drop}
use Rattle.trb.specs.Limits.{record_length}
use Rattle.call_log.specs.declared.Record.{Record}
use Rattle.call_log.specs.Records.{decode}
use Rattle.numerals.specs.Digits.{decimal_of, hex_of, bytes_hex}

abbrev pub space : ℕ
space = 32

abbrev pub line_feed : ℕ
line_feed = 10

-- a field with a space behind it
abbrev pub field : List ℕ → List ℕ
field vs = vs ++ (space ∷ [])

-- 01, Examples: kind, code, flag
unfoldable pub kind_fields : Record → List ℕ
kind_fields r = field (decimal_of r.kind) ++ field (decimal_of r.code) ++ field (decimal_of r.flag)

-- 01, Examples: endpoint, slot
unfoldable pub id_fields : Record → List ℕ
id_fields r = field (decimal_of r.endpoint_id.0) ++ field (decimal_of r.slot_id.0)

-- 01, Examples: address (hex, no leading zeros, zero as 0), length, start
unfoldable pub number_fields : Record → List ℕ
number_fields r = field (hex_of r.address) ++ field (decimal_of r.length) ++ field (decimal_of r.start)

unfoldable pub fields_of : Record → List ℕ
fields_of r = kind_fields r ++ id_fields r ++ number_fields r

-- the line of the record in the first 32 bytes of l: its fields, bytes 24 to 31 in hex, and a line feed
unfoldable pub line_of : List ℕ → List ℕ
line_of l = fields_of (decode l) ++ bytes_hex (take 8 (drop 24 l)) ++ (line_feed ∷ [])

-- the lines of the first n records of the log l
unfoldable pub lines_in : ℕ → List ℕ → List ℕ
lines_in zero l = []
lines_in (suc n) l = line_of l ++ lines_in n (drop record_length l)
