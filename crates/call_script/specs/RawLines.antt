-- 02, R-6: the lines of the program `raw_trbs`. Assumes nothing.
use Rattle.std.specs.Prelude.{ℕ, Bool, cond, ◌&&◌, List, eqb, Option, Some, None}
use Rattle.raw_trb.specs.Raw.{decode_trb}
use Rattle.script_fields.specs.Fields.{fields_of, field, raw_fields_of}
use Rattle.script_fields.specs.declared.Fields.{Fields}
use Rattle.script_fields.specs.declared.RawFields.{RawFields}
use Rattle.script_trb.specs.Trbs.{trb_of}
use Rattle.trb.specs.declared.TransferTrb.{TransferTrb}
use Rattle.script_trb.specs.declared.TrbFields.{TrbFields}
use Rattle.call_script.specs.declared.RawLine.{RawLine}
use Rattle.call_script.specs.declared.RawLine.TheVariants.{Decode, Encode}

-- a line that is not so is bad
abbrev pub line_if : Bool → Option RawLine → Option RawLine
line_if so l = cond so l None

-- `d RAW`; d is the character 100
unfoldable pub decode_line : RawFields → Option RawLine
decode_line f = line_if (eqb f.before.letter 100 && eqb f.before.count 0) (Some (Decode (decode_trb f.bytes)))

abbrev pub encoded : Option TransferTrb → Option RawLine
encoded (Some t) = Some (Encode t)
encoded None = None

-- a TRB at no address
abbrev pub unplaced : Fields → TrbFields
unplaced f = record { kind = field f 0; addr = 0; flags = field f 1; a = field f 2; b = field f 3 }

-- `e KIND FLAGS A B`; e is the character 101
unfoldable pub encode_line : Fields → Option RawLine
encode_line f = line_if (eqb f.letter 101 && eqb f.count 4) (encoded (trb_of (unplaced f)))

-- numbers go before a raw TRB
abbrev pub raw_line_by : Option Fields → Option RawFields → Option RawLine
raw_line_by (Some f) raw = encode_line f
raw_line_by None (Some f) = decode_line f
raw_line_by None None = None

-- what a line, which comes without its line feed, asks for
unfoldable pub raw_line_of : List ℕ → Option RawLine
raw_line_of l = raw_line_by (fields_of l) (raw_fields_of l)
