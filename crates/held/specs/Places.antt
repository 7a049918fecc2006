-- The places of a block. Assumes nothing.
use Rattle.std.specs.Prelude.{ℕ, min, false, List, ◌++◌, length, replicate, drop}
use Rattle.trb.specs.declared.TransferTrb.{TransferTrb}
use Rattle.trb.specs.declared.TransferTrbVariant.TheVariants.{NoOp, SetupStage}

-- 01, Questions asked: a TRB place freed by any call becomes blank: NoOp, address 0, all bits off
abbrev pub blank_trb : TransferTrb
blank_trb = record { variant = NoOp (record { chain = false; interrupt_on_completion = false }); addr = 0; cycle_bit = false }

-- the places xs, of which the first n were held, with those freed
unfoldable pub cleared : ℕ → List TransferTrb → List TransferTrb
cleared n xs = replicate (min n (length xs)) blank_trb ++ drop n xs

-- what a read past the end of the places would give: the first kind, with zeros
abbrev pub past_end : TransferTrb
past_end = record {
  variant = SetupStage (record { request_type = 0; request = 0; value = 0; index = 0; length = 0; interrupt_on_completion = false });
  addr = 0;
  cycle_bit = false;
}
