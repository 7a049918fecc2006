-- The address in the first place of a block, which is its first TRB's where it holds one. Assumes nothing.
use Rattle.std.specs.Prelude.{Option}
use Prim.Native.Nat.{ℕ, zero, suc, ◌<◌}
use mathlib.Core.Bool.{true}
use mathlib.Core.Path.{◌≡◌, refl}
use mathlib.Core.List.{List, [], ◌∷◌}
use native.Mathlib.Omega.{arith}
use lib.ListN.{length, take, get_or}
use Rattle.trb.specs.declared.InTrbProcessingStatus.{InTrbProcessingStatus}
use Rattle.trb.specs.declared.TransferTrb.{TransferTrb}
use Rattle.in_block.specs.Facts.{submission_due}
use Rattle.in_block.specs.declared.InBlock.{InBlock}
use Rattle.capture_calls.specs.Captures.{first_address, in_completion_capture}
use Rattle.captured_calls.specs.declared.Setting.{Setting}
use Rattle.captured_calls.specs.Submitted.{captured_of, pipe_of}
use Rattle.call_captures.specs.CallCaptures.{in_completion_captures}

pub first_address-get_or : (ts : List TransferTrb) (d : TransferTrb) → 0 < length ts → first_address ts ≡ (get_or ts 0 d).addr
first_address-get_or [] d h = absurd (omega (arith, h))
first_address-get_or (t ∷ ts) d h = refl

first_address-take : (n : ℕ) (ts : List TransferTrb) → 0 < n → first_address (take n ts) ≡ first_address ts
first_address-take zero ts h = absurd (omega (arith, h))
first_address-take (suc n) [] h = refl
first_address-take (suc n) (t ∷ ts) h = refl

-- an accepted completion of a block that holds a TRB gives what capture_calls says of the TRBs held
pub in_completion_captures-held : (s : Setting) (b after : InBlock) (r : Option InTrbProcessingStatus) (bytes : List ℕ) → submission_due after.state ≡ true → 0 < b.held
    → in_completion_captures s b after r bytes ≡ in_completion_capture (captured_of s) (pipe_of s b.endpoint_id) b r bytes
in_completion_captures-held s b after r bytes due holds = rw (due, first_address-take b.held b.trbs holds) refl
