-- Worked bytes, computed by the definitions: decoded TRBs, reserved bits, unknown types. Assumes nothing.
use mathlib.Core.Bool.{true, false}
use mathlib.Core.List.{[], ◌∷◌}
use mathlib.Core.Path.{◌≡◌, refl}
use Rattle.trb.specs.declared.TransferTrbVariant.TheVariants.{SetupStage, Normal, Isoch, Unrecognized}
use Rattle.raw_trb.specs.Raw.{of_type, decode_trb}

-- Normal: 512 bytes at 0x1000, interrupt on completion, cycle bit on, interrupter target 1
normal-decoded : decode_trb (0 ∷ 16 ∷ 0 ∷ 0 ∷ 0 ∷ 0 ∷ 0 ∷ 0 ∷ 0 ∷ 2 ∷ 64 ∷ 0 ∷ 33 ∷ 4 ∷ 0 ∷ 0 ∷ [])
    ≡ record {
      variant = Normal (record {
        data_pointer = 4096;
        transfer_length = 512;
        interrupt_on_short = false;
        chain = false;
        interrupt_on_completion = true;
        immediate_data = false;
      });
      cycle_bit = true;
    }
unfolding of_type
normal-decoded = refl

-- Setup Stage: GET_DESCRIPTOR of 18 bytes, transfer length 8, immediate data, TRT 3
setup-decoded : decode_trb (128 ∷ 6 ∷ 0 ∷ 1 ∷ 0 ∷ 0 ∷ 18 ∷ 0 ∷ 8 ∷ 0 ∷ 0 ∷ 0 ∷ 65 ∷ 8 ∷ 3 ∷ 0 ∷ [])
    ≡ record {
      variant = SetupStage (record { request_type = 128; request = 6; value = 256; index = 0; length = 18; interrupt_on_completion = false });
      cycle_bit = true;
    }
unfolding of_type
setup-decoded = refl

-- bit 9 of a Status Stage is reserved; of a Normal it is BEI, but bit 8 is reserved
status-reserved : decode_trb (0 ∷ 0 ∷ 0 ∷ 0 ∷ 0 ∷ 0 ∷ 0 ∷ 0 ∷ 0 ∷ 0 ∷ 0 ∷ 0 ∷ 1 ∷ 18 ∷ 0 ∷ 0 ∷ []) ≡ record { variant = Unrecognized; cycle_bit = true }
unfolding of_type
status-reserved = refl

normal-reserved : decode_trb (0 ∷ 0 ∷ 0 ∷ 0 ∷ 0 ∷ 0 ∷ 0 ∷ 0 ∷ 0 ∷ 0 ∷ 0 ∷ 0 ∷ 0 ∷ 5 ∷ 0 ∷ 0 ∷ []) ≡ record { variant = Unrecognized; cycle_bit = false }
unfolding of_type
normal-reserved = refl

-- type 5 is Isoch whatever its other bits; type 6, Link, is unknown
isoch-decoded : decode_trb (255 ∷ 255 ∷ 255 ∷ 255 ∷ 255 ∷ 255 ∷ 255 ∷ 255 ∷ 255 ∷ 255 ∷ 255 ∷ 255 ∷ 255 ∷ 23 ∷ 255 ∷ 255 ∷ []) ≡ record { variant = Isoch; cycle_bit = true }
unfolding of_type
isoch-decoded = refl

link-unknown : decode_trb (0 ∷ 0 ∷ 0 ∷ 0 ∷ 0 ∷ 0 ∷ 0 ∷ 0 ∷ 0 ∷ 0 ∷ 0 ∷ 0 ∷ 0 ∷ 24 ∷ 0 ∷ 0 ∷ []) ≡ record { variant = Unrecognized; cycle_bit = false }
unfolding of_type
link-unknown = refl
