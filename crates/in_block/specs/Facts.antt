-- 01, Submission: is the block sound? Whose turn is it? Both over facts: the block's own values, and what was found of the TRBs held.
-- Assumes nothing.
use Rattle.std.specs.Prelude.{◌+◌, min, Bool, true, false, not, ◌&&◌, ◌||◌, List, eqb, leb}
use Rattle.trb.specs.Ids.{ids_in_range}
use Rattle.trb.specs.Limits.{max_held, max_transfer_length}
use Rattle.trb.specs.Trbs.{transfer_length}
use Rattle.trb.specs.declared.TdBasedNormalSubmissionState.{TdBasedNormalSubmissionState}
use Rattle.trb.specs.declared.TdBasedNormalSubmissionState.TheVariants.{SubmissionDue, CollectingTd, AwaitingRealTransfer, AwaitingLocalCompletion, UnsupportedTrb}
use Rattle.trb.specs.declared.TransferTrb.{TransferTrb}
use Rattle.trb.specs.declared.TransferTrbVariant.{TransferTrbVariant}
use Rattle.held.specs.Sound.{supported, held_sound}
use Rattle.held.specs.declared.EndpointKind.TheVariants.{In}
use Rattle.in_td.specs.Td.{normal_count, normals}
use Rattle.in_block.specs.declared.BlockFacts.{BlockFacts}
use Rattle.in_block.specs.declared.HeldTest.{HeldTest}
use Rattle.in_block.specs.declared.InBlock.{InBlock}
use Rattle.in_block.specs.Blocks.{held_of}

-- submission and completion alternate, submission first
abbrev pub submission_due : TdBasedNormalSubmissionState → Bool
submission_due SubmissionDue = true
submission_due CollectingTd = false
submission_due AwaitingRealTransfer = false
submission_due AwaitingLocalCompletion = false
submission_due (UnsupportedTrb a) = false

-- 01, IN endpoint: an IN block awaits the device from a logged request to accepted completion or cancel
abbrev pub awaits_device : TdBasedNormalSubmissionState → Bool
awaits_device SubmissionDue = false
awaits_device CollectingTd = false
awaits_device AwaitingRealTransfer = true
awaits_device AwaitingLocalCompletion = false
awaits_device (UnsupportedTrb a) = false

-- ---- What is found of the TRBs held

-- of a kind that an IN endpoint supports, its length at most 131,071
abbrev pub in_sound : TransferTrbVariant → Bool
in_sound v = supported In v && leb (transfer_length v) max_transfer_length

-- with one TRB more
abbrev pub trb_test : HeldTest → TransferTrb → HeldTest
trb_test r t = record { sound = r.sound && in_sound t.variant; normals = min (r.normals + normal_count t.variant) max_held }

-- no more Normals are counted than a block has places
abbrev pub held_test : List TransferTrb → HeldTest
held_test ts = record { sound = held_sound In ts; normals = min (normals ts) max_held }

abbrev pub facts_of : InBlock → BlockFacts
facts_of b = record { endpoint_id = b.endpoint_id; slot_id = b.slot_id; state = b.state; held = b.held; found = held_test (held_of b) }

-- ---- Question 2

-- ids in range; at most 512 TRBs held, all of kinds this endpoint supports, each length at most 131,071; a block awaiting the
-- device holds a Normal
unfoldable pub sound_block : BlockFacts → Bool
sound_block f =
    ids_in_range f.endpoint_id f.slot_id
    && (leb f.held max_held && (f.found.sound && (not (awaits_device f.state) || not (eqb f.found.normals 0))))
