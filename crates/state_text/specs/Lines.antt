-- The line of an endpoint's state. Assumes nothing.
use Rattle.std.specs.Prelude.{ℕ, ◌/◌, ◌%◌, cond, List, [], ◌∷◌, ◌++◌}
use Rattle.trb.specs.declared.TdBasedNormalSubmissionState.{TdBasedNormalSubmissionState}
use Rattle.trb.specs.declared.TdBasedNormalSubmissionState.TheVariants.{SubmissionDue, CollectingTd as CollectingInTd, AwaitingRealTransfer, AwaitingLocalCompletion, UnsupportedTrb}
use Rattle.trb.specs.declared.ControlTransferState.{ControlTransferState}
use Rattle.trb.specs.declared.ControlTransferState.TheVariants.{ExpectSetupStageTrb, MaybeDataStageTrb, MoreData, ExpectStatusStageTrb, ExpectFinalEventDataTrb}
use Rattle.trb.specs.declared.ControlSubmissionState.{ControlSubmissionState}
use Rattle.trb.specs.declared.ControlSubmissionState.TheVariants.{NoTrbSubmitted, CollectingTd, ParserError, UnexpectedTrb, AwaitingControlRequest}
use Rattle.trb.specs.declared.UsbRequest.{UsbRequest}
use Rattle.numerals.specs.Digits.{decimal_of, hex_of, bytes_hex}
use Rattle.log_text.specs.Lines.{line_feed}
use Rattle.call_text.specs.Lines.{behind, count_of}
use Rattle.state_text.specs.declared.ControlStanding.{ControlStanding}
use Rattle.state_text.specs.Words.{in_word, control_word, submit_word, collecting_word, real_word, local_word, unsupported_word, setup_word, maybe_word, more_word, status_word, final_word, parser_word, unexpected_word, request_word, direction_in, direction_out}

-- STATE of an IN endpoint
unfoldable pub in_state : TdBasedNormalSubmissionState → List ℕ
in_state SubmissionDue = submit_word
in_state CollectingInTd = collecting_word
in_state AwaitingRealTransfer = real_word
in_state AwaitingLocalCompletion = local_word
in_state (UnsupportedTrb a) = unsupported_word ++ hex_of a

-- `st in STATE HELD`
unfoldable pub in_line : TdBasedNormalSubmissionState → ℕ → List ℕ
in_line s held = in_word ++ in_state s ++ behind (decimal_of held) ++ (line_feed ∷ [])

-- PHASE
unfoldable pub phase_word : ControlTransferState → List ℕ
phase_word ExpectSetupStageTrb = setup_word
phase_word MaybeDataStageTrb = maybe_word
phase_word MoreData = more_word
phase_word ExpectStatusStageTrb = status_word
phase_word ExpectFinalEventDataTrb = final_word

-- STATE of a control endpoint
unfoldable pub control_state : ControlSubmissionState → List ℕ
control_state NoTrbSubmitted = submit_word
control_state CollectingTd = collecting_word
control_state (ParserError a) = parser_word ++ hex_of a
control_state (UnexpectedTrb a) = unexpected_word ++ hex_of a
control_state AwaitingControlRequest = request_word

-- request type, request, value and index, as the six bytes at offset 24 of a request record
unfoldable pub request_bytes : UsbRequest → List ℕ
request_bytes r =
    r.request_type ∷ r.request ∷ r.value % 256 ∷ r.value / 256 ∷ r.index % 256 ∷ r.index / 256 ∷ []

-- ADDRESS and REQUEST
unfoldable pub request_fields : UsbRequest → List ℕ
request_fields r = behind (hex_of r.address) ++ behind (bytes_hex (request_bytes r))

-- `st control PHASE STATE HELD DIRECTION`
unfoldable pub standing_fields : ControlStanding → List ℕ
standing_fields s =
    control_word ++ phase_word s.transfer.phase ++ control_state s.state ++ behind (decimal_of s.held) ++ cond s.transfer.direction direction_in direction_out

-- `st control PHASE STATE HELD DIRECTION LENGTH COLLECTED SUM ADDRESS REQUEST`
unfoldable pub control_line : ControlStanding → List ℕ
control_line s =
    standing_fields s ++ behind (decimal_of s.transfer.request.length) ++ behind (decimal_of (count_of s.transfer.collected)) ++ behind (hex_of s.sum)
    ++ request_fields s.transfer.request ++ (line_feed ∷ [])
