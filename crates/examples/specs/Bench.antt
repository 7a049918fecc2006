-- 01, Examples from the bench: those marked †, as one computed test on a list that holds them all; with them those of 02, R-4. Assumes nothing.
use Rattle.std.specs.Prelude.{ℕ, true, false, List, [], ◌∷◌, map, ◌≡◌, refl, drop, None, Ok, Some}
use Rattle.trb.specs.Ids.{ids_in_range}
use Rattle.trb.specs.declared.CompletionCode.{CompletionCode}
use Rattle.trb.specs.declared.CompletionCode.TheVariants as code
use Rattle.trb.specs.declared.ControlRequestProcessingResult.TheVariants.{SuccessfulControlIn, SuccessfulControlOut}
use Rattle.trb.specs.declared.InTrbProcessingStatus.TheVariants as device
use Rattle.trb.specs.declared.TrbProcessingResult.{TrbProcessingResult}
use Rattle.trb.specs.declared.TrbProcessingResult.TheVariants as result
use Rattle.call_log.specs.Logs.{encode_all}
use Rattle.call_log.specs.Records.{guest_write, transfer_event, in_request, control_request}
use Rattle.call_log.specs.declared.Record.{Record}
use Rattle.log_check.specs.WellFormed.{kind_known, well_formed}
use Rattle.numerals.specs.Digits.{digit_char, digits, trimmed, decimal_of, hex_of, byte_hex, bytes_hex}
use Rattle.log_text.specs.Lines.{kind_fields, id_fields, number_fields, fields_of, line_of, lines_in}
use Rattle.log_print.specs.LogText.{printable, log_text}
use Rattle.held.specs.Places.{cleared}
use Rattle.held.specs.Sound.{sound_trb}
use Rattle.walks.specs.All.{all}
use Rattle.walks.specs.Walk.{walk}
use Rattle.td_part.specs.Parts.{put_dma, realize_dma}
use Rattle.in_td.specs.Td.{handle_normal, process_trb}
use Rattle.guest_memory.specs.Regions as regions
use Rattle.guest_memory.specs.Places.{in_region, place_of, range_inside, bytes_at}
use Rattle.in_block.specs.Facts.{sound_block}
use Rattle.in_block.specs.Outcomes.{outcome_of}
use Rattle.trb.specs.Questions.{first_no}
use Rattle.account.specs.Claims.{tdT}
use Rattle.in_endpoint.specs.Completion.{transferred, completion}
use Rattle.in_endpoint.specs.Creation.{creation}
use Rattle.in_endpoint.specs.Submission.{submission}
use Rattle.in_questions.specs.Questions as in_questions
use Rattle.control_block.specs.Facts as control_block
use Rattle.control_chain.specs.Chain.{move_out, realize_data_stage, realize_normal, realize_trb}
use Rattle.control_chain.specs.Dropped.{successes}
use Rattle.control_chain.specs.Endings.{ending_records}
use Rattle.control_endpoint.specs.Completion as completes
use Rattle.control_endpoint.specs.Submission as submits
use Rattle.control_questions.specs.Completion.{completion_questions}
use Rattle.control_questions.specs.Submission.{has_room, reaches, submission_questions}
use Rattle.control_transfer.specs.Data.{in_reach, bytes_of}
use Rattle.control_transfer.specs.Transfers.{transfer_after}
use Rattle.control_transfer.specs.Transfers as transfers
use Rattle.phase_table.specs.Table.{trb_outcome}
use Rattle.examples.specs.Control as on_control_endpoint
use Rattle.examples.specs.Control.{on_control, on_control_for, setup, data_stage, status}
use Rattle.examples.specs.Texts.{line, lines}
use Rattle.examples.specs.In.{Seen, play, on_in, on_strict, normal, event_data, no_op}

-- ---- What is expected: records of endpoint 3, slot 2

wrote : ℕ → ℕ → ℕ → Record
wrote a n start = guest_write a n start (record { 0 = 3 }) (record { 0 = 2 })

event : CompletionCode → ℕ → ℕ → Record
event c a residual = transfer_event a residual c false (record { 0 = 3 }) (record { 0 = 2 })

event_data_of : CompletionCode → ℕ → ℕ → Record
event_data_of c value edtla = transfer_event value edtla c true (record { 0 = 3 }) (record { 0 = 2 })

requested : ℕ → ℕ → Record
requested a n = in_request a n (record { 0 = 3 }) (record { 0 = 2 })

asked : ℕ → (request_type request value index length : ℕ) → Record
asked a request_type request value index length =
    control_request (record { address = a; request_type = request_type; request = request; value = value; index = index; length = length })
    (record { 0 = 3 }) (record { 0 = 2 })

collects : List ℕ → Seen → Seen
collects bytes s = record { records = s.records; answer = s.answer; collected = bytes }

ends : TrbProcessingResult → List Record → Seen
ends r rs = record { records = rs; answer = Ok r; collected = [] }

-- what calls logged and answered, or what the log printer prints
data Shown : Type 0 where
  seen : Seen → Shown
  printed : (text : List ℕ) → Shown

-- the log of a TD's completion: what was logged behind its request
completion_log : Seen → List Record
completion_log s = drop 1 s.records

record Example : Type 0 where
  found : Shown
  expected : Shown

examples : List Example
examples =
    -- T, Success, 600 bytes. The log printer, given this completion's log on standard input, prints exactly this
    record {
      found = printed (log_text (encode_all (completion_log (on_in tdT (Some device.Success) 600))));
      expected = printed
          (lines (
          "1 0 0 3 2 8000 512 0 0000000000000000"
          ∷ "1 0 0 3 2 8200 88 512 0000000000000000"
          ∷ "2 13 0 3 2 1010 424 0 0000000000000000"
          ∷ "2 13 0 3 2 1020 424 0 0000000000000000"
          ∷ []
          ));
    }
    -- its records
    ∷ record {
      found = seen (on_in tdT (Some device.Success) 600);
      expected = seen (ends result.Ok
          (requested 0x1000 1536
          ∷ wrote 0x8000 512 0
          ∷ wrote 0x8200 88 512
          ∷ event code.ShortPacket 0x1010 424
          ∷ event code.ShortPacket 0x1020 424
          ∷ []));
    }
    -- T, Stall, 600: two writes, event at 0x1010, code 6, residual 424; result Stall with 0x1010
    ∷ record {
      found = seen (on_in tdT (Some device.Stall) 600);
      expected = seen (ends (result.StallAt 0x1010 true)
          (requested 0x1000 1536 ∷ wrote 0x8000 512 0 ∷ wrote 0x8200 88 512 ∷ event code.StallError 0x1010 424 ∷ []));
    }
    -- T, Stall, 1,536: three writes, Success at 0x1020, result Ok
    ∷ record {
      found = seen (on_in tdT (Some device.Stall) 1536);
      expected = seen (ends result.Ok
          (requested 0x1000 1536
          ∷ wrote 0x8000 512 0
          ∷ wrote 0x8200 512 512
          ∷ wrote 0x8400 512 1024
          ∷ event code.Success 0x1020 0
          ∷ []));
    }
    -- T, Success, 0: one write of 0; residual 512 at 0x1000 and at 0x1020
    ∷ record {
      found = seen (on_in tdT (Some device.Success) 0);
      expected = seen (ends result.Ok
          (requested 0x1000 1536 ∷ wrote 0x8000 0 0 ∷ event code.ShortPacket 0x1000 512 ∷ event code.ShortPacket 0x1020 512 ∷ []));
    }
    -- unchained NoOp alone with IOC: no request, Success, Ok
    ∷ record { found = seen (on_in (no_op 0x1000 true false ∷ []) None 0); expected = seen (ends result.Ok (event code.Success 0x1000 0 ∷ [])) }
    -- chained Normal 512 without IOC and ISP, then unchained EventData 0xABCD with IOC; Success, 100 bytes
    ∷ record {
      found = seen (on_in (normal 0x1000 0x8000 512 false false true ∷ event_data 0x1010 0xABCD true false ∷ []) (Some device.Success) 100);
      expected = seen (ends result.Ok (requested 0x1000 512 ∷ wrote 0x8000 100 0 ∷ event_data_of code.ShortPacket 0xABCD 100 ∷ []));
    }
    -- 02, R-4: T, Stall, 1,536 in strict mode: code 6 at 0x1020, result Stall with 0x1020
    ∷ record {
      found = seen (on_strict tdT (Some device.Stall) 1536);
      expected = seen (ends (result.StallAt 0x1020 true)
          (requested 0x1000 1536
          ∷ wrote 0x8000 512 0
          ∷ wrote 0x8200 512 512
          ∷ wrote 0x8400 512 1024
          ∷ event code.StallError 0x1020 0
          ∷ []));
    }
    -- T, TransactionError, 600: as ported
    ∷ record {
      found = seen (on_strict tdT (Some device.TransactionError) 600);
      expected = seen (ends (result.TransactionErrorAt 0x1010 true)
          (requested 0x1000 1536 ∷ wrote 0x8000 512 0 ∷ wrote 0x8200 88 512 ∷ event code.UsbTransactionError 0x1010 424 ∷ []));
    }
    -- a stall on a read of 0 bytes, with no flag on: code 6
    ∷ record {
      found = seen (on_strict (normal 0x1000 0x8000 0 false false false ∷ []) (Some device.Stall) 0);
      expected = seen (ends (result.StallAt 0x1000 true) (requested 0x1000 0 ∷ wrote 0x8000 0 0 ∷ event code.StallError 0x1000 0 ∷ []));
    }
    -- Normals of 8 and 0 with IOC, then EventData and NoOp with IOC; Disconnect, 9 bytes: nothing behind the last Normal
    ∷ record {
      found = seen (on_strict
          (normal 0x1000 0x8000 8 false true true ∷ normal 0x1010 0x8008 0 false true true ∷ event_data 0x1020 0xABCD true true ∷ no_op 0x1030 true false ∷ [])
          (Some device.Disconnect) 9);
      expected = seen (ends result.Disconnect
          (requested 0x1000 8 ∷ wrote 0x8000 8 0 ∷ event code.Success 0x1000 0 ∷ wrote 0x8008 0 8 ∷ event code.UsbTransactionError 0x1010 0 ∷ []));
    }
    -- a local completion is Success
    ∷ record { found = seen (on_strict (no_op 0x1000 true false ∷ []) None 0); expected = seen (ends result.Ok (event code.Success 0x1000 0 ∷ [])) }
    -- Setup 80 06, value 0x0100, wLength 64; Data IN 18; Status: request of 18
    ∷ record {
      found = seen (on_control (setup 0x1000 0x80 6 0x0100 0 64 false ∷ data_stage 0x1010 0x8000 18 false true ∷ status 0x1020 false ∷ []) (Some SuccessfulControlIn) 18);
      expected = seen (ends result.Ok (asked 0x1000 0x80 6 0x0100 0 18 ∷ wrote 0x8000 18 0 ∷ []));
    }
    -- Control OUT, immediate, pointer 0x1122334455667788, length 12: collects 88 77 66 55 44 33 22 11; request length 0
    ∷ record {
      found = seen (on_control (setup 0x1000 0 9 1 0 12 false ∷ data_stage 0x1010 0x1122334455667788 12 true false ∷ status 0x1020 true ∷ []) (Some SuccessfulControlOut) 0);
      expected = seen (collects (0x88 ∷ 0x77 ∷ 0x66 ∷ 0x55 ∷ 0x44 ∷ 0x33 ∷ 0x22 ∷ 0x11 ∷ []) (ends result.Ok (asked 0x1000 0 9 1 0 0 ∷ [])));
    }
    -- Setup with IOC, then NoOp: Success for Setup, then code 5
    ∷ record {
      found = seen (on_control (setup 0x1000 0x80 6 0x0100 0 64 true ∷ no_op 0x1010 false false ∷ []) None 0);
      expected = seen (ends result.TrbError (event code.Success 0x1000 0 ∷ event code.TrbError 0x1010 0 ∷ []));
    }
    ∷ []

-- the definitions say of every example what the documents say
bench : map (λ (e : Example). e.found) examples ≡ map (λ (e : Example). e.expected) examples
unfolding examples lines line completion_log log_text printable well_formed kind_known encode_all lines_in line_of fields_of kind_fields id_fields number_fields decimal_of hex_of bytes_hex byte_hex digits trimmed digit_char wrote event event_data_of requested asked collects ends normal event_data no_op setup data_stage status walk cleared all sound_trb place_of in_region regions.share_an_address regions.shares_at regions.holds ids_in_range put_dma realize_dma on_in on_strict play creation submission in_questions.submission_questions outcome_of completion in_questions.completion_questions transferred sound_block range_inside process_trb handle_normal on_control on_control_for on_control_endpoint.play trb_outcome transfer_after control_block.sound_block first_no submission_questions has_room reaches transfers.collects in_reach bytes_at bytes_of submits.submission submits.bytes_collected submits.accepted submits.records_of submits.block_after completion_questions completes.completion completes.accepted completes.block_behind ending_records successes move_out realize_data_stage realize_normal realize_trb
bench = refl
