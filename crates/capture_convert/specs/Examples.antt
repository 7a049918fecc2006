-- Converting computed on files given byte by byte: both ways, and each refusal at its boundaries. Assumes nothing.
use Rattle.std.specs.Prelude.{ℕ, zero, suc, ◌≡◌, refl, List, [], ◌∷◌, ◌++◌, map, take, set, replicate}
use Rattle.trb.specs.Questions.{first_no}
use Rattle.buffers.specs.Patch.{patch}
use Rattle.capture_file.specs.Records.{head, layout, layout_all}
use Rattle.capture_file.specs.Reading.{captured_at, original_at, delivered_at, from_each, record_at, records_in, whole_record, whole_records}
use Rattle.capture_file.specs.Files.{known_link, extra_of, most_of, file_head, layout_file, file_in, whole_head, whole_file}
use Rattle.capture_file.specs.Survey.{convertible}
use Rattle.capture_convert.specs.Converting.{other_link, converted, converted_bytes, convert_questions, output_after}

-- magic, version 2.4, zone 7, accuracy 0, snap length 134,217,728, link type
abbrev header : ℕ → List ℕ
header link = 0xD4 ∷ 0xC3 ∷ 0xB2 ∷ 0xA1 ∷ 2 ∷ 0 ∷ 4 ∷ 0 ∷ 7 ∷ 0 ∷ 0 ∷ 0 ∷ 0 ∷ 0 ∷ 0 ∷ 0 ∷ 0 ∷ 0 ∷ 0 ∷ 8 ∷ link ∷ 0 ∷ 0 ∷ 0 ∷ []

-- seconds, microseconds, captured length, and the original length's four bytes
abbrev times : ℕ → ℕ → List ℕ → List ℕ
times s captured original = s ∷ 0xF1 ∷ 0x53 ∷ 0x65 ∷ 0x3F ∷ 0x42 ∷ 0x0F ∷ 0 ∷ captured ∷ 0 ∷ 0 ∷ 0 ∷ original

abbrev small : ℕ → List ℕ
small n = n ∷ 0 ∷ 0 ∷ 0 ∷ []

-- 48 bytes: transfer type at 9, the number of bytes delivered at 36
abbrev usbmon : ℕ → ℕ → List ℕ
usbmon kind n = 0 ∷ 16 ∷ replicate 6 0 ++ (67 ∷ kind ∷ 129 ∷ 5 ∷ 1 ∷ 0 ∷ 45 ∷ 0 ∷ replicate 20 9) ++ (n ∷ 0 ∷ 0 ∷ 0 ∷ replicate 8 4)

-- a bulk record of two bytes, and one of none whose original length is greater
abbrev short : List ℕ
short = header 189 ++ times 1 50 (small 50) ++ usbmon 3 2 ++ (0x55 ∷ 0x53 ∷ times 1 48 (small 55)) ++ usbmon 3 0

abbrev long : List ℕ
long = header 220 ++ times 1 66 (small 66) ++ usbmon 3 2 ++ replicate 16 0 ++ (0x55 ∷ 0x53 ∷ times 1 64 (small 71)) ++ usbmon 3 0 ++ replicate 16 0

-- one record of no bytes, of a link type, transfer type, original length and added bytes
abbrev one : ℕ → ℕ → ℕ → List ℕ → List ℕ → List ℕ
one link kind captured original added = header link ++ times 1 captured original ++ usbmon kind 0 ++ added

-- a call with a file and an output buffer of sevens: its number, and what it left
pub record Example : Type 0 where
  pub file : List ℕ
  pub room : ℕ
  pub number : ℕ
  pub made : List ℕ

-- converted with two bytes to spare
abbrev done : List ℕ → ℕ → List ℕ → Example
done file room made = record { file = file; room = room; number = 0; made = made ++ (7 ∷ 7 ∷ []) }

abbrev refused : ℕ → List ℕ → ℕ → Example
refused n file room = record { file = file; room = room; number = n; made = replicate room 7 }

abbrev pub examples : List Example
examples =
    done short 188 long
    ∷ done long 156 short
    -- a header alone
    ∷ done (header 189) 26 (header 220)
    ∷ done (header 220) 26 (header 189)
    -- one byte too few
    ∷ refused 14 short 185
    ∷ refused 14 long 153
    ∷ refused 14 (header 189) 23
    -- magic, of nanoseconds, of the other byte order; version; link type, a number of 32 bits
    ∷ refused 17 (set short 0 0x4D) 188
    ∷ refused 17 (set (set (set (set short 0 0xA1) 1 0xB2) 2 0xC3) 3 0xD4) 188
    ∷ refused 17 (set short 4 1) 188
    ∷ refused 17 (set short 6 5) 188
    ∷ refused 17 (set short 20 190) 188
    ∷ refused 17 (set short 22 1) 188
    -- a captured length that is not header plus delivered data, either way; the delivered data itself
    ∷ refused 17 (set short 32 51) 188
    ∷ refused 17 (set short 32 49) 188
    ∷ refused 17 (set short 76 3) 188
    ∷ refused 17 (set long 32 50) 188
    -- an original length below the captured one, and equal
    ∷ refused 17 (one 189 3 48 (small 47) []) 104
    ∷ done (one 189 3 48 (small 48) []) 106 (one 220 3 64 (small 64) (replicate 16 0))
    -- one that would pass 32 bits, and the greatest that does not; from 220 no length grows
    ∷ refused 17 (one 189 3 48 (0xF0 ∷ 0xFF ∷ 0xFF ∷ 0xFF ∷ []) []) 104
    ∷ done (one 189 3 48 (0xEF ∷ 0xFF ∷ 0xFF ∷ 0xFF ∷ []) []) 106 (one 220 3 64 (0xFF ∷ 0xFF ∷ 0xFF ∷ 0xFF ∷ []) (replicate 16 0))
    ∷ done (one 220 3 64 (0xFF ∷ 0xFF ∷ 0xFF ∷ 0xFF ∷ []) (replicate 16 0)) 90 (one 189 3 48 (0xEF ∷ 0xFF ∷ 0xFF ∷ 0xFF ∷ []) [])
    -- isochronous, either way; interrupt and control are not
    ∷ refused 18 (one 189 0 48 (small 48) []) 104
    ∷ refused 18 (one 220 0 64 (small 64) (replicate 16 0)) 104
    ∷ done (one 189 1 48 (small 48) []) 106 (one 220 1 64 (small 64) (replicate 16 0))
    ∷ done (one 189 2 48 (small 48) []) 106 (one 220 2 64 (small 64) (replicate 16 0))
    -- an added field: interval, start frame, transfer flags, descriptor count, at their first and last bytes
    ∷ refused 18 (set long 88 1) 188
    ∷ refused 18 (set long 91 1) 188
    ∷ refused 18 (set long 92 1) 188
    ∷ refused 18 (set long 99 128) 188
    ∷ refused 18 (set long 100 1) 188
    ∷ refused 18 (set long 103 1) 188
    -- 17 of the whole file before 18 of any record, and 18 before 14
    ∷ refused 17 (one 189 0 48 (small 48) (1 ∷ [])) 188
    ∷ refused 18 (one 189 0 48 (small 48) []) 0
    ∷ []

pub record Result : Type 0 where
  pub number : ℕ
  pub output : List ℕ

abbrev found : Example → Result
found e = record {
  number = first_no (convert_questions e.file e.room);
  output = output_after e.file (replicate e.room 7);
}

abbrev expected : Example → Result
expected e = record { number = e.number; output = e.made }

pub found-expected : map found examples ≡ map expected examples
unfolding first_no patch head layout layout_all captured_at original_at delivered_at from_each record_at records_in whole_record whole_records known_link extra_of most_of file_head layout_file file_in whole_head whole_file convertible other_link converted converted_bytes
found-expected = refl

-- every cut of a file: 17 but where a record ends
abbrev up_to : ℕ → List ℕ
up_to zero = []
up_to (suc n) = up_to n ++ n ∷ []

pub cuts : map (λ k. first_no (convert_questions (take k short) 186)) (up_to 155)
    ≡ replicate 24 17 ++ (0 ∷ replicate 65 17) ++ (0 ∷ replicate 63 17) ++ (0 ∷ [])
unfolding first_no head layout layout_all captured_at original_at delivered_at from_each record_at records_in whole_record whole_records known_link extra_of most_of file_head layout_file file_in whole_head whole_file convertible other_link converted converted_bytes
cuts = refl
