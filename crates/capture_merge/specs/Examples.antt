-- Merging computed on files given byte by byte: orders, equal times, and each refusal at its boundaries. Assumes nothing.
use Rattle.std.specs.Prelude.{ℕ, ◌≡◌, refl, List, [], ◌∷◌, ◌++◌, map, take, set, replicate}
use Rattle.trb.specs.Questions.{first_no}
use Rattle.buffers.specs.Patch.{patch}
use Rattle.capture_file.specs.Records.{head, layout, layout_all}
use Rattle.capture_file.specs.Reading.{captured_at, original_at, delivered_at, from_each, record_at, records_in, whole_record, whole_records}
use Rattle.capture_file.specs.Files.{known_link, extra_of, most_of, file_head, layout_file, file_in, whole_head, whole_file}
use Rattle.capture_file.specs.Times.{before, earlier}
use Rattle.capture_merge.specs.Merging.{larger, merged_file, merged_file_bytes, merge_questions, output_after}

-- magic, version 2.4, zone, accuracy 0, snap length, link type
abbrev header : ℕ → ℕ → ℕ → List ℕ
header zone snap link = 0xD4 ∷ 0xC3 ∷ 0xB2 ∷ 0xA1 ∷ 2 ∷ 0 ∷ 4 ∷ 0 ∷ zone ∷ 0 ∷ 0 ∷ 0 ∷ 0 ∷ 0 ∷ 0 ∷ 0 ∷ 0 ∷ 0 ∷ 0 ∷ snap ∷ link ∷ 0 ∷ 0 ∷ 0 ∷ []

-- a record of link type 189 at a time, with its one byte of data
abbrev at : ℕ → ℕ → ℕ → List ℕ
at seconds microseconds byte =
    seconds ∷ 0 ∷ 0 ∷ 0 ∷ microseconds ∷ 0 ∷ 0 ∷ 0 ∷ 49 ∷ 0 ∷ 0 ∷ 0 ∷ 49 ∷ 0 ∷ 0 ∷ 0 ∷ replicate 9 5 ++ (0 ∷ replicate 26 6) ++ (1 ∷ 0 ∷ 0 ∷ 0 ∷ replicate 8 7)
    ++ (byte ∷ [])

-- a call with two files and an output buffer of sevens: its number, and what it left
pub record Example : Type 0 where
  pub first : List ℕ
  pub second : List ℕ
  pub room : ℕ
  pub number : ℕ
  pub made : List ℕ

-- merged with two bytes to spare
abbrev done : List ℕ → List ℕ → ℕ → List ℕ → Example
done first second room made = record { first = first; second = second; room = room; number = 0; made = made ++ (7 ∷ 7 ∷ []) }

abbrev refused : ℕ → List ℕ → List ℕ → ℕ → Example
refused n first second room = record { first = first; second = second; room = room; number = n; made = replicate room 7 }

abbrev pub examples : List Example
examples =
    -- the first file's header with the larger snap length; at equal times the first file's records first, each file's own order kept
    done (header 1 8 189 ++ at 2 5 11 ++ at 2 5 12) (header 9 3 189 ++ at 2 5 21 ++ at 2 5 22) 286
    (header 1 8 189 ++ at 2 5 11 ++ at 2 5 12 ++ at 2 5 21 ++ at 2 5 22)
    ∷ done (header 1 3 189 ++ at 2 5 11) (header 9 8 189 ++ at 2 4 21 ++ at 2 5 22 ++ at 3 0 23) 286
    (header 1 8 189 ++ at 2 4 21 ++ at 2 5 11 ++ at 2 5 22 ++ at 3 0 23)
    -- seconds before microseconds
    ∷ done (header 1 8 189 ++ at 3 1 11) (header 1 8 189 ++ at 2 9 21) 156 (header 1 8 189 ++ at 2 9 21 ++ at 3 1 11)
    -- nothing in one of them, or in both
    ∷ done (header 1 8 189) (header 1 8 189 ++ at 2 5 21) 91 (header 1 8 189 ++ at 2 5 21)
    ∷ done (header 1 8 189 ++ at 2 5 11) (header 1 8 189) 91 (header 1 8 189 ++ at 2 5 11)
    ∷ done (header 1 8 220) (header 1 9 220) 26 (header 1 9 220)
    -- one byte too few
    ∷ refused 14 (header 1 8 189 ++ at 2 5 11) (header 1 8 189 ++ at 2 5 21) 153
    -- isochronous records, which these are, and a length that would pass 32 bits by 16 are not asked
    ∷ done (header 1 8 189 ++ set (set (set (set (at 2 5 11) 12 255) 13 255) 14 255) 15 255) (header 1 8 189) 91
    (header 1 8 189 ++ set (set (set (set (at 2 5 11) 12 255) 13 255) 14 255) 15 255)
    -- the first file, and the second, cut by one byte
    ∷ refused 17 (take 88 (header 1 8 189 ++ at 2 5 11)) (header 1 8 189) 91
    ∷ refused 17 (header 1 8 189) (take 88 (header 1 8 189 ++ at 2 5 11)) 91
    -- the link types
    ∷ refused 19 (header 1 8 189) (header 1 8 220) 26
    -- times that go backwards by a microsecond, by a second, in the first file, in the second
    ∷ refused 20 (header 1 8 189 ++ at 2 5 11 ++ at 2 4 12) (header 1 8 189) 156
    ∷ refused 20 (header 1 8 189 ++ at 2 5 11 ++ at 1 6 12) (header 1 8 189) 156
    ∷ refused 20 (header 1 8 189) (header 1 8 189 ++ at 2 5 11 ++ at 2 4 12) 156
    -- 17 before 19, of the second file too; 19 before 20; 20 before 14
    ∷ refused 17 (header 1 8 189) (take 23 (header 1 8 220)) 91
    ∷ refused 19 (header 1 8 189 ++ at 2 5 11 ++ at 2 4 12) (header 1 8 220) 156
    ∷ refused 20 (header 1 8 189 ++ at 2 5 11 ++ at 2 4 12) (header 1 8 189) 0
    ∷ []

pub record Result : Type 0 where
  pub number : ℕ
  pub output : List ℕ

abbrev found : Example → Result
found e = record {
  number = first_no (merge_questions e.first e.second e.room);
  output = output_after e.first e.second (replicate e.room 7);
}

abbrev expected : Example → Result
expected e = record { number = e.number; output = e.made }

pub found-expected : map found examples ≡ map expected examples
unfolding first_no patch head layout layout_all captured_at original_at delivered_at from_each record_at records_in whole_record whole_records known_link extra_of most_of file_head layout_file file_in whole_head whole_file before earlier larger merged_file merged_file_bytes
found-expected = refl
