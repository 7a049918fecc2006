-- 02, R-12: converting between link types 189 and 220. Assumes nothing.
use Rattle.std.specs.Prelude.{ℕ, ◌+◌, ◌-◌, ◌≤◌, Bool, true, cond, ◌≡◌, List, [], ◌∷◌, ◌++◌, map, leb, eqb, length, take, drop, replicate, Result, Ok, Err}
use Rattle.trb.specs.Answers.{number_of, refusal_of}
use Rattle.trb.specs.Questions.{first_no, after_questions}
use Rattle.buffers.specs.LittleEndian.{le_field}
use Rattle.buffers.specs.Patch.{patch}
use Rattle.trb.specs.declared.Refusal.{Refusal}
use Rattle.capture_file.specs.Records.{CaptureRecord, head, layout_all}
use Rattle.capture_file.specs.Reading.{original_at, delivered_at, records_in, whole_record, every, Records}
use Rattle.capture_file.specs.Files.{CaptureFile, link_short, link_long, extra_of, layout_file, file_in, whole_file}
use Rattle.capture_file.specs.Survey.{convertible}

-- the record with so many added bytes, all zero, in place of those that it has; its original length changes by as much, and so does the captured one,
-- which is a sum of lengths
abbrev pub resized : ℕ → CaptureRecord → CaptureRecord
resized extra r = record {
  seconds = r.seconds;
  microseconds = r.microseconds;
  original = r.original + extra - length r.added;
  link = r.link;
  added = replicate extra 0;
  payload = r.payload;
}

unfoldable pub other_link : ℕ → ℕ
other_link link = cond (eqb link link_short) link_long link_short

-- 02, R-12: the file of the other link type; beyond the added fields only the link type and the lengths change
unfoldable pub converted : CaptureFile → CaptureFile
converted f = record {
  zone = f.zone;
  accuracy = f.accuracy;
  snap = f.snap;
  link = other_link f.link;
  records = map (resized (extra_of (other_link f.link))) f.records;
}

-- the bytes of the converted file
unfoldable pub converted_bytes : List ℕ → List ℕ
converted_bytes l = layout_file (converted (file_in l))

-- ---- Questions, in this order

-- the growth that the file check allows for: 02, R-12, an original length that would pass 32 bits
abbrev pub added_length : ℕ
added_length = 16

-- 02, R-12: 17 of the whole file; 18, record by record, after that
abbrev pub length_questions : List ℕ → List (Bool × ℕ)
length_questions l = (whole_file added_length l, 17) ∷ (every convertible (file_in l).records, 18) ∷ []

-- 02, R-12: 14 last, when the output buffer is too short
abbrev pub convert_questions : List ℕ → ℕ → List (Bool × ℕ)
convert_questions l room = length_questions l ++ (leb (length (converted_bytes l)) room, 14) ∷ []

-- ---- Answers, and the output buffer afterwards

abbrev pub length_answer : List ℕ → Result ℕ Refusal
length_answer l = after_questions (length_questions l) (λ n. Err (refusal_of n)) (Ok (length (converted_bytes l)))

abbrev pub convert_answer : List ℕ → ℕ → Result ℕ Refusal
convert_answer l room = after_questions (convert_questions l room) (λ n. Err (refusal_of n)) (Ok (length (converted_bytes l)))

-- 02, R-12: the converted file over the buffer's start; unchanged on all three
abbrev pub output_after : List ℕ → List ℕ → List ℕ
output_after l output = after_questions (convert_questions l (length output)) (λ n. output) (patch output 0 (converted_bytes l))

-- of a call of converted_length with the bytes l: it answered r
pub record Measures (l : List ℕ) (r : Result ℕ Refusal) : Type 0 where
  pub number : number_of r ≡ first_no (length_questions l)
  pub answer : r ≡ length_answer l

-- of a call of convert with the bytes l: it answered r and left output'
pub record Converts (l output : List ℕ) (r : Result ℕ Refusal) (output' : List ℕ) : Type 0 where
  pub number : number_of r ≡ first_no (convert_questions l (length output))
  pub answer : r ≡ convert_answer l (length output)
  pub after : output' ≡ output_after l output

-- ---- Writing

-- whole records, whose original lengths still fit 32 bits with `to` added bytes in place of `from`
pub record Resizable (from to : ℕ) (l : List ℕ) : Type 0 where
  pub records : Records from l
  pub limit : records.most + to ≤ 4294967295 + from
  pub small : (from ≤ 16) × (to ≤ 16)

-- the same of one record
pub record ResizableRecord (from to : ℕ) (l : List ℕ) : Type 0 where
  pub most : ℕ
  pub whole : whole_record from most l ≡ true
  pub limit : most + to ≤ 4294967295 + from
  pub small : (from ≤ 16) × (to ≤ 16)

-- the headers of the record that l starts with, resized
unfoldable pub resized_front : ℕ → ℕ → List ℕ → List ℕ
resized_front from to l =
    head (le_field 0 4 l) (le_field 4 4 l) (48 + to + delivered_at l) (original_at l + to - from) ++ take 48 (drop 16 l) ++ replicate to 0

-- the bytes of the records in l, resized
unfoldable pub resized_bytes : ℕ → ℕ → List ℕ → List ℕ
resized_bytes from to l = layout_all (map (resized to) (records_in from l))
