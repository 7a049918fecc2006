-- 02, R-13: two captures made one, ordered by time. Assumes nothing.
use Rattle.std.specs.Prelude.{ℕ, Bool, cond, not, ◌&&◌, ◌||◌, ◌≡◌, List, [], ◌∷◌, ◌++◌, leb, ltb, eqb, length, Result, Ok, Err}
use Rattle.trb.specs.Answers.{number_of, refusal_of}
use Rattle.trb.specs.Questions.{first_no, after_questions}
use Rattle.buffers.specs.LittleEndian.{le_field}
use Rattle.buffers.specs.Patch.{patch}
use Rattle.trb.specs.declared.Refusal.{Refusal}
use Rattle.capture_file.specs.Records.{CaptureRecord, layout_all}
use Rattle.capture_file.specs.Reading.{records_in}
use Rattle.capture_file.specs.Files.{CaptureFile, layout_file, file_in, whole_file}
use Rattle.capture_file.specs.Times.{before, earlier, ordered_from}

-- x, in front of it the ys that are earlier, and behind it what `others` makes of the ys that are not
abbrev pub among : CaptureRecord → (List CaptureRecord → List CaptureRecord) → List CaptureRecord → List CaptureRecord
among x others [] = x ∷ others []
among x others (y ∷ ys) = cond (earlier y x) (y ∷ among x others ys) (x ∷ others (y ∷ ys))

-- 02, R-13: in the order of time, at equal times the first list's records first
abbrev pub merged : List CaptureRecord → List CaptureRecord → List CaptureRecord
merged [] ys = ys
merged (x ∷ xs) ys = among x (merged xs) ys

unfoldable pub larger : ℕ → ℕ → ℕ
larger x y = cond (ltb x y) y x

-- 02, R-13: the first file's header with the larger of the two snap lengths, and the records of both
unfoldable pub merged_file : CaptureFile → CaptureFile → CaptureFile
merged_file f g = record {
  zone = f.zone;
  accuracy = f.accuracy;
  snap = larger f.snap g.snap;
  link = f.link;
  records = merged f.records g.records;
}

-- the bytes of the merged file
unfoldable pub merged_file_bytes : List ℕ → List ℕ → List ℕ
merged_file_bytes a b = layout_file (merged_file (file_in a) (file_in b))

-- ---- Questions, in this order

-- no length grows: 02, R-13, R-12's file check less its 32-bit clause
abbrev pub no_growth : ℕ
no_growth = 0

-- 02, R-13: 17 of the first file, then of the second; 19 when the link types differ; 20 when either input's times go backwards
abbrev pub length_questions : List ℕ → List ℕ → List (Bool × ℕ)
length_questions a b =
    (whole_file no_growth a, 17) ∷ (whole_file no_growth b, 17) ∷ (eqb (le_field 20 4 a) (le_field 20 4 b), 19) ∷ (ordered_from 0 0 (file_in a).records, 20)
    ∷ (ordered_from 0 0 (file_in b).records, 20) ∷ []

-- 02, R-13: 14 when the result does not fit
abbrev pub merge_questions : List ℕ → List ℕ → ℕ → List (Bool × ℕ)
merge_questions a b room = length_questions a b ++ (leb (length (merged_file_bytes a b)) room, 14) ∷ []

-- ---- Answers, and the output buffer afterwards

abbrev pub length_answer : List ℕ → List ℕ → Result ℕ Refusal
length_answer a b = after_questions (length_questions a b) (λ n. Err (refusal_of n)) (Ok (length (merged_file_bytes a b)))

abbrev pub merge_answer : List ℕ → List ℕ → ℕ → Result ℕ Refusal
merge_answer a b room = after_questions (merge_questions a b room) (λ n. Err (refusal_of n)) (Ok (length (merged_file_bytes a b)))

-- 02, R-13: the merged file over the buffer's start; unchanged on each
abbrev pub output_after : List ℕ → List ℕ → List ℕ → List ℕ
output_after a b output = after_questions (merge_questions a b (length output)) (λ n. output) (patch output 0 (merged_file_bytes a b))

-- of a call of merged_length with the bytes a and b: it answered r
pub record Measures (a b : List ℕ) (r : Result ℕ Refusal) : Type 0 where
  pub number : number_of r ≡ first_no (length_questions a b)
  pub answer : r ≡ length_answer a b

-- of a call of merge with the bytes a and b: it answered r and left output'
pub record Merges (a b output : List ℕ) (r : Result ℕ Refusal) (output' : List ℕ) : Type 0 where
  pub number : number_of r ≡ first_no (merge_questions a b (length output))
  pub answer : r ≡ merge_answer a b (length output)
  pub after : output' ≡ output_after a b output

-- ---- Writing

-- of two captures' records that are left, does the second's first come next?
unfoldable pub second_next : List ℕ → List ℕ → Bool
second_next l m =
    not (eqb (length m) 0) && (eqb (length l) 0 || before (le_field 0 4 m) (le_field 4 4 m) (le_field 0 4 l) (le_field 4 4 l))

-- the bytes of the records in l and m, merged
unfoldable pub merged_bytes : ℕ → List ℕ → List ℕ → List ℕ
merged_bytes extra l m = layout_all (merged (records_in extra l) (records_in extra m))
