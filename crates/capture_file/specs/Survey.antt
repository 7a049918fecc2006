-- What one pass over a capture file finds. Assumes nothing.
use Rattle.std.specs.Prelude.{ℕ, Bool, cond, not, ◌&&◌, List, Option, Some, None, eqb, length, get_or}
use Rattle.capture_file.specs.declared.Survey.{Survey}
use Rattle.capture_file.specs.Records.{CaptureRecord}
use Rattle.capture_file.specs.Times.{ordered_from}
use Rattle.capture_file.specs.Reading.{records_in, whole_records, every}
use Rattle.capture_file.specs.Files.{file_in, whole_file}

-- 02, R-12: a record that is not isochronous (transfer type 0) and whose added fields are zero; 18 where it is false
unfoldable pub convertible : CaptureRecord → Bool
convertible r = not (eqb (get_or r.link 9 0) 0) && every (eqb 0) r.added

-- what is found of records that are whole
unfoldable pub found : List CaptureRecord → Survey
found rs = record { convertible = every convertible rs; ordered = ordered_from 0 0 rs; records = length rs }

-- nothing is found where they are not
unfoldable pub survey_of : ℕ → ℕ → List ℕ → Option Survey
survey_of extra most l = cond (whole_records extra most l) (Some (found (records_in extra l))) None

unfoldable pub file_survey : ℕ → List ℕ → Option Survey
file_survey growth l = cond (whole_file growth l) (Some (found (file_in l).records)) None
