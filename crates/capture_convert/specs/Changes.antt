-- 02, R-12: what converting changes, and that it changes nothing else. Assumes nothing.
use Rattle.std.specs.Prelude.{ℕ, ◌+◌, ◌≡◌, List, [], ◌∷◌, take, replicate}
use Rattle.buffers.specs.LittleEndian.{le_field}
use Rattle.capture_file.specs.Records.{CaptureRecord, captured}
use Rattle.capture_file.specs.Files.{extra_of, file_in}
use Rattle.capture_convert.specs.Converting.{other_link}

-- of a record and the converted one: times, usbmon header and delivered data are the same, the added fields are zero, and both lengths move by as much
pub record Moved (from to : ℕ) (r s : CaptureRecord) : Type 0 where
  pub seconds : s.seconds ≡ r.seconds
  pub microseconds : s.microseconds ≡ r.microseconds
  pub link : s.link ≡ r.link
  pub payload : s.payload ≡ r.payload
  pub zeros : s.added ≡ replicate to 0
  pub captured_moves : captured s + from ≡ captured r + to
  pub original_moves : s.original + from ≡ r.original + to

abbrev pub AllMoved : ℕ → ℕ → List CaptureRecord → List CaptureRecord → Type 0
AllMoved from to [] [] = Unit {0}
AllMoved from to [] (s ∷ ss) = ⊥
AllMoved from to (r ∷ rs) [] = ⊥
AllMoved from to (r ∷ rs) (s ∷ ss) = Moved from to r s × AllMoved from to rs ss

-- of the bytes of a file and of the converted one: the header is the same up to the link type (magic, version, zone, accuracy, snap length), and so is each
-- record but for what is named
pub record OnlyNamed (l m : List ℕ) : Type 0 where
  pub front : take 20 m ≡ take 20 l
  pub linked : le_field 20 4 m ≡ other_link (le_field 20 4 l)
  pub records : AllMoved (extra_of (le_field 20 4 l)) (extra_of (other_link (le_field 20 4 l))) (file_in l).records (file_in m).records
