-- 02, R-9: what the program writes for a log. Assumes nothing.
use Rattle.std.specs.Prelude.{ℕ, ◌≤◌, Bool, cond, ◌&&◌, ◌≡◌, List, leb, length, take}
use Rattle.log_check.specs.WellFormed.{well_formed}
use Rattle.log_print.specs.LogText.{refused_text}
use Rattle.log_compact.specs.Compacting.{kept_bytes}

-- bytes of the longest log that is taken
abbrev pub max_log : ℕ
max_log = 1048576

-- a log that is malformed, or longer, is refused
unfoldable pub is_taken : List ℕ → Bool
is_taken log = leb (length log) max_log && well_formed log

-- its kept records; `refused 10` alone for one that is refused
unfoldable pub output_of : List ℕ → List ℕ
output_of log = cond (is_taken log) (kept_bytes log) refused_text

-- the buffer begins with the bytes vs, which are r
pub record Leads (vs : List ℕ) (r : ℕ) (buffer : List ℕ) : Type 0 where
  pub bytes : take r buffer ≡ vs
  pub within : r ≤ length buffer
