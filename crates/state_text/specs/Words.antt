-- The words of a state line, as the bytes of their characters. Assumes nothing.
use Rattle.std.specs.Prelude.{ℕ, List, [], ◌∷◌}

-- the start of an IN endpoint's state line
abbrev pub in_word : List ℕ
in_word = 115 ∷ 116 ∷ 32 ∷ 105 ∷ 110 ∷ 32 ∷ []

-- the start of a control endpoint's state line
abbrev pub control_word : List ℕ
control_word = 115 ∷ 116 ∷ 32 ∷ 99 ∷ 111 ∷ 110 ∷ 116 ∷ 114 ∷ 111 ∷ 108 ∷ 32 ∷ []

-- a submission is due
abbrev pub submit_word : List ℕ
submit_word = 115 ∷ 117 ∷ 98 ∷ 109 ∷ 105 ∷ 116 ∷ []

-- collecting
abbrev pub collecting_word : List ℕ
collecting_word = 99 ∷ 111 ∷ 108 ∷ 108 ∷ 101 ∷ 99 ∷ 116 ∷ 105 ∷ 110 ∷ 103 ∷ []

-- awaits the device
abbrev pub real_word : List ℕ
real_word = 114 ∷ 101 ∷ 97 ∷ 108 ∷ []

-- awaits local completion
abbrev pub local_word : List ℕ
local_word = 108 ∷ 111 ∷ 99 ∷ 97 ∷ 108 ∷ []

-- an unsupported TRB, at the address that follows
abbrev pub unsupported_word : List ℕ
unsupported_word = 117 ∷ 110 ∷ 115 ∷ 117 ∷ 112 ∷ 112 ∷ 111 ∷ 114 ∷ 116 ∷ 101 ∷ 100 ∷ 58 ∷ []

-- ExpectSetupStageTrb
abbrev pub setup_word : List ℕ
setup_word = 115 ∷ 101 ∷ 116 ∷ 117 ∷ 112 ∷ 32 ∷ []

-- MaybeDataStageTrb
abbrev pub maybe_word : List ℕ
maybe_word = 109 ∷ 97 ∷ 121 ∷ 98 ∷ 101 ∷ 32 ∷ []

-- MoreData
abbrev pub more_word : List ℕ
more_word = 109 ∷ 111 ∷ 114 ∷ 101 ∷ 32 ∷ []

-- ExpectStatusStageTrb
abbrev pub status_word : List ℕ
status_word = 115 ∷ 116 ∷ 97 ∷ 116 ∷ 117 ∷ 115 ∷ 32 ∷ []

-- ExpectFinalEventDataTrb
abbrev pub final_word : List ℕ
final_word = 102 ∷ 105 ∷ 110 ∷ 97 ∷ 108 ∷ 32 ∷ []

-- an Unrecognized TRB, at the address that follows
abbrev pub parser_word : List ℕ
parser_word = 112 ∷ 97 ∷ 114 ∷ 115 ∷ 101 ∷ 114 ∷ 58 ∷ []

-- an unexpected TRB, at the address that follows
abbrev pub unexpected_word : List ℕ
unexpected_word = 117 ∷ 110 ∷ 101 ∷ 120 ∷ 112 ∷ 101 ∷ 99 ∷ 116 ∷ 101 ∷ 100 ∷ 58 ∷ []

-- awaits the device
abbrev pub request_word : List ℕ
request_word = 114 ∷ 101 ∷ 113 ∷ 117 ∷ 101 ∷ 115 ∷ 116 ∷ []

-- direction IN
abbrev pub direction_in : List ℕ
direction_in = 32 ∷ 105 ∷ 110 ∷ []

-- direction OUT
abbrev pub direction_out : List ℕ
direction_out = 32 ∷ 111 ∷ 117 ∷ 116 ∷ []
