-- What a call over capture files answers: the length of the file made, or a refusal. Assumes nothing.
use Rattle.std.specs.Prelude.{ℕ, Result, Ok, Err}
use Rattle.trb.specs.declared.Refusal.{Refusal}

-- the length that an answer gives: that of the file made, or 0
abbrev pub capture_length : Result ℕ Refusal → ℕ
capture_length (Ok n) = n
capture_length (Err r) = 0
