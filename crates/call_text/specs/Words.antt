-- The words of an answer, as the bytes of their characters. Assumes nothing.
use Rattle.std.specs.Prelude.{ℕ, List, [], ◌∷◌}

-- `no` and a space
abbrev pub refused_word : List ℕ
refused_word = 110 ∷ 111 ∷ 32 ∷ []

-- `ok` and a space
abbrev pub accepted_word : List ℕ
accepted_word = 111 ∷ 107 ∷ 32 ∷ []

-- three fields of `-` and a line feed
abbrev pub no_result : List ℕ
no_result = 32 ∷ 45 ∷ 32 ∷ 45 ∷ 32 ∷ 45 ∷ 10 ∷ []

-- two fields of `-`
abbrev pub no_address : List ℕ
no_address = 32 ∷ 45 ∷ 32 ∷ 45 ∷ []

-- cycle bit 1
abbrev pub cycle_on : List ℕ
cycle_on = 32 ∷ 49 ∷ []

-- cycle bit 0
abbrev pub cycle_off : List ℕ
cycle_off = 32 ∷ 48 ∷ []

-- result Ok
abbrev pub ok_word : List ℕ
ok_word = 32 ∷ 111 ∷ 107 ∷ []

-- result Stall
abbrev pub stall_word : List ℕ
stall_word = 32 ∷ 115 ∷ 116 ∷ 97 ∷ 108 ∷ 108 ∷ []

-- result TrbError
abbrev pub trb_word : List ℕ
trb_word = 32 ∷ 116 ∷ 114 ∷ 98 ∷ []

-- result TransactionError
abbrev pub transaction_word : List ℕ
transaction_word = 32 ∷ 116 ∷ 114 ∷ 97 ∷ 110 ∷ 115 ∷ 97 ∷ 99 ∷ 116 ∷ 105 ∷ 111 ∷ 110 ∷ []

-- result Disconnect
abbrev pub disconnect_word : List ℕ
disconnect_word = 32 ∷ 100 ∷ 105 ∷ 115 ∷ 99 ∷ 111 ∷ 110 ∷ 110 ∷ 101 ∷ 99 ∷ 116 ∷ []

-- `out` and a space
abbrev pub carried_out_word : List ℕ
carried_out_word = 111 ∷ 117 ∷ 116 ∷ 32 ∷ []
