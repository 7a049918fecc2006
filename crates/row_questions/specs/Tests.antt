-- What one loop over a row finds, and the questions over it. `QuestionLaws` proves that these are the questions of the row. Assumes nothing.
use Rattle.std.specs.Prelude.{ℕ, ◌+◌, Bool, true, false, not, cond, ◌&&◌, ◌||◌, List, [], ◌∷◌, leb, eqb, get_or, Err, Ok}
use Rattle.trb.specs.Answers.{number_of, is_accepted, refusal_of}
use Rattle.trb.specs.Limits.{max_data, max_row, min_row_log}
use Rattle.trb.specs.Questions.{after_questions}
use Rattle.trb.specs.Trbs.{chain_of}
use Rattle.trb.specs.Answers.{Answer}
use Rattle.trb.specs.declared.TransferTrb.{TransferTrb}
use Rattle.guest_memory.specs.declared.Regions.{Regions}
use Rattle.guest_memory.specs.Regions.{share_an_address}
use Rattle.in_td.specs.Td.{is_normal}
use Rattle.in_block.specs.Facts.{sound_block}
use Rattle.in_block.specs.declared.BlockFacts.{BlockFacts}
use Rattle.in_questions.specs.Questions.{trb_questions}
use Rattle.row_walk.specs.declared.TdResult.{TdResult}
use Rattle.row_walk.specs.Rows.{past_results}
use Rattle.row_questions.specs.declared.RowTest.{RowTest}
use Rattle.row_questions.specs.Questions.{in_supported, may_be_given, row_due}

-- the answer to these questions
unfoldable pub answered : List (Bool × ℕ) → Answer
answered qs = after_questions qs (λ n. Err (refusal_of n)) (Ok tt)

-- a no that was found before stands
abbrev pub asked_also : Answer → List (Bool × ℕ) → Answer
asked_also (Ok tt) qs = answered qs
asked_also (Err r) qs = Err r

-- before the first TRB
abbrev pub untested : RowTest
untested = record { asked = Ok tt; held = 0; supported = true; tds = 0; has_normal = false; given_rightly = true; given = 0 }

-- with one TRB more, and the result of the TD that it ends, if it ends one
abbrev pub tested_trb : Regions → RowTest → TransferTrb → TdResult → RowTest
tested_trb regions a t r = record {
  asked = asked_also a.asked (trb_questions a.held t.variant regions);
  held = cond (chain_of t.variant) (a.held + 1) 0;
  supported = a.supported && in_supported t;
  tds = cond (chain_of t.variant) a.tds (a.tds + 1);
  has_normal = cond (chain_of t.variant) (a.has_normal || is_normal t.variant) false;
  given_rightly = cond (chain_of t.variant) a.given_rightly (a.given_rightly && may_be_given (a.has_normal || is_normal t.variant) r);
  given = cond (chain_of t.variant) a.given (a.given + r.length);
}

unfoldable pub tested_row : Regions → List TdResult → RowTest → List TransferTrb → RowTest
tested_row regions rs a [] = a
tested_row regions rs a (t ∷ ts) = tested_row regions rs (tested_trb regions a t (get_or rs a.tds past_results)) ts

-- question 15, by what was found of k TRBs, with m results and n bytes of data
abbrev pub shaped_as : ℕ → RowTest → ℕ → ℕ → Bool
shaped_as k a m n = leb k max_row && (a.supported && (eqb a.held 0 && (eqb a.tds m && (eqb a.given n && a.given_rightly))))

-- every question, by what was found
unfoldable pub asked_as : ℕ → Regions → BlockFacts → ℕ → RowTest → ℕ → ℕ → List (Bool × ℕ)
asked_as l regions f k a m n =
    (leb min_row_log l, 1)
    ∷ (not (share_an_address regions), 13)
    ∷ (sound_block f, 2)
    ∷ (row_due f, 3)
    ∷ (shaped_as k a m n, 15)
    ∷ (is_accepted a.asked, number_of a.asked)
    ∷ (leb n max_data, 9)
    ∷ []
