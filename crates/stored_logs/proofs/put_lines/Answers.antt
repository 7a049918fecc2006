-- `stored_logs::put_lines` meets its contract: each way out rewrites the questions by the answers that led there. A text buffer has room for a line of
-- each record just where it has as many lines' room as there are records. Assumes nothing.
use Rattle.std.proofs.Common.{◌≡◌, ◌<◌, ◌≤◌, ◌/◌, ℕ, true, false, sym, Err, List, arith, rules, length}
use native.Mathlib.Nat.{zero-add}
use borrow.Author.Tests.{le-leb, lt-leb}
use Rattle.trb.specs.Limits.{record_length}
use Rattle.trb.specs.Questions.{first_no}
use Rattle.trb.specs.declared.Refusal.TheVariants.{BufferTooShort, MalformedLog}
use Rattle.log_check.specs.WellFormed.{well_formed}
use Rattle.log_text.specs.Widths.{max_line, lines_room}
use Rattle.stored_logs.specs.Stored.{print_questions, lines_of}
use Rattle.stored_logs.proofs.put_lines.Goals as goal

-- the questions, of a log and a text buffer
module _ (log text : List ℕ) where
  short : length text / max_line < length log / record_length → first_no (print_questions log text) ≡ 1
  unfolding first_no
  short h = rw (lt-leb (lines_room (length log)) (length text) (omega (arith, h)))

  module _ (room : length log / record_length ≤ length text / max_line) where
    malformed : well_formed log ≡ false → first_no (print_questions log text) ≡ 10
    unfolding first_no
    malformed bad = rw (le-leb (lines_room (length log)) (length text) (omega (arith, room)), bad)

    accepted : well_formed log ≡ true → first_no (print_questions log text) ≡ 0
    unfolding first_no
    accepted good = rw (le-leb (lines_room (length log)) (length text) (omega (arith, room)), good)

pub returns-in_err-ask : goal.returns-in_err-ask
returns-in_err-ask c =
    let few : length c.args.text.now / max_line < length c.args.log.now / record_length = search rules in
    let no = short c.args.log.now c.args.text.now few in
    let told : c.from_residual.result ≡ Err BufferTooShort = grind arith in
    rw told (record { number = sym no; count = simp no; after = simp no })

pub returns-in_err-check : goal.returns-in_err-check
returns-in_err-check c =
    let room : length c.args.log.now / record_length ≤ length c.args.text.now / max_line = search rules in
    let bad : well_formed c.args.log.now ≡ false = search rules in
    let no = malformed c.args.log.now c.args.text.now room bad in
    let told : c.from_residual-in_err-check.result ≡ Err MalformedLog = grind arith in
    rw told (record { number = sym no; count = simp no; after = simp no })

pub returns : goal.returns
unfolding lines_of
returns c =
    let room : length c.args.log.now / record_length ≤ length c.args.text.now / max_line = search rules in
    let good : well_formed c.args.log.now ≡ true = search rules in
    let yes = accepted c.args.log.now c.args.text.now room good in
    record { number = sym yes; count = simp (yes, c.put_lines.ensures.end, zero-add); after = simp yes (search rules) }
