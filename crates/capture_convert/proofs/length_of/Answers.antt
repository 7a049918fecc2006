-- `capture_convert::length_of` meets its contract: what the pass over the records found answers both questions, and its number of records gives the length.
-- Assumes nothing.
use Rattle.std.proofs.Common.{◌≡◌, ◌∙◌, Ok, Err, true, false, length, sym, ap, arith, rules}
use Rattle.trb.specs.Answers.{refusal_of}
use Rattle.trb.specs.Questions.{first_no}
use Rattle.trb.specs.declared.Refusal.TheVariants.{NotACapture, NotConvertible}
use Rattle.capture_file.specs.Files.{whole_file}
use Rattle.capture_file.proofs.SurveyLaws.{Surveyed, survey-none, survey-some, few-records}
use Rattle.capture_convert.specs.Converting.{added_length, converted_bytes}
use Rattle.capture_convert.proofs.ConvertingLaws.{length-moves}
use Rattle.capture_convert.proofs.length_of.Goals.{In_ok-survey}
use Rattle.capture_convert.proofs.length_of.Goals as goal

-- what was found of a whole file
found : (c : In_ok-survey) → Surveyed added_length c.args.src.now c.in_ok-survey.survey
found c = survey-some added_length _ _ (grind arith)

pub returns-in_err-survey : goal.returns-in_err-survey
unfolding first_no refusal_of
returns-in_err-survey c =
    let no : whole_file added_length c.args.src.now ≡ false = survey-none added_length _ (grind arith) in
    let refused : c.from_residual.result ≡ Err NotACapture = grind arith in
    rw refused (record { number = rw no; answer = rw no })

pub returns-in_err-ask : goal.returns-in_err-ask
unfolding first_no refusal_of
returns-in_err-ask c =
    let s = found (goal.at.returns-in_err-ask c).In_ok-survey in
    let asked : c.in_ok-survey.survey.convertible ≡ false = search rules in
    let no = sym s.convertible ∙ asked in
    let refused : c.from_residual-in_err-ask.result ≡ Err NotConvertible = grind arith in
    rw refused (record { number = rw (s.whole, no); answer = rw (s.whole, no) })

pub resized_length-requires : goal.resized_length-requires
resized_length-requires c =
    let s = found (goal.at.resized_length-requires c).In_ok-survey in
    (search rules, omega (arith, s.count, few-records added_length _ s.whole))

pub returns : goal.returns
unfolding first_no
returns c =
    let s = found (goal.at.returns c).In_ok-survey in
    let l = c.args.src.now in
    let asked : c.in_ok-survey.survey.convertible ≡ true = search rules in
    let plain = sym s.convertible ∙ asked in
    let moved = rw (s.count, c.requires.linked) at c.resized_length.ensures in
    let size : c.resized_length.result ≡ length (converted_bytes l) = omega (arith, moved, length-moves l s.whole) in
    record { number = rw (s.whole, plain); answer = rw (s.whole, plain) (ap Ok size) }
