-- `capture_survey::survey_file` meets its contract: the header's answer, and then what is found of the records behind it. Assumes nothing.
use Rattle.std.proofs.Common.{◌≡◌, Some, None, arith}
use Rattle.capture_file.proofs.ReadingLaws.{part-from}
use Rattle.capture_file.proofs.SurveyLaws.{survey-headless, survey-headed}
use Rattle.capture_survey.proofs.survey_file.Goals as goal

pub returns-in_err-link : goal.returns-in_err-link
returns-in_err-link c =
    let none : c.link_in.result ≡ None = grind arith in
    let no : c.from_residual.result ≡ None = grind arith in
    rw no (survey-headless c.args.growth c.args.src.now (rw none at c.link_in.ensures))

pub returns : goal.returns
returns c =
    let is : c.link_in.result ≡ Some c.in_ok-link.link = grind arith in
    let head = rw is at c.link_in.ensures in
    rw (
      ← survey-headed c.args.growth c.args.src.now head.whole,
      ← head.linked,
      ← c.extra.ensures.0,
      ← c.most.ensures,
      ← part-from c.args.src.now 24,
    ) c.survey_records.ensures
