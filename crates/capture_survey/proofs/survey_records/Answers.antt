-- `capture_survey::survey_records` meets its contract. The loop's invariant: what was found so far, with what the records left give, is what all of them give. A
-- record that is not whole ends the pass. Assumes nothing.
use Rattle.std.proofs.Common.{◌≡◌, ◌∙◌, Bool, ◌&&◌, not, sym, ap, refl, arith, rules, tests}
use Rattle.buffers.specs.LittleEndian.{le_field}
use Rattle.capture_file.specs.Times.{before}
use Rattle.capture_file.specs.declared.CaptureTime.{CaptureTime}
use Rattle.capture_file.proofs.SurveyLaws.{survey-broken, survey-step, survey-ends}
use Rattle.capture_survey.proofs.survey_records.Goals.{After-le-ordered}
use Rattle.capture_survey.proofs.survey_records.Goals as goal

pub returns-then-not-whole_record : goal.returns-then-not-whole_record
returns-then-not-whole_record c =
    survey-broken c.loop-rest.invariant (grind arith) (sym c.whole_record.ensures.answer ∙ c.if-not-whole_record.true)

-- a time that is not before the last one
not-before : (c : After-le-ordered) → c.le-ordered.result ≡ not (before (le_field 0 4 c.loop-rest.rest.now) (le_field 4 4 c.loop-rest.rest.now) c.loop-rest.last.seconds c.loop-rest.last.microseconds)
unfolding before
not-before c = let said = rw c.time_at-time.ensures at c.le-ordered.ensures in search (rules, tests)

pub loop-rest-preserved : goal.loop-rest-preserved
loop-rest-preserved c =
    rw c.split_record.ensures.left
    (survey-step c.loop-rest.invariant (grind arith) (sym c.whole_record.ensures.answer ∙ c.if-not-whole_record.false)
    refl
    (ap (λ (b : Bool). c.loop-rest.convertible && b) c.is_convertible-convertible.ensures)
    (ap (λ (b : Bool). c.loop-rest.ordered && b) (not-before (goal.at.loop-rest-preserved c).After-le-ordered))
    (ap (λ (t : CaptureTime). t.seconds) c.time_at-time.ensures)
    (ap (λ (t : CaptureTime). t.microseconds) c.time_at-time.ensures))

pub returns : goal.returns
returns c = survey-ends c.loop-rest.invariant (grind arith)
