use Rattle.std.proofs.Common.{length}
use Rattle.capture_file.proofs.SurveyLaws.{Surveying}
use Rattle.capture_survey.proofs.survey_records.Given as goal

abbrev pub invariant-loop-rest : goal.invariant-loop-rest
invariant-loop-rest l = Surveying l.extra l.most l.records l.rest l.count l.convertible l.ordered l.last.seconds l.last.microseconds

abbrev pub decreases-loop-rest : goal.decreases-loop-rest
decreases-loop-rest l = length l.rest
