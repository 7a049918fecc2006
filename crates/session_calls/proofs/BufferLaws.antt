-- The buffers of a script stay what they are. Assumes nothing.
use mathlib.Core.Path.{refl, ◌∙◌}
use Rattle.session.specs.declared.LentBuffers.{LentBuffers}
use Rattle.session_calls.specs.Buffers.{SameBuffers}

pub same_none : (b : LentBuffers) → SameBuffers b b
same_none b = record {
  log = refl;
  collect = refl;
  given = refl;
  low = refl;
  high = refl;
  log_length = refl;
  collect_length = refl;
  low_length = refl;
  high_length = refl;
}

pub same_on : {a b c : LentBuffers} → SameBuffers a b → SameBuffers b c → SameBuffers a c
same_on s t = record {
  log = t.log ∙ s.log;
  collect = t.collect ∙ s.collect;
  given = t.given ∙ s.given;
  low = t.low ∙ s.low;
  high = t.high ∙ s.high;
  log_length = t.log_length ∙ s.log_length;
  collect_length = t.collect_length ∙ s.collect_length;
  low_length = t.low_length ∙ s.low_length;
  high_length = t.high_length ∙ s.high_length;
}
