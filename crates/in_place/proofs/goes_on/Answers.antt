-- `in_place::goes_on` meets its contract: behind each test one question says yes. Assumes nothing.
use mathlib.Core.Bool.{true≢false}
use mathlib.Core.Path.{sym}
use borrow.Author.Tests.{leb-true}
use Rattle.in_place.specs.InPlace.{result_of}
use Rattle.in_place.proofs.CallLaws.{none-given, goes_on}
use Rattle.in_place.proofs.goes_on.Goals as goal

pub returns-then-status-lt4 : goal.returns-then-status-lt4
returns-then-status-lt4 c = λ yes. absurd (true≢false (sym yes))

pub returns-then-not-is_sound_in : goal.returns-then-not-is_sound_in
returns-then-not-is_sound_in c = λ yes. absurd (true≢false (sym yes))

pub returns-then-log_length-lt-MIN_LOG : goal.returns-then-log_length-lt-MIN_LOG
returns-then-log_length-lt-MIN_LOG c = λ yes. absurd (true≢false (sym yes))

pub returns : goal.returns
returns c =
    λ yes.
    let s = c.args in
    goes_on s.block.now s.log_length (result_of s.status) s.data_length (c.is_sound_in.ensures c.if-not-is_sound_in.false) c.if-log_length-lt-MIN_LOG.false (leb-true _ _ yes)
    (none-given s.status c.if-status-lt4.false)
