-- `call_captures::setting_after` meets its contract: `t` and `m` set their own, and any other call leaves all as it was. Assumes nothing.
use mathlib.Core.Path.{refl, sym}
use Rattle.call_captures.specs.Settings.{setting_after}
use Rattle.call_captures.proofs.OtherCalls.{setting_after-other}
use Rattle.call_captures.proofs.setting_after.Goals as goal

pub returns-in-Time : goal.returns-in-Time
unfolding setting_after
returns-in-Time c = rw c.in-Time.is refl

pub returns-in-Captured : goal.returns-in-Captured
unfolding setting_after
returns-in-Captured c = rw c.in-Captured.is refl

pub returns-in_default : goal.returns-in_default
returns-in_default c = sym (setting_after-other c.args.setting c.args.call c.in_default.not-Time c.in_default.not-Captured)
