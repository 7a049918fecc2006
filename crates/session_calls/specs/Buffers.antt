-- The buffers of a script, from call to call. Assumes nothing.
use Rattle.std.specs.Prelude.{◌≡◌, length}
use Rattle.session.specs.declared.LentBuffers.{LentBuffers}

-- the same slices, each as long as it was, whatever lies there now; the device has the same data
pub record SameBuffers (b b' : LentBuffers) : Type 0 where
  pub log : b'.log.ghost_name ≡ b.log.ghost_name
  pub collect : b'.collect.ghost_name ≡ b.collect.ghost_name
  pub given : b'.«data».now ≡ b.«data».now
  pub low : b'.low.ghost_name ≡ b.low.ghost_name
  pub high : b'.high.ghost_name ≡ b.high.ghost_name
  pub log_length : length b'.log.now ≡ length b.log.now
  pub collect_length : length b'.collect.now ≡ length b.collect.now
  pub low_length : length b'.low.now ≡ length b.low.now
  pub high_length : length b'.high.now ≡ length b.high.now
