-- What a function that writes text asks and promises. Assumes nothing.
use Rattle.std.specs.Prelude.{ℕ, ◌+◌, ◌≤◌, ◌≡◌, List, length}
use Rattle.buffers.specs.Patch.{patch}
use Rattle.text.specs.declared.Text.{Text}

-- the buffer has room for so many bytes more
abbrev pub HasRoom : ℕ → Text → Type 0
HasRoom most t = t.end + most ≤ length t.bytes.now

-- the text t became t': the bytes vs, at most so many, stand behind what was written, in the same buffer
pub record Wrote (most : ℕ) (t : Text) (vs : List ℕ) (t' : Text) : Type 0 where
  pub bytes : t'.bytes.now ≡ patch t.bytes.now t.end vs
  pub end : t'.end ≡ t.end + length vs
  pub within : length vs ≤ most
  pub size : length t'.bytes.now ≡ length t.bytes.now
  pub fits : t'.end ≤ length t'.bytes.now
  pub same : t'.bytes.ghost_name ≡ t.bytes.ghost_name
