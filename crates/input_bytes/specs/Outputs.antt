-- What a program writes for its input. Assumes nothing.
use Rattle.std.specs.Prelude.{ℕ, List, Option, IfSome}
use Rattle.std.specs.Io.KnownBytes.{Appends}

-- for an input whose bytes l are known, f l was added to what was written
abbrev pub WritesFor : (List ℕ → List ℕ) → Option (List ℕ) → Option (List ℕ) → Option (List ℕ) → Type 0
WritesFor f input old new = IfSome input (λ l. Appends old new (f l))
