-- Inputs that were read into a buffer. Assumes nothing.
use Rattle.std.proofs.Common.{◌≡◌, ℕ, ◌≤◌, ◌<◌, List, ◌++◌, length, Option, None, Some, inl, inr, sym, ap, ◌∙◌, subst, append-nil}
use Rattle.std.proofs.lemmas.Bool.{cases_lt}
use Rattle.std.specs.Io.KnownBytes.{Appends, Consumes, IsAtEnd}
use Rattle.input_bytes.specs.Outputs.{WritesFor}

-- where what stands behind `size` bytes or more does not matter to f, what was written for those that were read was written for the input
module _ (f : List ℕ → List ℕ) (size : ℕ) (longer : (l rest : List ℕ) → size ≤ length l → f (l ++ rest) ≡ f l) where
  pub writes-for : (a b : Option (List ℕ)) (l : List ℕ) → Consumes a b l → (length l < size → IsAtEnd b) → (old new : Option (List ℕ)) → Appends old new (f l)
      → WritesFor f a old new
  writes-for None b l read ended old new written = tt
  writes-for (Some x) None l read ended old new written = absurd read
  writes-for (Some x) (Some rest) l read ended old new written = subst (Appends old new) (sym (ap f read ∙ same)) written
    where
      same : f (l ++ rest) ≡ f l
      same = elim (cases_lt (length l) size) [ inl short ↦ ap f (ap (λ r. l ++ r) (ended short) ∙ append-nil l) | inr long ↦ longer l rest long ]
