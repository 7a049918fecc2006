-- An Option that is no Some is None. Assumes nothing.
use Rattle.std.proofs.Common.{◌≡◌, Option, None, Some, refl}

pub on-none : {A : Type 0} (o : Option A) → ((x : A) → o ≡ Some x → ⊥) → o ≡ None
on-none None none = refl
on-none (Some x) none = absurd (none x refl)
