-- An answer that is no refusal is a yes. Assumes nothing.
use Rattle.std.specs.Prelude.{Err, Ok}
use mathlib.Core.Path.{◌≡◌, refl}
use Rattle.trb.specs.Answers.{Answer}
use Rattle.trb.specs.declared.Refusal.{Refusal}

pub ok-if : (a : Answer) → ((r : Refusal) → a ≡ Err r → ⊥) → a ≡ Ok tt
ok-if (Ok tt) none = refl
ok-if (Err r) none = absurd (none r refl)
