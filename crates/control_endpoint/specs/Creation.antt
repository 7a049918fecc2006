-- 01, Creation of a control endpoint. Assumes nothing.
use Rattle.std.specs.Prelude.{[], ◌∷◌, ◌≡◌, ℕ, Err, Ok}
use Rattle.trb.specs.Answers.{number_of, refusal_of}
use Rattle.trb.specs.Ids.{ids_in_range}
use Rattle.trb.specs.Questions.{first_no, after_questions}
use Rattle.trb.specs.declared.EndpointId.{EndpointId}
use Rattle.trb.specs.declared.SlotId.{SlotId}
use Rattle.control_block.specs.declared.GuestRelease.{GuestRelease}
use Rattle.control_block.specs.Blocks.{fresh_block}
use Rattle.control_endpoint.specs.Returned.{Created}

-- the block handed back is fresh but for both ids 0; it has the rule asked for
abbrev pub not_created : GuestRelease → ℕ → Created
not_created release n = record { answer = Err (refusal_of n); block = fresh_block (record { 0 = 0 }) (record { 0 = 0 }) release }

-- is the endpoint id 1 to 31 and the slot id 1 to 255? 02, R-11: the block is created for one of the rules
abbrev pub creation : EndpointId → SlotId → GuestRelease → Created
creation e s release = after_questions ((ids_in_range e s, 12) ∷ []) (not_created release) (record { answer = Ok tt; block = fresh_block e s release })

-- creation returned r
pub record Creates (e : EndpointId) (s : SlotId) (release : GuestRelease) (r : Created) : Type 0 where
  pub number : number_of r.answer ≡ first_no ((ids_in_range e s, 12) ∷ [])
  pub met : r ≡ creation e s release
