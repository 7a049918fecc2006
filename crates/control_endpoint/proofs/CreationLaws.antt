-- What creation comes to, by whether the ids are in range. Assumes nothing.
use Rattle.std.specs.Prelude.{Err, Ok}
use mathlib.Core.Path.{◌≡◌}
use mathlib.Core.Bool.{true, false}
use Rattle.trb.specs.Answers.{refusal_of}
use Rattle.trb.specs.Ids.{ids_in_range}
use Rattle.trb.specs.Questions.{first_no}
use Rattle.trb.specs.declared.EndpointId.{EndpointId}
use Rattle.trb.specs.declared.Refusal.TheVariants.{IdOutOfRange}
use Rattle.trb.specs.declared.SlotId.{SlotId}
use Rattle.control_block.specs.declared.GuestRelease.{GuestRelease}
use Rattle.control_block.specs.Blocks.{fresh_block}
use Rattle.control_endpoint.specs.Creation.{Creates}

module _ (e : EndpointId) (s : SlotId) (release : GuestRelease) where
  pub creates : ids_in_range e s ≡ true → Creates e s release (record { answer = Ok tt; block = fresh_block e s release })
  unfolding first_no
  creates ids = record { number = rw ids; met = rw ids }

  pub creates-not : ids_in_range e s ≡ false → Creates e s release (record { answer = Err IdOutOfRange; block = fresh_block (record { 0 = 0 }) (record { 0 = 0 }) release })
  unfolding first_no refusal_of
  creates-not ids = record { number = rw ids; met = rw ids }
