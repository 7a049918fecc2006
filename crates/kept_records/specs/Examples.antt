-- Compacting computed on records: writes of endpoint 3, slot 2, with an event and a request among them. Assumes nothing.
use Rattle.std.specs.Prelude.{ℕ, zero, suc, ◌+◌, false, ◌≡◌, refl, List, [], ◌∷◌, ◌++◌, map, take, drop}
use Rattle.trb.specs.declared.CompletionCode.TheVariants.{Success}
use Rattle.trb.specs.declared.EndpointId.{EndpointId}
use Rattle.trb.specs.declared.SlotId.{SlotId}
use Rattle.buffers.specs.Patch.{patch}
use Rattle.call_log.specs.declared.Record.{Record}
use Rattle.call_log.specs.Records.{encode, guest_write, transfer_event, in_request}
use Rattle.kept_records.specs.Rows.{with_length}
use Rattle.kept_records.specs.Compact.{empty_write, same_endpoint_writes, goes_on, joins, joined, compacted}

abbrev endpoint : EndpointId
endpoint = record { 0 = 3 }

abbrev slot : SlotId
slot = record { 0 = 2 }

abbrev pub write : ℕ → ℕ → ℕ → Record
write address length start = guest_write address length start endpoint slot

abbrev event : Record
event = transfer_event 0x1000 0 Success false endpoint slot

abbrev request : Record
request = in_request 0x1000 1536 endpoint slot

-- the writes of n full Normals of 64 KiB, into one buffer after another
abbrev frame : ℕ → ℕ → List Record
frame zero start = []
frame (suc n) start = write (0x8000 + start) 0x10000 start ∷ frame n (start + 0x10000)

pub record Example : Type 0 where
  pub log : List Record
  pub kept : List Record

abbrev pub examples : List Example
examples =
    -- three writes that go on, the middle one of 0 bytes elsewhere
    record { log = write 0x8000 512 0 ∷ write 0x9000 0 7 ∷ write 0x8200 88 512 ∷ []; kept = write 0x8000 600 0 ∷ [] }
    -- the log of a TD of twenty Normals
    ∷ record { log = request ∷ frame 20 0 ++ event ∷ []; kept = request ∷ write 0x8000 0x140000 0 ∷ event ∷ [] }
    -- an event, and a request, between two writes
    ∷ record { log = write 0x8000 512 0 ∷ event ∷ write 0x8200 88 512 ∷ []; kept = write 0x8000 512 0 ∷ event ∷ write 0x8200 88 512 ∷ [] }
    ∷ record { log = write 0x8000 512 0 ∷ request ∷ write 0x8200 88 512 ∷ event ∷ []; kept = write 0x8000 512 0 ∷ request ∷ write 0x8200 88 512 ∷ event ∷ [] }
    -- a guest address, a data start, an endpoint and a slot that do not go on
    ∷ record { log = write 0x8000 512 0 ∷ write 0x8201 88 512 ∷ []; kept = write 0x8000 512 0 ∷ write 0x8201 88 512 ∷ [] }
    ∷ record { log = write 0x8000 512 0 ∷ write 0x8200 88 511 ∷ []; kept = write 0x8000 512 0 ∷ write 0x8200 88 511 ∷ [] }
    ∷ record {
      log = write 0x8000 512 0 ∷ guest_write 0x8200 88 512 (record { 0 = 5 }) slot ∷ [];
      kept = write 0x8000 512 0 ∷ guest_write 0x8200 88 512 (record { 0 = 5 }) slot ∷ [];
    }
    ∷ record {
      log = write 0x8000 512 0 ∷ guest_write 0x8200 88 512 endpoint (record { 0 = 1 }) ∷ [];
      kept = write 0x8000 512 0 ∷ guest_write 0x8200 88 512 endpoint (record { 0 = 1 }) ∷ [];
    }
    -- from the front: the first two have no room for more
    ∷ record {
      log = write 0 0xFFFFFF00 0 ∷ write 0xFFFFFF00 0xFF 0xFFFFFF00 ∷ write 0xFFFFFFFF 1 0xFFFFFFFF ∷ [];
      kept = write 0 0xFFFFFFFF 0 ∷ write 0xFFFFFFFF 1 0xFFFFFFFF ∷ [];
    }
    -- an end at 2 to the 64 is no address
    ∷ record {
      log = write 0xFFFFFFFFFFFFFF00 0x100 0 ∷ write 0 16 0x100 ∷ [];
      kept = write 0xFFFFFFFFFFFFFF00 0x100 0 ∷ write 0 16 0x100 ∷ [];
    }
    -- nothing, and only writes of 0 bytes
    ∷ record { log = []; kept = [] }
    ∷ record { log = write 1 0 2 ∷ write 3 0 4 ∷ []; kept = [] }
    ∷ []

abbrev pub found : Example → List (List ℕ)
found e = compacted (map encode e.log)

abbrev pub expected : Example → List (List ℕ)
expected e = map encode e.kept

pub found-expected : map found examples ≡ map expected examples
unfolding compacted empty_write joins same_endpoint_writes goes_on joined with_length patch
found-expected = refl

-- a joined row keeps the bytes that a record leaves out: here 5 to 7, 30 and 31 of the first, all 9
abbrev marked : Record → ℕ → List ℕ
marked r b = take 5 (encode r) ++ (b ∷ b ∷ b ∷ (take 22 (drop 8 (encode r)) ++ (b ∷ b ∷ [])))

pub joined-marked : compacted (marked (write 0x8000 512 0) 9 ∷ marked (write 0x8200 88 512) 7 ∷ []) ≡ marked (write 0x8000 600 0) 9 ∷ []
unfolding compacted empty_write joins same_endpoint_writes goes_on joined with_length patch
joined-marked = refl
