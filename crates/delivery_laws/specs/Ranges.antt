-- Where the writes of a TD go, told by the TRBs held. Assumes nothing.
use Rattle.std.specs.Prelude.{ℕ, ◌-◌, min, Bool, true, ◌&&◌, ◌≡◌, List, [], ◌∷◌}
use Rattle.std.proofs.Math.Option.{Option, none, some}
use Rattle.trb.specs.declared.NormalTrb.{NormalTrb}
use Rattle.trb.specs.declared.TransferTrb.{TransferTrb}
use Rattle.walks.specs.All.{all}
use Rattle.guest_memory.specs.declared.Regions.{Regions}
use Rattle.guest_memory.specs.Places.{range_inside}
use Rattle.in_td.specs.Normals.{normal_of, normal_length}
use Rattle.in_request.specs.Requests.{in_guest_memory}

-- every Normal's range lies in one of the regions, as question 6 asks of each TRB that is submitted
abbrev pub InRegions : Regions → List TransferTrb → Type 0
InRegions regions ts = all (λ (t : TransferTrb). in_guest_memory t.variant regions) ts ≡ true

-- where a Normal's range starts; any other TRB has the empty one at 0
abbrev pub pointer_of : Option NormalTrb → ℕ
pointer_of none = 0
pointer_of (some t) = t.data_pointer

-- 01, IN endpoint: each Normal writes min(its length, bytes left); does this range lie in one of the regions?
abbrev pub write_inside : Regions → ℕ → Option NormalTrb → Bool
write_inside regions left none = true
write_inside regions left (some t) = range_inside regions t.data_pointer (min t.transfer_length left)

-- of a TD with so many bytes left, does every write?
abbrev pub writes_inside : Regions → ℕ → List TransferTrb → Bool
writes_inside regions left [] = true
writes_inside regions left (t ∷ ts) = write_inside regions left (normal_of t.variant) && writes_inside regions (left - normal_length t) ts
